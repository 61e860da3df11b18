-- The tree of a made source, with the line of each statement and of each function.
use Rattle.std.specs.Prelude.{ℕ, zero, suc, ◌+◌, ◌-◌, ◌*◌, min, pos, [], ◌∷◌, ◌++◌, None, codes}
use Rattle.std.specs.Fmt.{decimal}
use Rattle.std.specs.Int.{div_ceil}
use Rattle.par_tree.specs.Tree.{Name, num, get, unused, Stmt, alloc_stmt, put_stmt, print_stmt, free_stmt, par_stmt, call_stmt, Body, done, step, Func, Program}
use Rattle.par_ownership.specs.Ownership.{main_name}
use Rattle.made_source.specs.MadeSource.{left_length, right_length}

-- the names of the blocks in the two branches of a group
abbrev pub left_block : Name
left_block = codes "a"

abbrev pub right_block : Name
right_block = codes "b"

-- a branch of group i: a block of this name and length is allocated, its first number is set to i and printed, and the block is freed
abbrev pub branch_body : Name → ℕ → ℕ → ℕ → Body
branch_body name length i line =
    step line (alloc_stmt name (num (pos length)))
    (step line (put_stmt name (num (pos 0)) (num (pos i)))
    (step line (print_stmt (get name (num (pos 0))))
    (step line (free_stmt name) done)))

-- group i: two branches side by side
abbrev pub group : ℕ → ℕ → Stmt
group i line = par_stmt (branch_body left_block (left_length i) i line) (branch_body right_block (right_length i) i line)

-- function j has this name, and is called so
abbrev pub function_name : ℕ → Name
function_name j = codes "g" ++ decimal j

abbrev pub call : ℕ → ℕ → Stmt
call j line = call_stmt unused (function_name j) []

-- the statements of so many numbers from i on, each on a line of its own; this is the first line
abbrev pub one_a_line : (ℕ → ℕ → Stmt) → ℕ → ℕ → ℕ → Body
one_a_line stmt i zero line = done
one_a_line stmt i (suc count) line = step line (stmt i line) (one_a_line stmt (i + 1) count (line + 1))

-- how many of n groups function j has
abbrev pub groups_of : ℕ → ℕ → ℕ
groups_of n j = min 64 (n - 64 * j)

-- function j of n groups, which begins at a line
abbrev pub made_function : ℕ → ℕ → ℕ → Func
made_function n j line = record {
  name = function_name j;
  params = [];
  body = one_a_line group (64 * j) (groups_of n j) (line + 1);
  ret = None;
  line = line;
}

-- `main`, which begins at a line and calls so many functions
abbrev pub made_main : ℕ → ℕ → Func
made_main functions line = record { name = main_name; params = []; body = one_a_line call 0 functions (line + 1); ret = None; line = line }

-- Of n groups so many functions from j on, which begin at a line, and then `main`, which calls all functions. A function has a line for
-- its head, one for each group, and one for its last brace.
abbrev pub functions_from : ℕ → ℕ → ℕ → ℕ → ℕ → Program
functions_from n functions j zero line = made_main functions line ∷ []
functions_from n functions j (suc count) line =
    made_function n j line ∷ functions_from n functions (j + 1) count (line + 1 + groups_of n j + 1)

-- how many functions hold n groups
abbrev pub function_count : ℕ → ℕ
function_count n = div_ceil n 64

-- the program of the made source of n groups
abbrev pub made_program : ℕ → Program
made_program n = functions_from n (function_count n) 0 (function_count n) 1
