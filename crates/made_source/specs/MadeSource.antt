-- The text of the made source of so many groups.
use Rattle.std.specs.Prelude.{ℕ, ◌+◌, ◌-◌, ◌*◌, ◌%◌, min, List, [], ◌∷◌, ◌++◌, map, codes}
use Rattle.std.specs.Fmt.{decimal}
use Rattle.std.specs.Int.{div_ceil}
use Rattle.std.specs.List.{flat_map, range_with_len}

-- a line, ended by LF
abbrev pub line : List ℕ → List ℕ
line bytes = bytes ++ 10 ∷ []

-- the text of some lines
abbrev pub text_of : List (List ℕ) → List ℕ
text_of lines = flat_map line lines

-- the lengths of the two blocks of group i, from 1 to 400
abbrev pub left_length : ℕ → ℕ
left_length i = 1 + (37 * i) % 400

abbrev pub right_length : ℕ → ℕ
right_length i = 1 + (53 * i) % 400

-- a branch of group i: a block of this name and length is allocated, its first number is set to i and printed, and the block is freed
unfoldable pub branch : List ℕ → ℕ → ℕ → List ℕ
branch name length i =
    (codes "{ alloc " ++ name ++ codes " = " ++ decimal length ++ codes "; ") ++
    (name ++ codes "[0] = " ++ decimal i ++ codes "; ") ++
    (codes "print " ++ name ++ codes "[0]; free " ++ name ++ codes "; }")

-- group i: two branches side by side
unfoldable pub group_line : ℕ → List ℕ
group_line i = codes "par " ++ branch (codes "a") (left_length i) i ++ codes " and " ++ branch (codes "b") (right_length i) i

-- the groups of function j: 64 * j to 64 * j + 63, as far as there are such among n groups
abbrev pub groups_in : ℕ → ℕ → List ℕ
groups_in n j = range_with_len (64 * j) (min 64 (n - 64 * j))

-- function j of n groups
unfoldable pub function_lines : ℕ → ℕ → List (List ℕ)
function_lines n j = (codes "fn g" ++ decimal j ++ codes "() {") ∷ map group_line (groups_in n j) ++ codes "}" ∷ []

-- the functions that hold n groups
abbrev pub functions_for : ℕ → List ℕ
functions_for n = range_with_len 0 (div_ceil n 64)

-- the call of function j
abbrev pub call_line : ℕ → List ℕ
call_line j = codes "call g" ++ decimal j ++ codes "();"

-- `main` calls each of the functions once, in order
unfoldable pub main_lines : List ℕ → List (List ℕ)
main_lines functions = codes "fn main() {" ∷ map call_line functions ++ codes "}" ∷ []

-- the functions in order, and `main` behind them
abbrev pub made_source : ℕ → List ℕ
made_source n = text_of (flat_map (function_lines n) (functions_for n) ++ main_lines (functions_for n))
