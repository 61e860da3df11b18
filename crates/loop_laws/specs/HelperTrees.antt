-- The helpers, the functions that stand for loops, as trees. Each stands on one line of a text.
use Rattle.std.specs.Prelude.{ℕ, zero, suc, pos, List, [], ◌∷◌, ◌++◌, map, Some, codes}
use Rattle.std.specs.Fmt.{decimal}
use Rattle.par_tree.specs.Tree.{Name, Expr, num, var, len_of, chain, link, last, cmp, plus, minus, times, over, equal, above, at_most, integer, Arg, value, lend, Stmt, let_stmt, assign_stmt, if_stmt, call_stmt, par_stmt, split_stmt, Body, done, step, by_value, lent, Param, Func, gives}

-- the names of the further numbers: `ck`, and all from c1 to ck
abbrev pub further_name : ℕ → Name
further_name k = codes "c" ++ decimal k

abbrev pub further_names : ℕ → List Name
further_names zero = []
further_names (suc k) = further_names k ++ further_name (suc k) ∷ []

-- a parameter that takes an integer, and an argument that passes the integer of a name on
abbrev pub integer_param : Name → Param
integer_param x = record { name = x; kind = by_value }

abbrev pub pass_on : Name → Arg
pass_on x = value (var x)

-- the arguments that pass the further numbers on
abbrev pub further_arguments : ℕ → List Arg
further_arguments k = map pass_on (further_names k)

-- the names in the helper of a loop over numbers: the first number, and how many there are; the sum of all answers; the
-- number of those in the first half, and the sum of the answers for the rest
abbrev pub low_name : Name
low_name = codes "lo"

abbrev pub count_name : Name
count_name = codes "n"

abbrev pub sum_of_all : Name
sum_of_all = codes "s"

abbrev pub half_name : Name
half_name = codes "h"

abbrev pub sum_of_rest : Name
sum_of_rest = codes "t"

-- the body of one statement, on this line; the sum and the difference of two expressions
abbrev pub alone : ℕ → Stmt → Body
alone line stmt = step line stmt done

abbrev pub sum_with : Expr → Expr → Expr
sum_with e f = chain e (link plus f last)

abbrev pub difference : Expr → Expr → Expr
difference e f = chain e (link minus f last)

-- `call x = f(ARGUMENTS, c1, .., ck);`
abbrev pub call_of : Name → Name → ℕ → List Arg → Stmt
call_of x f k arguments = call_stmt (integer x) f (arguments ++ further_arguments k)

-- `s = s + t;`
abbrev pub add_rest : Stmt
add_rest = assign_stmt sum_of_all (sum_with (var sum_of_all) (var sum_of_rest))

-- for more than one number: the helper is called for the first half of them in a child, and for the rest beside it, and both
-- sums are added
abbrev pub both_halves : Name → ℕ → ℕ → Body
both_halves sum k line =
    step line (let_stmt half_name (chain (var count_name) (link over (num (pos 2)) last)))
    (step line (let_stmt sum_of_rest (num (pos 0)))
    (step line (par_stmt
    (alone line (call_of sum_of_all sum k (pass_on low_name ∷ pass_on half_name ∷ [])))
    (alone line (call_of sum_of_rest sum k
    (value (sum_with (var low_name) (var half_name)) ∷ value (difference (var count_name) (var half_name)) ∷ []))))
    (alone line add_rest)))

-- for one number the function is called; for more, the helper for both halves; for none the sum is 0
abbrev pub numbers_body : (sum f : Name) → ℕ → ℕ → Body
numbers_body sum f k line =
    step line (let_stmt sum_of_all (num (pos 0)))
    (alone line (if_stmt (cmp equal (var count_name) (num (pos 1)))
    (alone line (call_of sum_of_all f k (pass_on low_name ∷ [])))
    (alone line (if_stmt (cmp above (var count_name) (num (pos 1))) (both_halves sum k line) done))))

-- The helper of a loop over numbers: `fn sum(lo, n, c1, .., ck) { .. return s; }`
abbrev pub numbers_helper : (sum f : Name) → ℕ → ℕ → Func
numbers_helper sum f k line = record {
  name = sum;
  params = map integer_param (low_name ∷ count_name ∷ further_names k);
  body = numbers_body sum f k line;
  ret = Some (record { line = line; value = gives (var sum_of_all) });
  line = line;
}

-- the names in the helper of a loop over the parts of a block, besides those above: the block, and its halves
abbrev pub block_name : Name
block_name = codes "b"

abbrev pub left_name : Name
left_name = codes "l"

abbrev pub right_name : Name
right_name = codes "r"

-- `(n / 2 + 15) / 16 * 16`: half of the words, rounded up to a multiple of 16
abbrev pub half_in_pieces : Expr
half_in_pieces =
    chain (sum_with (chain (var count_name) (link over (num (pos 2)) last)) (num (pos 15)))
    (link over (num (pos 16)) (link times (num (pos 16)) last))

-- for more words than a part may have: the helper is called on the left half of the block in a child, and on the right half
-- beside it, and both sums are added
abbrev pub both_halves_of_block : Name → ℕ → ℕ → Body
both_halves_of_block sum k line =
    step line (let_stmt half_name half_in_pieces)
    (step line (let_stmt sum_of_rest (num (pos 0)))
    (step line (split_stmt block_name (var half_name) left_name right_name
    (alone line (par_stmt
    (alone line (call_of sum_of_all sum k (lend left_name ∷ [])))
    (alone line (call_of sum_of_rest sum k (lend right_name ∷ []))))))
    (alone line add_rest)))

-- for at most this many words the function is called; for more, the helper on both halves
abbrev pub parts_body : (sum f : Name) → ℕ → ℕ → ℕ → Body
parts_body sum f most k line =
    step line (let_stmt count_name (len_of block_name))
    (step line (let_stmt sum_of_all (num (pos 0)))
    (alone line (if_stmt (cmp at_most (var count_name) (num (pos most)))
    (alone line (call_of sum_of_all f k (lend block_name ∷ [])))
    (both_halves_of_block sum k line))))

-- The helper of a loop over the parts of a block, of at most so many words each: `fn sum(use b, c1, .., ck) { .. return s; }`
abbrev pub parts_helper : (sum f : Name) → ℕ → ℕ → ℕ → Func
parts_helper sum f most k line = record {
  name = sum;
  params = record { name = block_name; kind = lent } ∷ map integer_param (further_names k);
  body = parts_body sum f most k line;
  ret = Some (record { line = line; value = gives (var sum_of_all) });
  line = line;
}
