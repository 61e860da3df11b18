-- A made source is no longer than a text may be.
use Rattle.std.proofs.Common.{◌≡◌, ℕ, zero, suc, ◌+◌, ◌-◌, ◌*◌, ◌<◌, ◌≤◌, min, List, [], ◌∷◌, ◌++◌, length, map, mul-suc, ap, ◌∙◌, refl, arith}
use Rattle.std.specs.Prelude.{codes}
use Rattle.std.specs.Fmt.{decimal}
use Rattle.std.specs.Int.{div_ceil}
use Rattle.std.specs.List.{flat_map, range_with_len}
use Rattle.std.proofs.lemmas.Fmt.{length-decimal-le}
use Rattle.std.proofs.lemmas.Grind.{flat_map-append, div_ceil_times}
use Rattle.std.proofs.lemmas.List.{length-append}
use Rattle.language_limits.specs.declared.TheConstants.{LONGEST_TEXT, MOST_GROUPS}
use Rattle.made_source.specs.MadeSource.{line, text_of, left_length, right_length, branch, group_line, groups_in, function_lines, functions_for, call_line, main_lines, made_source}

branch_short : (name : List ℕ) (size i : ℕ) → length name ≡ 1 → size < 1000 → i < 10000 → length (branch name size i) ≤ 51
unfolding branch
branch_short name size i one small low =
    let digits = length-decimal-le 3 size (omega arith) (omega arith) (omega arith) in
    let digits' = length-decimal-le 4 i (omega arith) (omega arith) (omega arith) in
    simp length-append (omega (arith, digits, digits', one))

group_short : (i : ℕ) → i < 8000 → length (line (group_line i)) ≤ 112
unfolding group_line
group_short i low =
    let left = branch_short (codes "a") (left_length i) i refl (omega arith) (omega arith) in
    let right = branch_short (codes "b") (right_length i) i refl (omega arith) (omega arith) in
    simp length-append (omega (arith, left, right))

-- the lengths of lines add up
together : (xs ys : List (List ℕ)) → length (text_of (xs ++ ys)) ≡ length (text_of xs) + length (text_of ys)
together xs ys = ap length (flat_map-append line xs ys) ∙ length-append (text_of xs) (text_of ys)

framed :
    (head last : List ℕ) (lines : List (List ℕ)) (most : ℕ) → length (text_of lines) ≤ most →
    length (text_of (head ∷ lines ++ last ∷ [])) ≤ length head + most + length last + 2
framed head last lines most short =
    let whole = together (head ∷ lines) (last ∷ []) in
    let first = length-append (line head) (text_of lines) in
    let head' = length-append head (10 ∷ []) in
    let last' = length-append last (10 ∷ []) in
    let last'' = length-append (line last) [] in
    omega (arith, whole, first, head', last', last'', short)

lines_short :
    (f : ℕ → List ℕ) (end longest : ℕ) → ((i : ℕ) → i < end → length (line (f i)) ≤ longest) → (a n : ℕ) → a + n ≤ end →
    length (text_of (map f (range_with_len a n))) ≤ longest * n
lines_short f end longest short a zero low = omega arith
lines_short f end longest short a (suc n) low =
    let first = short a (omega arith) in
    let others = lines_short f end longest short (a + 1) n (omega arith) in
    let whole = length-append (line (f a)) (text_of (map f (range_with_len (a + 1) n))) in
    rw (mul-suc longest n) (omega (arith, whole, first, others))

function_short : (n j : ℕ) → n ≤ 8000 → 64 * j < n → length (text_of (function_lines n j)) ≤ 14 + 112 * min 64 (n - 64 * j)
unfolding function_lines
function_short n j most some =
    let head : List ℕ = codes "fn g" ++ decimal j ++ codes "() {" in
    let digits = length-decimal-le 3 j (omega arith) (omega arith) (omega arith) in
    let head_short : length head ≤ 11 = simp length-append (omega (arith, digits)) in
    let groups = lines_short group_line 8000 112 group_short (64 * j) (min 64 (n - 64 * j)) (omega arith) in
    let whole = framed head (codes "}") (map group_line (groups_in n j)) (112 * min 64 (n - 64 * j)) groups in
    omega (arith, whole, head_short)

functions_short :
    (n a m : ℕ) → n ≤ 8000 → 64 * (a + m) < n + 64 →
    length (text_of (flat_map (function_lines n) (range_with_len a m))) ≤ 14 * m + 112 * (n - 64 * a)
functions_short n a zero most some = omega arith
functions_short n a (suc m) most some =
    let first = function_short n a most (omega arith) in
    let others = functions_short n (a + 1) m most (omega arith) in
    let whole = together (function_lines n a) (flat_map (function_lines n) (range_with_len (a + 1) m)) in
    omega (arith, whole, first, others)

call_short : (j : ℕ) → j < 1000 → length (line (call_line j)) ≤ 13
call_short j low =
    let digits = length-decimal-le 3 j (omega arith) (omega arith) (omega arith) in
    simp length-append (omega (arith, digits))

main_short : (m : ℕ) → m ≤ 1000 → length (text_of (main_lines (range_with_len 0 m))) ≤ 14 + 13 * m
unfolding main_lines
main_short m low =
    let calls = lines_short call_line 1000 13 call_short 0 m (omega arith) in
    let whole = framed (codes "fn main() {") (codes "}") (map call_line (range_with_len 0 m)) (13 * m) calls in
    omega (arith, whole)

pub source_short : (n : ℕ) → n ≤ MOST_GROUPS → length (made_source n) ≤ LONGEST_TEXT
source_short n most =
    let bounds = div_ceil_times n 64 (omega arith) in
    let functions = functions_short n 0 (div_ceil n 64) most (omega (arith, bounds.1)) in
    let main = main_short (div_ceil n 64) (omega (arith, bounds.1)) in
    let whole = together (flat_map (function_lines n) (functions_for n)) (main_lines (functions_for n)) in
    omega (arith, whole, functions, main, bounds.1)
