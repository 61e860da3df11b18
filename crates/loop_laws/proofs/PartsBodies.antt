-- The body of the helper of a loop over parts, statement by statement.
use Rattle.std.specs.Prelude.{◌≡◌, ℕ, ◌+◌, ◌*◌, ◌/◌, ◌<◌, ◌≤◌, ◌^◌, nat_le, Bool, true, false, List, [], ◌∷◌, length, ℤ, pos, int_le, Ok, Some, refl}
use Rattle.std.specs.Int.{w64, cast_signed, int_wrapping_add, int_wrapping_mul, int_wrapping_div}
use Rattle.std.proofs.Common.{◌∙◌, ap, arith}
use Rattle.std.proofs.lemmas.Int.{to_z_pos}
use Rattle.par_tree.specs.Tree.{Name, num, var, len_of, cmp, at_most, lend, Stmt, let_stmt, if_stmt, par_stmt, split_stmt, Body, step}
use Rattle.depth_first_run.specs.Stores.{Store, block_of}
use Rattle.depth_first_run.specs.Values.{Outcome, value, chained, operated, compared, truth}
use Rattle.depth_first_run.specs.States.{Setting, State, unless_faulted, with_number}
use Rattle.depth_first_run.specs.Run.{on_store, set_integer, cut_of, cut_block, rejoin_block, split_in_place, split_block, exec, exec_all, run}
use Rattle.loop_laws.specs.HelperTrees.{block_name, left_name, right_name, count_name, sum_of_all, half_name, sum_of_rest, alone, call_of, add_rest, half_in_pieces, both_halves_of_block, parts_body}
use Rattle.loop_laws.proofs.Wrapping.{half_is}
use Rattle.loop_laws.proofs.Bodies.{first_statement, only_statement, let_done, if_done, begun, zero_had}
use Rattle.loop_laws.specs.Parts.{half_of}
use Rattle.loop_laws.proofs.Cutting.{half_may_be_cut}

-- ---- half of the words

fifteen_more : (a : ℕ) → a + 15 < 2 ^ 63 → int_wrapping_add w64 (pos a) (pos 15) ≡ pos (a + 15)
fifteen_more a small = ap (λ n. cast_signed w64 n) (omega (arith, small)) ∙ to_z_pos w64 (a + 15) (omega (arith, small))

sixteenth_is : (a : ℕ) → a < 2 ^ 63 → int_wrapping_div w64 (pos a) (pos 16) ≡ pos (a / 16)
sixteenth_is a small = to_z_pos w64 (a / 16) (omega (arith, small))

sixteen_times : (a : ℕ) → a * 16 < 2 ^ 63 → int_wrapping_mul w64 (pos a) (pos 16) ≡ pos (a * 16)
sixteen_times a small = ap (λ n. cast_signed w64 n) (omega (arith, small)) ∙ to_z_pos w64 (a * 16) (omega (arith, small))

abbrev ok : ℤ → Outcome
ok v = Ok v

-- the value of the whole expression, by the values on the way
half_at : ℤ → Outcome
half_at v = ok (int_wrapping_mul w64 (int_wrapping_div w64 (int_wrapping_add w64 (int_wrapping_div w64 v (pos 2)) (pos 15)) (pos 16)) (pos 16))

half_had : (s : Store) (n : ℕ) → n < 2 ^ 63 → s.integers count_name ≡ pos n → value s half_in_pieces ≡ Ok (pos (half_of n))
unfolding value chained operated half_at
half_had s n small e =
    let a = half_is n small in
    let b = fifteen_more (n / 2) (omega (arith, small)) in
    let d = sixteenth_is (n / 2 + 15) (omega (arith, small)) in
    let m = sixteen_times ((n / 2 + 15) / 16) (omega (arith, small)) in
    ap half_at e
    ∙ ap (λ v. ok (int_wrapping_mul w64 (int_wrapping_div w64 (int_wrapping_add w64 v (pos 15)) (pos 16)) (pos 16))) a
    ∙ ap (λ v. ok (int_wrapping_mul w64 (int_wrapping_div w64 v (pos 16)) (pos 16))) b
    ∙ ap (λ v. ok (int_wrapping_mul w64 v (pos 16))) d
    ∙ ap ok m

-- ---- the body

-- a state that holds the block of the helper alone
abbrev pub inside : State → (Name → ℤ) → List ℤ → State
inside s integers items = record s { store = record { integers = integers; blocks = record { name = block_name; items = items } ∷ [] } }

-- the state before the test of the length, where it has begun
abbrev pub before_test : ℕ → List ℤ → State → State
before_test line items s = begun line (set_integer sum_of_all (pos 0) (begun line (set_integer count_name (pos (length items)) (begun line s))))

-- the call on a part, and the test
abbrev pub call_of_part : Name → ℕ → Stmt
call_of_part f k = call_of sum_of_all f k (lend block_name ∷ [])

abbrev tested : (sum f : Name) → ℕ → ℕ → ℕ → Stmt
tested sum f most k line = if_stmt (cmp at_most (var count_name) (num (pos most))) (alone line (call_of_part f k)) (both_halves_of_block sum k line)

-- the state before the `split`, and before the `par` in it, where each has begun
abbrev pub before_split : ℕ → List ℤ → State → State
before_split line items s =
    begun line (set_integer sum_of_rest (pos 0) (begun line (set_integer half_name (pos (half_of (length items))) (begun line (before_test line items s)))))

abbrev pub before_par : ℕ → List ℤ → State → State
before_par line items s =
    begun line (on_store (cut_block block_name left_name right_name (half_of (length items))) (before_split line items s))

-- the two branches of the `par`
abbrev pub left_call : Name → ℕ → Stmt
left_call sum k = call_of sum_of_all sum k (lend left_name ∷ [])

abbrev pub right_call : Name → ℕ → Stmt
right_call sum k = call_of sum_of_rest sum k (lend right_name ∷ [])

abbrev pub both_calls : Name → ℕ → ℕ → Stmt
both_calls sum k line = par_stmt (alone line (left_call sum k)) (alone line (right_call sum k))

length_had : (s : State) (integers : Name → ℤ) (items : List ℤ) → value (inside s integers items).store (len_of block_name) ≡ Ok (pos (length items))
unfolding value
length_had s integers items = refl

name_had : (s : Store) (x : Name) (v : ℤ) → s.integers x ≡ v → value s (var x) ≡ Ok v
unfolding value
name_had s x v e = ap ok e

length_tested : (s : Store) (most n : ℕ) (t : Bool) → s.integers count_name ≡ pos n → nat_le n most ≡ t → value s (cmp at_most (var count_name) (num (pos most))) ≡ Ok (truth t)
unfolding value compared
length_tested s most n t e is = ap (λ v. ok (truth (int_le v (pos most)))) e ∙ ap (λ u. ok (truth u)) is

body_begins : (c : Setting) (sum f : Name) (most k line : ℕ) (integers : Name → ℤ) (items : List ℤ) (s : State) → s.faulted ≡ false
    → exec_all c (run c) (parts_body sum f most k line) (inside s integers items)
    ≡ exec c (run c) line (tested sum f most k line) (before_test line items (inside s integers items))
body_begins c sum f most k line integers items s e =
    let p : State = inside s integers items in
    let n : ℤ = pos (length items) in
    let u : State = set_integer count_name n (begun line p) in
    let rest : Body = alone line (tested sum f most k line) in
    first_statement c line (let_stmt count_name (len_of block_name)) (step line (let_stmt sum_of_all (num (pos 0))) rest) p e
    ∙ ap (λ t. exec_all c (run c) (step line (let_stmt sum_of_all (num (pos 0))) rest) t) (let_done c line count_name (len_of block_name) n (begun line p) (length_had (begun line s) integers items))
    ∙ first_statement c line (let_stmt sum_of_all (num (pos 0))) rest u e
    ∙ ap (λ t. exec_all c (run c) rest t) (let_done c line sum_of_all (num (pos 0)) (pos 0) (begun line u) (zero_had (begun line u).store))
    ∙ only_statement c line (tested sum f most k line) (set_integer sum_of_all (pos 0) (begun line u)) e

-- a part: the call of the function
pub body_of_part : (c : Setting) (sum f : Name) (most k line : ℕ) (integers : Name → ℤ) (items : List ℤ) (s : State) → s.faulted ≡ false → nat_le (length items) most ≡ true
    → exec_all c (run c) (parts_body sum f most k line) (inside s integers items)
    ≡ exec c (run c) line (call_of_part f k) (begun line (before_test line items (inside s integers items)))
body_of_part c sum f most k line integers items s e short =
    let t : State = before_test line items (inside s integers items) in
    body_begins c sum f most k line integers items s e
    ∙ if_done c line (cmp at_most (var count_name) (num (pos most))) (alone line (call_of_part f k)) (both_halves_of_block sum k line) (pos 1) t (length_tested t.store most (length items) true refl short)
    ∙ only_statement c line (call_of_part f k) t e

split_done : (c : Setting) (line : ℕ) (b h l r : Name) (a : Body) (n : ℕ) (s : State) → s.store.integers h ≡ pos n → cut_of (block_of s.store.blocks b) (pos n) ≡ Some n
    → exec c (run c) line (split_stmt b (var h) l r a) s ≡ unless_faulted (on_store (rejoin_block b l r)) (exec_all c (run c) a (on_store (cut_block b l r n) s))
unfolding exec with_number
split_done c line b h l r a n s e cut =
    ap (λ o. with_number line o (split_block line b l r (exec_all c (run c) a)) s) (name_had s.store h (pos n) e)
    ∙ ap (λ o. split_in_place line b l r (exec_all c (run c) a) o s) cut

-- more words: both halves, and the sum
pub body_of_halves : (c : Setting) (sum f : Name) (most k line : ℕ) (integers : Name → ℤ) (items : List ℤ) (s : State) → s.faulted ≡ false
    → nat_le (length items) most ≡ false → 17 ≤ length items → length items < 2 ^ 63
    → exec_all c (run c) (parts_body sum f most k line) (inside s integers items)
    ≡ exec_all c (run c) (alone line add_rest)
    (unless_faulted (on_store (rejoin_block block_name left_name right_name)) (exec c (run c) line (both_calls sum k line) (before_par line items (inside s integers items))))
body_of_halves c sum f most k line integers items s e long many small =
    let t : State = before_test line items (inside s integers items) in
    let h : ℕ = half_of (length items) in
    let split : Stmt = split_stmt block_name (var half_name) left_name right_name (alone line (both_calls sum k line)) in
    let rest : Body = step line split (alone line add_rest) in
    let u : State = set_integer half_name (pos h) (begun line t) in
    let w : State = set_integer sum_of_rest (pos 0) (begun line u) in
    let cut : State = on_store (cut_block block_name left_name right_name h) (begun line w) in
    body_begins c sum f most k line integers items s e
    ∙ if_done c line (cmp at_most (var count_name) (num (pos most))) (alone line (call_of_part f k)) (both_halves_of_block sum k line) (pos 0) t (length_tested t.store most (length items) false refl long)
    ∙ first_statement c line (let_stmt half_name half_in_pieces) (step line (let_stmt sum_of_rest (num (pos 0))) rest) t e
    ∙ ap (λ z. exec_all c (run c) (step line (let_stmt sum_of_rest (num (pos 0))) rest) z) (let_done c line half_name half_in_pieces (pos h) (begun line t) (half_had (begun line t).store (length items) small refl))
    ∙ first_statement c line (let_stmt sum_of_rest (num (pos 0))) rest u e
    ∙ ap (λ z. exec_all c (run c) rest z) (let_done c line sum_of_rest (num (pos 0)) (pos 0) (begun line u) (zero_had (begun line u).store))
    ∙ first_statement c line split (alone line add_rest) w e
    ∙ ap (λ z. exec_all c (run c) (alone line add_rest) z)
    (split_done c line block_name half_name left_name right_name (alone line (both_calls sum k line)) h (begun line w) refl (half_may_be_cut items many)
    ∙ ap (λ z. unless_faulted (on_store (rejoin_block block_name left_name right_name)) z) (only_statement c line (both_calls sum k line) cut e))
