-- The straight code of assignments, writes and conditions.
use Rattle.std.proofs.Common.{inl, inr, ◌≡◌, ℕ, suc, ◌<◌, ◌≤◌, Bool, true, false, List, [], ◌∷◌, ◌++◌, length, set, ℤ, Option, Some, None, Ok, Err}
use Rattle.std.proofs.Common.{refl, sym, ap, ◌∙◌, subst, arith, length-set}
use Rattle.std.specs.Prelude.{◌⊎◌, slice_set}
use Rattle.std.proofs.lemmas.Bool.{cases_eq}
use Rattle.par_tree.specs.Tree.{Comparison}
use Rattle.slot_store.specs.Passed.Values.{Outcome, and_then, and_both, compared, holds, truth, is_true, place_in}
use Rattle.slot_store.specs.Passed.Table.{Expr, num, var, get, len_of, neg, chain, cmp}
use Rattle.slot_store.specs.Passed.Reading.{FitsExpr}
use Rattle.slot_store.specs.Rows.{Entry, entry_at, items_at, first_of, with_integer_at}
use Rattle.slot_store.proofs.Rows.{same_entry, other_entry}
use Rattle.flat_expressions.specs.Acts.{Operand, at_slot, operand_in, Act, write_at, left_in, written_in, Ran, ends, fails, next_act, straight}
use Rattle.flat_expressions.specs.Acts.{is_set, compares}
use Rattle.flat_expressions.specs.Values.{value_in, set_by, put_with, put_by}
use Rattle.flat_expressions.specs.Codes.{operand_of, code_of, operand_code, put_code, before_test, test_of, HasRoom}
use Rattle.flat_expressions.specs.Meanings.{HasInFront, CameTo, Do, TestCameTo, AreTest, SameBelow, Left, Leaves}
use Rattle.flat_expressions.proofs.Rows.{same_less, value_same, items_same, operand_same}
use Rattle.flat_expressions.proofs.Coded.{then_run, straight_append, Brings, code_leaves, operand_below, operand_brings}

-- ---- a function's slots in front

pub front_same : (k size : ℕ) (row own after : List Entry) → HasInFront k size row own → SameBelow k row after → HasInFront k size after own
front_same k size row own after front same = record {
  long = same.long ∙ front.long;
  short = front.short;
  same = λ s below. same.same s below ∙ front.same s below;
}

-- one slot has another entry from now on, in the row and in the function's slots
entry_front : (k size : ℕ) (row own after : List Entry) (s : ℕ) (new : Entry) → HasInFront k size row own → s < k → length after ≡ length row
    → entry_at after s ≡ new → ((j : ℕ) → j < k → (j ≡ s → ⊥) → entry_at after j ≡ entry_at row j)
    → HasInFront k size after (set own s new)
entry_front k size row own after s new front low long here others = record {
  long = long ∙ front.long;
  short = length-set own s new ∙ front.short;
  same = λ j below. by j below (cases_eq j s);
}
  where
    by : (j : ℕ) → j < k → (j ≡ s) ⊎ (j ≡ s → ⊥) → entry_at after j ≡ entry_at (set own s new) j
    by j below (inl e) =
        subst (λ (i : ℕ). entry_at after i ≡ entry_at (set own s new) i) (sym e)
        (here ∙ sym (same_entry own s new (let short = front.short in omega (arith, low, short))))
    by j below (inr differ) = others j below differ ∙ front.same j below ∙ sym (other_entry own s j new differ)

set_front : (k size : ℕ) (row own after : List Entry) (s : ℕ) (v : ℤ) → HasInFront k size row own → s < k → Left k s v row after
    → HasInFront k size after (with_integer_at own s v)
set_front k size row own after s v front low h =
    entry_front k size row own after s (record (entry_at own s) { integer = v }) front low h.long here h.others
  where
    here : entry_at after s ≡ record (entry_at own s) { integer = v }
    here = λ i. record { integer = h.number i; blocks = (h.blocks low ∙ ap Entry.blocks (front.same s low)) i }

-- ---- assignments

set_came : (k size : ℕ) (row own : List Entry) (s : ℕ) → HasInFront k size row own → s < k → (o : Outcome) (x : Ran) → Leaves k s row o x
    → CameTo k size own x (left_in s own o)
set_came k size row own s front low (Ok v) (ends after) h = set_front k size row own after s v front low h
set_came k size row own s front low (Ok v) (fails kind after) h = absurd h
set_came k size row own s front low (Err kind) (ends after) h = absurd h
set_came k size row own s front low (Err kind) (fails other after) h = (h.0, front_same k size row own after front h.1)

pub assignment_coded : (k size s : ℕ) (e : Expr) → FitsExpr k e → HasRoom size e k → s < k → k ≤ size → Do k size (set_by s e) (code_of e s k)
assignment_coded k size s e fits room low few row own front =
    let ran = straight (code_of e s k) row in
    set_came k size row own s front low (value_in own e) ran
    (subst (λ (o : Outcome). Leaves k s row o ran) (value_same k own row front.same e fits)
    (code_leaves e k size s k row front.long (omega arith) fits room (omega (arith, low, few))))

-- ---- conditions

is_true_truth : (b : Bool) → b ≡ is_true (truth b)
is_true_truth true = refl
is_true_truth false = refl

set_test : (k size : ℕ) (row own : List Entry) → HasInFront k size row own → (o : Outcome) (x : Ran) → Leaves k k row o x
    → TestCameTo k size own (is_set (at_slot k)) x o
set_test k size row own front (Ok v) (ends after) h = (front_same k size row own after front same, ap is_true h.number)
  where
    same : SameBelow k row after
    same = record { long = h.long; same = λ s below. h.others s below (λ e. absurd (omega (arith, below, e))) }
set_test k size row own front (Ok v) (fails kind after) h = absurd h
set_test k size row own front (Err kind) (ends after) h = absurd h
set_test k size row own front (Err kind) (fails other after) h = (h.0, front_same k size row own after front h.1)

number_test : (k size : ℕ) (e : Expr) → FitsExpr k e → HasRoom size e k → k < size → AreTest k size e (code_of e k k) (is_set (at_slot k))
number_test k size e fits room here row own front =
    let ran = straight (code_of e k k) row in
    set_test k size row own front (value_in own e) ran
    (subst (λ (o : Outcome). Leaves k k row o ran) (value_same k own row front.same e fits)
    (code_leaves e k size k k row front.long (omega arith) fits room here))

-- a comparison, by its two operands
module _ (k size : ℕ) (own : List Entry) (op : Comparison) (a b : Operand) where
  second_came : (after : List Entry) (v : ℤ) → HasInFront k size after own
      → ((end : List Entry) → SameBelow (suc k) after end → operand_in end a ≡ v) → (o : Outcome) (x : Ran) → Brings (suc k) after b o x
      → TestCameTo k size own (compares op a b) x (and_then o (compared op v))
  unfolding compared
  second_came after v front kept (Ok w) (ends end) h = (
    front_same k size after own end front (same_less k (suc k) after end (omega arith) h.0),
    ap (λ (x : ℤ). holds op x (operand_in end b)) (kept end h.0) ∙ ap (λ (x : ℤ). holds op v x) h.1 ∙ is_true_truth (holds op v w),
  )
  second_came after v front kept (Ok w) (fails kind end) h = absurd h
  second_came after v front kept (Err kind) (ends end) h = absurd h
  second_came after v front kept (Err kind) (fails other end) h =
      (h.0, front_same k size after own end front (same_less k (suc k) after end (omega arith) h.1))

  first_came : (row : List Entry) → HasInFront k size row own → (acts : List Act) (o right : Outcome) (x : Ran) → Brings k row a o x
      → ((v : ℤ) (after : List Entry) → SameBelow k row after → operand_in after a ≡ v
      → TestCameTo k size own (compares op a b) (straight acts after) (and_then right (compared op v)))
      → TestCameTo k size own (compares op a b) (then_run x acts) (and_both o right (compared op))
  first_came row front acts (Ok v) right (ends after) h rest = rest v after h.0 h.1
  first_came row front acts (Ok v) right (fails kind after) h rest = absurd h
  first_came row front acts (Err kind) right (ends after) h rest = absurd h
  first_came row front acts (Err kind) right (fails other after) h rest = (h.0, front_same k size row own after front h.1)

comparison_test : (k size : ℕ) (op : Comparison) (l r : Expr) → FitsExpr k l → FitsExpr k r → suc k < size → HasRoom size l k → HasRoom size r (suc k)
    → AreTest k size (cmp op l r) (operand_code l k ++ operand_code r (suc k)) (compares op (operand_of l k) (operand_of r (suc k)))
comparison_test k size op l r fits_l fits_r next room_l room_r row own front =
    subst (λ (x : Ran). TestCameTo k size own (compares op a b) x (value_in own (cmp op l r)))
    (sym (straight_append (operand_code l k) (operand_code r (suc k)) row))
    (first_came k size own op a b row front (operand_code r (suc k)) (value_in own l) (value_in own r) (straight (operand_code l k) row)
    (subst (λ (o : Outcome). Brings k row a o (straight (operand_code l k) row)) (value_same k own row front.same l fits_l)
    (operand_brings l (code_leaves l) k size k row front.long (omega arith) fits_l room_l (omega (arith, next)))) right)
  where
    a : Operand
    a = operand_of l k

    b : Operand
    b = operand_of r (suc k)

    right : (v : ℤ) (after : List Entry) → SameBelow k row after → operand_in after a ≡ v
        → TestCameTo k size own (compares op a b) (straight (operand_code r (suc k)) after) (and_then (value_in own r) (compared op v))
    right v after same is =
        let now = front_same k size row own after front same in
        second_came k size own op a b after v now (λ end later. operand_same (suc k) after end a later (operand_below k k l (omega arith) fits_l) ∙ is)
        (value_in own r) (straight (operand_code r (suc k)) after)
        (subst (λ (o : Outcome). Brings (suc k) after b o (straight (operand_code r (suc k)) after)) (value_same k own after now.same r fits_r)
        (operand_brings r (code_leaves r) k size (suc k) after now.long (omega arith) fits_r room_r next))

pub condition_coded : (k size : ℕ) (e : Expr) → FitsExpr k e → HasRoom size e k → k < size → AreTest k size e (before_test e k) (test_of e k)
condition_coded k size (num v) fits room here row own front = (front, refl)
condition_coded k size (var s) fits room here row own front = (front, ap (λ (x : Entry). is_true x.integer) (front.same s fits))
condition_coded k size (get s i) fits room here row own front = number_test k size (get s i) fits room here row own front
condition_coded k size (len_of s) fits room here row own front = number_test k size (len_of s) fits room here row own front
condition_coded k size (neg e) fits room here row own front = number_test k size (neg e) fits room here row own front
condition_coded k size (chain e ls) fits room here row own front = number_test k size (chain e ls) fits room here row own front
condition_coded k size (cmp op l r) fits room here row own front =
    comparison_test k size op l r fits.0 fits.1 room.0 room.1 room.2 row own front

-- ---- writes to blocks

module _ (k size b : ℕ) (own : List Entry) (low : b < k) (few : k ≤ size) where
  -- the place is tested in the row, whose block is that of the function
  written_came : (row : List Entry) → HasInFront k size row own → (v : ℤ) (place : Option ℕ)
      → CameTo k size own (next_act (written_in b row v place) row (straight [])) (written_in b own v place)
  written_came row front v None = (refl, front)
  written_came row front v (Some i) =
      entry_front k size row own (set row b now) b new front low (length-set row b now) (same_entry row b now within ∙ same)
      (λ j below differ. other_entry row b j now differ)
    where
      now : Entry
      now = record (entry_at row b) { blocks = slice_set (items_at row b) i v ∷ [] }

      new : Entry
      new = record (entry_at own b) { blocks = slice_set (items_at own b) i v ∷ [] }

      within : b < length row
      within = let long = front.long in omega (arith, low, few, long)

      same : now ≡ new
      same = ap (λ (x : Entry). record x { blocks = slice_set (first_of x.blocks) i v ∷ [] }) (front.same b low)

  written_last : (row : List Entry) → HasInFront k size row own → (i v x y : ℤ) (xs : List ℤ) → x ≡ i → y ≡ v → xs ≡ items_at own b
      → CameTo k size own (next_act (written_in b row y (place_in xs x)) row (straight [])) (written_in b own v (place_in (items_at own b) i))
  written_last row front i v x y xs ex ey exs =
      subst (λ (z : ℤ). CameTo k size own (next_act (written_in b row z (place_in xs x)) row (straight [])) (written_in b own v (place_in (items_at own b) i)))
      (sym ey)
      (subst (λ (o : Option ℕ). CameTo k size own (next_act (written_in b row v o) row (straight [])) (written_in b own v (place_in (items_at own b) i)))
      (sym (ap (λ (z : ℤ). place_in xs z) ex ∙ ap (λ (zs : List ℤ). place_in zs i) exs))
      (written_came row front v (place_in (items_at own b) i)))

  module _ (p q : Operand) where
    second_put : (after : List Entry) (i : ℤ) → HasInFront k size after own
        → ((end : List Entry) → SameBelow (suc k) after end → operand_in end p ≡ i) → (o : Outcome) (x : Ran) → Brings (suc k) after q o x
        → CameTo k size own (then_run x (write_at b p q ∷ [])) (put_with b own (Ok i) o)
    second_put after i front kept (Ok v) (ends end) h =
        let now = front_same k size after own end front (same_less k (suc k) after end (omega arith) h.0) in
        written_last end now i v (operand_in end p) (operand_in end q) (items_at end b) (kept end h.0) h.1 (items_same k own end now.same b low)
    second_put after i front kept (Ok v) (fails kind end) h = absurd h
    second_put after i front kept (Err kind) (ends end) h = absurd h
    second_put after i front kept (Err kind) (fails other end) h =
        (h.0, front_same k size after own end front (same_less k (suc k) after end (omega arith) h.1))

    first_put : (row : List Entry) → HasInFront k size row own → (acts : List Act) (o right : Outcome) (x : Ran) → Brings k row p o x
        → ((i : ℤ) (after : List Entry) → SameBelow k row after → operand_in after p ≡ i
        → CameTo k size own (straight acts after) (put_with b own (Ok i) right))
        → CameTo k size own (then_run x acts) (put_with b own o right)
    first_put row front acts (Ok i) right (ends after) h rest = rest i after h.0 h.1
    first_put row front acts (Ok i) right (fails kind after) h rest = absurd h
    first_put row front acts (Err kind) right (ends after) h rest = absurd h
    first_put row front acts (Err kind) right (fails other after) h rest = (h.0, front_same k size row own after front h.1)

pub write_coded : (k size b : ℕ) (i e : Expr) → FitsExpr k i → FitsExpr k e → k < size → HasRoom size i k → suc k < size → HasRoom size e (suc k) → b < k
    → Do k size (put_by b i e) (put_code b i e k)
write_coded k size b i e fits_i fits_e here room_i next room_e low row own front =
    subst (λ (x : Ran). CameTo k size own x (put_by b i e own)) (sym (straight_append (operand_code i k) acts row))
    (first_put k size b own low few p q row front acts (value_in own i) (value_in own e) (straight (operand_code i k) row)
    (subst (λ (o : Outcome). Brings k row p o (straight (operand_code i k) row)) (value_same k own row front.same i fits_i)
    (operand_brings i (code_leaves i) k size k row front.long (omega arith) fits_i room_i here)) right)
  where
    p : Operand
    p = operand_of i k

    q : Operand
    q = operand_of e (suc k)

    acts : List Act
    acts = operand_code e (suc k) ++ write_at b p q ∷ []

    few : k ≤ size
    few = omega (arith, here)

    right : (v : ℤ) (after : List Entry) → SameBelow k row after → operand_in after p ≡ v
        → CameTo k size own (straight acts after) (put_with b own (Ok v) (value_in own e))
    right v after same is =
        let now = front_same k size row own after front same in
        subst (λ (x : Ran). CameTo k size own x (put_with b own (Ok v) (value_in own e)))
        (sym (straight_append (operand_code e (suc k)) (write_at b p q ∷ []) after))
        (second_put k size b own low few p q after v now (λ end later. operand_same (suc k) after end p later (operand_below k k i (omega arith) fits_i) ∙ is)
        (value_in own e) (straight (operand_code e (suc k)) after)
        (subst (λ (o : Outcome). Brings (suc k) after q o (straight (operand_code e (suc k)) after)) (value_same k own after now.same e fits_e)
        (operand_brings e (code_leaves e) k size (suc k) after now.long (omega arith) fits_e room_e next)))
