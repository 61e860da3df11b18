-- The blocks of a call move one after another.
use Rattle.std.proofs.Common.{◌≡◌, ℕ, zero, suc, ◌+◌, ◌<◌, ◌≤◌, min, Bool, true, false, nat_eq, nat_le, List, [], ◌∷◌, length, drop, get_or, ℤ, Result, Ok, Err, refl, sym, ap, ◌∙◌, subst, arith, rules, length-set}
use Rattle.std.proofs.lemmas.List.{length-map, drop_all, drop_more}
use Rattle.dag_order.specs.declared.fault.FaultKind.{FaultKind}
use Rattle.depth_first_run.specs.Passed.Tree.{Name, Param, Arg}
use Rattle.depth_first_run.specs.Passed.Names.{param_names, param_name}
use Rattle.node_table.specs.Table
use Rattle.node_table.specs.Reading.{slots_read, FitsArg, FitsArgs, args_read}
use Rattle.node_table.specs.Shown.{arg_shown, args_shown}
use Rattle.node_table.specs.declared.code_arg.CodeArg.{CodeArg}
use Rattle.depth_first_run.specs.Stores.{Store}
use Rattle.depth_first_run.specs.Calls.{Passing, passed}
use Rattle.slot_store.specs.Rows.{Entry, entry_at, blocks_at, HasNone, with_blocks_at}
use Rattle.slot_store.specs.Forks.{is_in}
use Rattle.slot_store.specs.Calls.{EachOnce, EachHasBlock, EachHasNone, passed_slots, CanPass, CanPassAll, caller_behind, callee_behind}
use Rattle.slot_store.proofs.Names.{neither}
use Rattle.slot_store.proofs.Rows.{other_entry}
use Rattle.slot_store.proofs.ArgumentsPassed.{no_params, no_args}

-- how many there are
slots_length : (names : List Name) (slots : List ℕ) → length (slots_read names slots) ≡ length slots
slots_length names [] = refl
slots_length names (s ∷ ss) = ap suc (slots_length names ss)

args_length : (names : List Name) (args : List Table.Arg) → length (args_read names args) ≡ length args
args_length names [] = refl
args_length names (a ∷ as_) = ap suc (args_length names as_)

pub params_count : (names : List Name) (slots : List ℕ) (qs : List Param) → slots_read names slots ≡ param_names qs → length qs ≡ length slots
params_count names slots qs e = sym (length-map qs param_name) ∙ sym (ap length e) ∙ slots_length names slots

pub values_count : (names : List Name) (args : List CodeArg) (values : List Arg) → args_read names (args_shown args) ≡ values → length values ≡ length args
values_count names args values e = sym (ap length e) ∙ args_length names (args_shown args) ∙ length-map args arg_shown

-- nothing is left to pass
pub passed_end : (s : Store) (qs : List Param) (args : List Arg) (g : Passing) (i : ℕ) → min (length qs) (length args) ≤ i →
    passed s (drop i qs) (drop i args) g ≡ Ok g
passed_end s qs args g i past = cases (nat_le (length qs) i) refl
  where
    cases : (t : Bool) → nat_le (length qs) i ≡ t → passed s (drop i qs) (drop i args) g ≡ Ok g
    cases true e =
        let most : length qs ≤ i = search rules in
        ap (λ (ps : List Param). passed s ps (drop i args) g) (drop_all i qs most) ∙ no_params s (drop i args) g
    cases false e =
        let more : i < length qs = search rules in
        let most : length args ≤ i = omega (arith, more, past) in
        ap (λ (as_ : List Arg). passed s (drop i qs) as_ g) (drop_all i args most) ∙ no_args s (drop i qs) g

ok_of : Passing → Result Passing FaultKind
ok_of g = Ok g

ok_is : (g h : Passing) → ok_of g ≡ ok_of h → g ≡ h
unfolding ok_of
ok_is g h e = ap (passing_or g) e
  where
    passing_or : Passing → Result Passing FaultKind → Passing
    passing_or other (Ok p) = p
    passing_or other (Err kind) = other

pub end_is : (s : Store) (qs : List Param) (args : List Arg) (g h : Passing) (i : ℕ) → min (length qs) (length args) ≤ i →
    passed s (drop i qs) (drop i args) g ≡ Ok h → g ≡ h
unfolding ok_of
end_is s qs args g h i past is = ok_is g h (sym (passed_end s qs args g i past) ∙ is)

-- the next argument in memory
pub fits_arg : (n : ℕ) (args : List CodeArg) (i : ℕ) (x : CodeArg) → FitsArgs n (args_shown args) → i < length args → x ≡ get_or args i x →
    FitsArg n (arg_shown x)
fits_arg n [] i x fits within at = absurd (omega arith)
fits_arg n (y ∷ ys) zero x fits within at = subst (λ (z : CodeArg). FitsArg n (arg_shown z)) (sym at) fits.0
fits_arg n (y ∷ ys) (suc i) x fits within at = fits_arg n ys i x fits.1 (omega arith) at

pub next_shown : (args : List CodeArg) (i : ℕ) (x : CodeArg) → i < length args → x ≡ get_or args i x →
    drop i (args_shown args) ≡ arg_shown x ∷ drop (i + 1) (args_shown args)
next_shown [] i x within at = absurd (omega arith)
next_shown (y ∷ ys) zero x within at = ap (λ (z : CodeArg). arg_shown z ∷ args_shown ys) (sym at)
next_shown (y ∷ ys) (suc i) x within at =
    let more : suc i + 1 ≡ suc (i + 1) = omega arith in
    next_shown ys i x (omega arith) at ∙ ap (λ n. arg_shown x ∷ drop n (args_shown (y ∷ ys))) (sym more)

pub can_next : (caller callee : List Entry) (params : List ℕ) (args : List CodeArg) (i : ℕ) (x : CodeArg) → i < length params → i < length args →
    x ≡ get_or args i x → CanPassAll caller callee (drop i params) (drop i (args_shown args)) →
    CanPass caller callee (get_or params i 0) (arg_shown x)
    × CanPassAll (caller_behind caller (arg_shown x)) (callee_behind caller callee (get_or params i 0) (arg_shown x)) (drop (i + 1) params)
    (drop (i + 1) (args_shown args))
can_next caller callee params args i x within within_args at can =
    subst (CanPassAll caller callee (get_or params i 0 ∷ drop (i + 1) params)) (next_shown args i x within_args at)
    (subst (λ (qs : List ℕ). CanPassAll caller callee qs (drop i (args_shown args))) (drop_more params i 0 within) can)

-- rows stay as long as they are
pub caller_length : (caller : List Entry) (a : Table.Arg) → length (caller_behind caller a) ≡ length caller
caller_length caller (Table.value e) = refl
caller_length caller (Table.lend s) = length-set caller s _
caller_length caller (Table.give s) = length-set caller s _

pub callee_length : (caller callee : List Entry) (q : ℕ) (a : Table.Arg) → length (callee_behind caller callee q a) ≡ length callee
callee_length caller callee q (Table.value e) = refl
callee_length caller callee q (Table.lend s) = length-set callee q _
callee_length caller callee q (Table.give s) = length-set callee q _

-- the other slots stay
eq_self : (s : ℕ) → nat_eq s s ≡ true
eq_self s = search rules

pub differs : (s t : ℕ) → nat_eq t s ≡ false → t ≡ s → ⊥
differs s t e is =
    let yes : nat_eq t s ≡ true = ap (λ k. nat_eq k s) is ∙ eq_self s in
    cc

pub others_have : (row : List Entry) (s : ℕ) (blocks : List (List ℤ)) (rest : List ℕ) → is_in s rest ≡ false → EachHasBlock row rest →
    EachHasBlock (with_blocks_at row s blocks) rest
others_have row s blocks [] out each = tt
others_have row s blocks (t ∷ ts) out each =
    let parts = neither (nat_eq t s) (is_in s ts) out in
    let same = other_entry row s t (record (entry_at row s) { blocks = blocks }) (differs s t parts.0) in
    (ap (λ (e : Entry). length e.blocks) same ∙ each.0, others_have row s blocks ts parts.1 each.1)

pub others_have_none : (row : List Entry) (s : ℕ) (blocks : List (List ℤ)) (rest : List ℕ) → is_in s rest ≡ false → EachHasNone row rest →
    EachHasNone (with_blocks_at row s blocks) rest
others_have_none row s blocks [] out each = tt
others_have_none row s blocks (t ∷ ts) out each =
    let parts = neither (nat_eq t s) (is_in s ts) out in
    let same = other_entry row s t (record (entry_at row s) { blocks = blocks }) (differs s t parts.0) in
    (ap Entry.blocks same ∙ each.0, others_have_none row s blocks ts parts.1 each.1)

pub can_pass_all : (caller callee : List Entry) (params : List ℕ) (args : List Table.Arg) → EachHasNone callee params → EachOnce params →
    EachOnce (passed_slots args) → EachHasBlock caller (passed_slots args) → CanPassAll caller callee params args
can_pass_all caller callee [] args none once slots there = tt
can_pass_all caller callee (q ∷ qs) [] none once slots there = tt
can_pass_all caller callee (q ∷ qs) (Table.value e ∷ args) none once slots there = (tt, can_pass_all caller callee qs args none.1 once.1 slots there)
can_pass_all caller callee (q ∷ qs) (Table.lend s ∷ args) none once slots there = (
  (there.0, none.0),
  can_pass_all (with_blocks_at caller s []) (with_blocks_at callee q (blocks_at caller s)) qs args
      (others_have_none callee q (blocks_at caller s) qs once.0 none.1) once.1 slots.1 (others_have caller s [] (passed_slots args) slots.0 there.1),
)
can_pass_all caller callee (q ∷ qs) (Table.give s ∷ args) none once slots there = (
  (there.0, none.0),
  can_pass_all (with_blocks_at caller s []) (with_blocks_at callee q (blocks_at caller s)) qs args
      (others_have_none callee q (blocks_at caller s) qs once.0 none.1) once.1 slots.1 (others_have caller s [] (passed_slots args) slots.0 there.1),
)

pub each_none : (row : List Entry) (slots : List ℕ) → ((s : ℕ) → HasNone row s) → EachHasNone row slots
each_none row [] none = tt
each_none row (s ∷ ss) none = (none s, each_none row ss none)
