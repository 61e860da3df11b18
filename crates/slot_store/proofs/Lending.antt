-- The blocks that a call lent come back one after another.
use Rattle.std.proofs.Common.{◌≡◌, ℕ, ◌+◌, ◌<◌, ◌≤◌, min, Bool, true, false, nat_le, List, [], ◌∷◌, length, drop, get_or, refl, ap, ◌∙◌, subst, arith, rules, length-set}
use Rattle.std.proofs.lemmas.List.{drop_all, drop_more}
use Rattle.depth_first_run.specs.Passed.Tree.{Param, Arg}
use Rattle.node_table.specs.Table
use Rattle.node_table.specs.Shown.{arg_shown, args_shown}
use Rattle.node_table.specs.declared.code_arg.CodeArg.{CodeArg}
use Rattle.depth_first_run.specs.Stores.{Store, Held}
use Rattle.depth_first_run.specs.Calls.{lent_back}
use Rattle.slot_store.specs.Rows.{Entry, blocks_at, with_blocks_at}
use Rattle.slot_store.specs.Calls.{EachOnce, EachHasBlock, EachHasNone, lent_params, lent_slots, left_over}
use Rattle.slot_store.specs.Returns.{CanComeBack, CanComeBackAll, caller_again, callee_again}
use Rattle.slot_store.proofs.Moving.{next_shown, others_have, others_have_none}

-- nothing is left to come back
no_params : (args : List Arg) (theirs : List Held) (own : Store) → lent_back [] args theirs own ≡ own
unfolding lent_back
no_params args theirs own = refl

no_args : (qs : List Param) (theirs : List Held) (own : Store) → lent_back qs [] theirs own ≡ own
unfolding lent_back
no_args [] theirs own = refl
no_args (q ∷ qs) theirs own = refl

no_args_left : (qs : List Param) (theirs : List Held) → left_over qs [] theirs ≡ theirs
no_args_left [] theirs = refl
no_args_left (q ∷ qs) theirs = refl

pub lent_end : (qs : List Param) (args : List Arg) (theirs : List Held) (own : Store) (i : ℕ) → min (length qs) (length args) ≤ i →
    (lent_back (drop i qs) (drop i args) theirs own ≡ own) × (left_over (drop i qs) (drop i args) theirs ≡ theirs)
lent_end qs args theirs own i past = cases (nat_le (length qs) i) refl
  where
    cases : (t : Bool) → nat_le (length qs) i ≡ t →
        (lent_back (drop i qs) (drop i args) theirs own ≡ own) × (left_over (drop i qs) (drop i args) theirs ≡ theirs)
    cases true e =
        let most : length qs ≤ i = search rules in
        let none = drop_all i qs most in (
          ap (λ (ps : List Param). lent_back ps (drop i args) theirs own) none ∙ no_params (drop i args) theirs own,
          ap (λ (ps : List Param). left_over ps (drop i args) theirs) none,
        )
    cases false e =
        let more : i < length qs = search rules in
        let most : length args ≤ i = omega (arith, more, past) in
        let none = drop_all i args most in (
          ap (λ (as_ : List Arg). lent_back (drop i qs) as_ theirs own) none ∙ no_args (drop i qs) theirs own,
          ap (λ (as_ : List Arg). left_over (drop i qs) as_ theirs) none ∙ no_args_left (drop i qs) theirs,
        )

pub can_next : (caller callee : List Entry) (params : List ℕ) (args : List CodeArg) (i : ℕ) (x : CodeArg) → i < length params → i < length args →
    x ≡ get_or args i x → CanComeBackAll caller callee (drop i params) (drop i (args_shown args)) →
    CanComeBack caller callee (get_or params i 0) (arg_shown x)
    × CanComeBackAll (caller_again caller callee (get_or params i 0) (arg_shown x)) (callee_again callee (get_or params i 0) (arg_shown x))
    (drop (i + 1) params) (drop (i + 1) (args_shown args))
can_next caller callee params args i x within within_args at can =
    subst (CanComeBackAll caller callee (get_or params i 0 ∷ drop (i + 1) params)) (next_shown args i x within_args at)
    (subst (λ (qs : List ℕ). CanComeBackAll caller callee qs (drop i (args_shown args))) (drop_more params i 0 within) can)

pub caller_length : (caller callee : List Entry) (q : ℕ) (a : Table.Arg) → length (caller_again caller callee q a) ≡ length caller
caller_length caller callee q (Table.value e) = refl
caller_length caller callee q (Table.lend s) = length-set caller s _
caller_length caller callee q (Table.give s) = refl

pub callee_length : (callee : List Entry) (q : ℕ) (a : Table.Arg) → length (callee_again callee q a) ≡ length callee
callee_length callee q (Table.value e) = refl
callee_length callee q (Table.lend s) = length-set callee q _
callee_length callee q (Table.give s) = refl

pub can_come_back_all : (caller callee : List Entry) (params : List ℕ) (args : List Table.Arg) → EachOnce (lent_params params args) →
    EachOnce (lent_slots params args) → EachHasBlock callee (lent_params params args) → EachHasNone caller (lent_slots params args) →
    CanComeBackAll caller callee params args
can_come_back_all caller callee [] args once slots there none = tt
can_come_back_all caller callee (q ∷ qs) [] once slots there none = tt
can_come_back_all caller callee (q ∷ qs) (Table.value e ∷ args) once slots there none =
    (tt, can_come_back_all caller callee qs args once slots there none)
can_come_back_all caller callee (q ∷ qs) (Table.lend s ∷ args) once slots there none = (
  (there.0, none.0),
  can_come_back_all (with_blocks_at caller s (blocks_at callee q)) (with_blocks_at callee q []) qs args once.1 slots.1
      (others_have callee q [] (lent_params qs args) once.0 there.1)
      (others_have_none caller s (blocks_at callee q) (lent_slots qs args) slots.0 none.1),
)
can_come_back_all caller callee (q ∷ qs) (Table.give s ∷ args) once slots there none =
    (tt, can_come_back_all caller callee qs args once slots there none)
