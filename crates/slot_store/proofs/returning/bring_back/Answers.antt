use Rattle.std.proofs.Common.{◌<◌, ◌+◌, ◌∷◌, List, length, get_or, drop, sym, ap, ◌∙◌, subst, arith}
use Rattle.depth_first_run.specs.Passed.Tree.{Param, Arg}
use Rattle.node_table.specs.Reading.{FitsArg}
use Rattle.node_table.specs.Shown.{arg_shown, args_shown}
use Rattle.depth_first_run.specs.Stores.{Store, Held}
use Rattle.depth_first_run.specs.Calls.{lent_back}
use Rattle.slot_store.specs.Rows.{Entry}
use Rattle.slot_store.specs.Agreement.{ShowsStore}
use Rattle.slot_store.specs.Calls.{store_with, left_over}
use Rattle.slot_store.specs.Returns.{CanComeBackAll, caller_again}
use Rattle.slot_store.specs.Shown.{slots_shown}
use Rattle.slot_store.proofs.Parting.{fits_at}
use Rattle.slot_store.proofs.ArgumentsPassed.{next_param, next_arg}
use Rattle.slot_store.proofs.Moving.{params_count, values_count, fits_arg}
use Rattle.slot_store.proofs.Lending.{can_next, caller_length, callee_length, lent_end}
use Rattle.slot_store.proofs.returning.bring_back.Goals as goal

pub bring_block-requires-clause-within : goal.bring_block-requires-clause-within
bring_block-requires-clause-within c =
    let within : c.loop-i.i < length c.args.params.now = omega (arith, c.loop-i-test.true, c.min-i-end.ensures) in
    let fits = fits_at (length (slots_shown c.args.callee.now)) c.args.params.now c.loop-i.i 0 c.requires.params within in
    omega (arith, fits, c.loop-i.invariant.0)

pub bring_block-requires-clause-fits : goal.bring_block-requires-clause-fits
bring_block-requires-clause-fits c =
    let within_args : c.loop-i.i < length c.args.args.now = omega (arith, c.loop-i-test.true, c.min-i-end.ensures) in
    let x = c.index-args-i.result in
    subst (λ n. FitsArg n (arg_shown x)) (sym c.loop-i.invariant.1)
    (fits_arg (length (slots_shown c.args.caller.now)) c.args.args.now c.loop-i.i x c.requires.args within_args c.index-args-i.is)

pub bring_block-requires-clause-can : goal.bring_block-requires-clause-can
bring_block-requires-clause-can c =
    let within : c.loop-i.i < length c.args.params.now = omega (arith, c.loop-i-test.true, c.min-i-end.ensures) in
    let within_args : c.loop-i.i < length c.args.args.now = omega (arith, c.loop-i-test.true, c.min-i-end.ensures) in
    (can_next (slots_shown c.loop-i.caller) (slots_shown c.loop-i.callee) c.args.params.now c.args.args.now c.loop-i.i c.index-args-i.result
    within within_args c.index-args-i.is c.loop-i.invariant.2).0

pub loop-i-preserved : goal.loop-i-preserved
loop-i-preserved c =
    let i = c.loop-i.i in
    let caller = slots_shown c.loop-i.caller in
    let callee = slots_shown c.loop-i.callee in
    let x = c.index-args-i.result in
    let slot = get_or c.args.params.now i 0 in
    let within : i < length c.args.params.now = omega (arith, c.loop-i-test.true, c.min-i-end.ensures) in
    let within_args : i < length c.args.args.now = omega (arith, c.loop-i-test.true, c.min-i-end.ensures) in
    let can = (can_next caller callee c.args.params.now c.args.args.now i x within within_args c.index-args-i.is c.loop-i.invariant.2).1 in
    let rest = drop (i + 1) c.args.params.now in
    let others = drop (i + 1) (args_shown c.args.args.now) in (
      ap length c.bring_block.ensures.callee ∙ callee_length callee slot (arg_shown x) ∙ c.loop-i.invariant.0,
      ap length c.bring_block.ensures.caller ∙ caller_length caller callee slot (arg_shown x) ∙ c.loop-i.invariant.1,
      subst (λ (r : List Entry). CanComeBackAll r (slots_shown c.bring_block.new.callee) rest others) (sym c.bring_block.ensures.caller)
          (subst (λ (r : List Entry). CanComeBackAll (caller_again caller callee slot (arg_shown x)) r rest others)
          (sym c.bring_block.ensures.callee) can),
      λ names callee_names own theirs qs values shows shows_theirs are args.
          let so_far = c.loop-i.invariant.3 names callee_names own theirs qs values shows shows_theirs are args in
          let q = next_param callee_names c.args.params.now qs i are.0 within in
          let a = next_arg names c.args.args.now values i x args within_args c.index-args-i.is in
          let behind = sym (ap (λ (ps : List Param). lent_back ps (drop i values) so_far.1 so_far.0) q.is
          ∙ ap (λ (as_ : List Arg). lent_back (q.param ∷ drop (i + 1) qs) as_ so_far.1 so_far.0) a.is) ∙ so_far.2 in
          let left = sym (ap (λ (ps : List Param). left_over ps (drop i values) so_far.1) q.is
          ∙ ap (λ (as_ : List Arg). left_over (q.param ∷ drop (i + 1) qs) as_ so_far.1) a.is) ∙ so_far.3 in
          c.bring_block.ensures.store names callee_names q.param a.value (drop (i + 1) qs) (drop (i + 1) values)
          (lent_back qs values theirs.blocks own) so_far.0 (left_over qs values theirs.blocks) so_far.1 theirs.integers q.named a.arg_is behind left
          so_far.4 so_far.5,
    )

pub returns : goal.returns
returns c names callee_names own theirs qs values shows shows_theirs are args =
    let i = c.loop-i.i in
    let so_far = c.loop-i.invariant.3 names callee_names own theirs qs values shows shows_theirs are args in
    let first = params_count callee_names c.args.params.now qs are.0 in
    let second = values_count names c.args.args.now values args.0 in
    let last = lent_end qs values so_far.1 so_far.0 i (omega (arith, first, second, c.min-i-end.ensures, c.loop-i-test.false)) in (
      subst (λ (s : Store). ShowsStore names (slots_shown c.loop-i.caller) s) (sym last.0 ∙ so_far.2) so_far.4,
      subst (λ (hs : List Held). ShowsStore callee_names (slots_shown c.loop-i.callee) (store_with theirs.integers hs)) (sym last.1 ∙ so_far.3) so_far.5,
    )
