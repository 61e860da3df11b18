use Rattle.std.proofs.Common.{◌<◌, ◌+◌, ◌∷◌, List, length, drop, ap, ◌∙◌, arith}
use Rattle.std.proofs.lemmas.Result.{err_from_is_err_and}
use Rattle.depth_first_run.specs.Passed.Tree.{Param, Arg}
use Rattle.depth_first_run.specs.Calls.{passed}
use Rattle.slot_store.specs.Shown.{slots_shown}
use Rattle.slot_store.proofs.Parting.{fits_at}
use Rattle.slot_store.proofs.ArgumentsPassed.{next_param, next_arg}
use Rattle.slot_store.proofs.Moving.{params_count, values_count, passed_end}
use Rattle.slot_store.proofs.passing.pass_integers.Goals as goal

pub pass_integer-requires : goal.pass_integer-requires
pass_integer-requires c =
    let params = c.args.params.now in
    let within : c.loop-i.i < length params = omega (arith, c.loop-i-test.true, c.min-i-end.ensures) in
    let fits = fits_at (length (slots_shown c.args.callee.now)) params c.loop-i.i 0 c.requires within in
    omega (arith, fits, c.loop-i.invariant.0)

pub returns-in_err-pass_integer-clause-store : goal.returns-in_err-pass_integer-clause-store
returns-in_err-pass_integer-clause-store c names callee_names store qs values blocks g shows theirs are args =
    let i = c.loop-i.i in
    let within : i < length c.args.params.now = omega (arith, c.loop-i-test.true, c.min-i-end.ensures) in
    let within_args : i < length c.args.args.now = omega (arith, c.loop-i-test.true, c.min-i-end.ensures) in
    let so_far = c.loop-i.invariant.2 names callee_names store qs values blocks g shows theirs are args in
    let q = next_param callee_names c.args.params.now qs i are.0 within in
    let a = next_arg names c.args.args.now values i c.index-args-i.result args within_args c.index-args-i.is in
    let h = so_far.0 in
    let step = c.in_err-pass_integer.ensures.store names callee_names store q.param a.value blocks h shows so_far.2 q.named a.arg_is in
    let p = err_from_is_err_and c.from_residual.result c.from_residual.ensures.1 in
    rw (p.1, p.2) (so_far.1 ∙ ap (λ (ps : List Param). passed store ps (drop i values) h) q.is
    ∙ ap (λ (as_ : List Arg). passed store (q.param ∷ drop (i + 1) qs) as_ h) a.is
    ∙ step (drop (i + 1) qs) (drop (i + 1) values))

pub loop-i-preserved : goal.loop-i-preserved
loop-i-preserved c =
    let i = c.loop-i.i in
    let within : i < length c.args.params.now = omega (arith, c.loop-i-test.true, c.min-i-end.ensures) in
    let within_args : i < length c.args.args.now = omega (arith, c.loop-i-test.true, c.min-i-end.ensures) in (
      c.in_ok-pass_integer.ensures.count ∙ c.loop-i.invariant.0,
      λ s. c.in_ok-pass_integer.ensures.blocks s ∙ c.loop-i.invariant.1 s,
      λ names callee_names store qs values blocks g shows theirs are args.
          let so_far = c.loop-i.invariant.2 names callee_names store qs values blocks g shows theirs are args in
          let q = next_param callee_names c.args.params.now qs i are.0 within in
          let a = next_arg names c.args.args.now values i c.index-args-i.result args within_args c.index-args-i.is in
          let h = so_far.0 in
          let step = c.in_ok-pass_integer.ensures.store names callee_names store q.param a.value blocks h shows so_far.2 q.named a.arg_is in (
            step.0,
            so_far.1 ∙ ap (λ (ps : List Param). passed store ps (drop i values) h) q.is
                ∙ ap (λ (as_ : List Arg). passed store (q.param ∷ drop (i + 1) qs) as_ h) a.is
                ∙ step.1 (drop (i + 1) qs) (drop (i + 1) values),
            step.2,
          ),
    )

pub returns-clause-store : goal.returns-clause-store
returns-clause-store c names callee_names store qs values blocks g shows theirs are args =
    let i = c.loop-i.i in
    let so_far = c.loop-i.invariant.2 names callee_names store qs values blocks g shows theirs are args in
    let first = params_count callee_names c.args.params.now qs are.0 in
    let second = values_count names c.args.args.now values args.0 in
    let last = passed_end store qs values so_far.0 i (omega (arith, first, second, c.min-i-end.ensures, c.loop-i-test.false)) in
    (so_far.0, so_far.1 ∙ last, so_far.2)
