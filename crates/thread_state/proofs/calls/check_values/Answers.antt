use Rattle.std.proofs.Common.{◌<◌, ◌+◌, ◌∷◌, List, length, drop, refl, ap, ◌∙◌, arith}
use Rattle.std.proofs.lemmas.Result.{err_from_is_err_and}
use Rattle.depth_first_run.specs.Passed.Tree.{Param, Arg}
use Rattle.depth_first_run.specs.Calls.{passed}
use Rattle.slot_store.proofs.ArgumentsPassed.{next_param, next_arg}
use Rattle.slot_store.proofs.Moving.{params_count, values_count, passed_end}
use Rattle.thread_state.proofs.calls.check_values.Goals as goal

pub returns-in_err-check_value : goal.returns-in_err-check_value
returns-in_err-check_value c names callee_names store qs values g shows are args =
    let i = c.loop-i.i in
    let within : i < length c.args.params.now = omega (arith, c.loop-i-test.true, c.min-i-end.ensures) in
    let within_args : i < length c.args.args.now = omega (arith, c.loop-i-test.true, c.min-i-end.ensures) in
    let so_far = c.loop-i.invariant names callee_names store qs values g shows are args in
    let q = next_param callee_names c.args.params.now qs i are.0 within in
    let a = next_arg names c.args.args.now values i c.index-args-i.result args within_args c.index-args-i.is in
    let h = so_far.0 in
    let step = c.in_err-check_value.ensures names store q.param a.value h shows a.arg_is in
    let p = err_from_is_err_and c.from_residual.result c.from_residual.ensures.1 in
    rw (p.1, p.2) (so_far.1 ∙ ap (λ (ps : List Param). passed store ps (drop i values) h) q.is
    ∙ ap (λ (as_ : List Arg). passed store (q.param ∷ drop (i + 1) qs) as_ h) a.is
    ∙ step (drop (i + 1) qs) (drop (i + 1) values))

pub loop-i-init : goal.loop-i-init
loop-i-init c names callee_names store qs values g shows are args = (g, refl)

pub loop-i-preserved : goal.loop-i-preserved
loop-i-preserved c names callee_names store qs values g shows are args =
    let i = c.loop-i.i in
    let within : i < length c.args.params.now = omega (arith, c.loop-i-test.true, c.min-i-end.ensures) in
    let within_args : i < length c.args.args.now = omega (arith, c.loop-i-test.true, c.min-i-end.ensures) in
    let so_far = c.loop-i.invariant names callee_names store qs values g shows are args in
    let q = next_param callee_names c.args.params.now qs i are.0 within in
    let a = next_arg names c.args.args.now values i c.index-args-i.result args within_args c.index-args-i.is in
    let h = so_far.0 in
    let step = c.in_ok-check_value.ensures names store q.param a.value h shows a.arg_is in (
      step.0,
      so_far.1 ∙ ap (λ (ps : List Param). passed store ps (drop i values) h) q.is
          ∙ ap (λ (as_ : List Arg). passed store (q.param ∷ drop (i + 1) qs) as_ h) a.is
          ∙ step.1 (drop (i + 1) qs) (drop (i + 1) values),
    )

pub returns : goal.returns
returns c names callee_names store qs values g shows are args =
    let i = c.loop-i.i in
    let so_far = c.loop-i.invariant names callee_names store qs values g shows are args in
    let first = params_count callee_names c.args.params.now qs are.0 in
    let second = values_count names c.args.args.now values args.0 in
    let last = passed_end store qs values so_far.0 i (omega (arith, first, second, c.min-i-end.ensures, c.loop-i-test.false)) in
    (so_far.0, so_far.1 ∙ last)
