use Rattle.std.proofs.Common.{◌≡◌, ◌<◌, ◌≤◌, ◌∙◌, refl, sym, ap, arith, length}
use Rattle.std.specs.Prelude.{nat_lt}
use Rattle.dag_order.specs.declared.fault.FaultKind.TheVariants as faults
use Rattle.thread_state.specs.Passed.Run.{names_in, assigns_in}
use Rattle.thread_state.specs.Passed.Middle.{statements, step_par}
use Rattle.node_table.specs.Names.{slot_names}
use Rattle.thread_run.proofs.Coming.{faulted, forks_now, forks_never, left_branch, right_branch}
use Rattle.thread_run.proofs.acts.both.Goals as goal

pub returns-then-len-lt-MOST_FORKS-clause-meaning : goal.returns-then-len-lt-MOST_FORKS-clause-meaning
returns-then-len-lt-MOST_FORKS-clause-meaning c = λ t k setting g a b node gs xs fs s at.
    let label = c.label.ensures ∙ at.state.label in
    let long : c.len.result ≡ length s.label = c.len.ensures ∙ ap length label in
    let most = at.setting.forks in
    let within : length s.label < setting.most_forks = omega (arith, long, most, c.if-len-lt-MOST_FORKS.true) in (
      at.state,
      record {
        named = names_in a;
        assigned = assigns_in a;
        work = statements a;
        mine = statements b;
        forks = sym (forks_now setting c.args.line a b fs s within);
        behind = at.frames;
        taken = (a, b, refl, node);
        joined = (a, b, refl, node);
        work_of = tt;
        of_child = (a, refl, left_branch setting.program t (slot_names g) c.args.number a b node);
        of_parent = (b, refl, right_branch setting.program t (slot_names g) c.args.number a b node);
      },
    )

pub returns-else-len-lt-MOST_FORKS-clause-meaning : goal.returns-else-len-lt-MOST_FORKS-clause-meaning
returns-else-len-lt-MOST_FORKS-clause-meaning c = λ t k setting g a b node gs xs fs s at.
    let label = c.label.ensures ∙ at.state.label in
    let long : c.len.result ≡ length s.label = c.len.ensures ∙ ap length label in
    let most = at.setting.forks in
    let beyond : setting.most_forks ≤ length s.label = omega (arith, long, most, c.if-len-lt-MOST_FORKS.false) in
    faulted t k setting g gs c.args.state.now xs fs s faults.Depth c.args.line (step_par (nat_lt (length s.label) setting.most_forks) setting c.args.line a b fs s) c.fault.result
    c.fault.ensures at (forks_never setting c.args.line a b fs s beyond)
