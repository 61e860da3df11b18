use Rattle.std.proofs.Common.{Result, refl, sym, subst}
use Rattle.dag_order.specs.declared.fault.FaultKind.{FaultKind}
use Rattle.depth_first_run.specs.Stores.{nothing}
use Rattle.depth_first_run.specs.Calls.{Passing}
use Rattle.thread_state.specs.Calls.{Refuses}
use Rattle.thread_state.proofs.state.ThreadState.refusal.Goals as goal

pub returns-in-Ok : goal.returns-in-Ok
returns-in-Ok c names callee_names store qs values shows are args =
    let found = c.in-Ok.ensures names callee_names store qs values (record { callee = nothing; caller = store }) shows are args in
    subst (λ (r : Result Passing FaultKind). Refuses c.args.limit c.args.limit r) (sym found.1) refl
