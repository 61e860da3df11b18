use Rattle.std.proofs.Common.{zero-add}
use Rattle.made_source.specs.MadeSource.{call_line}
use Rattle.made_source.proofs.Growing.{one_line}
use Rattle.made_source.proofs.source.push_calls.Goals as goal

pub calls-preserved : goal.calls-preserved
calls-preserved c =
    one_line call_line _ _ _ 0 c.calls.function c.calls.function (zero-add c.calls.function) c.calls.invariant c.in_ok-push_call.ensures
