use Rattle.std.proofs.Common.{refl}
use Rattle.hall_parts.proofs.Waits.{taken_out}
use Rattle.hall_parts.proofs.list_calls.take_waiting.Goals as goal

pub returns-clause-taken : goal.returns-clause-taken
returns-clause-taken c =
    taken_out c.args.list.now (record c.args.list.now { part = record c.args.list.now.part { waiting = c.take.new.self } }) c.args.child refl c.take.result
    c.take.ensures.entries
