use Rattle.std.proofs.Common.{ap}
use Rattle.scheduler_state.specs.Held.{held}
use Rattle.list_changes.proofs.Putting.{live, pushed}
use Rattle.worker_step.proofs.tops.put_back.Goals as goal

pub push_top-requires-clause-live : goal.push_top-requires-clause-live
push_top-requires-clause-live c = live c.requires.stands.1

pub returns-clause-held : goal.returns-clause-held
returns-clause-held c items stands = ap (λ ds. record (held c.args.scheduler.now) { deques = ds }) (pushed stands c.push_top.new.self c.args.top c.push_top.ensures.deque).deques_are
