use Rattle.std.proofs.Common.{subst, sym}
use Rattle.std.proofs.lemmas.Result.{IfOk-weaker}
use Rattle.std.specs.Prelude.{OnErr}
use Rattle.worker_entry.specs.Passed.Cores.{terms_at}
use Rattle.hall_threads.specs.Reports.{ComesTo, LacksMemory}
use Rattle.hall_threads.proofs.Left.{tells_its_stop}
use Rattle.hall_threads.proofs.Told.{on_err}
use Rattle.hall_threads.proofs.telling.ran_of.Goals as goal

pub returns-in-Stopped-clause-comes : goal.returns-in-Stopped-clause-comes
returns-in-Stopped-clause-comes c core left s of = IfOk-weaker c.stop_told.result _ _
    (λ ran told. subst (ComesTo s (terms_at core)) (sym told.0) (tells_its_stop core c.args.closing.now left s of c.in-Stopped.stop c.in-Stopped.is told.1)) c.stop_told.ensures.told

pub returns-in-Stopped-clause-cause : goal.returns-in-Stopped-clause-cause
returns-in-Stopped-clause-cause c = subst (λ end. OnErr c.stop_told.result (LacksMemory end)) (sym c.in-Stopped.is) c.stop_told.ensures.cause

pub returns-in-Finished-clause-cause : goal.returns-in-Finished-clause-cause
returns-in-Finished-clause-cause c = on_err c.finish_told.result (subst LacksMemory (sym c.in-Finished.is) tt)
