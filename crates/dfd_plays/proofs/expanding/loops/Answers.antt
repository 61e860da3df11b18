use Rattle.std.proofs.Common.{Ok}
use Rattle.std.proofs.lemmas.Result.{IfOk-weaker}
use Rattle.dfd_plays.proofs.Expansions.{expansion_refused}
use Rattle.dfd_plays.proofs.Plays.{both_ok}
use Rattle.dfd_plays.specs.Sources.{SourceGives}
use Rattle.dfd_plays.specs.Play.{PlayMakes}
use Rattle.dfd_plays.proofs.expanding.loops.Goals as goal

pub returns-in-Ok : goal.returns-in-Ok
returns-in-Ok c = IfOk-weaker c.play.result _ _
    (λ answer makes. (Ok c.deref.result.now, rw c.deref.ensures.value c.in-Ok.ensures, makes)) c.play.ensures

pub returns-in-Err : goal.returns-in-Err
returns-in-Err c = both_ok c.unexpanded_answer.result _ _ _ c.unexpanded_answer.ensures.status c.unexpanded_answer.ensures.line
    (λ answer status line. expansion_refused (SourceGives (PlayMakes c.args.command.now)) c.args.bytes.now _ answer.status answer.text.items
    c.in-Err.ensures status line)
