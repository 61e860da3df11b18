use Rattle.std.proofs.lemmas.Result.{IfOk-weaker}
use Rattle.block_check.specs.Checked.{program_of}
use Rattle.par_tree.specs.View.{program_tree}
use Rattle.dfd_plays.proofs.Answers.{refused_source}
use Rattle.dfd_plays.specs.Play.{IsPlay}
use Rattle.dfd_plays.proofs.Plays.{source_of_play}
use Rattle.dfd_plays.specs.Trails.{Records, TrailMakes}
use Rattle.dfd_plays.proofs.trailing.trail.Goals as goal

pub returns-in-Ok : goal.returns-in-Ok
returns-in-Ok c = IfOk-weaker c.trail_program.result _ _
    (λ answer makes. source_of_play IsPlay (Records c.args.command.now c.args.bytes.now) c.args.command.now c.args.bytes.now
    (program_tree (program_of c.in-Ok.program)) answer.status answer.text.items c.in-Ok.ensures.0 c.in-Ok.ensures.1 makes) c.trail_program.ensures

pub returns-in-Err : goal.returns-in-Err
returns-in-Err c = refused_source (TrailMakes c.args.command.now c.args.bytes.now) _ _ _ c.in-Err.ensures c.refusal_answer.ensures
