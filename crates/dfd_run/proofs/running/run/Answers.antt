use Rattle.std.proofs.lemmas.Result.{IfOk-weaker}
use Rattle.block_check.specs.Checked.{program_of}
use Rattle.par_tree.specs.View.{program_tree}
use Rattle.dfd_plays.proofs.Answers.{refused_source}
use Rattle.dfd_plays.proofs.Plays.{source_of_play}
use Rattle.dfd_plays.specs.Play.{Reports}
use Rattle.dfd_plays.specs.Threads.{IsRunByThreads, RunMakes}
use Rattle.dfd_run.proofs.running.run.Goals as goal

pub returns-in-Ok : goal.returns-in-Ok
returns-in-Ok g c = IfOk-weaker c.run_program.result _ _
    (λ answer makes. source_of_play IsRunByThreads Reports c.args.command.now c.args.bytes.now (program_tree (program_of c.in-Ok.program)) answer.status
    answer.text.items c.in-Ok.ensures.0 c.in-Ok.ensures.1 makes) c.run_program.ensures

pub returns-in-Err : goal.returns-in-Err
returns-in-Err g c = refused_source (RunMakes c.args.command.now) _ _ _ c.in-Err.ensures c.refusal_answer.ensures
