use Rattle.std.proofs.Common.{length}
use Rattle.std.proofs.lemmas.Result.{IfOk-weaker}
use Rattle.block_check.specs.Checked.{program_of}
use Rattle.par_tree.specs.View.{program_tree}
use Rattle.dfd_plays.proofs.Answers.{refused_source}
use Rattle.dfd_plays.specs.Play.{IsPlay}
use Rattle.dfd_plays.proofs.Plays.{source_of_play}
use Rattle.dfd_plays.proofs.Sums.{short_text}
use Rattle.dfd_plays.specs.Make.{MakeMakes, Summarizes}
use Rattle.dfd_plays.proofs.making.make.Goals as goal

pub make_program-requires-clause-short : goal.make_program-requires-clause-short
make_program-requires-clause-short c = short_text c.args.bytes.now (program_tree (program_of c.in-Ok.program)) c.in-Ok.ensures.0

pub returns-in-Ok : goal.returns-in-Ok
returns-in-Ok c = IfOk-weaker c.make_program.result _ _
    (λ answer makes. source_of_play IsPlay (Summarizes (length c.args.bytes.now)) c.args.command.now c.args.bytes.now
    (program_tree (program_of c.in-Ok.program)) answer.status answer.text.items c.in-Ok.ensures.0 c.in-Ok.ensures.1 makes) c.make_program.ensures

pub returns-in-Err : goal.returns-in-Err
returns-in-Err c = refused_source (MakeMakes c.args.command.now c.args.bytes.now) _ _ _ c.in-Err.ensures c.refusal_answer.ensures
