use Rattle.std.proofs.Common.{ap, ◌∙◌, refl}
use Rattle.command_line.specs.Arguments.{arguments_of}
use Rattle.dfd_run.proofs.GivenWords.{same_words}
use Rattle.dfd_plays.specs.declared.status.Status.TheVariants.{OutOfMemory}
use Rattle.dfd_run.proofs.program.exit_code.Goals as goal

pub returns-in_default-clause-ends : goal.returns-in_default-clause-ends
returns-in_default-clause-ends g c = (OutOfMemory, (c.code.ensures, (tt, (refl, refl))))

pub returns-clause-ends : goal.returns-clause-ends
returns-clause-ends g c =
    let same = ap arguments_of c.deref.ensures.value ∙ c.in-Ok.ensures.given in
    (c.dfd.result, (c.code-2.ensures, (same_words _ _ _ _ _ _ _ c.dfd.result same c.dfd.ensures.ends, c.dfd.ensures.counts)))
