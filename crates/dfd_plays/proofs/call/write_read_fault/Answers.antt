use Rattle.dfd_plays.proofs.Answers.{ends_at_fault}
use Rattle.dfd_plays.specs.declared.status.Status.TheVariants.{ReadFault}
use Rattle.dfd_plays.proofs.call.write_read_fault.Goals as goal

pub returns-in-Ok-clause-ends : goal.returns-in-Ok-clause-ends
returns-in-Ok-clause-ends g c = λ command reads later left rest rose.
    (c.as_bytes.result.now, ((rose, c.as_bytes.ensures.value), c.in-Ok.ensures.whole))

pub returns-in-Err-clause-ends : goal.returns-in-Err-clause-ends
returns-in-Err-clause-ends g c = λ command reads later left rest rose.
    ends_at_fault _ _ _ ReadFault c.as_bytes.result.now (rose, c.as_bytes.ensures.value) c.in-Err.ensures.front
