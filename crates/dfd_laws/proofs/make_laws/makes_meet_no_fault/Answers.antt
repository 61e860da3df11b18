use Rattle.dfd_laws.proofs.MadeAnswers.{makes_meet_no_fault}
use Rattle.dfd_laws.proofs.make_laws.makes_meet_no_fault.Goals as goal

pub returns : goal.returns
returns c = makes_meet_no_fault
