use Rattle.dfd_plays.proofs.Answers.{refused_source}
use Rattle.dfd_plays.specs.Answer.{CheckMakes}
use Rattle.dfd_plays.proofs.checking.check.Goals as goal

pub returns-in-Err : goal.returns-in-Err
returns-in-Err c = refused_source CheckMakes _ _ _ c.in-Err.ensures c.refusal_answer.ensures
