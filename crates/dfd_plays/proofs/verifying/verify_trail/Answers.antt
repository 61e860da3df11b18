use Rattle.std.proofs.Common.{ℕ, List, Err, subst}
use Rattle.accepted_source.specs.Sources.{ReadsSource}
use Rattle.trail_meaning.specs.Shown.{shown_by_trail}
use Rattle.dfd_plays.specs.Trails.{VerifyMakes}
use Rattle.dfd_plays.proofs.Answers.{refused_source}
use Rattle.dfd_plays.proofs.verifying.verify_trail.Goals as goal

pub returns-in-Err : goal.returns-in-Err
returns-in-Err c = refused_source (VerifyMakes (shown_by_trail c.args.trail.now)) _ _ _
    (subst (λ (b : List ℕ). ReadsSource b (Err c.in-Err.fail)) c.deref.ensures.value c.in-Err.ensures) c.refusal_answer.ensures
