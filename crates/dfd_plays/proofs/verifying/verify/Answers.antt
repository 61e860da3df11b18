use Rattle.std.proofs.Common.{inl, refl, subst}
use Rattle.trail_text.specs.Reading.{IsFailure}
use Rattle.dfd_plays.proofs.verifying.verify.Goals as goal

pub returns-in_ok-not_trail_text-in-Err-NotTrail : goal.returns-in_ok-not_trail_text-in-Err-NotTrail
returns-in_ok-not_trail_text-in-Err-NotTrail c = inl (
  c.in-Err-NotTrail.at,
  (
    subst (IsFailure c.args.bytes.now) c.in-Err-NotTrail.field-0-is c.in-Err-NotTrail.ensures,
    (refl, c.in_ok-not_trail_text-in-Err-NotTrail.ensures),
  ),
)
