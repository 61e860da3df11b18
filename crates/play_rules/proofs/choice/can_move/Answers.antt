use Rattle.std.proofs.Common.{inl, refl, sym}
use Rattle.play_rules.proofs.choice.can_move.Goals as goal

pub returns-in-Some : goal.returns-in-Some
returns-in-Some c = (λ is. inl (c.in-Some.field-0.now, sym c.in-Some.ensures), λ can. refl)
