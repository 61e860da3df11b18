-- How a seat fails, by the answers that it had since.
use Rattle.std.proofs.Common.{◌≡◌, ◌∙◌, Bool, true, false, true≢false, List, sym}
use Rattle.hall_actions.specs.Passed.HallNames.{HallSeat, Slot}
use Rattle.hall_owner.specs.Holding.{FailsBy}
use Rattle.hall_actions.specs.declared.refused.ActRefused.{ActRefused}
use Rattle.turn_table.specs.declared.look.Look.{Look}

-- what these answers show, others may show too
pub fails_too : (Shows Show : List (Look Slot) → ActRefused → Type 0) (refused : ActRefused)
    → ((more : List (Look Slot)) → Shows more refused → Show more refused) → (before after : HallSeat)
    → FailsBy Shows before refused after → FailsBy Show before refused after
fails_too Shows Show refused by before after f = (f.0, by f.0 f.1, f.2)

-- a child that is not delivered is not delivered
pub not_there : {b : Bool} {A : Type 0} → b ≡ false → b ≡ true → A
not_there {b} {A} is there = absurd (true≢false (sym there ∙ is))
