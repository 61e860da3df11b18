-- What a seat is after it was refused a slot and put back what it took before.
use Rattle.std.specs.Prelude.{◌≡◌, ℕ, List, [], ◌∷◌, ◌++◌}
use Rattle.turn_table.specs.declared.look.Look.{Look}
use Rattle.turn_table.specs.declared.look.Look.TheVariants.{Refused}
use Rattle.turn_table.specs.declared.hand.Hand.{Hand}
use Rattle.turn_table.specs.declared.held.Held.{Held}
use Rattle.turn_table.specs.Seats.{SeatView, with_hand}

-- what a slot shows stays
abbrev pub unchanged : {V : Type 0} → ℕ → V → V
unchanged slot value = value

module _ {V N : Type 0} where
  -- so does a note, at a take, a count or a refusal, and at a put back
  abbrev pub kept : Hand V N → Look V → N
  kept hand look = hand.note

  abbrev pub still : Hand V N → N
  still hand = hand.note

  -- the hand with more answers
  abbrev pub told_more : Hand V N → List (Look V) → Hand V N
  told_more hand more = record { seated = hand.seated; holds = hand.holds; note = hand.note; looks = hand.looks ++ more }

-- The seat holds what it held and notes what it noted. It was told more: last that this slot was refused.
abbrev pub IsBack : {K V N : Type 0} → SeatView K V N → SeatView K V N → Held → Type 0
IsBack {K} {V} {N} before after held =
    (earlier : List (Look V)) × (after ≡ with_hand before (told_more before.hand (earlier ++ Refused held.slot held.seen ∷ [])))
