-- Laws over what the slots show, the count word and what the seats note, and over nothing else of a row.
use Rattle.std.specs.Prelude.{◌≡◌, ℕ, ◌+◌, ◌%◌, ◌^◌, ◌<◌, List, [], ◌∷◌, ◌++◌, map, length, slice_set, ◌⊎◌}
use mathlib.Core.Option.{some}
use lib.ListN.{get_elem?}
use Rattle.turn_table.specs.declared.hand.Hand.{Hand}
use Rattle.turn_table.specs.Hands.{Shows, showing, without_slot, renewed}
use Rattle.turn_table.specs.Seats.{SeatView}

-- the notes of these hands, by number
abbrev pub notes : {V N : Type 0} → List (Hand V N) → List N
notes hands = map (λ h. h.note) hands

-- the slot is among these, with this value
abbrev pub HasAs : {V : Type 0} → ℕ → V → List (ℕ × V) → Type 0
HasAs i v [] = ⊥
HasAs i v (x ∷ xs) = ((x.0 ≡ i) × (x.1 ≡ v)) ⊎ HasAs i v xs

module _ {K V N : Type 0} (P : K → List V → ℕ → List N → Type 0) where
  -- the law, as a fact over a row
  abbrev pub OverNotes : K → List V → ℕ → List (Hand V N) → Type 0
  OverNotes key shown count hands = P key shown count (notes hands)

  -- whatever is shown, counted and noted besides
  abbrev pub Whatever : K → SeatView K V N → (List V → ℕ → List N → Type 0) → Type 0
  Whatever key seat Q =
      (shown : List V) (count : ℕ) (notes : List N) → P key shown count notes → length shown ≡ seat.table.slots
      → Shows shown seat.hand.holds → get_elem? notes seat.number ≡ some seat.hand.note → Q shown count notes

  -- this seat may note another thing
  abbrev pub NoteMay : K → SeatView K V N → N → Type 0
  NoteMay key seat note = Whatever key seat (λ shown count notes. P key shown count (slice_set notes seat.number note))

  -- it may note this when it takes the slot i and finds this value
  abbrev pub TakeMay : K → SeatView K V N → ℕ → V → N → Type 0
  TakeMay key seat i v note =
      Whatever key seat (λ shown count notes. get_elem? shown i ≡ some v → P key shown count (slice_set notes seat.number note))

  -- it may count one further, which wraps at 64 bits, and note what it notes at the word that it found
  abbrev pub CountMay : K → SeatView K V N → (ℕ → N) → Type 0
  CountMay key seat note =
      Whatever key seat (λ shown count notes. count < 2 ^ 64
      → P key shown ((count + 1) % 2 ^ 64) (slice_set notes seat.number (note count)))

  -- it may count one further, and note what it noted
  abbrev pub CountsOn : K → SeatView K V N → Type 0
  CountsOn key seat = Whatever key seat (λ shown count notes. count < 2 ^ 64 → P key shown ((count + 1) % 2 ^ 64) notes)

  -- it may put this value back into the slot i and note this, where f says what its other slots show from then on
  abbrev pub PutMay : K → SeatView K V N → ℕ → V → (ℕ → V → V) → N → Type 0
  PutMay key seat i value f note =
      Whatever key seat (λ shown count notes. P key (showing shown ((i, value) ∷ renewed f (without_slot i seat.hand.holds))) count
      (slice_set notes seat.number note))

  -- it may note the first, and a new seat the second
  abbrev pub SplitMay : K → SeatView K V N → N → N → Type 0
  SplitMay key seat left right =
      Whatever key seat (λ shown count notes. P key shown count (slice_set notes seat.number left ++ right ∷ []))

  -- it may note this, and another seat nothing any more
  abbrev pub JoinMay : K → N → SeatView K V N → SeatView K V N → N → Type 0
  JoinMay key blank into from note =
      Whatever key into (λ shown count notes. ¬ (from.number ≡ into.number) → get_elem? notes from.number ≡ some from.hand.note
      → P key shown count (slice_set (slice_set notes into.number note) from.number blank))
