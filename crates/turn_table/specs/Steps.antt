-- What each step on the table below tells.
use Rattle.std.specs.Prelude.{◌≡◌, ℕ, List, ◌∷◌, Option, Some, None}
use Rattle.atomic_table.specs.Table.{Me, rest}
use Rattle.atomic_table.specs.Seated.{TableId}
use Rattle.turn_table.specs.declared.look.Look.{Look}
use Rattle.turn_table.specs.declared.hand.Hand.{Hand}
use Rattle.turn_table.specs.declared.place.Place.{Place}
use Rattle.turn_table.specs.Hands.{without_slot, took, refused, counted, gave}
use Rattle.turn_table.specs.Seats.{SeatView}
use Rattle.turn_table.specs.Law.{Meets, MeetsHeld}
use Rattle.turn_table.specs.Rows.{turn_word}

-- what a step on this word says of the slot whose turn word it is
abbrev pub OfWord : ℕ → (ℕ → Type 0) → Type 0
OfWord word Told = (slot : ℕ) → turn_word slot ≡ word → Told slot

module _ {K V N : Type 0} where
  -- the same seat with another hand
  abbrev pub with : Place K V N → Hand V N → Place K V N
  with p hand = record { key = p.key; hand = hand }

  abbrev pub placed : TableId → ℕ → Place K V N → SeatView K V N
  placed table number p = record { table = table; number = number; key = p.key; hand = p.hand }

  -- a step that only brings the slot i to the front of those that are out
  abbrev pub Fronted : ℕ → Me (Option V) (Place K V N) → Me (Option V) (Place K V N) → Type 0
  Fronted i m m' = m' ≡ (m.0, (i, None) ∷ without_slot i m.1)

module _ {K V N : Type 0} (fact : K → List V → ℕ → List (Hand V N) → Type 0) (blank : N) (key : K) (table : TableId) (number : ℕ) where
  -- a take of the slot i: it has the value that it shows, or was refused by the word found
  abbrev pub Tried : ℕ → (Hand V N → Look V → N) → Me (Option V) (Place K V N) → ℕ → Me (Option V) (Place K V N) → Type 0
  Tried i note m n m' =
      (n ≡ 0 → (v : V) × (m' ≡ (with m.0 (took note m.0.hand i v), (i, Some v) ∷ m.1)) × Meets fact blank key (placed table number m'.0))
      × (¬ (n ≡ 0) → (m' ≡ (with m.0 (refused note m.0.hand i n), m.1)) × MeetsHeld fact blank key (placed table number m'.0) i n)

  -- a count
  abbrev pub Drew : (Hand V N → Look V → N) → Me (Option V) (Place K V N) → ℕ → Me (Option V) (Place K V N) → Type 0
  Drew note m n m' = (m' ≡ (with m.0 (counted note m.0.hand n), m.1)) × Meets fact blank key (placed table number m'.0)

  -- the turn of the slot i, which was out first, goes back
  abbrev pub Gave : ℕ → (Hand V N → N) → (ℕ → V → V) → Me (Option V) (Place K V N) → Me (Option V) (Place K V N) → Type 0
  Gave i note f m m' = (m' ≡ (with m.0 (gave note f m.0.hand i), rest m.1)) × Meets fact blank key (placed table number m'.0)
