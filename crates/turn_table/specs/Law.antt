-- What a row of turns keeps, and what each call owes.
use Rattle.std.specs.Prelude.{◌≡◌, ℕ, ◌+◌, ◌%◌, ◌^◌, ◌<◌, ◌≤◌, false, List, [], ◌∷◌, ◌++◌, length, slice_set, Result, MatchResult, Vec}
use mathlib.Core.Option.{some}
use lib.ListN.{get_elem?}
use Rattle.turn_table.specs.declared.look.Look.{Look}
use Rattle.turn_table.specs.declared.hand.Hand.{Hand}
use Rattle.turn_table.specs.declared.still_held.StillHeld.{StillHeld}
use Rattle.turn_table.specs.Hands.{turn, Shows, showing, without_slot, renewed, fresh, spent, noted, took, refused, counted, gave}
use Rattle.turn_table.specs.Seats.{SeatView}

-- The table's own part: each slot shows a value, no turn is held twice, a held slot shows what the hand says, and a hand without a seat is
-- spent
pub record Fits {V N : Type 0} (blank : N) (slots : ℕ) (shown : List V) (hands : List (Hand V N)) : Type 0 where
  pub long : length shown ≡ slots
  pub once : (i : ℕ) → turn hands i ≤ 1
  pub shows : (j : ℕ) (h : Hand V N) → get_elem? hands j ≡ some h → Shows shown h.holds
  pub over : (j : ℕ) (h : Hand V N) → get_elem? hands j ≡ some h → h.seated ≡ false → h ≡ spent blank

module _ {K V N : Type 0} (fact : K → List V → ℕ → List (Hand V N) → Type 0) (blank : N) (key : K) where
  -- in a state that shows these values, with this count and these hands, the law holds and the seat has its hand
  pub record Stands (seat : SeatView K V N) (shown : List V) (count : ℕ) (hands : List (Hand V N)) : Type 0 where
    pub fits : Fits blank seat.table.slots shown hands
    pub kept : fact key shown count hands
    pub mine : get_elem? hands seat.number ≡ some seat.hand

  -- whatever is shown, counted and held besides
  abbrev pub Always : SeatView K V N → (List V → ℕ → List (Hand V N) → Type 0) → Type 0
  Always seat P = (shown : List V) (count : ℕ) (hands : List (Hand V N)) → Stands seat shown count hands → P shown count hands

  -- some state meets the law with this seat's hand
  abbrev pub Meets : SeatView K V N → Type 0
  Meets seat = (shown : List V) × (count : ℕ) × (hands : List (Hand V N)) × Stands seat shown count hands

  -- and the turn word of the slot is this one there
  abbrev pub MeetsHeld : SeatView K V N → ℕ → ℕ → Type 0
  MeetsHeld seat i seen = (shown : List V) × (count : ℕ) × (hands : List (Hand V N)) × Stands seat shown count hands × (turn hands i ≡ seen)

  -- a take of a free slot keeps the law, whatever value it shows
  abbrev pub TakeKeeps : SeatView K V N → ℕ → (Hand V N → Look V → N) → Type 0
  TakeKeeps seat i note =
      Always seat (λ shown count hands. turn hands i ≡ 0 → (v : V) → get_elem? shown i ≡ some v
      → fact key shown count (slice_set hands seat.number (took note seat.hand i v)))

  -- a take that finds the turn held keeps it
  abbrev pub HeldKeeps : SeatView K V N → ℕ → (Hand V N → Look V → N) → Type 0
  HeldKeeps seat i note =
      Always seat (λ shown count hands. turn hands i ≡ 1 → fact key shown count (slice_set hands seat.number (refused note seat.hand i 1)))

  -- a count keeps it, which wraps at 64 bits
  abbrev pub CountKeeps : SeatView K V N → (Hand V N → Look V → N) → Type 0
  CountKeeps seat note =
      Always seat (λ shown count hands. count < 2 ^ 64
      → fact key shown ((count + 1) % 2 ^ 64) (slice_set hands seat.number (counted note seat.hand count)))

  -- a put back of the value into the slot keeps it, where f says what the other held slots show from then on
  abbrev pub PutKeeps : SeatView K V N → ℕ → V → (Hand V N → N) → (ℕ → V → V) → Type 0
  PutKeeps seat i value note f =
      Always seat (λ shown count hands. fact key (showing shown ((i, value) ∷ renewed f (without_slot i seat.hand.holds))) count
      (slice_set hands seat.number (gave note f seat.hand i)))

  -- a split keeps it: the seat has one note, and a new seat, which is the last, the other
  abbrev pub SplitKeeps : SeatView K V N → N → N → Type 0
  SplitKeeps seat left right =
      Always seat (λ shown count hands. fact key shown count (slice_set hands seat.number (noted seat.hand left) ++ fresh right ∷ []))

  -- a join of `from` into `into` keeps it
  abbrev pub JoinKeeps : SeatView K V N → SeatView K V N → N → Type 0
  JoinKeeps into from note = Always into (λ shown count hands. Stands from shown count hands → ¬ (from.number ≡ into.number)
      → fact key shown count (slice_set (slice_set hands into.number (noted into.hand note)) from.number (spent blank)))

  -- The last state meets the law with this seat's hand. No turn is held there, and these are the values, or this is the first slot whose
  -- turn is held
  abbrev pub Closes : {A : Type 0} → SeatView K V N → Result (Vec V A) StillHeld → Type 0
  Closes seat r = (shown : List V) × (count : ℕ) × (hands : List (Hand V N)) × Stands seat shown count hands
      × MatchResult r (λ values. ((i : ℕ) → i < seat.table.slots → turn hands i ≡ 0)
      × (values.items ≡ shown)) (λ e. (turn hands e.slot ≡ 1) × ((j : ℕ) → j < e.slot → turn hands j ≡ 0))
