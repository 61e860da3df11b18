-- What a seat holds, as plain data.
use Rattle.std.specs.Prelude.{◌≡◌, ℕ, ◌+◌, true, false, List, [], ◌∷◌, ◌++◌, map, slice_set, if◌then◌else◌, ◌==◌, ◌⊎◌}
use Rattle.std.specs.Borrow.{Bor}
use mathlib.Core.Option.{some}
use lib.ListN.{get_elem?}
use Rattle.turn_table.specs.declared.look.Look.{Look}
use Rattle.turn_table.specs.declared.look.Look.TheVariants.{Took, Refused, Counted}
use Rattle.turn_table.specs.declared.hand.Hand.{Hand}

module _ {V : Type 0} where
  -- the slot is among these
  abbrev pub Has : ℕ → List (ℕ × V) → Type 0
  Has i [] = ⊥
  Has i (x ∷ xs) = (x.0 ≡ i) ⊎ Has i xs

  -- how often the slot is among these
  abbrev pub times : ℕ → List (ℕ × V) → ℕ
  times i [] = 0
  times i (x ∷ xs) = (if x.0 == i then 1 else 0) + times i xs

  -- what is left of these when the slot goes
  abbrev pub without_slot : ℕ → List (ℕ × V) → List (ℕ × V)
  without_slot i [] = []
  without_slot i (x ∷ xs) = if x.0 == i then xs else x ∷ without_slot i xs

  -- the same slots, each with the value that f gives it
  abbrev pub renewed : (ℕ → V → V) → List (ℕ × V) → List (ℕ × V)
  renewed f xs = map (λ x. (x.0, f x.0 x.1)) xs

  -- slots with values that are lent, as slots with these values
  abbrev pub told : List (ℕ × Bor V) → List (ℕ × V)
  told xs = map (λ x. (x.0, x.1.now)) xs

  -- what a slot shows that showed v: the value that stands beside it here, where it is named
  abbrev pub shown_by : List (ℕ × V) → ℕ → V → V
  shown_by [] i v = v
  shown_by (x ∷ xs) i v = if x.0 == i then x.1 else shown_by xs i v

  -- each of these slots shows its value here
  abbrev pub Shows : List V → List (ℕ × V) → Type 0
  Shows shown [] = Unit {0}
  Shows shown (x ∷ xs) = (get_elem? shown x.0 ≡ some x.1) × Shows shown xs

  -- the values shown, once each of these slots shows its value
  abbrev pub showing : List V → List (ℕ × V) → List V
  showing shown [] = shown
  showing shown (x ∷ xs) = slice_set (showing shown xs) x.0 x.1

module _ {V N : Type 0} where
  -- the turn word of a slot: how many of these hands hold it
  abbrev pub turn : List (Hand V N) → ℕ → ℕ
  turn [] i = 0
  turn (h ∷ hands) i = times i h.holds + turn hands i

  -- a hand of a new seat
  abbrev pub fresh : N → Hand V N
  fresh note = record { seated = true; holds = []; note = note; looks = [] }

  -- the hand of a seat that was joined into another
  abbrev pub spent : N → Hand V N
  spent blank = record { seated = false; holds = []; note = blank; looks = [] }

  abbrev pub noted : Hand V N → N → Hand V N
  noted h note = record { seated = h.seated; holds = h.holds; note = note; looks = h.looks }

  -- the hand after a take that found this value
  abbrev pub took : (Hand V N → Look V → N) → Hand V N → ℕ → V → Hand V N
  took note h i v = record { seated = h.seated; holds = (i, v) ∷ h.holds; note = note h (Took i v); looks = h.looks ++ Took i v ∷ [] }

  -- the hand after a take that found this word
  abbrev pub refused : (Hand V N → Look V → N) → Hand V N → ℕ → ℕ → Hand V N
  refused note h i seen =
      record { seated = h.seated; holds = h.holds; note = note h (Refused i seen); looks = h.looks ++ Refused i seen ∷ [] }

  -- the hand after a count that found this word
  abbrev pub counted : (Hand V N → Look V → N) → Hand V N → ℕ → Hand V N
  counted note h found = record { seated = h.seated; holds = h.holds; note = note h (Counted found); looks = h.looks ++ Counted found ∷ [] }

  -- the hand after a put back of this slot, where f says what the other slots show
  abbrev pub gave : (Hand V N → N) → (ℕ → V → V) → Hand V N → ℕ → Hand V N
  gave note f h i = record { seated = h.seated; holds = renewed f (without_slot i h.holds); note = note h; looks = h.looks }
