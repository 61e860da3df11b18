-- What the table below keeps.
-- Each slot has a turn word, eight words apart, and the word after these counts.
use Rattle.std.specs.Prelude.{◌≡◌, ℕ, ◌+◌, ◌*◌, ◌<◌, false, List, [], ◌∷◌, map, length, replicate, slice_index, Option, Some, None, ◌⊎◌}
use mathlib.Core.Option.{some, none}
use lib.ListN.{get_elem?}
use Rattle.atomic_table.specs.Table.{State}
use Rattle.turn_table.specs.declared.hand.Hand.{Hand}
use Rattle.turn_table.specs.declared.place.Place.{Place}
use Rattle.turn_table.specs.declared.opening.Opening.{Opening}
use Rattle.turn_table.specs.Hands.{turn, spent}
use Rattle.turn_table.specs.Law.{Fits}

-- Where the turn word of a slot is. Eight words are a line of the processor's cache, so no two slots share one.
abbrev pub turn_word : ℕ → ℕ
turn_word slot = slot * 8

module _ {K V N : Type 0} where
  -- the view of the first seat, before it has a note
  abbrev pub unopened : K → N → Place K V N
  unopened key blank = record { key = Some key; hand = spent blank }

  abbrev pub hands_of : List (Place K V N) → List (Hand V N)
  hands_of views = map (λ p. p.hand) views

  -- nobody has stepped yet
  pub record Unopened (blank : N) (about : Opening K V) (s : State (Option V) (Place K V N)) : Type 0 where
    pub words : s.words ≡ replicate (turn_word (length s.homes) + 8) 0
    pub homes : s.homes ≡ map some about.values.value.items
    pub views : s.views ≡ unopened about.key.value blank ∷ []

  -- A seat without a hand has no key, which tells it from one that has no note yet. A slot whose turn is free is at home and has the value
  -- that it shows, and one whose turn is held is out
  pub record Row (fact : K → List V → ℕ → List (Hand V N)
      → Type 0) (blank : N) (about : Opening K V) (s : State (Option V) (Place K V N)) : Type 0 where
    pub shown : List V
    pub hands : List (Hand V N)
    pub same : hands_of s.views ≡ hands
    pub sized : length s.homes ≡ length about.values.value.items
    pub wide : length s.words ≡ turn_word (length s.homes) + 8
    pub turns : (i : ℕ) → i < length s.homes → slice_index s.words (turn_word i) ≡ turn hands i
    pub home : (i : ℕ) (v : V) → turn hands i ≡ 0 → get_elem? shown i ≡ some v → get_elem? s.homes i ≡ some (some (Some v))
    pub out : (i : ℕ) → i < length s.homes → 0 < turn hands i → get_elem? s.homes i ≡ some none
    pub opened : (j : ℕ) (p : Place K V N) → get_elem? s.views j ≡ some p → p.hand.seated ≡ false → p.key ≡ None
    pub fits : Fits blank (length s.homes) shown hands
    pub kept : fact about.key.value shown (slice_index s.words (turn_word (length s.homes))) hands

  abbrev pub Rule : (K → List V → ℕ → List (Hand V N) → Type 0) → N → Opening K V → State (Option V) (Place K V N) → Type 0
  Rule fact blank about s = Unopened blank about s ⊎ Row fact blank about s
