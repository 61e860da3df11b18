-- What a state of a row tells of its slots, its turn words and its hands.
use Rattle.std.proofs.Common.{◌≡◌, ◌≢◌, ℕ, suc, ◌<◌, inl, inr, List, [], ◌∷◌, length, refl, sym, ap, ◌∙◌, subst, arith}
use mathlib.Core.Option.{some, some-injective}
use mathlib.Core.Logic.{dite}
use native.Mathlib.Decide.{ℕ_discrete, dec_lt}
use lib.ListN.{get_elem?}
use Rattle.turn_table.specs.declared.hand.Hand.{Hand}
use Rattle.turn_table.specs.Hands.{Has, times, turn, Shows}
use Rattle.turn_table.specs.Notes.{HasAs}
use Rattle.atomic_table.specs.Seated.{TableId}
use Rattle.turn_table.specs.declared.turns.Turns.{Turns}
use Rattle.turn_table.specs.Seats.{SeatView}
use Rattle.turn_table.specs.Tables.{slot_count, IsSeatOf}
use Rattle.turn_table.specs.Law.{Fits}
use Rattle.turn_table.proofs.Hands.{times_has, has_times, turn_at, turn_two, shows_within}

module _ {V : Type 0} where
  pub has_as : (i : ℕ) (v : V) (xs : List (ℕ × V)) → HasAs i v xs → Has i xs
  has_as i v [] h = absurd h
  has_as i v (x ∷ xs) (inl e) = inl e.0
  has_as i v (x ∷ xs) (inr h) = inr (has_as i v xs h)

  -- a held slot shows what the hand says
  pub shown_as : (shown : List V) (i : ℕ) (v : V) (xs : List (ℕ × V)) → Shows shown xs → HasAs i v xs → get_elem? shown i ≡ some v
  shown_as shown i v [] s h = absurd h
  shown_as shown i v (x ∷ xs) s (inl e) = ap (get_elem? shown) (sym e.0) ∙ s.0 ∙ ap (λ (u : V). some u) e.1
  shown_as shown i v (x ∷ xs) s (inr h) = shown_as shown i v xs s.1 h

  -- and is a slot
  pub held_within : (shown : List V) (i : ℕ) (xs : List (ℕ × V)) → Shows shown xs → Has i xs → i < length shown
  held_within shown i xs s h = shows_within shown i xs s (times_has i xs h)

module _ {V N : Type 0} where
  -- where a turn word is not 0, a hand holds the turn
  pub some_holder : (hands : List (Hand V N)) (i : ℕ) → 0 < turn hands i → (k : ℕ) × (g : Hand V N) × (get_elem? hands k ≡ some g) × Has i g.holds
  some_holder [] i h = absurd (omega arith)
  some_holder (x ∷ xs) i h = dite (dec_lt 0 (times i x.holds)) (λ y. (0, x, refl, has_times i x.holds y))
      (λ n. let r = some_holder xs i (let z : times i x.holds ≡ 0 = omega arith in omega arith) in (suc r.0, r.1, r.2, r.3))

  -- a hand that holds a turn makes its word 1
  pub word_of_held : (blank : N) (slots : ℕ) (shown : List V) (hands : List (Hand V N)) → Fits blank slots shown hands → (j : ℕ) (h : Hand V N) (i : ℕ) → get_elem? hands j ≡ some h → Has i h.holds → turn hands i ≡ 1
  word_of_held blank slots shown hands f j h i at has = let t = turn_at hands j h i at in let p = times_has i h.holds has in let o = f.once i in omega arith

  -- no two hands hold one turn
  pub one_holder : (blank : N) (slots : ℕ) (shown : List V) (hands : List (Hand V N)) → Fits blank slots shown hands → (j k : ℕ) (h g : Hand V N) (i : ℕ) → get_elem? hands j ≡ some h → get_elem? hands k ≡ some g → Has i h.holds → Has i g.holds → k ≡ j
  one_holder blank slots shown hands f j k h g i at at' has has' = dite (ℕ_discrete k j) (λ e. e)
      (λ n. let t = turn_two hands j k h g i n at at' in let p = times_has i h.holds has in let q = times_has i g.holds has' in let o = f.once i in absurd (omega arith))

  -- a turn that is held, and not by this hand, is held by another
  pub other_holder : (hands : List (Hand V N)) (j : ℕ) (h : Hand V N) (i : ℕ) → get_elem? hands j ≡ some h → ¬ (Has i h.holds) → turn hands i ≡ 1 → (k : ℕ) × (g : Hand V N) × (k ≢ j) × (get_elem? hands k ≡ some g) × Has i g.holds
  other_holder hands j h i at none one = let r = some_holder hands i (omega arith) in
      (r.0, r.1, (λ e. let same : h ≡ r.1 = some-injective h r.1 (sym at ∙ ap (get_elem? hands) (sym e) ∙ r.2) in none (subst (λ (x : Hand V N). Has i x.holds) (sym same) r.3)), r.2, r.3)

-- a seat of the table sees as many slots as the table has
pub slots_of_seat : {V L K N : Type 0} (turns : Turns V L K N) (seat : SeatView K V N) → IsSeatOf turns seat → seat.table.slots ≡ slot_count turns
slots_of_seat turns seat is = ap (λ (t : TableId). t.slots) is.0
