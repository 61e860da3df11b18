-- The last state of a row, as what is closed shows it.
use Rattle.std.proofs.Common.{◌≡◌, ◌≢◌, ℕ, suc, ◌<◌, true, Option, Some, List, [], ◌∷◌, map, length, slice_index, refl, sym, ap, ◌∙◌, subst, arith}
use mathlib.Core.Option.{some}
use lib.ListN.{get_elem?}
use Rattle.atomic_table.specs.Table.{Final, Seen}
use Rattle.atomic_table.specs.Seated.{TableId}
use Rattle.turn_table.specs.declared.hand.Hand.{Hand}
use Rattle.turn_table.specs.declared.place.Place.{Place}
use Rattle.turn_table.specs.declared.opening.Opening.{Opening}
use Rattle.turn_table.specs.Hands.{turn}
use Rattle.turn_table.specs.Law.{Stands}
use Rattle.turn_table.specs.Rows.{turn_word, Rule}
use Rattle.turn_table.specs.Seats.{SeatView}
use Rattle.turn_table.specs.Values.{present}
use Rattle.turn_table.specs.Steps.{placed}
use Rattle.turn_table.proofs.Hands.{at_within, read_at}
use Rattle.turn_table.proofs.Rows.{stands, opened}
use Rattle.turn_table.proofs.Wraps.{present-some}

module _ {K V N : Type 0} (fact : K → List V → ℕ → List (Hand V N) → Type 0) (blank : N) (about : Opening K V) where
  -- a state of which the words and the slots tell what is closed
  pub record Last (table : TableId) (id : ℕ) (p : Place K V N) (words : List ℕ) (slots : List (Option V)) : Type 0 where
    pub shown : List V
    pub count : ℕ
    pub hands : List (Hand V N)
    pub stands : Stands fact blank about.key.value (placed table id p) shown count hands
    pub turns : (i : ℕ) → i < table.slots → slice_index words (turn_word i) ≡ turn hands i
    pub values : ((i : ℕ) → i < table.slots → turn hands i ≡ 0) → slots ≡ map Some shown

  same_values : (l : List (Option V)) (shown : List V) → length l ≡ length shown → ((i : ℕ) (v : V) → get_elem? shown i ≡ some v → get_elem? l i ≡ some (Some v)) → l ≡ map Some shown
  same_values [] [] e h = refl
  same_values [] (v ∷ vs) e h = absurd (omega arith)
  same_values (x ∷ xs) [] e h = absurd (omega arith)
  same_values (x ∷ xs) (v ∷ vs) e h = let a : x ≡ Some v = read_at (x ∷ xs) 0 (Some v) x (h 0 v refl) in let b = same_values xs vs (omega arith) (λ i u f. h (suc i) u f) in λ k. a k ∷ b k

  pub closes : (table : TableId) (id : ℕ) (p : Place K V N) (words : List ℕ) (slots : List (Option V)) → p.hand.seated ≡ true → length slots ≡ table.slots → Final (Seen (Rule fact blank about) id p) words slots → Last table id p words slots
  closes table id p words slots seated long last =
      let s = last.0 in let r = opened fact blank about s id p last.1.0 last.1.1 seated in let wide : length s.homes ≡ table.slots = last.3 ∙ long in record {
        shown = r.shown;
        count = slice_index s.words (turn_word (length s.homes));
        hands = r.hands;
        stands = stands fact blank about table s r id p wide last.1.1;
        turns = λ i near. ap (λ (ws : List ℕ). slice_index ws (turn_word i)) (sym last.2) ∙ r.turns i (subst (λ (n : ℕ). i < n) (sym wide) near);
        values = λ free. same_values slots r.shown (long ∙ sym wide ∙ sym r.fits.long)
            (λ i v e. last.4 i (Some v) (r.home i v (free i (let near = at_within r.shown i v e in let l = r.fits.long in omega arith)) e));
      }

  -- no turn is held
  pub all_free : (table : TableId) (id : ℕ) (p : Place K V N) (words : List ℕ) (slots : List (Option V)) (x : SeatView K V N) (n : ℕ) (values : List V) → Last table id p words slots → placed table id p ≡ x → n ≡ table.slots
      → ((j : ℕ) → j < n → get_elem? words (turn_word j) ≡ some 0) → values ≡ present slots
      → (shown : List V) × (count : ℕ) × (hands : List (Hand V N)) × Stands fact blank about.key.value x shown count hands × (((i : ℕ) → i < x.table.slots → turn hands i ≡ 0) × (values ≡ shown))
  all_free table id p words slots x n values last is long zero' e =
      let free : (i : ℕ) → i < table.slots → turn last.hands i ≡ 0 = λ i near. sym (last.turns i near) ∙ read_at words (turn_word i) 0 0 (zero' i (omega arith)) in (
        last.shown,
        last.count,
        last.hands,
        subst (λ y. Stands fact blank about.key.value y last.shown last.count last.hands) is last.stands,
        ((λ i near. free i (subst (λ (y : SeatView K V N). i < y.table.slots) (sym is) near)), e ∙ ap present (last.values free) ∙ present-some last.shown),
      )

  -- this is the first that is
  pub first_held : (table : TableId) (id : ℕ) (p : Place K V N) (words : List ℕ) (slots : List (Option V)) (x : SeatView K V N) (n i : ℕ) → Last table id p words slots → placed table id p ≡ x → n ≡ table.slots
      → (i < n) × ((w : ℕ) × (get_elem? words (turn_word i) ≡ some w) × ¬ (w ≡ 0)) × ((j : ℕ) → j < i → get_elem? words (turn_word j) ≡ some 0)
      → (shown : List V) × (count : ℕ) × (hands : List (Hand V N)) × Stands fact blank about.key.value x shown count hands × ((turn hands i ≡ 1) × ((j : ℕ) → j < i → turn hands j ≡ 0))
  first_held table id p words slots x n i last is long found = let near = found.0 in let w = found.1.0 in
      let at : w ≡ turn last.hands i = sym (read_at words (turn_word i) w 0 found.1.1) ∙ last.turns i (omega arith) in let o = last.stands.fits.once i in (
        last.shown,
        last.count,
        last.hands,
        subst (λ y. Stands fact blank about.key.value y last.shown last.count last.hands) is last.stands,
        ((let taken : turn last.hands i ≢ 0 = λ z. found.1.2 (at ∙ z) in omega arith), (λ j less. sym (last.turns j (omega arith)) ∙ read_at words (turn_word j) 0 0 (found.2 j less))),
      )
