-- A seat that alone has places finds every turn free.
use Rattle.std.proofs.Common.{suc-ne-zero, ◌≡◌, ◌≢◌, ℕ, zero, suc, List, [], ◌∷◌, refl, sym, ap, ◌∙◌, arith}
use mathlib.Core.Option.{some, some-injective, some-ne-none}
use lib.ListN.{get_elem?}
use Rattle.turn_table.specs.declared.hand.Hand.{Hand}
use Rattle.turn_table.specs.Hands.{Has, times, turn}
use Rattle.turn_table.proofs.Hands.{times_none}
use Rattle.turn_table.specs.Places.{Rests, OthersHaveNone}

module _ {V N : Type 0} where
  -- where no hand holds anything, no turn is held
  none_held : (hands : List (Hand V N)) → ((j : ℕ) (h : Hand V N) → get_elem? hands j ≡ some h → h.holds ≡ []) → (i : ℕ) → turn hands i ≡ 0
  none_held [] none i = refl
  none_held (h ∷ hands) none i = let here : times i h.holds ≡ 0 = ap (times i) (none 0 h refl) in
      let rest = none_held hands (λ j g at. none (suc j) g at) i in omega arith

  -- where no other hand holds anything, a turn is held as often as this hand holds it
  held_by_one : (hands : List (Hand V N)) (number : ℕ) (mine : Hand V N) → get_elem? hands number ≡ some mine
      → ((j : ℕ) (h : Hand V N) → j ≢ number → get_elem? hands j ≡ some h → h.holds ≡ []) → (i : ℕ) → turn hands i ≡ times i mine.holds
  held_by_one [] number mine at others i = absurd (some-ne-none mine (sym at))
  held_by_one (h ∷ hands) zero mine at others i = let here : times i h.holds ≡ times i mine.holds = ap (λ (x : Hand V N). times i x.holds) (some-injective h mine at) in
      let rest = none_held hands (λ j g there. others (suc j) g (λ e. suc-ne-zero j e) there) i in omega arith
  held_by_one (h ∷ hands) (suc number) mine at others i = let here : times i h.holds ≡ 0 = ap (times i) (others 0 h (λ e. suc-ne-zero number (sym e)) refl) in
      let rest = held_by_one hands number mine at (λ j g apart there. others (suc j) g (λ e. apart (omega arith)) there) i in omega arith

  pub lone_seats_are_free : (places_in : N → ℕ) (hands : List (Hand V N)) (number : ℕ) (mine : Hand V N) → Rests places_in hands → get_elem? hands number ≡ some mine
      → OthersHaveNone places_in hands number → (i : ℕ) → ¬ Has i mine.holds → turn hands i ≡ 0
  lone_seats_are_free places_in hands number mine rests at others i none =
      held_by_one hands number mine at (λ j h apart there. rests j h there (others j h apart there)) i ∙ times_none i mine.holds none
