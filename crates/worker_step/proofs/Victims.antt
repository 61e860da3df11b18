-- What is known of a deque that has a thread to steal.
use Rattle.std.proofs.Common.{◌≡◌, ◌≢◌, ℕ, zero, suc, ◌≤◌, ◌<◌, List, [], ◌∷◌, ◌++◌, length, inl, inr, refl, sym, ap, ◌∙◌, arith}
use Rattle.std.specs.Prelude.{Option, None, Some, slice_get}
use Rattle.std.specs.Option.{option_map}
use Rattle.std.proofs.lemmas.Option.{slice_get-map, same_Some, none-some}
use Rattle.deque_list.specs.declared.place.Place.{Place}
use Rattle.deque_list.specs.Ids.{IsLive}
use Rattle.deque_list.specs.Deques.{Deque, DequeAt, deque_ids, place_of}
use Rattle.deque_list.specs.DequeLists.{ListView}
use Rattle.open_periods.proofs.Passed.Lists.{by_end}
use Rattle.list_changes.specs.Shown.{Holds, deque_with}
use Rattle.play_rules.specs.Choices.{IsReadyAt}

-- a list is cut at a place
pub cut_at : {X : Type 0} (xs : List X) (place : ℕ) (x : X) → slice_get xs place ≡ Some x → (left right : List X) × (xs ≡ left ++ x ∷ right) × (length left ≡ place)
cut_at [] place x is = absurd (none-some x is)
cut_at (y ∷ xs) zero x is = ([], xs, ap (λ t. t ∷ xs) (same_Some y x is), refl)
cut_at (y ∷ xs) (suc place) x is = let c = cut_at xs place x is in (y ∷ c.0, c.1, ap (λ t. y ∷ t) c.2, ap suc c.3)

module _ {X : Type 0} where
  -- a list of two at least has a bottom below others
  pub two_at_least : (xs : List X) → 2 ≤ length xs → (first : X) × (others : List X) × (bottom : X) × (xs ≡ first ∷ (others ++ bottom ∷ []))
  two_at_least [] many = absurd (omega (arith, many))
  two_at_least (x ∷ xs) many = elim (by_end xs) [
    | inl none ↦ absurd (let n : length xs ≡ 0 = ap length none in omega (arith, many, n))
    | inr cut ↦ (x, cut.0, cut.1, ap (λ t. x ∷ t) cut.2)
  ]

  pub just_one : (xs : List X) → length xs ≢ 0 → (2 ≤ length xs → ⊥) → (x : X) × (xs ≡ x ∷ [])
  just_one [] some few = absurd (some refl)
  just_one (x ∷ []) some few = (x, refl)
  just_one (x ∷ y ∷ xs) some few = absurd (few (omega arith))

module _ {T : Type 0} (list : ListView T) (place : ℕ) (ready : IsReadyAt list.deques place) (victim : Place)
    (told : Some victim ≡ option_map place_of (slice_get list.deques place)) where
  pub stands_at : DequeAt list.deques victim.id place ready.0
  stands_at = (ready.1, sym (ap (λ p. Place.id p) (same_Some victim (place_of ready.0) (told ∙ ap (option_map place_of) ready.1))))

  pub is_live : IsLive (deque_ids list.deques) victim.id
  is_live = (place, slice_get-map (λ d. Deque.id d) list.deques place ∙ ap (option_map (λ d. Deque.id d)) ready.1 ∙ ap Some stands_at.1)

  -- it stands in the middle of the list
  pub held_at : (owner : Option ℕ) (items : List T) → Deque.owner ready.0 ≡ owner → Deque.items ready.0 ≡ items
      → (holds : Holds list victim.id owner items) × (length (Holds.left holds) ≡ place)
  held_at owner items owner_is items_are =
      let cut = cut_at list.deques place ready.0 ready.1 in
      let whole : ready.0 ≡ deque_with victim.id owner items = λ i. record { id = stands_at.1 i; owner = owner_is i; items = items_are i } in
      (record { left = cut.0; right = cut.1; deques_are = cut.2 ∙ ap (λ d. cut.0 ++ d ∷ cut.1) whole }, cut.3)

  module _ (found : List T) (items : found ≡ Deque.items ready.0) (size : ℕ) (size_is : size ≡ length found) where
    pub others_above : 2 ≤ size → (owner : Option ℕ) × (first : T) × (others : List T) × (bottom : T)
        × (holds : Holds list victim.id owner (first ∷ (others ++ bottom ∷ []))) × (length (Holds.left holds) ≡ place)
    others_above many =
        let same : length found ≡ length (Deque.items ready.0) = ap length items in
        let cut = two_at_least (Deque.items ready.0) (omega (arith, many, size_is, same)) in
        let held = held_at (Deque.owner ready.0) (cut.0 ∷ (cut.1 ++ cut.2 ∷ [])) refl cut.3 in
        (Deque.owner ready.0, cut.0, cut.1, cut.2, held.0, held.1)

    pub alone : size < 2 → size ≢ 0 → (thread : T) × (holds : Holds list victim.id None (thread ∷ [])) × (length (Holds.left holds) ≡ place)
    alone few some =
        let same : length found ≡ length (Deque.items ready.0) = ap length items in
        let one = just_one (Deque.items ready.0) (λ none. some (size_is ∙ same ∙ none)) (λ many. omega (arith, many, few, size_is, same)) in
        let none : Deque.owner ready.0 ≡ None = elim ready.2 [ inl free ↦ free | inr many ↦ absurd (omega (arith, many, few, size_is, same)) ] in
        let held = held_at None (one.0 ∷ []) none one.1 in
        (one.0, held.0, held.1)
