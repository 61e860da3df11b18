-- A deque in the middle of a list, which is changed there.
use Rattle.std.proofs.Common.{◌≡◌, ℕ, ◌+◌, List, [], ◌∷◌, ◌++◌, length, refl, sym, ap, ◌∙◌, take, Bool, ◌⊎◌, inl, inr, true, false, true≢false, ◌-◌}
use Rattle.std.specs.Prelude.{Option, None, Some, slice_get, slice_set, insert, remove, is_some}
use Rattle.std.specs.Option.{option_map}
use Rattle.std.proofs.lemmas.Option.{slice_get-map, same_Some}
use Rattle.deque_list.specs.declared.deque_id.DequeId.{DequeId}
use Rattle.deque_list.specs.Ids.{IsLive}
use Rattle.deque_list.specs.Deques.{Deque, DequeAt, deque_ids}
use Rattle.deque_machine.proofs.Progress.{cut_place}
use Rattle.trail_check.specs.Holds.{Holds, deque_with, with_these}
use Rattle.trail_check.proofs.CutLists.{get_middle, set_middle, remove_middle, insert_behind, take_left, last_place}

module _ {ds : List (Deque ℕ)} {id : DequeId} {owner : Option ℕ} {items : List ℕ} (h : Holds ds id owner items) where
  -- the deque is at its rank
  pub rank_of : DequeAt ds id (length h.left) (deque_with id owner items)
  rank_of = (ap (λ t. slice_get t (length h.left)) h.deques_are ∙ get_middle h.left (deque_with id owner items) h.right, refl)

  pub is_live : IsLive (deque_ids ds) id
  is_live = (length h.left, slice_get-map (λ d. Deque.id d) ds (length h.left) ∙ ap (option_map (λ d. Deque.id d)) rank_of.0)

  -- another deque is there
  pub set_there : (next : List (Deque ℕ)) (d : Deque ℕ) → next ≡ slice_set ds (length h.left) d → next ≡ with_these h (d ∷ [])
  set_there next d is = is ∙ ap (λ t. slice_set t (length h.left) d) h.deques_are ∙ set_middle h.left (deque_with id owner items) d h.right

  -- or none
  pub none_there : (next : List (Deque ℕ)) → next ≡ remove ds (length h.left) → next ≡ with_these h []
  none_there next is = is ∙ ap (λ t. remove t (length h.left)) h.deques_are ∙ remove_middle h.left (deque_with id owner items) h.right

  -- what the list has then
  abbrev pub holds_then : (next : List (Deque ℕ)) (owner' : Option ℕ) (items' : List ℕ) → next ≡ with_these h (deque_with id owner' items' ∷ []) → Holds next id owner' items'
  holds_then next owner' items' is = record { left = h.left; right = h.right; deques_are = is }

-- a live deque is at some rank
pub at_some_rank : (ds : List (Deque ℕ)) (id : DequeId) → IsLive (deque_ids ds) id → (rank : ℕ) × (d : Deque ℕ) × DequeAt ds id rank d
at_some_rank ds id live = by_deque (slice_get ds live.0) refl (sym (slice_get-map (λ d. Deque.id d) ds live.0) ∙ live.1)
  where
    by_deque : (o : Option (Deque ℕ)) → slice_get ds live.0 ≡ o → option_map (λ d. Deque.id d) (slice_get ds live.0) ≡ Some id → (rank : ℕ) × (d : Deque ℕ) × DequeAt ds id rank d
    by_deque None is id_is = absurd (true≢false (sym (ap is_some (sym (ap (option_map (λ d. Deque.id d)) is) ∙ id_is))))
    by_deque (Some d) is id_is = (live.0, d, (is, same_Some (Deque.id d) id (sym (ap (option_map (λ d. Deque.id d)) is) ∙ id_is)))

-- what has no first element is empty
pub no_first : (xs : List ℕ) → None ≡ slice_get xs 0 → xs ≡ []
no_first [] is = refl
no_first (x ∷ xs) is = absurd (true≢false (sym (ap is_some is)))

-- a deque at a rank is in the middle of its list
pub held_at : (ds : List (Deque ℕ)) (id : DequeId) (rank : ℕ) (d : Deque ℕ) → DequeAt ds id rank d → Holds ds id d.owner d.items
held_at ds id rank d at =
    let cut = cut_place ds rank d at.0 in record {
      left = cut.0;
      right = cut.1;
      deques_are = cut.2 ∙ ap (λ t. cut.0 ++ record { id = t; owner = d.owner; items = d.items } ∷ cut.1) at.1;
    }

-- a deque without a first place, which is live, is empty
pub empty_there : (ds : List (Deque ℕ)) (id : DequeId) (first : Option ℕ) → IsLive (deque_ids ds) id → is_some first ≡ false
    → ((owner : Option ℕ) (items : List ℕ) → Holds ds id owner items → first ≡ slice_get items 0) → (rank : ℕ) × (d : Deque ℕ) × DequeAt ds id rank d × (d.items ≡ [])
empty_there ds id first live none is =
    let at = at_some_rank ds id live in
    (at.0, at.1, at.2, no_first (at.1).items (is_none first none ∙ is (at.1).owner (at.1).items (held_at ds id at.0 at.1 at.2)))
  where
    is_none : (o : Option ℕ) → is_some o ≡ false → None ≡ o
    is_none None is = refl
    is_none (Some x) is = absurd (true≢false is)

-- a deque gives its bottom place away, and a deque with this place comes to the right of it
module _ {ds : List (Deque ℕ)} {victim : DequeId} (owner : Option ℕ) (first : ℕ) (others : List ℕ) (bottom : ℕ) (h : Holds ds victim owner (first ∷ (others ++ bottom ∷ []))) where
  pub bottom_is : (taken : Option ℕ) → ((rank : ℕ) (deque : Deque ℕ) → DequeAt ds victim rank deque → taken ≡ slice_get deque.items (length deque.items - 1)) → taken ≡ Some bottom
  bottom_is taken item =
      item (length h.left) (deque_with victim owner (first ∷ (others ++ bottom ∷ []))) (rank_of h)
      ∙ ap (slice_get (first ∷ (others ++ bottom ∷ []))) (last_place (first ∷ others) bottom) ∙ get_middle (first ∷ others) bottom []

  without_bottom : (mid : List (Deque ℕ))
      → ((rank : ℕ) (deque : Deque ℕ) → DequeAt ds victim rank deque → mid ≡ slice_set ds rank (record deque { items = take (length deque.items - 1) deque.items }))
      → mid ≡ with_these h (deque_with victim owner (first ∷ others) ∷ [])
  without_bottom mid cut =
      set_there h mid (deque_with victim owner (take (length (first ∷ (others ++ bottom ∷ [])) - 1) (first ∷ (others ++ bottom ∷ []))))
      (cut (length h.left) (deque_with victim owner (first ∷ (others ++ bottom ∷ []))) (rank_of h))
      ∙ ap (λ items. with_these h (deque_with victim owner items ∷ []))
      (ap (λ n. take n (first ∷ (others ++ bottom ∷ []))) (last_place (first ∷ others) bottom) ∙ take_left (first ∷ others) (bottom ∷ []))

  pub put_beside : (worker : ℕ) (mid next : List (Deque ℕ)) (taken : ℕ) (new : DequeId)
      → ((rank : ℕ) (deque : Deque ℕ) → DequeAt ds victim rank deque → Some taken ≡ slice_get deque.items (length deque.items - 1))
      → ((rank : ℕ) (deque : Deque ℕ) → DequeAt ds victim rank deque → mid ≡ slice_set ds rank (record deque { items = take (length deque.items - 1) deque.items }))
      → ((rank : ℕ) (deque : Deque ℕ) → DequeAt mid victim rank deque → next ≡ insert mid (rank + 1) (record { id = new; owner = Some worker; items = taken ∷ [] }))
      → next ≡ with_these h (deque_with victim owner (first ∷ others) ∷ deque_with new (Some worker) (bottom ∷ []) ∷ [])
  put_beside worker mid next taken new item cut put =
      let middle = without_bottom mid cut in
      put (length h.left) (deque_with victim owner (first ∷ others)) (rank_of (holds_then h mid owner (first ∷ others) middle))
      ∙ ap (λ t. insert t (length h.left + 1) (deque_with new (Some worker) (taken ∷ []))) middle
      ∙ insert_behind h.left (deque_with victim owner (first ∷ others)) (deque_with new (Some worker) (taken ∷ [])) h.right
      ∙ ap (λ t. h.left ++ deque_with victim owner (first ∷ others) ∷ deque_with new (Some worker) (t ∷ []) ∷ h.right)
      (same_Some taken bottom (bottom_is (Some taken) item))

-- what became of a deque that its top thread left
pub left_by_top : {ds : List (Deque ℕ)} {id : DequeId} {owner : Option ℕ} {top : ℕ} (under : List ℕ) (h : Holds ds id owner (top ∷ under)) (result : Bool) (next : List (Deque ℕ))
    → ((owner : Option ℕ) (top : ℕ) (g : Holds ds id owner (top ∷ [])) → (result ≡ true) × (next ≡ with_these g []))
    → ((owner : Option ℕ) (top n : ℕ) (below : List ℕ) (g : Holds ds id owner (top ∷ n ∷ below)) → (result ≡ false) × (next ≡ with_these g (deque_with id owner (n ∷ below) ∷ [])))
    → ((under ≡ []) × (result ≡ true) × (next ≡ with_these h []))
    ⊎ ((n : ℕ) × (below : List ℕ) × (under ≡ n ∷ below) × (result ≡ false) × (next ≡ with_these h (deque_with id owner (n ∷ below) ∷ [])))
left_by_top {ds} {id} {owner} {top} [] h result next alone more = let is = alone owner top h in inl (refl, is.0, is.1)
left_by_top {ds} {id} {owner} {top} (n ∷ below) h result next alone more = let is = more owner top n below h in inr (n, below, refl, is.0, is.1)
