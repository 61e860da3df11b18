-- Which deques stand in the list after one was inserted or removed.
use Rattle.std.specs.Prelude.{◌≡◌, ◌≢◌, ℕ, ◌≤◌, List, length, Some, slice_get, insert, remove, ◌⊎◌}
use Rattle.std.proofs.Common.{sym, ◌∙◌, ap, subst, inl, inr}
use Rattle.deque_list.specs.declared.deque_id.DequeId.{DequeId}
use Rattle.deque_list.specs.Ids.{IsLive, IdsDiffer}
use Rattle.deque_list.proofs.RankLaws.{moved_on, inserted_stands, others_move_on, others_stay, moved_on_differs, moved_on_skips, came_from, same_or_other}

-- a live deque stays where another is inserted
pub live_stays : (ids : List DequeId) (at : ℕ) (new id : DequeId) → at ≤ length ids → IsLive ids id → IsLive (insert ids at new) id
live_stays ids at new id within live = (moved_on at live.0, others_move_on ids at new live.0 within ∙ live.1)

-- and the inserted one is live
pub new_is_live : (ids : List DequeId) (at : ℕ) (new : DequeId) → at ≤ length ids → IsLive (insert ids at new) new
new_is_live ids at new within = (at, inserted_stands ids at new within)

-- nothing else is
pub live_before : (ids : List DequeId) (at : ℕ) (new id : DequeId) → at ≤ length ids → IsLive (insert ids at new) id → (id ≡ new) ⊎ IsLive ids id
live_before ids at new id within live =
    elim (same_or_other live.0 at) [
      | inl same ↦ let P : ℕ → Type 0 = λ r. slice_get (insert ids at new) r ≡ Some id in
          let here : Some new ≡ Some id = sym (inserted_stands ids at new within) ∙ subst P same live.1 in inl (cc)
      | inr other ↦ let o = came_from at live.0 other in let P : ℕ → Type 0 = λ r. slice_get (insert ids at new) r ≡ Some id in
          inr (o.0, sym (others_move_on ids at new o.0 within) ∙ subst P o.1 live.1)
    ]

-- ids still differ where one that no deque had is inserted
pub differ_inserted : (ids : List DequeId) (at : ℕ) (new : DequeId) → at ≤ length ids → IdsDiffer ids → ¬ IsLive ids new → IdsDiffer (insert ids at new)
differ_inserted ids at new within differ free r s id at_r at_s =
    elim (same_or_other r at) [
      | inl r_is ↦ elim (same_or_other s at) [
        | inl s_is ↦ r_is ∙ sym s_is
        | inr s_other ↦ absurd (free (twice r s r_is s_other at_r at_s))
      ]
      | inr r_other ↦ elim (same_or_other s at) [
        | inl s_is ↦ absurd (free (twice s r s_is r_other at_s at_r))
        | inr s_other ↦ let o = came_from at r r_other in let q = came_from at s s_other in
            let r_was : slice_get ids o.0 ≡ Some id = sym (others_move_on ids at new o.0 within) ∙ (ap (λ k. slice_get (insert ids at new) k) (sym o.1) ∙ at_r) in
            let s_was : slice_get ids q.0 ≡ Some id = sym (others_move_on ids at new q.0 within) ∙ (ap (λ k. slice_get (insert ids at new) k) (sym q.1) ∙ at_s) in
            o.1 ∙ (ap (λ k. moved_on at k) (differ o.0 q.0 id r_was s_was) ∙ sym q.1)
      ]
    ]
  where
    twice : (r s : ℕ) → r ≡ at → s ≢ at → slice_get (insert ids at new) r ≡ Some id → slice_get (insert ids at new) s ≡ Some id → IsLive ids new
    twice r s r_is s_other at_r at_s =
        let q = came_from at s s_other in
        let s_was : slice_get ids q.0 ≡ Some id = sym (others_move_on ids at new q.0 within) ∙ (ap (λ k. slice_get (insert ids at new) k) (sym q.1) ∙ at_s) in
        let here : Some new ≡ Some id = sym (inserted_stands ids at new within) ∙ (ap (λ k. slice_get (insert ids at new) k) (sym r_is) ∙ at_r) in
        (q.0, s_was ∙ sym here)

-- ids still differ where one is removed
pub differ_removed : (ids : List DequeId) (at : ℕ) → IdsDiffer ids → IdsDiffer (remove ids at)
differ_removed ids at differ r s id at_r at_s =
    moved_on_differs at r s (differ (moved_on at r) (moved_on at s) id (sym (others_stay ids at r) ∙ at_r) (sym (others_stay ids at s) ∙ at_s))

-- the removed deque is gone
pub removed_is_gone : (ids : List DequeId) (at : ℕ) (id : DequeId) → IdsDiffer ids → slice_get ids at ≡ Some id → ¬ IsLive (remove ids at) id
removed_is_gone ids at id differ here live =
    moved_on_skips at live.0 (differ (moved_on at live.0) at id (sym (others_stay ids at live.0) ∙ live.1) here)

-- the others stay
pub live_remains : (ids : List DequeId) (at : ℕ) (id other : DequeId) → slice_get ids at ≡ Some id → IsLive ids other → other ≢ id → IsLive (remove ids at) other
live_remains ids at id other here live differs =
    elim (same_or_other live.0 at) [
      | inl same ↦ let clash : Some other ≡ Some id = sym live.1 ∙ (ap (λ k. slice_get ids k) same ∙ here) in absurd (differs (cc))
      | inr moved ↦ let o = came_from at live.0 moved in (o.0, others_stay ids at o.0 ∙ (ap (λ k. slice_get ids k) (sym o.1) ∙ live.1))
    ]

-- and nothing comes
pub lived_before : (ids : List DequeId) (at : ℕ) (id : DequeId) → IsLive (remove ids at) id → IsLive ids id
lived_before ids at id live = (moved_on at live.0, sym (others_stay ids at live.0) ∙ live.1)
