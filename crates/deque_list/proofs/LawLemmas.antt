-- The laws over what the calls of a list show.
use Rattle.std.specs.Prelude.{◌≡◌, ◌≢◌, ℕ, zero, suc, List, [], ◌∷◌, map, Option, Some, None, slice_get, slice_set, nat_eq, if◌then◌else◌, Bool, true, false, refl}
use Rattle.std.proofs.Common.{sym, ◌∙◌, ap, inl, inr, arith}
use Rattle.std.specs.Option.{option_map}
use Rattle.std.proofs.lemmas.Bool.{cases_order}
use Rattle.std.proofs.lemmas.Option.{slice_get-map, slice_get_within}
use borrow.Author.Tests.{eqb-true, eqb-false}
use Rattle.deque_list.specs.declared.deque_id.DequeId.{DequeId}
use Rattle.deque_list.specs.Ids.{IdsDiffer}
use Rattle.deque_list.specs.Deques.{Deque, deque_ids}
use Rattle.deque_list.specs.ListLends.{with_top_item}
use Rattle.deque_list.specs.Laws.{InsertedThenRemoved, OneSmallestFree, TopWritten, TopWrittenIds}
use Rattle.deque_list.proofs.ListLaws.{same_by_rank}
use Rattle.deque_list.proofs.RankLaws.{written_stands, others_unwritten, same_or_other}
use Rattle.deque_list.proofs.DequeLaws.{same_id}

pub inserted_then_removed : {X : Type 0} → InsertedThenRemoved X
inserted_then_removed [] zero x within = refl
inserted_then_removed [] (suc rank) x within = absurd (omega arith)
inserted_then_removed (y ∷ xs) zero x within = refl
inserted_then_removed (y ∷ xs) (suc rank) x within = ap (λ ys. y ∷ ys) (inserted_then_removed xs rank x (omega arith))

pub one_smallest_free : OneSmallestFree
one_smallest_free ids a b free_a free_b =
    elim (cases_order a.0 b.0) [
      | inl same ↦ same_id a b same
      | inr r ↦ elim r [ inl less ↦ absurd (free_a.0 (free_b.1 a.0 less)) | inr more ↦ absurd (free_b.0 (free_a.1 b.0 more)) ]
    ]

module _ {T : Type 0} (id : DequeId) (top : T) where
  -- the deque of this id, and another one
  its_own : (deque : Deque T) → deque.id ≡ id → with_top_item id top deque ≡ record deque { items = slice_set deque.items 0 top }
  its_own deque same = go (nat_eq deque.id.0 id.0) refl
    where
      go : (b : Bool) → nat_eq deque.id.0 id.0 ≡ b → (if b then record deque { items = slice_set deque.items 0 top } else deque) ≡ record deque { items = slice_set deque.items 0 top }
      go true is = refl
      go false is = absurd (eqb-false deque.id.0 id.0 is (ap (λ (d : DequeId). d.0) same))

  another : (deque : Deque T) → deque.id ≢ id → with_top_item id top deque ≡ deque
  another deque other = go (nat_eq deque.id.0 id.0) refl
    where
      go : (b : Bool) → nat_eq deque.id.0 id.0 ≡ b → (if b then record deque { items = slice_set deque.items 0 top } else deque) ≡ deque
      go true is = absurd (other (same_id deque.id id (eqb-true deque.id.0 id.0 is)))
      go false is = refl

  -- its id stays
  same_ids : (deques : List (Deque T)) → deque_ids (map (with_top_item id top) deques) ≡ deque_ids deques
  same_ids [] = refl
  same_ids (deque ∷ deques) = ap (λ i. i ∷ deque_ids (map (with_top_item id top) deques)) (go (nat_eq deque.id.0 id.0)) ∙ ap (λ ids. deque.id ∷ ids) (same_ids deques)
    where
      go : (b : Bool) → (if b then record deque { items = slice_set deque.items 0 top } else deque).id ≡ deque.id
      go true = refl
      go false = refl

  same_others : (deques : List (Deque T)) (rank r : ℕ) (o : Option (Deque T)) → IdsDiffer (deque_ids deques) → slice_get (deque_ids deques) rank ≡ Some id → r ≢ rank
      → slice_get deques r ≡ o → option_map (with_top_item id top) o ≡ o
  same_others deques rank r None differ here other is = refl
  same_others deques rank r (Some deque) differ here other is =
      ap (λ d. Some d) (another deque (λ same. other (differ r rank id
      (slice_get-map (λ d. d.id) deques r ∙ (ap (λ o. option_map (λ d. d.id) o) is ∙ ap (λ i. Some i) same)) here)))

pub top_written : {T : Type 0} → TopWritten T
top_written {T} list id rank deque top differ at =
    let own : Deque T = record deque { items = slice_set deque.items 0 top } in
    let within = slice_get_within list.deques rank deque at.0 in
    let here : slice_get (deque_ids list.deques) rank ≡ Some id =
    slice_get-map (λ d. d.id) list.deques rank ∙ (ap (λ o. option_map (λ d. d.id) o) at.0 ∙ ap (λ i. Some i) at.1) in
    ap (λ (deques : List (Deque T)). record list { deques = deques })
    (same_by_rank (map (with_top_item id top) list.deques) (slice_set list.deques rank own) (λ r. elim (same_or_other r rank) [
      | inl same ↦ slice_get-map (with_top_item id top) list.deques r
          ∙ (ap (λ k. option_map (with_top_item id top) (slice_get list.deques k)) same
          ∙ (ap (λ o. option_map (with_top_item id top) o) at.0
          ∙ (ap (λ d. Some d) (its_own id top deque at.1)
          ∙ (sym (written_stands list.deques rank own within) ∙ ap (λ k. slice_get (slice_set list.deques rank own) k) (sym same)))))
      | inr other ↦ slice_get-map (with_top_item id top) list.deques r
          ∙ (same_others id top list.deques rank r (slice_get list.deques r) differ here other refl ∙ sym (others_unwritten list.deques rank own r other))
    ]))

pub top_written_ids : {T : Type 0} → TopWrittenIds T
top_written_ids list id top = same_ids id top list.deques
