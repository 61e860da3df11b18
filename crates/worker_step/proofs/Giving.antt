-- The thread on top of a deque, which was taken out for a moment.
use Rattle.std.proofs.Common.{◌≡◌, ℕ, List, [], ◌∷◌, ◌++◌, sym, ap, subst, ◌∙◌}
use Rattle.std.proofs.lemmas.Option.{same_Some, none-some}
use Rattle.std.specs.Prelude.{Some, drop, slice_get, slice_set}
use Rattle.deque_list.specs.declared.deque_id.DequeId.{DequeId}
use Rattle.deque_list.specs.Deques.{Deque, DequeAt}
use Rattle.deque_list.specs.DequeLists.{ListView, SameElsewhere}
use Rattle.list_changes.specs.Shown.{deque_with, Stands, Becomes}
use Rattle.list_changes.proofs.Putting.{here, at_rank, one_back}
use Rattle.thread_frames.specs.Children.{IsAwaited}
use Rattle.thread_frames.specs.Views.{children_of, label_of}
use Rattle.thread_frames.specs.declared.ended.Ended.{Ended}
use Rattle.thread_frames.specs.declared.thread.Thread.{Thread}
use Rattle.thread_actions.specs.Results.{IsGiven}
use Rattle.worker_step.specs.Results.{ComesBelow}
use Rattle.worker_step.proofs.Taking.{popped}

-- what was popped was the first of the items
popped_is : (xs : List Thread) (x : Thread) → Some x ≡ slice_get xs 0 → xs ≡ x ∷ drop 1 xs
popped_is [] x is = absurd (none-some x (sym is))
popped_is (y ∷ ys) x is = ap (λ z. z ∷ ys) (sym (same_Some x y is))

-- whatever the items are, the first of them waited for a result, has it, and is on top again
pub comes_below : (worker : ℕ) (id : DequeId) (ended : Ended) (before between after : ListView Thread) (parent now : Thread)
    → ((rank : ℕ) (deque : Deque Thread) → DequeAt before.deques id rank deque → Some parent ≡ slice_get deque.items 0)
    → ((rank : ℕ) (deque : Deque Thread) → DequeAt before.deques id rank deque → between.deques ≡ slice_set before.deques rank (record deque { items = drop 1 deque.items }))
    → ((rank : ℕ) (deque : Deque Thread) → DequeAt between.deques id rank deque → after.deques ≡ slice_set between.deques rank (record deque { items = now ∷ deque.items }))
    → SameElsewhere before between id → SameElsewhere between after id
    → ((first : Thread) × (below : List Thread) × Stands before worker id (first ∷ below) × IsAwaited (label_of first) ended (children_of first)) → IsGiven ended parent now
    → (items : List Thread) (stands : Stands before worker id items) → ComesBelow worker id ended before after items stands
comes_below worker id ended before between after parent now item pop push rest rest_after awaits given items stands = record {
  parent = parent;
  now = now;
  below = drop 1 items;
  items_are = items_are;
  awaited = subst (λ x. IsAwaited (label_of x) ended (children_of x)) (sym (same_Some parent awaits.0 (item _ (here awaits.2) (at_rank awaits.2)))) awaits.3;
  given = given;
  becomes = record { deques = back.deques; most = rest_after.most ∙ rest.most; spare = rest_after.spare ∙ rest.spare };
}
  where
    items_are : items ≡ parent ∷ drop 1 items
    items_are = popped_is items parent (item _ (here stands) (at_rank stands))

    its : Stands before worker id (parent ∷ drop 1 items)
    its = record { left = stands.left; right = stands.right; deques_are = stands.deques_are ∙ ap (λ xs. stands.left ++ deque_with id (Some worker) xs ∷ stands.right) items_are }

    back : Becomes (popped {next = between} its pop) after (deque_with id (Some worker) (now ∷ drop 1 items) ∷ [])
    back = one_back (popped {next = between} its pop) after now push rest_after
