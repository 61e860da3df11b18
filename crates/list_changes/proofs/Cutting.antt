-- A deque of two that is cut in two, the lower one without an owner.
use Rattle.std.proofs.Common.{◌≡◌, ℕ, [], ◌∷◌, ◌++◌, sym, ◌∙◌, append_assoc}
use Rattle.std.specs.Prelude.{Option, None, Some, slice_set}
use Rattle.deque_list.specs.declared.deque_id.DequeId.{DequeId}
use Rattle.deque_list.specs.Deques.{Deque, DequeAt}
use Rattle.deque_list.specs.DequeLists.{ListView}
use Rattle.list_changes.specs.Shown.{deque_with, Stands, Holds, IsCut}
use Rattle.list_changes.proofs.Putting.{given_up}

module _ {T : Type 0} {before : ListView T} {id : DequeId} (owner : Option ℕ) (top bottom : T) (holds : Holds before id owner (top ∷ bottom ∷ []))
    (worker : ℕ) (mid : ListView T) where
  -- the deque of the bottom thread, where somebody owns it
  abbrev pub new_stands : (new : DequeId)
      → IsCut holds mid (deque_with id owner (top ∷ [])) (deque_with new (Some worker) (bottom ∷ [])) → Stands mid worker new (bottom ∷ [])
  new_stands new both = record {
    left = holds.left ++ deque_with id owner (top ∷ []) ∷ [];
    right = holds.right;
    deques_are = both.deques
        ∙ sym (append_assoc holds.left (deque_with id owner (top ∷ []) ∷ []) (deque_with new (Some worker) (bottom ∷ []) ∷ holds.right));
  }

  -- and where it was given up
  pub unowned_beside : (next : ListView T) (new : DequeId)
      → IsCut holds mid (deque_with id owner (top ∷ [])) (deque_with new (Some worker) (bottom ∷ []))
      → ((rank : ℕ) (deque : Deque T) → DequeAt mid.deques new rank deque → next.deques ≡ slice_set mid.deques rank (record deque { owner = None }))
      → next.most ≡ mid.most → IsCut holds next (deque_with id owner (top ∷ [])) (deque_with new None (bottom ∷ []))
  unowned_beside next new both give most = record {
    deques = given_up (new_stands new both) next give
        ∙ append_assoc holds.left (deque_with id owner (top ∷ []) ∷ []) (deque_with new None (bottom ∷ []) ∷ holds.right);
    most = most ∙ both.most;
  }
