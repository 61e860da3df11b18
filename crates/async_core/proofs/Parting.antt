-- What is held once a deque of two is cut in two.
use Rattle.std.proofs.Common.{◌≡◌, ℕ, List, [], ◌∷◌, ◌++◌, subst}
use Rattle.std.proofs.lemmas.Option.{none-some}
use Rattle.std.specs.Prelude.{None, Some}
use Rattle.deque_list.specs.declared.deque_id.DequeId.{DequeId}
use Rattle.deque_list.specs.Deques.{Deque}
use Rattle.list_changes.specs.Shown.{deque_with}
use Rattle.deque_machine.specs.Lists.{Each}
use Rattle.deque_machine.proofs.Lists.{each_at, each_left, each_right, each_join}
use Rattle.node_table.specs.Table.{Table}
use Rattle.scheduler_state.specs.Passed.Tables.{deque_at}
use Rattle.thread_frames.specs.declared.thread.Thread.{Thread}
use Rattle.thread_frames.specs.Points.{IsAtPoint}
use Rattle.scheduler_state.specs.Held.{Held, IsInOrder, AreAtPoints}

module _ (h : Held) (worker : ℕ) (id new : DequeId) (top bottom : Thread) (left right : List (Deque Thread)) where
  abbrev two : Deque Thread
  two = deque_with id (Some worker) (top ∷ bottom ∷ [])

  abbrev upper : Deque Thread
  upper = deque_with id (Some worker) (top ∷ [])

  abbrev lower : Deque Thread
  lower = deque_with new None (bottom ∷ [])

  abbrev pub parted : Held
  parted = record h { deques = left ++ upper ∷ lower ∷ right }

  module _ (are : h.deques ≡ left ++ two ∷ right) where
    -- what holds of each deque before does after, if it does of the two parts
    each_parted : (P : Deque Thread → Type 0) → Each P h.deques → (P two → P upper × P lower) → Each P (left ++ upper ∷ lower ∷ right)
    each_parted P all both =
        let each : Each P (left ++ two ∷ right) = subst (Each P) are all in
        let parts = both (each_at P left two right each) in
        each_join P left (upper ∷ lower ∷ right) (each_left P left (two ∷ right) each) (parts.0, (parts.1, (each_right P left (two ∷ right) each).1))

    pub parted_order : IsInOrder h → IsInOrder parted
    parted_order o = record {
      owners = each_parted (λ d. (w : ℕ) → Deque.owner d ≡ Some w → deque_at h.table w ≡ Some (Deque.id d)) o.owners (λ sits. (sits, λ w is. absurd (none-some w is)));
      waiting = o.waiting;
      results = o.results;
    }

    pub parted_points : (t : Table) (k : ℕ) → AreAtPoints t k h → AreAtPoints t k parted
    parted_points t k a = record {
      in_deques = each_parted (λ d. Each (IsAtPoint t k) (Deque.items d)) a.in_deques (λ both. ((both.0, tt), both.1));
      waiting = a.waiting;
    }
