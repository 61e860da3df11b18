-- What it comes to that a worker leaves its deque without an action.
use Rattle.std.proofs.Common.{◌≡◌, ℕ, List, [], ◌∷◌, map, refl, sym, ap, subst}
use Rattle.std.specs.Prelude.{None, Some}
use Rattle.std.specs.List.Sorted.{IsPermutation}
use Rattle.std.proofs.lemmas.List.Sorted.{IsPermutation-refl, IsPermutation-map}
use Rattle.dag_order.specs.declared.thread_id.ThreadId.{ThreadId}
use Rattle.deque_list.specs.declared.deque_id.DequeId.{DequeId}
use Rattle.deque_list.specs.Deques.{Deque}
use Rattle.open_periods.specs.Passed.Lists.{Each}
use Rattle.open_periods.proofs.Passed.Lists.{each_at}
use Rattle.moment_shown.specs.Events.{GivesUp, Suspends}
use Rattle.thread_frames.specs.declared.thread.Thread.{Thread}
use Rattle.thread_frames.specs.Points.{IsAtPoint}
use Rattle.thread_frames.specs.Shown.{thread_shown}
use Rattle.list_changes.specs.Shown.{deque_with, parts_of, Stands, Becomes}
use Rattle.list_changes.specs.Events.{GaveUp, Suspended}
use Rattle.list_changes.specs.Seats.{LeavesSeat}
use Rattle.scheduler_state.specs.declared.scheduler.Scheduler.{Scheduler}
use Rattle.scheduler_state.specs.Held.{held, parts_in, OwnersSit}
use Rattle.thread_frames.specs.Kept.{waiting_shown, result_kept, WaitsUnder}
use Rattle.scheduler_state.proofs.Lists.{each_moved}
use Rattle.worker_step.specs.Leaves.{IsIdleEvent, LeavesDeque, LeavesList}
use Rattle.worker_step.proofs.Places.{leave_sitting, points_change, under_is}
use Rattle.worker_step.proofs.Acting.{keeps_room}

module _ (worker : ℕ) (id : DequeId) (top : Thread) (before after : Scheduler) (results : after.results ≡ before.results) (moves : after.moves ≡ before.moves)
    (pool : after.pool ≡ before.pool) (done : after.done ≡ before.done) (seats : LeavesSeat worker before.table after.table) where
  idle : after.list.most ≡ before.list.most → after.list.spare ≡ before.list.spare → IsIdleEvent before after
  idle most spare = record {
    results = results;
    moves = moves;
    pool = pool;
    done = done;
    keeps = keeps_room before after seats.workers (ap (λ r. r.capacity) pool) most spare;
  }

  pub leaves_deque : after.waiting ≡ before.waiting
      → ((items : List Thread) → GaveUp worker id items before.list before.table after.list after.table top)
      → ((items : List Thread) (stands : Stands before.list worker id items) → Becomes stands after.list (deque_with id None (top ∷ items) ∷ []))
      → (items : List Thread) → Stands before.list worker id items → LeavesDeque worker id top before after
  leaves_deque waiting gives becomes its_items its = record {
    gives_up = λ items stands period period_is.
        subst (λ p. GivesUp p worker (parts_in (held after))) (under_is before stands top)
        (subst (λ w. GivesUp (Rattle.list_changes.specs.Shown.parts_under thread_shown (map waiting_shown before.waiting.entries) (map result_kept before.results.entries) stands before.table (thread_shown top)) worker
        (record (parts_in (held after)) { waiting = map waiting_shown w.entries })) (sym waiting)
        (subst (λ r. GivesUp (Rattle.list_changes.specs.Shown.parts_under thread_shown (map waiting_shown before.waiting.entries) (map result_kept before.results.entries) stands before.table (thread_shown top)) worker
        (record (parts_in (held after)) { waiting = map waiting_shown before.waiting.entries; results = map result_kept r.entries })) (sym results)
        (gives items thread_shown (map waiting_shown before.waiting.entries) (map result_kept before.results.entries) period stands period_is)));
    begun = seats.begun;
    in_order = λ items stands none o. record {
      owners = subst (OwnersSit after.table) (sym (becomes items stands).deques)
          (leave_sitting before.table after.table worker id (top ∷ items) stands.left stands.right o.owners seats none (deque_with id None (top ∷ items) ∷ []) (refl, tt));
      waiting = subst (λ w. Each WaitsUnder w.entries) (sym waiting) o.waiting;
      results = subst (λ r. Each Rattle.thread_frames.specs.Kept.IsUnderItsId r.entries) (sym results) o.results;
    };
    points = λ t k items stands are. record {
      in_deques = subst (Each (λ d. Each (IsAtPoint t k) (Deque.items d))) (sym (becomes items stands).deques)
          (points_change t k stands.left stands.right (deque_with id None (top ∷ items) ∷ []) (deque_with id (Some worker) (top ∷ items)) are.in_deques
          (each_at (λ d. Each (IsAtPoint t k) (Deque.items d)) stands.left (deque_with id (Some worker) (top ∷ items)) stands.right are.in_deques, tt));
      waiting = subst (λ w. Each (λ e. IsAtPoint t k e.1) w.entries) (sym waiting) are.waiting;
    };
    same = idle (becomes its_items its).most (becomes its_items its).spare;
  }

  pub leaves_list : (child : ThreadId) → IsPermutation ((child, top) ∷ before.waiting.entries) after.waiting.entries
      → Suspended worker id before.list before.table after.list after.table
      → ((stands : Stands before.list worker id []) → Becomes stands after.list [])
      → Stands before.list worker id [] → LeavesList worker id top child before after
  leaves_list child waiting suspends becomes its = record {
    suspends = λ stands l period place newest older period_is is_next children missing unkept. (
      parts_of thread_shown (thread_shown top ∷ map waiting_shown before.waiting.entries) (map result_kept before.results.entries) after.list after.table,
      subst (λ p. Suspends l p worker (parts_of thread_shown (thread_shown top ∷ map waiting_shown before.waiting.entries) (map result_kept before.results.entries) after.list after.table)) (under_is before stands top)
          (suspends thread_shown (map waiting_shown before.waiting.entries) (map result_kept before.results.entries) l period (thread_shown top) place newest older stands period_is is_next children missing unkept),
      record {
        deques = refl;
        waiting = IsPermutation-map waiting_shown ((child, top) ∷ before.waiting.entries) after.waiting.entries waiting;
        results = subst (λ r. IsPermutation (map result_kept before.results.entries) (map result_kept r.entries)) (sym results) (IsPermutation-refl (map result_kept before.results.entries));
        periods = refl;
      },
    );
    begun = seats.begun;
    in_order = λ stands none under o. record {
      owners = subst (OwnersSit after.table) (sym (becomes stands).deques)
          (leave_sitting before.table after.table worker id (top ∷ []) stands.left stands.right o.owners seats none [] tt);
      waiting = each_moved WaitsUnder ((child, top) ∷ before.waiting.entries) after.waiting.entries waiting (under, o.waiting);
      results = subst (λ r. Each Rattle.thread_frames.specs.Kept.IsUnderItsId r.entries) (sym results) o.results;
    };
    points = λ t k stands are. record {
      in_deques = subst (Each (λ d. Each (IsAtPoint t k) (Deque.items d))) (sym (becomes stands).deques)
          (points_change t k stands.left stands.right [] (deque_with id (Some worker) (top ∷ [])) are.in_deques tt);
      waiting = each_moved (λ e. IsAtPoint t k e.1) ((child, top) ∷ before.waiting.entries) after.waiting.entries waiting
          ((each_at (λ d. Each (IsAtPoint t k) (Deque.items d)) stands.left (deque_with id (Some worker) (top ∷ [])) stands.right are.in_deques).0, are.waiting);
    };
    same = idle (becomes its).most (becomes its).spare;
  }
