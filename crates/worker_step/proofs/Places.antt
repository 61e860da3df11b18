-- Deques and seats where one deque changes.
use Rattle.std.proofs.Common.{◌≡◌, ◌≢◌, ℕ, List, [], ◌∷◌, ◌++◌, map, sym, ap, ◌∙◌}
use Rattle.std.specs.Prelude.{None, Some}
use Rattle.std.proofs.lemmas.List.{map-append}
use Rattle.std.proofs.lemmas.Option.{none-some}
use Rattle.deque_list.specs.declared.deque_id.DequeId.{DequeId}
use Rattle.deque_list.specs.Deques.{Deque}
use Rattle.open_periods.specs.Passed.Lists.{Each}
use Rattle.open_periods.proofs.Passed.Lists.{each_map, each_join, each_left, each_right, each_at, each_change, each_among}
use Rattle.node_table.specs.Table.{Table}
use Rattle.open_periods.specs.declared.table.PeriodTable.{PeriodTable}
use Rattle.open_periods.specs.Tables.{deque_at}
use Rattle.thread_frames.specs.declared.thread.Thread.{Thread}
use Rattle.thread_frames.specs.Points.{IsAtPoint}
use Rattle.thread_frames.specs.Shown.{thread_shown}
use Rattle.list_changes.specs.Shown.{deque_shown, deque_with, Stands, parts_under}
use Rattle.list_changes.specs.Seats.{KeepsSeats, LeavesSeat}
use Rattle.scheduler_state.specs.declared.scheduler.Scheduler.{Scheduler}
use Rattle.scheduler_state.specs.Held.{held, held_under, parts_in, OwnersSit, OwnsNone}
use Rattle.thread_frames.specs.Kept.{waiting_shown, result_kept}

-- a deque with an owner is at the owner's seat
abbrev pub Sits : PeriodTable → Deque Thread → Type 0
Sits table deque = (w : ℕ) → Deque.owner deque ≡ Some w → deque_at table w ≡ Some (Deque.id deque)

module _ (before after : PeriodTable) (worker : ℕ) (id : DequeId) (items : List Thread) (left right : List (Deque Thread)) (sit : OwnersSit before (left ++ deque_with id (Some worker) items ∷ right)) where
  -- where each worker keeps its seat
  module _ (seats : KeepsSeats before after) where
    kept : (ds : List (Deque Thread)) → Each (Sits before) ds → Each (Sits after) ds
    kept ds all = each_map (Sits before) (Sits after) ds (λ d there sits w owner. seats.deques w ∙ sits w owner) all

    pub keep_sitting : (ys : List Thread) → OwnersSit after (left ++ (deque_with id (Some worker) ys ∷ [] ++ right))
    keep_sitting ys = each_change (Sits after) left (deque_with id (Some worker) items) (deque_with id (Some worker) ys) right
        (kept (left ++ deque_with id (Some worker) items ∷ right) sit)
        (each_at (Sits after) left (deque_with id (Some worker) items) right (kept (left ++ deque_with id (Some worker) items ∷ right) sit))

  -- where the worker leaves its seat
  module _ (seats : LeavesSeat worker before after) (none : OwnsNone worker left right) where
    beside : (ds : List (Deque Thread)) → Each (λ d. Deque.owner d ≢ Some worker) ds → Each (Sits before) ds → Each (Sits after) ds
    beside ds others all = each_map (Sits before) (Sits after) ds
        (λ d there sits w owner. seats.others w (λ is. each_among (λ d. Deque.owner d ≢ Some worker) d ds others there (owner ∙ ap Some is)) ∙ sits w owner) all

    pub leave_sitting : (middle : List (Deque Thread)) → Each (λ d. Deque.owner d ≡ None) middle → OwnersSit after (left ++ (middle ++ right))
    leave_sitting middle unowned = each_join (Sits after) left (middle ++ right)
        (beside left none.0 (each_left (Sits before) left (deque_with id (Some worker) items ∷ right) sit))
        (each_join (Sits after) middle right
        (each_map (λ d. Deque.owner d ≡ None) (Sits after) middle (λ d there is w owner. absurd (none-some w (sym is ∙ owner))) unowned)
        (beside right none.1 (each_right (Sits before) left (deque_with id (Some worker) items ∷ right) sit).1))

-- threads at their points, where the deque in the middle changes
module _ (t : Table) (k : ℕ) where
  abbrev pub AtPoints : Deque Thread → Type 0
  AtPoints deque = Each (IsAtPoint t k) (Deque.items deque)

  pub points_change : (left right middle : List (Deque Thread)) (d : Deque Thread) → Each AtPoints (left ++ d ∷ right) → Each AtPoints middle → Each AtPoints (left ++ (middle ++ right))
  points_change left right middle d all new = each_join AtPoints left (middle ++ right) (each_left AtPoints left (d ∷ right) all)
      (each_join AtPoints middle right new (each_right AtPoints left (d ∷ right) all).1)

-- the parts with a thread on top of the worker's deque, in one list and in three
pub under_is : (s : Scheduler) {worker : ℕ} {id : DequeId} {items : List Thread} (stands : Stands s.list worker id items) (top : Thread)
    → parts_under thread_shown (map waiting_shown s.waiting.entries) (map result_kept s.results.entries) stands s.table (thread_shown top) ≡ parts_in (held_under s stands top)
under_is s {worker} {id} {items} stands top = ap (λ ds. record (parts_in (held s)) { deques = ds })
    (sym (map-append (deque_shown thread_shown) stands.left (record { id = id; owner = Some worker; items = top ∷ items } ∷ stands.right)))
