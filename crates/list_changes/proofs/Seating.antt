-- Which deque each worker has behind the calls on the table.
use Rattle.std.proofs.Common.{◌≡◌, ◌≢◌, ℕ, ◌+◌, length, ap, ◌∙◌}
use Rattle.std.specs.Prelude.{None, Some}
use Rattle.deque_list.specs.declared.deque_id.DequeId.{DequeId}
use Rattle.open_periods.specs.declared.period.Period.{Period}
use Rattle.open_periods.specs.declared.table.PeriodTable.{PeriodTable}
use Rattle.open_periods.specs.Tables.{seat_at, deque_of}
use Rattle.list_changes.specs.Seats.{KeepsSeats, LeavesSeat, TakesSeat}

module _ (worker : ℕ) (before after : PeriodTable) (others : (w : ℕ) → w ≢ worker → seat_at after w ≡ seat_at before w)
    (workers : length after.seats.items ≡ length before.seats.items) where
  -- its period was closed
  pub left_by_close : seat_at after worker ≡ None → after.begun ≡ before.begun → LeavesSeat worker before after
  left_by_close idle begun = record { idle = idle; others = λ w other. ap deque_of (others w other); begun = begun; workers = workers }

  -- a period was begun for it
  pub taken_by_begin : (id : DequeId) (period : Period) → seat_at after worker ≡ Some (record { deque = id; period = period })
      → after.begun ≡ before.begun + 1 → TakesSeat worker id before after
  taken_by_begin id period seat begun = record { taken = ap deque_of seat; others = λ w other. ap deque_of (others w other); begun = begun; workers = workers }

-- an action was noted before
pub left_behind_note : (worker : ℕ) (before mid after : PeriodTable) → KeepsSeats before mid → LeavesSeat worker mid after → LeavesSeat worker before after
left_behind_note worker before mid after keeps leaves = record {
  idle = leaves.idle;
  others = λ w other. leaves.others w other ∙ keeps.deques w;
  begun = leaves.begun ∙ keeps.begun;
  workers = leaves.workers ∙ keeps.workers;
}
