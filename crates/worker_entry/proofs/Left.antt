-- How a seat left that owned a deque or none.
use Rattle.std.proofs.Common.{◌≡◌, inl, inr}
use Rattle.std.specs.Prelude.{None, Result, Ok, Err}
use Rattle.worker_entry.specs.declared.hall.Hall.{Hall}
use Rattle.worker_entry.specs.declared.seat.Seat.{Seat}
use Rattle.worker_entry.specs.declared.refused.LeaveRefused.{LeaveRefused}
use Rattle.worker_entry.specs.declared.refused.LeaveRefused.TheVariants.{Busy, OutOfMemory}
use Rattle.worker_entry.specs.Leaving.{LeavesHall, LeavesIdle}

pub idle_leaves : (hall : Hall) (seat before after : Seat) (r : Result (Unit {0}) (Seat × LeaveRefused)) → seat.owned ≡ None
    → LeavesIdle hall seat before after r → LeavesHall hall seat before after r
idle_leaves hall seat before after (Ok done) none left = inl (none, left)
idle_leaves hall seat before after (Err (back, Busy held)) none left = (left.1, inr (inl none, left.0))
idle_leaves hall seat before after (Err (back, OutOfMemory)) none left = absurd left
