-- How a hall is closed by a seat that owns a deque or none.
use Rattle.std.proofs.Common.{◌≡◌, inl, inr, refl, sym, ◌∙◌, subst}
use Rattle.std.specs.Prelude.{None, Result, Ok, Err, MatchResult}
use Rattle.deque_list.specs.declared.deque_id.DequeId.{DequeId}
use Rattle.play_rules.specs.declared.ends.RunEnd.{RunEnd}
use Rattle.turn_table.specs.Tables.{key_of}
use Rattle.hall_slots.specs.Closing.{IsClosed}
use Rattle.hall_slots.specs.declared.list_slot.ListSlot.{ListSlot}
use Rattle.hall_slots.specs.declared.pool_slot.PoolSlot.{PoolSlot}
use Rattle.worker_entry.specs.declared.closing.Closing.{Closing}
use Rattle.worker_entry.specs.declared.hall.Hall.{Hall}
use Rattle.worker_entry.specs.declared.seat.Seat.{Seat}
use Rattle.worker_entry.specs.declared.refused.CloseRefused.{CloseRefused}
use Rattle.worker_entry.specs.declared.refused.CloseRefused.TheVariants.{StillIn, NotOver, OutOfMemory}
use Rattle.worker_entry.specs.Closing.{Closes, ClosesAlone, GivesClosing, HasClosedWith, MayHaveEnded}

-- what the one call says of the end, the other one says too
pub told_on : (end same : RunEnd) (r : Result Closing (Hall × Seat × CloseRefused)) → end ≡ same → MatchResult r (λ closing. closing.end ≡ end) (λ back. ⊥)
    → MatchResult r (λ closing. closing.end ≡ same) (λ back. MayHaveEnded back.2)
told_on end same (Ok closing) is told = told ∙ is
told_on end same (Err back) is told = absurd told

-- a seat that owned none
pub alone_closes : (hall : Hall) (last : Seat) (r : Result Closing (Hall × Seat × CloseRefused)) → last.places ≡ hall.workers → last.owned ≡ None
    → ClosesAlone hall last r → Closes hall last r
alone_closes hall last (Ok closing) all none closes = (all, last, inl (none, refl), closes.0, closes.1, closes.2, closes.3)
alone_closes hall last (Err (back, seat, StillIn places)) all none closes = absurd closes
alone_closes hall last (Err (back, seat, NotOver)) all none closes = (all, inl (inl none, closes.0), closes.1)
alone_closes hall last (Err (back, seat, OutOfMemory)) all none closes = absurd closes

-- one that gave its deque up where this end is kept
pub owner_closes : (hall : Hall) (last idle : Seat) (end : RunEnd) (closing : Closing) → last.places ≡ hall.workers
    → (deque : DequeId) × HasClosedWith last deque end idle
    → (list : ListSlot) × (pool : PoolSlot) × IsClosed (key_of hall.row) idle.place list pool closing.end
    × GivesClosing list pool closing.end closing × (closing.end ≡ end) → Closes hall last (Ok closing)
owner_closes hall last idle end closing all goes closed = (
  all,
  idle,
  inr (subst (λ (e : RunEnd). (deque : DequeId) × HasClosedWith last deque e idle) (sym closed.4) goes),
  closed.0,
  closed.1,
  closed.2,
  closed.3,
)
