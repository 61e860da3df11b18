-- What an action did to the pool and the lane may be put back.
use Rattle.std.proofs.Common.{◌≡◌, ℕ, ◌∷◌, List, sym, subst}
use Rattle.std.specs.Prelude.{Some}
use Rattle.hall_parts.specs.HallNames.{DequeId, Each, LaneSlot, Running, ListSlot, PoolSlot, HallKey, table_of, quota_of, HallSeat, ActionId, IsAtPoint}
use Rattle.hall_parts.specs.HallNames.{Thread, PoolIsSound}
use Rattle.deque_list.specs.Lanes.{LaneView}
use Rattle.hall_parts.specs.Passed.Acts.{StaysAtPoint}
use Rattle.hall_slots.specs.declared.event.Event.TheVariants.{Did}
use Rattle.hall_parts.specs.Writes.{parts, told_note}
use Rattle.hall_parts.specs.EventParts.{MayAct}
use Rattle.hall_parts.specs.Puts.{MayPutPoolAndLane}
use Rattle.hall_parts.specs.Staying.{AllAtPoints}
use Rattle.hall_parts.specs.Writing.{DoesEvent}
use Rattle.hall_parts.specs.declared.noting.Noting.TheVariants.{Does}
use Rattle.hall_parts.proofs.Noted.{pool_may}
use Rattle.hall_parts.proofs.Taken.{on}
use Rattle.hall_actions.specs.Ready.{IsReadyWithPool}

-- with the pool, after which the seat owns its deque
pub acted : (key : HallKey) (seat : HallSeat) (deque : DequeId) (pool now : PoolSlot) (threads : LaneView Thread) (running : Running) (top : Thread)
    (more ready : ℕ) (lane : LaneSlot) (name : ActionId) → MayAct seat deque → (is : IsReadyWithPool key seat deque pool threads running top more ready)
    → ((list : ListSlot) → DoesEvent key seat.hand.note.worker deque (parts list is.0 is.2.lane) (parts list now lane) (Does (Did name) (Some deque)))
    → PoolIsSound key now → AllAtPoints key lane → MayPutPoolAndLane key seat deque now lane (told_note seat.hand.note (Some deque) (Did name))
acted key seat deque pool now threads running top more ready lane name may is does sound points =
    pool_may key seat deque (Does (Did name) (Some deque)) is.2.quota may.goes may.counting (on seat.hand.note (Some deque) (Did name)) is.2.lane lane
    points is.0 now is.2.holds does (λ before. sound)

-- a thread goes back on top of the others, all at their points
pub on_top_again : (key : HallKey) (top now : Thread) (under threads : List Thread) → threads ≡ now ∷ under → StaysAtPoint top now
    → IsAtPoint (table_of key) (quota_of key) top → Each (IsAtPoint (table_of key) (quota_of key)) under
    → Each (IsAtPoint (table_of key) (quota_of key)) threads
on_top_again key top now under threads are stays point others =
    subst (Each (IsAtPoint (table_of key) (quota_of key))) (sym are) (stays (table_of key) (quota_of key) point, others)
