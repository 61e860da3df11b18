-- What an owner does that holds the list and the pool beside its lane, whichever the event is.
use Rattle.std.specs.Prelude.{◌≡◌, ℕ, ◌≤◌, ◌<◌, true, Option, None, Some, [], length}
use Rattle.hall_parts.specs.HallNames.{DequeId, HallSeat, HallKey, ListSlot, PoolSlot, IsEnd, label_of, next_of, Ended, Thread, kept_under}
use Rattle.hall_parts.specs.EventParts.{IsNext, MayGoOn}
use Rattle.hall_parts.specs.Passed.Joins.{released}
use Rattle.hall_parts.specs.Passed.Points.{words_at_end}
use Rattle.hall_parts.specs.Rooms.{HasMoreToLeave, IsSamePool}
use Rattle.hall_parts.specs.Taken.{all_three}
use Rattle.hall_actions.specs.declared.at_next.AtNext.{AtNext}
use Rattle.hall_actions.specs.Ends.{CanLeave, CanWake}
use Rattle.hall_actions.specs.Kept.{CanJoinKept}
use Rattle.hall_actions.specs.Pauses.{CanClose}
use Rattle.hall_actions.specs.Ready.{IsReady, PoolIsReady}
use Rattle.hall_actions.specs.declared.with_all.WholeEvent.{WholeEvent}
use Rattle.hall_actions.specs.declared.with_all.WholeEvent.TheVariants.{Join, Wake, Leave}
use Rattle.space_ledger.specs.BooksList.{books_spare}
use Rattle.thread_frames.specs.declared.next.Next.TheVariants as nexts

-- How the list changed since it was taken, and how much memory there is then: it is asked for only if a result is left.
abbrev pub HasMoreWith : WholeEvent → (was now : ListSlot) → Type 0
HasMoreWith (Join child) was now = now ≡ was
HasMoreWith Wake was now = now ≡ was
HasMoreWith Leave was now = HasMoreToLeave was now

abbrev pub HasRoomWith : WholeEvent → ListSlot → Type 0
HasRoomWith (Join child) list = Unit {0}
HasRoomWith Wake list = Unit {0}
HasRoomWith Leave list = (1 ≤ books_spare list.part.books) × (1 ≤ list.part.results.spare)

-- A forked thread ends alone in its deque. The words of its record block are in use.
pub record EndsForked (key : HallKey) (pool : PoolSlot) (at : AtNext) : Type 0 where
  pub alone : at.lane.items ≡ []
  pub forked : 0 < length (label_of at.top)
  pub live : words_at_end (label_of at.top) ≤ pool.pool.live
  pub next : IsEnd (next_of at.top)
  pub listed : IsNext key at.top nexts.End

-- The event is the one that the top thread asks for, by what the list says. The result that a Join finds releases words, which are in use.
abbrev pub IsWithAll : HallKey → DequeId → ListSlot → PoolSlot → AtNext → WholeEvent → Type 0
IsWithAll key deque list pool at (Join child) = CanJoinKept key list at.top child
    × ((ended : Ended) → kept_under list.part.results child ≡ Some ended → 0 < released at.top.run.state ended.state)
    × ((ended : Ended) → kept_under list.part.results child ≡ Some ended → released at.top.run.state ended.state ≤ pool.pool.live)
IsWithAll key deque list pool at Wake = EndsForked key pool at × CanWake key list at.top
IsWithAll key deque list pool at Leave = EndsForked key pool at × CanClose deque list × CanLeave list (Thread.id at.top)

-- The seat holds its lane, the list and the pool, and a count, and may do the event.
pub record IsReadyForAll (key : HallKey) (seat : HallSeat) (deque : DequeId) (list : ListSlot) (pool : PoolSlot) (at : AtNext) (ready : ℕ)
    (event : WholeEvent) : Type 0 where
  pub goes : MayGoOn seat deque
  pub counting : seat.hand.note.counting ≡ true
  pub was : ListSlot
  pub more : HasMoreWith event was list
  pub pool_was : PoolSlot
  pub same : IsSamePool pool_was pool
  pub pool_ready : PoolIsReady key pool
  pub is : IsReady key seat (all_three deque was pool_was) at.lane at.running at.top 1 ready
  pub can : IsWithAll key deque list pool at event

-- the deque that the seat owns then
abbrev pub owned_with : WholeEvent → DequeId → Option DequeId
owned_with (Join child) deque = Some deque
owned_with Wake deque = Some deque
owned_with Leave deque = None
