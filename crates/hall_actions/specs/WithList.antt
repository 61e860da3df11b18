-- What an owner does that holds the list beside its lane and no pool, whichever the event is.
use Rattle.std.specs.Prelude.{◌≡◌, ℕ, ◌≤◌, Bool, true, false, Option, None, Some, []}
use Rattle.dag_order.specs.Births.{root}
use Rattle.hall_parts.specs.HallNames.{DequeId, HallSeat, Event, HallKey, ListSlot, ActionId, IsDummy, IsEnd, label_of, next_of, Ended, Next, Thread}
use Rattle.hall_parts.specs.HallNames.{kept_under}
use Rattle.hall_parts.specs.Passed.Acts.{next_name}
use Rattle.hall_parts.specs.EventParts.{IsNext, IsTooMuch, MayGoOn}
use Rattle.hall_parts.specs.Passed.Joins.{released}
use Rattle.hall_parts.specs.Rooms.{HasMoreBooks, HasMoreToLeave, HasMoreToWait}
use Rattle.hall_parts.specs.Taken.{list_and_lane}
use Rattle.hall_slots.specs.declared.event.Event.TheVariants.{Stole, Did, Suspended, GaveUp, Halted}
use Rattle.hall_actions.specs.declared.at_next.AtNext.{AtNext}
use Rattle.hall_actions.specs.Ends.{CanLeave}
use Rattle.hall_actions.specs.Kept.{CanJoinKept}
use Rattle.hall_actions.specs.Pauses.{CanClose, CanWait}
use Rattle.hall_actions.specs.Ready.{IsReady}
use Rattle.hall_actions.specs.declared.with_list.ListEvent.{ListEvent}
use Rattle.hall_actions.specs.declared.with_list.ListEvent.TheVariants.{GiveUp, Wait, Dummy, Join, RootEnd}
use Rattle.space_ledger.specs.BooksList.{books_spare}
use Rattle.thread_frames.specs.declared.next.Next.TheVariants as nexts

-- whether it is an action, which is counted
abbrev pub is_action : ListEvent → Bool
is_action GiveUp = false
is_action (Wait child) = false
is_action Dummy = true
is_action (Join child) = true
is_action RootEnd = true

-- How the list changed since it was taken, if memory was asked for what the event writes there, and how much there is then.
abbrev pub HasMoreFor : ListEvent → (was now : ListSlot) → Type 0
HasMoreFor GiveUp was now = HasMoreBooks was now
HasMoreFor (Wait child) was now = HasMoreToWait was now
HasMoreFor Dummy was now = HasMoreBooks was now
HasMoreFor (Join child) was now = now ≡ was
HasMoreFor RootEnd was now = HasMoreToLeave was now

abbrev pub HasRoomFor : ListEvent → ListSlot → Type 0
HasRoomFor GiveUp list = 1 ≤ books_spare list.part.books
HasRoomFor (Wait child) list = (1 ≤ books_spare list.part.books) × (1 ≤ list.part.waiting.spare)
HasRoomFor Dummy list = 1 ≤ books_spare list.part.books
HasRoomFor (Join child) list = Unit {0}
HasRoomFor RootEnd list = (1 ≤ books_spare list.part.books) × (1 ≤ list.part.results.spare)

-- The root ends alone in its deque, and no end is kept.
pub record CanEndRoot (key : HallKey) (deque : DequeId) (list : ListSlot) (at : AtNext) : Type 0 where
  pub alone : at.lane.items ≡ []
  pub closes : CanClose deque list
  pub leaves : CanLeave list (Thread.id at.top)
  pub no_end : list.end ≡ None
  pub root_id : Thread.id at.top ≡ root
  pub root_label : label_of at.top ≡ []
  pub next : IsEnd (next_of at.top)
  pub listed : IsNext key at.top nexts.End

-- The event is the one that the top thread asks for, by what the list says. The result that a Join finds releases no words.
abbrev pub IsWithList : HallKey → DequeId → ListSlot → AtNext → ListEvent → Type 0
IsWithList key deque list at GiveUp = (next : Next) × IsTooMuch key next at.top at.running.period × CanClose deque list
IsWithList key deque list at (Wait child) = (at.lane.items ≡ []) × CanClose deque list × CanWait key list at.top child
IsWithList key deque list at Dummy = CanClose deque list × IsDummy (next_of at.top) × IsNext key at.top nexts.Dummy
IsWithList key deque list at (Join child) = CanJoinKept key list at.top child
    × ((ended : Ended) → kept_under list.part.results child ≡ Some ended → released at.top.run.state ended.state ≡ 0)
IsWithList key deque list at RootEnd = CanEndRoot key deque list at

-- The seat holds its lane and the list, and may do the event; it holds a count for an action, and none for another event.
pub record IsReadyForList (key : HallKey) (seat : HallSeat) (deque : DequeId) (list : ListSlot) (at : AtNext) (ready : ℕ) (event : ListEvent)
    : Type 0 where
  pub goes : MayGoOn seat deque
  pub counting : seat.hand.note.counting ≡ is_action event
  pub was : ListSlot
  pub more : HasMoreFor event was list
  pub is : IsReady key seat (list_and_lane deque was) at.lane at.running at.top 1 ready
  pub can : IsWithList key deque list at event

-- what the seat notes, and the deque that it owns then
abbrev pub IsNotedFor : ListEvent → DequeId → Thread → Event → Option DequeId → Type 0
IsNotedFor GiveUp deque top event owned = (event ≡ GaveUp deque) × (owned ≡ None)
IsNotedFor (Wait child) deque top event owned = (event ≡ Suspended (Thread.id top)) × (owned ≡ None)
IsNotedFor Dummy deque top event owned = (name : ActionId) × (event ≡ Did name) × (owned ≡ None)
IsNotedFor (Join child) deque top event owned = (name : ActionId) × (event ≡ Did name) × (owned ≡ Some deque)
IsNotedFor RootEnd deque top event owned = (name : ActionId) × (event ≡ Did name) × (owned ≡ None)

-- an action that it notes has the name of the next action of the thread
abbrev pub IsNamedAs : Thread → Event → Type 0
IsNamedAs top (Stole deque period) = Unit {0}
IsNamedAs top (Did name) = name ≡ next_name top
IsNamedAs top (Suspended thread) = Unit {0}
IsNamedAs top (GaveUp deque) = Unit {0}
IsNamedAs top (Halted end) = Unit {0}
