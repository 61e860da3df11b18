-- When a thief may steal, and what its seat is then.
use Rattle.std.specs.Prelude.{◌≡◌, ◌≢◌, ℕ, ◌+◌, ◌<◌, ◌≤◌, Bool, true, nat_lt, Option, None, List, [], ◌∷◌, ◌++◌, length}
use Rattle.containers.specs.BoundedList.{entries}
use Rattle.hall_thief.specs.HallNames.{DequeId, with_hand, LaneSlot, ListSlot, HallKey, HallSeat}
use Rattle.deque_list.specs.Ids.{IsSmallestFree, place_ids}
use Rattle.hall_slots.specs.Passed.Parts.{Has}
use Rattle.open_periods.specs.declared.period.Period.{Period}
use Rattle.hall_slots.specs.Passed.Thread.{Thread}
use Rattle.hall_slots.specs.declared.slot.Slot.TheVariants as slots
use Rattle.hall_thief.specs.Thefts.{stolen_note, IsThief}

-- a period in which nothing is done yet, with this mark and this number
pub record IsNew (period : Period) (ahead : Bool) (number : ℕ) : Type 0 where
  pub number_is : period.number ≡ number
  pub unused : period.used ≡ 0
  pub marked : period.ahead ≡ ahead
  pub ran_nothing : entries period.book ≡ []
  pub bore_none : entries period.births ≡ []

-- The seat of this worker may steal, and no end is kept in the list.
pub record IsOpenTo (seat : HallSeat) (list : ListSlot) (worker : ℕ) : Type 0 where
  pub thief : IsThief seat
  pub its_worker : seat.hand.note.worker ≡ worker
  pub no_end : list.end ≡ None

-- It holds the list and the lane of a deque in reach that nobody owns and that has one thread. The period is the next one, and is marked where
-- there is a deque to the left.
pub record MayTakeOver (key : HallKey) (seat : HallSeat) (list : ListSlot) (id : DequeId) (lane : LaneSlot) (worker : ℕ) (period : Period)
    : Type 0 where
  pub open_to : IsOpenTo seat list worker
  pub holds : seat.hand.holds ≡ (id.0 + 2, slots.Lane lane) ∷ (0, slots.List list) ∷ []
  pub has : Has list.part.order.places id None
  pub near : length (Has.left has) < key.workers
  pub thread : Thread
  pub one : lane.lane.items ≡ thread ∷ []
  pub new : IsNew period (nat_lt 0 (length (Has.left has))) (list.part.begun + 1)

-- It holds the list, the lane of a deque in reach that has two threads at least, and the lane of the next free deque, for which there is an
-- empty one with room. The period is the next one, and is marked.
pub record MayTakeBottom (key : HallKey) (seat : HallSeat) (list : ListSlot) (victim : DequeId) (lane : LaneSlot) (id : DequeId)
    (new : LaneSlot) (worker : ℕ) (period : Period) : Type 0 where
  pub open_to : IsOpenTo seat list worker
  pub new_was : LaneSlot
  pub holds : seat.hand.holds ≡ (id.0 + 2, slots.Lane new_was) ∷ (victim.0 + 2, slots.Lane lane) ∷ (0, slots.List list) ∷ []
  pub owner : Option ℕ
  pub has : Has list.part.order.places victim owner
  pub near : length (Has.left has) < key.workers
  pub next : IsSmallestFree (place_ids list.part.order.places) id
  pub few : length list.part.order.places ≢ list.part.order.most
  pub first : Thread
  pub others : List Thread
  pub bottom : Thread
  pub more : lane.lane.items ≡ first ∷ (others ++ bottom ∷ [])
  pub room : 1 ≤ new.lane.spare
  pub empty : new.lane.items ≡ []
  pub period_new : IsNew period true (list.part.begun + 1)

-- It stole into this deque, in the period of this number, and holds nothing.
abbrev pub HasStolenIn : HallSeat → DequeId → ℕ → HallSeat → Type 0
HasStolenIn before deque number after = after ≡ with_hand before (record {
  seated = before.hand.seated;
  holds = [];
  note = stolen_note before.hand.note deque number;
  looks = before.hand.looks;
})
