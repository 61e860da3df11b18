-- What a theft writes into a hall, and what a seat is after it.
use Rattle.std.specs.Prelude.{◌≡◌, ◌≢◌, ℕ, suc, ◌+◌, ◌<◌, Bool, true, false, nat_lt, Option, None, Some, List, [], ◌∷◌, ◌++◌, length}
use Rattle.hall_thief.specs.HallNames.{DequeId, Each, with_hand, LaneSlot, ListSlot, SeatNote, Slot, HallKey, HallSeat}
use Rattle.deque_list.specs.declared.place.Place.{Place}
use Rattle.open_periods.specs.Periods.{open_shown}
use Rattle.open_periods.specs.declared.period.Period.{Period}
use Rattle.space_ledger.specs.BooksList.{books_list}
use Rattle.hall_slots.specs.Passed.Thread.{Thread}
use Rattle.hall_slots.specs.Passed.Writing.{place_of, new_period}
use Rattle.hall_slots.specs.declared.event.Event.TheVariants.{Stole}
use Rattle.hall_slots.specs.declared.slot.Slot.TheVariants as slots

-- the note of a seat that stole: it owns this deque, in the period of this number
abbrev pub stolen_note : SeatNote → DequeId → (period : ℕ) → SeatNote
stolen_note note deque period = record note { deque = Some deque; counting = false; mine = note.mine ++ Stole deque period ∷ [] }

-- a seat that may steal: it is in and owns no deque
pub record IsThief (seat : HallSeat) : Type 0 where
  pub placed : 0 < seat.hand.note.places
  pub stays : seat.hand.note.left ≡ false
  pub idle : seat.hand.note.deque ≡ None

-- One period more was begun, and the places are these. The rest of the list is as it was, and no end is kept.
pub record IsRobbed (was now : ListSlot) (places : List Place) : Type 0 where
  pub places_are : now.part.order.places ≡ places
  pub most : now.part.order.most ≡ was.part.order.most
  pub waiting : now.part.waiting ≡ was.part.waiting
  pub results : now.part.results ≡ was.part.results
  pub books : books_list now.part.books ≡ books_list was.part.books
  pub begun : now.part.begun ≡ was.part.begun + 1
  pub crew : now.crew.items ≡ was.crew.items
  pub end : now.end ≡ was.end
  pub no_end : was.end ≡ None

-- This thread alone is in the lane, and a period of this worker begins there.
pub record Begins (lane : LaneSlot) (thread : Thread) (worker : ℕ) (ahead : Bool) (number : ℕ) : Type 0 where
  pub items : lane.lane.items ≡ thread ∷ []
  pub period : Period
  pub running : lane.running ≡ Some (record { worker = worker; period = period })
  pub shown : open_shown worker period ≡ new_period worker ahead number

-- The seat holds the lane of a deque in reach that nobody owns and that has one thread, and the list. With this list and this lane the deque
-- is its worker's, in a period that begins.
pub record HasTakenOver (key : HallKey) (seat : HallSeat) (list : ListSlot) (id : DequeId) (lane : LaneSlot) : Type 0 where
  pub thief : IsThief seat
  pub list_was : ListSlot
  pub lane_was : LaneSlot
  pub holds : seat.hand.holds ≡ (id.0 + 2, slots.Lane lane_was) ∷ (0, slots.List list_was) ∷ []
  pub left : List Place
  pub right : List Place
  pub near : length left < key.workers
  pub places_were : list_was.part.order.places ≡ left ++ place_of id None ∷ right
  pub thread : Thread
  pub one : lane_was.lane.items ≡ thread ∷ []
  pub robbed : IsRobbed list_was list (left ++ place_of id (Some seat.hand.note.worker) ∷ right)
  pub begins : Begins lane thread seat.hand.note.worker (nat_lt 0 (length left)) (suc list_was.part.begun)

-- The seat holds the lane of a free deque, that of a deque in reach that has two threads at least, and the list. With this list and these lanes
-- the bottom thread of its victim is in the new deque, to the right of it, which is its worker's in a period that begins.
pub record HasTakenBottom (key : HallKey) (seat : HallSeat) (list : ListSlot) (victim : DequeId) (lane : LaneSlot) (id : DequeId)
    (new : LaneSlot) : Type 0 where
  pub thief : IsThief seat
  pub list_was : ListSlot
  pub lane_was : LaneSlot
  pub new_was : LaneSlot
  pub holds :
      seat.hand.holds ≡ (id.0 + 2, slots.Lane new_was) ∷ (victim.0 + 2, slots.Lane lane_was) ∷ (0, slots.List list_was) ∷ []
  pub left : List Place
  pub right : List Place
  pub owner : Option ℕ
  pub near : length left < key.workers
  pub places_were : list_was.part.order.places ≡ left ++ place_of victim owner ∷ right
  pub free : Each (λ place. place.id.0 ≢ id.0) list_was.part.order.places
  pub first : Thread
  pub others : List Thread
  pub bottom : Thread
  pub more : lane_was.lane.items ≡ first ∷ (others ++ bottom ∷ [])
  pub stay : lane.lane.items ≡ first ∷ others
  pub running : lane.running ≡ lane_was.running
  pub robbed : IsRobbed list_was list (left ++ place_of victim owner ∷ place_of id (Some seat.hand.note.worker) ∷ right)
  pub begins : Begins new bottom seat.hand.note.worker true (suc list_was.part.begun)

-- The seat stole into this deque, in the period that was begun last in this list. It holds these slots now.
abbrev pub StealsInto : HallSeat → DequeId → ListSlot → List (ℕ × Slot) → HallSeat → Type 0
StealsInto before deque list holds after = after ≡ with_hand before (record {
  seated = before.hand.seated;
  holds = holds;
  note = stolen_note before.hand.note deque list.part.begun;
  looks = before.hand.looks;
})

abbrev pub HasStolen : HallSeat → DequeId → ListSlot → HallSeat → Type 0
HasStolen before deque list after = StealsInto before deque list [] after
