-- What a thief may steal that has chosen its victim.
use Rattle.std.specs.Prelude.{◌≡◌, ◌≢◌, ℕ, ◌+◌, ◌<◌, ◌≤◌, true, min, nat_lt, Some, List, [], ◌∷◌, ◌++◌, map, length, slice_get}
use Rattle.hall_thief.specs.HallNames.{DequeId, LaneSlot, ListSlot, Slot, HallKey, HallSeat, IsTaken}
use Rattle.deque_list.specs.declared.place.Place.{Place}
use Rattle.deque_list.specs.Ids.{IsSmallestFree, place_ids}
use Rattle.open_periods.specs.declared.period.Period.{Period}
use Rattle.hall_slots.specs.Passed.Receipts as shown
use Rattle.hall_slots.specs.Passed.Receipts.{ShowsUnready}
use Rattle.hall_slots.specs.Passed.Thread.{Thread}
use Rattle.turn_table.specs.declared.look.Look.{Look}
use Rattle.hall_slots.specs.declared.slot.Slot.TheVariants as slots
use Rattle.hall_thief.specs.Choosing.{HasTriedAll, HasVictim, look_shown}
use Rattle.hall_thief.specs.Stealing.{IsNew, IsOpenTo, MayTakeOver, MayTakeBottom}

-- A seat that held the list alone has chosen the deque at a place. It is a thief to whom the list is open, and its lane has one thread.
abbrev pub FoundMayBeTakenOver : Type 0
FoundMayBeTakenOver = (key : HallKey) (before seat : HallSeat) (list : ListSlot) (word place worker : ℕ) (lane : LaneSlot) (period : Period)
    (thread : Thread) → before.hand.holds ≡ (0, slots.List list) ∷ [] → (has : HasVictim key.workers word list before place lane seat)
    → IsOpenTo seat list worker → lane.lane.items ≡ thread ∷ [] → IsNew period (nat_lt 0 place) (list.part.begun + 1)
    → MayTakeOver key seat list (HasVictim.victim has).id lane worker period

-- Or it has more, and the seat took the lane of the next free deque besides, for which there is an empty one with room.
abbrev pub FoundBottomsMayBeTaken : Type 0
FoundBottomsMayBeTaken = (key : HallKey) (before middle seat : HallSeat) (list : ListSlot) (word place worker : ℕ) (lane new_was new : LaneSlot)
    (id : DequeId) (period : Period) (first bottom : Thread) (others : List Thread) → before.hand.holds ≡ (0, slots.List list) ∷ []
    → (has : HasVictim key.workers word list before place lane middle) → IsTaken middle (id.0 + 2) (slots.Lane new_was) seat
    → IsOpenTo seat list worker → lane.lane.items ≡ first ∷ (others ++ bottom ∷ []) → IsSmallestFree (place_ids list.part.order.places) id
    → length list.part.order.places ≢ list.part.order.most → new.lane.items ≡ [] → 1 ≤ new.lane.spare
    → IsNew period true (list.part.begun + 1) → MayTakeBottom key seat list (HasVictim.victim has).id lane id new worker period

-- nothing to steal: these looks show of each deque in reach that it has no thread to steal
abbrev pub ShowsNothing : (workers : ℕ) → List shown.Look → List Place → Type 0
ShowsNothing workers looks places =
    (place : ℕ) (p : Place) → place < min workers (length places) → slice_get places place ≡ Some p → ShowsUnready looks p

-- What a seat was answered that tried all deques in reach shows that none has a thread to steal.
abbrev pub TriesShowNothing : Type 0
TriesShowNothing = (workers word : ℕ) (list : ListSlot) (looks : List (Look Slot)) → HasTriedAll workers word list looks
    → ShowsNothing workers (map look_shown looks) list.part.order.places
