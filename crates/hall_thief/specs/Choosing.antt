-- Whom a thief robs, by what its seat was answered.
use Rattle.std.specs.Prelude.{◌≡◌, ◌⊎◌, ℕ, zero, suc, ◌+◌, ◌%◌, ◌<◌, ◌≤◌, min, Option, None, Some, List, [], ◌∷◌, ◌++◌, map, length, slice_get}
use Rattle.deque_list.specs.declared.place.Place.{Place}
use Rattle.turn_table.specs.declared.held.Held.{Held}
use Rattle.turn_table.specs.declared.look.Look.{Look}
use Rattle.turn_table.specs.declared.look.Look.TheVariants.{Took, Refused, Counted}
use Rattle.turn_table.specs.Hands.{took}
use Rattle.hall_thief.specs.HallNames.{with_hand, LaneSlot, ListSlot, Slot, value_of, HallSeat, IsTaken}
use Rattle.turn_table.specs.Backs.{kept, told_more}
use Rattle.hall_slots.specs.Passed.Receipts as shown
use Rattle.hall_slots.specs.Passed.Receipts.{ShowsVictim}
use Rattle.hall_slots.specs.declared.slot.Slot.TheVariants as slots

-- what an answer shows
abbrev pub look_shown : Look Slot → shown.Look
look_shown (Took slot value) = shown.took slot (value_of value)
look_shown (Refused slot seen) = shown.held slot seen
look_shown (Counted found) = shown.counted found

-- a seat that was told this besides, and is else what it was
abbrev pub IsToldMore : HallSeat → List (Look Slot) → HallSeat → Type 0
IsToldMore before more after = after ≡ with_hand before (told_more before.hand more)

-- the seat holds the list alone
abbrev pub HoldsTheList : HallSeat → Type 0
HoldsTheList seat = (list : ListSlot) × (seat.hand.holds ≡ (0, slots.List list) ∷ [])

-- the deque at a place with this lane has a thread to steal
abbrev pub IsReadyBy : Place → LaneSlot → Type 0
IsReadyBy place lane = (place.owner ≡ None) ⊎ (2 ≤ length lane.lane.items)

-- the answer that a seat took this lane
abbrev pub took_lane : Place → LaneSlot → Look Slot
took_lane place lane = Took (place.id.0 + 2) (slots.Lane lane)

-- It took the lane of the deque at a place, where a thread is to be stolen; or it took it and put it back.
abbrev pub HasTried : Place → HallSeat → Option LaneSlot → HallSeat → Type 0
HasTried place before None after = (lane : LaneSlot) × (¬ IsReadyBy place lane) × IsToldMore before (took_lane place lane ∷ []) after
HasTried place before (Some lane) after = IsTaken before (place.id.0 + 2) (slots.Lane lane) after × IsReadyBy place lane

-- The answers of a seat that tried the deques of so many turns, in their order, and found no thread to steal there: each is the lane of the place
-- that its turn picks.
abbrev pub Tried : (word reach turns : ℕ) → List Place → List (Look Slot) → Type 0
Tried word reach zero places looks = looks ≡ []
Tried word reach (suc turn) places looks = (earlier : List (Look Slot)) × Tried word reach turn places earlier
    × (place : Place) × (lane : LaneSlot) × (slice_get places ((word + turn) % reach) ≡ Some place) × (¬ IsReadyBy place lane)
    × (looks ≡ earlier ++ took_lane place lane ∷ [])

-- how many deques are in reach: the leftmost ones of the list, as many as there are workers
abbrev pub reach_in : (workers : ℕ) → ListSlot → ℕ
reach_in workers list = min workers (length list.part.order.places)

-- After these answers the next turn picks this deque, at this place.
pub record PicksNext (workers word : ℕ) (list : ListSlot) (looks : List (Look Slot)) (at : ℕ) (place : Place) : Type 0 where
  pub turn : ℕ
  pub in_reach : turn < reach_in workers list
  pub tried : Tried word (reach_in workers list) turn list.part.order.places looks
  pub is : at ≡ (word + turn) % reach_in workers list
  pub there : slice_get list.part.order.places at ≡ Some place

-- it tried all deques in reach
abbrev pub HasTriedAll : (workers word : ℕ) → ListSlot → List (Look Slot) → Type 0
HasTriedAll workers word list looks = Tried word (reach_in workers list) (reach_in workers list) list.part.order.places looks

-- After these answers another seat held the lane of the deque that the next turn picks.
pub record IsNextHeld (workers word : ℕ) (list : ListSlot) (looks : List (Look Slot)) (held : Held) : Type 0 where
  pub at : ℕ
  pub place : Place
  pub picks : PicksNext workers word list looks at place
  pub its_lane : held.slot ≡ place.id.0 + 2

-- the answer that a slot was held
abbrev pub refused_look : Held → Look Slot
refused_look held = Refused held.slot held.seen

-- It holds the lane of the deque at a place, besides what it held: that of the turn after those that it tried. Its answers show that it robs this
-- one.
pub record HasVictim (workers word : ℕ) (list : ListSlot) (before : HallSeat) (place : ℕ) (lane : LaneSlot) (after : HallSeat) : Type 0 where
  pub more : List (Look Slot)
  pub victim : Place
  pub picks : PicksNext workers word list more place victim
  pub is_ready : IsReadyBy victim lane
  pub after_is : after ≡ with_hand before (took kept (told_more before.hand more) (victim.id.0 + 2) (slots.Lane lane))
  pub shows : ShowsVictim workers word (map look_shown (more ++ took_lane victim lane ∷ [])) list.part.order.places place

-- So it is with the deque that it chose; or it chose none, since none in reach has a thread to steal.
abbrev pub HasChosen : (workers word : ℕ) → ListSlot → HallSeat → Option (ℕ × LaneSlot) → HallSeat → Type 0
HasChosen workers word list before None after =
    (more : List (Look Slot)) × IsToldMore before more after × HasTriedAll workers word list more
HasChosen workers word list before (Some found) after = HasVictim workers word list before found.0 found.1 after

-- It was refused a lane, holds what it held, and was answered this besides.
abbrev pub IsRefusedALane : (workers word : ℕ) → ListSlot → HallSeat → Held → HallSeat → Type 0
IsRefusedALane workers word list before held after = (tried : List (Look Slot)) × IsNextHeld workers word list tried held
    × IsToldMore before (tried ++ refused_look held ∷ []) after
