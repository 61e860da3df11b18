-- What a thief is answered that takes the list and steals, and what its seat is then.
use Rattle.std.specs.Prelude.{◌≡◌, ◌⊎◌, ℕ, None, List, [], ◌∷◌, ◌++◌, map, Result, Ok, Err}
use Rattle.hall_thief.specs.HallNames.{DequeId, Event, LaneSlot, ListSlot, Slot, HallSeat}
use Rattle.deque_list.specs.declared.place.Place.{Place}
use Rattle.play_rules.specs.declared.stop.Stop.{Stop}
use Rattle.turn_table.specs.declared.look.Look.{Look}
use Rattle.turn_table.specs.declared.look.Look.TheVariants.{Took}
use Rattle.turn_table.specs.declared.held.Held.{Held}
use Rattle.hall_slots.specs.Passed.Receipts.{ShowsVictim}
use Rattle.hall_interleavings.specs.Thefts.{ShowsTheft}
use Rattle.hall_slots.specs.declared.slot.Slot.TheVariants as slots
use Rattle.hall_thief.specs.Choosing.{look_shown, took_lane, refused_look, IsToldMore, PicksNext}
use Rattle.hall_thief.specs.Seeking.{HasSought, IsHeldOff}
use Rattle.hall_thief.specs.declared.prey.SeekRefused.TheVariants as sought
use Rattle.hall_slots.specs.Stopping.{found_note}
use Rattle.hall_thief.specs.declared.refused.StealRefused.{StealRefused}
use Rattle.hall_thief.specs.declared.refused.StealRefused.TheVariants.{Busy, Nothing, Over, Stopped}
use Rattle.hall_thief.specs.Prey.{IsItsStop, IsNewHeld, LeavesStolen, LeavesWith, TakesNext, StealsInto}

-- The list that the seat took keeps no end, and these are its answers at the lanes that it tried then, in the order of its turns. They show the
-- deque that its word picks, which is at this place of the list; the last of them is its lane.
pub record Finds (workers word : ℕ) (list : ListSlot) (seen : List (Look Slot)) (place : ℕ) (victim : Place) (lane : LaneSlot) : Type 0 where
  pub no_end : list.end ≡ None
  pub tried : List (Look Slot)
  pub picks : PicksNext workers word list tried place victim
  pub last : seen ≡ tried ++ took_lane victim lane ∷ []
  pub chosen : ShowsVictim workers word (map look_shown seen) list.part.order.places place

-- what the seat was told: the list, the lanes that it tried, and more
abbrev pub all_told : ListSlot → (seen more : List (Look Slot)) → List (Look Slot)
all_told list seen more = Took 0 (slots.List list) ∷ (seen ++ more)

-- It stole: its answers show the steal of this deque, by its word.
pub record HasStolenBy (workers word : ℕ) (before : HallSeat) (event : Event) (after : HallSeat) : Type 0 where
  pub list : ListSlot
  pub seen : List (Look Slot)
  pub place : ℕ
  pub victim : Place
  pub lane : LaneSlot
  pub finds : Finds workers word list seen place victim lane
  pub id : DequeId
  pub shows : ShowsTheft workers word (map look_shown seen) list.part.order.places place id
  pub more : List (Look Slot)
  pub into : StealsInto list victim lane id more
  pub leaves : LeavesStolen list id (all_told list seen more) before after event

-- It met this stop, which is kept in the list from then on.
pub record HasMetStop (workers word : ℕ) (before : HallSeat) (stop : Stop) (after : HallSeat) : Type 0 where
  pub list : ListSlot
  pub seen : List (Look Slot)
  pub place : ℕ
  pub victim : Place
  pub lane : LaneSlot
  pub finds : Finds workers word list seen place victim lane
  pub its_stop : IsItsStop list lane stop
  pub more : List (Look Slot)
  pub takes : TakesNext list lane stop more
  pub leaves : LeavesWith before (found_note before.hand.note stop) (all_told list seen more) after

-- It found a victim that keeps other threads, and was refused the lane of the next free deque. It has these answers besides, and is else
-- what it was.
pub record FindsNewHeld (workers word : ℕ) (before : HallSeat) (held : Held) (after : HallSeat) : Type 0 where
  pub list : ListSlot
  pub seen : List (Look Slot)
  pub place : ℕ
  pub victim : Place
  pub lane : LaneSlot
  pub finds : Finds workers word list seen place victim lane
  pub new_held : IsNewHeld list lane held
  pub told : IsToldMore before (all_told list seen (refused_look held ∷ [])) after

-- What a seat is answered that held nothing and took the list first: a steal; that another seat holds a lane, which is that of the deque whose turn
-- it was, or that of a new deque; that there is nothing to steal, or that an end is kept; or a stop.
abbrev pub Steals : (workers word : ℕ) → HallSeat → HallSeat → Result Event StealRefused → Type 0
Steals workers word before after (Ok event) = HasStolenBy workers word before event after
Steals workers word before after (Err (Busy held)) = IsHeldOff workers word before held after ⊎ FindsNewHeld workers word before held after
Steals workers word before after (Err Nothing) = HasSought workers word before after (Err sought.Nothing)
Steals workers word before after (Err (Over end)) = HasSought workers word before after (Err (sought.Over end))
Steals workers word before after (Err (Stopped stop)) = HasMetStop workers word before stop after
