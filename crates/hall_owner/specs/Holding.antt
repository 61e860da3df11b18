-- What an owner holds whose top thread has come to its next action, and how its call fails.
use Rattle.std.specs.Prelude.{◌≡◌, ℕ, ◌≤◌, false, Option, None, Some, List, [], ◌∷◌, ◌++◌}
use Rattle.hall_actions.specs.Passed.HallNames.{DequeId, HallSeat, HallKey, LaneSlot, ListSlot, PoolSlot, SeatNote, Slot, Next}
use Rattle.play_rules.specs.declared.stop.Stop.{Stop}
use Rattle.play_rules.specs.declared.stop.Stop.TheVariants.{StepsSpent, OutOfMemory}
use Rattle.turn_table.specs.declared.look.Look.{Look}
use Rattle.turn_table.specs.declared.look.Look.TheVariants.{Took, Refused, Counted}
use Rattle.hall_actions.specs.Passed.EventParts.{MayGoOn}
use Rattle.hall_slots.specs.declared.slot.Slot.TheVariants as slots
use Rattle.hall_actions.specs.Advancing.{IsAtNext, HasLooked}
use Rattle.hall_actions.specs.declared.at_next.AtNext.{AtNext}
use Rattle.hall_owner.specs.Decided.{Seen}
use Rattle.hall_actions.specs.declared.refused.ActRefused.{ActRefused}
use Rattle.hall_actions.specs.declared.refused.ActRefused.TheVariants.{Busy, Over, Stopped}

-- The seat is in, owns the deque and holds these slots, among them its lane as it took it, whose top thread has come to this action.
pub record IsHolding (key : HallKey) (seat : HallSeat) (deque : DequeId) (taken : LaneSlot → List (ℕ × Slot)) (at : AtNext) (next : Next)
    (ready : ℕ) : Type 0 where
  pub goes : MayGoOn seat deque
  pub lane : LaneSlot
  pub holds : seat.hand.holds ≡ taken lane
  pub is_next : IsAtNext key lane at next ready

-- It holds no count and has found no stop.
pub record IsBefore (key : HallKey) (seat : HallSeat) (deque : DequeId) (taken : LaneSlot → List (ℕ × Slot)) (at : AtNext) (next : Next)
    (ready : ℕ) : Type 0 where
  pub holding : IsHolding key seat deque taken at next ready
  pub free : seat.hand.note.counting ≡ false
  pub none : seat.hand.note.found ≡ None

-- the note of a seat that found a stop
abbrev pub found_note : SeatNote → Stop → SeatNote
found_note note stop = record note { found = Some stop }

-- its answers at the list and at the pool, if it took them, and at its count, if it drew one
abbrev pub look_at_list : Option ListSlot → List (Look Slot)
look_at_list None = []
look_at_list (Some list) = Took 0 (slots.List list) ∷ []

abbrev pub look_at_pool : Option PoolSlot → List (Look Slot)
look_at_pool None = []
look_at_pool (Some pool) = Took 1 (slots.Pool pool) ∷ []

abbrev pub look_at_count : Option ℕ → List (Look Slot)
look_at_count None = []
look_at_count (Some found) = Counted found ∷ []

abbrev pub looks_of : Seen → List (Look Slot)
looks_of seen = look_at_list seen.list ++ (look_at_pool seen.pool ++ look_at_count seen.count)

-- the last answer of a seat that did no event: the slot that was refused to it, if one was
abbrev pub last_look : ActRefused → List (Look Slot)
last_look (Busy held) = Refused held.slot held.seen ∷ []
last_look (Over end) = []
last_look (Stopped stop) = []

-- its note then: the end that it was answered, or the stop that it found
abbrev pub refusal_note : SeatNote → ActRefused → SeatNote
refusal_note note (Busy held) = note
refusal_note note (Over end) = record note { answered = Some end }
refusal_note note (Stopped stop) = found_note note stop

-- How a seat fails that held some slots: its answers since then are such ones, and it holds nothing.
abbrev pub FailsBy : (List (Look Slot) → ActRefused → Type 0) → HallSeat → ActRefused → HallSeat → Type 0
FailsBy Shows before refused after =
    (more : List (Look Slot)) × Shows more refused × HasLooked before more (refusal_note before.hand.note refused) after

-- At the list: it was refused, or an end is kept there.
abbrev pub AtList : List (Look Slot) → ActRefused → Type 0
AtList more (Busy held) = (held.slot ≡ 0) × (more ≡ Refused held.slot held.seen ∷ [])
AtList more (Over end) = (list : ListSlot) × (list.end ≡ Some end) × (more ≡ Took 0 (slots.List list) ∷ [])
AtList more (Stopped stop) = ⊥

-- At the pool: it was refused.
abbrev pub AtPool : List (Look Slot) → ActRefused → Type 0
AtPool more (Busy held) = (held.slot ≡ 1) × (more ≡ Refused held.slot held.seen ∷ [])
AtPool more (Over end) = ⊥
AtPool more (Stopped stop) = ⊥

-- Before a count: there was not enough memory. At a count: it is at the limit or above it.
abbrev pub AtMemory : List (Look Slot) → ActRefused → Type 0
AtMemory more refused = (refused ≡ Stopped OutOfMemory) × (more ≡ [])

abbrev pub AtCount : (limit : ℕ) → List (Look Slot) → ActRefused → Type 0
AtCount limit more refused = (found : ℕ) × (limit ≤ found) × (refused ≡ Stopped (StepsSpent limit)) × (more ≡ Counted found ∷ [])
