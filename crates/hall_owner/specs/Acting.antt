-- What the call of an owner does and answers.
use Rattle.std.specs.Prelude.{◌≡◌, ◌⊎◌, ℕ, ◌+◌, Option, List, [], ◌∷◌, ◌++◌, Result, Ok, Err}
use Rattle.hall_actions.specs.Passed.HallNames.{DequeId, HallSeat, HallKey, LaneSlot, Slot, Next}
use Rattle.play_rules.specs.declared.stop.Stop.TheVariants.{OutOfMemory}
use Rattle.turn_table.specs.declared.look.Look.{Look}
use Rattle.turn_table.specs.declared.look.Look.TheVariants.{Refused}
use Rattle.hall_actions.specs.Passed.Writes.{told_note}
use Rattle.hall_actions.specs.Advancing.{IsAtNext, HasLooked, took_lane}
use Rattle.hall_actions.specs.declared.at_next.AtNext.{AtNext}
use Rattle.hall_owner.specs.Decided.{Decides, Seen}
use Rattle.hall_owner.specs.Holding.{FailsBy, last_look, look_at_count, looks_of, refusal_note}
use Rattle.hall_owner.specs.Refusing.{IsRefusal, Refuses}
use Rattle.hall_owner.specs.declared.acting.Acted.{Acted}
use Rattle.hall_actions.specs.declared.refused.ActRefused.{ActRefused}
use Rattle.hall_actions.specs.declared.refused.ActRefused.TheVariants.{Busy, Over, Stopped}
use Rattle.hall_owner.specs.Taken.{list_in, looks_in, pool_in}
use Rattle.hall_owner.specs.declared.taken.Taken.{Taken}

-- The seat that held its lane did the event that it was to do by what it saw; it notes this, and holds nothing.
pub record HasDone (key : HallKey) (before : HallSeat) (deque : DequeId) (at : AtNext) (next : Next) (acted : Acted) (after : HallSeat) : Type 0 where
  pub seen : Seen
  pub decides : Decides key deque at next seen acted.event acted.owned
  pub leaves : HasLooked before (looks_of seen) (told_note before.hand.note acted.owned acted.event) after

-- So it is with a seat that held its lane: it did its event, or failed by what it saw.
abbrev pub Does : HallKey → HallSeat → DequeId → AtNext → Next → Result Acted ActRefused → HallSeat → Type 0
Does key before deque at next (Ok acted) after = HasDone key before deque at next acted after
Does key before deque at next (Err refused) after = FailsBy (IsRefusal key deque at next) before refused after

-- What the call did: it took its lane, whose top thread was before this action then, and saw just this of the list, the pool and the count. By all
-- this it did the event, and notes it. (Of an action it notes a name. That this is the name of the action before which its top thread was, the law of
-- the hall says of what it notes.)
pub record HasActed (key : HallKey) (before : HallSeat) (deque : DequeId) (acted : Acted) (after : HallSeat) : Type 0 where
  pub lane : LaneSlot
  pub at : AtNext
  pub next : Next
  pub ready : ℕ
  pub is_next : IsAtNext key lane at next ready
  pub seen : Seen
  pub decides : Decides key deque at next seen acted.event acted.owned
  pub leaves : HasLooked before (took_lane deque lane ∷ looks_of seen) (told_note before.hand.note acted.owned acted.event) after

-- How the call fails that took its lane: its top thread was before this action then, it saw just this, and by this it failed.
pub record FailsAt (key : HallKey) (before : HallSeat) (deque : DequeId) (refused : ActRefused) (after : HallSeat) : Type 0 where
  pub lane : LaneSlot
  pub at : AtNext
  pub next : Next
  pub ready : ℕ
  pub is_next : IsAtNext key lane at next ready
  pub seen : Seen
  pub refuses : Refuses key deque at next seen refused
  pub leaves : HasLooked before (took_lane deque lane ∷ (looks_of seen ++ last_look refused)) (refusal_note before.hand.note refused) after

-- How it fails before: its lane was refused to it; or it took its lane, and there was not enough memory on the way to its action.
abbrev pub AtLane : DequeId → List (Look Slot) → ActRefused → Type 0
AtLane deque more (Busy held) = (held.slot ≡ deque.0 + 2) × (more ≡ Refused held.slot held.seen ∷ [])
AtLane deque more (Over end) = ⊥
AtLane deque more (Stopped stop) = (stop ≡ OutOfMemory) × ((lane : LaneSlot) × (more ≡ took_lane deque lane ∷ []))

-- It did its event; or it failed before its action, or at it.
abbrev pub Acts : HallKey → HallSeat → DequeId → Result Acted ActRefused → HallSeat → Type 0
Acts key before deque (Ok acted) after = HasActed key before deque acted after
Acts key before deque (Err refused) after = FailsBy (AtLane deque) before refused after ⊎ FailsAt key before deque refused after

-- So it is with a seat that took what the event needs: it did this event, with a count if it is an action, or failed.
pub record HasDoneWith (key : HallKey) (before : HallSeat) (deque : DequeId) (at : AtNext) (next : Next) (taken : Taken) (acted : Acted)
    (after : HallSeat) : Type 0 where
  pub count : Option ℕ
  pub decides : Decides key deque at next (record { list = list_in taken; pool = pool_in taken; count = count }) acted.event acted.owned
  pub leaves : HasLooked before (look_at_count count) (told_note before.hand.note acted.owned acted.event) after

-- it saw before what it took
abbrev pub IsRefusalWith : HallKey → DequeId → AtNext → Next → Taken → List (Look Slot) → ActRefused → Type 0
IsRefusalWith key deque at next taken more refused = IsRefusal key deque at next (looks_in taken ++ more) refused

abbrev pub DoesWith : HallKey → HallSeat → DequeId → AtNext → Next → Taken → Result Acted ActRefused → HallSeat → Type 0
DoesWith key before deque at next taken (Ok acted) after = HasDoneWith key before deque at next taken acted after
DoesWith key before deque at next taken (Err refused) after = FailsBy (IsRefusalWith key deque at next taken) before refused after
