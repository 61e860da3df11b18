-- What an owner's call has in its hands when it comes to its event.
use Rattle.std.specs.Prelude.{◌≡◌, ◌≢◌, ℕ, ◌+◌, ◌<◌, true, false, Some, List, ◌∷◌}
use Rattle.std.specs.Option.{option_map}
use Rattle.hall_parts.specs.HallNames.{DequeId, Each, LaneSlot, ListSlot, HallKey, table_of, quota_of, list_shown, running_shown, HallSeat, ThreadId}
use Rattle.hall_parts.specs.HallNames.{Setting, ListShown}
use Rattle.hall_slots.specs.Passed.Books.{charge_at}
use Rattle.moment_laws.specs.Passed.Parts as shown
use Rattle.hall_slots.specs.Passed.Facts.{words_at}
use Rattle.hall_slots.specs.Passed.Run.{list_of}
use Rattle.hall_slots.specs.Passed.Periods.{open_shown}
use Rattle.hall_slots.specs.Passed.Period.{Period as OpenPeriod}
use Rattle.thread_actions.specs.Acts.{IsCharged}
use Rattle.hall_slots.specs.Passed.ThreadFramesActions.{IsOfTheList, IsStill}
use Rattle.hall_slots.specs.Passed.Next.{Next}
use Rattle.hall_slots.specs.Passed.Thread.{Thread}
use Rattle.thread_state.specs.Settings.{IsSettingOf}

-- The lane that was taken has these threads under its top one, which has come to its next action without doing any, and shows this period,
-- whichever worker it is noted for. The period may have more room than it had in the lane.
pub record IsAtAction (lane : LaneSlot) (top : Thread) (under : List Thread) (holder : ℕ) (period : OpenPeriod) : Type 0 where
  pub top_was : Thread
  pub items : lane.lane.items ≡ top_was ∷ under
  pub still : IsStill top_was top
  pub running : option_map running_shown lane.running ≡ Some (open_shown holder period)

-- The seat is in and owns the deque.
pub record MayGoOn (seat : HallSeat) (deque : DequeId) : Type 0 where
  pub placed : 0 < seat.hand.note.places
  pub stays : seat.hand.note.left ≡ false
  pub owns : seat.hand.note.deque ≡ Some deque

-- it holds a count, for an action, or holds none
pub record MayAct (seat : HallSeat) (deque : DequeId) : Type 0 where
  pub goes : MayGoOn seat deque
  pub counting : seat.hand.note.counting ≡ true

pub record MayPause (seat : HallSeat) (deque : DequeId) : Type 0 where
  pub goes : MayGoOn seat deque
  pub counting : seat.hand.note.counting ≡ false

-- for each program that the key may be of this is the next action of the thread
abbrev pub IsNext : HallKey → Thread → Next → Type 0
IsNext key top next = (c : Setting) → IsSettingOf (table_of key) (quota_of key) c → ∥ IsOfTheList c top next ∥₁

-- and its period may do it, if it uses so many words of the quota should it be an Alloc
abbrev pub MayDoNext : HallKey → (worker : ℕ) → Next → (charge : ℕ) → Thread → OpenPeriod → Type 0
MayDoNext key worker next charge top period = (c : Setting) → IsSettingOf (table_of key) (quota_of key) c
    → ∥ ((is : IsOfTheList c top next) × IsCharged charge next c.quota (open_shown worker period) (words_at (list_of c) (IsOfTheList.place is))) ∥₁

-- for each program that the key may be of the next action of the thread takes more of the quota than its period has left
abbrev pub IsTooMuch : HallKey → Next → Thread → OpenPeriod → Type 0
IsTooMuch key next top period = (c : Setting) → IsSettingOf (table_of key) (quota_of key) c
    → ∥ ((is : IsOfTheList c top next) × (c.quota < period.used + charge_at c.quota (list_of c) (IsOfTheList.place is))) ∥₁

-- no thread waits for this one as its newest child
abbrev pub IsUnawaited : ListSlot → ThreadId → Type 0
IsUnawaited list id = Each (λ x. (newest : shown.Child) (older : List shown.Child) → x.children ≡ newest ∷ older → newest.id ≢ id)
    (ListShown.waiting (list_shown list))
