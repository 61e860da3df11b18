-- The numbers of a trail, and the verdict on it.
use Rattle.std.specs.Prelude.{◌≡◌, ◌≢◌, ℕ, suc, List, [], ◌∷◌, ◌++◌, length, pos}
use Rattle.deque_machine.specs.Books.{booked, periods_marked}
use Rattle.deque_machine.specs.Machine.{Setting, Event, HasEnded}
use Rattle.deque_machine.specs.Moments.{Moment, opening}
use Rattle.deque_machine.specs.Play.{Limits}
use Rattle.deque_machine.specs.Runs.{Pair, high_water_mark}
use Rattle.trail_meaning.specs.declared.trail_event.TrailEvent.{TrailEvent}
use Rattle.trail_meaning.specs.declared.trail_numbers.TrailNumbers.{TrailNumbers}
use Rattle.trail_check.specs.Following.{Leads, Follows}
use Rattle.trail_check.specs.Good.{IsGood}

-- the numbers of a run and its last moment: the periods, those that are marked ahead, and the high-water mark
pub record AreNumbers (s : Setting) (run : List Pair) (last : Moment) (numbers : TrailNumbers) : Type 0 where
  pub periods : numbers.periods ≡ length last.books
  pub ahead : numbers.ahead ≡ periods_marked last.books
  pub high : pos numbers.high ≡ high_water_mark s.list run

-- an event of a trail leads from a moment to no other
abbrev pub LeadsNowhere : Setting → Limits → Moment → TrailEvent → Type 0
LeadsNowhere s limits m told = (event : Event) (next : Moment) → ¬ Leads s limits m told event next

-- What may be said of a trail: it is accepted, with its number of actions; the event of this number, from 1, is bad; its events have not
-- ended, and are so many; or its numbers are wrong, and these are right.
pub data TrailVerdict : Type 0 where
  accepted : ℕ → TrailVerdict
  bad_event : ℕ → TrailVerdict
  not_ended : ℕ → TrailVerdict
  wrong_numbers : TrailNumbers → TrailVerdict

-- The verdict on the events and the numbers of a trail: it is accepted if its events are good and the numbers are theirs; its first bad
-- event is the first that leads nowhere; it has not ended if each event leads on, but the root has not ended; and its numbers are wrong if
-- its events are good and the numbers are not theirs.
pub data IsVerdict (s : Setting) (limits : Limits) (events : List TrailEvent) (numbers : TrailNumbers) : TrailVerdict → Type 0 where
  is_accepted : (run : List Pair) (last : Moment) → IsGood s limits events run last → AreNumbers s run last numbers
      → IsVerdict s limits events numbers (accepted (length (booked last.books)))
  is_bad : (front back : List TrailEvent) (told : TrailEvent) (run : List Pair) (m : Moment) → events ≡ front ++ told ∷ back
      → Follows s limits opening front run m → LeadsNowhere s limits m told
      → IsVerdict s limits events numbers (bad_event (suc (length front)))
  is_unended : (run : List Pair) (last : Moment) → Follows s limits opening events run last → ¬ HasEnded s last []
      → IsVerdict s limits events numbers (not_ended (length events))
  is_wrong : (run : List Pair) (last : Moment) (right : TrailNumbers) → IsGood s limits events run last → AreNumbers s run last right
      → right ≢ numbers → IsVerdict s limits events numbers (wrong_numbers right)
