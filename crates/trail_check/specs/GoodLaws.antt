-- What holds of good trails.
use Rattle.std.specs.Prelude.{◌≡◌, ℕ, ◌<◌, ◌≤◌, List, [], ◌∷◌, ◌++◌, ◌≤ℤ◌}
use Rattle.depth_first_list.specs.Actions.{ends}
use Rattle.depth_first_list.specs.Facts.{label_at, deed_at}
use Rattle.deque_machine.specs.Books.{IsPrefix, periods_ahead, periods_marked, bound}
use Rattle.deque_machine.specs.Machine.{Setting, Event, does, HasEnded, May}
use Rattle.deque_machine.specs.Moments.{Moment, opening, done_at, live_at, threads_in, Rises}
use Rattle.deque_machine.specs.Play.{Limits, Plays, finished}
use Rattle.deque_machine.specs.Runs.{Pair}
use Rattle.trail_meaning.specs.declared.trail_event.TrailEvent.{TrailEvent}
use Rattle.trail_meaning.specs.declared.trail_numbers.TrailNumbers.{TrailNumbers}
use Rattle.trail_check.specs.Following.{Leads, Follows}
use Rattle.trail_check.specs.Good.{IsGood}
use Rattle.trail_check.specs.Told.{events_in_trail}
use Rattle.trail_check.specs.Verdicts.{TrailVerdict, IsVerdict}

-- if at least one deque is allowed, the events of each play that finishes are good, as a trail has them
abbrev pub PlaysAreFollowed : Setting → Type 0
PlaysAreFollowed s = (limits : Limits) (words : ℕ → ℕ) (run : List Pair) (last : Moment) → 0 < limits.deques
    → Plays s limits words 0 opening run last finished → IsGood s limits (events_in_trail run) run last

-- The words in use are at most the peak, and two quotas for each period that is ahead; the threads in the deques are in depth-first order,
-- from left to right and from top to bottom; and no action was done twice.
pub record HoldsAt (s : Setting) (m : Moment) : Type 0 where
  pub bounded : (n : ℕ) → IsPrefix s.list (done_at m) n → live_at s.list m ≤ℤ bound s.quota s.list (periods_ahead n m.books)
  pub in_order : Rises (threads_in m.deques)
  pub once : (place : ℕ) → done_at m place ≤ 1

-- After these first events of a trail there is a moment. At each such moment all this holds, and at most as many periods are ahead as are
-- marked at the last moment.
pub record AreBounded (s : Setting) (limits : Limits) (front : List TrailEvent) (last : Moment) : Type 0 where
  pub begun : List Pair
  pub moment : Moment
  pub follows : Follows s limits opening front begun moment
  pub each : (run : List Pair) (m : Moment) → Follows s limits opening front run m → HoldsAt s m
  pub marked : (run : List Pair) (m : Moment) (n : ℕ) → Follows s limits opening front run m → IsPrefix s.list (done_at m) n
      → periods_ahead n m.books ≤ periods_marked last.books

-- so it is after each front of good events
abbrev pub AcceptedAreBounded : Setting → Type 0
AcceptedAreBounded s = (limits : Limits) (events : List TrailEvent) (run : List Pair) (last : Moment) → IsGood s limits events run last
    → (front back : List TrailEvent) → events ≡ front ++ back → AreBounded s limits front last

-- once the root has ended, no event may come
abbrev pub NothingBehindTheEnd : Setting → Type 0
NothingBehindTheEnd s = (limits : Limits) (events : List TrailEvent) (run : List Pair) (m after : Moment) (worker : ℕ) (event : Event)
    → Follows s limits opening events run m → HasEnded s m [] → ¬ May s m worker event after

-- From a moment on the last of these events is the End of the root, which had not ended before.
pub record EndsWithRoot (s : Setting) (limits : Limits) (first : Moment) (events : List TrailEvent) (last : Moment) : Type 0 where
  pub front : List TrailEvent
  pub told : TrailEvent
  pub is : events ≡ front ++ told ∷ []
  pub begun : List Pair
  pub before : Moment
  pub follows : Follows s limits first front begun before
  pub not_ended : ¬ HasEnded s before []
  pub place : ℕ
  pub of_root : label_at s.list place ≡ []
  pub its_end : deed_at s.list place ≡ ends
  pub leads : Leads s limits before told (does place) last

-- and so it is with good events
abbrev pub RootEndsLast : Setting → Type 0
RootEndsLast s = (limits : Limits) (events : List TrailEvent) (run : List Pair) (last : Moment) → IsGood s limits events run last
    → EndsWithRoot s limits opening events last

-- there is at most one verdict
abbrev pub OneVerdict : Setting → Type 0
OneVerdict s = (limits : Limits) (events : List TrailEvent) (numbers : TrailNumbers) (one other : TrailVerdict)
    → IsVerdict s limits events numbers one → IsVerdict s limits events numbers other → one ≡ other

-- and there is one
abbrev pub AVerdict : Setting → Type 0
AVerdict s = (limits : Limits) (events : List TrailEvent) (numbers : TrailNumbers)
    → (verdict : TrailVerdict) × IsVerdict s limits events numbers verdict
