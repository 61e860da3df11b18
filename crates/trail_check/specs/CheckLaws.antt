-- What holds of the answers to trails.
use Rattle.std.specs.Prelude.{◌≡◌, ◌≢◌, ℕ, ◌<◌, List, ◌++◌, pos, ◌≤ℤ◌, Result, Ok, Err}
use Rattle.deque_machine.specs.Books.{bound}
use Rattle.depth_first_run.specs.States.{Setting}
use Rattle.depth_first_run.specs.Run.{list_of}
use Rattle.deque_machine.specs.Moments.{Moment}
use Rattle.deque_machine.specs.Runs.{Pair}
use Rattle.trail_check.specs.Good.{IsGood}
use Rattle.trail_check.specs.GoodLaws.{AreBounded}
use Rattle.trail_check.specs.Verdicts.{AreNumbers}
use Rattle.trail_meaning.specs.Shown.{TrailShown}
use Rattle.trail_meaning.specs.declared.trail_event.TrailEvent.{TrailEvent}
use Rattle.trail_check.specs.Checking.{trail_terms, trail_machine, ChecksTrail}
use Rattle.trail_check.specs.declared.verify_fail.VerifyFail.{VerifyFail}
use Rattle.trail_check.specs.declared.verify_fail.VerifyFail.TheVariants.{OutOfMemory}

-- an answer to a trail, other than that memory is wanting
abbrev pub IsAnswer : Setting → TrailShown → Result ℕ VerifyFail → Type 0
IsAnswer c t answer = (answer ≢ Err OutOfMemory) × ChecksTrail c t answer

-- there is at most one
abbrev pub OneAnswer : Type 0
OneAnswer = (c : Setting) (t : TrailShown) (one other : Result ℕ VerifyFail) → 0 < c.quota → IsAnswer c t one → IsAnswer c t other → one ≡ other

-- and there is one
abbrev pub AnAnswer : Type 0
AnAnswer = (c : Setting) (t : TrailShown) → 0 < c.quota → (answer : Result ℕ VerifyFail) × IsAnswer c t answer

-- Of an accepted trail: its events are good, and its numbers are theirs; this holds after each front of them; and its high-water mark is at
-- most the peak, and two quotas for each period that is marked ahead.
pub record IsBounded (c : Setting) (t : TrailShown) : Type 0 where
  pub run : List Pair
  pub last : Moment
  pub good : IsGood (trail_machine c t) (trail_terms t).limits t.events run last
  pub numbers : AreNumbers (trail_machine c t) run last t.numbers
  pub each : (front back : List TrailEvent) → t.events ≡ front ++ back → AreBounded (trail_machine c t) (trail_terms t).limits front last
  pub high : pos t.numbers.high ≤ℤ bound c.quota (list_of c) t.numbers.ahead

abbrev pub AcceptedTrailsAreBounded : Type 0
AcceptedTrailsAreBounded = (c : Setting) (t : TrailShown) (actions : ℕ) → 0 < c.quota → ChecksTrail c t (Ok actions) → IsBounded c t
