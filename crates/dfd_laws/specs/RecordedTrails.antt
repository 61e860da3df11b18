-- The trail of a play that finishes.
use Rattle.std.specs.Prelude.{◌≡◌, ℕ, ◌≤◌, List, length, Ok}
use Rattle.depth_first_run.specs.States.{Setting}
use Rattle.deque_machine.specs.Moments.{Moment, opening}
use Rattle.deque_machine.specs.Play.{Plays, finished}
use Rattle.deque_machine.specs.Runs.{Pair}
use Rattle.trail_check.specs.Told.{events_in_trail}
use Rattle.trail_check.specs.Verdicts.{AreNumbers}
use Rattle.language_limits.specs.declared.TheConstants.{LONGEST_TEXT}
use Rattle.trail_meaning.specs.Ranges.{FitSetting}
use Rattle.trail_meaning.specs.Shown.{TrailShown}
use Rattle.trail_check.specs.Checking.{trail_terms, trail_machine, ChecksTrail}
use Rattle.trail_text.specs.TrailText.{IsTrail, trail_text}

-- A trail is that of a play: its numbers are in range, and its source has at most the bytes of a text; the play finishes, by some words; the
-- trail has its events, and the numbers of its run.
pub record IsOfPlay (c : Setting) (t : TrailShown) : Type 0 where
  pub quota : c.quota ≡ t.k
  pub setting : FitSetting t.k t.p t.arena t.steps t.deques
  pub source : length t.source ≤ LONGEST_TEXT
  pub words : ℕ → ℕ
  pub run : List Pair
  pub last : Moment
  pub plays : Plays (trail_machine c t) (trail_terms t).limits words 0 opening run last finished
  pub events : t.events ≡ events_in_trail run
  pub numbers : AreNumbers (trail_machine c t) run last t.numbers

-- its text is the text of a trail, and it is accepted
abbrev pub TrailsOfPlaysCheck : Type 0
TrailsOfPlaysCheck = (c : Setting) (t : TrailShown) → IsOfPlay c t
    → IsTrail (trail_text t) t × ((actions : ℕ) × ChecksTrail c t (Ok actions))
