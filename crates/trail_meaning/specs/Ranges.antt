-- The numbers that a trail may have.
use Rattle.std.specs.Prelude.{◌≡◌, ℕ, ◌<◌, ◌≤◌, ◌%◌, ◌^◌, List, [], ◌∷◌, length}
use Rattle.language_limits.specs.declared.TheConstants.{GREATEST_QUOTA, LEAST_QUOTA, LONGEST_TEXT, MOST_DEQUES, MOST_TRAIL_ACTIONS, MOST_WORDS, MOST_WORKERS}
use Rattle.trail_meaning.specs.Shown.{TrailShown}
use Rattle.trail_meaning.specs.declared.trail_event.TrailEvent.{TrailEvent}
use Rattle.trail_meaning.specs.declared.trail_kind.TrailKind.{TrailKind}
use Rattle.trail_meaning.specs.declared.trail_kind.TrailKind.TheVariants.{Steal, Act, Suspend, GiveUp}
use Rattle.trail_meaning.specs.declared.trail_numbers.TrailNumbers.{TrailNumbers}

-- a number from `least` to `most`
abbrev pub IsWithin : ℕ → ℕ → ℕ → Type 0
IsWithin least most n = (least ≤ n) × (n ≤ most)

-- the setting of a play: its quota k, its p workers, and its limits of words, actions and deques; the quota and the arena are
-- whole pieces
pub record FitSetting (k p words actions lists : ℕ) : Type 0 where
  pub quota : IsWithin LEAST_QUOTA GREATEST_QUOTA k
  pub quota_whole : k % LEAST_QUOTA ≡ 0
  pub workers : IsWithin 1 MOST_WORKERS p
  pub arena : IsWithin LEAST_QUOTA MOST_WORDS words
  pub arena_whole : words % LEAST_QUOTA ≡ 0
  pub steps : IsWithin 1 MOST_TRAIL_ACTIONS actions
  pub deques : IsWithin 1 MOST_DEQUES lists

-- the place of the deque that a thread is stolen from
abbrev pub FitsKind : TrailKind → Type 0
FitsKind (Steal place) = place < MOST_DEQUES
FitsKind Act = Unit {0}
FitsKind Suspend = Unit {0}
FitsKind GiveUp = Unit {0}

-- an event of one of p workers
abbrev pub FitsEvent : ℕ → TrailEvent → Type 0
FitsEvent p event = (event.worker < p) × FitsKind event.kind

abbrev pub FitEvents : ℕ → List TrailEvent → Type 0
FitEvents p [] = Unit {0}
FitEvents p (event ∷ events) = FitsEvent p event × FitEvents p events

-- numbers of 64 bits
abbrev pub FitNumbers : TrailNumbers → Type 0
FitNumbers n = (n.periods < 2 ^ 64) × (n.ahead < 2 ^ 64) × (n.high < 2 ^ 64)

pub record HasTrailRanges (t : TrailShown) : Type 0 where
  pub setting : FitSetting t.k t.p t.arena t.steps t.deques
  pub source : length t.source ≤ LONGEST_TEXT
  pub events : FitEvents t.p t.events
  pub numbers : FitNumbers t.numbers
