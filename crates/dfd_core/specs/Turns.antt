-- Whose turn it is.
use Rattle.std.specs.Prelude.{◌≡◌, ℕ, ◌<◌, Some, is_some, List}
use Rattle.depth_first_run.specs.States.{Setting}
use Rattle.open_periods.specs.Passed.Moments.{Moment}
use Rattle.open_periods.specs.Passed.Play.{IsFirst, CanMove, IsReady, reach, words_drawn}
use Rattle.open_periods.specs.Passed.DequeMachineRuns.{Pair}
use Rattle.open_periods.specs.Passed.Terms.{machine_of}
use Rattle.dfd_core.specs.declared.run.Core.{Core}
use Rattle.dfd_core.specs.declared.turn.Turn.{Turn}
use Rattle.dfd_core.specs.Cores.{IsAt, terms_at, workers_of, words_of_turn}
use Rattle.dfd_core.specs.Plays.{IsDrawn}

-- The coming words pick this turn. By the first of them its worker is the first that can move; an idle one draws the second for its theft,
-- and the owner of a deque draws none.
pub record PicksTurn (words later : ℕ → ℕ) (core : Core) (turn : Turn) : Type 0 where
  pub below : turn.worker < workers_of core
  pub first : (c : Setting) (run : List Pair) (m : Moment) → IsAt c core run m
      → IsFirst (workers_of core) (words 0) (CanMove (machine_of c (terms_at core)) m) turn.worker
  pub word : (word : ℕ) → turn.word ≡ Some word → word ≡ words 1
  pub draws : (c : Setting) (run : List Pair) (m : Moment) → IsAt c core run m → words_drawn m turn.worker ≡ words_of_turn (is_some turn.word)
  pub later_is : IsDrawn words (words_of_turn (is_some turn.word)) later

-- the deque that an idle worker robs at a moment is at this place, as a word picks it
abbrev pub IsVictim : Setting → Core → Moment → (word place : ℕ) → Type 0
IsVictim c core m word place = IsFirst (reach (machine_of c (terms_at core)) m) word (IsReady m) place
