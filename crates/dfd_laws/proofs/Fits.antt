-- The events of a play have places and workers that a trail may have.
use Rattle.std.proofs.Common.{ℕ, ◌+◌, ◌≤◌, List, arith}
use Rattle.deque_machine.specs.Machine.{Setting, Event}
use Rattle.deque_machine.specs.Moments.{Moment}
use Rattle.deque_machine.specs.Play.{Limits, Ending, IsReady, reach, Wants, a_theft, a_give_up, a_wait, an_action, words_drawn, Plays, is_over, is_stopped, goes_on}
use Rattle.deque_machine.specs.Runs.{Pair}
use Rattle.trail_check.specs.Told.{kind_told, events_in_trail}
use Rattle.language_limits.specs.declared.TheConstants.{MOST_DEQUES}
use Rattle.play_rules.proofs.Firsts.{first_below}
use Rattle.trail_meaning.specs.Ranges.{FitsKind, FitEvents}

fits_kind : (s : Setting) (m : Moment) (worker word : ℕ) (event : Event) → s.workers ≤ MOST_DEQUES → Wants s m worker word event → FitsKind (kind_told event)
fits_kind s m worker word event few (a_theft place id idle first named) =
    let below = first_below (reach s m) word (IsReady m) place first in
    let near : reach s m ≤ s.workers = omega arith in omega (arith, below, near, few)
fits_kind s m worker word event few (a_give_up forced) = tt
fits_kind s m worker word event few (a_wait o place child at none) = tt
fits_kind s m worker word event few (an_action o place next has fits) = tt

pub fit_events : (s : Setting) → s.workers ≤ MOST_DEQUES → (limits : Limits) (words : ℕ → ℕ) (n : ℕ) (m : Moment) (run : List Pair) (last : Moment) (ending : Ending)
    → Plays s limits words n m run last ending → FitEvents s.workers (events_in_trail run)
fit_events s few limits words n m run last ending (is_over n' m' has) = tt
fit_events s few limits words n m run last ending (is_stopped n' m' pair stop turn meets) = tt
fit_events s few limits words n m run last ending (goes_on n' m' next last' pair later ending' turn none may rest) = (
  (first_below s.workers (words n) _ pair.worker turn.first, fits_kind s m pair.worker _ pair.event few turn.wants),
  fit_events s few limits words (n + words_drawn m pair.worker) next later last ending rest,
)
