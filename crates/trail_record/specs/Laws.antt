-- What holds of recorded plays.
use Rattle.std.specs.Prelude.{ℕ, ◌<◌, List, []}
use Rattle.dag_order.specs.declared.finish.Finish.{Finish}
use Rattle.depth_first_run.specs.States.{Setting}
use Rattle.deque_machine.specs.Moments.{Moment, opening}
use Rattle.deque_machine.specs.Runs.{Pair}
use Rattle.deque_machine.specs.Terms.{Terms, machine_of}
use Rattle.dfd_core.specs.declared.run.Core.{Core}
use Rattle.play_rules.specs.declared.ends.RunEnd.TheVariants.{Finished}
use Rattle.dfd_core.specs.Cores.{IsAt}
use Rattle.trail_check.specs.Good.{IsGood}
use Rattle.trail_meaning.specs.declared.trail_event.TrailEvent.{TrailEvent}
use Rattle.trail_record.specs.Recorded.{PlaysRecorded}

-- What is recorded of a play that finishes, from the opening moment on and with at least one deque allowed, is good: the events lead, by a
-- run, to a moment at which the root has ended, and the core is there.
abbrev pub RecordedPlaysAreGood : Type 0
RecordedPlaysAreGood = (c : Setting) (terms : Terms) (words coming : ℕ → ℕ) (core : Core) (finish : Finish) (events : List TrailEvent)
    → 0 < terms.limits.deques → PlaysRecorded c terms words coming core [] opening (Finished finish) events
    → ∥ ((run : List Pair) × (last : Moment) × IsGood (machine_of c terms) terms.limits events run last × IsAt c core run last) ∥₁
