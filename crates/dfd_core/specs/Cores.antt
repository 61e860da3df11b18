-- What contracts see of a core, and at which moment of a run it is.
use Rattle.std.specs.Prelude.{◌≡◌, ℕ, Bool, cond, Option, Some, List, length, Result}
use Rattle.dag_order.specs.declared.finish.Finish.{Finish}
use Rattle.depth_first_run.specs.States.{Setting}
use Rattle.deque_list.specs.declared.deque_id.DequeId.{DequeId}
use Rattle.open_periods.specs.Passed.Moments.{Moment}
use Rattle.open_periods.specs.Passed.DequeMachineRuns.{Pair}
use Rattle.depth_first_list.specs.QuotaWords.{quota_words}
use Rattle.node_table.specs.Codes.{code_shown}
use Rattle.open_periods.specs.declared.seat.Seat.{Seat}
use Rattle.open_periods.specs.declared.period.Period.{Period}
use Rattle.scheduler_state.specs.declared.event.Event.{Event}
use Rattle.play_rules.specs.declared.stop.Stop.{Stop}
use Rattle.scheduler_state.specs.Held.{held}
use Rattle.scheduler_state.specs.Moments.{terms_of}
use Rattle.open_periods.specs.Passed.Terms.{Terms}
use Rattle.dfd_core.specs.declared.run.Core.{Core}
use Rattle.play_rules.specs.declared.ends.RunEnd.{RunEnd}
use Rattle.play_rules.specs.declared.ends.RunEnd.TheVariants.{Finished}
use Rattle.scheduler_state.specs.declared.stepped.Stepped.{Stepped}
use Rattle.dfd_core.specs.Running.{IsAtMoment}
use Rattle.scheduler_state.specs.Told.{IsTold}
use Rattle.dfd_core.specs.Steps.{Comes}
use Rattle.dfd_core.specs.GiveUps as give_ups

-- how its run ended, if it has
abbrev pub end_of : Core → Option RunEnd
end_of core = core.end

-- how many workers it has, and what may stop its run
abbrev pub terms_at : Core → Terms
terms_at core = terms_of core.scheduler core.limit

abbrev pub workers_of : Core → ℕ
workers_of core = length core.scheduler.table.seats.items

-- the core is at the moment of a run of a program
abbrev pub IsAt : Setting → Core → List Pair → Moment → Type 0
IsAt c core run m = IsAtMoment (code_shown core.code) (quota_words core.k) (terms_at core) (held core.scheduler) core.end c run m

-- its run has finished
abbrev pub HasFinished : Core → Type 0
HasFinished core = (finish : Finish) × (core.end ≡ Some (Finished finish))

-- what a step has made of it, that was begun at a moment of a run, while no end was kept
abbrev pub Steps : Setting → (after : Core) → (worker word : ℕ) → List Pair → Moment → Stepped → Type 0
Steps c after worker word run m stepped =
    (result : Result (Option Event) Stop) × IsTold stepped result
    × Comes (code_shown after.code) (quota_words after.k) (terms_at after) (held after.scheduler) after.end c worker word run m result

-- what a give up has made of it, that was begun at a moment of a run
abbrev pub GivesUp : {E : Type 0} → Setting → (after : Core) → (worker : ℕ) → List Pair → Moment → Result DequeId E → Type 0
GivesUp c after worker run m result =
    give_ups.GivesUp (code_shown after.code) (quota_words after.k) (terms_at after) (held after.scheduler) after.end c worker run m result

-- a run by the same terms
abbrev pub SameSetting : Core → Core → Type 0
SameSetting before after = (after.code ≡ before.code) × (after.k ≡ before.k) × (terms_at after ≡ terms_at before)

-- the period of a worker that is not idle
abbrev pub period_of : Seat → Period
period_of seat = seat.period

-- how many words the turn of a worker draws, who is idle or not
abbrev pub words_of_turn : Bool → ℕ
words_of_turn idle = cond idle 2 1
