-- What contracts see of a core, and at which moment of a run it is.
use Rattle.std.specs.Prelude.{◌≡◌, ℕ, Option, Some, List, length, Result}
use Rattle.dag_order.specs.declared.finish.Finish.{Finish}
use Rattle.depth_first_run.specs.States.{Setting}
use Rattle.deque_machine.specs.Moments.{Moment}
use Rattle.deque_machine.specs.Runs.{Pair}
use Rattle.deque_machine.specs.Terms.{Terms}
use Rattle.depth_first_list.specs.QuotaWords.{quota_words}
use Rattle.node_table.specs.Codes.{code_shown}
use Rattle.play_rules.specs.declared.ends.RunEnd.{RunEnd}
use Rattle.play_rules.specs.declared.ends.RunEnd.TheVariants.{Finished}
use Rattle.play_rules.specs.declared.stop.Stop.{Stop}
use Rattle.scheduler_state.specs.declared.event.Event.{Event}
use Rattle.scheduler_state.specs.Held.{held}
use Rattle.scheduler_state.specs.Moments.{terms_of}
use Rattle.scheduler_state.specs.declared.stepped.Stepped.{Stepped}
use Rattle.scheduler_state.specs.Told.{IsTold}
use Rattle.async_core.specs.declared.run.AsyncCore.{AsyncCore}
use Rattle.async_core.specs.Running.{IsAtMoment}
use Rattle.async_core.specs.Steps.{Comes}

-- how its run ended, if it has
abbrev pub end_of : AsyncCore → Option RunEnd
end_of core = core.end

-- how many workers it has, and what may stop its run
abbrev pub terms_at : AsyncCore → Terms
terms_at core = terms_of core.scheduler core.limit

abbrev pub workers_of : AsyncCore → ℕ
workers_of core = length core.scheduler.table.seats.items

-- the core is at the moment of a run of a program
abbrev pub IsAt : Setting → AsyncCore → List Pair → Moment → Type 0
IsAt c core run m = IsAtMoment (code_shown core.code) (quota_words core.k) (terms_at core) (held core.scheduler) core.end c run m

-- its run has finished
abbrev pub HasFinished : AsyncCore → Type 0
HasFinished core = (finish : Finish) × (core.end ≡ Some (Finished finish))

-- what a step has made of it, that was begun at a moment of a run, while no end was kept
abbrev pub Steps : Setting → (after : AsyncCore) → (worker : ℕ) → List Pair → Moment → Stepped → Type 0
Steps c after worker run m stepped =
    (result : Result (Option Event) Stop) × IsTold stepped result
    × Comes (code_shown after.code) (quota_words after.k) (terms_at after) (held after.scheduler) after.end c worker run m result

-- a run by the same terms
abbrev pub SameSetting : AsyncCore → AsyncCore → Type 0
SameSetting before after = (after.code ≡ before.code) × (after.k ≡ before.k) × (terms_at after ≡ terms_at before)
