-- A steal with the word 0 is a Take.
use Rattle.std.proofs.Common.{◌≡◌, ℕ, ◌≤◌, ◌<◌, List, inl, inr}
use Rattle.std.proofs.Math.Logic.{∥∥₁_map}
use Rattle.std.specs.Prelude.{Option, None, Some, Result, Ok, Err}
use Rattle.depth_first_list.specs.Actions.{record_words}
use Rattle.depth_first_run.specs.States.{Setting}
use Rattle.deque_machine.specs.Moments.{Moment}
use Rattle.deque_machine.specs.Runs.{Pair}
use Rattle.deque_machine.specs.Terms.{Terms, machine_of}
use Rattle.scheduler_state.specs.Passed.Tables.{seat_at}
use Rattle.play_rules.specs.declared.stop.Stop.{Stop}
use Rattle.scheduler_state.specs.declared.event.Event.{Event}
use Rattle.scheduler_state.specs.Held.{Held, IsInOrder}
use Rattle.scheduler_state.specs.Moments.{HasRun}
use Rattle.scheduler_state.proofs.Sitting.{idle_owns_none}
use Rattle.worker_step.specs.Thefts.{StepsBy}
use Rattle.ready_machine.specs.Entries.{IsReadyList}
use Rattle.async_core.specs.Steps.{EventOrNone}
use Rattle.async_core.proofs.Wents.{one_or_fork, went_whole}
use Rattle.async_core.proofs.Entering.{meets_by}

pub thief_event : (c : Setting) (terms : Terms) → record_words ≤ c.quota → (before after : Held) (run : List Pair) (m : Moment) → HasRun c terms before run m
    → IsReadyList (machine_of c terms) m → (worker : ℕ) → worker < terms.workers → ∥ IsInOrder before ∥₁ → seat_at before.table worker ≡ None
    → (result : Result (Option Event) Stop) → StepsBy c terms after worker 0 run m result → EventOrNone c terms after worker run m result
thief_event c terms quota before after run m at ready worker below ordered idle (Ok None) by = by
thief_event c terms quota before after run m at ready worker below ordered idle (Ok (Some told)) by = ∥∥₁_map by (λ g.
    elim (one_or_fork c terms quota before after run m at ready worker below told g) [
      | inl entries ↦ went_whole c terms quota before after run m at ready worker below told g entries
      | inr two ↦ absurd (idle_owns_none c terms quota before run m at worker ordered idle two.owned)
    ])
thief_event c terms quota before after run m at ready worker below ordered idle (Err stop) by = meets_by c terms after worker below run m ready stop by
