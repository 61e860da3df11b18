-- The numbers of a worker at work are within those of its hall.
use Rattle.std.specs.Prelude.{ℕ, ◌≤◌, List}
use Rattle.hall_slots.specs.Passed.Machine.{Setting}
use Rattle.hall_slots.specs.Passed.Moments.{Moment}
use Rattle.hall_slots.specs.Passed.Play.{Limits}
use Rattle.hall_machine.specs.Views.{View}
use Rattle.hall_machine.specs.Values.{Hall}
use Rattle.hall_machine.specs.Steps.{Step, Leads}
use Rattle.hall_machine.specs.Writing.{IsAtWork}
use Rattle.hall_machine.specs.State.{RunningState}

-- The words of its top thread are in use, this has done no more actions than may be done, and its period has used no more than the quota.
pub record AreWithin (s : Setting) (limits : Limits) (h : Hall) {worker : ℕ} (w : IsAtWork h worker) : Type 0 where
  pub words : w.top.words ≤ h.pool.live
  pub done : w.top.done ≤ limits.actions
  pub used : w.period.used ≤ s.quota

-- so it is in each running state
abbrev pub OwnersAreWithin : Setting → Type 0
OwnersAreWithin s = (limits : Limits) (h : Hall) (steps : List Step) (m : Moment) (leads : Leads s steps m) (count : ℕ) (views : List View)
    (worker : ℕ) (w : IsAtWork h worker) → RunningState s limits h steps m leads count views → AreWithin s limits h w
