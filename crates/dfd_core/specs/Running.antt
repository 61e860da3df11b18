-- At which moment of a run of the machine a core is.
use Rattle.std.specs.Prelude.{◌≡◌, ℕ, ◌≤◌, Option, None, Some, List, [], length}
use Rattle.dag_order.specs.declared.finish.Finish.{Finish}
use Rattle.depth_first_run.specs.States.{Setting}
use Rattle.open_periods.specs.Passed.Books.{booked}
use Rattle.open_periods.specs.Passed.Moments.{Moment, opening}
use Rattle.open_periods.specs.Passed.Machine.{HasEnded}
use Rattle.open_periods.specs.Passed.DequeMachineRuns.{Pair, Reaches}
use Rattle.node_table.specs.Table.{Table}
use Rattle.scheduler_state.specs.Passed.Settings.{IsSettingOf}
use Rattle.scheduler_state.specs.Held.{Held}
use Rattle.scheduler_state.specs.Moments.{HasRun}
use Rattle.open_periods.specs.Passed.Terms.{Terms, machine_of}
use Rattle.play_rules.specs.declared.ends.RunEnd.{RunEnd}
use Rattle.play_rules.specs.declared.ends.RunEnd.TheVariants.{Finished}
use Rattle.depth_first_run.specs.Run.{finish_of_run}

-- What is held is at the moment to which this run of a program of this table leads, and no more actions are done than may be. The run may have
-- free give ups. While no end is kept the root has not ended; a kept finish is that of the depth-first run, and the root has ended.
pub record IsAtMoment (t : Table) (k : ℕ) (terms : Terms) (h : Held) (end : Option RunEnd) (c : Setting) (run : List Pair) (m : Moment)
    : Type 0 where
  pub setting : IsSettingOf t k c
  pub reaches : Reaches (machine_of c terms) opening run m
  pub stands : HasRun c terms h run m
  pub within : length (booked m.books) ≤ terms.limits.actions
  pub going : end ≡ None → ¬ HasEnded (machine_of c terms) m []
  pub finished : (finish : Finish) → end ≡ Some (Finished finish) → HasEnded (machine_of c terms) m [] × (finish ≡ finish_of_run c)

-- whichever program it is that the table is of, it is so at the moment of some run
abbrev pub IsSomewhere : Table → ℕ → Terms → Held → Option RunEnd → Type 0
IsSomewhere t k terms h end =
    (c : Setting) → IsSettingOf t k c → ∥ ((run : List Pair) × (m : Moment) × IsAtMoment t k terms h end c run m) ∥₁
