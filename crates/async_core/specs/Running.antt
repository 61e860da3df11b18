-- At which moment of a run of the ready list what a scheduler holds is.
use Rattle.std.specs.Prelude.{◌≡◌, ℕ, ◌≤◌, Option, None, Some, List, [], length}
use Rattle.dag_order.specs.declared.finish.Finish.{Finish}
use Rattle.depth_first_run.specs.States.{Setting}
use Rattle.depth_first_run.specs.Run.{finish_of_run}
use Rattle.deque_machine.specs.Books.{booked}
use Rattle.deque_machine.specs.Moments.{Moment, opening}
use Rattle.deque_machine.specs.Machine.{HasEnded}
use Rattle.deque_machine.specs.Runs.{Pair}
use Rattle.deque_machine.specs.Terms.{Terms, machine_of}
use Rattle.node_table.specs.Table.{Table}
use Rattle.scheduler_state.specs.Passed.Settings.{IsSettingOf}
use Rattle.play_rules.specs.declared.ends.RunEnd.{RunEnd}
use Rattle.play_rules.specs.declared.ends.RunEnd.TheVariants.{Finished}
use Rattle.scheduler_state.specs.Held.{Held}
use Rattle.scheduler_state.specs.Moments.{HasRun}
use Rattle.ready_machine.specs.ReadyMachine.{ReadyReaches}

-- What is held is at the moment to which this run of the ready list leads, of a program of this table, and no more actions are done than may
-- be. While no end is kept the root has not ended; a kept finish is that of the depth-first run, and then the root has ended.
pub record IsAtMoment (t : Table) (k : ℕ) (terms : Terms) (h : Held) (end : Option RunEnd) (c : Setting) (run : List Pair) (m : Moment)
    : Type 0 where
  pub setting : IsSettingOf t k c
  pub reaches : ReadyReaches (machine_of c terms) opening run m
  pub stands : HasRun c terms h run m
  pub within : length (booked m.books) ≤ terms.limits.actions
  pub going : end ≡ None → ¬ HasEnded (machine_of c terms) m []
  pub finished : (finish : Finish) → end ≡ Some (Finished finish) → HasEnded (machine_of c terms) m [] × (finish ≡ finish_of_run c)

-- whichever program it is that the table is of, it is so at the moment of some run
abbrev pub IsSomewhere : Table → ℕ → Terms → Held → Option RunEnd → Type 0
IsSomewhere t k terms h end =
    (c : Setting) → IsSettingOf t k c → ∥ ((run : List Pair) × (m : Moment) × IsAtMoment t k terms h end c run m) ∥₁
