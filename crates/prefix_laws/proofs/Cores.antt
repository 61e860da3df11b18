-- What the laws ask of a scheduler, at the moment at which a core is.
use Rattle.std.proofs.Common.{ℕ, List, arith}
use Rattle.std.proofs.Math.Logic.{∥∥₁_elim, ∥∥₁_map, ∥∥₁_prop}
use Rattle.depth_first_run.specs.States.{Setting}
use Rattle.depth_first_run.proofs.Built.{whole_is_depth_first}
use Rattle.deque_machine.specs.Moments.{Moment}
use Rattle.deque_machine.specs.Runs.{Pair}
use Rattle.deque_machine.specs.Terms.{Terms, machine_of}
use Rattle.deque_machine.proofs.Reached.{bound_at}
use Rattle.node_table.specs.Table.{Table}
use Rattle.scheduler_state.specs.Passed.Settings.{IsSettingOf}
use Rattle.serial_journal.specs.declared.serial.Serial.{Serial}
use Rattle.scheduler_state.specs.declared.scheduler.Scheduler.{Scheduler}
use Rattle.scheduler_state.specs.Held.{held}
use Rattle.scheduler_state.specs.Moments.{HasRun, IsSound}
use Rattle.prefix_laws.specs.DequeLabels.{HasSomeRun}
use Rattle.prefix_laws.specs.Prefixes.{IsWithin, IsWithinBeside, StandsBeside, TellsTable}
use Rattle.prefix_laws.proofs.Sorting.{booked_at}

module _ (t : Table) (k : ℕ) (terms : Terms) (s : Scheduler) (sound : IsSound t k terms (held s)) where
  -- a scheduler that is sound is at a moment of a program
  pub some_run : HasSomeRun s
  some_run = ∥∥₁_elim sound.of_program ∥∥₁_prop (λ p. ∥∥₁_map (sound.somewhere p.0 p.1) (λ w. (p.0, terms, w.0, w.1, w.2)))

  -- the words in use are within the bound
  pub within_at : (c : Setting) → IsSettingOf t k c → (run : List Pair) (m : Moment) → HasRun c terms (held s) run m → IsWithin c k s.pool.live s.table m.books
  within_at c setting run m has =
      let covers = sound.quota in let same = setting.quota in record {
        booked = booked_at c terms (held s) run m has;
        quota = same;
        live = has.standing.live;
        within = λ n prefix. bound_at (machine_of c terms) (omega (arith, covers, same)) (whole_is_depth_first c) m n has.standing.lawful prefix;
      }

  module _ (serial : Serial) (told : TellsTable t k serial) where
    pub beside_it : StandsBeside s.table serial
    beside_it = ∥∥₁_elim told ∥∥₁_prop (λ p. ∥∥₁_map (sound.somewhere p.0 p.1) (λ w.
        (p.0, w.1.books, booked_at p.0 terms (held s) w.0 w.1 w.2, p.2)))

    pub within_it : IsWithinBeside k s.pool.live s.table serial
    within_it = ∥∥₁_elim told ∥∥₁_prop (λ p. ∥∥₁_map (sound.somewhere p.0 p.1) (λ w.
        (p.0, w.1.books, within_at p.0 p.1 w.0 w.1 w.2, p.2)))
