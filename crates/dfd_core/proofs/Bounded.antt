-- The laws of the machine at the moment at which a core is.
use Rattle.std.proofs.Common.{ℕ, ◌<◌, ◌≤◌, List, arith, ◌≤ℤ◌}
use Rattle.std.proofs.Math.Logic.{∥∥₁_elim}
use Rattle.std.specs.Prelude.{Option}
use denote.Struct.Props.{props}
use Rattle.depth_first_run.specs.States.{Setting}
use Rattle.depth_first_run.specs.Run.{list_of}
use Rattle.depth_first_run.proofs.Built.{whole_is_depth_first}
use Rattle.open_periods.specs.Passed.LawfulOrder.{IsLawful}
use Rattle.open_periods.specs.Passed.Moments.{Moment, done_at, live_at}
use Rattle.open_periods.specs.Passed.DequeMachineRuns.{Pair, high_water_mark}
use Rattle.open_periods.specs.Passed.Terms.{Terms, machine_of}
use Rattle.open_periods.proofs.Passed.Reached.{bound_always, marked_bound}
use Rattle.open_periods.specs.Passed.Books.{IsPrefix, bound, periods_ahead, periods_marked}
use Rattle.scheduler_state.specs.Held.{Held}
use Rattle.scheduler_state.specs.Moments.{IsSound}
use Rattle.node_table.specs.Table.{Table}
use Rattle.dfd_core.specs.declared.run.Core.{Core}
use Rattle.play_rules.specs.declared.ends.RunEnd.{RunEnd}
use Rattle.dfd_core.specs.Cores.{IsAt, terms_at}
use Rattle.dfd_core.specs.Running.{IsSomewhere}

module _ (core : Core) (c : Setting) (run : List Pair) (m : Moment) (at : IsAt c core run m) where
  some_quota : 0 < c.quota
  some_quota = let covers = core.sound.quota in let same = at.setting.quota in omega (arith, covers, same)

  pub is_lawful : IsLawful (machine_of c (terms_at core)) m
  is_lawful = at.stands.standing.lawful

  pub is_bounded : (n : ℕ) → IsPrefix (list_of c) (done_at m) n → live_at (list_of c) m ≤ℤ bound c.quota (list_of c) (periods_ahead n m.books)
  is_bounded n prefix = bound_always (machine_of c (terms_at core)) some_quota (whole_is_depth_first c) run m n at.reaches prefix

  pub is_marked : high_water_mark (list_of c) run ≤ℤ bound c.quota (list_of c) (periods_marked m.books)
  is_marked = marked_bound (machine_of c (terms_at core)) some_quota (whole_is_depth_first c) run m at.reaches

-- no more actions are done than may be
pub done_within : (t : Table) (k : ℕ) (terms : Terms) (h : Held) → IsSound t k terms h → (end : Option RunEnd) → IsSomewhere t k terms h end
    → h.done ≤ terms.limits.actions
done_within t k terms h sound end somewhere = ∥∥₁_elim sound.of_program (search props) (λ p. ∥∥₁_elim (somewhere p.0 p.1) (search props) (λ w.
    let done = w.2.stands.done in let within = w.2.within in omega (arith, done, within)))
