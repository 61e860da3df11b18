-- A core whose run has finished keeps the result of the root.
use Rattle.std.proofs.Common.{◌≡◌, ℕ}
use Rattle.std.proofs.Math.Logic.{∥∥₁_elim}
use Rattle.std.specs.Prelude.{Option, None, Some}
use Rattle.dag_order.specs.declared.finish.Finish.{Finish}
use Rattle.open_periods.specs.Passed.Terms.{Terms}
use Rattle.node_table.specs.Table.{Table}
use Rattle.play_rules.specs.declared.ends.RunEnd.{RunEnd}
use Rattle.play_rules.specs.declared.ends.RunEnd.TheVariants.{Finished}
use Rattle.scheduler_state.specs.Held.{Held}
use Rattle.scheduler_state.specs.Moments.{IsSound}
use Rattle.scheduler_state.proofs.Roots.{root_result, not_ended}
use Rattle.dfd_core.specs.Running.{IsSomewhere}

pub finished_keeps : (t : Table) (k : ℕ) (terms : Terms) (h : Held) → IsSound t k terms h → (end : Option RunEnd) → IsSomewhere t k terms h end
    → (finish : Finish) → end ≡ Some (Finished finish) → root_result h ≡ None → ⊥
finished_keeps t k terms h sound end somewhere finish is none = ∥∥₁_elim sound.of_program (λ x y. absurd x) (λ p.
    ∥∥₁_elim (somewhere p.0 p.1) (λ x y. absurd x) (λ w. not_ended t k terms h sound p.0 p.1 w.0 w.1 w.2.stands none (w.2.finished finish is).0))
