-- Who can move.
use Rattle.std.proofs.Common.{◌≡◌, ◌↔◌, ℕ, ◌≤◌, ◌<◌, List, subst, arith}
use Rattle.std.proofs.Math.Logic.{∥∥₁_elim}
use Rattle.std.specs.Prelude.{Option, None, Some, Bool, IsTrue, Result, Ok}
use Rattle.dag_order.specs.declared.finish.Finish.{Finish}
use Rattle.depth_first_list.specs.Actions.{record_words}
use Rattle.depth_first_run.specs.States.{Setting}
use Rattle.deque_machine.specs.Moments.{Moment}
use Rattle.deque_machine.specs.Runs.{Pair}
use Rattle.deque_machine.specs.Terms.{Terms, machine_of}
use Rattle.node_table.specs.Table.{Table}
use Rattle.scheduler_state.specs.Passed.Tables.{seat_at}
use Rattle.play_rules.specs.declared.ends.RunEnd.{RunEnd}
use Rattle.play_rules.specs.declared.ends.RunEnd.TheVariants.{Finished}
use Rattle.play_rules.specs.declared.stop.Stop.{Stop}
use Rattle.play_rules.specs.Choices.{SomeReady, CanMove}
use Rattle.scheduler_state.specs.declared.event.Event.{Event}
use Rattle.scheduler_state.specs.Held.{Held}
use Rattle.scheduler_state.specs.Moments.{IsSound}
use Rattle.scheduler_state.specs.declared.stepped.Stepped.{Stepped}
use Rattle.scheduler_state.specs.declared.stepped.Stepped.TheVariants.{Nothing}
use Rattle.scheduler_state.specs.Told.{IsTold}
use Rattle.scheduler_state.proofs.Answering.{nothing_told}
use Rattle.scheduler_state.proofs.Movers.{cannot_move, can_move_is}
use Rattle.scheduler_state.proofs.Roots.{root_result, not_ended}
use Rattle.ready_machine.specs.ReadyPlay.{CanGo}
use Rattle.ready_machine.proofs.Agreeing.{movers_agree}
use Rattle.async_core.specs.Running.{IsAtMoment, IsSomewhere}
use Rattle.async_core.proofs.Going.{ready_at}

module _ (t : Table) (k : ℕ) (terms : Terms) (h : Held) (sound : IsSound t k terms h) (end : Option RunEnd) (c : Setting) (run : List Pair) (m : Moment)
    (at : IsAtMoment t k terms h end c run m) (worker : ℕ) (below : worker < terms.workers) where
  quota : record_words ≤ c.quota
  quota = let covers = sound.quota in let same = at.setting.quota in omega (arith, covers, same)

  -- a step answers that nothing can be done exactly if the worker can do nothing
  pub nothing_behind : (stepped : Stepped) (result : Result (Option Event) Stop) → IsTold stepped result
      → ((result ≡ Ok None) ↔ ((seat_at h.table worker ≡ None) × (¬ SomeReady terms.workers h.deques)))
      → (stepped ≡ Nothing) ↔ ¬ CanGo m worker
  nothing_behind stepped result told nothing =
      let cannot = cannot_move c terms quota h run m at.stands worker sound.in_order in
      let agree = movers_agree (machine_of c terms) m worker (ready_at t k terms h end c run m sound.quota at) below in (
        λ is can. cannot.0 (nothing.0 (subst (λ s. IsTold s result) is told)) (agree.1 can),
        λ no. nothing_told stepped result told (nothing.1 (cannot.1 (λ can. no (agree.0 can)))),
      )

  pub can_go_at : end ≡ None → (some_ready result : Bool) → (IsTrue some_ready ↔ SomeReady terms.workers h.deques)
      → (IsTrue result ↔ CanMove h.table some_ready worker) → IsTrue result ↔ ((end ≡ None) × CanGo m worker)
  can_go_at none some_ready result ready tells =
      let is = can_move_is c terms quota h run m at.stands worker sound.in_order some_ready ready in
      let agree = movers_agree (machine_of c terms) m worker (ready_at t k terms h end c run m sound.quota at) below in (
        λ can. (none, agree.0 (is.0 (tells.0 can))),
        λ can. tells.1 (is.1 (agree.1 can.1)),
      )

-- a core whose run has finished keeps the result of the root
pub finished_keeps : (t : Table) (k : ℕ) (terms : Terms) (h : Held) → IsSound t k terms h → (end : Option RunEnd) → IsSomewhere t k terms h end
    → (finish : Finish) → end ≡ Some (Finished finish) → root_result h ≡ None → ⊥
finished_keeps t k terms h sound end somewhere finish is none = ∥∥₁_elim sound.of_program (λ x y. absurd x) (λ p.
    ∥∥₁_elim (somewhere p.0 p.1) (λ x y. absurd x) (λ w. not_ended t k terms h sound p.0 p.1 w.0 w.1 w.2.stands none (w.2.finished finish is).0))
