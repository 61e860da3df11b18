-- Whose turn it is, and what the turn comes to.
use Rattle.std.proofs.Common.{◌≡◌, ◌↔◌, ℕ, ◌≤◌, ◌<◌, List, refl, sym, subst, arith}
use Rattle.std.proofs.Math.Logic.{∥∥₁_elim, ∥∥₁_map}
use Rattle.std.specs.Prelude.{Option, None, Some, Bool, IsTrue, Result, Ok, Err, pos}
use Rattle.depth_first_run.specs.States.{Setting}
use Rattle.depth_first_run.proofs.Built.{whole_is_depth_first}
use Rattle.deque_machine.specs.Moments.{Moment}
use Rattle.deque_machine.specs.Machine.{Event}
use Rattle.deque_machine.specs.Play as play
use Rattle.deque_machine.specs.Play.{IsFirst, Meets}
use Rattle.deque_machine.specs.Runs.{Pair}
use Rattle.deque_machine.specs.Terms.{Terms, machine_of}
use Rattle.depth_first_list.specs.QuotaWords.{quota_words}
use Rattle.node_table.specs.Codes.{code_shown}
use Rattle.node_table.specs.Table.{Table}
use Rattle.play_rules.specs.declared.ends.RunEnd.{RunEnd}
use Rattle.play_rules.specs.declared.ends.RunEnd.TheVariants.{Finished, Stopped}
use Rattle.play_rules.specs.declared.stop.Stop.{Stop}
use Rattle.play_rules.specs.declared.stop.Stop.TheVariants.{ArenaFull, DequesFull, StepsSpent, OutOfMemory}
use Rattle.play_rules.specs.Choices.{SomeReady, CanMove}
use Rattle.play_rules.proofs.Firsts.{first_below}
use Rattle.scheduler_state.specs.declared.event.Event.{Event as Told}
use Rattle.scheduler_state.specs.Held.{Held, held}
use Rattle.scheduler_state.specs.Moments.{IsSound}
use Rattle.scheduler_state.specs.declared.stepped.Stepped.{Stepped}
use Rattle.scheduler_state.specs.declared.stepped.Stepped.TheVariants.{Nothing, Over}
use Rattle.scheduler_state.specs.Ends.{KeepsEnd}
use Rattle.scheduler_state.specs.Told.{IsTold}
use Rattle.scheduler_state.proofs.Answering.{nothing_told, stop_told, no_stop_kept}
use Rattle.scheduler_state.proofs.Movers.{can_move_is, first_by}
use Rattle.ready_machine.specs.ReadyMachine.{MayReady}
use Rattle.ready_machine.specs.ReadyPlay.{CanGo, WantsReady, ReadyTurn}
use Rattle.ready_machine.proofs.Agreeing.{movers_agree}
use Rattle.ready_machine.proofs.Coming.{somebodys_turn}
use Rattle.async_core.specs.declared.run.AsyncCore.{AsyncCore}
use Rattle.async_core.specs.Cores.{IsAt, end_of, terms_at, workers_of}
use Rattle.async_core.specs.Running.{IsAtMoment, IsSomewhere}
use Rattle.async_core.specs.Steps.{GoesOn, Stops, Comes}
use Rattle.async_core.specs.Plays.{TurnGoesOn, TurnStops, TurnsTo}
use Rattle.async_core.proofs.Going.{ready_at}

module _ (t : Table) (k : ℕ) (terms : Terms) (h : Held) (sound : IsSound t k terms h) (end : Option RunEnd) where
  -- who can move by the seats can go at the moment
  movers : (c : Setting) (run : List Pair) (m : Moment) → IsAtMoment t k terms h end c run m → (some_ready : Bool)
      → (IsTrue some_ready ↔ SomeReady terms.workers h.deques) → (worker : ℕ) → worker < terms.workers
      → CanMove h.table some_ready worker ↔ CanGo m worker
  movers c run m at some_ready ready worker below =
      let covers = sound.quota in let same = at.setting.quota in
      let is = can_move_is c terms (omega (arith, covers, same)) h run m at.stands worker sound.in_order some_ready ready in
      let agree = movers_agree (machine_of c terms) m worker (ready_at t k terms h end c run m sound.quota at) below in
      (λ can. agree.0 (is.0 can), λ go. is.1 (agree.1 go))

  pub first_go : (c : Setting) (run : List Pair) (m : Moment) → IsAtMoment t k terms h end c run m → (some_ready : Bool)
      → (IsTrue some_ready ↔ SomeReady terms.workers h.deques) → (word worker : ℕ) → IsFirst terms.workers word (CanMove h.table some_ready) worker
      → IsFirst terms.workers word (CanGo m) worker
  first_go c run m at some_ready ready word worker first =
      first_by terms.workers word (CanMove h.table some_ready) (CanGo m) worker (λ w below. movers c run m at some_ready ready w below) first

  -- while no end is kept somebody can
  pub somebody_goes : IsSomewhere t k terms h end → end ≡ None → 1 ≤ terms.workers → (some_ready : Bool) → (IsTrue some_ready ↔ SomeReady terms.workers h.deques)
      → ((worker : ℕ) → worker < terms.workers → ¬ CanMove h.table some_ready worker) → ⊥
  somebody_goes somewhere none some some_ready ready nobody = ∥∥₁_elim sound.of_program (λ x y. absurd x) (λ p.
      ∥∥₁_elim (somewhere p.0 p.1) (λ x y. absurd x) (λ w.
      let turn = somebodys_turn (machine_of p.0 terms) (whole_is_depth_first p.0) (λ i. i) 0 w.1
      (ready_at t k terms h end p.0 w.0 w.1 sound.quota w.2) (omega (arith, some)) (w.2.going none) in
      let below = first_below terms.workers 0 (CanGo w.1) turn.0.worker turn.1.first in
      nobody turn.0.worker below ((movers p.0 w.0 w.1 w.2 some_ready ready turn.0.worker below).1 turn.1.first.passes)))

-- ---- what the step of this worker comes to

module _ (c : Setting) (before after : AsyncCore) (same : terms_at after ≡ terms_at before) (words : ℕ → ℕ) (worker : ℕ)
    (none : end_of before ≡ None) (run : List Pair) (m : Moment) (at : IsAt c before run m)
    (first : IsFirst (workers_of before) (words 0) (CanGo m) worker) where
  turn_is : (event : Event) → WantsReady (machine_of c (terms_at after)) m worker event
      → ReadyTurn (machine_of c (terms_at before)) words 0 m (record { worker = worker; event = event })
  turn_is event wants = record {
    not_over = at.going none;
    first = first;
    wants = subst (λ x. WantsReady (machine_of c x) m worker event) same wants;
  }

  goes : (told : Told) → GoesOn (code_shown after.code) (quota_words after.k) (terms_at after) (held after.scheduler) after.end c worker run m told
      → TurnGoesOn c (terms_at before) words after run m
  goes told g = record {
    pair = record { worker = worker; event = g.event };
    next = g.next;
    turn = turn_is g.event g.wants;
    free = λ stop meets. g.free stop (subst (λ x. Meets (machine_of c x) x.limits m g.event stop) (sym same) meets);
    may = subst (λ x. MayReady (machine_of c x) m worker g.event g.next) same g.may;
    is_at = g.is_at;
  }

  stops : (stop : play.Stop) → Stops (code_shown after.code) (quota_words after.k) (terms_at after) (held after.scheduler) after.end c worker run m stop
      → TurnStops c (terms_at before) words after run m stop
  stops stop s = record {
    pair = record { worker = worker; event = s.event };
    turn = turn_is s.event s.wants;
    meets = subst (λ x. Meets (machine_of c x) x.limits m s.event stop) same s.meets;
    is_at = s.is_at;
  }

  abbrev turns_with : Option RunEnd → Type 0
  turns_with end = TurnsTo c (terms_at before) words after run m end

  pub turns_to : (stepped : Stepped) (result : Result (Option Told) Stop) → IsTold stepped result
      → Comes (code_shown after.code) (quota_words after.k) (terms_at after) (held after.scheduler) after.end c worker run m result
      → ((stepped ≡ Nothing) ↔ ¬ CanGo m worker)
      → ((end : RunEnd) → stepped ≡ Over end → end_of after ≡ Some end) → turns_with (end_of after)
  turns_to stepped (Ok None) told came nothing over = absurd (nothing.0 (nothing_told stepped (Ok None) told refl) first.passes)
  turns_to stepped (Ok (Some event)) told came nothing over = by_end (end_of after) refl
    where
      by_end : (end : Option RunEnd) → end_of after ≡ end → turns_with end
      by_end None is = ∥∥₁_map came (goes event)
      by_end (Some (Finished finish)) is = ∥∥₁_map came (goes event)
      by_end (Some (Stopped stop)) is = absurd (∥∥₁_elim came (λ x y. absurd x)
          (λ g. no_stop_kept c (terms_at after) g.next stop (subst (λ e. KeepsEnd c (terms_at after) e g.next) is g.keeps_end)))
  turns_to stepped (Err (ArenaFull live asked)) told came nothing over =
      subst turns_with (sym (over _ (stop_told stepped _ told))) (∥∥₁_map came (stops (play.arena_full (pos live) asked)))
  turns_to stepped (Err (DequesFull deques)) told came nothing over = absurd came
  turns_to stepped (Err (StepsSpent limit)) told came nothing over =
      subst turns_with (sym (over _ (stop_told stepped _ told))) (∥∥₁_map came (stops (play.steps_spent limit)))
  turns_to stepped (Err OutOfMemory) told came nothing over =
      subst turns_with (sym (over _ (stop_told stepped _ told))) ∣ record { worker = worker; first = first; is_at = came } ∣₁
