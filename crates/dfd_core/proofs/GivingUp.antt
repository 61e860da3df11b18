-- What it comes to that a worker gives its deque up.
use Rattle.std.proofs.Common.{◌≡◌, ℕ, ◌<◌, List, ap, subst, sym, arith}
use Rattle.std.proofs.Math.Logic.{∥∥₁_elim, ∥∥₁_map, ∥∥₁_prop}
use Rattle.std.specs.Prelude.{Option, None, Some, Result, Ok, Err}
use Rattle.std.proofs.lemmas.Option.{none-some}
use Rattle.deque_list.specs.declared.deque_id.DequeId.{DequeId}
use Rattle.depth_first_run.specs.States.{Setting}
use Rattle.open_periods.specs.Passed.Books.{booked}
use Rattle.open_periods.specs.Passed.Lists.{times}
use Rattle.open_periods.specs.Passed.Moments.{Moment}
use Rattle.open_periods.specs.Passed.Machine as machine
use Rattle.open_periods.specs.Passed.Machine.{gives_up, May}
use Rattle.open_periods.specs.Passed.DequeMachineRuns.{Pair}
use Rattle.node_table.specs.Table.{Table}
use Rattle.scheduler_state.proofs.Passed.Going.{runs_go_on}
use Rattle.scheduler_state.proofs.Passed.Told.{tells}
use Rattle.scheduler_state.specs.Passed.Settings.{IsSettingOf}
use Rattle.play_rules.specs.declared.stop.Stop.TheVariants.{OutOfMemory}
use Rattle.scheduler_state.specs.Held.{Held}
use Rattle.scheduler_state.specs.Moments.{HasRun}
use Rattle.open_periods.specs.Passed.Terms.{Terms, machine_of}
use Rattle.scheduler_state.specs.Outcomes.{GivesDequeUp}
use Rattle.worker_step.specs.Steps.{GivesUpOrStays}
use Rattle.play_rules.specs.declared.ends.RunEnd.{RunEnd}
use Rattle.dfd_core.specs.Running.{IsAtMoment, IsSomewhere}
use Rattle.scheduler_state.specs.Ends.{end_without_memory}
use Rattle.dfd_core.specs.GiveUps.{GaveUp, GivesUp, end_behind_give_up}
use Rattle.dfd_core.proofs.Going.{stays_at}

-- the same is done behind a give up
same_done : (s : machine.Setting) (m next : Moment) (worker : ℕ) → May s m worker gives_up next → booked next.books ≡ booked m.books
same_done s m next worker may = (tells s m worker gives_up next may).same

module _ (t : Table) (k : ℕ) (terms : Terms) (before after : Held) (c : Setting) (run : List Pair) (m : Moment) (worker : ℕ) where
  gave : (end : Option RunEnd) → IsAtMoment t k terms before end c run m → (id : DequeId) → GivesDequeUp c terms after worker run m id
      → GaveUp t k terms after end c worker run m id
  gave end at id g =
      let same = same_done (machine_of c terms) m g.next worker g.may in
      record {
        next = g.next;
        may = g.may;
        tells = g.tells;
        is_at = record {
          setting = at.setting;
          reaches = runs_go_on (machine_of c terms) run m g.next worker gives_up at.reaches g.may;
          stands = g.stands;
          within = let few = at.within in let as_many = ap Rattle.std.specs.Prelude.length same in omega (arith, few, as_many);
          going = λ none has. at.going none (has.0, has.1, has.2, has.3, subst (λ places. 0 < times has.0 places) same has.4);
          finished = λ finish is.
              let was = at.finished finish is in
              let has = was.0 in ((has.0, has.1, has.2, has.3, subst (λ places. 0 < times has.0 places) (sym same) has.4), was.1);
        };
      }

  stays : (end : Option RunEnd) → IsAtMoment t k terms before end c run m → HasRun c terms after run m → IsAtMoment t k terms after (end_without_memory end) c run m
  stays None at stands = stays_at t k terms before after c run m OutOfMemory at stands
  stays (Some end) at stands = record {
    setting = at.setting;
    reaches = at.reaches;
    stands = stands;
    within = at.within;
    going = λ none. absurd (none-some _ (sym none));
    finished = at.finished;
  }

  pub gives_up_by : {E : Type 0} → (end : Option RunEnd) → IsAtMoment t k terms before end c run m → (result : Result DequeId E) → GivesUpOrStays c terms after worker run m result
      → GivesUp t k terms after (end_behind_give_up result end) c worker run m result
  gives_up_by end at (Ok id) by = ∥∥₁_map by (gave end at id)
  gives_up_by end at (Err none) by = stays end at by

-- wherever it comes to, what is held is somewhere
found : {E : Type 0} → (t : Table) (k : ℕ) (terms : Terms) (after : Held) (end : Option RunEnd) (c : Setting) (worker : ℕ) (run : List Pair) (m : Moment) (result : Result DequeId E)
    → GivesUp t k terms after end c worker run m result → ∥ ((run : List Pair) × (m : Moment) × IsAtMoment t k terms after end c run m) ∥₁
found t k terms after end c worker run m (Ok id) gives = ∥∥₁_map gives (λ g. (_, g.next, g.is_at))
found t k terms after end c worker run m (Err none) at = ∣ (run, m, at) ∣₁

-- ---- of a core

module _ {E : Type 0} (t : Table) (k : ℕ) (terms later_terms : Terms) (before after : Held) (end later_end : Option RunEnd) (same : later_terms ≡ terms) (worker : ℕ)
    (result : Result DequeId E)
    (by : (c : Setting) → IsSettingOf t k c → (run : List Pair) (m : Moment) → HasRun c terms before run m → GivesUpOrStays c terms after worker run m result)
    (later_is : later_end ≡ end_behind_give_up result end) where
  pub gives_behind : (c : Setting) (run : List Pair) (m : Moment) → IsAtMoment t k terms before end c run m → GivesUp t k later_terms after later_end c worker run m result
  gives_behind c run m at = subst (λ x. GivesUp t k x after later_end c worker run m result) (sym same) (subst (λ e. GivesUp t k terms after e c worker run m result) (sym later_is)
      (gives_up_by t k terms before after c run m worker end at result (by c at.setting run m at.stands)))

  pub somewhere_behind_give_up : IsSomewhere t k terms before end → IsSomewhere t k later_terms after later_end
  somewhere_behind_give_up was c of = ∥∥₁_elim (was c of) ∥∥₁_prop (λ w. found t k later_terms after later_end c worker w.0 w.1 result (gives_behind c w.0 w.1 w.2))
