-- How a core goes on by an event, or stays.
use Rattle.std.proofs.Common.{◌≡◌, ℕ, List, inl, inr, refl, sym, ap, subst, ◌∙◌}
use Rattle.std.proofs.Math.Logic.{∥∥₁_elim, ∥∥₁_map, ∥∥₁_prop}
use Rattle.std.specs.Prelude.{Option, None, Some, Result, Ok, Err, pos}
use Rattle.std.proofs.lemmas.Option.{none-some, same_Some}
use Rattle.dag_order.specs.declared.finish.Finish.{Finish}
use Rattle.depth_first_run.specs.States.{Setting}
use Rattle.open_periods.specs.Passed.Moments.{Moment}
use Rattle.open_periods.specs.Passed.Play as play
use Rattle.open_periods.specs.Passed.DequeMachineRuns.{Pair}
use Rattle.node_table.specs.Table.{Table}
use Rattle.scheduler_state.proofs.Passed.Going.{runs_go_on}
use Rattle.scheduler_state.specs.Passed.Settings.{IsSettingOf}
use Rattle.scheduler_state.specs.declared.event.Event.{Event as Told}
use Rattle.play_rules.specs.declared.stop.Stop.{Stop}
use Rattle.play_rules.specs.declared.stop.Stop.TheVariants.{ArenaFull, DequesFull, StepsSpent, OutOfMemory}
use Rattle.scheduler_state.specs.Held.{Held}
use Rattle.scheduler_state.specs.Moments.{IsSound, HasRun}
use Rattle.open_periods.specs.Passed.Terms.{Terms, machine_of}
use Rattle.scheduler_state.specs.Outcomes as parts
use Rattle.worker_step.specs.Thefts.{StepsBy as EventBy}
use Rattle.play_rules.specs.declared.ends.RunEnd.{RunEnd}
use Rattle.play_rules.specs.declared.ends.RunEnd.TheVariants.{Finished, Stopped}
use Rattle.scheduler_state.specs.Ends.{end_behind_event}
use Rattle.depth_first_run.specs.Run.{finish_of_run}
use Rattle.scheduler_state.specs.Told.{end_behind}
use Rattle.scheduler_state.proofs.Roots.{root_result}
use Rattle.scheduler_state.proofs.Events.{few_done, event_keeps_end}
use Rattle.dfd_core.specs.Running.{IsAtMoment, IsSomewhere}
use Rattle.dfd_core.specs.Steps.{GoesOn, Stops, Comes}

-- a run in which nothing was kept is where it was, with a stop too
pub stays_at : (t : Table) (k : ℕ) (terms : Terms) (before after : Held) (c : Setting) (run : List Pair) (m : Moment) (stop : Stop)
    → IsAtMoment t k terms before None c run m → HasRun c terms after run m → IsAtMoment t k terms after (Some (Stopped stop)) c run m
stays_at t k terms before after c run m stop at stands = record {
  setting = at.setting;
  reaches = at.reaches;
  stands = stands;
  within = at.within;
  going = λ none. absurd (none-some _ (sym none));
  finished = λ finish is. absurd (apart finish (same_Some _ _ is));
}
  where
    is_stop : RunEnd → Type 0
    is_stop (Finished finish) = ⊥
    is_stop (Stopped stop) = Unit {0}

    apart : (finish : Finish) → Stopped stop ≡ Finished finish → ⊥
    apart finish same = subst is_stop same tt

module _ (t : Table) (k : ℕ) (terms : Terms) (before after : Held) (sound : IsSound t k terms after) (c : Setting) (run : List Pair) (m : Moment)
    (at : IsAtMoment t k terms before None c run m) (worker word : ℕ) where
  goes_on : (told : Told) → parts.GoesOn c terms after worker word run m told
      → GoesOn t k terms after (end_behind_event told (root_result after)) c worker word run m told
  goes_on told g =
      let ends = event_keeps_end t k terms after sound c at.setting run m worker word (at.going refl) told g in
      record {
        event = g.event;
        next = g.next;
        wants = g.wants;
        free = g.free;
        may = g.may;
        tells = g.tells;
        is_at = record {
          setting = at.setting;
          reaches = runs_go_on (machine_of c terms) run m g.next worker g.event at.reaches g.may;
          stands = g.stands;
          within = few_done (machine_of c terms) terms.limits m g.next worker g.event g.may g.free at.within;
          going = λ none. elim ends [ inl going ↦ going.0 | inr over ↦ absurd (none-some _ (sym none ∙ over.1)) ];
          finished = λ finish is. elim ends [
            | inl going ↦ absurd (none-some _ (sym going.1 ∙ is))
            | inr over ↦ (over.0, same_finish finish (finish_of_run c) (same_Some _ _ (sym is ∙ over.1)))
          ];
        };
        keeps_end = ends;
      }
    where
      finish_in : Finish → RunEnd → Finish
      finish_in other (Finished finish) = finish
      finish_in other (Stopped stop) = other

      same_finish : (a b : Finish) → Finished a ≡ Finished b → a ≡ b
      same_finish a b same = ap (finish_in a) same

  stops : (stop : Stop) (met : play.Stop) → parts.Stops c terms after worker word run m met
      → Stops t k terms after (Some (Stopped stop)) c worker word run m met
  stops stop met s = record { event = s.event; wants = s.wants; meets = s.meets; is_at = stays_at t k terms before after c run m stop at s.stands }

  pub comes : (result : Result (Option Told) Stop) → EventBy c terms after worker word run m result
      → Comes t k terms after (end_behind result (root_result after)) c worker word run m result
  comes (Ok None) by = record {
    setting = at.setting;
    reaches = at.reaches;
    stands = by;
    within = at.within;
    going = at.going;
    finished = at.finished;
  }
  comes (Ok (Some told)) by = ∥∥₁_map by (goes_on told)
  comes (Err (ArenaFull live asked)) by = ∥∥₁_map by (stops (ArenaFull live asked) (play.arena_full (pos live) asked))
  comes (Err (DequesFull deques)) by = ∥∥₁_map by (stops (DequesFull deques) (play.deques_full deques))
  comes (Err (StepsSpent limit)) by = ∥∥₁_map by (stops (StepsSpent limit) (play.steps_spent limit))
  comes (Err OutOfMemory) by = (stays_at t k terms before after c run m OutOfMemory at by.0, by.1)

-- wherever it comes to, what is held is somewhere
found : (t : Table) (k : ℕ) (terms : Terms) (after : Held) (end : Option RunEnd) (c : Setting) (worker word : ℕ) (run : List Pair) (m : Moment)
    (result : Result (Option Told) Stop) → Comes t k terms after end c worker word run m result
    → ∥ ((run : List Pair) × (m : Moment) × IsAtMoment t k terms after end c run m) ∥₁
found t k terms after end c worker word run m (Ok None) came = ∣ (run, m, came) ∣₁
found t k terms after end c worker word run m (Ok (Some told)) came = ∥∥₁_map came (λ g. (_, g.next, g.is_at))
found t k terms after end c worker word run m (Err (ArenaFull live asked)) came = ∥∥₁_map came (λ s. (run, m, s.is_at))
found t k terms after end c worker word run m (Err (DequesFull deques)) came = ∥∥₁_map came (λ s. (run, m, s.is_at))
found t k terms after end c worker word run m (Err (StepsSpent limit)) came = ∥∥₁_map came (λ s. (run, m, s.is_at))
found t k terms after end c worker word run m (Err OutOfMemory) came = ∣ (run, m, came.0) ∣₁

pub somewhere_on : (t : Table) (k : ℕ) (terms : Terms) (before after : Held) → IsSound t k terms after → IsSomewhere t k terms before None
    → (worker word : ℕ) (result : Result (Option Told) Stop)
    → ((c : Setting) → IsSettingOf t k c → (run : List Pair) (m : Moment) → HasRun c terms before run m → EventBy c terms after worker word run m result)
    → IsSomewhere t k terms after (end_behind result (root_result after))
somewhere_on t k terms before after sound was worker word result by c of = ∥∥₁_elim (was c of) ∥∥₁_prop (λ w.
    found t k terms after (end_behind result (root_result after)) c worker word w.0 w.1 result
    (comes t k terms before after sound c w.0 w.1 w.2 worker word result (by c of w.0 w.1 w.2.stands)))

-- ---- behind a step that was begun while no end was kept

module _ (t : Table) (k : ℕ) (terms later_terms : Terms) (before after : Held) (end later_end : Option RunEnd) (sound : IsSound t k later_terms after)
    (same : later_terms ≡ terms) (none : end ≡ None) (worker word : ℕ) (result : Result (Option Told) Stop)
    (by : (c : Setting) → IsSettingOf t k c → (run : List Pair) (m : Moment) → HasRun c terms before run m → EventBy c terms after worker word run m result)
    (later_is : later_end ≡ end_behind result (root_result after)) where
  sound_still : IsSound t k terms after
  sound_still = subst (λ x. IsSound t k x after) same sound

  pub somewhere_behind : IsSomewhere t k terms before end → IsSomewhere t k later_terms after later_end
  somewhere_behind was = subst (λ x. IsSomewhere t k x after later_end) (sym same) (subst (IsSomewhere t k terms after) (sym later_is)
      (somewhere_on t k terms before after sound_still (subst (IsSomewhere t k terms before) none was) worker word result by))

  pub comes_behind : (c : Setting) (run : List Pair) (m : Moment) → IsAtMoment t k terms before end c run m
      → Comes t k later_terms after later_end c worker word run m result
  comes_behind c run m was =
      let at = subst (λ e. IsAtMoment t k terms before e c run m) none was in
      subst (λ x. Comes t k x after later_end c worker word run m result) (sym same) (subst (λ e. Comes t k terms after e c worker word run m result) (sym later_is)
      (comes t k terms before after sound_still c run m at worker word result (by c at.setting run m at.stands)))
