-- How a core goes on by an event, or stays.
use Rattle.std.proofs.Common.{◌≡◌, ℕ, ◌≤◌, ◌<◌, List, length, inl, inr, refl, sym, ap, subst, ◌∙◌, arith}
use Rattle.std.proofs.Math.Logic.{∥∥₁_elim, ∥∥₁_map, ∥∥₁_prop}
use Rattle.std.specs.Prelude.{Bool, true, false, cond, Option, None, Some, Result, Ok, Err, pos}
use Rattle.std.proofs.lemmas.Option.{none-some, same_Some}
use denote.Struct.Props.{props}
use Rattle.dag_order.specs.declared.finish.Finish.{Finish}
use Rattle.depth_first_list.specs.Actions.{record_words}
use Rattle.depth_first_run.specs.States.{Setting}
use Rattle.depth_first_run.specs.Run.{finish_of_run}
use Rattle.depth_first_run.proofs.Built.{whole_is_depth_first}
use Rattle.deque_machine.specs.Books.{booked, done_in}
use Rattle.deque_machine.specs.Moments.{Moment}
use Rattle.deque_machine.specs.Play as play
use Rattle.deque_machine.specs.Runs.{Pair}
use Rattle.deque_machine.specs.Terms.{Terms, machine_of}
use Rattle.node_table.specs.Table.{Table}
use Rattle.scheduler_state.specs.Passed.Tables.{periods_of}
use Rattle.scheduler_state.specs.Passed.Settings.{IsSettingOf}
use Rattle.thread_frames.specs.Roots.{end_of_root}
use Rattle.play_rules.specs.declared.ends.RunEnd.{RunEnd}
use Rattle.play_rules.specs.declared.ends.RunEnd.TheVariants.{Finished, Stopped}
use Rattle.play_rules.specs.declared.stop.Stop.{Stop}
use Rattle.play_rules.specs.declared.stop.Stop.TheVariants.{ArenaFull, DequesFull, StepsSpent, OutOfMemory}
use Rattle.scheduler_state.specs.declared.event.Event.{Event as Told}
use Rattle.scheduler_state.specs.Held.{Held}
use Rattle.scheduler_state.specs.Moments.{IsSound, HasRun}
use Rattle.scheduler_state.specs.Ends.{is_of_root, end_behind_event, KeepsEnd}
use Rattle.scheduler_state.specs.Told.{end_behind}
use Rattle.scheduler_state.proofs.Roots.{root_result, end_is_kept}
use Rattle.scheduler_state.proofs.RootActs.{not_ended_by}
use Rattle.scheduler_state.proofs.Events.{few_done}
use Rattle.ready_machine.specs.Entries.{IsReadyList}
use Rattle.ready_machine.proofs.Along.{reached_is_ready}
use Rattle.ready_machine.proofs.Sharing.{IsBeside, beside}
use Rattle.ready_machine.proofs.Aside.{ready_runs_go_on}
use Rattle.async_core.specs.Running.{IsAtMoment, IsSomewhere}
use Rattle.async_core.specs.Steps.{Went, HasMet, EventOrNone, StandsReady, GoesOn, Stops, Comes}

-- each moment of a run is a lawful ready list
pub ready_at : (t : Table) (k : ℕ) (terms : Terms) (h : Held) (end : Option RunEnd) (c : Setting) (run : List Pair) (m : Moment) → record_words ≤ k
    → IsAtMoment t k terms h end c run m → IsReadyList (machine_of c terms) m
ready_at t k terms h end c run m covers at =
    let quota = at.setting.quota in
    reached_is_ready (machine_of c terms) (omega (arith, covers, quota)) (whole_is_depth_first c) run m at.reaches

pub somewhere_ready : (t : Table) (k : ℕ) (terms : Terms) (h : Held) (end : Option RunEnd) → record_words ≤ k → IsSomewhere t k terms h end
    → StandsReady t k terms h
somewhere_ready t k terms h end covers somewhere c of =
    ∥∥₁_map (somewhere c of) (λ w. (w.0, w.1, w.2.stands, ready_at t k terms h end c w.0 w.1 covers w.2))

-- no more actions are done than may be
pub done_within : (t : Table) (k : ℕ) (terms : Terms) (h : Held) → IsSound t k terms h → (end : Option RunEnd) → IsSomewhere t k terms h end
    → h.done ≤ terms.limits.actions
done_within t k terms h sound end somewhere = ∥∥₁_elim sound.of_program (search props) (λ p. ∥∥₁_elim (somewhere p.0 p.1) (search props) (λ w.
    let done = w.2.stands.done in let within = w.2.within in omega (arith, done, within)))

-- a run in which nothing was kept is where it was, with a stop too
pub stays_at : (t : Table) (k : ℕ) (terms : Terms) (before after : Held) (c : Setting) (run : List Pair) (m : Moment) (stop : Stop)
    → IsAtMoment t k terms before None c run m → HasRun c terms after run m → IsAtMoment t k terms after (Some (Stopped stop)) c run m
stays_at t k terms before after c run m stop at stands = record {
  setting = at.setting;
  reaches = at.reaches;
  stands = stands;
  within = at.within;
  going = λ none. absurd (none-some _ (sym none));
  finished = λ finish is. absurd (apart finish (same_Some _ _ is));
}
  where
    is_stop : RunEnd → Type 0
    is_stop (Finished finish) = ⊥
    is_stop (Stopped stop) = Unit {0}

    apart : (finish : Finish) → Stopped stop ≡ Finished finish → ⊥
    apart finish same = subst is_stop same tt

module _ (t : Table) (k : ℕ) (terms : Terms) (before after : Held) (sound : IsSound t k terms after) (c : Setting) (run : List Pair) (m : Moment)
    (at : IsAtMoment t k terms before None c run m) (worker : ℕ) where
  -- the event of the machine of deques beside that of the ready list, with the same books after it
  besides : (told : Told) (g : Went c terms after worker run m told) → IsBeside (machine_of c terms) m worker g.event g.next
  besides told g = beside (machine_of c terms) m (ready_at t k terms before None c run m sound.quota at) worker g.event g.next g.may

  kept : (told : Told) (g : Went c terms after worker run m told) → KeepsEnd c terms (end_behind_event told (root_result after)) g.next
  kept told g = by_root (is_of_root told) refl
    where
      by_root : (b : Bool) → is_of_root told ≡ b → KeepsEnd c terms (cond b (end_of_root (root_result after)) None) g.next
      by_root true is = end_is_kept t k terms after sound c at.setting _ g.next g.stands
      by_root false is =
          let b = besides told g in
          inl (
            (λ has. not_ended_by (machine_of c terms) m b.between worker (periods_of after.table) g.event told b.may g.tells is (at.going refl)
                (has.0, has.1, has.2, has.3, subst (λ books. 0 < done_in books has.0) b.books_are has.4)),
            refl,
          )

  goes_on : (told : Told) → Went c terms after worker run m told
      → GoesOn t k terms after (end_behind_event told (root_result after)) c worker run m told
  goes_on told g =
      let ends = kept told g in
      let b = besides told g in
      record {
        event = g.event;
        next = g.next;
        wants = g.wants;
        free = g.free;
        may = g.may;
        tells = g.tells;
        is_at = record {
          setting = at.setting;
          reaches = ready_runs_go_on (machine_of c terms) run m g.next worker g.event at.reaches g.may;
          stands = g.stands;
          within = subst (λ books. length (booked books) ≤ terms.limits.actions) (sym b.books_are)
              (few_done (machine_of c terms) terms.limits m b.between worker g.event b.may g.free at.within);
          going = λ none. elim ends [ inl going ↦ going.0 | inr over ↦ absurd (none-some _ (sym none ∙ over.1)) ];
          finished = λ finish is. elim ends [
            | inl going ↦ absurd (none-some _ (sym going.1 ∙ is))
            | inr over ↦ (over.0, same_finish finish (finish_of_run c) (same_Some _ _ (sym is ∙ over.1)))
          ];
        };
        keeps_end = ends;
      }
    where
      finish_in : Finish → RunEnd → Finish
      finish_in other (Finished finish) = finish
      finish_in other (Stopped stop) = other

      same_finish : (a b : Finish) → Finished a ≡ Finished b → a ≡ b
      same_finish a b same = ap (finish_in a) same

  stops : (stop : Stop) (met : play.Stop) → HasMet c terms after worker run m met → Stops t k terms after (Some (Stopped stop)) c worker run m met
  stops stop met s = record { event = s.event; wants = s.wants; meets = s.meets; is_at = stays_at t k terms before after c run m stop at s.stands }

  pub comes : (result : Result (Option Told) Stop) → EventOrNone c terms after worker run m result
      → Comes t k terms after (end_behind result (root_result after)) c worker run m result
  comes (Ok None) by = record {
    setting = at.setting;
    reaches = at.reaches;
    stands = by;
    within = at.within;
    going = at.going;
    finished = at.finished;
  }
  comes (Ok (Some told)) by = ∥∥₁_map by (goes_on told)
  comes (Err (ArenaFull live asked)) by = ∥∥₁_map by (stops (ArenaFull live asked) (play.arena_full (pos live) asked))
  comes (Err (DequesFull deques)) by = by
  comes (Err (StepsSpent limit)) by = ∥∥₁_map by (stops (StepsSpent limit) (play.steps_spent limit))
  comes (Err OutOfMemory) by = stays_at t k terms before after c run m OutOfMemory at by

-- wherever it comes to, what is held is somewhere
found : (t : Table) (k : ℕ) (terms : Terms) (after : Held) (end : Option RunEnd) (c : Setting) (worker : ℕ) (run : List Pair) (m : Moment)
    (result : Result (Option Told) Stop) → Comes t k terms after end c worker run m result
    → ∥ ((run : List Pair) × (m : Moment) × IsAtMoment t k terms after end c run m) ∥₁
found t k terms after end c worker run m (Ok None) came = ∣ (run, m, came) ∣₁
found t k terms after end c worker run m (Ok (Some told)) came = ∥∥₁_map came (λ g. (_, g.next, g.is_at))
found t k terms after end c worker run m (Err (ArenaFull live asked)) came = ∥∥₁_map came (λ s. (run, m, s.is_at))
found t k terms after end c worker run m (Err (DequesFull deques)) came = absurd came
found t k terms after end c worker run m (Err (StepsSpent limit)) came = ∥∥₁_map came (λ s. (run, m, s.is_at))
found t k terms after end c worker run m (Err OutOfMemory) came = ∣ (run, m, came) ∣₁

-- ---- after a step that was begun while no end was kept

module _ (t : Table) (k : ℕ) (terms later_terms : Terms) (before after : Held) (end later_end : Option RunEnd) (sound : IsSound t k later_terms after)
    (same : later_terms ≡ terms) (none : end ≡ None) (worker : ℕ) (result : Result (Option Told) Stop)
    (by : (c : Setting) → IsSettingOf t k c → (run : List Pair) (m : Moment) → HasRun c terms before run m → IsReadyList (machine_of c terms) m
    → EventOrNone c terms after worker run m result)
    (later_is : later_end ≡ end_behind result (root_result after)) where
  sound_still : IsSound t k terms after
  sound_still = subst (λ x. IsSound t k x after) same sound

  pub comes_behind : (c : Setting) (run : List Pair) (m : Moment) → IsAtMoment t k terms before end c run m
      → Comes t k later_terms after later_end c worker run m result
  comes_behind c run m was =
      let at = subst (λ e. IsAtMoment t k terms before e c run m) none was in
      subst (λ x. Comes t k x after later_end c worker run m result) (sym same) (subst (λ e. Comes t k terms after e c worker run m result) (sym later_is)
      (comes t k terms before after sound_still c run m at worker result (by c at.setting run m at.stands (ready_at t k terms before None c run m sound.quota at))))

  pub somewhere_behind : IsSomewhere t k terms before end → IsSomewhere t k later_terms after later_end
  somewhere_behind was c of = ∥∥₁_elim (was c of) ∥∥₁_prop (λ w. found t k later_terms after later_end c worker w.0 w.1 result (comes_behind c w.0 w.1 w.2))
