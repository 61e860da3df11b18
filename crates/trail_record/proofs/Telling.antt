-- What is recorded of a step is the event of the turn.
use Rattle.std.proofs.Common.{◌≡◌, ◌↔◌, ℕ, List, refl, sym, ap, subst, ◌∙◌, arith}
use Rattle.std.proofs.Math.Logic.{∥∥₁_elim, ∥∥₁_map}
use Rattle.std.specs.Prelude.{Option, None, Some, true, is_some, unwrap_or, option_map, cond, Result, Ok, Err}
use Rattle.std.proofs.lemmas.Bool.{eq-eqb}
use Rattle.depth_first_list.specs.Actions.{Action}
use Rattle.depth_first_run.specs.States.{Setting}
use Rattle.depth_first_run.specs.Run.{list_of}
use Rattle.deque_machine.specs.Machine as machine
use Rattle.deque_machine.specs.Moments.{Moment, owned_by}
use Rattle.deque_machine.specs.Play.{IsFirst, IsReady, CanMove, Wants, a_theft, a_give_up, a_wait, an_action, reach, words_drawn}
use Rattle.deque_machine.specs.Runs.{Pair}
use Rattle.deque_machine.specs.Terms.{machine_of}
use Rattle.depth_first_list.specs.QuotaWords.{quota_words}
use Rattle.node_table.specs.Codes.{code_shown}
use Rattle.scheduler_state.specs.Passed.Periods.{Period}
use Rattle.scheduler_state.specs.Passed.Tables.{periods_of}
use Rattle.scheduler_state.specs.declared.event.Event.{Event}
use Rattle.scheduler_state.specs.declared.event.Event.TheVariants as events
use Rattle.play_rules.specs.declared.stop.Stop.{Stop}
use Rattle.scheduler_state.specs.Held.{held}
use Rattle.scheduler_state.specs.Outcomes.{Tells, tells_theft, tells_action, tells_wait, tells_give_up}
use Rattle.dfd_core.specs.declared.run.Core.{Core}
use Rattle.play_rules.specs.declared.ends.RunEnd.{RunEnd}
use Rattle.play_rules.specs.declared.ends.RunEnd.TheVariants.{Finished, Stopped}
use Rattle.scheduler_state.specs.declared.stepped.Stepped.{Stepped}
use Rattle.scheduler_state.specs.declared.stepped.Stepped.TheVariants.{Stole, Acted, Suspended, GaveUp, Nothing, Over}
use Rattle.dfd_core.specs.Cores.{IsAt, end_of, terms_at, workers_of, words_of_turn}
use Rattle.dfd_core.specs.Plays.{TurnsTo}
use Rattle.scheduler_state.specs.Ends.{KeepsEnd}
use Rattle.scheduler_state.specs.Told.{IsTold}
use Rattle.dfd_core.specs.Steps.{GoesOn, Comes}
use Rattle.scheduler_state.proofs.Differing.{ok_or_err, some_or_none}
use Rattle.play_rules.proofs.Firsts.{first_below}
use Rattle.scheduler_state.proofs.Answering.{nothing_told, no_stop_kept, stop_told}
use Rattle.dfd_core.proofs.Taking.{goes, turns_to}
use Rattle.play_rules.proofs.Firsts.{one_first}
use Rattle.trail_check.specs.Told.{kind_told}
use Rattle.trail_meaning.specs.declared.trail_kind.TrailKind.{TrailKind}
use Rattle.trail_meaning.specs.declared.trail_kind.TrailKind.TheVariants.{Steal, Act, Suspend, GiveUp}
use Rattle.trail_record.specs.Turns.{IsVictimOf, kind_recorded, event_recorded, TurnRecorded, RecordsTo}

-- the kind by what the step tells
kind_by : Option ℕ → Event → Option TrailKind
kind_by place (events.Stole deque period) = option_map Steal place
kind_by place (events.Acted id) = Some Act
kind_by place (events.Suspended id) = Some Suspend
kind_by place (events.GaveUp deque) = Some GiveUp

some_of : Option Event → Event → Event
some_of None other = other
some_of (Some event) other = event

event_in : Result (Option Event) Stop → Event → Event
event_in (Ok event) other = some_of event other
event_in (Err stop) other = other

same_event : (one two : Event) → ◌≡◌ {A = Result (Option Event) Stop} (Ok (Some one)) (Ok (Some two)) → one ≡ two
unfolding event_in some_of
same_event one two same = ap (λ r. event_in r one) same

recorded_by : (place : Option ℕ) (stepped : Stepped) (told : Event) → IsTold stepped (Ok (Some told)) → kind_recorded place stepped ≡ kind_by place told
unfolding kind_by
recorded_by place (Stole deque period) told is = ap (kind_by place) (sym (same_event told _ is))
recorded_by place (Acted id) told is = ap (kind_by place) (sym (same_event told _ is))
recorded_by place (Suspended id) told is = ap (kind_by place) (sym (same_event told _ is))
recorded_by place (GaveUp deque) told is = ap (kind_by place) (sym (same_event told _ is))
recorded_by place Nothing told is = absurd (some_or_none told is)
recorded_by place (Over (Finished finish)) told is = absurd is
recorded_by place (Over (Stopped stop)) told is = absurd (ok_or_err _ _ is)

-- a theft that is wanted is of an idle worker, from the first in reach that has a thread to steal
IsOfFirst : machine.Setting → Moment → (worker word : ℕ) → machine.Event → Type 0
IsOfFirst s m worker word (machine.steals place id) = (owned_by worker m.deques ≡ 0) × IsFirst (reach s m) word (IsReady m) place
IsOfFirst s m worker word (machine.does place) = Unit {0}
IsOfFirst s m worker word machine.suspends = Unit {0}
IsOfFirst s m worker word machine.gives_up = Unit {0}

of_first : (s : machine.Setting) (m : Moment) (worker word : ℕ) (event : machine.Event) → Wants s m worker word event → IsOfFirst s m worker word event
unfolding IsOfFirst
of_first s m worker word event (a_theft place id idle first named) = (idle, first)
of_first s m worker word event (a_give_up forced) = tt
of_first s m worker word event (a_wait o place child at none) = tt
of_first s m worker word event (an_action o place next has fits) = tt

module _ (c : Setting) (before : Core) (worker : ℕ) (word place : Option ℕ) (m : Moment)
    (draws : words_drawn m worker ≡ words_of_turn (is_some word)) (victim : IsVictimOf c before m word place) where
  robs : (at : ℕ) → owned_by worker m.deques ≡ 0 → IsFirst (reach (machine_of c (terms_at before)) m) (unwrap_or word 0) (IsReady m) at → place ≡ Some at
  robs at idle first = by_word word draws victim first
    where
      two : words_drawn m worker ≡ 2
      two = ap (λ b. cond b 2 1) (eq-eqb (owned_by worker m.deques) 0 idle)

      by_place : (w : ℕ) (p : Option ℕ) → IsVictimOf c before m (Some w) p
          → IsFirst (reach (machine_of c (terms_at before)) m) w (IsReady m) at → p ≡ Some at
      by_place w None none first = absurd (none at (first_below (reach (machine_of c (terms_at before)) m) w (IsReady m) at first) first.passes)
      by_place w (Some p) is first = ap Some (one_first (reach (machine_of c (terms_at before)) m) w (IsReady m) p at is first)

      by_word : (w : Option ℕ) → words_drawn m worker ≡ words_of_turn (is_some w) → IsVictimOf c before m w place
          → IsFirst (reach (machine_of c (terms_at before)) m) (unwrap_or w 0) (IsReady m) at → place ≡ Some at
      by_word None one is first = absurd (let both = two in omega (arith, one, both))
      by_word (Some w) one is first = by_place w place is first

  -- so the kind is that of the event
  kind_is : (l : List Action) (periods : List Period) (event : machine.Event) (told : Event) → Tells l periods m worker event told
      → Wants (machine_of c (terms_at before)) m worker (unwrap_or word 0) event → kind_by place told ≡ Some (kind_told event)
  unfolding kind_by IsOfFirst
  kind_is l periods event told (tells_theft at id) wants =
      let of = of_first (machine_of c (terms_at before)) m worker (unwrap_or word 0) event wants in ap (option_map Steal) (robs at of.0 of.1)
  kind_is l periods event told (tells_action at id named) wants = refl
  kind_is l periods event told (tells_wait o id labelled) wants = refl
  kind_is l periods event told (tells_give_up o id is) wants = refl

module _ (c : Setting) (before after : Core) (same : terms_at after ≡ terms_at before) (words : ℕ → ℕ) (worker : ℕ) (word place : Option ℕ)
    (none : end_of before ≡ None) (run : List Pair) (m : Moment) (at : IsAt c before run m)
    (first : IsFirst (workers_of before) (words 0) (CanMove (machine_of c (terms_at before)) m) worker)
    (draws : words_drawn m worker ≡ words_of_turn (is_some word)) (word_is : is_some word ≡ true → unwrap_or word 0 ≡ words 1)
    (victim : IsVictimOf c before m word place) where
  recorded : (stepped : Stepped) (told : Event) → IsTold stepped (Ok (Some told))
      → GoesOn (code_shown after.code) (quota_words after.k) (terms_at after) (held after.scheduler) after.end c worker (unwrap_or word 0) run m told
      → TurnRecorded c (terms_at before) words (words_of_turn (is_some word)) after run m (event_recorded worker stepped place)
  unfolding goes
  recorded stepped told is g = record {
    goes = goes c before after same words worker (unwrap_or word 0) (is_some word) none run m at first draws word_is told g;
    event_is = ap (option_map (λ kind. record { worker = worker; kind = kind })) (recorded_by place stepped told is
        ∙ kind_is c before worker word place m draws victim (list_of c) (periods_of (held after.scheduler).table) g.event told g.tells
        (subst (λ x. Wants (machine_of c x) m worker (unwrap_or word 0) g.event) same g.wants));
  }

  abbrev records_with : Stepped → Option RunEnd → Type 0
  records_with stepped end =
      RecordsTo c (terms_at before) words (words_of_turn (is_some word)) after run m (event_recorded worker stepped place) end

  pub records_to : (stepped : Stepped) (result : Result (Option Event) Stop) → IsTold stepped result
      → Comes (code_shown after.code) (quota_words after.k) (terms_at after) (held after.scheduler) after.end c worker (unwrap_or word 0) run m result
      → ((stepped ≡ Nothing) ↔ ¬ CanMove (machine_of c (terms_at before)) m worker)
      → ((end : RunEnd) → stepped ≡ Over end → end_of after ≡ Some end) → records_with stepped (end_of after)
  records_to stepped (Ok None) told came nothing over = absurd (nothing.0 (nothing_told stepped (Ok None) told refl) first.passes)
  records_to stepped (Ok (Some event)) told came nothing over = by_end (end_of after) refl
    where
      by_end : (end : Option RunEnd) → end_of after ≡ end → records_with stepped end
      by_end None is = ∥∥₁_map came (recorded stepped event told)
      by_end (Some (Finished finish)) is = ∥∥₁_map came (recorded stepped event told)
      by_end (Some (Stopped stop)) is = absurd (∥∥₁_elim came (λ x y. absurd x)
          (λ g. no_stop_kept c (terms_at after) g.next stop (subst (λ e. KeepsEnd c (terms_at after) e g.next) is g.keeps_end)))
  records_to stepped (Err stop) told came nothing over =
      let is = stop_told stepped stop told in
      let ends = over (Stopped stop) is in
      subst (records_with stepped) (sym ends) (
        ap (λ s. event_recorded worker s place) is,
        subst (λ e. TurnsTo c (terms_at before) words (words_of_turn (is_some word)) after run m e) ends
            (turns_to c before after same words worker (unwrap_or word 0) (is_some word) none run m at first draws word_is stepped (Err stop) told came nothing over),
      )
