-- What one turn comes to.
use Rattle.std.proofs.Common.{◌≡◌, ◌↔◌, ℕ, List, refl, sym, ap, subst, arith}
use Rattle.std.proofs.Math.Logic.{∥∥₁_elim, ∥∥₁_map}
use Rattle.std.specs.Prelude.{Option, None, Some, Bool, true, false, Result, Ok, Err, cond, pos, is_some, unwrap_or}
use Rattle.std.proofs.lemmas.Bool.{eq-eqb, false≢true}
use Rattle.depth_first_list.specs.QuotaWords.{quota_words}
use Rattle.depth_first_run.specs.States.{Setting}
use Rattle.open_periods.specs.Passed.Moments.{Moment, owned_by}
use Rattle.open_periods.specs.Passed.Machine as machine
use Rattle.open_periods.specs.Passed.Machine.{Event, May}
use Rattle.open_periods.specs.Passed.Play as play
use Rattle.open_periods.specs.Passed.Play.{IsFirst, CanMove, Wants, a_theft, a_give_up, a_wait, an_action, Meets, Turn, words_drawn}
use Rattle.open_periods.specs.Passed.DequeMachineRuns.{Pair}
use Rattle.node_table.specs.Codes.{code_shown}
use Rattle.scheduler_state.specs.declared.event.Event.{Event as Told}
use Rattle.play_rules.specs.declared.stop.Stop.{Stop}
use Rattle.play_rules.specs.declared.stop.Stop.TheVariants.{ArenaFull, DequesFull, StepsSpent, OutOfMemory}
use Rattle.scheduler_state.specs.Held.{held}
use Rattle.open_periods.specs.Passed.Terms.{machine_of}
use Rattle.scheduler_state.specs.Outcomes.{HasDequesLeft}
use Rattle.dfd_core.specs.declared.run.Core.{Core}
use Rattle.play_rules.specs.declared.ends.RunEnd.{RunEnd}
use Rattle.play_rules.specs.declared.ends.RunEnd.TheVariants.{Finished, Stopped}
use Rattle.scheduler_state.specs.declared.stepped.Stepped.{Stepped}
use Rattle.scheduler_state.specs.declared.stepped.Stepped.TheVariants.{Nothing, Over}
use Rattle.scheduler_state.specs.Ends.{KeepsEnd}
use Rattle.scheduler_state.specs.Told.{IsTold}
use Rattle.dfd_core.specs.Steps.{GoesOn, Stops, Comes}
use Rattle.dfd_core.specs.Cores.{IsAt, end_of, terms_at, workers_of, words_of_turn}
use Rattle.dfd_core.specs.Plays.{TurnGoesOn, TurnStops, TurnsTo}
use Rattle.scheduler_state.proofs.Answering.{nothing_told, stop_told, no_stop_kept}

-- the word of a theft is the second that comes
pub word_drawn : (words : ℕ → ℕ) (word : Option ℕ) → ((w : ℕ) → word ≡ Some w → w ≡ words 1) → is_some word ≡ true → unwrap_or word 0 ≡ words 1
word_drawn words None second is = absurd (false≢true is)
word_drawn words (Some w) second is = second w refl

-- what the rules want of an owner does not depend on the word
wanted_of_owner : (s : machine.Setting) (m : Moment) (worker word other : ℕ) (event : Event) → words_drawn m worker ≡ 1 → Wants s m worker word event
    → Wants s m worker other event
wanted_of_owner s m worker word other event one (a_theft place id idle first named) =
    let two : words_drawn m worker ≡ 2 = ap (λ b. cond b 2 1) (eq-eqb (owned_by worker m.deques) 0 idle) in absurd (omega (arith, one, two))
wanted_of_owner s m worker word other event one (a_give_up forced) = a_give_up forced
wanted_of_owner s m worker word other event one (a_wait o place child at none) = a_wait o place child at none
wanted_of_owner s m worker word other event one (an_action o place next has fits) = an_action o place next has fits

module _ (c : Setting) (before after : Core) (same : terms_at after ≡ terms_at before) (words : ℕ → ℕ) (worker word : ℕ) (idle : Bool)
    (none : end_of before ≡ None) (run : List Pair) (m : Moment) (at : IsAt c before run m)
    (first : IsFirst (workers_of before) (words 0) (CanMove (machine_of c (terms_at before)) m) worker)
    (draws : words_drawn m worker ≡ words_of_turn idle) (word_is : idle ≡ true → word ≡ words 1) where
  wanted : (event : Event) → Wants (machine_of c (terms_at before)) m worker word event → Wants (machine_of c (terms_at before)) m worker (words 1) event
  wanted event wants = by_idle idle draws word_is
    where
      by_idle : (b : Bool) → words_drawn m worker ≡ words_of_turn b → (b ≡ true → word ≡ words 1) → Wants (machine_of c (terms_at before)) m worker (words 1) event
      by_idle true two is = subst (λ w. Wants (machine_of c (terms_at before)) m worker w event) (is refl) wants
      by_idle false one is = wanted_of_owner (machine_of c (terms_at before)) m worker word (words 1) event one wants

  -- and what they want by the word that was drawn is what they want by the word of the step
  wanted_by_step : (event : Event) → Wants (machine_of c (terms_at before)) m worker (words 1) event → Wants (machine_of c (terms_at before)) m worker word event
  wanted_by_step event wants = by_idle idle draws word_is
    where
      by_idle : (b : Bool) → words_drawn m worker ≡ words_of_turn b → (b ≡ true → word ≡ words 1) → Wants (machine_of c (terms_at before)) m worker word event
      by_idle true two is = subst (λ w. Wants (machine_of c (terms_at before)) m worker w event) (sym (is refl)) wants
      by_idle false one is = wanted_of_owner (machine_of c (terms_at before)) m worker (words 1) word event one wants

  has_deques : HasDequesLeft c (terms_at after) worker word m → HasDequesLeft c (terms_at before) worker (words 1) m
  has_deques left = λ event deques wants meets. left event deques
      (subst (λ x. Wants (machine_of c x) m worker word event) (sym same) (wanted_by_step event wants))
      (subst (λ x. Meets (machine_of c x) x.limits m event (play.deques_full deques)) (sym same) meets)

  pub turn_is : (event : Event) → Wants (machine_of c (terms_at after)) m worker word event
      → Turn (machine_of c (terms_at before)) words 0 m (record { worker = worker; event = event })
  turn_is event wants = record {
    not_over = at.going none;
    first = first;
    wants = wanted event (subst (λ x. Wants (machine_of c x) m worker word event) same wants);
  }

  unfoldable pub goes : (told : Told)
      → GoesOn (code_shown after.code) (quota_words after.k) (terms_at after) (held after.scheduler) after.end c worker word run m told
      → TurnGoesOn c (terms_at before) words (words_of_turn idle) after run m
  goes told g = record {
    pair = record { worker = worker; event = g.event };
    next = g.next;
    turn = turn_is g.event g.wants;
    free = λ stop meets. g.free stop (subst (λ x. Meets (machine_of c x) x.limits m g.event stop) (sym same) meets);
    may = subst (λ x. May (machine_of c x) m worker g.event g.next) same g.may;
    draws = sym draws;
    is_at = g.is_at;
  }

  stops : (stop : play.Stop)
      → Stops (code_shown after.code) (quota_words after.k) (terms_at after) (held after.scheduler) after.end c worker word run m stop
      → TurnStops c (terms_at before) words (words_of_turn idle) after run m stop
  stops stop s = record {
    pair = record { worker = worker; event = s.event };
    draws = sym draws;
    turn = turn_is s.event s.wants;
    meets = subst (λ x. Meets (machine_of c x) x.limits m s.event stop) same s.meets;
    is_at = s.is_at;
  }

  abbrev turns_with : Option RunEnd → Type 0
  turns_with end = TurnsTo c (terms_at before) words (words_of_turn idle) after run m end

  pub turns_to : (stepped : Stepped) (result : Result (Option Told) Stop) → IsTold stepped result
      → Comes (code_shown after.code) (quota_words after.k) (terms_at after) (held after.scheduler) after.end c worker word run m result
      → ((stepped ≡ Nothing) ↔ ¬ CanMove (machine_of c (terms_at before)) m worker)
      → ((end : RunEnd) → stepped ≡ Over end → end_of after ≡ Some end) → turns_with (end_of after)
  turns_to stepped (Ok None) told came nothing over = absurd (nothing.0 (nothing_told stepped (Ok None) told refl) first.passes)
  turns_to stepped (Ok (Some event)) told came nothing over = by_end (end_of after) refl
    where
      by_end : (end : Option RunEnd) → end_of after ≡ end → turns_with end
      by_end None is = ∥∥₁_map came (goes event)
      by_end (Some (Finished finish)) is = ∥∥₁_map came (goes event)
      by_end (Some (Stopped stop)) is = absurd (∥∥₁_elim came (λ x y. absurd x)
          (λ g. no_stop_kept c (terms_at after) g.next stop (subst (λ e. KeepsEnd c (terms_at after) e g.next) is g.keeps_end)))
  turns_to stepped (Err (ArenaFull live asked)) told came nothing over =
      subst turns_with (sym (over _ (stop_told stepped _ told))) (∥∥₁_map came (stops (play.arena_full (pos live) asked)))
  turns_to stepped (Err (DequesFull deques)) told came nothing over =
      subst turns_with (sym (over _ (stop_told stepped _ told))) (∥∥₁_map came (stops (play.deques_full deques)))
  turns_to stepped (Err (StepsSpent limit)) told came nothing over =
      subst turns_with (sym (over _ (stop_told stepped _ told))) (∥∥₁_map came (stops (play.steps_spent limit)))
  turns_to stepped (Err OutOfMemory) told came nothing over =
      subst turns_with (sym (over _ (stop_told stepped _ told))) ∣ record { worker = worker; first = first; deques_left = has_deques came.1; draws = sym draws; is_at = came.0 } ∣₁
