-- What the event of an entry comes to, once the parent of a Fork has its own.
use Rattle.std.proofs.Common.{◌≡◌, ℕ, ◌≤◌, ◌<◌, List, [], ◌∷◌, ◌++◌, inl, inr, sym, ap, subst, ◌∙◌}
use Rattle.std.proofs.Math.Logic.{∥∥₁_elim, ∥∥₁_map}
use Rattle.std.specs.Prelude.{Some}
use Rattle.depth_first_list.specs.Actions.{record_words}
use Rattle.depth_first_run.specs.States.{Setting}
use Rattle.deque_list.specs.declared.deque_id.DequeId.{DequeId}
use Rattle.deque_list.specs.Deques.{Deque}
use Rattle.list_changes.specs.Shown.{Stands}
use Rattle.deque_machine.specs.Moments as machine
use Rattle.deque_machine.specs.Moments.{Moment}
use Rattle.deque_machine.specs.Machine.{Event, steals, does, suspends, gives_up, Setting as Machine}
use Rattle.deque_machine.specs.Play as play
use Rattle.deque_machine.specs.Play.{Limits, Meets}
use Rattle.deque_machine.specs.Runs.{Pair}
use Rattle.deque_machine.specs.Terms.{Terms, machine_of}
use Rattle.node_table.specs.Table.{Table}
use Rattle.play_rules.specs.declared.stop.Stop.{Stop}
use Rattle.play_rules.specs.declared.stop.Stop.TheVariants.{ArenaFull, DequesFull, StepsSpent, OutOfMemory}
use Rattle.thread_frames.specs.declared.thread.Thread.{Thread}
use Rattle.thread_frames.specs.Shown.{thread_shown}
use Rattle.scheduler_state.specs.Passed.Settings.{IsSettingOf}
use Rattle.scheduler_state.specs.declared.event.Event.{Event as Told}
use Rattle.scheduler_state.specs.declared.scheduler.Scheduler.{Scheduler}
use Rattle.scheduler_state.specs.Held.{Held, held}
use Rattle.scheduler_state.specs.Moments.{IsSound, CanGoOn, SameTerms, HasRun, terms_of}
use Rattle.scheduler_state.specs.Outcomes.{GoesOn, Stops, StopsBy}
use Rattle.ready_machine.specs.Entries.{IsReadyList}
use Rattle.ready_machine.specs.ReadyPlay.{WantsReady}
use Rattle.ready_machine.proofs.Agreeing.{wants_agree}
use Rattle.ready_machine.proofs.Playing.{takes_meet_no_stop}
use Rattle.ready_machine.specs.Standing.{LeavesTwo}
use Rattle.async_core.specs.Aside.{IsCut, SetsAside, stays, is_cut}
use Rattle.async_core.specs.Steps.{Went, HasMet, MeetsBy}
use Rattle.async_core.proofs.Lists.{cut_of_shown, two_items}
use Rattle.async_core.proofs.Parting.{parted, parted_order, parted_points}
use Rattle.async_core.proofs.Wents.{one_or_fork, went_whole, went_cut}

-- ---- the deque of two is cut in two, or there is none

module _ (worker : ℕ) (mid after : Scheduler) where
  pub cut_held : (cut : IsCut worker mid.list after.list) → after ≡ record mid { list = after.list }
      → held after ≡ parted (held mid) worker cut.id cut.new cut.top cut.bottom cut.stands.left cut.stands.right
  cut_held cut same = ap held same ∙ ap (λ ds. record (held mid) { deques = ds }) cut.deques

  pub aside_terms : SetsAside worker mid after → SameTerms mid after
  aside_terms (stays same none) actions = ap (λ x. terms_of x actions) same
  aside_terms (is_cut cut same) actions = ap (λ x. terms_of x actions) same
      ∙ (λ i. record (terms_of mid actions) { limits = record { capacity = mid.pool.capacity; actions = actions; deques = cut.most i } })

  pub aside_points : (t : Table) (k : ℕ) → SetsAside worker mid after → CanGoOn t k (held mid) → CanGoOn t k (held after)
  aside_points t k (stays same none) points = subst (λ x. CanGoOn t k (held x)) (sym same) points
  aside_points t k (is_cut cut same) points = subst (CanGoOn t k) (sym (cut_held cut same))
      (∥∥₁_map points (parted_points (held mid) worker cut.id cut.new cut.top cut.bottom cut.stands.left cut.stands.right cut.stands.deques_are t k))

  pub aside_sound : (t : Table) (k : ℕ) (terms : Terms) → SetsAside worker mid after → IsSound t k terms (held mid)
      → ((c : Setting) → IsSettingOf t k c → ∥ ((run : List Pair) × (m : Moment) × HasRun c terms (held after) run m) ∥₁) → IsSound t k terms (held after)
  aside_sound t k terms (stays same none) sound somewhere = subst (λ x. IsSound t k terms (held x)) (sym same) sound
  aside_sound t k terms (is_cut cut same) sound somewhere =
      let is = cut_held cut same in
      subst (IsSound t k terms) (sym is) (record {
        of_program = sound.of_program;
        quota = sound.quota;
        in_order = ∥∥₁_map sound.in_order (parted_order (held mid) worker cut.id cut.new cut.top cut.bottom cut.stands.left cut.stands.right cut.stands.deques_are);
        sum = sound.sum;
        results = sound.results;
        somewhere = λ c of. ∥∥₁_map (somewhere c of) (λ w. (w.0, w.1, subst (λ h. HasRun c terms h w.0 w.1) is w.2));
      })

  -- the event came in the ready list
  module _ (c : Setting) (terms : Terms) (quota : record_words ≤ c.quota) (before : Held) (run : List Pair) (m : Moment)
      (at : HasRun c terms before run m) (ready : IsReadyList (machine_of c terms) m) (below : worker < terms.workers) (told : Told)
      (g : GoesOn c terms (held mid) worker 0 run m told) where
    -- a deque of two of the moment is one of the list
    its_two : LeavesTwo (machine_of c terms).list m g.next worker
        → (id : DequeId) × (top : Thread) × (bottom : Thread) × Stands mid.list worker id (top ∷ bottom ∷ [])
    its_two two =
        let found = cut_of_shown thread_shown mid.list.deques two.left (machine.deque_of two.id (Some worker) (two.upper ∷ two.lower ∷ [])) two.right
        (sym (g.stands).standing.shows.deques ∙ two.deques_are) in
        let x : Deque Thread = found.1 in
        let owner : Deque.owner x ≡ Some worker = ap (λ (d : machine.Deque). d.owner) found.4 in
        let items = two_items thread_shown (Deque.items x) two.upper two.lower (ap (λ (d : machine.Deque). d.threads) found.4) in (
          Deque.id x,
          items.0,
          items.1,
          record {
            left = found.0;
            right = found.2;
            deques_are = found.3 ∙ ap (λ d. found.0 ++ d ∷ found.2) (λ i. record { id = Deque.id x; owner = owner i; items = items.2 i });
          },
        )

    pub aside_went : SetsAside worker mid after → Went c terms (held after) worker run m told
    aside_went (stays same none) = subst (λ x. Went c terms (held x) worker run m told) (sym same)
        (elim (one_or_fork c terms quota before (held mid) run m at ready worker below told g) [
          | inl entries ↦ went_whole c terms quota before (held mid) run m at ready worker below told g entries
          | inr two ↦ let its = its_two two in absurd (none its.0 its.1 its.2 its.3)
        ])
    aside_went (is_cut cut same) = subst (λ h. Went c terms h worker run m told) (sym (cut_held cut same))
        (went_cut c terms quota before (held mid) run m at ready worker below told g cut.id cut.new cut.top cut.bottom cut.stands.left cut.stands.right
        cut.stands.deques_are cut.free)

-- ---- a stop

-- a place in the list is never wanting
never_full : (s : Machine) (limits : Limits) (m : Moment) (worker : ℕ) (event : Event) (deques : ℕ) → WantsReady s m worker event
    → Meets s limits m event (play.deques_full deques) → ⊥
never_full s limits m worker (steals place id) deques wants meets = takes_meet_no_stop s limits m worker place id wants (play.deques_full deques) meets
never_full s limits m worker (does place) deques wants meets = elim meets [ ]
never_full s limits m worker suspends deques wants meets = elim meets [ ]
never_full s limits m worker gives_up deques wants meets = elim meets [ ]

module _ (c : Setting) (terms : Terms) (after : Held) (worker : ℕ) (below : worker < terms.workers) (run : List Pair) (m : Moment)
    (ready : IsReadyList (machine_of c terms) m) where
  met : (stop : play.Stop) → Stops c terms after worker 0 run m stop → HasMet c terms after worker run m stop
  met stop s = record { event = s.event; wants = (wants_agree (machine_of c terms) m worker s.event ready below).0 s.wants; meets = s.meets; stands = s.stands }

  pub meets_by : (stop : Stop) → StopsBy c terms after worker 0 run m stop → MeetsBy c terms after worker run m stop
  meets_by (ArenaFull live asked) by = ∥∥₁_map by (met (play.arena_full (Rattle.std.specs.Prelude.pos live) asked))
  meets_by (DequesFull deques) by = ∥∥₁_elim by (λ x y. absurd x) (λ s.
      let h = met (play.deques_full deques) s in never_full (machine_of c terms) terms.limits m worker h.event deques h.wants h.meets)
  meets_by (StepsSpent limit) by = ∥∥₁_map by (met (play.steps_spent limit))
  meets_by OutOfMemory by = by.0
