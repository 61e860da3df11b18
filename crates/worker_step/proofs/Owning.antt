-- What the step of an owner comes to, out of what its action or its leaving did.
use Rattle.std.proofs.Common.{◌≡◌, ◌≢◌, ℕ, ◌+◌, ◌≤◌, ◌<◌, List, [], ◌∷◌, ◌++◌, length, inl, inr, refl, sym, ap, subst, ◌∙◌, arith, true≢false}
use denote.Struct.Props.{props}
use Rattle.std.proofs.Math.Logic.{∥∥₁_elim, ∥∥₁_map, ∥∥₁_prop}
use Rattle.std.proofs.lemmas.Int.{ints}
use Rattle.std.specs.Prelude.{IsSome, Bool, true, false, Option, None, Some, ℤ, pos, ◌+ℤ◌, ◌-ℤ◌, ◌<ℤ◌, Ok, Err, cond, nat_le}
use Rattle.dag_order.specs.declared.action_id.ActionId.{ActionId}
use Rattle.dag_order.specs.LabelOrder.{fork_of}
use Rattle.deque_list.specs.declared.deque_id.DequeId.{DequeId}
use Rattle.depth_first_list.specs.Actions.{Deed, forks, joins, allocates, releases, dummy, faults, ends, record_words, weight_of}
use Rattle.depth_first_list.specs.Facts.{action_at, deed_at, words_at, weight_at}
use Rattle.depth_first_run.specs.States.{Setting}
use Rattle.depth_first_run.proofs.Built.{whole_is_depth_first}
use Rattle.open_periods.specs.Passed.Books.{charge, charge_at}
use Rattle.open_periods.specs.Passed.Moments.{Moment, live_at}
use Rattle.open_periods.specs.Passed.Machine as machine
use Rattle.open_periods.specs.Passed.Machine.{HasEnded}
use Rattle.open_periods.specs.Passed.Play as play
use Rattle.open_periods.specs.Passed.Play.{Wants, Meets, taken_by, words_taken, an_action, no_words, no_steps}
use Rattle.open_periods.specs.Passed.DequeMachineRuns.{Pair, is_move, moves_words}
use Rattle.space_ledger.specs.MovesList.{moves_list}
use Rattle.node_table.specs.Table.{Table}
use Rattle.open_periods.specs.Periods.{Period}
use Rattle.open_periods.specs.Names.{IsNamed}
use Rattle.open_periods.specs.Tables.{period_at}
use Rattle.moment_shown.specs.Parts as parts
use Rattle.moment_shown.specs.Events.{Works}
use Rattle.moment_shown.proofs.Shown.{used_is}
use Rattle.moment_shown.proofs.Placing.{own}
use Rattle.depth_first_run.specs.Run.{list_of}
use Rattle.scheduler_state.specs.Passed.Settings.{IsSettingOf}
use Rattle.thread_frames.specs.Actions.{IsOfTheList, deed_of, TellsWords}
use Rattle.thread_frames.specs.Views.{label_of, children_of, thread_words, join_words_of}
use Rattle.thread_frames.specs.declared.next.Next.{Next}
use Rattle.thread_frames.specs.declared.thread.Thread.{Thread}
use Rattle.list_changes.specs.Shown.{Stands}
use Rattle.scheduler_state.specs.declared.scheduler.Scheduler.{Scheduler}
use Rattle.scheduler_state.specs.declared.event.Event.{Event}
use Rattle.scheduler_state.specs.declared.event.Event.TheVariants as events
use Rattle.play_rules.specs.declared.stop.Stop.{Stop}
use Rattle.play_rules.specs.declared.stop.Stop.TheVariants.{ArenaFull, DequesFull, StepsSpent, OutOfMemory}
use Rattle.scheduler_state.specs.Held.{Held, held, held_under, parts_in, OwnsNone, IsInOrder, AreAtPoints, AreResults}
use Rattle.scheduler_state.specs.Moments.{terms_of, SameTerms, HasRun, IsSound, CanGoOn}
use Rattle.open_periods.specs.Passed.Terms.{Terms, machine_of}
use Rattle.scheduler_state.specs.Outcomes.{GoesOn, GivesDequeUp, StepsTo}
use Rattle.scheduler_state.proofs.Passed.Standing.{the_same}
use Rattle.scheduler_state.proofs.Going.{acted_goes_on, sum_is}
use Rattle.scheduler_state.proofs.Leaving.{gave_up, gave_up_goes_on}
use Rattle.scheduler_state.proofs.Still.{reordered_stands}
use Rattle.thread_frames.proofs.Bounds.{join_within}
use Rattle.scheduler_state.proofs.AtTop.{words_within, not_kept, named, next_at_top, owns_none, its_period, period_there, used_within}
use Rattle.std.proofs.lemmas.List.{nil_from_length}
use Rattle.std.proofs.lemmas.Option.{none-some}
use Rattle.dag_order.specs.declared.thread_id.ThreadId.{ThreadId}
use Rattle.open_periods.specs.Passed.Lists.{Each}
use Rattle.open_periods.proofs.Passed.Lists.{cons_is_not_nil}
use Rattle.thread_map.specs.Kept.{kept_under}
use Rattle.thread_frames.specs.Children.{is_delivered}
use Rattle.thread_frames.specs.Points.{IsResult}
use Rattle.thread_frames.specs.declared.next.Next.TheVariants as nexts
use Rattle.thread_frames.proofs.Threads.{next_actions_stand}
use Rattle.thread_frames.specs.Kept.{WaitsUnder}
use Rattle.scheduler_state.proofs.Leaving.{waited_goes_on}
use Rattle.scheduler_state.proofs.Joining.{newest_child, joins_it, told_newest, unkept, waits_alone, not_waited}
use Rattle.worker_step.specs.Leaves.{LeavesDeque, LeavesList}
use Rattle.std.proofs.lemmas.Bool.{le-leb, lt-leb}
use Rattle.thread_actions.specs.Acts.{AllocIsCharged}
use Rattle.worker_step.specs.Acts.{Acts, noted, change}
use Rattle.worker_step.specs.Steps.{IsBeforeAction, Comes}
use Rattle.worker_step.specs.Keeping.{KeepsRoom}
use Rattle.worker_step.specs.Refusals.{Refuses}
use Rattle.thread_frames.specs.declared.ended.Ended.{Ended}

-- the quota of the program
pub quota_is : (t : Table) (k : ℕ) (c : Setting) → IsSettingOf t k c → record_words ≤ k → record_words ≤ c.quota
quota_is t k c of enough = subst (λ n. record_words ≤ n) (sym of.quota) enough

-- what all stands on stays
module _ (t : Table) (k limit : ℕ) (s : Scheduler) {worker : ℕ} {id : DequeId} {items : List Thread} (stands : Stands s.list worker id items) (top : Thread)
    (sound : IsSound t k (terms_of s limit) (held_under s stands top)) where
  -- none of the other deques is the worker's
  order_after : (after : Held) → (OwnsNone worker stands.left stands.right → IsInOrder (held_under s stands top) → ∥ IsInOrder after ∥₁) → ∥ IsInOrder after ∥₁
  order_after after f = ∥∥₁_elim sound.of_program ∥∥₁_prop (λ p. ∥∥₁_elim (sound.somewhere p.0 p.1) ∥∥₁_prop (λ a.
      ∥∥₁_elim sound.in_order ∥∥₁_prop (λ o. f (owns_none s stands top p.0 (terms_of s limit) (quota_is t k p.0 p.1 sound.quota) a.0 a.1 a.2) o)))

  -- all is sound that stands at the moment of some run
  sound_after : (after : Scheduler) → SameTerms s after
      → (OwnsNone worker stands.left stands.right → IsInOrder (held_under s stands top) → ∥ IsInOrder (held after) ∥₁) → ∥ AreResults t k (held after) ∥₁
      → ((c : Setting) → IsSettingOf t k c → (run : List Pair) (m : Moment) → HasRun c (terms_of s limit) (held_under s stands top) run m
      → ∥ ((later : List Pair) × (next : Moment) × HasRun c (terms_of s limit) (held after) later next) ∥₁)
      → IsSound t k (terms_of after limit) (held after)
  sound_after after terms in_order results goes =
      let somewhere : (c : Setting) → IsSettingOf t k c → ∥ ((run : List Pair) × (m : Moment) × HasRun c (terms_of s limit) (held after) run m) ∥₁ =
      λ c of. ∥∥₁_elim (sound.somewhere c of) ∥∥₁_prop (λ a. goes c of a.0 a.1 a.2) in
      subst (λ x. IsSound t k x (held after)) (sym (terms limit)) (record {
        of_program = sound.of_program;
        quota = sound.quota;
        in_order = order_after (held after) in_order;
        sum = ∥∥₁_elim sound.of_program (search props) (λ p. ∥∥₁_elim (somewhere p.0 p.1) (search props) (λ a.
            sum_is p.0 (terms_of s limit) (held after) a.0 a.1 a.2));
        results = results;
        somewhere = somewhere;
      })

  module _ (points : CanGoOn t k (held_under s stands top)) (after : Scheduler) (keeps : KeepsRoom s after) where
    at_before : (c : Setting) (run : List Pair) (m : Moment) → HasRun c (terms_of after limit) (held_under s stands top) run m → HasRun c (terms_of s limit) (held_under s stands top) run m
    at_before c run m at = subst (λ x. HasRun c x (held_under s stands top) run m) (keeps.terms limit) at

    -- an event
    pub comes_in : (told : Event) → (OwnsNone worker stands.left stands.right → IsInOrder (held_under s stands top) → ∥ IsInOrder (held after) ∥₁)
        → (AreAtPoints t k (held_under s stands top) → AreAtPoints t k (held after))
        → (AreAtPoints t k (held_under s stands top) → AreResults t k (held s) → AreResults t k (held after))
        → ((c : Setting) → IsSettingOf t k c → (run : List Pair) (m : Moment) (word : ℕ) → HasRun c (terms_of s limit) (held_under s stands top) run m
        → ∥ GoesOn c (terms_of s limit) (held after) worker word run m told ∥₁)
        → Comes t k limit worker (held_under s stands top) s after (Ok told)
    comes_in told in_order at_points results goes = record {
      sound = sound_after after keeps.terms in_order (∥∥₁_elim points ∥∥₁_prop (λ p. ∥∥₁_map sound.results (λ r. results p r)))
          (λ c of run m at. ∥∥₁_map (goes c of run m 0 at) (λ g. (_, g.next, g.stands)));
      points = ∥∥₁_map points at_points;
      steps = λ c of run m word at. subst (λ x. ∥ GoesOn c x (held after) worker word run m told ∥₁) (sym (keeps.terms limit)) (goes c of run m word (at_before c run m at));
      keeps = keeps;
    }

    pub comes_by : (told : Event) → (OwnsNone worker stands.left stands.right → IsInOrder (held_under s stands top) → IsInOrder (held after))
        → (AreAtPoints t k (held_under s stands top) → AreAtPoints t k (held after))
        → (AreAtPoints t k (held_under s stands top) → AreResults t k (held s) → AreResults t k (held after))
        → ((c : Setting) → IsSettingOf t k c → (run : List Pair) (m : Moment) (word : ℕ) → HasRun c (terms_of s limit) (held_under s stands top) run m
        → ∥ GoesOn c (terms_of s limit) (held after) worker word run m told ∥₁)
        → Comes t k limit worker (held_under s stands top) s after (Ok told)
    comes_by told in_order at_points results goes = comes_in told (λ none o. ∣ in_order none o ∣₁) at_points results goes

    -- a stop, where nothing has changed
    pub stops_by : (stop : Stop) → held after ≡ held_under s stands top
        → ((c : Setting) → IsSettingOf t k c → (run : List Pair) (m : Moment) (word : ℕ) → HasRun c (terms_of s limit) (held_under s stands top) run m
        → StepsTo c (terms_of s limit) (held_under s stands top) worker word run m (Err stop))
        → Comes t k limit worker (held_under s stands top) s after (Err stop)
    stops_by stop same stopped = record {
      sound = subst (λ h. IsSound t k (terms_of after limit) h) (sym same) (subst (λ x. IsSound t k x (held_under s stands top)) (sym (keeps.terms limit)) sound);
      points = subst (CanGoOn t k) (sym same) points;
      steps = λ c of run m word at. subst (λ h. StepsTo c (terms_of after limit) h worker word run m (Err stop)) (sym same)
          (subst (λ x. StepsTo c x (held_under s stands top) worker word run m (Err stop)) (sym (keeps.terms limit)) (stopped c of run m word (at_before c run m at)));
      keeps = keeps;
    }

-- ---- the deque was given up

module _ (t : Table) (k limit : ℕ) (s : Scheduler) {worker : ℕ} {id : DequeId} {items : List Thread} (stands : Stands s.list worker id items) (top : Thread)
    (sound : IsSound t k (terms_of s limit) (held_under s stands top)) (after : Scheduler) (leaves : LeavesDeque worker id top s after) where
  pub gave_up_at : (c : Setting) → IsSettingOf t k c → IsInOrder (held_under s stands top) → (run : List Pair) (m : Moment)
      → HasRun c (terms_of s limit) (held_under s stands top) run m → GivesDequeUp c (terms_of s limit) (held after) worker run m id
  gave_up_at c of o run m at =
      let period = its_period s stands top o in
      gave_up c (terms_of s limit) (quota_is t k c of sound.quota) (held_under s stands top) (held after) run m at worker (parts_in (held after))
      (leaves.gives_up items stands period.0 period.1) (the_same (parts_in (held after)))
      (record { live = ap (λ r. r.live) leaves.same.pool; moves = ap moves_list leaves.same.moves; done = leaves.same.done; begun = leaves.begun ∙ none_more s.table.begun })
      (period_there s stands top period.0 period.1) id refl
    where
      none_more : (n : ℕ) → n ≡ n + 0
      none_more n = omega arith

  pub gave_up_gives : (c : Setting) → IsSettingOf t k c → (run : List Pair) (m : Moment) → HasRun c (terms_of s limit) (held_under s stands top) run m
      → ∥ GivesDequeUp c (terms_of s limit) (held after) worker run m id ∥₁
  gave_up_gives c of run m at = ∥∥₁_map sound.in_order (λ o. gave_up_at c of o run m at)

  pub gave_up_results : AreResults t k (held s) → AreResults t k (held after)
  gave_up_results r = subst (λ rs. Each (λ e. IsResult t k e.1) rs.entries) (sym leaves.same.results) r

  pub gave_up_sound : IsSound t k (terms_of after limit) (held after)
  gave_up_sound = sound_after t k limit s stands top sound after leaves.same.keeps.terms (λ none o. ∣ leaves.in_order items stands none o ∣₁) (∥∥₁_map sound.results gave_up_results)
      (λ c of run m at. ∥∥₁_map (gave_up_gives c of run m at) (λ g. (_, g.next, g.stands)))

-- ---- an action

-- an action takes all its words, where it takes any
pub takes_all : (deed : Deed) (words : ℕ) → 0 < taken_by deed words → words ≡ taken_by deed words
takes_all (forks child) words some = refl
takes_all (joins child) words some = absurd (omega (arith, some))
takes_all allocates words some = refl
takes_all releases words some = absurd (omega (arith, some))
takes_all dummy words some = absurd (omega (arith, some))
takes_all faults words some = absurd (omega (arith, some))
takes_all ends words some = absurd (omega (arith, some))

module _ (t : Table) (k limit : ℕ) (s : Scheduler) {worker : ℕ} {id : DequeId} {items : List Thread} (stands : Stands s.list worker id items) (top : Thread) (next : Next)
    (b : IsBeforeAction t k limit s worker id top next) where
  abbrev pub before : Held
  before = held_under s stands top

  abbrev pub now : Terms
  now = terms_of s limit

  -- what is known at a moment of a program: the action of the list, what is in order, and the period
  pub record Known (c : Setting) : Type 0 where
    pub of : IsSettingOf t k c
    pub action : IsOfTheList c top next
    pub order : IsInOrder before

  pub known : {P : Type 0} (c : Setting) → IsSettingOf t k c → (Known c → ∥ P ∥₁) → ∥ P ∥₁
  known c of f = ∥∥₁_elim (b.of_the_list c of) ∥∥₁_prop (λ i. ∥∥₁_elim (b.sound items stands).in_order ∥∥₁_prop (λ o. f (record { of = of; action = i; order = o })))

  -- so many words are asked, and no others are taken
  module _ (asked : ℕ) (taken : (words : ℕ) → TellsWords top next words → taken_by (deed_of top next) words ≡ asked) where
    module _ (c : Setting) (i : IsOfTheList c top next) where
      abbrev place : ℕ
      place = i.place

      taken_here : words_taken (action_at (list_of c) place) ≡ asked
      taken_here = ap (λ d. taken_by d (words_at (list_of c) place)) i.deed ∙ taken (words_at (list_of c) place) i.words

      all_asked : 0 < words_taken (action_at (list_of c) place) → words_at (list_of c) place ≡ asked
      all_asked some = takes_all (deed_at (list_of c) place) (words_at (list_of c) place) some ∙ taken_here

    -- the action was done
    module _ (Where : ℕ → Period → ℕ → Type 0) (after : Scheduler) (name : ActionId) (acts : Acts next Where worker id top s after name)
        (allowed : (c : Setting) → IsSettingOf t k c → (i : IsOfTheList c top next) → (period : Period) → period_at s.table worker ≡ Some period → Where c.quota period (words_at (list_of c) i.place))
        (fits : s.pool.live + asked ≤ s.pool.capacity) (few : s.done < limit) where
      acted_at : (c : Setting) → Known c → (run : List Pair) (m : Moment) (word : ℕ) → HasRun c now before run m → GoesOn c now (held after) worker word run m (events.Acted name)
      acted_at c known run m word at =
          let i = known.action in
          let quota = quota_is t k c known.of (b.sound items stands).quota in
          let period = its_period s stands top known.order in
          let d = acts.acted.does items stands known.order c c.quota i period.0 period.1 (allowed c known.of i period.0 period.1) in
          let weighs : pos after.pool.live ≡ pos s.pool.live +ℤ weight_at (list_of c) i.place = acts.live (words_at (list_of c) i.place) i.words
          ∙ ap (λ x. pos s.pool.live +ℤ weight_of x (words_at (list_of c) i.place)) (sym i.deed) in
          let moves : ◌≡◌ {A = Bool} (moves_words (deed_of top next) (label_of top) (words_at (list_of c) i.place)) (is_move (action_at (list_of c) i.place)) =
          ap (λ x. moves_words x (label_of top) (words_at (list_of c) i.place)) (sym i.deed)
          ∙ ap (λ x. moves_words (deed_at (list_of c) i.place) x (words_at (list_of c) i.place)) (sym i.labelled) in
          acted_goes_on c now quota d.0 (held after) run m (reordered_stands c now before d.0 run m d.1 at) worker i.place d.2 d.3 d.4 name
          (subst (λ ps. IsNamed (list_of c) ps name i.place) (sym d.1.periods) (named s stands top c now quota run m at next i name acts.by acts.index))
          (acts.done ∙ ap (λ n. n + 1) (sym d.1.done))
          (record {
            live = weighs ∙ ap (λ n. pos n +ℤ weight_at (list_of c) i.place) (sym d.1.live);
            begun = acts.acted.begun ∙ sym d.1.begun;
            move = record { by = name; change = change s.pool.live after.pool.live };
            by = refl;
            change = weight_is (pos after.pool.live) (pos s.pool.live) (weight_at (list_of c) i.place) weighs;
            moves = acts.moves (words_at (list_of c) i.place) i.words
                ∙ ap (λ ms. ms ++ noted (moves_words (deed_of top next) (label_of top) (words_at (list_of c) i.place)) name (change s.pool.live after.pool.live)) (sym d.1.moves)
                ∙ ap (λ x. d.0.moves ++ noted x name (change s.pool.live after.pool.live)) moves;
          })
          word (λ some. let asks = all_asked c i some in let same = d.1.live in omega (arith, fits, asks, same)) (let same = d.1.done in omega (arith, few, same))
        where
          weight_is : (x y w : ℤ) → x ≡ y +ℤ w → x -ℤ y ≡ w
          weight_is x y w is = omega (arith, ints, is)

      pub acted_comes : Comes t k limit worker before s after (Ok (events.Acted name))
      acted_comes = comes_by t k limit s stands top (b.sound items stands) (b.points items stands) after acts.keeps (events.Acted name)
          (λ none o. acts.acted.in_order items stands none o) (λ p. acts.acted.points t k items stands p) (λ p r. acts.acted.results t k items stands p r)
          (λ c of run m word at. known c of (λ x. ∣ acted_at c x run m word at ∣₁))

    -- a stop was met
    module _ (charged : (c : Setting) → IsSettingOf t k c → (i : IsOfTheList c top next) → (period : Period) → period_at s.table worker ≡ Some period
        → period.used + charge c.quota (deed_of top next) (words_at (list_of c) i.place) ≤ c.quota)
        (ended : (c : Setting) → Known c → (run : List Pair) (m : Moment) → HasRun c now before run m → (child : ℕ) → deed_of top next ≡ joins child
        → HasEnded (machine_of c now) m (fork_of (label_of top) child)) where
      wanted : (c : Setting) (x : Known c) (run : List Pair) (m : Moment) (word : ℕ) → HasRun c now before run m → Wants (machine_of c now) m worker word (machine.does (IsOfTheList.place (Known.action x)))
      wanted c x run m word at =
          let i = x.action in
          let quota = quota_is t k c x.of (b.sound items stands).quota in
          let period = its_period s stands top x.order in
          let o : Works (parts_in before) worker = period_there s stands top period.0 period.1 in
          let lawful = at.standing.lawful in
          let within = charged c x.of i period.0 period.1 in
          let used = used_is c.quota (list_of c) (parts_in before) m at.standing.shows worker o in
          let same : ◌≡◌ {A = ℕ} (charge_at c.quota (list_of c) i.place) (charge c.quota (deed_of top next) (words_at (list_of c) i.place)) = ap (λ d. charge c.quota d (words_at (list_of c) i.place)) i.deed in
          an_action (own (machine_of c now) (whole_is_depth_first c) m lawful (parts_in before) at.standing.shows worker o) i.place (next_at_top s stands top c now quota run m at next i)
          (λ child deed. ended c x run m at child (sym i.deed ∙ deed)) (omega (arith, within, used, same))

      pub refused_comes : (stop : Stop) (after : Scheduler) → Refuses s limit asked stop → held after ≡ before → KeepsRoom s after → Comes t k limit worker before s after (Err stop)
      refused_comes stop after refused same keeps = stops_by t k limit s stands top (b.sound items stands) (b.points items stands) after keeps stop same
          (λ c of run m word at. by_stop c of run m word at stop refused)
        where
          by_stop : (c : Setting) → IsSettingOf t k c → (run : List Pair) (m : Moment) (word : ℕ) → HasRun c now before run m → (stop : Stop) → Refuses s limit asked stop
              → StepsTo c now before worker word run m (Err stop)
          by_stop c of run m word at (ArenaFull live words) refused = known c of (λ x. ∣ record {
            event = machine.does (IsOfTheList.place (Known.action x));
            wants = wanted c x run m word at;
            meets = subst (λ n. Meets (machine_of c now) now.limits m (machine.does (IsOfTheList.place (Known.action x))) (play.arena_full n words)) (sym at.standing.live ∙ ap pos (sym refused.0))
                (subst (λ n. Meets (machine_of c now) now.limits m (machine.does (IsOfTheList.place (Known.action x))) (play.arena_full (live_at (list_of c) m) n)) (all_asked c (Known.action x) (some x) ∙ sym refused.1)
                (no_words (IsOfTheList.place (Known.action x)) (some x, above x)));
            stands = at;
          } ∣₁)
            where
              some : (x : Known c) → 0 < words_taken (action_at (list_of c) (IsOfTheList.place (Known.action x)))
              some x = let is = taken_here c (Known.action x) in let p = refused.3 in omega (arith, is, p)

              above : (x : Known c) → pos s.pool.capacity <ℤ (live_at (list_of c) m +ℤ pos (words_at (list_of c) (IsOfTheList.place (Known.action x))))
              above x = let full = refused.2 in let is = all_asked c (Known.action x) (some x) in let live = at.standing.live in omega (arith, ints, full, is, live)
          by_stop c of run m word at (DequesFull deques) refused = absurd refused
          by_stop c of run m word at (StepsSpent most) refused = known c of (λ x. ∣ record {
            event = machine.does (IsOfTheList.place (Known.action x));
            wants = wanted c x run m word at;
            meets = subst (λ n. Meets (machine_of c now) now.limits m (machine.does (IsOfTheList.place (Known.action x))) (play.steps_spent n)) (sym refused.0)
                (no_steps (IsOfTheList.place (Known.action x))
                (λ fills. let is = all_asked c (Known.action x) fills.0 in let over = fills.1 in let room = refused.1 in let live = at.standing.live in absurd (omega (arith, ints, is, over, room, live)))
                (let spent = refused.2 in let done = at.done in omega (arith, spent, done)));
            stands = at;
          } ∣₁)
          by_stop c of run m word at OutOfMemory refused = absurd refused

  -- ---- the deque was given up, since the quota covers no more
  pub gave_up_comes : (after : Scheduler) → LeavesDeque worker id top s after
      → ((c : Setting) → IsSettingOf t k c → (i : IsOfTheList c top next) → (period : Period) → period_at s.table worker ≡ Some period
      → c.quota < period.used + charge c.quota (deed_of top next) (words_at (list_of c) i.place))
      → Comes t k limit worker before s after (Ok (events.GaveUp id))
  gave_up_comes after leaves over = comes_by t k limit s stands top (b.sound items stands) (b.points items stands) after leaves.same.keeps (events.GaveUp id)
      (λ none o. leaves.in_order items stands none o) (λ p. leaves.points t k items stands p)
      (λ p r. gave_up_results t k limit s stands top (b.sound items stands) after leaves r)
      (λ c of run m word at. known c of (λ x.
      let i = x.action in
      let period = its_period s stands top x.order in
      let same : ◌≡◌ {A = ℕ} (charge_at c.quota (list_of c) i.place) (charge c.quota (deed_of top next) (words_at (list_of c) i.place)) = ap (λ d. charge c.quota d (words_at (list_of c) i.place)) i.deed in
      let more = over c of i period.0 period.1 in
      ∣ gave_up_goes_on c now (quota_is t k c of (b.sound items stands).quota) before (held after) run m at worker word
      (period_there s stands top period.0 period.1) i.place (deed_of top next) (next_actions_stand c top next i) (omega (arith, same, more)) id
      (gave_up_at t k limit s stands top (b.sound items stands) after leaves c of x.order run m at) ∣₁))

-- ---- a thread waits

module _ (t : Table) (k limit : ℕ) (s : Scheduler) {worker : ℕ} {id : DequeId} (top : Thread) (child : ThreadId) (b : IsBeforeAction t k limit s worker id top (nexts.Join child))
    (missing : is_delivered child (children_of top) ≡ false) (none : kept_under s.results child ≡ None) where
  -- it is alone in its deque
  pub alone : (items : List Thread) (stands : Stands s.list worker id items) → items ≡ []
  alone items stands = nil_from_length items (∥∥₁_elim (b.sound items stands).of_program (search props) (λ p. ∥∥₁_elim ((b.sound items stands).somewhere p.0 p.1) (search props) (λ a.
      ∥∥₁_elim (b.of_the_list p.0 p.1) (search props) (λ i. ∥∥₁_elim (b.sound items stands).in_order (search props) (λ o.
      ap length (waits_alone s stands top p.0 (terms_of s limit) (quota_is t k p.0 p.1 (b.sound items stands).quota) a.0 a.1 a.2 child i b.newest o missing none))))))

  -- and no other waits for the child
  pub nobody_waits : (items : List Thread) (stands : Stands s.list worker id items) → kept_under s.waiting child ≡ None
  nobody_waits items stands = by_found (kept_under s.waiting child) refl
    where
      by_found : (found : Option Thread) → kept_under s.waiting child ≡ found → found ≡ None
      by_found None is = refl
      by_found (Some x) is = absurd (∥∥₁_elim (b.sound items stands).of_program (λ x y. absurd x) (λ p. ∥∥₁_elim ((b.sound items stands).somewhere p.0 p.1) (λ x y. absurd x) (λ a.
          ∥∥₁_elim (b.of_the_list p.0 p.1) (λ x y. absurd x) (λ i. ∥∥₁_elim (b.sound items stands).in_order (λ x y. absurd x) (λ o.
          none-some x (sym (not_waited s stands top p.0 (terms_of s limit) (quota_is t k p.0 p.1 (b.sound items stands).quota) a.0 a.1 a.2 child i b.newest o) ∙ is))))))

  module _ (stands : Stands s.list worker id []) (after : Scheduler) (leaves : LeavesList worker id top child s after) where
    waited_at : (c : Setting) → IsSettingOf t k c → (i : IsOfTheList c top (nexts.Join child)) → IsInOrder (held_under s stands top) → (run : List Pair) (m : Moment) (word : ℕ)
        → HasRun c (terms_of s limit) (held_under s stands top) run m → GoesOn c (terms_of s limit) (held after) worker word run m (events.Suspended (Thread.id top))
    waited_at c of i o run m word at =
        let quota = quota_is t k c of (b.sound [] stands).quota in
        let period = its_period s stands top o in
        let x = newest_child s stands top c (terms_of s limit) quota run m at child i b.newest o in
        let w = leaves.suspends stands (list_of c) period.0 i.place x.0 x.1 period.1 (joins_it s stands top c (terms_of s limit) quota run m at child i b.newest o) x.2
        (sym (told_newest s stands top c (terms_of s limit) quota run m at child i b.newest o) ∙ missing)
        (subst (λ y. Each (λ r. parts.Result.id r ≢ y) (parts.Parts.results (parts_in (held s)))) (sym x.3) (unkept s stands top c (terms_of s limit) quota run m at child i b.newest o none)) in
        waited_goes_on c (terms_of s limit) quota (held_under s stands top) (held after) run m at worker word w.0 w.1 w.2
        (record { live = ap (λ r. r.live) leaves.same.pool; moves = ap moves_list leaves.same.moves; done = leaves.same.done; begun = leaves.begun ∙ none_more s.table.begun })
        (period_there s stands top period.0 period.1) (Thread.id top) refl
      where
        none_more : (n : ℕ) → n ≡ n + 0
        none_more n = omega arith

    under_child : IsInOrder (held_under s stands top) → ∥ WaitsUnder (child, top) ∥₁
    under_child o = ∥∥₁_elim (b.sound [] stands).of_program ∥∥₁_prop (λ p. ∥∥₁_elim ((b.sound [] stands).somewhere p.0 p.1) ∥∥₁_prop (λ a. ∥∥₁_map (b.of_the_list p.0 p.1) (λ i.
        newest_child s stands top p.0 (terms_of s limit) (quota_is t k p.0 p.1 (b.sound [] stands).quota) a.0 a.1 a.2 child i b.newest o)))

    pub waited_comes : Comes t k limit worker (held_under s stands top) s after (Ok (events.Suspended (Thread.id top)))
    waited_comes = comes_in t k limit s stands top (b.sound [] stands) (b.points [] stands) after leaves.same.keeps (events.Suspended (Thread.id top))
        (λ none o. ∥∥₁_map (under_child o) (λ under. leaves.in_order stands none under o)) (λ p. leaves.points t k stands p)
        (λ p r. subst (λ rs. Each (λ e. IsResult t k e.1) rs.entries) (sym leaves.same.results) r)
        (λ c of run m word at. ∥∥₁_elim (b.of_the_list c of) ∥∥₁_prop (λ i. ∥∥₁_map (b.sound [] stands).in_order (λ o. waited_at c of i o run m word at)))

-- what is no Join
abbrev pub is_join : Deed → Bool
is_join (forks child) = false
is_join (joins child) = true
is_join allocates = false
is_join releases = false
is_join dummy = false
is_join faults = false
is_join ends = false

pub no_join_by : (deed : Deed) (child : ℕ) → is_join deed ≡ false → deed ≡ joins child → ⊥
no_join_by deed child other is = true≢false (sym (ap is_join is) ∙ other)

-- ---- bounds, at whatever moment it is

module _ (t : Table) (k limit : ℕ) (s : Scheduler) {worker : ℕ} {id : DequeId} {items : List Thread} (stands : Stands s.list worker id items) (top : Thread) (next : Next)
    (b : IsBeforeAction t k limit s worker id top next) where
  -- the period has taken no more than the quota
  pub used_within_quota : (c : Setting) → IsSettingOf t k c → (period : Period) → period_at s.table worker ≡ Some period → period.used + 0 ≤ c.quota
  used_within_quota c of period is = ∥∥₁_elim ((b.sound items stands).somewhere c of) (search props) (λ a.
      let used = used_within s stands top c (terms_of s limit) (quota_is t k c of (b.sound items stands).quota) a.0 a.1 a.2 period is in omega (arith, used))

  -- the words of the thread are out
  pub words_out : thread_words top ≤ s.pool.live
  words_out = ∥∥₁_elim (b.sound items stands).of_program (search props) (λ p. ∥∥₁_elim ((b.sound items stands).somewhere p.0 p.1) (search props) (λ a.
      words_within s stands top p.0 (terms_of s limit) (quota_is t k p.0 p.1 (b.sound items stands).quota) a.0 a.1 a.2))

  pub joins_within : join_words_of top ≤ s.pool.live
  joins_within = let own = words_out in let few = join_within top in omega (arith, own, few)

  -- an Alloc that may come leaves the period within its quota
  pub alloc_within : (c : Setting) → IsSettingOf t k c → (period : Period) → period_at s.table worker ≡ Some period → (charged words at_place : ℕ) → at_place ≡ words
      → AllocIsCharged charged k period words → period.used + charge c.quota allocates at_place ≤ c.quota
  alloc_within c of period is charged words at_place same may =
      let used = used_within_quota c of period is in
      subst (λ w. period.used + charge c.quota allocates w ≤ c.quota) (sym same)
      (subst (λ q. period.used + charge q allocates words ≤ q) (sym of.quota) (elim may.0 [
        | inl fits ↦ let all = ap (λ b. cond b words 0) (le-leb words k fits.0) in let within = fits.1 in omega (arith, all, within)
        | inr above ↦ let none = ap (λ b. cond b words 0) (above_is_false words k above) in let quota = of.quota in omega (arith, none, used, quota)
      ]))
    where
      above_is_false : (a b : ℕ) → b < a → nat_le a b ≡ false
      above_is_false a b above = lt-leb a b above

module _ (t : Table) (k limit : ℕ) (s : Scheduler) {worker : ℕ} {id : DequeId} {items : List Thread} (stands : Stands s.list worker id items) (top : Thread) (next : Next)
    (b : IsBeforeAction t k limit s worker id top next) where
  -- no result is kept under the id of the thread
  pub no_result : kept_under s.results (Thread.id top) ≡ None
  no_result = by_found (kept_under s.results (Thread.id top)) refl
    where
      by_found : (found : Option Ended) → kept_under s.results (Thread.id top) ≡ found → found ≡ None
      by_found None is = refl
      by_found (Some x) is = absurd (∥∥₁_elim (b.sound items stands).of_program (λ x y. absurd x) (λ p. ∥∥₁_elim ((b.sound items stands).somewhere p.0 p.1) (λ x y. absurd x) (λ a.
          ∥∥₁_elim (b.of_the_list p.0 p.1) (λ x y. absurd x) (λ i. ∥∥₁_elim (b.sound items stands).in_order (λ x y. absurd x) (λ o.
          none-some x (sym (not_kept s stands top p.0 (terms_of s limit) (quota_is t k p.0 p.1 (b.sound items stands).quota) a.0 a.1 a.2 next i o) ∙ is))))))

-- what is there
pub some_there : {A : Type 0} (o : Option A) → IsSome o → (x : A) × (o ≡ Some x)
some_there None there = absurd (true≢false (sym there))
some_there (Some x) there = (x, refl)

-- a fact of a deque with nothing below its top
pub only_empty : (s : Scheduler) {worker : ℕ} {id : DequeId} (P : (items : List Thread) → Stands s.list worker id items → Type 0) → ((stands : Stands s.list worker id []) → P [] stands)
    → (items : List Thread) (stands : Stands s.list worker id items) → items ≡ [] → P items stands
only_empty s P f [] stands is = f stands
only_empty s P f (x ∷ xs) stands is = absurd (cons_is_not_nil x xs is)
