-- What a theft keeps, and what it is in a run of the machine.
use Rattle.std.proofs.Common.{◌≡◌, ◌≢◌, ℕ, ◌≤◌, ◌<◌, List, [], ◌∷◌, ◌++◌, length, inr, refl, sym, ap, subst, ◌∙◌, arith}
use Rattle.std.proofs.Math.Logic.{∥∥₁_map, ∥∥₁_elim, ∥∥₁_prop}
use Rattle.std.specs.Prelude.{None, Some, Ok, slice_get, pos}
use Rattle.std.proofs.lemmas.List.Sorted.{IsPermutation-refl}
use Rattle.std.proofs.lemmas.Option.{none-some, same_Some}
use Rattle.deque_list.specs.declared.deque_id.DequeId.{DequeId}
use Rattle.deque_list.specs.Deques.{Deque}
use Rattle.depth_first_list.specs.Actions.{record_words}
use Rattle.depth_first_run.specs.States.{Setting}
use Rattle.depth_first_run.proofs.Built.{whole_is_depth_first}
use Rattle.open_periods.specs.Passed.Lists.{Each}
use Rattle.open_periods.proofs.Passed.Lists.{each_left, each_right, each_join, each_at, each_change}
use Rattle.open_periods.specs.Passed.Moments.{Moment, owned_by}
use Rattle.open_periods.specs.Passed.Machine as machine
use Rattle.open_periods.specs.Passed.Play as play
use Rattle.open_periods.specs.Passed.Play.{IsFirst, IsReady, Meets, reach, no_deque}
use Rattle.open_periods.specs.Passed.DequeMachineRuns.{Pair}
use Rattle.open_periods.proofs.Passed.Movers.{mover_wants}
use Rattle.space_ledger.specs.Sums.{total_change}
use Rattle.node_table.specs.Table.{Table}
use Rattle.open_periods.specs.declared.table.PeriodTable.{PeriodTable}
use Rattle.open_periods.specs.Tables.{seat_at, deque_at, deque_of}
use Rattle.scheduler_state.specs.Passed.Settings.{IsSettingOf}
use Rattle.thread_frames.specs.declared.thread.Thread.{Thread}
use Rattle.thread_frames.specs.Points.{IsAtPoint, IsResult}
use Rattle.thread_frames.specs.Shown.{thread_shown}
use Rattle.moment_shown.specs.Parts.{Parts}
use Rattle.list_changes.specs.Seats.{TakesSeat}
use Rattle.list_changes.specs.Shown.{deque_with}
use Rattle.play_rules.specs.Choices.{IsReadyAt, reach_of}
use Rattle.scheduler_state.proofs.Passed.Ready.{first_is_shown, owners_are_shown}
use Rattle.scheduler_state.specs.declared.event.Event.{Event}
use Rattle.scheduler_state.specs.declared.event.Event.TheVariants.{Stole, Acted, Suspended, GaveUp}
use Rattle.play_rules.specs.declared.stop.Stop.{Stop}
use Rattle.play_rules.specs.declared.stop.Stop.TheVariants.{ArenaFull, DequesFull, StepsSpent, OutOfMemory}
use Rattle.scheduler_state.specs.declared.scheduler.Scheduler.{Scheduler}
use Rattle.scheduler_state.specs.Passed.Orders.{AreSame}
use Rattle.scheduler_state.specs.Held.{Held, held, parts_in, OwnersSit, IsInOrder, AreAtPoints}
use Rattle.thread_frames.specs.Kept.{WaitsUnder, IsUnderItsId}
use Rattle.scheduler_state.specs.Moments.{HasRun, IsSound, CanGoOn, SameTerms, terms_of}
use Rattle.open_periods.specs.Passed.Terms.{machine_of}
use Rattle.scheduler_state.specs.Outcomes.{GoesOn, Stops, StopsBy}
use Rattle.scheduler_state.proofs.Leaving.{IsIdle, stole_goes_on}
use Rattle.worker_step.specs.Thefts.{Theft, takes_bottom, takes_deque, Robs, StaysAt, StopsTheft, OnlyMemory, Thieves}
use Rattle.worker_step.proofs.Wanting.{theft_of, shown_as, same_length, shown_at, shown_stays, id_of_thief, has_room, full_at, stays_in_list}
use Rattle.play_rules.proofs.Firsts.{one_first, first_below}

-- an idle worker owns no deque
pub unowned : (table : PeriodTable) (worker : ℕ) → seat_at table worker ≡ None → (deques : List (Deque Thread)) → OwnersSit table deques
    → Each (λ deque. Deque.owner deque ≢ Some worker) deques
unowned table worker idle [] sit = tt
unowned table worker idle (d ∷ deques) sit = (λ is. none-some (Deque.id d) (sym (ap deque_of idle) ∙ sit.0 worker is), unowned table worker idle deques sit.1)

-- the others stay at their deques
others_sit : (worker : ℕ) (id : DequeId) (before after : PeriodTable) → TakesSeat worker id before after → (deques : List (Deque Thread))
    → Each (λ deque. Deque.owner deque ≢ Some worker) deques → OwnersSit before deques → OwnersSit after deques
others_sit worker id before after seats [] none sit = tt
others_sit worker id before after seats (d ∷ deques) none sit = (
  λ w owner. seats.others w (λ same. none.0 (owner ∙ ap Some same)) ∙ sit.0 w owner,
  others_sit worker id before after seats deques none.1 sit.1,
)

-- two deques come for one
two_for_one : (P : Deque Thread → Type 0) (left : List (Deque Thread)) (x y z : Deque Thread) (right : List (Deque Thread)) → Each P (left ++ x ∷ right) → P y → P z
    → Each P (left ++ y ∷ z ∷ right)
two_for_one P left x y z right all first second = each_join P left (y ∷ z ∷ right) (each_left P left (x ∷ right) all) (first, (second, (each_right P left (x ∷ right) all).1))

-- the thief sits at its deque
thief_sits : (worker : ℕ) (id : DequeId) (before after : PeriodTable) → TakesSeat worker id before after → (w : ℕ) → Some worker ≡ Some w → deque_at after w ≡ Some id
thief_sits worker id before after seats w is = subst (λ x. deque_at after x ≡ Some id) (same_Some worker w is) seats.taken

sit_behind : (worker most place : ℕ) (id : DequeId) (table after : PeriodTable) (deques next : List (Deque Thread)) → TakesSeat worker id table after
    → OwnersSit after deques → Theft worker most deques next place id → OwnersSit after next
sit_behind worker most place id table after deques next seats sit (takes_bottom left right victim owner first others bottom new is becomes free few) =
    let P : Deque Thread → Type 0 = λ d. (w : ℕ) → Deque.owner d ≡ Some w → deque_at after w ≡ Some (Deque.id d) in
    let all = subst (OwnersSit after) is sit in
    subst (OwnersSit after) (sym becomes)
    (two_for_one P left (deque_with victim owner (first ∷ (others ++ bottom ∷ []))) (deque_with victim owner (first ∷ others)) (deque_with new (Some worker) (bottom ∷ [])) right all
    (each_at P left (deque_with victim owner (first ∷ (others ++ bottom ∷ []))) right all) (thief_sits worker new table after seats))
sit_behind worker most place id table after deques next seats sit (takes_deque left right victim thread is becomes) =
    let P : Deque Thread → Type 0 = λ d. (w : ℕ) → Deque.owner d ≡ Some w → deque_at after w ≡ Some (Deque.id d) in
    subst (OwnersSit after) (sym becomes)
    (each_change P left (deque_with victim None (thread ∷ [])) (deque_with victim (Some worker) (thread ∷ [])) right (subst (OwnersSit after) is sit)
    (thief_sits worker victim table after seats))

-- the same threads stand in the deques
threads_stay : (Q : Thread → Type 0) (worker most place : ℕ) (id : DequeId) (deques next : List (Deque Thread)) → Each (λ deque. Each Q (Deque.items deque)) deques
    → Theft worker most deques next place id → Each (λ deque. Each Q (Deque.items deque)) next
threads_stay Q worker most place id deques next each (takes_bottom left right victim owner first others bottom new is becomes free few) =
    let P : Deque Thread → Type 0 = λ d. Each Q (Deque.items d) in
    let all = subst (Each P) is each in
    let here = each_at P left (deque_with victim owner (first ∷ (others ++ bottom ∷ []))) right all in
    subst (Each P) (sym becomes)
    (two_for_one P left (deque_with victim owner (first ∷ (others ++ bottom ∷ []))) (deque_with victim owner (first ∷ others)) (deque_with new (Some worker) (bottom ∷ [])) right all
    (here.0, each_left Q others (bottom ∷ []) here.1) (each_right Q others (bottom ∷ []) here.1))
threads_stay Q worker most place id deques next each (takes_deque left right victim thread is becomes) =
    let P : Deque Thread → Type 0 = λ d. Each Q (Deque.items d) in
    let all = subst (Each P) is each in
    subst (Each P) (sym becomes)
    (each_change P left (deque_with victim None (thread ∷ [])) (deque_with victim (Some worker) (thread ∷ [])) right all
    (each_at P left (deque_with victim None (thread ∷ [])) right all))

module _ (workers worker : ℕ) (before : Scheduler) (many : workers ≡ length before.table.seats.items) (within : worker < workers)
    (idle : seat_at before.table worker ≡ None) (word place : ℕ)
    (first : IsFirst (reach_of workers before.list.deques) word (IsReadyAt before.list.deques) place) where
  in_reach : place < length before.table.seats.items
  in_reach = let below = first_below (reach_of workers before.list.deques) word (IsReadyAt before.list.deques) place first in omega (arith, below, many)

  first_by_seats : IsFirst (reach_of (length before.table.seats.items) before.list.deques) word (IsReadyAt before.list.deques) place
  first_by_seats = subst (λ n. IsFirst (reach_of n before.list.deques) word (IsReadyAt before.list.deques) place) many first

  module _ (after : Scheduler) (id : DequeId) (number : ℕ) (robs : Robs worker place before after id number) where
    -- the terms stay
    terms_stay : SameTerms before after
    terms_stay limit = λ i. record {
      workers = robs.seats.workers i;
      limits = record { capacity = ap (λ p. p.capacity) robs.rest.pool i; actions = limit; deques = robs.rest.most i };
    }

    is_idle : IsIdle (held before) (held after) 1
    is_idle = record {
      live = ap (λ p. p.live) robs.rest.pool;
      moves = ap (λ ms. Rattle.space_ledger.specs.MovesList.moves_list ms) robs.rest.moves;
      done = robs.rest.done;
      begun = robs.seats.begun;
    }

    itself : AreSame (parts_in (held after)) (parts_in (held after))
    itself = record {
      deques = refl;
      waiting = IsPermutation-refl (Parts.waiting (parts_in (held after)));
      results = IsPermutation-refl (Parts.results (parts_in (held after)));
      periods = refl;
    }

    order_stays : IsInOrder (held before) → IsInOrder (held after)
    order_stays o =
        let none = unowned before.table worker idle before.list.deques o.owners in
        record {
          owners = sit_behind worker before.list.most place id before.table after.table before.list.deques after.list.deques robs.seats
              (others_sit worker id before.table after.table robs.seats before.list.deques none o.owners) robs.theft;
          waiting = subst (λ w. Each WaitsUnder w.entries) (sym robs.rest.waiting) o.waiting;
          results = subst (λ r. Each IsUnderItsId r.entries) (sym robs.rest.results) o.results;
        }

    points_stay : (t : Table) (k : ℕ) → AreAtPoints t k (held before) → AreAtPoints t k (held after)
    points_stay t k are = record {
      in_deques = threads_stay (IsAtPoint t k) worker before.list.most place id before.list.deques after.list.deques are.in_deques robs.theft;
      waiting = subst (λ w. Each (λ entry. IsAtPoint t k entry.1) w.entries) (sym robs.rest.waiting) are.waiting;
    }

    pub robbed_points : (t : Table) (k : ℕ) → CanGoOn t k (held before) → CanGoOn t k (held after)
    robbed_points t k can = ∥∥₁_map can (points_stay t k)

    module _ (t : Table) (k limit : ℕ) (sound : IsSound t k (terms_of before limit) (held before)) (c : Setting) (of : IsSettingOf t k c) where
      quota : record_words ≤ c.quota
      quota = subst (λ n. record_words ≤ n) (sym of.quota) sound.quota

      pub robbed_goes_on : (run : List Pair) (m : Moment) → HasRun c (terms_of before limit) (held before) run m
          → ∥ GoesOn c (terms_of before limit) (held after) worker word run m (Stole id number) ∥₁
      robbed_goes_on run m at = ∥∥₁_map sound.in_order (λ o.
          let none = unowned before.table worker idle before.list.deques o.owners in
          stole_goes_on c (terms_of before limit) quota (held before) (held after) run m at worker word place id (parts_in (held after))
          (robs.steals (length before.table.seats.items) (subst (λ n. worker < n) many within) none in_reach) itself is_idle
          ((owners_are_shown thread_shown before.list.deques m worker at.standing.shows.deques).1 none)
          (first_is_shown (machine_of c (terms_of before limit)) thread_shown before.list.deques m word place at.standing.shows.deques first_by_seats)
          (id_of_thief before.list.deques m at.standing.shows.deques worker before.list.most after.list.deques place id robs.theft)
          (has_room before.list.deques m at.standing.shows.deques worker before.list.most after.list.deques place id robs.theft)
          number robs.numbered)

    pub robbed_sound : (t : Table) (k limit : ℕ) → IsSound t k (terms_of before limit) (held before) → IsSound t k (terms_of after limit) (held after)
    robbed_sound t k limit sound = subst (λ terms. IsSound t k terms (held after)) (sym (terms_stay limit)) (record {
      of_program = sound.of_program;
      quota = sound.quota;
      in_order = ∥∥₁_map sound.in_order order_stays;
      sum = ap total_change is_idle.moves ∙ sound.sum ∙ ap pos (sym is_idle.live);
      results = ∥∥₁_map sound.results (λ are. subst (λ r. Each (λ entry. IsResult t k entry.1) r.entries) (sym robs.rest.results) are);
      somewhere = λ c of. ∥∥₁_elim (sound.somewhere c of) ∥∥₁_prop (λ x. ∥∥₁_map (robbed_goes_on t k limit sound c of x.0 x.1 x.2)
          (λ goes. (x.0 ++ record { worker = worker; event = goes.event } ∷ [], goes.next, goes.stands)));
    })

  -- where the list is full the theft that is wanted meets its stop
  module _ (t : Table) (k limit : ℕ) (sound : IsSound t k (terms_of before limit) (held before)) (c : Setting) (of : IsSettingOf t k c) where
    listed_quota : record_words ≤ c.quota
    listed_quota = subst (λ n. record_words ≤ n) (sym of.quota) sound.quota

    module _ (after : Held) (run : List Pair) (m : Moment) (at : HasRun c (terms_of before limit) (held before) run m)
        (still : HasRun c (terms_of before limit) after run m) where
      abbrev s : machine.Setting
      s = machine_of c (terms_of before limit)

      first_of_moment : IsFirst (reach s m) word (IsReady m) place
      first_of_moment = first_is_shown s thread_shown before.list.deques m word place at.standing.shows.deques first_by_seats

      stopped_at : owned_by worker m.deques ≡ 0 → length before.list.deques ≡ before.list.most → StaysAt before.list.deques place
          → Stops c (terms_of before limit) after worker word run m (play.deques_full before.list.most)
      stopped_at none full stays =
          let near = first_below (reach s m) word (IsReady m) place first_of_moment in
          let w = mover_wants s (whole_is_depth_first c) m at.standing.lawful worker word (inr (place, near, first_of_moment.passes)) in
          let theft = theft_of s m worker word w.0 none w.1 in
          let same : place ≡ theft.0 = one_first (reach s m) word (IsReady m) place theft.0 first_of_moment theft.3 in
          let many = same_length before.list.deques m at.standing.shows.deques in
          record {
            event = w.0;
            wants = w.1;
            meets = subst (λ e. Meets s (terms_of before limit).limits m e (play.deques_full before.list.most)) (sym theft.2)
                (no_deque theft.0 theft.1 (shown_as stays.0)
                (ap (slice_get m.deques) (sym same) ∙ shown_at before.list.deques m at.standing.shows.deques place stays.0 stays.1)
                (shown_stays before.list.deques m at.standing.shows.deques stays.0 stays.2) (omega (arith, full, many)));
            stands = still;
          }

      stops : (stop : Stop) → StopsTheft before.list place stop → StopsBy c (terms_of before limit) after worker word run m stop
      stops (ArenaFull live asked) none = absurd none
      stops (DequesFull deques) full = subst (λ n. ∥ Stops c (terms_of before limit) after worker word run m (play.deques_full n) ∥₁) (sym full.0)
          (∥∥₁_map sound.in_order (λ o. stopped_at
          ((owners_are_shown thread_shown before.list.deques m worker at.standing.shows.deques).1 (unowned before.table worker idle before.list.deques o.owners)) full.1 full.2))
      stops (StepsSpent limit) none = absurd none
      stops OutOfMemory room = (
        still,
        λ event deques wants meets. ∥∥₁_elim sound.in_order (λ x y. absurd x) (λ o.
            (let none = (owners_are_shown thread_shown before.list.deques m worker at.standing.shows.deques).1 (unowned before.table worker idle before.list.deques o.owners) in
            let theft = theft_of s m worker word event none wants in
            let same : place ≡ theft.0 = one_first (reach s m) word (IsReady m) place theft.0 first_of_moment theft.3 in
            let full = full_at s (terms_of before limit).limits m event deques meets theft.0 theft.1 theft.2 in
            let many = same_length before.list.deques m at.standing.shows.deques in
            let few = room (stays_in_list before.list.deques m at.standing.shows.deques place first_by_seats.passes full.0
            (ap (slice_get m.deques) same ∙ full.1) full.2) in
            let most = full.3 in omega (arith, most, few, many))),
      )

    pub stopped : (after : Scheduler) → OnlyMemory before after → (stop : Stop) → StopsTheft before.list place stop
        → (run : List Pair) (m : Moment) → HasRun c (terms_of before limit) (held before) run m → StopsBy c (terms_of before limit) (held after) worker word run m stop
    stopped after memory stop why run m at =
        stops (held after) run m at (subst (λ h. HasRun c (terms_of before limit) h run m) (sym memory.same) at) stop why

  -- what a theft comes to, whatever it is
  module _ (after : Scheduler) where
    pub sound_behind : (event : Event) → Thieves worker place before after (Ok event) → (t : Table) (k limit : ℕ) → IsSound t k (terms_of before limit) (held before)
        → IsSound t k (terms_of after limit) (held after)
    sound_behind (Stole id number) robs = robbed_sound after id number robs
    sound_behind (Acted id) none = absurd none
    sound_behind (Suspended id) none = absurd none
    sound_behind (GaveUp id) none = absurd none

    pub points_behind : (event : Event) → Thieves worker place before after (Ok event) → (t : Table) (k : ℕ) → CanGoOn t k (held before) → CanGoOn t k (held after)
    points_behind (Stole id number) robs = robbed_points after id number robs
    points_behind (Acted id) none = absurd none
    points_behind (Suspended id) none = absurd none
    points_behind (GaveUp id) none = absurd none

    pub steps_behind : (event : Event) → Thieves worker place before after (Ok event) → (t : Table) (k limit : ℕ) → IsSound t k (terms_of before limit) (held before)
        → (c : Setting) → IsSettingOf t k c → (run : List Pair) (m : Moment) → HasRun c (terms_of before limit) (held before) run m
        → ∥ GoesOn c (terms_of before limit) (held after) worker word run m event ∥₁
    steps_behind (Stole id number) robs = robbed_goes_on after id number robs
    steps_behind (Acted id) none = absurd none
    steps_behind (Suspended id) none = absurd none
    steps_behind (GaveUp id) none = absurd none
