-- What the End of a top thread comes to.
use Rattle.std.proofs.Common.{◌≡◌, ◌≢◌, ℕ, ◌<◌, ◌≤◌, List, [], ◌∷◌, ◌++◌, map, length, refl, sym, ap, subst, ◌∙◌, arith, true≢false}
use Rattle.std.specs.Prelude.{Bool, true, false, not, nat_lt, IsTrue, ◌↔◌, None, Some, pos}
use Rattle.std.proofs.lemmas.Bool.{lt-ltb}
use Rattle.std.specs.List.Sorted.{IsPermutation}
use Rattle.std.proofs.lemmas.List.{map-append}
use Rattle.std.proofs.lemmas.List.Sorted.{IsPermutation-refl, IsPermutation-map, IsPermutation-trans}
use Rattle.dag_order.specs.declared.thread_id.ThreadId.{ThreadId}
use Rattle.deque_list.specs.declared.deque_id.DequeId.{DequeId}
use Rattle.deque_list.specs.Deques.{Deque}
use Rattle.deque_list.specs.DequeLists.{ListView}
use Rattle.depth_first_list.specs.Facts.{words_at}
use Rattle.depth_first_run.specs.States.{Setting}
use Rattle.open_periods.specs.Passed.Lists.{Each}
use Rattle.open_periods.proofs.Passed.Lists.{each_at, same_head, cons_is_not_nil}
use Rattle.space_ledger.specs.declared.moved.Moved.{Moved}
use Rattle.node_table.specs.Table.{Table}
use Rattle.open_periods.specs.Periods.{Period, open_shown}
use Rattle.open_periods.specs.declared.seat.Seat.{Seat}
use Rattle.open_periods.specs.Tables.{period_at, periods_of, seat_at, deque_at, shown_of}
use Rattle.moment_shown.specs.Parts as parts
use Rattle.moment_shown.specs.Events.{Does, Works, deques_with, hands_over}
use Rattle.thread_map.specs.Kept.{kept_under}
use Rattle.depth_first_run.specs.Run.{list_of}
use Rattle.thread_frames.specs.Actions.{IsOfTheList}
use Rattle.thread_frames.specs.declared.next.Next.{Next}
use Rattle.thread_frames.specs.declared.next.Next.TheVariants as nexts
use Rattle.thread_frames.specs.declared.thread.Thread.{Thread}
use Rattle.thread_frames.specs.declared.ended.Ended.{Ended}
use Rattle.thread_frames.specs.Points.{IsAtPoint, IsResult}
use Rattle.thread_frames.specs.Children.{IsAwaited}
use Rattle.thread_frames.specs.Views.{label_of, children_of, ended_label}
use Rattle.scheduler_state.specs.Passed.Points.{words_at_end}
use Rattle.thread_frames.specs.Shown.{thread_shown, result_shown}
use Rattle.thread_frames.proofs.Threads.{deliveries_hand_over}
use Rattle.list_changes.specs.Shown.{deque_shown, deque_with, parts_of, Stands, Becomes}
use Rattle.list_changes.specs.Seats.{KeepsSeats, LeavesSeat}
use Rattle.thread_actions.specs.Acts.{Always, EndsAboveBy, EndsAndWakesBy, EndsAndLeavesBy}
use Rattle.scheduler_state.specs.declared.scheduler.Scheduler.{Scheduler}
use Rattle.scheduler_state.specs.Passed.Orders.{AreSame}
use Rattle.scheduler_state.specs.Passed.Standing.{Settles, as_they_are, handed_on}
use Rattle.scheduler_state.specs.Held.{Held, held, held_under, parts_in, IsReordered, OwnersSit, OwnsNone, IsInOrder, AreAtPoints, AreResults}
use Rattle.thread_frames.specs.Kept.{waiting_shown, result_kept, WaitsUnder, IsUnderItsId}
use Rattle.scheduler_state.proofs.Lists.{each_moved}
use Rattle.thread_frames.proofs.Found.{none_found}
use Rattle.scheduler_state.proofs.AtTop.{period_is_there, seat_of_deque}
use Rattle.worker_step.specs.Acts.{Acted, Performs}
use Rattle.worker_step.specs.Ends.{EndsBy}
use Rattle.thread_actions.specs.Results.{FirstAwaits}
use Rattle.worker_step.specs.Results.{ComesBelow}
use Rattle.worker_step.proofs.Places.{keep_sitting, leave_sitting, points_change, under_is}
use Rattle.worker_step.proofs.Acting.{as_it_is, performs_of, given_change}

-- what is held once the result is kept
abbrev pub with_result : Scheduler → ThreadId → Ended → Held
with_result s id ended = record (held s) { results = (id, ended) ∷ s.results.entries }

-- with the waiting threads in another order
in_order_of : (h : Held) (waiting : List (ThreadId × Thread)) → IsPermutation h.waiting waiting → IsReordered h (record h { waiting = waiting })
in_order_of h waiting moved = record {
  deques = refl;
  waiting = moved;
  results = IsPermutation-refl h.results;
  periods = refl;
  seats = λ w. refl;
  begun = refl;
  live = refl;
  moves = refl;
  done = refl;
}

module _ (worker : ℕ) (id : DequeId) (top : Thread) (before after : Scheduler) (ended : Ended) (its_id : Ended.id ended ≡ Thread.id top) (results : after.results ≡ before.results)
    (is_result : (t : Table) (k : ℕ) → IsAtPoint t k top → IsResult t k ended) where
  -- the results are in order, and results
  under_ids : Each IsUnderItsId before.results.entries → Each IsUnderItsId ((Thread.id top, ended) ∷ after.results.entries)
  under_ids all = (its_id, subst (λ r. Each IsUnderItsId r.entries) (sym results) all)

  all_results : (t : Table) (k : ℕ) (items : List Thread) (stands : Stands before.list worker id items) → AreAtPoints t k (held_under before stands top)
      → AreResults t k (held before) → AreResults t k (with_result after (Thread.id top) ended)
  all_results t k items stands are all = (
    is_result t k (each_at (λ d. Each (IsAtPoint t k) (Deque.items d)) stands.left (deque_with id (Some worker) (top ∷ items)) stands.right are.in_deques).0,
    subst (λ r. Each (λ e. IsResult t k e.1) r.entries) (sym results) all,
  )

  -- with the parent directly below, which has the result at once
  module _ (waiting : after.waiting ≡ before.waiting)
      (comes : (items : List Thread) (stands : Stands before.list worker id items) → ComesBelow worker id ended before.list after.list items stands)
      (acts : EndsAboveBy worker id top before.list before.table after.table ended) (seats : KeepsSeats before.table after.table) where
    module _ (items : List Thread) (stands : Stands before.list worker id items) where
      abbrev come : ComesBelow worker id ended before.list after.list items stands
      come = comes items stands

      -- the deques with the parent on top, as it was
      abbrev its : Stands before.list worker id (come.parent ∷ come.below)
      its = record { left = stands.left; right = stands.right; deques_are = stands.deques_are ∙ ap (λ xs. stands.left ++ deque_with id (Some worker) xs ∷ stands.right) come.items_are }

      abbrev kept_now : List parts.Result
      kept_now = map result_kept before.results.entries

      abbrev waiting_now : List parts.Thread
      waiting_now = map waiting_shown before.waiting.entries

      -- the parts where the result is kept, which nobody sees
      abbrev between : parts.Parts
      between = parts_of thread_shown waiting_now (result_shown ended ∷ kept_now) before.list after.table

      above_does : (c : Setting) (k : ℕ) (is : IsOfTheList c top nexts.End) (period : Period) → period_at before.table worker ≡ Some period
          → Does k (list_of c) (parts_in (held_under before stands top)) worker (IsOfTheList.place is) between
      above_does c k is period period_is =
          subst (λ p. Does k (list_of c) p worker (IsOfTheList.place is) between) (under_is before stands top)
          (subst (λ xs. Does k (list_of c) (record {
            deques = map (deque_shown thread_shown) stands.left ++ record { id = id.0; owner = Some worker; threads = thread_shown top ∷ map thread_shown xs } ∷ map (deque_shown thread_shown) stands.right;
            waiting = waiting_now;
            results = kept_now;
            periods = periods_of before.table;
          }) worker (IsOfTheList.place is) between) (sym come.items_are)
          (acts c k is come.parent come.below waiting_now kept_now its period period_is))

      -- the worker works on them
      module _ (o : IsInOrder (held_under before stands top)) where
        sits : deque_at after.table worker ≡ Some id
        sits = seats.deques worker ∙ each_at (λ d. (w : ℕ) → Deque.owner d ≡ Some w → deque_at before.table w ≡ Some (Deque.id d)) stands.left (deque_with id (Some worker) (top ∷ items)) stands.right o.owners worker refl

        its_seat : (there : Seat) × (seat_at after.table worker ≡ Some there)
        its_seat = seat_of_deque (seat_at after.table worker) id sits

        abbrev works_between : Works between worker
        works_between = record {
          left = map (deque_shown thread_shown) stands.left;
          id = id.0;
          top = thread_shown come.parent;
          under = map thread_shown come.below;
          right = map (deque_shown thread_shown) stands.right;
          period = open_shown worker its_seat.0.period;
          deques_are = ap (map (deque_shown thread_shown)) its.deques_are ∙ map-append (deque_shown thread_shown) stands.left (deque_with id (Some worker) (come.parent ∷ come.below) ∷ stands.right);
          period_there = period_is_there after.table worker (open_shown worker its_seat.0.period) (ap (shown_of worker) its_seat.1);
          open_for_it = refl;
        }

        settled : Settles worker between (parts_in (held after))
        settled =
            let over = deliveries_hand_over come.parent come.now ended come.awaited come.given.children in
            handed_on (record between { deques = deques_with works_between (Some worker) (thread_shown come.now ∷ map thread_shown come.below); results = kept_now })
            (hands_over works_between [] kept_now (result_shown ended) over.0 over.1 over.2 (thread_shown come.now) refl over.3 over.4
            come.given.same.id come.given.same.parent come.given.same.label come.given.same.func come.given.done over.5 come.given.words)
            (record {
              deques = ap (map (deque_shown thread_shown)) come.becomes.deques ∙ map-append (deque_shown thread_shown) stands.left (deque_with id (Some worker) (come.now ∷ come.below) ∷ stands.right);
              waiting = subst (λ w. IsPermutation waiting_now (map waiting_shown w.entries)) (sym waiting) (IsPermutation-refl waiting_now);
              results = subst (λ r. IsPermutation kept_now (map result_kept r.entries)) (sym results) (IsPermutation-refl kept_now);
              periods = refl;
            })

      above_points : (t : Table) (k : ℕ) → AreAtPoints t k (held_under before stands top) → Each (λ d. Each (IsAtPoint t k) (Deque.items d)) after.list.deques
      above_points t k are =
          let all = each_at (λ d. Each (IsAtPoint t k) (Deque.items d)) stands.left (deque_with id (Some worker) (top ∷ items)) stands.right are.in_deques in
          let below : Each (IsAtPoint t k) (come.parent ∷ come.below) = subst (Each (IsAtPoint t k)) come.items_are all.1 in
          subst (Each (λ d. Each (IsAtPoint t k) (Deque.items d))) (sym come.becomes.deques)
          (points_change t k stands.left stands.right (deque_with id (Some worker) (come.now ∷ come.below) ∷ []) (deque_with id (Some worker) (top ∷ items)) are.in_deques
          ((come.given.point t k below.0 (is_result t k all.0), below.1), tt))

    pub above_acted : Acted nexts.End Always worker id top before (held after)
    above_acted = record {
      does = λ items stands o c k is period period_is given. (
        held_under before stands top,
        as_it_is (held_under before stands top),
        between items stands,
        above_does items stands c k is period period_is,
        settled items stands o,
      );
      begun = seats.begun;
      in_order = λ items stands none o. record {
        owners = subst (OwnersSit after.table) (sym (comes items stands).becomes.deques)
            (keep_sitting before.table after.table worker id (top ∷ items) stands.left stands.right o.owners seats ((comes items stands).now ∷ (comes items stands).below));
        waiting = subst (λ w. Each WaitsUnder w.entries) (sym waiting) o.waiting;
        results = subst (λ r. Each IsUnderItsId r.entries) (sym results) o.results;
      };
      points = λ t k items stands are. record {
        in_deques = above_points items stands t k are;
        waiting = subst (λ w. Each (λ e. IsAtPoint t k e.1) w.entries) (sym waiting) are.waiting;
      };
      results = λ t k items stands are all. subst (λ r. Each (λ e. IsResult t k e.1) r.entries) (sym results) all;
    }

  -- alone in its deque
  module _ (alone : (items : List Thread) → Stands before.list worker id items → items ≡ []) where
    only : (P : (items : List Thread) → Stands before.list worker id items → Type 0) → ((stands : Stands before.list worker id []) → P [] stands)
        → (items : List Thread) (stands : Stands before.list worker id items) → P items stands
    only P f [] stands = f stands
    only P f (x ∷ xs) stands = absurd (cons_is_not_nil x xs (alone (x ∷ xs) stands))

    -- where the parent waited under its id
    module _ (parent : Thread) (taken : IsPermutation before.waiting.entries ((Thread.id top, parent) ∷ after.waiting.entries))
        (acts : EndsAndWakesBy worker id top parent before.list before.table after.list after.table ended)
        (becomes : (stands : Stands before.list worker id []) → Becomes stands after.list (deque_with id (Some worker) (parent ∷ []) ∷ []))
        (seats : KeepsSeats before.table after.table) where
      wakes_does : (stands : Stands before.list worker id []) → IsInOrder (held_under before stands top) → (c : Setting) (k : ℕ) (is : IsOfTheList c top nexts.End) (period : Period)
          → period_at before.table worker ≡ Some period
          → (one : Held) × IsReordered (held_under before stands top) one
          × (next : parts.Parts) × Does k (list_of c) (parts_in one) worker (IsOfTheList.place is) next × Settles worker next (parts_in (with_result after (Thread.id top) ended))
      wakes_does stands o c k is period period_is =
          let moved = each_moved WaitsUnder before.waiting.entries ((Thread.id top, parent) ∷ after.waiting.entries) taken o.waiting in
          let its = moved.0 in
          let rest : List parts.Thread = map waiting_shown after.waiting.entries in (
            record (held_under before stands top) { waiting = (Thread.id top, parent) ∷ after.waiting.entries },
            in_order_of (held_under before stands top) ((Thread.id top, parent) ∷ after.waiting.entries) taken,
            parts_of thread_shown rest (result_shown ended ∷ map result_kept before.results.entries) after.list after.table,
            subst (λ ds. Does k (list_of c) (record { deques = ds; waiting = thread_shown parent ∷ rest; results = map result_kept before.results.entries; periods = periods_of before.table }) worker (IsOfTheList.place is)
                (parts_of thread_shown rest (result_shown ended ∷ map result_kept before.results.entries) after.list after.table))
                (ap (λ p. parts.Parts.deques p) (under_is before stands top))
                (acts c k is [] rest (map result_kept before.results.entries) its.0 its.1 stands period period_is its.2 its.3),
            as_they_are (record {
              deques = refl;
              waiting = IsPermutation-refl rest;
              results = subst (λ r. IsPermutation (result_shown ended ∷ map result_kept before.results.entries) (result_shown ended ∷ map result_kept r.entries)) (sym results)
                  (IsPermutation-refl (result_shown ended ∷ map result_kept before.results.entries));
              periods = refl;
            }),
          )

      wakes_owners : (stands : Stands before.list worker id []) → IsInOrder (held_under before stands top) → OwnersSit after.table after.list.deques
      wakes_owners stands o = subst (OwnersSit after.table) (sym (becomes stands).deques)
          (keep_sitting before.table after.table worker id (top ∷ []) stands.left stands.right o.owners seats (parent ∷ []))

      moved_order : (o : Each WaitsUnder before.waiting.entries) → Each WaitsUnder after.waiting.entries
      moved_order o = (each_moved WaitsUnder before.waiting.entries ((Thread.id top, parent) ∷ after.waiting.entries) taken o).1

      moved_points : (t : Table) (k : ℕ) → Each (λ e. IsAtPoint t k e.1) before.waiting.entries → IsAtPoint t k parent × Each (λ e. IsAtPoint t k e.1) after.waiting.entries
      moved_points t k are = each_moved (λ e. IsAtPoint t k e.1) before.waiting.entries ((Thread.id top, parent) ∷ after.waiting.entries) taken are

      wakes_points : (t : Table) (k : ℕ) (stands : Stands before.list worker id []) → AreAtPoints t k (held_under before stands top) → Each (λ d. Each (IsAtPoint t k) (Deque.items d)) after.list.deques
      wakes_points t k stands are = subst (Each (λ d. Each (IsAtPoint t k) (Deque.items d))) (sym (becomes stands).deques)
          (points_change t k stands.left stands.right (deque_with id (Some worker) (parent ∷ []) ∷ []) (deque_with id (Some worker) (top ∷ [])) are.in_deques
          (((moved_points t k are.waiting).0, tt), tt))

      pub wakes_acted : Acted nexts.End Always worker id top before (with_result after (Thread.id top) ended)
      wakes_acted = record {
        does = only (λ items stands. IsInOrder (held_under before stands top) → (c : Setting) (k : ℕ) (is : IsOfTheList c top nexts.End) (period : Period)
            → period_at before.table worker ≡ Some period → Always k period (words_at (list_of c) (IsOfTheList.place is))
            → (one : Held) × IsReordered (held_under before stands top) one
            × (next : parts.Parts) × Does k (list_of c) (parts_in one) worker (IsOfTheList.place is) next × Settles worker next (parts_in (with_result after (Thread.id top) ended)))
            (λ stands o c k is period period_is given. wakes_does stands o c k is period period_is);
        begun = seats.begun;
        in_order = only (λ items stands. OwnsNone worker stands.left stands.right → IsInOrder (held_under before stands top) → IsInOrder (with_result after (Thread.id top) ended))
            (λ stands none o. record { owners = wakes_owners stands o; waiting = moved_order o.waiting; results = under_ids o.results });
        points = λ t k. only (λ items stands. AreAtPoints t k (held_under before stands top) → AreAtPoints t k (with_result after (Thread.id top) ended))
            (λ stands are. record { in_deques = wakes_points t k stands are; waiting = (moved_points t k are.waiting).1 });
        results = all_results;
      }

    -- where nobody waited
    module _ (waiting : after.waiting.entries ≡ before.waiting.entries) (nobody : kept_under before.waiting (Thread.id top) ≡ None)
        (acts : EndsAndLeavesBy worker id top before.list before.table after.list after.table ended)
        (becomes : (stands : Stands before.list worker id []) → Becomes stands after.list []) (seats : LeavesSeat worker before.table after.table) where
      -- nobody waits for it
      unawaited : (entries : List (ThreadId × Thread)) → Each WaitsUnder entries → Each (λ e. e.0 ≢ Thread.id top) entries
          → Each (λ x. (newest : parts.Child) (older : List parts.Child) → x.children ≡ newest ∷ older → Thread.parent top ≡ Some x.id → newest.id ≢ Thread.id top) (map waiting_shown entries)
      unawaited [] under others = tt
      unawaited (e ∷ entries) under others = (
        λ newest older children parent is. others.0 (sym (under.0).3 ∙ ap (λ x. parts.Child.id x) (same_head (under.0).0 newest (under.0).1 older (sym (under.0).2 ∙ children)) ∙ is),
        unawaited entries under.1 others.1,
      )

      leaves_does : (stands : Stands before.list worker id []) → IsInOrder (held_under before stands top) → (c : Setting) (k : ℕ) (is : IsOfTheList c top nexts.End) (period : Period)
          → period_at before.table worker ≡ Some period
          → (one : Held) × IsReordered (held_under before stands top) one
          × (next : parts.Parts) × Does k (list_of c) (parts_in one) worker (IsOfTheList.place is) next × Settles worker next (parts_in (with_result after (Thread.id top) ended))
      leaves_does stands o c k is period period_is = (
        held_under before stands top,
        as_it_is (held_under before stands top),
        parts_of thread_shown (map waiting_shown before.waiting.entries) (result_shown ended ∷ map result_kept before.results.entries) after.list after.table,
        subst (λ p. Does k (list_of c) p worker (IsOfTheList.place is)
            (parts_of thread_shown (map waiting_shown before.waiting.entries) (result_shown ended ∷ map result_kept before.results.entries) after.list after.table)) (under_is before stands top)
            (acts c k is (map waiting_shown before.waiting.entries) (map result_kept before.results.entries) stands period period_is
            (unawaited before.waiting.entries o.waiting (none_found (Thread.id top) before.waiting.entries nobody))),
        as_they_are (record {
          deques = refl;
          waiting = subst (λ w. IsPermutation (map waiting_shown before.waiting.entries) (map waiting_shown w)) (sym waiting) (IsPermutation-refl (map waiting_shown before.waiting.entries));
          results = subst (λ r. IsPermutation (result_shown ended ∷ map result_kept before.results.entries) (result_shown ended ∷ map result_kept r.entries)) (sym results)
              (IsPermutation-refl (result_shown ended ∷ map result_kept before.results.entries));
          periods = refl;
        }),
      )

      pub leaves_acted : Acted nexts.End Always worker id top before (with_result after (Thread.id top) ended)
      leaves_acted = record {
        does = only (λ items stands. IsInOrder (held_under before stands top) → (c : Setting) (k : ℕ) (is : IsOfTheList c top nexts.End) (period : Period)
            → period_at before.table worker ≡ Some period → Always k period (words_at (list_of c) (IsOfTheList.place is))
            → (one : Held) × IsReordered (held_under before stands top) one
            × (next : parts.Parts) × Does k (list_of c) (parts_in one) worker (IsOfTheList.place is) next × Settles worker next (parts_in (with_result after (Thread.id top) ended)))
            (λ stands o c k is period period_is given. leaves_does stands o c k is period period_is);
        begun = seats.begun;
        in_order = only (λ items stands. OwnsNone worker stands.left stands.right → IsInOrder (held_under before stands top) → IsInOrder (with_result after (Thread.id top) ended))
            (λ stands none o. record {
              owners = subst (OwnersSit after.table) (sym (becomes stands).deques)
                  (leave_sitting before.table after.table worker id (top ∷ []) stands.left stands.right o.owners seats none [] tt);
              waiting = subst (Each WaitsUnder) (sym waiting) o.waiting;
              results = under_ids o.results;
            });
        points = λ t k. only (λ items stands. AreAtPoints t k (held_under before stands top) → AreAtPoints t k (with_result after (Thread.id top) ended))
            (λ stands are. record {
              in_deques = subst (Each (λ d. Each (IsAtPoint t k) (Deque.items d))) (sym (becomes stands).deques)
                  (points_change t k stands.left stands.right [] (deque_with id (Some worker) (top ∷ [])) are.in_deques tt);
              waiting = subst (Each (λ e. IsAtPoint t k e.1)) (sym waiting) are.waiting;
            });
        results = all_results;
      }

-- the results in another order, with other counts
same_moved : (parts_were : parts.Parts) (after : Held) (results : List (ThreadId × Ended)) (moves : List Moved) (done : ℕ) → IsPermutation after.results results
    → AreSame parts_were (parts_in after) → AreSame parts_were (parts_in (record after { results = results; moves = moves; done = done }))
same_moved parts_were after results moves done moved same = record {
  deques = same.deques;
  waiting = same.waiting;
  results = IsPermutation-trans (parts.Parts.results parts_were) (map result_kept after.results) (map result_kept results) same.results (IsPermutation-map result_kept after.results results moved);
  periods = same.periods;
}

settles_moved : (worker : ℕ) (parts_were : parts.Parts) (after : Held) (results : List (ThreadId × Ended)) (moves : List Moved) (done : ℕ) → IsPermutation after.results results
    → Settles worker parts_were (parts_in after) → Settles worker parts_were (parts_in (record after { results = results; moves = moves; done = done }))
settles_moved worker parts_were after results moves done moved (as_they_are same) = as_they_are (same_moved parts_were after results moves done moved same)
settles_moved worker parts_were after results moves done moved (handed_on next hands same) = handed_on next hands (same_moved next after results moves done moved same)

pub acted_moved : (next : Next) (Where : ℕ → Period → ℕ → Type 0) (worker : ℕ) (id : DequeId) (top : Thread) (before : Scheduler) (after : Held)
    (results : List (ThreadId × Ended)) (moves : List Moved) (done : ℕ) → IsPermutation after.results results → Acted next Where worker id top before after
    → Acted next Where worker id top before (record after { results = results; moves = moves; done = done })
acted_moved next Where worker id top before after results moves done moved a = record {
  does = λ items stands o c k is period period_is given.
      let d = a.does items stands o c k is period period_is given in
      (d.0, d.1, d.2, d.3, settles_moved worker d.2 after results moves done moved d.4);
  begun = a.begun;
  in_order = λ items stands none o. let was = a.in_order items stands none o in
      record { owners = was.owners; waiting = was.waiting; results = each_moved IsUnderItsId after.results results moved was.results };
  points = λ t k items stands are. let was = a.points t k items stands are in record { in_deques = was.in_deques; waiting = was.waiting };
  results = λ t k items stands are all. each_moved (λ e. IsResult t k e.1) after.results results moved (a.results t k items stands are all);
}

-- a thread with a label was forked
pub forked_is : (b : Bool) (label : List ℕ) → IsTrue b ↔ (label ≡ []) → not b ≡ nat_lt 0 (length label)
forked_is true [] is = refl
forked_is false [] is = absurd (true≢false (sym (is.1 refl)))
forked_is true (x ∷ xs) is = absurd (cons_is_not_nil x xs (is.0 refl))
forked_is false (x ∷ xs) is = sym (lt-ltb 0 (length (x ∷ xs)) (omega arith))

-- where there is a thread below, it is the parent, which waits
pub below_awaits : (list : ListView Thread) (worker : ℕ) (id : DequeId) (top : Thread) (items : List Thread) (stands : Stands list worker id items) → 0 < length items → FirstAwaits top items
    → (ended : Ended) → ended.id ≡ Thread.id top → ended_label ended ≡ label_of top → ended.func ≡ Thread.func top
    → (parent : Thread) × (below : List Thread) × Stands list worker id (parent ∷ below) × IsAwaited (label_of parent) ended (children_of parent)
below_awaits list worker id top [] stands some first ended is label func = absurd (omega (arith, some))
below_awaits list worker id top (parent ∷ below) stands some first ended is label func = (parent, below, stands, first ended is label func)

-- an End that was done is not counted or noted yet
pub end_performs : (worker : ℕ) (id : DequeId) (top : Thread) (before after : Scheduler) → EndsBy worker id top before after → words_at_end (label_of top) ≤ before.pool.live
    → (is_forked : Bool) → is_forked ≡ nat_lt 0 (length (label_of top)) → Performs nexts.End Always worker id top before after is_forked
end_performs worker id top before after ends few is_forked is =
    performs_of nexts.End Always worker id top before after ends.acted (words_at_end (label_of top)) (λ w told. told)
    (ap (λ r. pos r.live) ends.pool ∙ given_change before.pool.live (words_at_end (label_of top)) few) is_forked is ends.same_moves ends.same_done
    (ap (λ t. t.workers) (ends.keeps.terms 0)) (ap (λ r. r.capacity) ends.pool) (ap (λ t. t.limits.deques) (ends.keeps.terms 0)) ends.keeps.spare
