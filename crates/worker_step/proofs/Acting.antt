-- What an action comes to, out of what the calls below tell.
use Rattle.std.proofs.Common.{◌≡◌, ℕ, ◌+◌, ◌-◌, ◌≤◌, List, [], ◌∷◌, map, length, refl, sym, ap, subst, ◌∙◌, arith, true≢false}
use Rattle.std.proofs.lemmas.Int.{ints}
use Rattle.std.specs.Prelude.{Bool, IsTrue, is_some, Option, None, Some, pos, neg_ℤ, ◌+ℤ◌}
use Rattle.std.proofs.lemmas.List.Sorted.{IsPermutation-refl}
use Rattle.deque_list.specs.declared.deque_id.DequeId.{DequeId}
use Rattle.deque_list.specs.Deques.{Deque}
use Rattle.depth_first_list.specs.Facts.{words_at}
use Rattle.depth_first_run.specs.States.{Setting}
use Rattle.open_periods.specs.Passed.Lists.{Each}
use Rattle.open_periods.proofs.Passed.Lists.{each_at}
use Rattle.node_table.specs.Table.{Table}
use Rattle.open_periods.specs.Periods.{Period}
use Rattle.open_periods.specs.Tables.{period_at}
use Rattle.moment_shown.specs.Parts as parts
use Rattle.moment_shown.specs.Events.{Does}
use Rattle.depth_first_run.specs.Run.{list_of}
use Rattle.thread_frames.specs.Actions.{IsOfTheList, TellsWords, TellsJoin, deed_of, is_there}
use Rattle.thread_frames.specs.declared.open_child.OpenChild.{OpenChild}
use Rattle.thread_frames.specs.Views.{label_of, children_of, child_shown, newest, result_of, released_by, join_words_of}
use Rattle.thread_frames.specs.declared.next.Next.{Next}
use Rattle.thread_frames.specs.declared.thread.Thread.{Thread}
use Rattle.thread_frames.specs.declared.ended.Ended.{Ended}
use Rattle.thread_frames.specs.Points.{IsAtPoint, IsResult}
use Rattle.thread_frames.specs.Shown.{thread_shown}
use Rattle.list_changes.specs.Shown.{deque_with, Stands, parts_under}
use Rattle.list_changes.specs.Seats.{KeepsSeats, LeavesSeat}
use Rattle.thread_actions.specs.Acts.{ActsBy, GoesBack, GoesBackUnowned, GoesBackWithChild}
use Rattle.scheduler_state.specs.declared.scheduler.Scheduler.{Scheduler}
use Rattle.scheduler_state.specs.Passed.Standing.{Settles, as_they_are}
use Rattle.scheduler_state.proofs.Passed.Standing.{the_same}
use Rattle.scheduler_state.specs.Held.{Held, held, held_under, parts_in, IsReordered, OwnersSit, IsInOrder, AreAtPoints, AreResults}
use Rattle.thread_frames.specs.Kept.{waiting_shown, result_kept}
use Rattle.depth_first_list.specs.Actions.{weight_of}
use Rattle.open_periods.specs.Passed.DequeMachineRuns.{moves_words}
use Rattle.worker_step.specs.Acts.{Acted, Performs}
use Rattle.worker_step.specs.Keeping.{KeepsRoom}
use Rattle.worker_step.proofs.Places.{keep_sitting, leave_sitting, points_change, under_is}

-- nothing in another order
pub as_it_is : (h : Held) → IsReordered h h
as_it_is h = record {
  deques = refl;
  waiting = IsPermutation-refl h.waiting;
  results = IsPermutation-refl h.results;
  periods = refl;
  seats = λ w. refl;
  begun = refl;
  live = refl;
  moves = refl;
  done = refl;
}

-- what is the same behind an action that neither wakes nor ends a thread
pub record IsAside (before after : Scheduler) : Type 0 where
  pub waiting : after.waiting ≡ before.waiting
  pub results : after.results ≡ before.results

module _ (next : Next) (Where : ℕ → Period → ℕ → Type 0) (worker : ℕ) (id : DequeId) (top : Thread) (before after : Scheduler)
    (acts : ActsBy next worker id top before.list before.table after.list after.table Where) (aside : IsAside before after) where
  does_it : (items : List Thread) (stands : Stands before.list worker id items) (c : Setting) (k : ℕ) (is : IsOfTheList c top next) (period : Period)
      → period_at before.table worker ≡ Some period → Where k period (words_at (list_of c) (IsOfTheList.place is))
      → (first : Held) × IsReordered (held_under before stands top) first
      × (next_parts : parts.Parts) × Does k (list_of c) (parts_in first) worker (IsOfTheList.place is) next_parts × Settles worker next_parts (parts_in (held after))
  does_it items stands c k is period period_is given = (
    held_under before stands top,
    as_it_is (held_under before stands top),
    parts_in (held after),
    subst (λ p. Does k (list_of c) p worker (IsOfTheList.place is) (parts_in (held after))) (under_is before stands top)
        (subst (λ w. Does k (list_of c) (parts_under thread_shown (map waiting_shown before.waiting.entries) (map result_kept before.results.entries) stands before.table (thread_shown top)) worker (IsOfTheList.place is)
        (record (parts_in (held after)) { waiting = map waiting_shown w.entries })) (sym aside.waiting)
        (subst (λ r. Does k (list_of c) (parts_under thread_shown (map waiting_shown before.waiting.entries) (map result_kept before.results.entries) stands before.table (thread_shown top)) worker (IsOfTheList.place is)
        (record (parts_in (held after)) { waiting = map waiting_shown before.waiting.entries; results = map result_kept r.entries })) (sym aside.results)
        (acts c k is items (map waiting_shown before.waiting.entries) (map result_kept before.results.entries) stands period period_is given))),
    as_they_are (the_same (parts_in (held after))),
  )

  -- whoever waits, and what is kept, is in order as before
  waiting_order : (items : List Thread) (stands : Stands before.list worker id items) → IsInOrder (held_under before stands top) → OwnersSit after.table after.list.deques → IsInOrder (held after)
  waiting_order items stands o sit = record {
    owners = sit;
    waiting = subst (λ w. Each Rattle.thread_frames.specs.Kept.WaitsUnder w.entries) (sym aside.waiting) o.waiting;
    results = subst (λ r. Each Rattle.thread_frames.specs.Kept.IsUnderItsId r.entries) (sym aside.results) o.results;
  }

  waiting_points : (t : Table) (k : ℕ) (items : List Thread) (stands : Stands before.list worker id items) → AreAtPoints t k (held_under before stands top)
      → Each (λ d. Each (IsAtPoint t k) (Deque.items d)) after.list.deques → AreAtPoints t k (held after)
  waiting_points t k items stands are in_deques = record {
    in_deques = in_deques;
    waiting = subst (λ w. Each (λ e. IsAtPoint t k e.1) w.entries) (sym aside.waiting) are.waiting;
  }

  same_results : (t : Table) (k : ℕ) → AreResults t k (held before) → AreResults t k (held after)
  same_results t k are = subst (λ r. Each (λ e. IsResult t k e.1) r.entries) (sym aside.results) are

  -- the top thread and those below it at their points
  at_top : (t : Table) (k : ℕ) (items : List Thread) (stands : Stands before.list worker id items) → AreAtPoints t k (held_under before stands top) → Each (IsAtPoint t k) (top ∷ items)
  at_top t k items stands are = each_at (λ d. Each (IsAtPoint t k) (Deque.items d)) stands.left (deque_with id (Some worker) (top ∷ items)) stands.right are.in_deques

  -- the top thread goes back
  pub back_acted : GoesBack worker id top before.list after.list → KeepsSeats before.table after.table → Acted next Where worker id top before (held after)
  back_acted back seats = record {
    does = λ items stands o c k is period period_is given. does_it items stands c k is period period_is given;
    begun = seats.begun;
    in_order = λ items stands none o. waiting_order items stands o
        (subst (OwnersSit after.table) (sym (back.1 items stands).deques) (keep_sitting before.table after.table worker id (top ∷ items) stands.left stands.right o.owners seats (back.0 ∷ items)));
    points = λ t k items stands are. waiting_points t k items stands are
        (subst (Each (λ d. Each (IsAtPoint t k) (Deque.items d))) (sym (back.1 items stands).deques)
        (points_change t k stands.left stands.right (deque_with id (Some worker) (back.0 ∷ items) ∷ []) (deque_with id (Some worker) (top ∷ items)) are.in_deques
        ((back.2 t k (at_top t k items stands are).0, (at_top t k items stands are).1), tt)));
    results = λ t k items stands are results. same_results t k results;
  }

  -- with a child on top
  pub forked_acted : GoesBackWithChild worker id top before.list after.list → KeepsSeats before.table after.table → Acted next Where worker id top before (held after)
  forked_acted back seats = record {
    does = λ items stands o c k is period period_is given. does_it items stands c k is period period_is given;
    begun = seats.begun;
    in_order = λ items stands none o. waiting_order items stands o
        (subst (OwnersSit after.table) (sym (back.1.1 items stands).deques)
        (keep_sitting before.table after.table worker id (top ∷ items) stands.left stands.right o.owners seats (back.1.0 ∷ back.0 ∷ items)));
    points = λ t k items stands are. waiting_points t k items stands are
        (subst (Each (λ d. Each (IsAtPoint t k) (Deque.items d))) (sym (back.1.1 items stands).deques)
        (points_change t k stands.left stands.right (deque_with id (Some worker) (back.1.0 ∷ back.0 ∷ items) ∷ []) (deque_with id (Some worker) (top ∷ items)) are.in_deques
        ((back.1.3 t k (at_top t k items stands are).0, (back.1.2 t k (at_top t k items stands are).0, (at_top t k items stands are).1)), tt)));
    results = λ t k items stands are results. same_results t k results;
  }

  -- and the deque is given up
  pub unowned_acted : GoesBackUnowned worker id top before.list after.list → LeavesSeat worker before.table after.table → Acted next Where worker id top before (held after)
  unowned_acted back seats = record {
    does = λ items stands o c k is period period_is given. does_it items stands c k is period period_is given;
    begun = seats.begun;
    in_order = λ items stands none o. waiting_order items stands o
        (subst (OwnersSit after.table) (sym (back.1 items stands).deques)
        (leave_sitting before.table after.table worker id (top ∷ items) stands.left stands.right o.owners seats none (deque_with id None (back.0 ∷ items) ∷ []) (refl, tt)));
    points = λ t k items stands are. waiting_points t k items stands are
        (subst (Each (λ d. Each (IsAtPoint t k) (Deque.items d))) (sym (back.1 items stands).deques)
        (points_change t k stands.left stands.right (deque_with id None (back.0 ∷ items) ∷ []) (deque_with id (Some worker) (top ∷ items)) are.in_deques
        ((back.2 t k (at_top t k items stands are).0, (at_top t k items stands are).1), tt)));
    results = λ t k items stands are results. same_results t k results;
  }

-- by how much the words change
pub taken_change : (before words : ℕ) → pos (before + words) ≡ pos before +ℤ pos words
taken_change before words = omega (arith, ints)

pub no_change : (n : ℕ) → pos n ≡ pos n +ℤ pos 0
no_change n = omega (arith, ints)

pub given_change : (before words : ℕ) → words ≤ before → pos (before - words) ≡ pos before +ℤ neg_ℤ (pos words)
given_change before words few = omega (arith, ints, few)

pub keeps_room : (before after : Scheduler) → length after.table.seats.items ≡ length before.table.seats.items → after.pool.capacity ≡ before.pool.capacity
    → after.list.most ≡ before.list.most → after.list.spare ≡ before.list.spare → KeepsRoom before after
keeps_room before after workers capacity most spare = record {
  terms = λ actions i. record {
    workers = workers i;
    limits = record { capacity = capacity i; actions = actions; deques = most i };
  };
  spare = spare;
}

-- an action that was done, with so many words
pub performs_of : (next : Next) (Where : ℕ → Period → ℕ → Type 0) (worker : ℕ) (id : DequeId) (top : Thread) (before after : Scheduler)
    → Acted next Where worker id top before (held after) → (words : ℕ) → ((w : ℕ) → TellsWords top next w → w ≡ words)
    → pos after.pool.live ≡ pos before.pool.live +ℤ weight_of (deed_of top next) words
    → (moved : Bool) → moved ≡ moves_words (deed_of top next) (label_of top) words → after.moves ≡ before.moves → after.done ≡ before.done
    → length after.table.seats.items ≡ length before.table.seats.items → after.pool.capacity ≡ before.pool.capacity → after.list.most ≡ before.list.most
    → after.list.spare ≡ before.list.spare → Performs next Where worker id top before after moved
performs_of next Where worker id top before after acted words tells live moved is moves done workers capacity most spare = record {
  acted = acted;
  live = λ w told. live ∙ ap (λ n. pos before.pool.live +ℤ weight_of (deed_of top next) n) (sym (tells w told));
  moved_words = λ w told. is ∙ ap (moves_words (deed_of top next) (label_of top)) (sym (tells w told));
  moves = moves;
  done = done;
  keeps = keeps_room before after workers capacity most spare;
}

-- where the newest child is delivered, the words of its Join are told
pub join_told : (top : Thread) (w : ℕ) → IsTrue (is_there (newest (children_of top))) → TellsJoin top (result_of (newest top.children.items)) w → w ≡ join_words_of top
join_told top w there told = by_list top.children.items there told
  where
    by_result : (r : Option Ended) → IsTrue (is_some r) → TellsJoin top r w → w ≡ released_by top r
    by_result None there told = absurd (true≢false (sym there))
    by_result (Some ended) there told = told

    by_list : (xs : List OpenChild) → IsTrue (is_there (newest (map child_shown xs))) → TellsJoin top (result_of (newest xs)) w → w ≡ released_by top (result_of (newest xs))
    by_list [] there told = absurd (true≢false (sym there))
    by_list (x ∷ []) there told = by_result x.ended there told
    by_list (x ∷ y ∷ xs) there told = by_list (y ∷ xs) there told
