-- What the calls on the list and on the table have made is a theft.
use Rattle.std.proofs.Common.{◌≡◌, ℕ, ◌+◌, ◌<◌, ◌≤◌, ◌↔◌, Bool, List, [], ◌∷◌, ◌++◌, length, map, sym, ap, subst, ◌∙◌, arith, Err}
use Rattle.std.proofs.lemmas.List.{length-append}
use Rattle.deque_list.specs.declared.insert_refused.InsertRefused.{InsertRefused}
use Rattle.deque_list.specs.declared.insert_refused.InsertRefused.TheVariants.{Full}
use Rattle.std.specs.Prelude.{Option, None, Some, nat_lt, Result}
use Rattle.deque_list.specs.declared.deque_id.DequeId.{DequeId}
use Rattle.deque_list.specs.Ids.{IsSmallestFree}
use Rattle.deque_list.specs.Deques.{Deque, deque_ids}
use Rattle.deque_list.specs.DequeLists.{ListView}
use Rattle.open_periods.specs.Passed.Lists.{Each}
use Rattle.moment_shown.specs.Events.{Steals}
use Rattle.thread_frames.specs.declared.thread.Thread.{Thread}
use Rattle.thread_frames.specs.Shown.{thread_shown}
use Rattle.open_periods.specs.Tables.{periods_of}
use Rattle.list_changes.specs.Shown.{Holds, Becomes, IsCut, deque_with, deque_shown, parts_of}
use Rattle.list_changes.specs.Seats.{TakesSeat}
use Rattle.list_changes.specs.Events.{StoleBeside, TookOver}
use Rattle.scheduler_state.specs.declared.scheduler.Scheduler.{Scheduler}
use Rattle.scheduler_state.specs.Held.{held, parts_in}
use Rattle.thread_frames.specs.Kept.{waiting_shown, result_kept}
use Rattle.worker_step.specs.Thefts.{KeepsRest, Robs, takes_bottom, takes_deque}

module _ (worker : ℕ) (before after : Scheduler) (id : DequeId) (number : ℕ) (rest : KeepsRest before after) (seats : TakesSeat worker id before.table after.table)
    (numbered : number ≡ before.table.begun + 1) where
  -- the parts behind the theft, where the waiting threads and the results are those before it
  parts_kept : parts_of thread_shown (map waiting_shown before.waiting.entries) (map result_kept before.results.entries) after.list after.table ≡ parts_in (held after)
  parts_kept = λ i. record {
    deques = map (deque_shown thread_shown) after.list.deques;
    waiting = map waiting_shown (sym (ap (λ w. w.entries) rest.waiting) i);
    results = map result_kept (sym (ap (λ r. r.entries) rest.results) i);
    periods = periods_of after.table;
  }

  pub took_over : (thread : Thread) (place : ℕ) (ahead : Bool) (holds : Holds before.list id None (thread ∷ [])) → length (Holds.left holds) ≡ place
      → TookOver worker id before.list before.table after.list after.table ahead → ahead ≡ nat_lt 0 place
      → Becomes holds after.list (deque_with id (Some worker) (thread ∷ []) ∷ []) → Robs worker place before after id number
  took_over thread place ahead holds at took marked becomes = subst (λ n. Robs worker n before after id number) at (record {
    theft = takes_deque holds.left holds.right id thread holds.deques_are becomes.deques;
    steals = λ workers below unowned reach. subst (Steals workers before.table.begun (parts_in (held before)) worker (length holds.left) id.0) parts_kept
        (took thread holds (marked ∙ ap (nat_lt 0) (sym at)) thread_shown (map waiting_shown before.waiting.entries) (map result_kept before.results.entries) workers below unowned reach);
    seats = seats;
    numbered = numbered;
    rest = rest;
  })

  -- where the list was given room before
  module _ (mid : ListView Thread) (same : mid.deques ≡ before.list.deques) (most : mid.most ≡ before.list.most) (victim : DequeId) (owner : Option ℕ) (first : Thread)
      (others : List Thread) (bottom : Thread) (holds : Holds before.list victim owner (first ∷ (others ++ bottom ∷ []))) where
    abbrev holds_still : Holds mid victim owner (first ∷ (others ++ bottom ∷ []))
    holds_still = record { left = holds.left; right = holds.right; deques_are = same ∙ holds.deques_are }

    pub stole_beside : StoleBeside worker victim mid before.table after.list after.table id
        → ((h : Holds mid victim owner (first ∷ (others ++ bottom ∷ [])))
        → IsCut h after.list (deque_with victim owner (first ∷ others)) (deque_with id (Some worker) (bottom ∷ [])))
        → IsSmallestFree (deque_ids mid.deques) id → length mid.deques < mid.most → Robs worker (length (Holds.left holds)) before after id number
    stole_beside stole becomes free few = record {
      theft = takes_bottom holds.left holds.right victim owner first others bottom id holds.deques_are (becomes holds_still).deques
          (subst (λ ds. IsSmallestFree (deque_ids ds) id) same free)
          (subst (λ n. length before.list.deques < n) most (subst (λ ds. length ds < mid.most) same few));
      steals = λ workers below unowned reach. subst (Steals workers before.table.begun (parts_in (held before)) worker (length holds.left) id.0) parts_kept
          (subst (λ ds. Steals workers before.table.begun
          (record { deques = map (deque_shown thread_shown) ds; waiting = map waiting_shown before.waiting.entries; results = map result_kept before.results.entries; periods = periods_of before.table })
          worker (length holds.left) id.0 (parts_of thread_shown (map waiting_shown before.waiting.entries) (map result_kept before.results.entries) after.list after.table)) same
          (stole owner first others bottom holds_still thread_shown (map waiting_shown before.waiting.entries) (map result_kept before.results.entries) workers below
          (subst (Each (λ deque. Deque.owner deque ≡ Some worker → ⊥)) (sym same) unowned) reach));
      seats = seats;
      numbered = numbered;
      rest = rest;
    }

-- a list of two at least
pub keeps_two : (first : Thread) (others : List Thread) (bottom : Thread) → 2 ≤ length (first ∷ (others ++ bottom ∷ []))
keeps_two first others bottom = let n = length-append others (bottom ∷ []) in omega (arith, n)

-- a list that is full has as many deques as are allowed
pub full_of : (list : ListView Thread) (refused : InsertRefused) (deques : ℕ) → refused ≡ Full deques
    → ((n : ℕ) → (◌≡◌ {A = Result (Unit {0}) InsertRefused} (Err refused) (Err (Full n))) ↔ ((length list.deques ≡ list.most) × (n ≡ list.most)))
    → (length list.deques ≡ list.most) × (deques ≡ list.most)
full_of list refused deques is full = (full deques).0 (ap Err is)
