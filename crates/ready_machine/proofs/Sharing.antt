-- Each event of a ready list is one of the machine of deques, or a Fork of it whose deque is cut in two. So it keeps the ready list lawful.
use Rattle.std.proofs.Common.{◌≡◌, ℕ, ◌+◌, ◌≤◌, ◌<◌, List, [], ◌∷◌, ◌++◌, length, inl, inr, refl, sym, ap, subst, ◌∙◌, arith, nat_lt}
use Rattle.std.specs.Prelude.{Option, None, Some}
use Rattle.dag_order.specs.LabelOrder.{fork_of}
use Rattle.depth_first_list.specs.Actions.{forks, record_words}
use Rattle.depth_first_list.specs.Runs.{IsDepthFirst}
use Rattle.deque_machine.specs.Lists.{Each, times}
use Rattle.deque_machine.specs.Books.{charged}
use Rattle.deque_machine.proofs.Lists.{total_append, each_at, each_change, each_without, each_join, each_left, each_right, each_from, same_tail, cons_is_not_nil, one_cases, times_among}
use Rattle.deque_machine.proofs.Whole.{few_places}
use Rattle.deque_machine.specs.Moments.{Deque, Moment, opening, moment_of, deque_of, owned_by, with_id, one_if_owned, one_if_id}
use Rattle.deque_machine.specs.Machine.{Setting, Event, steals, does, Owns, IsIdle, IsAtTop, booked_with, books_with, new_book, May, steals_beside, takes_over, forks_child, joins_child, allocates_within, allocates_above, releases_words, meets_fault, runs_dummy, ends_above_parent, ends_and_wakes, ends_and_leaves, suspends_top, gives_deque_up}
use Rattle.deque_machine.specs.LawfulOrder.{IsLawful}
use Rattle.deque_machine.proofs.Kept.{kept, opening_is_lawful}
use Rattle.ready_machine.specs.Entries.{entry, IsEntry, IsRun, IsLeftmostReady, IsReadyList}
use Rattle.ready_machine.specs.ReadyMachine.{IsShared, MayReady, takes, forks_left, as_with_deques}
use Rattle.ready_machine.proofs.Owners.{owners, owners_times, all_have_owners}
use Rattle.ready_machine.proofs.Cutting.{parted_is_lawful}

-- a worker that runs an entry has nothing below its thread
pub alone : (s : Setting) (m : Moment) → IsReadyList s m → (worker : ℕ) (o : Owns m worker) → o.under ≡ []
alone s m ready worker o =
    let is : IsEntry (deque_of o.id (Some worker) (o.top ∷ o.under)) =
    each_at IsEntry o.left (deque_of o.id (Some worker) (o.top ∷ o.under)) o.right (subst
    (λ t. Each IsEntry t) o.deques_are ready.entries) in
    same_tail o.top is.0 o.under [] is.1

-- To the left of the leftmost ready entry, with a worker idle, are fewer entries than workers: each of them is run by another worker.
pub in_reach : (s : Setting) (m : Moment) → IsLawful s m → (worker : ℕ) → worker < s.workers → owned_by worker m.deques ≡ 0
    → (left rest : List Deque) → m.deques ≡ left ++ rest → Each IsRun left → length left < s.workers
in_reach s m lawful worker below idle left rest are run =
    let ws : List ℕ = owners (λ d. d.owner) left in
    let as_many : length ws ≡ length left = all_have_owners (λ d. d.owner) left run in
    let at_most : (w : ℕ) → times w ws ≤ owned_by w m.deques = λ w.
    let t = owners_times (λ d. d.owner) w left in let sum = total_append (one_if_owned w) left rest in
    let same : owned_by w m.deques ≡ owned_by w (left ++ rest) = ap (owned_by w) are in omega (arith, t, sum, same) in
    let few : length (worker ∷ ws) ≤ s.workers = few_places (worker ∷ ws) s.workers
    (λ w. let few = at_most w in let most = (lawful.order).owns_one w in elim (one_cases w worker) [
      | inl here ↦ let one = here.1 in let none : owned_by w m.deques ≡ 0 = ap (λ t. owned_by t m.deques) here.0
          ∙ idle in omega (arith, few, one, none)
      | inr other ↦ let none = other.1 in omega (arith, few, most, none)
    ]) (
      below,
      each_from (λ w. w < s.workers) ws (λ w there. lawful.owners_below w
          (let some = times_among w ws there in let few = at_most w in omega (arith, some, few))),
    ) in
    omega (arith, few, as_many)

-- so a Take is a steal in place
pub take_is_theft : (s : Setting) (m : Moment) → IsLawful s m → (worker : ℕ) (left right : List Deque) (thread : List ℕ) (id : ℕ)
    → IsIdle s m worker
    → IsLeftmostReady m.deques left id thread right
    → May s m worker (steals (length left) id)
    (moment_of (left ++ entry id (Some worker) thread ∷ right) m.waiting (m.books ++ new_book worker (nat_lt 0 (length left)) ∷ []))
take_is_theft s m lawful worker left right thread id idle at =
    takes_over left right thread id idle
    (in_reach s m lawful worker idle.is_worker idle.owns_none left
    (entry id None thread ∷ right) at.deques_are at.left_are_run) at.deques_are

-- the case of the machine of deques that comes with an event: it leaves the same books, and the same threads wait
pub record IsBeside (s : Setting) (m : Moment) (worker : ℕ) (event : Event) (after : Moment) : Type 0 where
  pub between : Moment
  pub may : May s m worker event between
  pub waiting_are : after.waiting ≡ between.waiting
  pub books_are : after.books ≡ between.books

pub beside : (s : Setting) (m : Moment) → IsReadyList s m → (worker : ℕ) (event : Event) (after : Moment) → MayReady s m worker event after
    → IsBeside s m worker event after
beside s m ready worker event after (takes left right thread id idle at) =
    record {
      between = after;
      may = take_is_theft s m ready.lawful worker left right thread id idle at;
      waiting_are = refl;
      books_are =
          refl;
    }
beside s m ready worker event after (forks_left o place child new at fits least) = record {
  between = booked_with m worker o (fork_of o.top child ∷ o.top ∷ o.under) place;
  may = forks_child o place child at fits;
  waiting_are = refl;
  books_are = refl;
}
beside s m ready worker event after (as_with_deques event' after' shared may) =
    record { between = after; may = may; waiting_are = refl; books_are = refl }

-- an id stays free if the worker's deque changes its owner and threads
pub still_free : (m : Moment) (worker : ℕ) (o : Owns m worker) (new : ℕ) (owner : Option ℕ) (threads : List (List ℕ))
    → with_id new m.deques ≡ 0
    → with_id new (o.left ++ deque_of o.id owner threads ∷ o.right) ≡ 0
still_free m worker o new owner threads free =
    let cut : with_id new m.deques ≡ with_id new (o.left ++ deque_of o.id (Some worker) (o.top ∷ o.under) ∷ o.right) = ap
    (with_id new) o.deques_are in
    let before = total_append (one_if_id new) o.left (deque_of o.id (Some worker) (o.top ∷ o.under) ∷ o.right) in
    let after = total_append (one_if_id new) o.left (deque_of o.id owner threads ∷ o.right) in omega (arith, free, cut, before, after)

module _ (s : Setting) (list : IsDepthFirst s.quota s.list) (m : Moment) (ready : IsReadyList s m) (worker : ℕ) where
  -- the entries with another one in the place of the worker's, or without it
  changed : (o : Owns m worker) (d : Deque) → IsEntry d → Each IsEntry (o.left ++ d ∷ o.right)
  changed o d is = each_change IsEntry o.left (deque_of o.id (Some worker) (o.top ∷ o.under)) d o.right
      (subst (λ t. Each IsEntry t) o.deques_are ready.entries) is

  removed : (o : Owns m worker) → Each IsEntry (o.left ++ o.right)
  removed o = each_without IsEntry o.left (deque_of o.id (Some worker) (o.top ∷ o.under)) o.right
      (subst (λ t. Each IsEntry t) o.deques_are ready.entries)

  -- a shared event leaves entries
  shared_entries : (event : Event) (after : Moment) → IsShared s event → May s m worker event after → Each IsEntry after.deques
  shared_entries event after shared
      (steals_beside left right victim first others bottom id idle reach deques_are threads_are new_id) = absurd shared
  shared_entries event after shared (takes_over left right thread id idle reach deques_are) = absurd shared
  shared_entries event after shared (forks_child o place child at fits) = absurd (shared child at.deed_is)
  shared_entries event after shared (joins_child o place child at has) = ready.entries
  shared_entries event after shared (allocates_within o place at small fits) = ready.entries
  shared_entries event after shared (allocates_above o place at large) = ready.entries
  shared_entries event after shared (releases_words o place at) = ready.entries
  shared_entries event after shared (meets_fault o place at) = ready.entries
  shared_entries event after shared (runs_dummy o place at) =
      changed o (deque_of o.id None (o.top ∷ o.under)) (o.top, ap (λ t. o.top ∷ t) (alone s m ready worker o))
  shared_entries event after shared (ends_above_parent o place child parent below at under_is top_is) =
      absurd (cons_is_not_nil parent below (sym under_is ∙ alone s m ready worker o))
  shared_entries event after shared (ends_and_wakes o place before later parent at under_is waiting_is top_is) =
      changed o (deque_of o.id (Some worker) (parent.thread ∷ [])) (parent.thread, refl)
  shared_entries event after shared (ends_and_leaves o place at under_is unwaited) = removed o
  shared_entries event after shared (suspends_top o place child at not_ended under_is) = removed o
  shared_entries event after shared (gives_deque_up o) =
      changed o (deque_of o.id None (o.top ∷ o.under)) (o.top, ap (λ t. o.top ∷ t) (alone s m ready worker o))

  -- the child's entry beside the thread's
  fork_entries : (o : Owns m worker) (new : ℕ) (upper lower : List ℕ)
      → Each IsEntry (o.left ++ entry o.id (Some worker) upper ∷ entry new None lower ∷ o.right)
  fork_entries o new upper lower =
      each_join IsEntry o.left (entry o.id (Some worker) upper ∷ entry new None lower ∷ o.right) (each_left IsEntry o.left o.right
      (removed o))
      ((upper, refl), ((lower, refl), each_right IsEntry o.left o.right (removed o)))

  fork_is_lawful : (o : Owns m worker) (place child new : ℕ) → IsAtTop s m o.top place (forks child)
      → charged s.quota s.list o.book.ran + record_words ≤ s.quota → with_id new m.deques ≡ 0
      → IsLawful s (moment_of (o.left ++ entry o.id (Some worker) (fork_of o.top child) ∷ entry new None o.top ∷ o.right) m.waiting
      (books_with o (Some worker) place))
  fork_is_lawful o place child new at fits free =
      let forked : Moment = booked_with m worker o (fork_of o.top child ∷ o.top ∷ o.under) place in
      parted_is_lawful s forked o.left o.right o.id worker new (fork_of o.top child) o.top
      (ap (λ t. o.left ++ deque_of o.id (Some worker) (fork_of o.top child ∷ o.top ∷ t) ∷ o.right) (alone s m ready worker o))
      (still_free m worker o new (Some worker) (fork_of o.top child ∷ o.top ∷ o.under) free)
      (kept s list m ready.lawful worker (does place) forked (forks_child o place child at fits))

  pub kept_ready : (event : Event) (after : Moment) → MayReady s m worker event after → IsReadyList s after
  kept_ready event after (takes left right thread id idle at) = record {
    entries = each_change IsEntry left (entry id None thread) (entry id (Some worker) thread) right
        (subst (λ t. Each IsEntry t) at.deques_are ready.entries) (thread, refl);
    lawful = kept s list m ready.lawful worker event after (take_is_theft s m ready.lawful worker left right thread id idle at);
  }
  kept_ready event after (forks_left o place child new at fits least) =
      record { entries = fork_entries o new (fork_of o.top child) o.top; lawful = fork_is_lawful o place child new at fits least.free }
  kept_ready event after (as_with_deques event' after' shared may) =
      record { entries = shared_entries event after shared may; lawful = kept s list m ready.lawful worker event after may }

pub opening_is_ready : (s : Setting) → IsDepthFirst s.quota s.list → IsReadyList s opening
opening_is_ready s list = record { entries = (([], refl), tt); lawful = opening_is_lawful s list }
