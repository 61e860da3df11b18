-- Where the deque of a seat stands.
use Rattle.std.proofs.Common.{◌≡◌, ◌≢◌, ℕ, ◌≤◌, ◌<◌, ◌⊎◌, List, [], ◌∷◌, ◌++◌, map, inl, inr, refl, sym, ap, subst, ◌∙◌, arith}
use Rattle.std.proofs.Math.Logic.{∥∥₁_elim}
use Rattle.std.specs.Prelude.{Option, None, Some}
use Rattle.std.proofs.lemmas.Bool.{cases_eq}
use Rattle.std.proofs.lemmas.Option.{same_Some, none-some}
use Rattle.open_periods.specs.Passed.Actions.{record_words}
use Rattle.thread_points.specs.Passed.States.{Setting}
use Rattle.deque_list.specs.declared.deque_id.DequeId.{DequeId}
use Rattle.deque_list.specs.Deques.{Deque}
use Rattle.deque_list.proofs.DequeLaws.{same_id}
use Rattle.open_periods.specs.Passed.Lists.{Among, Each, total}
use Rattle.open_periods.proofs.Passed.Lists.{total_middle, each_among}
use Rattle.open_periods.specs.Passed.Moments.{Moment, Deque as DequeOfMoment, owned_by, open_for, one_if_open}
use Rattle.open_periods.specs.Passed.LawfulOrder.{IsLawful}
use Rattle.open_periods.specs.Passed.DequeMachineRuns.{Pair}
use Rattle.node_table.specs.Table.{Table}
use Rattle.thread_points.specs.Passed.Run.{list_of}
use Rattle.thread_frames.specs.declared.thread.Thread.{Thread}
use Rattle.thread_frames.specs.Views.{label_of}
use Rattle.open_periods.specs.Periods.{Period, open_shown}
use Rattle.open_periods.specs.Tables.{periods_of, seat_at, deque_at, shown_of}
use Rattle.moment_laws.specs.Passed.Parts as parts
use Rattle.moment_laws.specs.Passed.Shown.{deque_shown, deque_with, Stands}
use Rattle.thread_frames.specs.Shown.{thread_shown}
use Rattle.scheduler_state.specs.declared.scheduler.Scheduler.{Scheduler}
use Rattle.scheduler_state.specs.Held.{Held, held, IsInOrder}
use Rattle.scheduler_state.specs.Moments.{HasRun, IsSound}
use Rattle.open_periods.specs.Passed.Terms.{Terms, machine_of}
use Rattle.scheduler_state.proofs.Owners.{own_here, owned_shown, own_one, owner_there}
use Rattle.scheduler_state.proofs.Lists.{among_mapped}
use Rattle.scheduler_state.proofs.AtTop.{period_is_there, seat_of_deque}
use Rattle.open_periods.specs.Passed.Books.{Book}
use Rattle.open_periods.proofs.Changes.{each_has_its_book}

-- a deque is that of the worker with this id, with a thread on top, or not
is_it : (worker : ℕ) (id : DequeId) (d : Deque Thread)
    → ((top : Thread) × (items : List Thread) × (d ≡ deque_with id (Some worker) (top ∷ items))) ⊎ (Deque.owner d ≡ Some worker → Deque.id d ≡ id → Deque.items d ≡ [])
is_it worker id d = by_parts (Deque.owner d) refl (Deque.items d) refl
  where
    by_parts : (owner : Option ℕ) → Deque.owner d ≡ owner → (items : List Thread) → Deque.items d ≡ items
        → ((top : Thread) × (items : List Thread) × (d ≡ deque_with id (Some worker) (top ∷ items))) ⊎ (Deque.owner d ≡ Some worker → Deque.id d ≡ id → Deque.items d ≡ [])
    by_parts None is items are = inr (λ mine. absurd (none-some worker (sym is ∙ mine)))
    by_parts (Some w) is [] are = inr (λ mine its. are)
    by_parts (Some w) is (top ∷ items) are = elim (cases_eq w worker) [
      | inl same ↦ elim (cases_eq (Deque.id d).0 id.0) [
        | inl its ↦ inl (top, items, λ i. record { id = same_id (Deque.id d) id its i; owner = (is ∙ ap Some same) i; items = are i })
        | inr other ↦ inr (λ mine its. absurd (other (ap (λ (x : DequeId). x.0) its)))
      ]
      | inr other ↦ inr (λ mine. absurd (other (same_Some w worker (sym is ∙ mine))))
    ]

find_deque : (worker : ℕ) (id : DequeId) (ds : List (Deque Thread))
    → ((top : Thread) × (items : List Thread) × (left : List (Deque Thread)) × (right : List (Deque Thread)) × (ds ≡ left ++ deque_with id (Some worker) (top ∷ items) ∷ right))
    ⊎ Each (λ d. Deque.owner d ≡ Some worker → Deque.id d ≡ id → Deque.items d ≡ []) ds
find_deque worker id [] = inr tt
find_deque worker id (d ∷ ds) = elim (is_it worker id d) [
  | inl found ↦ inl (found.0, found.1, [], ds, ap (λ e. e ∷ ds) found.2)
  | inr other ↦ elim (find_deque worker id ds) [
    | inl found ↦ inl (found.0, found.1, d ∷ found.2, found.3, ap (λ t. d ∷ t) found.4)
    | inr none ↦ inr (other, none)
  ]
]

-- at the moment of a run a worker with a seat owns a deque, with a thread on top
module _ (c : Setting) (terms : Terms) (quota : record_words ≤ c.quota) (h : Held) (run : List Pair) (m : Moment) (at : HasRun c terms h run m) (o : IsInOrder h)
    (worker : ℕ) (id : DequeId) (sits : deque_at h.table worker ≡ Some id) where
  lawful : IsLawful (machine_of c terms) m
  lawful = at.standing.lawful

  some_owned : 0 < total (own_here worker) h.deques
  some_owned =
      let seat = seat_of_deque (seat_at h.table worker) id sits in
      let p : Period = open_shown worker seat.0.period in
      let book = each_has_its_book c.quota (list_of c) (periods_of h.table) m.books p at.standing.shows.books (period_is_there h.table worker p (ap (shown_of worker) seat.1)) in
      let one : one_if_open worker book.book ≡ 1 = own_one worker (Book.owner book.book) book.is_book.owner in
      let sum = total_middle (one_if_open worker) book.older book.book book.newer in
      let opened : open_for worker m.books ≡ open_for worker (book.older ++ book.book ∷ book.newer) = ap (open_for worker) book.books_are in
      let each = lawful.periods.one_each worker in
      let same : owned_by worker m.deques ≡ total (own_here worker) h.deques = ap (owned_by worker) at.standing.shows.deques ∙ owned_shown worker h.deques in
      omega (arith, one, sum, opened, each, same)

  not_missing : Each (λ d. Deque.owner d ≡ Some worker → Deque.id d ≡ id → Deque.items d ≡ []) h.deques → ⊥
  not_missing none =
      let found = owner_there worker h.deques some_owned in
      let d = found.0 in
      let its_seat = each_among (λ d. (w : ℕ) → Deque.owner d ≡ Some w → deque_at h.table w ≡ Some (Deque.id d)) d h.deques o.owners found.1 worker found.2 in
      let empty = each_among (λ d. Deque.owner d ≡ Some worker → Deque.id d ≡ id → Deque.items d ≡ []) d h.deques none found.1 found.2 (same_Some (Deque.id d) id (sym its_seat ∙ sits)) in
      let there = subst (Among (parts.deque_shown (deque_shown thread_shown d))) (sym at.standing.shows.deques)
      (among_mapped parts.deque_shown (deque_shown thread_shown d) (map (deque_shown thread_shown) h.deques) (among_mapped (deque_shown thread_shown) d h.deques found.1)) in
      each_among (λ (x : DequeOfMoment). x.threads ≢ []) (parts.deque_shown (deque_shown thread_shown d)) m.deques lawful.order.none_empty there
      (ap (λ ts. map parts.label_of (map thread_shown ts)) empty)

pub seat_deque : (t : Table) (k : ℕ) (terms : Terms) (s : Scheduler) (worker : ℕ) (id : DequeId) → IsSound t k terms (held s) → deque_at s.table worker ≡ Some id
    → (top : Thread) × (items : List Thread) × Stands s.list worker id (top ∷ items)
seat_deque t k terms s worker id sound sits = elim (find_deque worker id s.list.deques) [
  | inl found ↦ (found.0, found.1, record { left = found.2; right = found.3; deques_are = found.4 })
  | inr none ↦ absurd (∥∥₁_elim sound.of_program (λ x y. absurd x) (λ p. ∥∥₁_elim (sound.somewhere p.0 p.1) (λ x y. absurd x) (λ a. ∥∥₁_elim sound.in_order (λ x y. absurd x)
      (λ o. let covers = sound.quota in let same = p.1.quota in
      not_missing p.0 terms (omega (arith, covers, same)) (held s) a.0 a.1 a.2 o worker id sits none))))
]
