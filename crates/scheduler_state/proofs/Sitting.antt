-- Who has a seat owns a deque, and is no thief; and who has none owns none.
use Rattle.std.proofs.Common.{◌≡◌, ℕ, ◌<◌, ◌≤◌, List, ◌∷◌, ◌++◌, sym, ap, ◌∙◌, arith}
use Rattle.std.proofs.Math.Logic.{∥∥₁_elim}
use Rattle.std.proofs.lemmas.Option.{none-some}
use Rattle.std.specs.Prelude.{None, Some}
use Rattle.open_periods.specs.Passed.Actions.{record_words}
use Rattle.thread_points.specs.Passed.States.{Setting}
use Rattle.thread_points.specs.Passed.Run.{list_of}
use Rattle.deque_list.specs.Deques.{Deque}
use Rattle.open_periods.specs.Passed.Books.{Book}
use Rattle.open_periods.specs.Passed.Lists.{total}
use Rattle.open_periods.proofs.Passed.Lists.{total_middle, each_among}
use Rattle.open_periods.specs.Passed.Moments.{Moment, owned_by, open_for, one_if_open}
use Rattle.open_periods.specs.Passed.Machine as machine
use Rattle.open_periods.specs.Passed.LawfulOrder.{IsLawful}
use Rattle.open_periods.specs.Passed.Play.{Limits, Stop, arena_full, steps_spent, deques_full, Wants, a_theft, a_give_up, a_wait, an_action, Meets, no_deque, no_words, no_steps}
use Rattle.open_periods.specs.Passed.DequeMachineRuns.{Pair}
use Rattle.open_periods.specs.Passed.Terms.{Terms, machine_of}
use Rattle.open_periods.specs.Periods.{Period, open_shown}
use Rattle.open_periods.proofs.Changes.{each_has_its_book}
use Rattle.open_periods.specs.declared.seat.Seat.{Seat}
use Rattle.open_periods.specs.Tables.{seat_at, deque_at, deque_of, shown_of, periods_of}
use Rattle.scheduler_state.specs.Held.{Held, IsInOrder}
use Rattle.scheduler_state.specs.Moments.{HasRun}
use Rattle.scheduler_state.specs.Outcomes.{HasDequesLeft}
use Rattle.scheduler_state.proofs.AtTop.{period_is_there}
use Rattle.scheduler_state.proofs.Owners.{own_one, own_here, owned_shown, owner_there}

-- an event is a theft
unfoldable pub IsTheft : machine.Event → Type 0
IsTheft (machine.steals place id) = Unit {0}
IsTheft (machine.does place) = ⊥
IsTheft machine.suspends = ⊥
IsTheft machine.gives_up = ⊥

-- a stop is that of the limit of deques
IsFull : Stop → Type 0
IsFull (arena_full live asked) = ⊥
IsFull (steps_spent limit) = ⊥
IsFull (deques_full deques) = Unit {0}

-- the limit of deques stops thefts alone
theft_of_full : (s : machine.Setting) (limits : Limits) (m : Moment) (event : machine.Event) (stop : Stop) → Meets s limits m event stop → IsFull stop → IsTheft event
unfolding IsTheft IsFull
theft_of_full s limits m event stop (no_deque place id deque there stays many) full = tt
theft_of_full s limits m event stop (no_words place fills) full = absurd full
theft_of_full s limits m event stop (no_steps place room many) full = absurd full

-- and a theft is wanted of a worker that owns no deque
none_of_theft : (s : machine.Setting) (m : Moment) (worker word : ℕ) (event : machine.Event) → Wants s m worker word event → IsTheft event
    → owned_by worker m.deques ≡ 0
unfolding IsTheft
none_of_theft s m worker word event (a_theft place id idle first named) theft = idle
none_of_theft s m worker word event (a_give_up forced) theft = absurd theft
none_of_theft s m worker word event (a_wait o place child at none) theft = absurd theft
none_of_theft s m worker word event (an_action o place next has fits) theft = absurd theft

module _ (c : Setting) (terms : Terms) (quota : record_words ≤ c.quota) (h : Held) (run : List Pair) (m : Moment) (at : HasRun c terms h run m) (worker : ℕ) where
  lawful : IsLawful (machine_of c terms) m
  lawful = at.standing.lawful

  -- who has a seat owns a deque
  pub seat_owns : (seat : Seat) → seat_at h.table worker ≡ Some seat → 0 < owned_by worker m.deques
  seat_owns seat is =
      let p : Period = open_shown worker seat.period in
      let book = each_has_its_book c.quota (list_of c) (periods_of h.table) m.books p at.standing.shows.books (period_is_there h.table worker p (ap (shown_of worker) is)) in
      let one : one_if_open worker book.book ≡ 1 = own_one worker (Book.owner book.book) book.is_book.owner in
      let sum = total_middle (one_if_open worker) book.older book.book book.newer in
      let opened : open_for worker m.books ≡ open_for worker (book.older ++ book.book ∷ book.newer) = ap (open_for worker) book.books_are in
      let each = lawful.periods.one_each worker in omega (arith, one, sum, opened, each)

  -- and who has none owns none
  pub idle_owns_none : ∥ IsInOrder h ∥₁ → seat_at h.table worker ≡ None → 0 < owned_by worker m.deques → ⊥
  idle_owns_none ordered idle some = ∥∥₁_elim ordered (λ x y. absurd x) (λ o.
      let same : owned_by worker m.deques ≡ total (own_here worker) h.deques = ap (owned_by worker) at.standing.shows.deques ∙ owned_shown worker h.deques in
      let found = owner_there worker h.deques (omega (arith, same, some)) in
      let sits = each_among (λ d. (w : ℕ) → Deque.owner d ≡ Some w → deque_at h.table w ≡ Some (Deque.id d)) found.0 h.deques o.owners found.1 worker found.2 in
      none-some (Deque.id found.0) (sym (ap deque_of idle) ∙ sits))

  -- so the limit of deques does not stop what is wanted of it
  pub owner_has_deques_left : (word : ℕ) (seat : Seat) → seat_at h.table worker ≡ Some seat → HasDequesLeft c terms worker word m
  unfolding IsFull
  owner_has_deques_left word seat is event deques wants meets =
      let none = none_of_theft (machine_of c terms) m worker word event wants (theft_of_full (machine_of c terms) terms.limits m event (deques_full deques) meets tt) in
      let some = seat_owns seat is in omega (arith, none, some)
