-- What holds of the top thread of a worker's deque at the moment of a run.
use Rattle.std.proofs.Common.{◌≡◌, ℕ, ◌≤◌, List, [], ◌∷◌, ◌++◌, map, inl, refl, sym, ap, subst, ◌∙◌, arith, append-nil}
use Rattle.std.specs.Prelude.{Option, None, Some}
use Rattle.std.proofs.lemmas.Int.{ints}
use Rattle.std.proofs.lemmas.Option.{none-some}
use Rattle.std.proofs.lemmas.List.{map-append}
use Rattle.dag_order.specs.declared.action_id.ActionId.{ActionId}
use Rattle.open_periods.specs.Passed.Actions.{record_words}
use Rattle.open_periods.specs.Passed.Facts.{label_at, IsLive, IsNext, HasDone}
use Rattle.open_periods.specs.Passed.DepthFirstListRuns.{IsDepthFirst}
use Rattle.open_periods.proofs.Passed.LiveLaws.{next_is_of_its_index, end_means_all}
use Rattle.thread_points.specs.Passed.States.{Setting}
use Rattle.thread_state.proofs.Passed.Built.{whole_is_depth_first}
use Rattle.deque_list.specs.declared.deque_id.DequeId.{DequeId}
use Rattle.deque_list.specs.Deques.{Deque}
use Rattle.open_periods.specs.Passed.Lists.{Among, Each, total}
use Rattle.open_periods.specs.Passed.Lawful.{IsWithin}
use Rattle.open_periods.proofs.Passed.Lists.{total_middle, each_at, each_among, among_here}
use Rattle.open_periods.proofs.Passed.Keeping.{ended_has_all}
use Rattle.open_periods.specs.Passed.Moments.{Moment, done_at, threads_in, owned_by}
use Rattle.open_periods.specs.Passed.Machine.{HasEnded}
use Rattle.open_periods.specs.Passed.LawfulOrder.{IsLawful}
use Rattle.open_periods.specs.Passed.DequeMachineRuns.{Pair}
use Rattle.open_periods.proofs.Passed.Shapes.{in_threads}
use Rattle.open_periods.specs.Periods.{Period, open_shown}
use Rattle.open_periods.specs.Names.{HasLabel, IsNamed}
use Rattle.open_periods.proofs.Labels.{one_label}
use Rattle.open_periods.specs.declared.seat.Seat.{Seat}
use Rattle.open_periods.specs.declared.table.PeriodTable.{PeriodTable}
use Rattle.open_periods.specs.Tables.{periods_of, period_at, seat_at, deque_at, deque_of, shown_of}
use Rattle.open_periods.proofs.Seats.{some_shown, some_seat}
use Rattle.open_periods.proofs.Lists.{cut_table}
use Rattle.space_ledger.specs.BooksList.{books_list}
use Rattle.moment_laws.proofs.Passed.Counting.{threads_count_within}
use Rattle.moment_laws.specs.Passed.Parts as parts
use Rattle.moment_laws.specs.Passed.Parts.{IsIn, deque_words}
use Rattle.moment_laws.specs.Passed.Standing.{ThreadStands}
use Rattle.moment_laws.specs.Passed.MomentShownEvents.{Works}
use Rattle.moment_laws.proofs.Passed.Shown.{used_is, book_of_it, deque_words_middle}
use Rattle.thread_points.specs.Passed.Run.{list_of}
use Rattle.thread_frames.specs.declared.thread.Thread.{Thread}
use Rattle.thread_frames.specs.declared.ended.Ended.{Ended}
use Rattle.thread_frames.specs.declared.next.Next.{Next}
use Rattle.thread_frames.specs.Actions.{IsOfTheList}
use Rattle.thread_frames.specs.Views.{label_of, done_of, thread_words}
use Rattle.thread_frames.specs.Shown.{thread_shown}
use Rattle.thread_map.specs.Kept.{kept_under}
use Rattle.moment_laws.specs.Passed.Shown.{deque_shown, Stands, parts_under}
use Rattle.scheduler_state.specs.declared.scheduler.Scheduler.{Scheduler}
use Rattle.scheduler_state.specs.Held.{held, held_under, parts_in, OwnsNone, IsInOrder}
use Rattle.thread_frames.specs.Kept.{waiting_shown, result_kept, IsUnderItsId}
use Rattle.scheduler_state.specs.Moments.{HasRun}
use Rattle.open_periods.specs.Passed.Terms.{Terms, machine_of}
use Rattle.scheduler_state.proofs.Owners.{own_here, owned_shown, own_one, none_owned}
use Rattle.scheduler_state.proofs.Lists.{among_mapped}
use Rattle.thread_frames.proofs.Found.{found_among}

-- the period of a worker is among the periods
pub period_is_there : (table : PeriodTable) (worker : ℕ) (p : Period) → period_at table worker ≡ Some p → Among p (periods_of table)
period_is_there table worker p is =
    let seat = some_shown worker (seat_at table worker) p is in
    let cut = cut_table (books_list table.books) table.seats.items worker (Some seat.0) (some_seat table.seats.items worker seat.0 seat.1) in
    subst (λ q. Among q (periods_of table)) (sym seat.2)
    (subst (Among _) (sym cut.are) (among_here _ _ cut.right))

-- a seat that has a deque
pub seat_of_deque : (seat : Option Seat) (id : DequeId) → deque_of seat ≡ Some id → (there : Seat) × (seat ≡ Some there)
seat_of_deque None id is = absurd (none-some id is)
seat_of_deque (Some seat) id is = (seat, refl)

module _ (s : Scheduler) {worker : ℕ} {id : DequeId} {items : List Thread} (stands : Stands s.list worker id items) (top : Thread) where
  -- the worker's deque
  abbrev pub own_deque : Deque Thread
  own_deque = record { id = id; owner = Some worker; items = top ∷ items }

  -- with the thread on top the parts are those that the worker works on
  pub deques_are : parts.Parts.deques (parts_in (held_under s stands top))
      ≡ map (deque_shown thread_shown) stands.left ++ record { id = id.0; owner = Some worker; threads = thread_shown top ∷ map thread_shown items } ∷ map (deque_shown thread_shown) stands.right
  deques_are = map-append (deque_shown thread_shown) stands.left (own_deque ∷ stands.right)

  pub under_is : parts_in (held_under s stands top)
      ≡ parts_under thread_shown (map waiting_shown s.waiting.entries) (map result_kept s.results.entries) stands s.table (thread_shown top)
  under_is = ap (λ ds. record (parts_in (held s)) { deques = ds }) deques_are

  -- the worker works on its deque, and its period is open
  abbrev pub period_there : (p : Period) → period_at s.table worker ≡ Some p → Works (parts_in (held_under s stands top)) worker
  period_there p is = record {
    left = map (deque_shown thread_shown) stands.left;
    id = id.0;
    top = thread_shown top;
    under = map thread_shown items;
    right = map (deque_shown thread_shown) stands.right;
    period = p;
    deques_are = deques_are;
    period_there = period_is_there s.table worker p is;
    open_for_it = let found = some_shown worker (seat_at s.table worker) p is in ap (λ q. Period.owner q) found.2;
  }

  -- where owners sit at their deques it has one
  pub its_period : IsInOrder (held_under s stands top) → (p : Period) × (period_at s.table worker ≡ Some p)
  its_period o =
      let sits = each_at (λ d. (w : ℕ) → Deque.owner d ≡ Some w → deque_at s.table w ≡ Some (Deque.id d)) stands.left own_deque stands.right o.owners worker refl in
      let seat = seat_of_deque (seat_at s.table worker) id sits in (open_shown worker seat.0.period, ap (shown_of worker) seat.1)

  -- the top thread is in the parts
  pub top_is_in : IsIn (thread_shown top) (parts_in (held_under s stands top))
  top_is_in = inl (
    deque_shown thread_shown own_deque,
    subst (Among (deque_shown thread_shown own_deque)) (sym deques_are)
        (among_here (deque_shown thread_shown own_deque) (map (deque_shown thread_shown) stands.left) (map (deque_shown thread_shown) stands.right)),
    inl refl,
  )

  module _ (c : Setting) (terms : Terms) (quota : record_words ≤ c.quota) (run : List Pair) (m : Moment) (at : HasRun c terms (held_under s stands top) run m) where
    pub lawful : IsLawful (machine_of c terms) m
    lawful = at.standing.lawful

    pub listed : IsDepthFirst c.quota (list_of c)
    listed = whole_is_depth_first c

    -- at most one deque is a worker's
    pub owns_none : OwnsNone worker stands.left stands.right
    owns_none =
        let one : owned_by worker m.deques ≤ 1 = lawful.order.owns_one worker in
        let same : owned_by worker m.deques ≡ total (own_here worker) (stands.left ++ own_deque ∷ stands.right) =
        ap (owned_by worker) at.standing.shows.deques ∙ owned_shown worker (stands.left ++ own_deque ∷ stands.right) in
        let sum = total_middle (own_here worker) stands.left own_deque stands.right in
        let here : own_here worker own_deque ≡ 1 = own_one worker (Some worker) refl in
        (none_owned worker stands.left (omega (arith, one, same, sum, here)), none_owned worker stands.right (omega (arith, one, same, sum, here)))

    -- its words are among those that are out
    pub words_within : thread_words top ≤ s.pool.live
    words_within =
        let deques : total deque_words (parts.Parts.deques (parts_in (held_under s stands top)))
        ≡ total deque_words (map (deque_shown thread_shown) stands.left ++ deque_shown thread_shown own_deque ∷ map (deque_shown thread_shown) stands.right) = ap (total deque_words) deques_are in
        let sum = deque_words_middle (map (deque_shown thread_shown) stands.left) (map (deque_shown thread_shown) stands.right) (deque_shown thread_shown own_deque) in
        let words = at.standing.shows.words in let live = at.standing.live in omega (arith, ints, deques, sum, words, live)

    -- it has done no more actions than are done
    pub counts_within : done_of top ≤ s.done
    counts_within =
        let few = threads_count_within (machine_of c terms) (omega (arith, quota)) listed m (parts_in (held_under s stands top)) (thread_shown top) lawful at.standing.shows top_is_in in
        let done = at.done in omega (arith, few, done)

    -- its period has taken no more than the quota
    pub used_within : (p : Period) → period_at s.table worker ≡ Some p → p.used ≤ c.quota
    used_within p is =
        let o = period_there p is in
        let book = book_of_it c.quota (list_of c) (parts_in (held_under s stands top)) m at.standing.shows worker o in
        let used = used_is c.quota (list_of c) (parts_in (held_under s stands top)) m at.standing.shows worker o in
        let within = each_at (IsWithin c.quota (list_of c)) book.older book.book book.newer (subst (Each (IsWithin c.quota (list_of c))) book.books_are lawful.periods.lawful.within) in
        omega (arith, used, within)

    pub stands_at_top : ThreadStands (list_of c) (done_at m) (parts_in (held_under s stands top)) (thread_shown top)
    stands_at_top = at.standing.shows.threads (thread_shown top) top_is_in

    -- its deque is one of the moment, and it is live
    pub deque_there : Among (parts.deque_shown (deque_shown thread_shown own_deque)) m.deques
    deque_there = subst (Among (parts.deque_shown (deque_shown thread_shown own_deque))) (sym at.standing.shows.deques)
        (among_mapped parts.deque_shown (deque_shown thread_shown own_deque) (map (deque_shown thread_shown) (stands.left ++ own_deque ∷ stands.right))
        (among_mapped (deque_shown thread_shown) own_deque (stands.left ++ own_deque ∷ stands.right) (among_here own_deque stands.left stands.right)))

    pub label_there : Among (label_of top) (threads_in m.deques)
    label_there = in_threads (label_of top) (parts.deque_shown (deque_shown thread_shown own_deque)) m.deques deque_there (inl refl)

    pub top_is_live : IsLive (list_of c) (done_at m) (label_of top)
    top_is_live = each_among (IsLive (list_of c) (done_at m)) (label_of top) (threads_in m.deques) lawful.order.all_live label_there

    module _ (next : Next) (i : IsOfTheList c top next) where
      -- its next action has this name
      pub named : (name : ActionId) → name.by ≡ Thread.id top → name.index ≡ done_of top → IsNamed (list_of c) (periods_of s.table) name (IsOfTheList.place i)
      named name by index = record {
        inside = i.inside;
        by = subst (λ who. HasLabel (periods_of s.table) who (label_at (list_of c) i.place)) (sym by)
            (subst (HasLabel (periods_of s.table) (Thread.id top)) (sym i.labelled) stands_at_top.labelled);
        index = i.index ∙ sym index;
      }

      -- which comes next, and is not done
      pub next_at_top : IsNext (list_of c) (done_at m) (label_of top) i.place
      next_at_top = (next_is_of_its_index c.quota (list_of c) listed (done_at m) lawful.periods.lawful.first_actions (label_of top) i.place i.inside i.labelled).1
          (subst (HasDone (list_of c) (done_at m) (label_of top)) (sym i.index) stands_at_top.has_done)

      -- so no result is kept under its id
      pub not_kept : IsInOrder (held_under s stands top) → kept_under s.results (Thread.id top) ≡ None
      not_kept o = by_found (kept_under s.results (Thread.id top)) refl
        where
          by_found : (found : Option Ended) → kept_under s.results (Thread.id top) ≡ found → found ≡ None
          by_found None is = refl
          by_found (Some ended) is =
              let there = found_among (Thread.id top) s.results.entries ended is in
              let its_id : Ended.id ended ≡ Thread.id top = each_among IsUnderItsId (Thread.id top, ended) s.results.entries o.results there in
              let result = at.standing.shows.results (result_kept (Thread.id top, ended)) (among_mapped result_kept (Thread.id top, ended) s.results.entries there) in
              let same = one_label c.quota (list_of c) (periods_of s.table) m.books (Thread.id top) (parts.Result.label (result_kept (Thread.id top, ended))) (label_of top) at.standing.shows.books
              (subst (λ who. HasLabel (periods_of s.table) who (parts.Result.label (result_kept (Thread.id top, ended)))) its_id result.labelled) stands_at_top.labelled in
              let e = result.ended in
              let did = end_means_all c.quota (list_of c) listed (done_at m) lawful.periods.lawful.first_actions e.0 i.place e.1 i.inside e.3 e.4
              ([], i.labelled ∙ sym same ∙ sym e.2 ∙ sym (append-nil (label_at (list_of c) e.0))) in
              let missing = next_at_top.missing in absurd (omega (arith, did, missing))

      -- and the root goes on
      pub root_not_ended : ¬ HasEnded (machine_of c terms) m []
      root_not_ended ended =
          let all = ended_has_all c.quota (list_of c) listed m.books ended.0 lawful.periods.lawful ended.1 ended.2 ended.3 ended.4 i.place i.inside in
          let missing = next_at_top.missing in absurd (omega (arith, all, missing))
