-- Events without an action: a deque that is given up, a thread that begins to wait, a theft. Whoever is in the parts stays as he is.
use Rattle.std.proofs.Common.{◌≡◌, ◌≢◌, ℕ, ◌<◌, ◌⊎◌, List, [], ◌∷◌, ◌++◌, length, map, inl, inr, refl, sym, ap, subst, ◌∙◌, arith, append-nil, true≢false, Bool}
use Rattle.std.proofs.lemmas.Int.{ints}
use Rattle.std.proofs.lemmas.List.{map-append}
use Rattle.std.specs.Prelude.{Option, None, Some, true, false, cond, nat_eq, nat_lt, ℤ, pos, ◌+ℤ◌}
use Rattle.open_periods.specs.Passed.ThreadId.{ThreadId}
use Rattle.open_periods.specs.Passed.LabelOrder.{fork_of}
use Rattle.open_periods.specs.Passed.Actions.{joins, Action}
use Rattle.open_periods.specs.Passed.DepthFirstListRuns.{IsDepthFirst}
use Rattle.deque_machine.specs.Lists.{Among, Each, Differ, total, times}
use Rattle.deque_machine.specs.Books.{booked}
use Rattle.deque_machine.proofs.Lists.{each_among, each_map, each_from, among_left, among_right, among_parts, among_here, total_append, total_middle}
use Rattle.deque_machine.proofs.Keeping.{closed_same, begun_same}
use Rattle.deque_machine.specs.Moments.{Moment, Waiting, done_at, live_at, owned_by, with_id, one_if_worker}
use Rattle.deque_machine.specs.Machine.{Setting, May, Event, steals, suspends, gives_up, books_closed, new_book, HasEnded, IsIdle, suspends_top, gives_deque_up, steals_beside, takes_over}
use Rattle.deque_machine.specs.Runs.{place_of}
use Rattle.deque_machine.specs.LawfulOrder.{IsLawful}
use Rattle.deque_machine.proofs.Reached.{event_writes}
use Rattle.open_periods.specs.Periods.{Period}
use Rattle.open_periods.specs.Names.{HasLabel}
use Rattle.open_periods.specs.Telling.{Tell}
use Rattle.open_periods.proofs.Labels.{labels_stay, labels_stay_at_a_beginning}
use Rattle.open_periods.proofs.Changes.{closing_is_told, beginning_is_told}
use Rattle.moment_shown.specs.Parts.{Child, Thread, Result, Deque, Parts, IsIn, IsKept, deque_shown, label_of, words_of, thread_words, deque_words}
use Rattle.moment_shown.specs.Standing.{ChildStands, ThreadStands, ResultStands, Shows, IsWaiting}
use Rattle.moment_shown.specs.Events as events
use Rattle.moment_shown.specs.Events.{Works, IsNextOf, Shuts, Begins}
use Rattle.moment_shown.specs.Laws.{Comes, GiveUpsAreEvents, WaitsAreEvents, TheftsAreEvents}
use Rattle.moment_shown.proofs.Shown.{shown_middle, shown_without, book_of_it, by_deque, in_here, in_wider, InDeques, deque_words_middle}
use Rattle.moment_shown.proofs.Placing.{own, top_is_in, top_stands, under_is_in, beside_is_in, waiting_differs, words_beside, words_were, words_now, at_top}
use Rattle.moment_shown.proofs.Forking.{among_mapped}
use Rattle.deque_machine.proofs.Lists.{one_cases as cases_of_one}
use Rattle.open_periods.specs.Passed.Actions.{live_words as words_of_changes}
use Rattle.open_periods.specs.Passed.Facts.{action_at as action_of_list}

-- whoever is in the next parts was in those before, and the results are the same
module _ (l : List Action) (done : ℕ → ℕ) (parts next : Parts) (same_results : next.results ≡ parts.results)
    (stays : (id : ThreadId) (label : List ℕ) → HasLabel parts.periods id label → HasLabel next.periods id label)
    (was_in : (y : Thread) → IsIn y next → IsIn y parts) where
  child_moves : (id : ThreadId) (label : List ℕ) (child : Child) → ChildStands l done parts id label child → ChildStands l done next id label child
  child_moves id label child was = record {
    labelled = stays child.id (fork_of label child.ordinal) was.labelled;
    forked = was.forked;
    ended = λ ended. subst (λ rs. (child.delivered ≡ true) ⊎ IsKept rs child.id) (sym same_results) (was.ended ended);
    delivered = λ given. ((was.delivered given).0, subst (λ rs. ¬ IsKept rs child.id) (sym same_results) (was.delivered given).1);
    is_thread = λ y there named. was.is_thread y (was_in y there) named;
    is_result = λ r there named. was.is_result r (subst (Among r) same_results there) named;
  }

  pub thread_moves : (x : Thread) → ThreadStands l done parts x → ThreadStands l done next x
  thread_moves x was = record {
    labelled = stays x.id x.label was.labelled;
    has_done = was.has_done;
    children = each_map (ChildStands l done parts x.id x.label) (ChildStands l done next x.id x.label) x.children
        (λ child there stands. child_moves x.id x.label child stands) was.children;
    all_children = was.all_children;
    ordinals_differ = was.ordinals_differ;
  }

  pub result_moves : (r : Result) → ResultStands l done parts r → ResultStands l done next r
  result_moves r was = record { labelled = stays r.id r.label was.labelled; ended = was.ended }

-- the moment behind an event that does nothing
module _ (s : Setting) (m : Moment) (parts : Parts) (shows : Shows s.quota s.list parts m) (next : Parts) (same_results : next.results ≡ parts.results)
    (stays : (id : ThreadId) (label : List ℕ) → HasLabel parts.periods id label → HasLabel next.periods id label)
    (was_in : (y : Thread) → IsIn y next → IsIn y parts) where
  pub moved : (worker : ℕ) (event : Event) (after : Moment) → place_of event ≡ [] → May s m worker event after → booked after.books ≡ booked m.books
      → after.deques ≡ map deque_shown next.deques
      → Each (λ x. (w : Waiting) × Among w after.waiting × IsWaiting x w) next.waiting → Each (λ w. (x : Thread) × Among x next.waiting × IsWaiting x w) after.waiting
      → Differ (map label_of next.waiting) → Tell s.quota s.list next.periods after.books → words_of next ≡ words_of parts
      → Comes s m worker event next
  moved worker event after none may same shown waits waiting once books words = (
    after,
    may,
    record {
      deques = shown;
      waits = waits;
      waiting = waiting;
      wait_once = once;
      books = books;
      threads = λ x there. subst (λ ps. ThreadStands s.list (λ i. times i ps) next x) (sym same)
          (thread_moves s.list (done_at m) parts next same_results stays was_in x (shows.threads x (was_in x there)));
      results = λ r there. subst (λ ps. ResultStands s.list (λ i. times i ps) next r) (sym same)
          (result_moves s.list (done_at m) parts next same_results stays was_in r (shows.results r (subst (Among r) same_results there)));
      kept_once = subst (λ rs. Differ (map (λ r. Result.label r) rs)) (sym same_results) shows.kept_once;
      words = same_words (live_at s.list after) (live_at s.list m) (words_of next) (words_of parts)
          ((event_writes s m worker event after may).live ∙ ap (λ ps. live_at s.list m +ℤ words_of_changes (map (action_of_list s.list) ps)) none)
          shows.words words;
    },
  )
    where
      same_words : (a b : ℤ) (now before : ℕ) → a ≡ b +ℤ pos 0 → b ≡ pos before → now ≡ before → a ≡ pos now
      same_words a b now before p q r = omega (arith, ints, p, q, r)

module _ (s : Setting) (run : IsDepthFirst s.quota s.list) (m : Moment) (lawful : IsLawful s m) (parts : Parts) (shows : Shows s.quota s.list parts m) (worker : ℕ) (o : Works parts worker)
    (periods : List Period) (shuts : Shuts o periods) where
  closed_told : Tell s.quota s.list periods (books_closed (own s run m lawful parts shows worker o))
  closed_told =
      let book = book_of_it s.quota s.list parts m shows worker o in
      closing_is_told s.quota s.list parts.periods periods book.older book.newer book.book o.period shuts.after
      (subst (Tell s.quota s.list parts.periods) book.books_are shows.books) shuts.replaces book.numbered shuts.closes

  closed_booked : booked (books_closed (own s run m lawful parts shows worker o)) ≡ booked m.books
  closed_booked =
      let book = book_of_it s.quota s.list parts m shows worker o in
      closed_same book.older book.newer book.book None ∙ ap booked (sym book.books_are)

  label_stays : (id : ThreadId) (label : List ℕ) → HasLabel parts.periods id label → HasLabel periods id label
  label_stays id label has = labels_stay s.quota s.list parts.periods periods m.books o.period shuts.after [] id label shows.books shuts.replaces
      (shuts.closes.same_born ∙ sym (append-nil o.period.born)) has

  pub given_up : Comes s m worker gives_up (record parts { deques = events.deques_with o None (o.top ∷ o.under); periods = periods })
  given_up = moved s m parts shows (record parts { deques = events.deques_with o None (o.top ∷ o.under); periods = periods }) refl label_stays
      (λ y there. elim there [
        | inl in_deque ↦ elim (by_deque y o.left o.right (record { id = o.id; owner = None; threads = o.top ∷ o.under }) in_deque) [
          | inl here ↦ elim here [
            | inl is ↦ subst (λ x. IsIn x parts) (sym is) (top_is_in s run m lawful parts shows worker o)
            | inr under ↦ under_is_in s run m lawful parts shows worker o y under
          ]
          | inr beside ↦ beside_is_in s run m lawful parts shows worker o y beside
        ]
        | inr waiting ↦ inr waiting
      ])
      worker gives_up _ refl (gives_deque_up (own s run m lawful parts shows worker o)) closed_booked
      (sym (shown_middle o.left o.right (record { id = o.id; owner = None; threads = o.top ∷ o.under })))
      shows.waits shows.waiting shows.wait_once closed_told
      (let was = words_were s run m lawful parts shows worker o in let is = words_now s run m lawful parts shows worker o None (o.top ∷ o.under) periods in
      let rest = words_beside s run m lawful parts shows worker o in omega (arith, was, is))

  pub suspended : (place : ℕ) (newest : Child) (older : List Child) → IsNextOf s.list o.top place (joins newest.ordinal) → o.top.children ≡ newest ∷ older → newest.delivered ≡ false
      → Each (λ result. result.id ≢ newest.id) parts.results → o.under ≡ []
      → Comes s m worker suspends (record parts { deques = o.left ++ o.right; waiting = o.top ∷ parts.waiting; periods = periods })
  unfolding words_beside
  suspended place newest older is_next children_are missing unkept under_is = moved s m parts shows
      (record parts { deques = o.left ++ o.right; waiting = o.top ∷ parts.waiting; periods = periods }) refl label_stays
      (λ y there. elim there [
        | inl beside ↦ beside_is_in s run m lawful parts shows worker o y beside
        | inr waits ↦ elim waits [
          | inl is ↦ subst (λ x. IsIn x parts) (sym is) (top_is_in s run m lawful parts shows worker o)
          | inr before ↦ inr before
        ]
      ])
      worker suspends _ refl
      (suspends_top (own s run m lawful parts shows worker o) place newest.ordinal (at_top s run m lawful parts shows worker o place (joins newest.ordinal) is_next) not_ended (ap (map label_of) under_is))
      closed_booked
      (sym (shown_without o.left o.right)) (
        (waits_now, inl refl, (refl, newest, older, children_are, refl)),
        each_map (λ x. (w : Waiting) × Among w m.waiting × IsWaiting x w) (λ x. (w : Waiting) × Among w (waits_now ∷ m.waiting) × IsWaiting x w) parts.waiting
            (λ x there w. (w.0, inr w.1, w.2)) shows.waits,
      ) (
        (o.top, inl refl, (refl, newest, older, children_are, refl)),
        each_map (λ w. (x : Thread) × Among x parts.waiting × IsWaiting x w) (λ w. (x : Thread) × Among x (o.top ∷ parts.waiting) × IsWaiting x w) m.waiting
            (λ w there x. (x.0, inr x.1, x.2)) shows.waiting,
      )
      ((λ there. let found = among_mapped label_of o.top.label parts.waiting there in waiting_differs s run m lawful parts shows worker o found.0 found.1 (sym found.2)), shows.wait_once)
      closed_told
      (let was = words_were s run m lawful parts shows worker o in let none = ap (total thread_words) under_is in
      let is = total_append deque_words o.left o.right in omega (arith, was, none, is))
    where
      waits_now : Waiting
      waits_now = record { thread = o.top.label; child = newest.ordinal }

      not_ended : ¬ HasEnded s m (fork_of o.top.label newest.ordinal)
      not_ended ended =
          let stands = subst (Each (ChildStands s.list (done_at m) parts o.top.id o.top.label)) children_are (top_stands s run m lawful parts shows worker o).children in
          elim (stands.0.ended ended) [
            | inl given ↦ true≢false (sym given ∙ missing)
            | inr kept ↦ each_among (λ result. result.id ≢ newest.id) kept.0 parts.results unkept kept.1 kept.2
          ]

pub give_ups_are_events : (s : Setting) → 0 < s.quota → IsDepthFirst s.quota s.list → GiveUpsAreEvents s
give_ups_are_events s some run m parts worker next lawful shows (events.gives_up_deque o periods shuts) = given_up s run m lawful parts shows worker o periods shuts

pub waits_are_events : (s : Setting) → 0 < s.quota → IsDepthFirst s.quota s.list → WaitsAreEvents s
waits_are_events s some run m parts worker next lawful shows (events.suspends_top o place newest older periods is_next children missing unkept under shuts) =
    suspended s run m lawful parts shows worker o periods shuts place newest older is_next children missing unkept under

-- nobody whose deques are another's owns one
none_owned : (worker : ℕ) (deques : List Deque) → Each (λ d. d.owner ≢ Some worker) deques → owned_by worker (map deque_shown deques) ≡ 0
none_owned worker [] all = refl
none_owned worker (d ∷ deques) all =
    let here = by_owner d.owner all.0 in let rest = none_owned worker deques all.1 in omega (arith, here, rest)
  where
    by_owner : (owner : Option ℕ) → owner ≢ Some worker → one_if_worker worker owner ≡ 0
    by_owner None other = refl
    by_owner (Some w) other = elim (cases_of_one worker w) [
      | inl same ↦ absurd (other (ap Some (sym same.0)))
      | inr differs ↦ differs.1
    ]

none_with : (id : ℕ) (deques : List Deque) → Each (λ d. d.id ≢ id) deques → with_id id (map deque_shown deques) ≡ 0
none_with id [] all = refl
none_with id (d ∷ deques) all =
    let here : ◌≡◌ {A = ℕ} (cond (nat_eq id d.id) 1 0) 0 = elim (cases_of_one id d.id) [ inl same ↦ absurd (all.0 (sym same.0)) | inr differs ↦ differs.1 ] in
    let rest = none_with id deques all.1 in omega (arith, here, rest)

module _ (s : Setting) (run : IsDepthFirst s.quota s.list) (m : Moment) (lawful : IsLawful s m) (parts : Parts) (shows : Shows s.quota s.list parts m) (worker : ℕ) where
  idle : worker < s.workers → Each (λ d. d.owner ≢ Some worker) parts.deques → IsIdle s m worker
  idle below none = record { is_worker = below; owns_none = ap (owned_by worker) shows.deques ∙ none_owned worker parts.deques none }

  begun_told : (ahead : Bool) (periods : List Period) → Begins parts worker ahead (length m.books) periods → Tell s.quota s.list periods (m.books ++ new_book worker ahead ∷ [])
  begun_told ahead periods begins =
      subst (λ a. Tell s.quota s.list periods (m.books ++ record { ahead = a; owner = Some worker; ran = [] } ∷ [])) begins.marked
      (subst (λ w. Tell s.quota s.list periods (m.books ++ record { ahead = begins.new.ahead; owner = w; ran = [] } ∷ [])) begins.owner
      (beginning_is_told s.quota s.list parts.periods periods m.books begins.new shows.books begins.adds begins.numbered begins.ran_nothing begins.bore_none begins.unused))

  begun_stays : (ahead : Bool) (number : ℕ) (periods : List Period) → Begins parts worker ahead number periods → (id : ThreadId) (label : List ℕ) → HasLabel parts.periods id label → HasLabel periods id label
  begun_stays ahead number periods begins id label has = labels_stay_at_a_beginning parts.periods periods begins.new id label begins.adds has

  pub stolen_beside : (left right : List Deque) (victim : Deque) (first : Thread) (others : List Thread) (bottom : Thread) (id : ℕ) (periods : List Period)
      → worker < s.workers → Each (λ d. d.owner ≢ Some worker) parts.deques → length left < s.workers → parts.deques ≡ left ++ victim ∷ right
      → victim.threads ≡ first ∷ (others ++ bottom ∷ []) → Each (λ d. d.id ≢ id) parts.deques → Begins parts worker true (length m.books) periods
      → Comes s m worker (steals (length left) id) (record parts {
        deques = left ++ record { id = victim.id; owner = victim.owner; threads = first ∷ others } ∷ record { id = id; owner = Some worker; threads = bottom ∷ [] } ∷ right;
        periods = periods;
      })
  stolen_beside left right victim first others bottom id periods below none reach deques_are threads_are new_id begins =
      subst (λ n. Comes s m worker (steals n id) next) many
      (moved s m parts shows next refl (begun_stays true (length m.books) periods begins) was_in
      worker (steals (length (map deque_shown left)) id) _ refl event (begun_same m.books (new_book worker true) refl)
      (sym shown_next) shows.waits shows.waiting shows.wait_once (begun_told true periods begins) words)
    where
      kept : Deque
      kept = record { id = victim.id; owner = victim.owner; threads = first ∷ others }

      thiefs : Deque
      thiefs = record { id = id; owner = Some worker; threads = bottom ∷ [] }

      next : Parts
      next = record parts { deques = left ++ kept ∷ thiefs ∷ right; periods = periods }

      many : length (map deque_shown left) ≡ length left
      many = Rattle.std.proofs.lemmas.List.length-map left deque_shown

      shown_next : map deque_shown (left ++ kept ∷ thiefs ∷ right) ≡ map deque_shown left ++ deque_shown kept ∷ deque_shown thiefs ∷ map deque_shown right
      shown_next = map-append deque_shown left (kept ∷ thiefs ∷ right)

      after : Moment
      after = record {
        deques = map deque_shown left ++ deque_shown kept ∷ deque_shown thiefs ∷ map deque_shown right;
        waiting = m.waiting;
        books = m.books ++ new_book worker true ∷ [];
      }

      event : May s m worker (steals (length (map deque_shown left)) id) after
      event = steals_beside (map deque_shown left) (map deque_shown right) (deque_shown victim) first.label (map label_of others) bottom.label id (idle below none)
          (subst (λ n. n < s.workers) (sym many) reach)
          (shows.deques ∙ ap (map deque_shown) deques_are ∙ map-append deque_shown left (victim ∷ right))
          (ap (map label_of) threads_are ∙ ap (λ t. first.label ∷ t) (map-append label_of others (bottom ∷ [])))
          (ap (with_id id) shows.deques ∙ none_with id parts.deques new_id)

      of_victim : (y : Thread) → Among y victim.threads → IsIn y parts
      of_victim y there = inl (subst (InDeques y) (sym deques_are) (in_here y left right victim there))

      of_beside : (y : Thread) → InDeques y (left ++ right) → IsIn y parts
      of_beside y there = inl (subst (InDeques y) (sym deques_are) (in_wider y left right victim there))

      was_in : (y : Thread) → IsIn y next → IsIn y parts
      was_in y there = elim there [
        | inl in_deque ↦ elim (by_deque y left (thiefs ∷ right) kept in_deque) [
          | inl of_kept ↦ of_victim y (subst (Among y) (sym threads_are) (among_left y (first ∷ others) (bottom ∷ []) of_kept))
          | inr beside ↦ elim (by_deque y left right thiefs beside) [
            | inl of_thief ↦ of_victim y (subst (Among y) (sym threads_are) (among_right y (first ∷ others) (bottom ∷ []) of_thief))
            | inr rest ↦ of_beside y rest
          ]
        ]
        | inr waiting ↦ inr waiting
      ]

      words : words_of next ≡ words_of parts
      words =
          let was = ap (total deque_words) deques_are in let a = deque_words_middle left right victim in
          let v = ap (total thread_words) threads_are in let b = total_append thread_words others (bottom ∷ []) in
          let c = deque_words_middle left (thiefs ∷ right) kept in omega (arith, was, a, v, b, c)

  pub taken_over : (left right : List Deque) (thread : Thread) (id : ℕ) (periods : List Period) → worker < s.workers → Each (λ d. d.owner ≢ Some worker) parts.deques → length left < s.workers
      → parts.deques ≡ left ++ record { id = id; owner = None; threads = thread ∷ [] } ∷ right → Begins parts worker (nat_lt 0 (length left)) (length m.books) periods
      → Comes s m worker (steals (length left) id) (record parts { deques = left ++ record { id = id; owner = Some worker; threads = thread ∷ [] } ∷ right; periods = periods })
  taken_over left right thread id periods below none reach deques_are begins =
      subst (λ n. Comes s m worker (steals n id) next) many
      (moved s m parts shows next refl (begun_stays (nat_lt 0 (length left)) (length m.books) periods begins) was_in
      worker (steals (length (map deque_shown left)) id) _ refl event (begun_same m.books (new_book worker (nat_lt 0 (length (map deque_shown left)))) refl)
      (sym (shown_middle left right (record { id = id; owner = Some worker; threads = thread ∷ [] }))) shows.waits shows.waiting shows.wait_once
      (subst (λ n. Tell s.quota s.list periods (m.books ++ new_book worker (nat_lt 0 n) ∷ [])) (sym many) (begun_told (nat_lt 0 (length left)) periods begins)) words)
    where
      next : Parts
      next = record parts { deques = left ++ record { id = id; owner = Some worker; threads = thread ∷ [] } ∷ right; periods = periods }

      many : length (map deque_shown left) ≡ length left
      many = Rattle.std.proofs.lemmas.List.length-map left deque_shown

      after : Moment
      after = record {
        deques = map deque_shown left ++ record { id = id; owner = Some worker; threads = thread.label ∷ [] } ∷ map deque_shown right;
        waiting = m.waiting;
        books = m.books ++ new_book worker (nat_lt 0 (length (map deque_shown left))) ∷ [];
      }

      event : May s m worker (steals (length (map deque_shown left)) id) after
      event = takes_over (map deque_shown left) (map deque_shown right) thread.label id (idle below none) (subst (λ n. n < s.workers) (sym many) reach)
          (shows.deques ∙ ap (map deque_shown) deques_are ∙ shown_middle left right (record { id = id; owner = None; threads = thread ∷ [] }))

      was_in : (y : Thread) → IsIn y next → IsIn y parts
      was_in y there = elim there [
        | inl in_deque ↦ inl (subst (InDeques y) (sym deques_are) (elim (by_deque y left right (record { id = id; owner = Some worker; threads = thread ∷ [] }) in_deque) [
          | inl here ↦ in_here y left right (record { id = id; owner = None; threads = thread ∷ [] }) here
          | inr beside ↦ in_wider y left right (record { id = id; owner = None; threads = thread ∷ [] }) beside
        ]))
        | inr waiting ↦ inr waiting
      ]

      words : words_of next ≡ words_of parts
      words =
          let was = ap (total deque_words) deques_are in let a = deque_words_middle left right (record { id = id; owner = None; threads = thread ∷ [] }) in
          let b = deque_words_middle left right (record { id = id; owner = Some worker; threads = thread ∷ [] }) in omega (arith, was, a, b)

pub thefts_are_events : (s : Setting) → 0 < s.quota → IsDepthFirst s.quota s.list → TheftsAreEvents s
thefts_are_events s some run m parts worker place id next lawful shows (events.steals_beside left right victim first others bottom new periods below none reach deques_are threads_are new_id begins) =
    stolen_beside s run m lawful parts shows worker left right victim first others bottom new periods below none reach deques_are threads_are new_id begins
thefts_are_events s some run m parts worker place id next lawful shows (events.takes_over left right thread same periods below none reach deques_are begins) =
    taken_over s run m lawful parts shows worker left right thread same periods below none reach deques_are begins
