-- Plays are runs, they end, and with room for all they finish.
use Rattle.std.proofs.Common.{◌≡◌, ℕ, zero, suc, ◌+◌, ◌*◌, ◌≤◌, ◌<◌, ◌⊎◌, List, [], ◌∷◌, ◌++◌, length, inl, inr, refl, sym, ap, subst, ◌∙◌, arith, length-append, true≢false, ℤ, pos, ◌+ℤ◌, ◌≤ℤ◌, ◌<ℤ◌, nat_lt, true}
use Rattle.std.specs.Prelude.{Option, None, Some, is_some, slice_get, unwrap_or}
use Rattle.std.proofs.lemmas.Bool.{cases_lt}
use Rattle.std.proofs.lemmas.Int.{ints, by_lt_z}
use Rattle.std.proofs.Math.Nat.{mod-lt}
use Rattle.depth_first_run.specs.Passed.Actions.{Deed, forks, joins, allocates, releases, dummy, faults, ends, record_words, weight_of}
use Rattle.depth_first_run.specs.Passed.Runs.{IsDepthFirst}
use Rattle.depth_first_run.specs.Passed.Facts.{action_at, deed_at, words_at, weight_at}
use Rattle.deque_machine.specs.Lists.{total}
use Rattle.deque_machine.specs.Books.{booked, periods_ahead}
use Rattle.deque_machine.specs.Lawful.{LawfulBooks}
use Rattle.deque_machine.proofs.Lists.{each_from, times_among}
use Rattle.deque_machine.proofs.Keeping.{closed_same, begun_same, prefix_of}
use Rattle.deque_machine.proofs.Whole.{few_places, total_ones}
use Rattle.deque_machine.specs.Moments.{Deque, Moment, opening, done_at, live_at}
use Rattle.deque_machine.specs.Machine.{Setting, Event, steals, does, suspends, gives_up, Owns, books_with, books_closed, new_book, May, steals_beside, takes_over, forks_child, joins_child, allocates_within, allocates_above, releases_words, meets_fault, runs_dummy, ends_above_parent, ends_and_wakes, ends_and_leaves, suspends_top, gives_deque_up}
use Rattle.deque_machine.specs.LawfulOrder.{IsLawful}
use Rattle.deque_machine.specs.Runs.{Pair, Reaches, place_of}
use Rattle.deque_machine.specs.Play.{IsForced, NoneFree, words_taken, taken_by, one_if_fork, Limits, Stop, arena_full, steps_spent, deques_full, Ending, finished, stopped, IsFirst, CanMove, Stays, Wants, a_theft, a_give_up, a_wait, an_action, Fills, Meets, no_deque, no_words, no_steps, Turn, words_drawn, Plays, is_over, is_stopped, goes_on}
use Rattle.deque_machine.specs.Laws.{PlaysAreRuns, PlaysEnd, PlaysFinish, SomebodysTurn, WantedMayCome}
use Rattle.deque_machine.specs.Fronts.{PlaysOn, stays_here, takes_turn, FrontsGoOn}
use Rattle.deque_machine.specs.Completeness.{CoversNext, ArenasWithRoomLast, ArenasWithTheBoundLast, ActionsSuffice, DequesSuffice}
use Rattle.deque_machine.proofs.Kept.{opening_is_lawful}
use Rattle.deque_machine.proofs.Reached.{lawful_along, arena_refuses}
use Rattle.deque_machine.proofs.Sizes.{booked_more, arena_never_fills, deques_at_most}
use Rattle.deque_machine.proofs.Ends.{runs_end}
use Rattle.deque_machine.proofs.Progress.{wanted_comes}
use Rattle.deque_machine.proofs.Movers.{Decided, ended_or_not, mover_wants, somebody_moves, stays_or_not}

IsGiveUp : Event → Type 0
IsGiveUp (steals place id) = ⊥
IsGiveUp (does place) = ⊥
IsGiveUp suspends = ⊥
IsGiveUp gives_up = Unit {0}

-- a give up that the rules want is not free
pub forced_of : (s : Setting) (m : Moment) (worker word : ℕ) (event : Event) → Wants s m worker word event → event ≡ gives_up → IsForced s m worker
unfolding IsGiveUp
forced_of s m worker word event (a_theft place id idle first named) is = absurd (subst IsGiveUp (sym is) tt)
forced_of s m worker word event (a_give_up forced) is = forced
forced_of s m worker word event (a_wait o place child at none) is = absurd (subst IsGiveUp (sym is) tt)
forced_of s m worker word event (an_action o place next has fits) is = absurd (subst IsGiveUp (sym is) tt)

module _ (s : Setting) (limits : Limits) (words : ℕ → ℕ) where
  are_runs : (n : ℕ) (m : Moment) (run : List Pair) (last : Moment) (ending : Ending) → Plays s limits words n m run last ending
      → (reaches : Reaches s m run last) × NoneFree s m run last reaches
  are_runs n m run last ending (is_over n' m' has) = (refl, tt)
  are_runs n m run last ending (is_stopped n' m' pair stop turn meets) = (refl, tt)
  are_runs n m run last ending (goes_on n' m' next last' pair later ending' turn none may rest) =
      let r = are_runs (n + words_drawn m pair.worker) next later last ending rest in
      ((next, may, r.0), (forced_of s m pair.worker (words (suc n)) pair.event turn.wants, r.1))

-- the front of a play is such a run too
module _ (s : Setting) (limits : Limits) (words : ℕ → ℕ) where
  pub front_is_run : (n : ℕ) (m : Moment) (front : List Pair) (drawn : ℕ) (here : Moment) → PlaysOn s limits words n m front drawn here
      → (reaches : Reaches s m front here) × NoneFree s m front here reaches
  front_is_run n m front drawn here (stays_here n' m') = (refl, tt)
  front_is_run n m front drawn here (takes_turn n' m' next last pair later drawn' turn none may rest) =
      let r = front_is_run (n + words_drawn m pair.worker) next later drawn here rest in
      ((next, may, r.0), (forced_of s m pair.worker (words (suc n)) pair.event turn.wants, r.1))

  -- what goes on from it is the play
  pub front_goes_on : (n drawn : ℕ) (m here last : Moment) (front rest : List Pair) (ending : Ending) → PlaysOn s limits words n m front drawn here
      → Plays s limits words drawn here rest last ending → Plays s limits words n m (front ++ rest) last ending
  front_goes_on n drawn m here last front rest ending (stays_here n' m') plays = plays
  front_goes_on n drawn m here last front rest ending (takes_turn n' m' next last' pair later drawn' turn none may further) plays =
      goes_on n m next last pair (later ++ rest) ending turn none may
      (front_goes_on (n + words_drawn m pair.worker) drawn next here last later rest ending further plays)

  -- and so does one turn more
  pub front_with_turn : (n drawn : ℕ) (m here next : Moment) (front : List Pair) (pair : Pair) → PlaysOn s limits words n m front drawn here
      → Turn s words drawn here pair → ((stop : Stop) → ¬ Meets s limits here pair.event stop) → May s here pair.worker pair.event next
      → PlaysOn s limits words n m (front ++ pair ∷ []) (drawn + words_drawn here pair.worker) next
  front_with_turn n drawn m here next front pair (stays_here n' m') turn none may =
      takes_turn n m next next pair [] (n + words_drawn m pair.worker) turn none may (stays_here (n + words_drawn m pair.worker) next)
  front_with_turn n drawn m here next front pair (takes_turn n' m' next' last' pair' later drawn' turn' none' may' further) turn none may =
      takes_turn n m next' next pair' (later ++ pair ∷ []) (drawn + words_drawn here pair.worker) turn' none' may'
      (front_with_turn (n + words_drawn m pair'.worker) drawn next' here next later pair further turn none may)

pub fronts_go_on : (s : Setting) → 0 < s.quota → IsDepthFirst s.quota s.list → FrontsGoOn s
fronts_go_on s some list limits words n drawn m here last front rest ending on plays = front_goes_on s limits words n drawn m here last front rest ending on plays

pub plays_are_runs : (s : Setting) → 0 < s.quota → IsDepthFirst s.quota s.list → PlaysAreRuns s
plays_are_runs s some list limits words run last ending plays = are_runs s limits words 0 opening run last ending plays

-- one event more at the end of a run
pub one_more_event : (s : Setting) (run : List Pair) (first m next : Moment) (pair : Pair) (reaches : Reaches s first run m) → NoneFree s first run m reaches
    → May s m pair.worker pair.event next → (pair.event ≡ gives_up → IsForced s m pair.worker)
    → (longer : Reaches s first (run ++ pair ∷ []) next) × NoneFree s first (run ++ pair ∷ []) next longer
one_more_event s [] first m next pair reaches free may forced =
    ((next, subst (λ x. May s x pair.worker pair.event next) (sym reaches) may, refl), (λ is. subst (λ x. IsForced s x pair.worker) (sym reaches) (forced is), tt))
one_more_event s (done ∷ run) first m next pair reaches free may forced =
    let rest = one_more_event s run reaches.0 m next pair reaches.2 free.1 may forced in
    ((reaches.0, reaches.1, rest.0), (free.0, rest.1))

-- an event meets a stop, or not
stop_or_not : (s : Setting) (limits : Limits) (m : Moment) (event : Event) → ((stop : Stop) × Meets s limits m event stop) ⊎ ((stop : Stop) → ¬ Meets s limits m event stop)
stop_or_not s limits m suspends = inr (λ stop meets. no_stop stop meets)
  where
    no_stop : (stop : Stop) → Meets s limits m suspends stop → ⊥
    no_stop stop meets = elim meets [ ]
stop_or_not s limits m gives_up = inr (λ stop meets. no_stop stop meets)
  where
    no_stop : (stop : Stop) → Meets s limits m gives_up stop → ⊥
    no_stop stop meets = elim meets [ ]
stop_or_not s limits m (steals place id) = by_deque (slice_get m.deques place) refl
  where
    none_meets : ((d : Deque) → slice_get m.deques place ≡ Some d → Stays d → limits.deques ≤ length m.deques → ⊥) → (stop : Stop) → Meets s limits m (steals place id) stop → ⊥
    none_meets none stop (no_deque place id deque is stays many) = none deque is stays many

    by_deque : (o : Option Deque) → slice_get m.deques place ≡ o → ((stop : Stop) × Meets s limits m (steals place id) stop) ⊎ ((stop : Stop) → ¬ Meets s limits m (steals place id) stop)
    by_deque None is = inr (none_meets (λ d there stays many. true≢false (sym (ap is_some (sym is ∙ there)))))
    by_deque (Some d) is = elim (stays_or_not d) [
      | inr not ↦ inr (none_meets (λ e there stays many. not (subst Stays (ap (λ u. unwrap_or u d) (sym there ∙ is)) stays)))
      | inl stays ↦ elim (cases_lt (length m.deques) limits.deques) [
        | inl room ↦ inr (none_meets (λ e there e_stays many. absurd (omega arith)))
        | inr many ↦ inl (deques_full limits.deques, no_deque place id d is stays many)
      ]
    ]
stop_or_not s limits m (does place) = by_fills fills_or_not
  where
    fills_or_not : Decided (Fills s limits m place)
    fills_or_not = elim (cases_lt 0 (words_taken (action_at s.list place))) [
      | inr none ↦ inr (λ fills. let some = fills.0 in absurd (omega arith))
      | inl some ↦ by_lt_z (pos limits.capacity) (live_at s.list m +ℤ pos (words_at s.list place))
          (λ full. inl (some, full))
          (λ room. inr (λ fills. both (live_at s.list m +ℤ pos (words_at s.list place)) (pos limits.capacity) room fills.1))
    ]
      where
        both : (x y : ℤ) → x ≤ℤ y → y <ℤ x → ⊥
        both x y a b = omega (arith, ints)

    none_meets : ¬ Fills s limits m place → length (booked m.books) < limits.actions → (stop : Stop) → Meets s limits m (does place) stop → ⊥
    none_meets room few stop (no_words place fills) = room fills
    none_meets room few stop (no_steps place not many) = absurd (omega arith)

    by_fills : Decided (Fills s limits m place) → ((stop : Stop) × Meets s limits m (does place) stop) ⊎ ((stop : Stop) → ¬ Meets s limits m (does place) stop)
    by_fills (inl fills) = inl (arena_full (live_at s.list m) (words_at s.list place), no_words place fills)
    by_fills (inr room) = elim (cases_lt (length (booked m.books)) limits.actions) [
      | inl few ↦ inr (none_meets room few)
      | inr many ↦ inl (steps_spent limits.actions, no_steps place room many)
    ]

-- the first that passes is below n
in_range : (n word : ℕ) (Passes : ℕ → Type 0) (x : ℕ) → IsFirst n word Passes x → x < n
in_range n word Passes x first = let few = first.few in subst (λ t. t < n) (sym first.is) (mod-lt (word + first.turns) (let some : 0 < n = omega arith in some))

-- while the root has not ended it is somebody's turn
pub somebodys_turn : (s : Setting) → 0 < s.quota → IsDepthFirst s.quota s.list → SomebodysTurn s
somebodys_turn s some list words n m lawful workers not_over =
    let w = somebody_moves s list m lawful workers (words n) not_over in
    let e = mover_wants s list m lawful w.0 (words (suc n)) (w.1).passes in
    (record { worker = w.0; event = e.0 }, record { not_over = not_over; first = w.1; wants = e.1 })

pub wanted_may_come : (s : Setting) → 0 < s.quota → IsDepthFirst s.quota s.list → WantedMayCome s
wanted_may_come s some list m worker word event lawful below wants = wanted_comes s list m lawful worker below word event wants

module _ (s : Setting) (some : 0 < s.quota) (list : IsDepthFirst s.quota s.list) (fork : record_words ≤ s.quota) (workers : 0 < s.workers) (limits : Limits) (words : ℕ → ℕ) where
  ends_from : (fuel n : ℕ) (m : Moment) (so_far : List Pair) (reaches : Reaches s opening so_far m) → NoneFree s opening so_far m reaches
      → length so_far + fuel ≡ suc (3 * length s.list + s.workers) → (run : List Pair) × (last : Moment) × (ending : Ending) × Plays s limits words n m run last ending
  ends_from zero n m so_far reaches free size = let most = runs_end s some list fork so_far m reaches free in absurd (omega (arith, most, size))
  ends_from (suc fuel) n m so_far reaches free size =
      let lawful : IsLawful s m = lawful_along s list so_far opening m (opening_is_lawful s list) reaches in
      elim (ended_or_not s m []) [
        | inl has ↦ ([], m, finished, is_over n m has)
        | inr not_over ↦
            let turn = somebodys_turn s some list words n m lawful workers not_over in
            elim (stop_or_not s limits m (turn.0).event) [
              | inl stop ↦ ([], m, stopped stop.0, is_stopped n m turn.0 stop.0 turn.1 stop.1)
              | inr none ↦
                  let below = in_range s.workers (words n) (CanMove s m) (turn.0).worker (turn.1).first in
                  let next = wanted_comes s list m lawful (turn.0).worker below (words (suc n)) (turn.0).event (turn.1).wants in
                  let longer = one_more_event s so_far opening m next.0 turn.0 reaches free next.1 (forced_of s m (turn.0).worker (words (suc n)) (turn.0).event (turn.1).wants) in
                  let more = length-append so_far (turn.0 ∷ []) in
                  let rest = ends_from fuel (n + words_drawn m (turn.0).worker) next.0 (so_far ++ turn.0 ∷ []) longer.0 longer.1 (omega (arith, more, size)) in
                  (turn.0 ∷ rest.0, rest.1, rest.2, goes_on n m next.0 rest.1 turn.0 rest.0 rest.2 turn.1 none next.1 rest.3)
            ]
      ]

pub plays_end : (s : Setting) → 0 < s.quota → IsDepthFirst s.quota s.list → PlaysEnd s
plays_end s some list fork workers limits words =
    ends_from s some list fork workers limits words (suc (3 * length s.list + s.workers)) 0 opening [] refl tt (omega arith)

acted : (s : Setting) (m : Moment) (worker : ℕ) (o : Owns m worker) (owner : Option ℕ) (place : ℕ) → length (booked (books_with o owner place)) ≡ length (booked m.books) + 1
acted s m worker o owner place =
    let more = booked_more (λ i. 1) o.older o.newer o.book owner place in
    let a = total_ones (booked (books_with o owner place)) in let b = total_ones (booked (o.older ++ o.book ∷ o.newer)) in
    let c : length (booked m.books) ≡ length (booked (o.older ++ o.book ∷ o.newer)) = ap (λ t. length (booked t)) o.books_are in omega (arith, more, a, b, c)

closed : (s : Setting) (m : Moment) (worker : ℕ) (o : Owns m worker) → length (booked (books_closed o)) ≡ length (booked m.books) + 0
closed s m worker o =
    let a : length (booked (books_closed o)) ≡ length (booked (o.older ++ o.book ∷ o.newer)) = ap length (closed_same o.older o.newer o.book None) in
    let c : length (booked m.books) ≡ length (booked (o.older ++ o.book ∷ o.newer)) = ap (λ t. length (booked t)) o.books_are in omega (arith, a, c)

-- an action is done once more
event_acts : (s : Setting) (m : Moment) (worker : ℕ) (event : Event) (after : Moment) → May s m worker event after
    → length (booked after.books) ≡ length (booked m.books) + length (place_of event)
event_acts s m worker event after (steals_beside left right victim first others bottom id idle reach deques_are threads_are new_id) =
    let same = ap length (begun_same m.books (new_book worker true) refl) in omega (arith, same)
event_acts s m worker event after (takes_over left right thread id idle reach deques_are) =
    let same = ap length (begun_same m.books (new_book worker (nat_lt 0 (length left))) refl) in omega (arith, same)
event_acts s m worker event after (forks_child o place child at fits) = acted s m worker o (Some worker) place
event_acts s m worker event after (joins_child o place child at has) = acted s m worker o (Some worker) place
event_acts s m worker event after (allocates_within o place at small fits) = acted s m worker o (Some worker) place
event_acts s m worker event after (allocates_above o place at large) = acted s m worker o (Some worker) place
event_acts s m worker event after (releases_words o place at) = acted s m worker o (Some worker) place
event_acts s m worker event after (meets_fault o place at) = acted s m worker o (Some worker) place
event_acts s m worker event after (runs_dummy o place at) = acted s m worker o None place
event_acts s m worker event after (ends_above_parent o place child parent below at under_is top_is) = acted s m worker o (Some worker) place
event_acts s m worker event after (ends_and_wakes o place before later parent at under_is waiting_is top_is) = acted s m worker o (Some worker) place
event_acts s m worker event after (ends_and_leaves o place at under_is unwaited) = acted s m worker o None place
event_acts s m worker event after (suspends_top o place child at not_ended under_is) = closed s m worker o
event_acts s m worker event after (gives_deque_up o) = closed s m worker o

-- the deque in the middle of a list
get_middle : (left : List Deque) (d : Deque) (right : List Deque) → slice_get (left ++ d ∷ right) (length left) ≡ Some d
get_middle [] d right = refl
get_middle (e ∷ left) d right = get_middle left d right

stolen_place : Event → ℕ
stolen_place (steals place id) = place
stolen_place (does place) = 0
stolen_place suspends = 0
stolen_place gives_up = 0

IsSteal : Event → Type 0
IsSteal (steals place id) = Unit {0}
IsSteal (does place) = ⊥
IsSteal suspends = ⊥
IsSteal gives_up = ⊥

-- a theft that leaves the victim there makes one deque more
theft_adds : (s : Setting) (m : Moment) (worker : ℕ) (event : Event) (after : Moment) → May s m worker event after → (place id : ℕ) → event ≡ steals place id
    → (d : Deque) → slice_get m.deques place ≡ Some d → Stays d → length after.deques ≡ suc (length m.deques)
unfolding stolen_place IsSteal
theft_adds s m worker event after (steals_beside left right victim first others bottom new idle reach deques_are threads_are new_id) place id is d there stays =
    let was : length m.deques ≡ length left + suc (length right) = ap length deques_are ∙ length-append left (victim ∷ right) in
    let now : length after.deques ≡ length left + suc (suc (length right)) =
    length-append left (record { id = victim.id; owner = victim.owner; threads = first ∷ others } ∷ record { id = new; owner = Some worker; threads = bottom ∷ [] } ∷ right) in omega (arith, was, now)
theft_adds s m worker event after (takes_over left right thread new idle reach deques_are) place id is d there stays =
    let e : Deque = record { id = new; owner = None; threads = thread ∷ [] } in
    let at : length left ≡ place = ap stolen_place is in
    let same : Some d ≡ Some e = sym there ∙ ap (slice_get m.deques) (sym at) ∙ ap (λ t. slice_get t (length left)) deques_are ∙ get_middle left e right in
    absurd (elim (subst Stays (ap (λ o. unwrap_or o d) same) stays) [ inl owned ↦ owned refl | inr many ↦ absurd (omega arith) ])
theft_adds s m worker event after (forks_child o p child at fits) place id is d there stays = absurd (subst IsSteal (sym is) tt)
theft_adds s m worker event after (joins_child o p child at has) place id is d there stays = absurd (subst IsSteal (sym is) tt)
theft_adds s m worker event after (allocates_within o p at small fits) place id is d there stays = absurd (subst IsSteal (sym is) tt)
theft_adds s m worker event after (allocates_above o p at large) place id is d there stays = absurd (subst IsSteal (sym is) tt)
theft_adds s m worker event after (releases_words o p at) place id is d there stays = absurd (subst IsSteal (sym is) tt)
theft_adds s m worker event after (meets_fault o p at) place id is d there stays = absurd (subst IsSteal (sym is) tt)
theft_adds s m worker event after (runs_dummy o p at) place id is d there stays = absurd (subst IsSteal (sym is) tt)
theft_adds s m worker event after (ends_above_parent o p child parent below at under_is top_is) place id is d there stays = absurd (subst IsSteal (sym is) tt)
theft_adds s m worker event after (ends_and_wakes o p before later parent at under_is waiting_is top_is) place id is d there stays = absurd (subst IsSteal (sym is) tt)
theft_adds s m worker event after (ends_and_leaves o p at under_is unwaited) place id is d there stays = absurd (subst IsSteal (sym is) tt)
theft_adds s m worker event after (suspends_top o p child at not_ended under_is) place id is d there stays = absurd (subst IsSteal (sym is) tt)
theft_adds s m worker event after (gives_deque_up o) place id is d there stays = absurd (subst IsSteal (sym is) tt)

-- an action that takes words weighs them
taken_weighs : (deed : Deed) (words : ℕ) → 0 < taken_by deed words → weight_of deed words ≡ pos words
taken_weighs (forks child) words some = refl
taken_weighs (joins child) words some = absurd (omega arith)
taken_weighs allocates words some = refl
taken_weighs releases words some = absurd (omega arith)
taken_weighs dummy words some = absurd (omega arith)
taken_weighs faults words some = absurd (omega arith)
taken_weighs ends words some = absurd (omega arith)

-- where a play is stopped: a run leads to this moment, and the event that meets the stop might come there
pub record StoppedAt (s : Setting) (limits : Limits) (last : Moment) (stop : Stop) : Type 0 where
  pub so_far : List Pair
  pub worker : ℕ
  pub event : Event
  pub after : Moment
  pub reaches : Reaches s opening so_far last
  pub may : May s last worker event after
  pub longer : Reaches s opening (so_far ++ record { worker = worker; event = event } ∷ []) after
  pub meets : Meets s limits last event stop

-- what is known of the last moment of a play, by its ending
abbrev WhereStopped : Setting → Limits → Moment → Ending → Type 0
WhereStopped s limits last finished = Unit {0}
WhereStopped s limits last (stopped stop) = StoppedAt s limits last stop

-- what excludes a stop at a moment: room for all words that the list takes, or for the bound behind the next action; as many actions as the
-- list has; more deques than it has Forks
abbrev pub Excluded : Setting → Limits → Moment → Stop → Type 0
Excluded s limits m (arena_full live asked) = (total words_taken s.list ≤ limits.capacity) ⊎ CoversNext s limits.capacity m
Excluded s limits m (steps_spent limit) = length s.list ≤ limits.actions
Excluded s limits m (deques_full deques) = total one_if_fork s.list < limits.deques

module _ (s : Setting) (some : 0 < s.quota) (list : IsDepthFirst s.quota s.list) (limits : Limits) where
  -- an Alloc or a Fork that does not fit, though its words or the bound behind it do
  no_filling : (so_far : List Pair) (m : Moment) → Reaches s opening so_far m → (worker place : ℕ) (after : Moment)
      → May s m worker (does place) after → Fills s limits m place
      → (total words_taken s.list ≤ limits.capacity) ⊎ CoversNext s limits.capacity m → ⊥
  no_filling so_far m reaches worker place after may fills (inl arena) =
      let most = arena_never_fills s some list so_far m after worker place reaches may in
      too_many (live_at s.list m) (weight_at s.list place) (words_at s.list place) (total words_taken s.list) limits.capacity most
      (taken_weighs (deed_at s.list place) (words_at s.list place) fills.0) fills.1 arena
    where
      too_many : (x w : ℤ) (n t c : ℕ) → (x +ℤ w) ≤ℤ pos t → w ≡ pos n → pos c <ℤ (x +ℤ pos n) → t ≤ c → ⊥
      too_many x w n t c a b d e = omega (arith, ints)
  no_filling so_far m reaches worker place after may fills (inr covers) =
      let p = prefix_of s.list (done_at after) in
      let more = arena_refuses s some list so_far m after worker place p.0 (periods_ahead p.0 after.books) limits.capacity reaches may
      (covers worker place p.0 after may fills.0 p.1)
      (subst (λ w. pos limits.capacity <ℤ (live_at s.list m +ℤ w))
      (sym (taken_weighs (deed_at s.list place) (words_at s.list place) fills.0)) fills.1) p.1 in
      absurd (omega (arith, more))

  no_stop : (so_far : List Pair) (m : Moment) → Reaches s opening so_far m → (worker : ℕ) (event : Event) (after : Moment) → May s m worker event after
      → (longer : Reaches s opening (so_far ++ record { worker = worker; event = event } ∷ []) after) → (stop : Stop) → Meets s limits m event stop
      → Excluded s limits m stop → ⊥
  no_stop so_far m reaches worker event after may longer stop (no_deque place id deque is stays many) deques =
      let more = theft_adds s m worker event after may place id refl deque is stays in
      let most = deques_at_most s some list (so_far ++ record { worker = worker; event = event } ∷ []) after longer in omega (arith, more, most, many, deques)
  no_stop so_far m reaches worker event after may longer stop (no_words place fills) arena =
      no_filling so_far m reaches worker place after may fills arena
  no_stop so_far m reaches worker event after may longer stop (no_steps place room many) actions =
      let lawful : IsLawful s after = lawful_along s list (so_far ++ record { worker = worker; event = event } ∷ []) opening after (opening_is_lawful s list) longer in
      let books : LawfulBooks s.quota s.list after.books = (lawful.periods).lawful in
      let more = event_acts s m worker (does place) after may in
      let few = few_places (booked after.books) (length s.list) books.different
      (each_from (λ i. i < length s.list) (booked after.books) (λ i there. books.of_the_list i (times_among i (booked after.books) there))) in
      omega (arith, more, few, many, actions)

-- one event more leads to one moment more
one_further : (s : Setting) (run : List Pair) (first m next : Moment) (pair : Pair) → Reaches s first run m → May s m pair.worker pair.event next
    → Reaches s first (run ++ pair ∷ []) next
one_further s [] first m next pair reaches may = (next, subst (λ x. May s x pair.worker pair.event next) (sym reaches) may, refl)
one_further s (done ∷ run) first m next pair reaches may = (reaches.0, reaches.1, one_further s run reaches.0 m next pair reaches.2 may)

-- an event that the rules want at a moment of a run meets no stop that is excluded there
pub wanted_meets_none : (s : Setting) → 0 < s.quota → IsDepthFirst s.quota s.list → (limits : Limits) (front : List Pair) (m : Moment)
    → Reaches s opening front m → (worker word : ℕ) (event : Event) → worker < s.workers → Wants s m worker word event
    → (stop : Stop) → Meets s limits m event stop → Excluded s limits m stop → ⊥
wanted_meets_none s some list limits front m reaches worker word event few wants stop meets none =
    let lawful : IsLawful s m = lawful_along s list front opening m (opening_is_lawful s list) reaches in
    let next = wanted_comes s list m lawful worker few word event wants in
    let longer = one_further s front opening m next.0 (record { worker = worker; event = event }) reaches next.1 in
    no_stop s some list limits front m reaches worker event next.0 next.1 longer stop meets none

module _ (s : Setting) (some : 0 < s.quota) (list : IsDepthFirst s.quota s.list) (limits : Limits) (words : ℕ → ℕ) where
  stopped_from : (n : ℕ) (m : Moment) (run : List Pair) (last : Moment) (ending : Ending) (so_far : List Pair)
      (reaches : Reaches s opening so_far m) → NoneFree s opening so_far m reaches
      → Plays s limits words n m run last ending → WhereStopped s limits last ending
  stopped_from n m run last ending so_far reaches free (is_over n' m' has) = tt
  stopped_from n m run last ending so_far reaches free (is_stopped n' m' pair stop turn meets) =
      let lawful : IsLawful s m = lawful_along s list so_far opening m (opening_is_lawful s list) reaches in
      let next = wanted_comes s list m lawful pair.worker (in_range s.workers (words n) (CanMove s m) pair.worker turn.first) (words (suc n)) pair.event turn.wants in
      let longer = one_more_event s so_far opening m next.0 pair reaches free next.1 (forced_of s m pair.worker (words (suc n)) pair.event turn.wants) in
      record {
        so_far = so_far;
        worker = pair.worker;
        event = pair.event;
        after = next.0;
        reaches = reaches;
        may = next.1;
        longer = longer.0;
        meets = meets;
      }
  stopped_from n m run last ending so_far reaches free (goes_on n' m' next last' pair later ending' turn none may rest) =
      let longer = one_more_event s so_far opening m next pair reaches free may (forced_of s m pair.worker (words (suc n)) pair.event turn.wants) in
      stopped_from (n + words_drawn m pair.worker) next later last ending (so_far ++ pair ∷ []) longer.0 longer.1 rest

  -- a play does not end with a stop that is excluded at its last moment
  pub excluded : (run : List Pair) (last : Moment) (stop : Stop) → Excluded s limits last stop
      → Plays s limits words 0 opening run last (stopped stop) → ⊥
  excluded run last stop none plays =
      let at = stopped_from 0 opening run last (stopped stop) [] refl tt plays in
      no_stop s some list limits at.so_far last at.reaches at.worker at.event at.after at.may at.longer stop at.meets none

  finishes : (run : List Pair) (last : Moment) (ending : Ending) → total words_taken s.list ≤ limits.capacity
      → length s.list ≤ limits.actions → total one_if_fork s.list < limits.deques
      → Plays s limits words 0 opening run last ending → ending ≡ finished
  finishes run last finished arena actions deques plays = refl
  finishes run last (stopped (arena_full live asked)) arena actions deques plays =
      absurd (excluded run last (arena_full live asked) (inl arena) plays)
  finishes run last (stopped (steps_spent limit)) arena actions deques plays = absurd (excluded run last (steps_spent limit) actions plays)
  finishes run last (stopped (deques_full most)) arena actions deques plays = absurd (excluded run last (deques_full most) deques plays)

pub plays_finish : (s : Setting) → 0 < s.quota → IsDepthFirst s.quota s.list → PlaysFinish s
plays_finish s some list limits words run last ending arena actions deques plays =
    finishes s some list limits words run last ending arena actions deques plays

pub arenas_with_room_last : (s : Setting) → 0 < s.quota → IsDepthFirst s.quota s.list → ArenasWithRoomLast s
arenas_with_room_last s some list limits words run last live asked room plays =
    excluded s some list limits words run last (arena_full live asked) (inl room) plays

pub arenas_with_the_bound_last : (s : Setting) → 0 < s.quota → IsDepthFirst s.quota s.list → ArenasWithTheBoundLast s
arenas_with_the_bound_last s some list limits words run last live asked covers plays =
    excluded s some list limits words run last (arena_full live asked) (inr covers) plays

pub actions_suffice : (s : Setting) → 0 < s.quota → IsDepthFirst s.quota s.list → ActionsSuffice s
actions_suffice s some list limits words run last limit few plays =
    excluded s some list limits words run last (steps_spent limit) few plays

pub deques_suffice : (s : Setting) → 0 < s.quota → IsDepthFirst s.quota s.list → DequesSuffice s
deques_suffice s some list limits words run last most few plays =
    excluded s some list limits words run last (deques_full most) few plays
