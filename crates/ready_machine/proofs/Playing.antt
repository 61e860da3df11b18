-- Plays of a ready list are runs, they end, and with room for all they finish.
use Rattle.std.proofs.Common.{◌≡◌, ℕ, zero, suc, ◌+◌, ◌*◌, ◌≤◌, ◌<◌, ◌⊎◌, List, [], ◌∷◌, ◌++◌, length, inl, inr, refl, sym, ap, subst, ◌∙◌, arith, length-append, ℤ, pos, ◌+ℤ◌, ◌≤ℤ◌, ◌<ℤ◌}
use Rattle.std.specs.Prelude.{None, Some, slice_get, unwrap_or}
use Rattle.std.proofs.lemmas.Bool.{cases_lt}
use Rattle.std.proofs.lemmas.Int.{ints, by_lt_z}
use Rattle.std.proofs.Math.Nat.{mod-lt}
use Rattle.depth_first_list.specs.Actions.{Deed, forks, joins, allocates, releases, dummy, faults, ends, record_words, weight_of}
use Rattle.depth_first_list.specs.Runs.{IsDepthFirst}
use Rattle.depth_first_list.specs.Facts.{action_at, deed_at, words_at, weight_at}
use Rattle.deque_machine.specs.Lists.{total}
use Rattle.deque_machine.specs.Books.{booked, periods_ahead}
use Rattle.deque_machine.specs.Lawful.{LawfulBooks}
use Rattle.deque_machine.proofs.Lists.{each_from, times_among}
use Rattle.deque_machine.proofs.Keeping.{prefix_of}
use Rattle.deque_machine.proofs.Whole.{few_places}
use Rattle.deque_machine.specs.Moments.{Deque, Moment, opening, done_at, live_at, owned_by}
use Rattle.deque_machine.specs.Machine.{Setting, Event, steals, does, suspends, gives_up}
use Rattle.deque_machine.specs.Runs.{Pair}
use Rattle.deque_machine.specs.Play.{IsForced, words_taken, taken_by, Limits, Stop, arena_full, steps_spent, deques_full, Ending, finished, stopped, IsFirst, Stays, Wants, a_theft, a_give_up, a_wait, an_action, Fills, Meets, no_deque, no_words, no_steps}
use Rattle.deque_machine.proofs.Movers.{Decided, ended_or_not}
use Rattle.deque_machine.proofs.Playing.{forced_of}
use Rattle.ready_machine.specs.Entries.{entry, IsLeftmostReady, IsReadyList}
use Rattle.ready_machine.specs.ReadyMachine.{MayReady, ReadyReaches, NoneGivenFree}
use Rattle.ready_machine.specs.ReadyPlay.{CanGo, WantsReady, a_take, of_its_entry, ReadyTurn, ReadyPlays, is_over, is_stopped, goes_on}
use Rattle.ready_machine.specs.ReadyFronts.{ReadyPlaysOn, stays_here, takes_turn}
use Rattle.ready_machine.specs.PlayLaws.{ReadyPlaysAreRuns, ReadyPlaysEnd, ReadyPlaysFinish, ListsNeverFill, ReadyActionsSuffice, ReadyArenasWithRoomLast, ReadyCoversNext, ReadyArenasWithTheBoundLast, ReadyHasCause, ReadyEndingsHaveCauses}
use Rattle.ready_machine.proofs.Sharing.{kept_ready, opening_is_ready}
use Rattle.ready_machine.proofs.Along.{ready_along, arena_refuses, arena_never_fills}
use Rattle.ready_machine.proofs.Changes.{changes, acts_once}
use Rattle.ready_machine.proofs.Ends.{runs_end}
use Rattle.ready_machine.proofs.Cuts.{get_middle}
use Rattle.ready_machine.proofs.Agreeing.{never_stays}
use Rattle.ready_machine.proofs.Coming.{wanted_may_come, somebodys_turn}

IsGiveUp : Event → Type 0
IsGiveUp (steals place id) = ⊥
IsGiveUp (does place) = ⊥
IsGiveUp suspends = ⊥
IsGiveUp gives_up = Unit {0}

IsSteal : Event → Type 0
IsSteal (steals place id) = Unit {0}
IsSteal (does place) = ⊥
IsSteal suspends = ⊥
IsSteal gives_up = ⊥

-- a give up that the rules want is not free
pub forced : (s : Setting) (m : Moment) (worker : ℕ) (event : Event) → WantsReady s m worker event → event ≡ gives_up → IsForced s m worker
unfolding IsGiveUp
forced s m worker event (a_take left right id thread idle at) is = absurd (subst IsGiveUp (sym is) tt)
forced s m worker event (of_its_entry event' some wants) is = forced_of s m worker 0 event wants is

-- the first that passes is below n
in_range : (n word : ℕ) (Passes : ℕ → Type 0) (x : ℕ) → IsFirst n word Passes x → x < n
in_range n word Passes x first =
    let few = first.few in subst (λ t. t < n) (sym first.is) (mod-lt (word + first.turns) (let some : 0 < n = omega arith in some))

module _ (s : Setting) (limits : Limits) (words : ℕ → ℕ) where
  are_runs : (n : ℕ) (m : Moment) (run : List Pair) (last : Moment) (ending : Ending) → ReadyPlays s limits words n m run last ending
      → (reaches : ReadyReaches s m run last) × NoneGivenFree s m run last reaches
  are_runs n m run last ending (is_over n' m' has) = (refl, tt)
  are_runs n m run last ending (is_stopped n' m' pair stop turn meets) = (refl, tt)
  are_runs n m run last ending (goes_on n' m' next last' pair later ending' turn none may rest) =
      let r = are_runs (suc n) next later last ending rest in
      ((next, may, r.0), (forced s m pair.worker pair.event turn.wants, r.1))

  -- one turn more in front leads to the same cause
  cause_after : (n : ℕ) (m next last : Moment) (pair : Pair) (later : List Pair) (ending : Ending) → ReadyTurn s words n m pair
      → ((stop : Stop) → ¬ Meets s limits m pair.event stop) → MayReady s m pair.worker pair.event next
      → ReadyHasCause s limits words (suc n) next later last ending → ReadyHasCause s limits words n m (pair ∷ later) last ending
  cause_after n m next last pair later finished turn none may has = has
  cause_after n m next last pair later (stopped stop) turn none may cause =
      (cause.0, cause.1, cause.2, cause.3, takes_turn n m next last pair later cause.0 turn none may cause.4)

  cause_of : (n : ℕ) (m : Moment) (run : List Pair) (last : Moment) (ending : Ending) → ReadyPlays s limits words n m run last ending
      → ReadyHasCause s limits words n m run last ending
  cause_of n m run last ending (is_over n' m' has) = has
  cause_of n m run last ending (is_stopped n' m' pair stop turn meets) = (n, pair, turn, meets, stays_here n m)
  cause_of n m run last ending (goes_on n' m' next last' pair later ending' turn none may rest) =
      cause_after n m next last pair later ending turn none may (cause_of (suc n) next later last ending rest)

pub plays_are_runs : (s : Setting) → ReadyPlaysAreRuns s
plays_are_runs s limits words run last ending plays = are_runs s limits words 0 opening run last ending plays

pub endings_have_causes : (s : Setting) → ReadyEndingsHaveCauses s
endings_have_causes s limits words run last ending plays = cause_of s limits words 0 opening run last ending plays

-- one event more at the end of a run
one_more_event : (s : Setting) (run : List Pair) (first m next : Moment) (pair : Pair) (reaches : ReadyReaches s first run m)
    → NoneGivenFree s first run m reaches → MayReady s m pair.worker pair.event next → (pair.event ≡ gives_up → IsForced s m pair.worker)
    → (longer : ReadyReaches s first (run ++ pair ∷ []) next) × NoneGivenFree s first (run ++ pair ∷ []) next longer
one_more_event s [] first m next pair reaches free may forced = (
  (next, subst (λ x. MayReady s x pair.worker pair.event next) (sym reaches) may, refl),
  ((λ is. subst (λ x. IsForced s x pair.worker) (sym reaches) (forced is)), tt),
)
one_more_event s (done ∷ run) first m next pair reaches free may forced =
    let rest = one_more_event s run reaches.0 m next pair reaches.2 free.1 may forced in
    ((reaches.0, reaches.1, rest.0), (free.0, rest.1))

-- a Take meets no stop: its entry does not stay ready beside a new one
module _ (s : Setting) (limits : Limits) (m : Moment) where
  taken_is_gone : (left right : List Deque) (id : ℕ) (thread : List ℕ) → IsLeftmostReady m.deques left id thread right
      → (stop : Stop) → Meets s limits m (steals (length left) id) stop → ⊥
  taken_is_gone left right id thread at stop meets = by_case (steals (length left) id) stop meets (length left) id refl
      (ap (λ t. slice_get t (length left)) at.deques_are ∙ get_middle left (entry id None thread) right)
    where
      place_of_steal : Event → ℕ
      place_of_steal (steals place id) = place
      place_of_steal other = 0

      by_case : (event : Event) (stop : Stop) → Meets s limits m event stop → (place new : ℕ) → event ≡ steals place new
          → slice_get m.deques place ≡ Some (entry id None thread) → ⊥
      by_case event stop (no_deque place' new' deque is stays many) place new same here =
          let d : Deque = entry id None thread in
          let at : place' ≡ place = ap place_of_steal same in
          never_stays id thread (subst Stays (ap (λ o. unwrap_or o d) (sym is ∙ ap (slice_get m.deques) at ∙ here)) stays)
      by_case event stop (no_words place' fills) place new same here = not_does place' place new same
        where
          not_does : (p place new : ℕ) → does p ≡ steals place new → ⊥
          not_does p place new same = cc
      by_case event stop (no_steps place' room many) place new same here = not_does place' place new same
        where
          not_does : (p place new : ℕ) → does p ≡ steals place new → ⊥
          not_does p place new same = cc

  -- an action does not fit the arena, or it does
  fills_or_not : (place : ℕ) → Decided (Fills s limits m place)
  fills_or_not place = elim (cases_lt 0 (words_taken (action_at s.list place))) [
    | inr none ↦ inr (λ fills. let some = fills.0 in absurd (omega (arith, none, some)))
    | inl some ↦ by_lt_z (pos limits.capacity) (live_at s.list m +ℤ pos (words_at s.list place))
        (λ full. inl (some, full))
        (λ room. inr (λ fills. both (live_at s.list m +ℤ pos (words_at s.list place)) (pos limits.capacity) room fills.1))
  ]
    where
      both : (x y : ℤ) → x ≤ℤ y → y <ℤ x → ⊥
      both x y a b = omega (arith, ints)

  -- an event that is wanted meets a stop, or not
  StopOrNot : Event → Type 0
  StopOrNot event = ((stop : Stop) × Meets s limits m event stop) ⊎ ((stop : Stop) → ¬ Meets s limits m event stop)

  action_stops_or_not : (place : ℕ) → StopOrNot (does place)
  unfolding StopOrNot
  action_stops_or_not place = elim (fills_or_not place) [
    | inl fills ↦ inl (arena_full (live_at s.list m) (words_at s.list place), no_words place fills)
    | inr room ↦ elim (cases_lt (length (booked m.books)) limits.actions) [
      | inl few ↦ inr (none_meets room few)
      | inr many ↦ inl (steps_spent limits.actions, no_steps place room many)
    ]
  ]
    where
      none_meets : ¬ Fills s limits m place → length (booked m.books) < limits.actions → (stop : Stop)
          → Meets s limits m (does place) stop → ⊥
      none_meets room few stop (no_words place fills) = room fills
      none_meets room few stop (no_steps place not many) = absurd (omega (arith, few, many))

  owner_stops_or_not : (worker : ℕ) (event : Event) → 0 < owned_by worker m.deques → Wants s m worker 0 event → StopOrNot event
  unfolding StopOrNot
  owner_stops_or_not worker event some (a_theft place id idle first named) = absurd (omega (arith, some, idle))
  owner_stops_or_not worker event some (a_give_up forced) = inr (λ stop meets. no_stop stop meets)
    where
      no_stop : (stop : Stop) → Meets s limits m gives_up stop → ⊥
      no_stop stop meets = elim meets [ ]
  owner_stops_or_not worker event some (a_wait o place child at none) = inr (λ stop meets. no_stop stop meets)
    where
      no_stop : (stop : Stop) → Meets s limits m suspends stop → ⊥
      no_stop stop meets = elim meets [ ]
  owner_stops_or_not worker event some (an_action o place next has fits) = action_stops_or_not place

  stops_or_not : (worker : ℕ) (event : Event) → WantsReady s m worker event → StopOrNot event
  unfolding StopOrNot
  stops_or_not worker event (a_take left right id thread idle at) = inr (λ stop meets. taken_is_gone left right id thread at stop meets)
  stops_or_not worker event (of_its_entry event' some wants) = owner_stops_or_not worker event some wants

module _ (s : Setting) (some : 0 < s.quota) (list : IsDepthFirst s.quota s.list) (fork : record_words ≤ s.quota) (workers : 0 < s.workers)
    (limits : Limits) (words : ℕ → ℕ) where
  ends_from : (fuel n : ℕ) (m : Moment) (so_far : List Pair) (reaches : ReadyReaches s opening so_far m)
      → NoneGivenFree s opening so_far m reaches
      → length so_far + fuel ≡ suc (3 * length s.list + s.workers)
      → (run : List Pair) × (last : Moment) × (ending : Ending) × ReadyPlays s limits words n m run last ending
  unfolding StopOrNot
  ends_from zero n m so_far reaches free size = let most = runs_end s some list fork so_far m reaches free in absurd (omega
      (arith, most, size))
  ends_from (suc fuel) n m so_far reaches free size =
      let ready : IsReadyList s m = ready_along s list so_far opening m (opening_is_ready s list) reaches in
      elim (ended_or_not s m []) [
        | inl has ↦ ([], m, finished, is_over n m has)
        | inr not_over ↦
            let turn = somebodys_turn s list words n m ready workers not_over in
            let wants : WantsReady s m (turn.0).worker (turn.0).event = (turn.1).wants in
            elim (stops_or_not s limits m (turn.0).worker (turn.0).event wants) [
              | inl stop ↦ ([], m, stopped stop.0, is_stopped n m turn.0 stop.0 turn.1 stop.1)
              | inr none ↦
                  let below = in_range s.workers (words n) (CanGo m) (turn.0).worker (turn.1).first in
                  let next = wanted_may_come s list m (turn.0).worker (turn.0).event ready below wants in
                  let longer = one_more_event s so_far opening m next.0 turn.0 reaches free next.1 (forced s m (turn.0).worker
                  (turn.0).event wants) in
                  let more = length-append so_far (turn.0 ∷ []) in
                  let rest = ends_from fuel (suc n) next.0 (so_far ++ turn.0 ∷ []) longer.0 longer.1 (omega (arith, more, size)) in
                  (turn.0 ∷ rest.0, rest.1, rest.2, goes_on n m next.0 rest.1 turn.0 rest.0 rest.2 turn.1 none next.1 rest.3)
            ]
      ]

pub plays_end : (s : Setting) → 0 < s.quota → IsDepthFirst s.quota s.list → ReadyPlaysEnd s
plays_end s some list fork workers limits words =
    ends_from s some list fork workers limits words (suc (3 * length s.list + s.workers)) 0 opening [] refl tt (omega arith)

-- an action that takes words weighs them
taken_weighs : (deed : Deed) (words : ℕ) → 0 < taken_by deed words → weight_of deed words ≡ pos words
taken_weighs (forks child) words some = refl
taken_weighs (joins child) words some = absurd (omega arith)
taken_weighs allocates words some = refl
taken_weighs releases words some = absurd (omega arith)
taken_weighs dummy words some = absurd (omega arith)
taken_weighs faults words some = absurd (omega arith)
taken_weighs ends words some = absurd (omega arith)

-- What excludes a stop at a moment: room for all words that the list takes, or for the bound after the next action; as many actions as the
-- list has. A want of places never comes.
abbrev Excluded : Setting → Limits → Moment → Stop → Type 0
Excluded s limits m (arena_full live asked) = (total words_taken s.list ≤ limits.capacity) ⊎ ReadyCoversNext s limits.capacity m
Excluded s limits m (steps_spent limit) = length s.list ≤ limits.actions
Excluded s limits m (deques_full deques) = Unit {0}

-- so no event that is a Take and wanted meets a stop
pub takes_meet_no_stop : (s : Setting) (limits : Limits) (m : Moment) (worker place id : ℕ) → WantsReady s m worker (steals place id)
    → (stop : Stop)
    → Meets s limits m (steals place id) stop → ⊥
unfolding IsSteal
takes_meet_no_stop s limits m worker place id wants stop meets = by_wants (steals place id) wants stop meets tt
  where
    by_owner : (event : Event) → Wants s m worker 0 event → 0 < owned_by worker m.deques → IsSteal event → ⊥
    by_owner event (a_theft place id idle first named) some steal = absurd (omega (arith, some, idle))
    by_owner event (a_give_up forced) some steal = steal
    by_owner event (a_wait o place child at none) some steal = steal
    by_owner event (an_action o place next has fits) some steal = steal

    by_wants : (event : Event) → WantsReady s m worker event → (stop : Stop) → Meets s limits m event stop → IsSteal event → ⊥
    by_wants event (a_take left right id thread idle at) stop meets steal = taken_is_gone s limits m left right id thread at stop meets
    by_wants event (of_its_entry event' some wants) stop meets steal = by_owner event wants some steal

module _ (s : Setting) (some : 0 < s.quota) (list : IsDepthFirst s.quota s.list) (limits : Limits) (run : List Pair) (m : Moment)
    (reaches : ReadyReaches s opening run m) (worker : ℕ) where
  -- an Alloc or a Fork that does not fit, though its words or the bound after it do
  no_filling : (place : ℕ) (after : Moment) → MayReady s m worker (does place) after → Fills s limits m place
      → (total words_taken s.list ≤ limits.capacity) ⊎ ReadyCoversNext s limits.capacity m → ⊥
  no_filling place after may fills (inl arena) =
      let most = arena_never_fills s some list run m after worker place reaches may in
      too_many (live_at s.list m) (weight_at s.list place) (words_at s.list place) (total words_taken s.list) limits.capacity most
      (taken_weighs (deed_at s.list place) (words_at s.list place) fills.0) fills.1 arena
    where
      too_many : (x w : ℤ) (n t c : ℕ) → (x +ℤ w) ≤ℤ pos t → w ≡ pos n → pos c <ℤ (x +ℤ pos n) → t ≤ c → ⊥
      too_many x w n t c a b d e = omega (arith, ints)
  no_filling place after may fills (inr covers) =
      let p = prefix_of s.list (done_at after) in
      let more = arena_refuses s some list run m after worker place p.0 (periods_ahead p.0 after.books) limits.capacity reaches may
      (covers worker place p.0 after may fills.0 p.1)
      (subst (λ w. pos limits.capacity <ℤ (live_at s.list m +ℤ w))
      (sym (taken_weighs (deed_at s.list place) (words_at s.list place) fills.0)) fills.1) p.1 in
      absurd (omega (arith, more))

  -- one action more than the list has
  no_more_actions : (place : ℕ) (after : Moment) → MayReady s m worker (does place) after → limits.actions ≤ length (booked m.books)
      → length s.list ≤ limits.actions → ⊥
  no_more_actions place after may many actions =
      let ready : IsReadyList s m = ready_along s list run opening m (opening_is_ready s list) reaches in
      let next : IsReadyList s after = kept_ready s list m ready worker (does place) after may in
      let books : LawfulBooks s.quota s.list after.books = ((next.lawful).periods).lawful in
      let more = acts_once s m worker (does place) after.books after.waiting (changes s m worker (does place) after may) in
      let few = few_places (booked after.books) (length s.list) books.different
      (each_from (λ i. i < length s.list) (booked after.books) (λ i there. books.of_the_list i (times_among i
      (booked after.books) there))) in
      omega (arith, more, few, many, actions)

  no_stop : (event : Event) (stop : Stop) → Meets s limits m event stop → (after : Moment) → MayReady s m worker event after
      → WantsReady s m worker event → Excluded s limits m stop → ⊥
  no_stop event stop (no_words place fills) after may wants arena = no_filling place after may fills arena
  no_stop event stop (no_steps place room many) after may wants actions = no_more_actions place after may many actions
  no_stop event stop (no_deque place id deque is stays many) after may wants none =
      takes_meet_no_stop s limits m worker place id wants stop (no_deque place id deque is stays many)

module _ (s : Setting) (some : 0 < s.quota) (list : IsDepthFirst s.quota s.list) where
  -- a play does not end with a stop that is excluded at its last moment
  excluded : (limits : Limits) (words : ℕ → ℕ) (run : List Pair) (last : Moment) (stop : Stop) → Excluded s limits last stop
      → ReadyPlays s limits words 0 opening run last (stopped stop) → ⊥
  excluded limits words run last stop none plays =
      let reaches : ReadyReaches s opening run last = (plays_are_runs s limits words run last (stopped stop) plays).0 in
      let ready : IsReadyList s last = ready_along s list run opening last (opening_is_ready s list) reaches in
      let cause : ReadyHasCause s limits words 0 opening run last (stopped stop) = endings_have_causes s limits words run last (stopped stop) plays in
      let turn : ReadyTurn s words cause.0 last cause.1 = cause.2 in
      let below = in_range s.workers (words cause.0) (CanGo last) (cause.1).worker turn.first in
      let next = wanted_may_come s list last (cause.1).worker (cause.1).event ready below turn.wants in
      no_stop s some list limits run last reaches (cause.1).worker (cause.1).event stop cause.3 next.0 next.1 turn.wants none

  pub lists_never_fill : ListsNeverFill s
  lists_never_fill limits words run last deques plays = excluded limits words run last (deques_full deques) tt plays

  pub actions_suffice : ReadyActionsSuffice s
  actions_suffice limits words run last limit few plays = excluded limits words run last (steps_spent limit) few plays

  pub arenas_with_room_last : ReadyArenasWithRoomLast s
  arenas_with_room_last limits words run last live asked room plays = excluded limits words run last (arena_full live asked)
      (inl room) plays

  pub arenas_with_the_bound_last : ReadyArenasWithTheBoundLast s
  arenas_with_the_bound_last limits words run last live asked covers plays =
      excluded limits words run last (arena_full live asked) (inr covers) plays

  pub plays_finish : ReadyPlaysFinish s
  plays_finish limits words run last ending arena actions plays = by_ending ending plays
    where
      by_ending : (ending : Ending) → ReadyPlays s limits words 0 opening run last ending → ending ≡ finished
      by_ending finished plays = refl
      by_ending (stopped (arena_full live asked)) plays = absurd (arenas_with_room_last limits words run last live asked arena plays)
      by_ending (stopped (steps_spent limit)) plays = absurd (actions_suffice limits words run last limit actions plays)
      by_ending (stopped (deques_full deques)) plays = absurd (lists_never_fill limits words run last deques plays)
