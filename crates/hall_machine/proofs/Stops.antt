-- The causes of the stops that a seat finds.
use Rattle.std.proofs.Common.{◌≡◌, ◌≢◌, ℕ, zero, suc, ◌+◌, ◌<◌, ◌≤◌, true, false, cond, List, [], ◌∷◌, length, map, inl, inr, refl, sym, ap, subst, ◌∙◌, arith, true≢false, pos, ◌+ℤ◌, ◌%◌, mod-lt}
use Rattle.std.proofs.lemmas.Int.{ints}
use Rattle.std.proofs.lemmas.List.{length-map}
use Rattle.std.proofs.lemmas.Bool.{cases_lt}
use Rattle.std.specs.Prelude.{Some, slice_get, slice_set, ◌<ℤ◌}
use Rattle.std.proofs.lemmas.Option.{none-some, same_Some}
use Rattle.depth_first_list.specs.Actions.{Deed, forks, joins, allocates, releases, dummy, faults, ends, weight_of}
use Rattle.depth_first_list.specs.Facts.{action_at, deed_at, words_at, weight_at}
use Rattle.depth_first_list.specs.Runs.{IsDepthFirst}
use Rattle.deque_list.specs.declared.deque_id.DequeId.{DequeId}
use Rattle.deque_list.specs.Deques.{Deque as DequeOf}
use Rattle.deque_machine.specs.Lists.{Among, Each}
use Rattle.deque_machine.specs.Books.{charge_at}
use Rattle.deque_machine.proofs.Lists.{total_middle, one_same}
use Rattle.deque_machine.specs.Moments.{Moment, Deque, deque_of as deque_of_moment, live_at, owned_by, one_if_owned}
use Rattle.deque_machine.specs.Machine.{Setting, Event, steals, does, Owns}
use Rattle.deque_machine.specs.Play as play
use Rattle.deque_machine.specs.Play.{Limits, IsFirst, IsReady, Stays, Wants, Meets, Fills, taken_by, words_taken, a_theft, a_give_up, a_wait, an_action, no_deque, no_words, reach}
use Rattle.deque_machine.proofs.Movers.{mover_wants}
use Rattle.deque_machine.proofs.Playing.{wanted_may_come}
use Rattle.deque_machine.proofs.Reached.{arena_refuses}
use Rattle.deque_list.specs.declared.place.Place.{Place}
use Rattle.moment_laws.specs.Passed.Parts.{Thread}
use Rattle.moment_laws.specs.Passed.Parts as parts
use Rattle.moment_laws.specs.Passed.MomentShownEvents.{Works, IsNextOf}
use Rattle.moment_laws.proofs.Passed.Placing.{own, next_at_top}
use Rattle.moment_laws.proofs.Passed.Shown.{used_is}
use Rattle.moment_laws.specs.Passed.Shown.{deque_shown}
use Rattle.moment_laws.specs.Readiness.{AreDeques}
use Rattle.moment_laws.proofs.Ready.{first_is_shown, owners_are_shown}
use Rattle.hall_machine.specs.Values.{Hall, by_rule, the_thread, deque_at, deque_of, deques_of, parts_of}
use Rattle.hall_machine.specs.Steps.{Step, Leads, MeetsAt, HasMet, run_of}
use Rattle.hall_machine.specs.Writing.{place_of, IsAtWork}
use Rattle.hall_machine.proofs.Own.{works}
use Rattle.hall_machine.proofs.Going.{steps_are_a_run}
use Rattle.hall_machine.proofs.Closing.{deques_are_shown}
use Rattle.hall_machine.specs.Views.{View, joined, in_hall, one_if_in, stands_for, one_if_counting}
use Rattle.hall_machine.specs.Crew.{SeatStands}
use Rattle.hall_machine.proofs.First.{is_in}
use Rattle.hall_machine.proofs.Notes.{total_set, each_get, each_set}
use Rattle.hall_machine.proofs.Noting.{same_total, seats_set}
use Rattle.hall_machine.proofs.Counting.{spent_counts_keep_crew}
use Rattle.hall_machine.proofs.Halting.{finding_keeps_crew}
use Rattle.hall_machine.specs.State.{RunningState, IsIn}
use Rattle.hall_machine.specs.Stops.{SpentCountsGoOn, FullArenasGoOn, FullArenasAreAhead, FullListsGoOn}
use Rattle.hall_machine.proofs.Moments.{all_are_within, deques_hold_threads}
use Rattle.hall_machine.proofs.Claims.{Claiming, few_counting}
use Rattle.hall_machine.proofs.Owning.{false_if, stood, worker_below, owns_none}

-- ---- the limit of actions

module _ (s : Setting) (limits : Limits) (h : Hall) (steps : List Step) (m : Moment) (leads : Leads s steps m) (count : ℕ) (views : List View) (seat : ℕ) (v : View)
    (state : RunningState s limits h steps m leads count views) (here : IsIn views seat v) where
  -- the seat with a count more
  abbrev w : View
  w = record v { counting = true }

  abbrev views_now : List View
  views_now = slice_set views seat w

  -- a seat that owns a deque has not left
  has_stayed : (n : ℕ) (u : View) → SeatStands s limits h steps m leads n u → (id : DequeId) → u.deque ≡ Some id → 0 < u.places → one_if_in u ≡ 1
  has_stayed n u stands id owns placed = ap (in_hall u.places) (false_if u.left (λ left. none-some id (sym (stands.gone left) ∙ owns))) ∙ is_in u.places placed

  claiming : (id : DequeId) → v.deque ≡ Some id → Claiming views_now h.list.places
  claiming id owns = record {
    owning = λ n u is counting. by_places n u is counting u.places refl;
    once = λ worker. let same = same_total views seat v w here.noted (stands_for worker) refl in let named = state.crew.named worker in let once = state.crew.once worker in
        omega (arith, same, named, once);
  }
    where
      Claims : ℕ → View → Type 0
      Claims n u = u.counting ≡ true → (d : DequeId) × Among (place_of d (Some u.worker)) h.list.places × (one_if_in u ≡ 1)

      own_stands : SeatStands s limits h steps m leads seat v
      own_stands = stood s limits h steps m leads count views seat v state here

      some_owns : (n : ℕ) (u : View) → n ≢ seat → slice_get views n ≡ Some u → 0 < u.places → Claims n u
      some_owns n u apart is placed counting =
          let stands : SeatStands s limits h steps m leads n u = state.crew.seats n u is placed in
          let owned = (stands.counts counting).0 in
          (owned.0, stands.owns owned.0 owned.1, has_stayed n u stands owned.0 owned.1 placed)

      by_places : (n : ℕ) (u : View) → slice_get views_now n ≡ Some u → u.counting ≡ true → (places : ℕ) → u.places ≡ places
          → (d : DequeId) × Among (place_of d (Some u.worker)) h.list.places × (one_if_in u ≡ 1)
      by_places n u is counting (suc places) some =
          seats_set Claims views seat v w here.noted some_owns (λ placed counts. (id, own_stands.owns id owns, has_stayed seat v own_stands id owns here.placed))
          n u is (omega (arith, some)) counting
      by_places n u is counting zero none =
          absurd (true≢false (sym counting ∙ ap (λ x. View.counting x) (each_get (λ x. x.places ≡ 0 → x ≡ joined) views_now n u
          (each_set (λ x. x.places ≡ 0 → x ≡ joined) views seat w state.crew.unplaced (λ nothing. let some = here.placed in absurd (omega (arith, nothing, some)))) is none)))

  more_actions : 0 < s.quota → IsDepthFirst s.quota s.list → (id : DequeId) → v.deque ≡ Some id → v.counting ≡ false → limits.actions ≤ count → limits.actions < length s.list
  more_actions some list id owns free spent =
      let counted = state.crew.counted in
      let set = total_set one_if_counting views seat w v here.noted in
      let one : one_if_counting w ≡ 1 = refl in
      let none : one_if_counting v ≡ 0 = ap (λ b. cond b 1 0) free in
      let few = few_counting views_now h.list.places (claiming id owns) in
      let held = deques_hold_threads s m state.stands.standing.lawful in
      let within = all_are_within s some list m state.stands.standing.lawful in
      let shown = ap length state.stands.standing.shows.deques
      ∙ length-map (map (deque_at h.lanes) h.list.places) parts.deque_shown ∙ length-map h.list.places (deque_at h.lanes) in
      omega (arith, counted, set, one, none, few, held, within, shown, spent)

pub spent_counts_go_on : (s : Setting) → 0 < s.quota → IsDepthFirst s.quota s.list → SpentCountsGoOn s
spent_counts_go_on s some list limits h steps m leads count views seat v id state here free none owns spent =
    let more = more_actions s limits h steps m leads count views seat v state here some list id owns free spent in
    (more, spent_counts_keep_crew s limits h steps m leads count views seat v state.crew here.noted here.placed here.stays free none spent more)

-- ---- a stop is met now

met_now : (s : Setting) (limits : Limits) (steps : List Step) (m : Moment) (leads : Leads s steps m) (stop : play.Stop) → MeetsAt s limits m stop → HasMet s limits steps m leads stop
met_now s limits [] m leads stop meets = meets
met_now s limits (step ∷ steps) m leads stop meets = inl meets

-- an action that takes words joins nobody
no_join : (deed : Deed) (words child : ℕ) → 0 < taken_by deed words → deed ≡ joins child → ⊥
no_join deed words child some is = let none : taken_by deed words ≡ 0 = ap (λ d. taken_by d words) is in omega (arith, some, none)

-- an action that takes words weighs them
weighs : (deed : Deed) (words : ℕ) → 0 < taken_by deed words → weight_of deed words ≡ pos words
weighs (forks child) words some = refl
weighs (joins child) words some = absurd (omega (arith, some))
weighs allocates words some = refl
weighs releases words some = absurd (omega (arith, some))
weighs dummy words some = absurd (omega (arith, some))
weighs faults words some = absurd (omega (arith, some))
weighs ends words some = absurd (omega (arith, some))

module _ (s : Setting) (list : IsDepthFirst s.quota s.list) (limits : Limits) (h : Hall) (steps : List Step) (m : Moment) (leads : Leads s steps m) (count : ℕ) (views : List View)
    (v : View) (w : IsAtWork h v.worker) (place : ℕ) (deed : Deed) (state : RunningState s limits h steps m leads count views) (is_next : IsNextOf s.list w.top place deed)
    (takes : 0 < words_taken (action_at s.list place)) (within : w.period.used + charge_at s.quota s.list place ≤ s.quota) where
  o : Works (parts_of h) v.worker
  o = works s h steps m state.stands w

  -- the rules want the action
  wants : (word : ℕ) → Wants s m v.worker word (does place)
  unfolding o
  wants word =
      let used = used_is s.quota s.list (parts_of h) m state.stands.standing.shows v.worker o in
      an_action (own s list m state.stands.standing.lawful (parts_of h) state.stands.standing.shows v.worker o) place
      (next_at_top s list m state.stands.standing.lawful (parts_of h) state.stands.standing.shows v.worker o place deed is_next)
      (λ child joined. absurd (no_join (deed_at s.list place) (words_at s.list place) child takes joined)) (omega (arith, within, used))

  module _ (full : limits.capacity < h.pool.live + words_at s.list place) where
    fills : Fills s limits m place
    fills = let live = state.stands.standing.live in (takes, omega (arith, ints, full, live))

    meets : Meets s limits m (does place) (play.arena_full (pos h.pool.live) (words_at s.list place))
    meets = subst (λ n. Meets s limits m (does place) (play.arena_full n (words_at s.list place))) (sym state.stands.standing.live) (no_words place fills)

pub full_arenas_go_on : (s : Setting) → 0 < s.quota → IsDepthFirst s.quota s.list → FullArenasGoOn s
full_arenas_go_on s some list limits h steps m leads count views seat v w place deed state here free none is_next takes within full =
    finding_keeps_crew s limits h steps m leads count views seat v (by_rule (play.arena_full (pos h.pool.live) (words_at s.list place))) state.crew here.noted here.placed free none
    (met_now s limits steps m leads (play.arena_full (pos h.pool.live) (words_at s.list place)) (
      v.worker,
      worker_below s limits h steps m leads count views seat v state here,
      0,
      does place,
      wants s list limits h steps m leads count views v w place deed state is_next takes within 0,
      meets s list limits h steps m leads count views v w place deed state is_next takes within full,
    ))

pub full_arenas_are_ahead : (s : Setting) → 0 < s.quota → IsDepthFirst s.quota s.list → FullArenasAreAhead s
full_arenas_are_ahead s some list limits h steps m leads count views seat v w place periods deed state here is_next takes within full room =
    let wanted = wants s list limits h steps m leads count views v w place deed state is_next takes within 0 in
    let may = wanted_may_come s some list m v.worker 0 (does place) state.stands.standing.lawful (worker_below s limits h steps m leads count views seat v state here) wanted in
    let live = state.stands.standing.live in
    let heavy : weight_at s.list place ≡ pos (words_at s.list place) = weighs (deed_at s.list place) (words_at s.list place) takes in
    let above : pos limits.capacity <ℤ (live_at s.list m +ℤ weight_at s.list place) = omega (arith, ints, full, live, heavy) in
    (may.0, may.1, λ n prefix. arena_refuses s some list (run_of steps) m may.0 v.worker place n periods limits.capacity (steps_are_a_run s steps m leads) may.1 room above prefix)

-- ---- as many deques as may be

-- the first place that passes is one
first_once : (n word : ℕ) (Passes : ℕ → Type 0) (x y : ℕ) → IsFirst n word Passes x → IsFirst n word Passes y → x ≡ y
first_once n word Passes x y a b = elim (cases_lt a.turns b.turns) [
  | inl before ↦ absurd (b.none_before a.turns before (subst Passes a.is a.passes))
  | inr not_before ↦ elim (cases_lt b.turns a.turns) [
    | inl after ↦ absurd (a.none_before b.turns after (subst Passes b.is b.passes))
    | inr not_after ↦
        let same : a.turns ≡ b.turns = omega (arith, not_before, not_after) in
        a.is ∙ ap (λ t. (word + t) % n) same ∙ sym b.is
  ]
]

pub in_range : (n word : ℕ) (Passes : ℕ → Type 0) (x : ℕ) → IsFirst n word Passes x → x < n
in_range n word Passes x first = let few = first.few in subst (λ t. t < n) (sym first.is) (mod-lt (word + first.turns) (let some : 0 < n = omega (arith, few) in some))

-- what stands in a list stands mapped in the mapped list
pub at_mapped : {X Y : Type 0} (f : X → Y) (xs : List X) (rank : ℕ) (x : X) → slice_get xs rank ≡ Some x → slice_get (map f xs) rank ≡ Some (f x)
at_mapped f [] rank x is = absurd (none-some x is)
at_mapped f (y ∷ xs) zero x is = ap (λ t. Some (f t)) (same_Some y x is)
at_mapped f (y ∷ xs) (suc rank) x is = at_mapped f xs rank x is

-- who owns a deque owns at least one
owns_some : (m : Moment) (worker : ℕ) → Owns m worker → 0 < owned_by worker m.deques
owns_some m worker o =
    let all = ap (owned_by worker) o.deques_are in
    let middle = total_middle (one_if_owned worker) o.left (deque_of_moment o.id (Some worker) (o.top ∷ o.under)) o.right in
    let one = one_same worker worker refl in omega (arith, all, middle, one)

-- what the rules want of a thief is a theft at the first place that is ready
theft_at : (s : Setting) (m : Moment) (worker word place : ℕ) (event : Event) → owned_by worker m.deques ≡ 0 → IsFirst (reach s m) word (IsReady m) place
    → Wants s m worker word event → (id : ℕ) × Wants s m worker word (steals place id)
theft_at s m worker word place event none first (a_theft other id idle its named) =
    (id, subst (λ p. Wants s m worker word (steals p id)) (first_once (reach s m) word (IsReady m) other place its first) (a_theft other id idle its named))
theft_at s m worker word place event none first (a_give_up forced) = let some = owns_some m worker forced.owner in absurd (omega (arith, none, some))
theft_at s m worker word place event none first (a_wait o p child top ended) = let some = owns_some m worker o in absurd (omega (arith, none, some))
theft_at s m worker word place event none first (an_action o p next joined fits) = let some = owns_some m worker o in absurd (omega (arith, none, some))

pub full_lists_go_on : (s : Setting) → 0 < s.quota → IsDepthFirst s.quota s.list → FullListsGoOn s
full_lists_go_on s some list limits h steps m leads count views seat v word place victim state here idle none first is stays full =
    finding_keeps_crew s limits h steps m leads count views seat v (by_rule (play.deques_full limits.deques)) state.crew here.noted here.placed free none
    (met_now s limits steps m leads (play.deques_full limits.deques) (v.worker, worker_below s limits h steps m leads count views seat v state here, word, steals place theft.0, theft.1, meets))
  where
    shown_as : DequeOf Thread → Deque
    shown_as d = parts.deque_shown (deque_shown the_thread d)

    are : AreDeques the_thread (deques_of h) m
    are = deques_are_shown s h steps m state.stands

    free : v.counting ≡ false
    free = false_if v.counting (λ counting.
        let owns = ((stood s limits h steps m leads count views seat v state here).counts counting).0 in none-some owns.0 (sym idle ∙ owns.1))

    none_of_them : (places : List Place) → Each (λ place. place.owner ≢ Some v.worker) places → Each (λ d. DequeOf.owner d ≢ Some v.worker) (map (deque_of h.lanes) places)
    none_of_them [] all = tt
    none_of_them (p ∷ places) all = (all.0, none_of_them places all.1)

    none_owned : owned_by v.worker m.deques ≡ 0
    none_owned = (owners_are_shown the_thread (deques_of h) m v.worker are).1 (none_of_them h.list.places (owns_none s limits h steps m leads count views seat v state here idle))

    first_now : IsFirst (reach s m) word (IsReady m) place
    first_now = first_is_shown s the_thread (deques_of h) m word place are first

    wanted : (event : Event) × Wants s m v.worker word event
    wanted = mover_wants s list m state.stands.standing.lawful v.worker word (inr (place, in_range (reach s m) word (IsReady m) place first_now, first_now.passes))

    theft : (id : ℕ) × Wants s m v.worker word (steals place id)
    theft = theft_at s m v.worker word place wanted.0 none_owned first_now wanted.1

    there : slice_get m.deques place ≡ Some (shown_as victim)
    there = ap (λ ds. slice_get ds place) are
        ∙ at_mapped parts.deque_shown (map (deque_shown the_thread) (deques_of h)) place (deque_shown the_thread victim) (at_mapped (deque_shown the_thread) (deques_of h) place victim is)

    as_many : length (Deque.threads (shown_as victim)) ≡ length victim.items
    as_many = length-map (map the_thread victim.items) parts.label_of ∙ length-map victim.items the_thread

    still : Stays (shown_as victim)
    still = elim stays [ inl owned ↦ inl owned | inr two ↦ inr (let same = as_many in omega (arith, two, same)) ]

    meets : Meets s limits m (steals place theft.0) (play.deques_full limits.deques)
    meets =
        let shown = ap length state.stands.standing.shows.deques ∙ length-map (map (deque_at h.lanes) h.list.places) parts.deque_shown ∙ length-map h.list.places (deque_at h.lanes) in
        no_deque place theft.0 (shown_as victim) there still (omega (arith, full, shown))
