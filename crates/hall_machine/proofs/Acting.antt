-- The law of the seats goes on with each event.
use Rattle.std.proofs.Common.{◌≡◌, ◌≢◌, ℕ, ◌+◌, ◌<◌, ◌≤◌, Bool, true, false, cond, min, List, [], ◌∷◌, ◌++◌, length, inl, inr, refl, sym, ap, subst, ◌∙◌, arith, append-nil, length-set, true≢false}
use Rattle.std.proofs.lemmas.Bool.{cases_eq, eq-eqb}
use Rattle.std.specs.Prelude.{Option, Some, slice_get, slice_set}
use Rattle.std.proofs.lemmas.Option.{none-some, same_Some}
use Rattle.deque_list.specs.declared.deque_id.DequeId.{DequeId}
use Rattle.deque_list.specs.declared.place.Place.{Place}
use Rattle.deque_machine.specs.Lists.{Among, Each, total, times}
use Rattle.deque_machine.specs.Books.{booked}
use Rattle.deque_machine.proofs.Lists.{each_map, each_from, each_among}
use Rattle.deque_machine.specs.Moments.{Moment, one_if_worker}
use Rattle.deque_machine.specs.Machine.{Setting, Event, steals, does, suspends, gives_up, May}
use Rattle.deque_machine.specs.Play.{Limits}
use Rattle.deque_machine.specs.Play as play
use Rattle.deque_machine.specs.Runs as runs
use Rattle.moment_laws.specs.Passed.Periods.{Period}
use Rattle.moment_laws.proofs.Passed.Lists.{set_same, set_other}
use Rattle.moment_laws.proofs.Told.{actions_are_added, others_add_none}
use Rattle.hall_machine.specs.Values.{Hall, LaneShown, Stop, by_rule, no_memory, End, finished, stopped, lane_at}
use Rattle.hall_machine.specs.Steps.{Step, Told, Leads, told_to, last_theft}
use Rattle.hall_machine.specs.Standing.{Went}
use Rattle.hall_machine.specs.Writing.{place_of}
use Rattle.hall_machine.proofs.Going.{if_same_is, if_same_other}
use Rattle.hall_machine.specs.Views.{View, in_hall, one_if_in, one_if_its, stands_for, workers_of, places_held, one_if_counting, one_if_late, event_told, events_told}
use Rattle.hall_machine.specs.Crew.{HasCauseAmong, MayBeKept, SeatStands, Crew, missing}
use Rattle.hall_machine.specs.Changes.{after_event, ChangesOwn, EventsKeepCrew}
use Rattle.hall_machine.proofs.First.{is_in}
use Rattle.hall_machine.proofs.Notes.{total_set, total_at, total_two, each_set, each_get, each_unset, get_inside}

-- an action is one more that is done, another event none
done_by : (s : Setting) (m next : Moment) (worker : ℕ) (event : Event) → May s m worker event next → length (booked next.books) ≡ length (booked m.books) + length (runs.place_of event)
done_by s m next worker (steals place id) may = no_more (length (booked next.books)) (length (booked m.books)) (((others_add_none s m next worker).2 place id may).booked)
  where
    no_more : (a b : ℕ) → a ≡ b → a ≡ b + 0
    no_more a b same = omega (arith, same)
done_by s m next worker (does place) may = (actions_are_added s m next worker place may).booked
done_by s m next worker suspends may = let same = ((others_add_none s m next worker).0 may).booked in omega (arith, same)
done_by s m next worker gives_up may = let same = ((others_add_none s m next worker).1 may).booked in omega (arith, same)

pub events_append : (mine more : List Told) → events_told (mine ++ more) ≡ events_told mine ++ events_told more
events_append [] more = refl
events_append (told ∷ mine) more = ap (λ t. event_told told ++ t) (events_append mine more) ∙ sym (Rattle.std.proofs.Common.append_assoc (event_told told) (events_told mine) (events_told more))

-- a cause stays one
cause_stays : (s : Setting) (limits : Limits) (steps : List Step) (m : Moment) (leads : Leads s steps m) (step : Step) (next : Moment) (on : Leads s (step ∷ steps) next)
    → on.0 ≡ m → (stop : Stop) → HasCauseAmong s limits steps on.0 on.1 stop → HasCauseAmong s limits (step ∷ steps) next on stop
cause_stays s limits steps m leads step next on same no_memory cause = tt
cause_stays s limits steps m leads step next on same (by_rule (play.arena_full live asked)) cause = inr cause
cause_stays s limits steps m leads step next on same (by_rule (play.deques_full deques)) cause = inr cause
cause_stays s limits steps m leads step next on same (by_rule (play.steps_spent limit)) cause = cause

module _ (s : Setting) (limits : Limits) (h after : Hall) (steps : List Step) (m : Moment) (leads : Leads s steps m) (count : ℕ) (views : List View)
    (v : View) (step : Step) (deque : Option DequeId) (yielded : Bool) (crew : Crew s limits h steps m leads count views)
    (its_view : slice_get views step.seat ≡ Some v) (placed : 0 < v.places) (here : v.left ≡ false) (its_worker : step.worker ≡ v.worker) (went : Went s after steps m step)
    (counting : one_if_counting v ≡ length (runs.place_of step.event)) (is_event : event_told step.told ≡ step.told ∷ []) (changes : ChangesOwn h after v.worker deque)
    (same_crew : after.list.crew ≡ h.list.crew) where
  abbrev w : View
  w = after_event v deque step.told yielded

  abbrev on : Leads s (step ∷ steps) went.0
  on = (m, leads, went.1, went.2)

  abbrev views_now : List View
  views_now = slice_set views step.seat w

  -- a sum in which the seat counts as before
  same_total : (f : View → ℕ) → f w ≡ f v → total f views_now ≡ total f views
  same_total f same = let set = total_set f views step.seat w v its_view in omega (arith, same, set)

  -- it stands for its worker
  stands_once : one_if_its v.worker v ≡ 1
  stands_once = ap (λ b. cond b (one_if_in v) 0) (eq-eqb v.worker v.worker refl) ∙ ap (in_hall v.places) here ∙ is_in v.places placed

  share_is : (worker : ℕ) (u : View) → stands_for worker u ≡ one_if_its worker u + one_if_worker worker u.enters
  share_is worker u = refl

  crew_once : (worker : ℕ) → total (stands_for worker) views ≤ 1
  crew_once worker = let named = crew.named worker in let once = crew.once worker in omega (arith, named, once)

  in_crew : 0 < times v.worker h.list.crew
  in_crew = let named = crew.named v.worker in let one = stands_once in let sum = share_is v.worker v in
      let at = total_at (stands_for v.worker) views step.seat v its_view in omega (arith, named, one, at, sum)

  -- no other seat that is in has its worker, and nobody enters for it
  others_apart : (seat : ℕ) (u : View) → seat ≢ step.seat → slice_get views seat ≡ Some u → 0 < u.places → u.left ≡ false → u.worker ≢ v.worker
  others_apart seat u apart is there in_it same =
      let both = total_two (stands_for v.worker) views seat step.seat u v apart is its_view in
      let one = stands_once in let once = crew_once v.worker in
      let two : one_if_its v.worker u ≡ 1 = ap (λ b. cond b (one_if_in u) 0) (eq-eqb v.worker u.worker (sym same)) ∙ ap (in_hall u.places) in_it ∙ is_in u.places there in
      let sum = share_is v.worker v in let its = share_is v.worker u in absurd (omega (arith, both, one, once, two, sum, its))

  entering_one : (u : View) (worker : ℕ) → u.enters ≡ Some worker → one_if_worker worker u.enters ≡ 1
  entering_one u worker is = ap (one_if_worker worker) is ∙ ap (λ b. cond b 1 0) (eq-eqb worker worker refl)

  enters_apart : (seat : ℕ) (u : View) (worker : ℕ) → slice_get views seat ≡ Some u → u.enters ≡ Some worker → worker ≢ v.worker
  enters_apart seat u worker is enters same = elim (cases_eq seat step.seat) [
    | inl own ↦
        let its : u ≡ v = same_Some u v (sym is ∙ ap (slice_get views) own ∙ its_view) in
        let at = total_at (stands_for v.worker) views step.seat v its_view in
        let one = stands_once in let once = crew_once v.worker in
        let two : one_if_worker v.worker v.enters ≡ 1 = entering_one v v.worker (ap (λ t. View.enters t) (sym its) ∙ enters ∙ ap Some same) in
        let sum = share_is v.worker v in absurd (omega (arith, at, one, once, two, sum))
    | inr other ↦
        let both = total_two (stands_for v.worker) views seat step.seat u v other is its_view in
        let one = stands_once in let once = crew_once v.worker in
        let two : one_if_worker v.worker u.enters ≡ 1 = entering_one u v.worker (enters ∙ ap Some same) in
        let sum = share_is v.worker v in let its = share_is v.worker u in absurd (omega (arith, both, one, once, two, sum, its))
  ]

  owners_now : Each (λ place. (worker : ℕ) → place.owner ≡ Some worker → 0 < times worker after.list.crew) after.list.places
  owners_now = each_from (λ place. (worker : ℕ) → place.owner ≡ Some worker → 0 < times worker after.list.crew) after.list.places
      (λ place there worker owner. subst (λ c. 0 < times worker c) (sym same_crew) (elim (cases_eq worker v.worker) [
        | inl same ↦ subst (λ n. 0 < times n h.list.crew) (sym same) in_crew
        | inr other ↦ each_among (λ p. (u : ℕ) → p.owner ≡ Some u → 0 < times u h.list.crew) (place_of place.id (Some worker)) h.list.places crew.owners
            (changes.no_more place.id worker other (subst (λ o. Among (place_of place.id o) after.list.places) owner there)) worker refl
      ]))

  counted_now : min count limits.actions ≡ length (booked (went.0).books) + total one_if_counting views_now
  counted_now =
      let was = crew.counted in let done = done_by s m went.0 step.worker step.event went.1 in
      let set = total_set one_if_counting views step.seat w v its_view in let one = counting in
      let none : one_if_counting w ≡ 0 = refl in omega (arith, was, done, set, one, none)

  -- ---- the seats

  told_others : (seat : ℕ) → seat ≢ step.seat → told_to seat (step ∷ steps) ≡ told_to seat steps
  told_others seat other = ap (λ t. told_to seat steps ++ t) (if_same_other seat step.seat (step.told ∷ []) other) ∙ append-nil (told_to seat steps)

  told_own : told_to step.seat (step ∷ steps) ≡ told_to step.seat steps ++ step.told ∷ []
  told_own = ap (λ t. told_to step.seat steps ++ t) (if_same_is step.seat step.seat (step.told ∷ []) refl)

  module _ (same_kept : after.list.kept ≡ h.list.kept)
      (runs_on : (id : DequeId) → deque ≡ Some id → (p : Period) → LaneShown.period (lane_at after.lanes id) ≡ Some p → last_theft (told_to step.seat steps ++ step.told ∷ []) ≡ Some p.number) where
    its_stands : SeatStands s limits h steps m leads step.seat v
    its_stands = crew.seats step.seat v its_view placed

    its_seat : SeatStands s limits after (step ∷ steps) went.0 on step.seat w
    its_seat = record {
      owns = changes.its;
      owned = λ in_it id there. changes.all_its id there;
      gone = λ left. absurd (true≢false (sym left ∙ here));
      told = events_append v.mine (step.told ∷ []) ∙ ap (λ t. events_told v.mine ++ t) (ap (λ t. t ++ []) is_event) ∙ ap (λ t. t ++ step.told ∷ []) its_stands.told ∙ sym told_own;
      runs = λ id is p run. ap last_theft told_own ∙ runs_on id is p run;
      counts = λ no. absurd (true≢false (sym no));
      enters = λ worker is. let was = its_stands.enters worker is in
          (was.0, λ id there. was.1 id (changes.no_more id worker (enters_apart step.seat v worker its_view is) there));
      found = λ stop is. cause_stays s limits steps m leads step went.0 on refl stop (its_stands.found stop is);
      answered = λ end is. same_kept ∙ its_stands.answered end is;
    }

    -- another seat
    other_seat : (seat : ℕ) (u : View) → seat ≢ step.seat → slice_get views seat ≡ Some u → 0 < u.places → SeatStands s limits after (step ∷ steps) went.0 on seat u
    other_seat seat u other is there =
        let was : SeatStands s limits h steps m leads seat u = crew.seats seat u is there in
        record {
          owns = λ id owns. (changes.kept_theirs id u.worker (apart_if id owns) (was.owns id owns)).0;
          owned = λ in_it id owned. was.owned in_it id (changes.no_more id u.worker (others_apart seat u other is there in_it) owned);
          gone = was.gone;
          told = was.told ∙ sym (told_others seat other);
          runs = λ id owns p run. ap last_theft (told_others seat other)
              ∙ was.runs id owns p (sym ((changes.kept_theirs id u.worker (apart_if id owns) (was.owns id owns)).1) ∙ run);
          counts = was.counts;
          enters = λ worker enters. let before = was.enters worker enters in
              (before.0, λ id now. before.1 id (changes.no_more id worker (enters_apart seat u worker is enters) now));
          found = λ stop found. cause_stays s limits steps m leads step went.0 on refl stop (was.found stop found);
          answered = λ end answered. same_kept ∙ was.answered end answered;
        }
      where
        -- who owns a deque has not left
        is_here : (left : Bool) → u.left ≡ left → (id : DequeId) → u.deque ≡ Some id → u.left ≡ false
        is_here true gone id owns = absurd (none-some id (sym ((crew.seats seat u is there).gone gone) ∙ owns))
        is_here false in_it id owns = in_it

        apart_if : (id : DequeId) → u.deque ≡ Some id → u.worker ≢ v.worker
        apart_if id owns = others_apart seat u other is there (is_here u.left refl id owns)

    seats_now : (seat : ℕ) (u : View) → slice_get views_now seat ≡ Some u → 0 < u.places → SeatStands s limits after (step ∷ steps) went.0 on seat u
    seats_now seat u is there = elim (cases_eq seat step.seat) [
      | inl same ↦ subst (λ n. SeatStands s limits after (step ∷ steps) went.0 on n u) (sym same)
          (subst (SeatStands s limits after (step ∷ steps) went.0 on step.seat) (same_Some w u (sym (set_same views step.seat w v its_view) ∙ ap (slice_get views_now) (sym same) ∙ is)) its_seat)
      | inr other ↦ other_seat seat u other (sym (set_other views step.seat seat w other) ∙ is) there
    ]

kept_on : (s : Setting) (limits : Limits) (h : Hall) (steps : List Step) (m : Moment) (leads : Leads s steps m) (step : Step) (next : Moment) (on : Leads s (step ∷ steps) next) (places : List Place)
    → on.0 ≡ m → h.list.places ≢ [] → (end : End) → MayBeKept s limits steps on.0 on.1 h.list.places end → MayBeKept s limits (step ∷ steps) next on places end
kept_on s limits h steps m leads step next leads_on places same some finished may = absurd (some may.1)
kept_on s limits h steps m leads step next leads_on places same some (stopped stop) may =
    cause_stays s limits steps m leads step next leads_on same stop may

pub events_keep_crew : (s : Setting) → EventsKeepCrew s
events_keep_crew s limits h after steps m leads count views v step deque yielded crew its_view placed here its_worker went counting is_event changes some same_crew same_kept of_its_period runs_on kept_yield forced =
    record {
      places = same_total s limits h after steps m leads count views v step deque yielded crew its_view placed here its_worker went counting is_event changes same_crew places_held refl ∙ crew.places;
      named = λ worker. ap (times worker) same_crew ∙ crew.named worker
          ∙ sym (same_total s limits h after steps m leads count views v step deque yielded crew its_view placed here its_worker went counting is_event changes same_crew (stands_for worker) refl);
      sized = ap length same_crew ∙ crew.sized
          ∙ sym (same_total s limits h after steps m leads count views v step deque yielded crew its_view placed here its_worker went counting is_event changes same_crew workers_of refl);
      once = λ worker. subst (λ c. times worker c ≤ 1) (sym same_crew) (crew.once worker);
      numbered = subst (Each (λ worker. worker < s.workers)) (sym same_crew) crew.numbered;
      owners = owners_now s limits h after steps m leads count views v step deque yielded crew its_view placed here its_worker went counting is_event changes same_crew;
      counted = counted_now s limits h after steps m leads count views v step deque yielded crew its_view placed here its_worker went counting is_event changes same_crew;
      above = subst (λ n. count ≤ limits.actions + (n + missing after.list.kept s.workers (length after.list.crew)))
          (sym (same_total s limits h after steps m leads count views v step deque yielded crew its_view placed here its_worker went counting is_event changes same_crew one_if_late refl))
          (subst (λ c. count ≤ limits.actions + (total one_if_late views + missing after.list.kept s.workers (length c))) (sym same_crew)
          (subst (λ k. count ≤ limits.actions + (total one_if_late views + missing k s.workers (length h.list.crew))) (sym same_kept) crew.above));
      in_periods = (of_its_period, crew.in_periods);
      known = (
        inside step.seat (get_inside views step.seat v its_view),
        each_map (λ t. t.seat < length views) (λ t. t.seat < length (slice_set views step.seat (after_event v deque step.told yielded))) steps
            (λ t there low. inside t.seat low) crew.known,
      );
      unplaced = each_set (λ u. u.places ≡ 0 → u ≡ Rattle.hall_machine.specs.Views.joined) views step.seat (after_event v deque step.told yielded) crew.unplaced
          (λ none. let n = placed in absurd (omega (arith, none, n)));
      seats = seats_now s limits h after steps m leads count views v step deque yielded crew its_view placed here its_worker went counting is_event changes same_crew same_kept runs_on;
      none_free = λ none. (
        forced (each_get (λ u. u.yielded ≡ false) (slice_set views step.seat (after_event v deque step.told yielded)) step.seat (after_event v deque step.told yielded) none
            (set_same views step.seat (after_event v deque step.told yielded) v its_view)),
        crew.none_free (each_unset (λ u. u.yielded ≡ false) views step.seat (after_event v deque step.told yielded) v its_view none kept_yield),
      );
      kept = λ end is. kept_on s limits h steps m leads step went.0 (m, leads, went.1, went.2) after.list.places refl some end (crew.kept end (sym same_kept ∙ is));
    }
  where
    inside : (n : ℕ) → n < length views → n < length (slice_set views step.seat (after_event v deque step.told yielded))
    inside n low = let long = length-set views step.seat (after_event v deque step.told yielded) in omega (arith, low, long)
