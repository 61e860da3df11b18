-- The running state goes on with an event of a seat, and whose deques are whose after it.
use Rattle.std.proofs.Common.{◌≡◌, ◌≢◌, ℕ, ◌+◌, ◌<◌, Bool, true, false, cond, List, [], ◌∷◌, ◌++◌, length, inl, inr, refl, sym, ap, subst, ◌∙◌, arith}
use Rattle.std.specs.Prelude.{Option, None, Some, slice_set}
use Rattle.std.proofs.lemmas.Option.{none-some, same_Some}
use Rattle.std.proofs.lemmas.Bool.{eq-eqb}
use Rattle.depth_first_list.specs.Passed.ActionId.{ActionId}
use Rattle.deque_list.specs.declared.deque_id.DequeId.{DequeId}
use Rattle.deque_list.specs.declared.place.Place.{Place}
use Rattle.deque_machine.specs.Lists.{Among, Each}
use Rattle.deque_machine.proofs.Lists.{each_from, each_among, among_middle, among_wider, among_here, among_times, middle_is_not_nil}
use Rattle.deque_machine.specs.Moments.{Moment, one_if_worker}
use Rattle.deque_machine.specs.Machine.{Setting, Event, steals, does, suspends, gives_up}
use Rattle.deque_machine.specs.Play.{Limits, IsForced}
use Rattle.deque_machine.specs.Runs as runs
use Rattle.moment_laws.specs.Passed.Periods.{Period}
use Rattle.moment_laws.specs.Passed.Parts.{Thread}
use Rattle.hall_machine.specs.Values.{ListShown, PoolShown, LaneShown, Hall, lane_at}
use Rattle.hall_machine.specs.Steps.{Step, Told, stole, did, waited, gave_up, halted, Leads, IsOfItsPeriod, told_to, last_theft, last_from}
use Rattle.hall_machine.specs.Standing.{Went}
use Rattle.hall_machine.specs.Writing.{place_of, lane_with, IsAtWork, written, step_of}
use Rattle.hall_machine.proofs.Lanes.{IsElsewhere, lane_written, lane_beside}
use Rattle.hall_machine.proofs.Own.{beside, inside}
use Rattle.hall_machine.specs.Views.{View, in_hall, one_if_in, one_if_its, stands_for, one_if_counting, event_told}
use Rattle.hall_machine.specs.Crew.{SeatStands}
use Rattle.hall_machine.specs.Changes.{after_event, ChangesOwn}
use Rattle.hall_machine.proofs.First.{is_in}
use Rattle.hall_machine.proofs.Notes.{total_at}
use Rattle.hall_machine.proofs.Acting.{events_keep_crew}
use Rattle.hall_machine.specs.State.{RunningState, IsIn, GoesOn}
use Rattle.hall_machine.specs.Events.{still_owning}

-- ---- the last theft

last_of_more : (last : Option ℕ) (mine more : List Told) → last_from last (mine ++ more) ≡ last_from (last_from last mine) more
last_of_more last [] more = refl
last_of_more last (stole deque period ∷ mine) more = last_of_more (Some period) mine more
last_of_more last (did name ∷ mine) more = last_of_more last mine more
last_of_more last (waited thread ∷ mine) more = last_of_more last mine more
last_of_more last (gave_up deque ∷ mine) more = last_of_more last mine more
last_of_more last (halted end ∷ mine) more = last_of_more last mine more

pub last_after : (mine : List Told) (told : Told) → last_theft (mine ++ told ∷ []) ≡ last_from (last_theft mine) (told ∷ [])
last_after mine told = last_of_more None mine (told ∷ [])

pub false_if : (b : Bool) → (b ≡ true → ⊥) → b ≡ false
false_if true none = absurd (none refl)
false_if false none = refl

-- an action is no give up
abbrev IsAction : Event → Type 0
IsAction (does place) = Unit {0}
IsAction (steals place id) = ⊥
IsAction suspends = ⊥
IsAction gives_up = ⊥

pub no_give_up : (place : ℕ) → does place ≡ gives_up → ⊥
no_give_up place same = subst IsAction same tt

abbrev IsWait : Event → Type 0
IsWait (does place) = ⊥
IsWait (steals place id) = ⊥
IsWait suspends = Unit {0}
IsWait gives_up = ⊥

pub wait_no_give_up : suspends ≡ gives_up → ⊥
wait_no_give_up same = subst IsWait same tt

abbrev IsTheft : Event → Type 0
IsTheft (does place) = ⊥
IsTheft (steals place id) = Unit {0}
IsTheft suspends = ⊥
IsTheft gives_up = ⊥

pub theft_no_give_up : (place id : ℕ) → steals place id ≡ gives_up → ⊥
theft_no_give_up place id same = subst IsTheft same tt

module _ (s : Setting) (limits : Limits) (h : Hall) (steps : List Step) (m : Moment) (leads : Leads s steps m) (count : ℕ) (views : List View) (seat : ℕ) (v : View)
    (state : RunningState s limits h steps m leads count views) (here : IsIn views seat v) where
  pub stood : SeatStands s limits h steps m leads seat v
  stood = state.crew.seats seat v here.noted here.placed

  abbrev pub step_with : (period : ℕ) → Event → Told → Step
  step_with period event told = record { seat = seat; worker = v.worker; period = period; event = event; told = told }

  -- an event of it
  pub goes_on : (after : Hall) (period : ℕ) (event : Event) (told : Told) (deque : Option DequeId) (yielded : Bool)
      → (went : Went s after steps m (step_with period event told)) → one_if_counting v ≡ length (runs.place_of event) → event_told told ≡ told ∷ []
      → ChangesOwn h after v.worker deque → h.list.places ≢ [] → after.list.crew ≡ h.list.crew → after.list.kept ≡ h.list.kept
      → IsOfItsPeriod event period (told_to seat steps)
      → ((id : DequeId) → deque ≡ Some id → (p : Period) → LaneShown.period (lane_at after.lanes id) ≡ Some p → last_theft (told_to seat steps ++ told ∷ []) ≡ Some p.number)
      → (yielded ≡ false → v.yielded ≡ false) → (yielded ≡ false → event ≡ gives_up → IsForced s m v.worker)
      → GoesOn s limits after steps m leads (step_with period event told) count (slice_set views seat (after_event v deque told yielded))
  goes_on after period event told deque yielded went counting is_event changes some same_crew same_kept of_period runs_on kept_yield forced = (
    went.0,
    went.1,
    went.2,
    record {
      stands = went.3;
      crew = events_keep_crew s limits h after steps m leads count views v (step_with period event told) deque yielded state.crew here.noted here.placed here.stays refl
          went counting is_event changes some same_crew same_kept of_period runs_on kept_yield forced;
    },
  )

  -- its worker is named, and is one of the hall's
  pub worker_below : v.worker < s.workers
  worker_below =
      let named = state.crew.named v.worker in let at = total_at (stands_for v.worker) views seat v here.noted in
      let one : one_if_its v.worker v ≡ 1 = ap (λ b. cond b (one_if_in v) 0) (eq-eqb v.worker v.worker refl) ∙ ap (in_hall v.places) here.stays ∙ is_in v.places here.placed in
      let sum : stands_for v.worker v ≡ one_if_its v.worker v + one_if_worker v.worker v.enters = refl in
      each_among (λ worker. worker < s.workers) v.worker h.list.crew state.crew.numbered (among_times v.worker h.list.crew (omega (arith, named, at, one, sum)))

  -- where it is idle, its worker owns no deque
  pub owns_none : v.deque ≡ None → Each (λ place. place.owner ≢ Some v.worker) h.list.places
  owns_none idle = each_from (λ place. place.owner ≢ Some v.worker) h.list.places
      (λ place there owner. none-some place.id (sym idle ∙ stood.owned here.stays place.id (subst (λ o. Among (place_of place.id o) h.list.places) owner there)))

  -- ---- it is at work

  module _ (w : IsAtWork h v.worker) where
    abbrev mine : Place
    mine = place_of w.id (Some v.worker)

    pub owns_it : v.deque ≡ Some w.id
    owns_it = stood.owned here.stays w.id (subst (Among mine) (sym w.places_are) (among_here mine w.left w.right))

    pub its_period : last_theft (told_to seat steps) ≡ Some w.period.number
    its_period = stood.runs w.id owns_it w.period (ap (λ lane. LaneShown.period lane) w.lane_is)

    pub some_places : h.list.places ≢ []
    some_places none = middle_is_not_nil w.left mine w.right (sym w.places_are ∙ none)

    apart : Each (IsElsewhere w.id.0) (w.left ++ w.right)
    apart = beside s h steps m state.stands w

    -- a deque of another worker is beside it, with another id
    theirs : (id : DequeId) (other : ℕ) → other ≢ v.worker → Among (place_of id (Some other)) h.list.places → Among (place_of id (Some other)) (w.left ++ w.right)
    theirs id other others there = elim (among_middle (place_of id (Some other)) w.left mine w.right (subst (Among (place_of id (Some other))) w.places_are there)) [
      | inl same ↦ absurd (others (same_Some other v.worker (ap (λ p. Place.owner p) same)))
      | inr aside ↦ aside
    ]

    elsewhere : (p : Place) → Among p (w.left ++ w.right) → p.id.0 ≢ w.id.0
    elsewhere p there = each_among (IsElsewhere w.id.0) p (w.left ++ w.right) apart there

    among_places : (p : Place) → Among p (w.left ++ w.right) → Among p h.list.places
    among_places p there = subst (Among p) (sym w.places_are) (among_wider p w.left mine w.right there)

    -- none beside it is its worker's
    not_beside : (id : DequeId) → Among (place_of id (Some v.worker)) (w.left ++ w.right) → ⊥
    not_beside id there =
        let same : id ≡ w.id = same_Some id w.id (sym (stood.owned here.stays id (among_places (place_of id (Some v.worker)) there)) ∙ owns_it) in
        elsewhere (place_of id (Some v.worker)) there (ap (λ (d : DequeId). d.0) same)

    module _ (list : ListShown) (pool : PoolShown) (lane : LaneShown) where
      abbrev after : Hall
      after = written w list pool lane

      same_period : (id : DequeId) (other : ℕ) → Among (place_of id (Some other)) (w.left ++ w.right) → LaneShown.period (lane_at after.lanes id) ≡ LaneShown.period (lane_at h.lanes id)
      same_period id other there = ap (λ l. LaneShown.period l) (lane_beside h.lanes w.id id lane (elsewhere (place_of id (Some other)) there))

      -- where it stays its own
      pub keeps_own : list.places ≡ h.list.places → ChangesOwn h after v.worker (Some w.id)
      keeps_own same = record {
        kept_theirs = λ id other others there. (subst (Among (place_of id (Some other))) (sym same) there, same_period id other (theirs id other others there));
        no_more = λ id other others there. subst (Among (place_of id (Some other))) same there;
        its = λ id is. subst (λ d. Among (place_of d (Some v.worker)) list.places) (same_Some w.id id is)
            (subst (Among mine) (sym (same ∙ w.places_are)) (among_here mine w.left w.right));
        all_its = λ id there. sym owns_it ∙ stood.owned here.stays id (subst (Among (place_of id (Some v.worker))) same there);
      }

      -- where it is nobody's, or gone
      pub loses_own : ((p : Place) → Among p (w.left ++ w.right) → Among p list.places)
          → ((p : Place) (owner : ℕ) → p.owner ≡ Some owner → Among p list.places → Among p (w.left ++ w.right)) → ChangesOwn h after v.worker None
      loses_own up down = record {
        kept_theirs = λ id other others there.
            (up (place_of id (Some other)) (theirs id other others there), same_period id other (theirs id other others there));
        no_more = λ id other others there. among_places (place_of id (Some other)) (down (place_of id (Some other)) other refl there);
        its = λ id is. absurd (none-some id is);
        all_its = λ id there. absurd (not_beside id (down (place_of id (Some v.worker)) v.worker refl there));
      }

    -- ---- its actions

    acts : v.counting ≡ true → one_if_counting v ≡ 1
    acts counting = ap (λ b. cond b 1 0) counting

    lane_there : (lane : LaneShown) → lane_at (slice_set h.lanes w.id.0 lane) w.id ≡ lane
    lane_there lane = lane_written h.lanes w.id lane (inside s h steps m state.stands w)

    -- the period of its lane goes on
    pub goes_on_owning : (list : ListShown) (pool : PoolShown) (threads : List Thread) (period : Period) (place : ℕ) (name : ActionId) → v.counting ≡ true
        → list.places ≡ h.list.places → list.crew ≡ h.list.crew → list.kept ≡ h.list.kept → period.number ≡ w.period.number
        → Went s (written w list pool (lane_with threads (Some period))) steps m (step_of w seat (does place) (did name))
        → GoesOn s limits (written w list pool (lane_with threads (Some period))) steps m leads (step_of w seat (does place) (did name)) count
        (slice_set views seat (still_owning v w name))
    goes_on_owning list pool threads period place name counting same_places same_crew same_kept same_number went =
        goes_on (written w list pool (lane_with threads (Some period))) w.period.number (does place) (did name) (Some w.id) v.yielded went (acts counting) refl
        (keeps_own list pool (lane_with threads (Some period)) same_places) some_places same_crew same_kept its_period
        (λ id is p run. last_after (told_to seat steps) (did name) ∙ its_period
        ∙ ap Some (sym same_number ∙ ap (λ q. Period.number q) (same_Some period p
        (sym (ap (λ l. LaneShown.period l) (lane_there (lane_with threads (Some period))))
        ∙ ap (λ d. LaneShown.period (lane_at (slice_set h.lanes w.id.0 (lane_with threads (Some period))) d)) (same_Some w.id id is) ∙ run))))
        (λ same. same) (λ yields is. absurd (no_give_up place is))

    -- the deque is nobody's afterwards, or gone
    pub goes_on_idle : (list : ListShown) (pool : PoolShown) (lane : LaneShown) (event : Event) (told : Told) (yielded : Bool) → one_if_counting v ≡ length (runs.place_of event)
        → event_told told ≡ told ∷ [] → IsOfItsPeriod event w.period.number (told_to seat steps) → list.crew ≡ h.list.crew → list.kept ≡ h.list.kept
        → ((p : Place) → Among p (w.left ++ w.right) → Among p list.places)
        → ((p : Place) (owner : ℕ) → p.owner ≡ Some owner → Among p list.places → Among p (w.left ++ w.right))
        → (yielded ≡ false → v.yielded ≡ false) → (yielded ≡ false → event ≡ gives_up → IsForced s m v.worker)
        → Went s (written w list pool lane) steps m (step_of w seat event told)
        → GoesOn s limits (written w list pool lane) steps m leads (step_of w seat event told) count (slice_set views seat (after_event v None told yielded))
    goes_on_idle list pool lane event told yielded counting is_event of_period same_crew same_kept up down kept_yield forced went =
        goes_on (written w list pool lane) w.period.number event told None yielded went counting is_event (loses_own list pool lane up down) some_places same_crew same_kept
        of_period (λ id is. absurd (none-some id is)) kept_yield forced

    -- who is among the places where this one has no owner
    pub wider_unowned : (p : Place) → Among p (w.left ++ w.right) → Among p (w.left ++ place_of w.id None ∷ w.right)
    wider_unowned p there = among_wider p w.left (place_of w.id None) w.right there

    pub owned_beside : (p : Place) (owner : ℕ) → p.owner ≡ Some owner → Among p (w.left ++ place_of w.id None ∷ w.right) → Among p (w.left ++ w.right)
    owned_beside p owner is there = elim (among_middle p w.left (place_of w.id None) w.right there) [
      | inl same ↦ absurd (none-some owner (sym (ap (λ q. Place.owner q) same) ∙ is))
      | inr aside ↦ aside
    ]
