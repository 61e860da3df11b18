-- Each theft leads from a running state to a running state.
use Rattle.std.proofs.Common.{◌≡◌, ◌≢◌, ℕ, suc, ◌<◌, ◌⊎◌, true, cond, nat_lt, List, [], ◌∷◌, ◌++◌, length, inl, inr, refl, sym, ap, subst, ◌∙◌, arith, length-set}
use Rattle.std.specs.Prelude.{Option, None, Some, slice_set, slice_index_or}
use Rattle.std.proofs.lemmas.Option.{none-some, same_Some}
use Rattle.std.proofs.lemmas.Bool.{cases_eq}
use Rattle.depth_first_list.specs.Runs.{IsDepthFirst}
use Rattle.deque_list.specs.declared.deque_id.DequeId.{DequeId}
use Rattle.deque_list.specs.declared.place.Place.{Place}
use Rattle.deque_machine.specs.Lists.{Among, Each}
use Rattle.deque_machine.proofs.Lists.{each_among, each_at, among_middle, among_wider, among_here, middle_is_not_nil}
use Rattle.deque_machine.specs.Moments.{Moment}
use Rattle.deque_machine.specs.Machine.{Setting, steals}
use Rattle.deque_machine.specs.Play.{Limits}
use Rattle.moment_laws.specs.Passed.Periods.{Period}
use Rattle.moment_laws.specs.Passed.Parts.{Thread}
use Rattle.hall_machine.specs.Values.{LaneShown, Hall, no_lane, lane_at}
use Rattle.hall_machine.specs.Steps.{Step, Leads, stole, told_to, last_theft}
use Rattle.hall_machine.specs.Standing.{HasLane}
use Rattle.hall_machine.specs.Writing.{place_of, lane_with, new_period}
use Rattle.hall_machine.specs.Rows.{MaySteal, list_stolen}
use Rattle.hall_machine.proofs.Lanes.{IsElsewhere, apart, lane_written, lane_beside}
use Rattle.hall_machine.proofs.Beside.{thefts_beside_stand}
use Rattle.hall_machine.proofs.TakingOver.{taking_over_stands}
use Rattle.hall_machine.specs.Views.{View, one_if_counting}
use Rattle.hall_machine.specs.Changes.{ChangesOwn}
use Rattle.hall_machine.specs.State.{RunningState, IsIn}
use Rattle.hall_machine.specs.Events.{TheftsBesideGoOn, TakingOverGoesOn}
use Rattle.hall_machine.proofs.Owning.{stood, goes_on, worker_below, owns_none, last_after, false_if, theft_no_give_up}

-- a list of places with one more, right of another
module _ (left : List Place) (victim new : Place) (right : List Place) where
  among_new : (x : Place) → Among x (left ++ victim ∷ new ∷ right) → (x ≡ new) ⊎ Among x (left ++ victim ∷ right)
  among_new x there = elim (among_middle x left victim (new ∷ right) there) [
    | inl same ↦ inr (subst (λ y. Among y (left ++ victim ∷ right)) (sym same) (among_here victim left right))
    | inr aside ↦ elim (among_middle x left new right aside) [ inl same ↦ inl same | inr further ↦ inr (among_wider x left victim right further) ]
  ]

  among_old : (x : Place) → Among x (left ++ victim ∷ right) → Among x (left ++ victim ∷ new ∷ right)
  among_old x there = elim (among_middle x left victim right there) [
    | inl same ↦ subst (λ y. Among y (left ++ victim ∷ new ∷ right)) (sym same) (among_here victim left (new ∷ right))
    | inr aside ↦ among_wider x left victim (new ∷ right) (among_wider x left new right aside)
  ]

  new_there : Among new (left ++ victim ∷ new ∷ right)
  new_there = among_wider new left victim (new ∷ right) (among_here new left right)

module _ (s : Setting) (limits : Limits) (h : Hall) (steps : List Step) (m : Moment) (leads : Leads s steps m) (count : ℕ) (views : List View) (seat : ℕ) (v : View)
    (state : RunningState s limits h steps m leads count views) (here : IsIn views seat v) (idle : v.deque ≡ None) where
  -- an idle seat holds no count
  none_counted : one_if_counting v ≡ 0
  none_counted = ap (λ b. cond b 1 0) (false_if v.counting (λ counting.
      let owns = ((stood s limits h steps m leads count views seat v state here).counts counting).0 in none-some owns.0 (sym idle ∙ owns.1)))

  pub may_steal : (left : List Place) → length left < s.workers → MaySteal s.workers h v.worker left
  may_steal left in_reach = record {
    is_worker = worker_below s limits h steps m leads count views seat v state here;
    owns_none = owns_none s limits h steps m leads count views seat v state here idle;
    in_reach = in_reach;
  }

  not_its : (id : DequeId) → Among (place_of id (Some v.worker)) h.list.places → ⊥
  not_its id there =
      each_among (λ place. place.owner ≢ Some v.worker) (place_of id (Some v.worker)) h.list.places (owns_none s limits h steps m leads count views seat v state here idle) there refl

  -- ---- from a deque that keeps other threads

  module _ (left right : List Place) (victim : Place) (id : DequeId) (first bottom : Thread) (others : List Thread) (running : Option Period)
      (are : h.list.places ≡ left ++ victim ∷ right) (lane : lane_at h.lanes victim.id ≡ lane_with (first ∷ (others ++ bottom ∷ [])) running)
      (fresh : Each (λ place. place.id.0 ≢ id.0) h.list.places) (inside : id.0 < length h.lanes) where
    abbrev new : Place
    new = place_of id (Some v.worker)

    abbrev robbed : List LaneShown
    robbed = slice_set h.lanes victim.id.0 (lane_with (first ∷ others) running)

    abbrev opened : LaneShown
    opened = lane_with (bottom ∷ []) (Some (new_period v.worker true (suc h.list.begun)))

    abbrev stolen : Hall
    stolen = record { list = list_stolen h.list (left ++ victim ∷ new ∷ right); pool = h.pool; lanes = slice_set robbed id.0 opened }

    victim_inside : victim.id.0 < length h.lanes
    victim_inside = (each_at (HasLane h.lanes) left victim right (subst (Each (HasLane h.lanes)) are state.stands.shape.lanes)).inside

    robbed_period : (other : DequeId) → LaneShown.period (lane_at robbed other) ≡ LaneShown.period (lane_at h.lanes other)
    robbed_period other = elim (cases_eq other.0 victim.id.0) [
      | inl same ↦ ap (λ n. LaneShown.period (slice_index_or robbed n no_lane)) same
          ∙ ap (λ l. LaneShown.period l) (lane_written h.lanes victim.id (lane_with (first ∷ others) running) victim_inside)
          ∙ sym (ap (λ l. LaneShown.period l) lane) ∙ ap (λ n. LaneShown.period (slice_index_or h.lanes n no_lane)) (sym same)
      | inr elsewhere ↦ ap (λ l. LaneShown.period l) (lane_beside h.lanes victim.id other (lane_with (first ∷ others) running) elsewhere)
    ]

    old_period : (other : DequeId) (owner : ℕ) → Among (place_of other (Some owner)) h.list.places
        → LaneShown.period (lane_at stolen.lanes other) ≡ LaneShown.period (lane_at h.lanes other)
    old_period other owner there =
        ap (λ l. LaneShown.period l) (lane_beside robbed id other opened (each_among (λ place. place.id.0 ≢ id.0) (place_of other (Some owner)) h.list.places fresh there))
        ∙ robbed_period other

    changes : ChangesOwn h stolen v.worker (Some id)
    changes = record {
      kept_theirs = λ other owner apart there.
          (among_old left victim new right (place_of other (Some owner)) (subst (Among (place_of other (Some owner))) are there), old_period other owner there);
      no_more = λ other owner apart there. elim (among_new left victim new right (place_of other (Some owner)) there) [
        | inl same ↦ absurd (apart (same_Some owner v.worker (ap (λ p. Place.owner p) same)))
        | inr old ↦ subst (Among (place_of other (Some owner))) (sym are) old
      ];
      its = λ other is. subst (λ d. Among (place_of d (Some v.worker)) stolen.list.places) (same_Some id other is) (new_there left victim new right);
      all_its = λ other there. elim (among_new left victim new right (place_of other (Some v.worker)) there) [
        | inl same ↦ ap (λ p. Some (Place.id p)) (sym same)
        | inr old ↦ absurd (not_its other (subst (Among (place_of other (Some v.worker))) (sym are) old))
      ];
    }

    opened_there : lane_at stolen.lanes id ≡ opened
    opened_there = lane_written robbed id opened (let long = length-set h.lanes victim.id.0 (lane_with (first ∷ others) running) in let low = inside in omega (arith, long, low))

    runs_on : (other : DequeId) → Some id ≡ Some other → (p : Period) → LaneShown.period (lane_at stolen.lanes other) ≡ Some p
        → last_theft (told_to seat steps ++ stole id.0 (suc h.list.begun) ∷ []) ≡ Some p.number
    runs_on other is p run = last_after (told_to seat steps) (stole id.0 (suc h.list.begun))
        ∙ ap (λ q. Some (Period.number q)) (same_Some (new_period v.worker true (suc h.list.begun)) p
        (sym (ap (λ l. LaneShown.period l) opened_there) ∙ ap (λ d. LaneShown.period (lane_at stolen.lanes d)) (same_Some id other is) ∙ run))

  -- ---- one that nobody owns, which holds one thread

  module _ (left right : List Place) (id : DequeId) (thread : Thread) (are : h.list.places ≡ left ++ place_of id None ∷ right) where
    abbrev was : Place
    was = place_of id None

    abbrev its_now : Place
    its_now = place_of id (Some v.worker)

    abbrev begun_in : LaneShown
    begun_in = lane_with (thread ∷ []) (Some (new_period v.worker (nat_lt 0 (length left)) (suc h.list.begun)))

    abbrev taken : Hall
    taken = record { list = list_stolen h.list (left ++ its_now ∷ right); pool = h.pool; lanes = slice_set h.lanes id.0 begun_in }

    aside : Each (IsElsewhere id.0) (left ++ right)
    aside = apart s h m state.stands.standing.lawful state.stands.standing.shows left was right are

    owned_aside : (other : DequeId) (owner : ℕ) → Among (place_of other (Some owner)) h.list.places → Among (place_of other (Some owner)) (left ++ right)
    owned_aside other owner there = elim (among_middle (place_of other (Some owner)) left was right (subst (Among (place_of other (Some owner))) are there)) [
      | inl same ↦ absurd (none-some owner (sym (ap (λ p. Place.owner p) same)))
      | inr beside ↦ beside
    ]

    back : (x : Place) → Among x (left ++ right) → Among x h.list.places
    back x there = subst (Among x) (sym are) (among_wider x left was right there)

    taken_changes : ChangesOwn h taken v.worker (Some id)
    taken_changes = record {
      kept_theirs = λ other owner others there. let beside = owned_aside other owner there in (
        among_wider (place_of other (Some owner)) left its_now right beside,
        ap (λ l. LaneShown.period l) (lane_beside h.lanes id other begun_in (each_among (IsElsewhere id.0) (place_of other (Some owner)) (left ++ right) aside beside)),
      );
      no_more = λ other owner others there. elim (among_middle (place_of other (Some owner)) left its_now right there) [
        | inl same ↦ absurd (others (same_Some owner v.worker (ap (λ p. Place.owner p) same)))
        | inr beside ↦ back (place_of other (Some owner)) beside
      ];
      its = λ other is. subst (λ d. Among (place_of d (Some v.worker)) taken.list.places) (same_Some id other is) (among_here its_now left right);
      all_its = λ other there. elim (among_middle (place_of other (Some v.worker)) left its_now right there) [
        | inl same ↦ ap (λ p. Some (Place.id p)) (sym same)
        | inr beside ↦ absurd (not_its other (back (place_of other (Some v.worker)) beside))
      ];
    }

    taken_there : lane_at taken.lanes id ≡ begun_in
    taken_there = lane_written h.lanes id begun_in (each_at (HasLane h.lanes) left was right (subst (Each (HasLane h.lanes)) are state.stands.shape.lanes)).inside

    taken_runs : (other : DequeId) → Some id ≡ Some other → (p : Period) → LaneShown.period (lane_at taken.lanes other) ≡ Some p
        → last_theft (told_to seat steps ++ stole id.0 (suc h.list.begun) ∷ []) ≡ Some p.number
    taken_runs other is p run = last_after (told_to seat steps) (stole id.0 (suc h.list.begun))
        ∙ ap (λ q. Some (Period.number q)) (same_Some (new_period v.worker (nat_lt 0 (length left)) (suc h.list.begun)) p
        (sym (ap (λ l. LaneShown.period l) taken_there) ∙ ap (λ d. LaneShown.period (lane_at taken.lanes d)) (same_Some id other is) ∙ run))

module _ (s : Setting) (some : 0 < s.quota) (list : IsDepthFirst s.quota s.list) where
  pub thefts_beside_go_on : TheftsBesideGoOn s
  thefts_beside_go_on limits h steps m leads count views seat v left right victim id first bottom others running state here idle in_reach are lane fresh inside =
      goes_on s limits h steps m leads count views seat v state here
      (stolen s limits h steps m leads count views seat v state here idle left right victim id first bottom others running are lane fresh inside)
      (suc h.list.begun) (steals (length left) id.0) (stole id.0 (suc h.list.begun)) (Some id) v.yielded
      (thefts_beside_stand s some list h steps m seat v.worker left right victim id first bottom others running state.stands
      (may_steal s limits h steps m leads count views seat v state here idle left in_reach) are lane fresh inside)
      (none_counted s limits h steps m leads count views seat v state here idle) refl
      (changes s limits h steps m leads count views seat v state here idle left right victim id first bottom others running are lane fresh inside)
      (λ none. middle_is_not_nil left victim right (sym are ∙ none)) refl refl tt
      (runs_on s limits h steps m leads count views seat v state here idle left right victim id first bottom others running are lane fresh inside)
      (λ same. same) (λ yields is. absurd (theft_no_give_up (length left) id.0 is))

  pub taking_over_goes_on : TakingOverGoesOn s
  taking_over_goes_on limits h steps m leads count views seat v left right id thread state here idle in_reach are lane =
      goes_on s limits h steps m leads count views seat v state here
      (taken s limits h steps m leads count views seat v state here idle left right id thread are)
      (suc h.list.begun) (steals (length left) id.0) (stole id.0 (suc h.list.begun)) (Some id) v.yielded
      (taking_over_stands s some list h steps m seat v.worker left right id thread state.stands
      (may_steal s limits h steps m leads count views seat v state here idle left in_reach) are lane)
      (none_counted s limits h steps m leads count views seat v state here idle) refl
      (taken_changes s limits h steps m leads count views seat v state here idle left right id thread are)
      (λ none. middle_is_not_nil left (place_of id None) right (sym are ∙ none)) refl refl tt
      (taken_runs s limits h steps m leads count views seat v state here idle left right id thread are)
      (λ same. same) (λ yields is. absurd (theft_no_give_up (length left) id.0 is))
