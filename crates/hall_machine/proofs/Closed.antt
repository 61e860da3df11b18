-- A hall in its running state is bounded, and one that is closed gives one run.
use Rattle.std.proofs.Common.{◌≡◌, ◌≢◌, ℕ, ◌+◌, ◌<◌, ◌≤◌, cond, nat_eq, List, [], length, inl, inr, refl, sym, ap, subst, ◌∙◌, arith, ◌≤ℤ◌}
use Rattle.std.specs.Prelude.{Option, None, Some, slice_get}
use Rattle.std.proofs.lemmas.Option.{none-some, same_Some}
use Rattle.std.proofs.lemmas.Bool.{cases_eq, ne_eqb}
use Rattle.depth_first_list.specs.Runs.{IsDepthFirst}
use Rattle.deque_list.specs.declared.place.Place.{Place}
use Rattle.deque_machine.specs.Lists.{Among, total, times}
use Rattle.deque_machine.specs.Books.{periods_ahead, bound}
use Rattle.deque_machine.proofs.Lists.{total_zero, each_from, each_among}
use Rattle.deque_machine.proofs.Keeping.{ended_has_all}
use Rattle.deque_machine.specs.Moments.{Moment, opening, done_at, one_if_worker}
use Rattle.deque_machine.specs.Machine.{Setting, HasEnded}
use Rattle.deque_machine.specs.Play.{Limits}
use Rattle.deque_machine.specs.Runs.{Reaches}
use Rattle.deque_machine.proofs.Reached.{bound_always, marked_bound}
use Rattle.hall_machine.specs.Values.{Hall, hall_of}
use Rattle.hall_machine.specs.Steps.{Step, Leads, run_of}
use Rattle.hall_machine.specs.Writing.{place_of}
use Rattle.hall_machine.proofs.Going.{steps_are_a_run}
use Rattle.hall_machine.proofs.Opening.{first_stands}
use Rattle.hall_machine.proofs.Closing.{closed_is_a_run, none_of_the_run_is_free}
use Rattle.hall_machine.specs.Views.{View, joined, one_if_in, one_if_its, stands_for, places_held}
use Rattle.hall_machine.specs.Crew.{MayBeKept}
use Rattle.hall_machine.proofs.First.{first_crew}
use Rattle.hall_machine.proofs.Leaving.{if_it, none_of}
use Rattle.hall_machine.proofs.Notes.{total_two, each_get, each_by_place}
use Rattle.hall_machine.specs.State.{RunningState, IsIn}
use Rattle.hall_machine.specs.Closing.{FirstHallStands, StatesMeetTheLaw, HallsAreBounded, IsAlone, SeatsWithAllAreAlone, ClosedGiveOneRun}
use Rattle.hall_machine.proofs.Owning.{stood}

pub first_hall_stands : (s : Setting) → 0 < s.quota → IsDepthFirst s.quota s.list → FirstHallStands s
first_hall_stands s some list limits shown x worker first id label did children words crew kept low = record {
  steps = [];
  moment = opening;
  leads = refl;
  state = record {
    stands = first_stands s some list (hall_of shown) x first id label did children words;
    crew = first_crew s limits (hall_of shown) x worker first crew kept low;
  };
}

pub states_meet_the_law : (s : Setting) → StatesMeetTheLaw s
states_meet_the_law s limits h shown steps m leads count views state same = record {
  steps = steps;
  moment = m;
  leads = leads;
  state = subst (λ x. RunningState s limits x steps m leads count views) (sym same) state;
}

pub halls_are_bounded : (s : Setting) → 0 < s.quota → IsDepthFirst s.quota s.list → HallsAreBounded s
halls_are_bounded s some list limits h steps m leads count views state =
    let reaches : Reaches s opening (run_of steps) m = steps_are_a_run s steps m leads in
    record {
      reaches = reaches;
      lawful = state.stands.standing.lawful;
      words = λ n prefix. subst (λ live. live ≤ℤ bound s.quota s.list (periods_ahead n m.books)) (sym state.stands.standing.live)
          (bound_always s some list (run_of steps) m n reaches prefix);
      high = marked_bound s some list (run_of steps) m reaches;
    }

-- ---- a seat with all places

module _ (s : Setting) (limits : Limits) (h : Hall) (steps : List Step) (m : Moment) (leads : Leads s steps m) (count : ℕ) (views : List View) (seat : ℕ) (v : View)
    (state : RunningState s limits h steps m leads count views) (here : IsIn views seat v) (all : v.places ≡ s.workers) (nobody : v.enters ≡ None) where
  other_joined : (other : ℕ) (u : View) → other ≢ seat → slice_get views other ≡ Some u → u ≡ joined
  other_joined other u apart is =
      let both : u.places + v.places ≤ total places_held views = total_two places_held views other seat u v apart is here.noted in
      let sum = state.crew.places in let its = all in
      each_get (λ x. x.places ≡ 0 → x ≡ joined) views other u state.crew.unplaced is (omega (arith, both, sum, its))

  none_stand : (worker : ℕ) → stands_for worker joined ≡ 0
  none_stand worker =
      let none = none_of (nat_eq worker 0) in let sum : stands_for worker joined ≡ if_it (nat_eq worker 0) 0 + 0 = refl in omega (arith, none, sum)

  -- only it stands for a worker
  stands_at : (worker : ℕ) → worker ≢ v.worker → total (stands_for worker) views ≡ 0
  stands_at worker other = total_zero (stands_for worker) views
      (each_by_place (λ u. stands_for worker u ≡ 0) views (λ n u is. by_seat n u is))
    where
      its_none : stands_for worker v ≡ 0
      its_none =
          let enters : one_if_worker worker v.enters ≡ 0 = ap (one_if_worker worker) nobody in
          let its : one_if_its worker v ≡ 0 = ap (λ b. cond b (one_if_in v) 0) (ne_eqb worker v.worker other) in
          let sum : stands_for worker v ≡ one_if_its worker v + one_if_worker worker v.enters = refl in omega (arith, enters, its, sum)

      by_seat : (n : ℕ) (u : View) → slice_get views n ≡ Some u → stands_for worker u ≡ 0
      by_seat n u is = elim (cases_eq n seat) [
        | inl same ↦ ap (stands_for worker) (same_Some u v (sym is ∙ ap (slice_get views) same ∙ here.noted)) ∙ its_none
        | inr apart ↦ ap (stands_for worker) (other_joined n u apart is) ∙ none_stand worker
      ]

  none_owned : v.deque ≡ None → (place : Place) → Among place h.list.places → (owner : Option ℕ) → place.owner ≡ owner → place.owner ≡ None
  none_owned idle place there None is = is
  none_owned idle place there (Some worker) is = elim (cases_eq worker v.worker) [
    | inl same ↦ absurd (none-some place.id (sym idle ∙ (stood s limits h steps m leads count views seat v state here).owned here.stays place.id
        (subst (λ o. Among (place_of place.id o) h.list.places) (is ∙ ap Some same) there)))
    | inr other ↦
        let some = each_among (λ p. (w : ℕ) → p.owner ≡ Some w → 0 < times w h.list.crew) place h.list.places state.crew.owners there worker is in
        let named = state.crew.named worker in let none = stands_at worker other in absurd (omega (arith, some, named, none))
  ]

  is_alone : IsAlone h views seat v
  is_alone = record {
    others = other_joined;
    unowned = λ idle. each_from (λ place. place.owner ≡ None) h.list.places (λ place there. none_owned idle place there place.owner refl);
  }

pub seats_with_all_are_alone : (s : Setting) → SeatsWithAllAreAlone s
seats_with_all_are_alone s limits h steps m leads count views seat v state here all nobody = is_alone s limits h steps m leads count views seat v state here all nobody

-- ---- a closed hall

pub closed_give_one_run : (s : Setting) → 0 < s.quota → IsDepthFirst s.quota s.list → ClosedGiveOneRun s
closed_give_one_run s some list limits h steps m leads count views end state unowned kept =
    let run = closed_is_a_run s h steps m leads state.stands unowned in
    let may : MayBeKept s limits steps m leads h.list.places end = state.crew.kept end kept in
    record {
      reaches = run.0;
      books = run.1;
      moved = run.2;
      stopped_by = λ stop is. subst (MayBeKept s limits steps m leads h.list.places) is may;
      all_done = λ is place inside. has_all (subst (MayBeKept s limits steps m leads h.list.places) is may).0 place inside;
      root_kept = λ is. state.stands.standing.root_kept (subst (MayBeKept s limits steps m leads h.list.places) is may).0;
      none_left = λ is. (subst (MayBeKept s limits steps m leads h.list.places) is may).1;
      none_free = λ none. none_of_the_run_is_free s steps m leads (state.crew.none_free none);
    }
  where
    has_all : HasEnded s m [] → (place : ℕ) → place < length s.list → done_at m place ≡ 1
    has_all ended place inside =
        ended_has_all s.quota s.list list m.books ended.0 state.stands.standing.lawful.periods.lawful ended.1 ended.2 ended.3 ended.4 place inside
