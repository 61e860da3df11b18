-- What is common to both thefts: a period begins among the others, and the hall goes on by it.
use Rattle.std.proofs.Common.{◌≡◌, ◌≢◌, ℕ, suc, ◌+◌, ◌<◌, Bool, List, [], ◌∷◌, ◌++◌, map, length, refl, sym, ap, subst, ◌∙◌, arith}
use Rattle.std.specs.Prelude.{Some}
use Rattle.deque_list.specs.declared.place.Place.{Place}
use Rattle.depth_first_list.specs.Runs.{IsDepthFirst}
use Rattle.deque_machine.specs.Lists.{Each}
use Rattle.deque_machine.specs.Moments.{Moment}
use Rattle.deque_machine.specs.Machine.{Setting, steals}
use Rattle.deque_machine.specs.Runs.{moves}
use Rattle.moment_laws.specs.Passed.Periods.{Period, Adds}
use Rattle.moment_laws.specs.Passed.Numbers.{NumbersDiffer, NumbersWithin}
use Rattle.moment_laws.proofs.Passed.Lists.{adds, added_differ}
use Rattle.moment_laws.specs.Passed.Parts.{Deque, Parts}
use Rattle.moment_laws.specs.Passed.MomentShownEvents.{Begins}
use Rattle.moment_laws.specs.Standing.{StandsAfter, Keeps}
use Rattle.hall_machine.specs.Values.{LaneShown, Hall, deque_at, parts_of, showing_of}
use Rattle.hall_machine.specs.Steps.{Step, stole, run_of}
use Rattle.hall_machine.specs.Standing.{HallStands, HasLane, RanBy, Went}
use Rattle.hall_machine.specs.Writing.{new_period}
use Rattle.hall_machine.proofs.Lanes.{IsElsewhere}
use Rattle.hall_machine.proofs.Going.{went, numbers_within, ran_at_a_beginning}

-- nobody among the deques is the worker's where nobody among the places is
pub unowned : (lanes : List LaneShown) (worker : ℕ) (places : List Place) → Each (λ place. place.owner ≢ Some worker) places
    → Each (λ deque. Deque.owner deque ≢ Some worker) (map (deque_at lanes) places)
unowned lanes worker [] all = tt
unowned lanes worker (place ∷ right) all = (all.0, unowned lanes worker right all.1)

pub free_among : (lanes : List LaneShown) (id : ℕ) (places : List Place) → Each (IsElsewhere id) places → Each (λ deque. Deque.id deque ≢ id) (map (deque_at lanes) places)
free_among lanes id [] all = tt
free_among lanes id (place ∷ right) all = (all.0, free_among lanes id right all.1)

one_more : (n : ℕ) → suc n ≡ n + 1
one_more n = omega arith

module _ (s : Setting) (some : 0 < s.quota) (list : IsDepthFirst s.quota s.list) (h : Hall) (steps : List Step) (m : Moment) (at : HallStands s h steps m) (worker : ℕ) where
  -- a period that begins among those that were there
  abbrev pub begins : (ahead : Bool) (front back : List Period) → Parts.periods (parts_of h) ≡ front ++ back
      → Begins (parts_of h) worker ahead h.list.begun (front ++ new_period worker ahead (suc h.list.begun) ∷ back)
  begins ahead front back are = record {
    new = new_period worker ahead (suc h.list.begun);
    adds = subst (λ ps. Adds ps (new_period worker ahead (suc h.list.begun)) (front ++ new_period worker ahead (suc h.list.begun) ∷ back)) (sym are)
        (adds front (new_period worker ahead (suc h.list.begun)) back);
    numbered = refl;
    owner = refl;
    marked = refl;
    unused = refl;
    ran_nothing = refl;
    bore_none = refl;
  }

  differ : (p : Period) (front back : List Period) → p.number ≡ suc h.list.begun → Parts.periods (parts_of h) ≡ front ++ back → NumbersDiffer (front ++ p ∷ back)
  differ p front back number are = added_differ front p back h.list.begun (number ∙ one_more h.list.begun) (subst NumbersDiffer are at.shape.numbers)
      (subst (λ ps. NumbersWithin ps h.list.begun) are (numbers_within s h steps m at))

  -- the step is told, and the hall stands after it
  pub theft_went : (seat id : ℕ) (left : List Place) (ahead : Bool) (front back : List Period) (after : Hall) → Parts.periods (parts_of h) ≡ front ++ back
      → Parts.periods (parts_of after) ≡ front ++ new_period worker ahead (suc h.list.begun) ∷ back → after.list.begun ≡ h.list.begun + 1
      → Each (HasLane after.lanes) after.list.places → StandsAfter s (showing_of after) (moves s.list (run_of steps)) m worker (steals (length left) id)
      → Went s after steps m (record { seat = seat; worker = worker; period = suc h.list.begun; event = steals (length left) id; told = stole id (suc h.list.begun) })
  theft_went seat id left ahead front back after were are begun lanes stands =
      let step : Step = record { seat = seat; worker = worker; period = suc h.list.begun; event = steals (length left) id; told = stole id (suc h.list.begun) } in
      let new : Period = new_period worker ahead (suc h.list.begun) in
      went s h steps m at after step stands (refl, ap suc at.standing.begun)
      (record { lanes = lanes; numbers = subst NumbersDiffer (sym are) (differ new front back refl were) })
      (subst (Each (RanBy (step ∷ steps))) (sym are) (ran_at_a_beginning s h steps m at step new (front ++ new ∷ back) (begins ahead front back were).adds refl refl refl))
      (omega (arith, begun)) (omega (arith, begun))

  pub theft_keeps : (after : Hall) → after.pool ≡ h.pool → after.list.begun ≡ h.list.begun + 1 → Keeps (showing_of h) (showing_of after) 1
  theft_keeps after pool begun = record { live = ap (λ p. Rattle.hall_machine.specs.Values.PoolShown.live p) pool; begun = begun; moves = ap (λ p. Rattle.hall_machine.specs.Values.PoolShown.moves p) pool }
