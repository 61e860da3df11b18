-- The machine goes on for so many steps at most.
use Rattle.std.proofs.Common.{◌≡◌, ℕ, zero, suc, ◌+◌, ◌*◌, ◌-◌, ◌<◌, Bool, true, false, List, [], ◌∷◌, map, Some, None, Result, Ok, Err, slice_get, refl, sym, ap, subst, arith}
use Rattle.dag_order.specs.declared.fault.FaultKind.{FaultKind}
use Rattle.slot_store.specs.Rows.{Entry}
use Rattle.flat_expressions.specs.Acts.{act_on, passes}
use Rattle.flat_code.specs.Passed.Flat.{Flat, doing, unless, rounds, jumps, leaves, FlatCode, Point, goes_to, acted, at_place, chosen, turned, rounded, step_at, flat_step, Runs, arrived, further}
use Rattle.flat_code.specs.Passed.Forward.{GoesForward}
use Rattle.flat_code.proofs.Passed.Running.{runs_on}
use Rattle.flat_code.specs.declared.place.Place.{Place}
use Rattle.flat_code.specs.Shown.{instruction_shown, places_shown, what_of}

-- what is at a place of a list
pub what_at : (ps : List Place) (i : ℕ) (p : Place) → slice_get ps i ≡ Some p → slice_get (map what_of (places_shown ps)) i ≡ Some (instruction_shown p.what)
what_at [] i p e = let never : ⊥ = cc in absurd never
what_at (q ∷ ps) zero p e = let same : q ≡ p = cc in ap (λ (x : Place). Some (instruction_shown x.what)) same
what_at (q ∷ ps) (suc i) p e = what_at ps i p e

pub none_at : (ps : List Place) (i : ℕ) → slice_get ps i ≡ None → slice_get (map what_of (places_shown ps)) i ≡ None
none_at [] i e = refl
none_at (q ∷ ps) zero e = let never : ⊥ = cc in absurd never
none_at (q ∷ ps) (suc i) e = none_at ps i e

pub one_more : {f : FlatCode} {p q : Point} → Runs f p q → (r : Point) → flat_step f q ≡ goes_to r → Runs f p r
one_more h r e = runs_on h (further r e arrived)

-- the steps that are left, from a place on with so many turns
abbrev pub left_from : (long place turns : ℕ) → ℕ
left_from long place turns = turns * suc long + (long - place)

later : (long place next turns : ℕ) → place < long → place < next → left_from long next turns < left_from long place turns
later long place next turns within less = omega (arith, within, less)

turn : (long place body left : ℕ) → left_from long body left < left_from long place (suc left)
turn long place body left =
    let few : left * suc long + (long - body) < suc left * suc long = omega arith in
    omega (arith, few)

-- the step at a place that goes forward leaves less
module _ (long : ℕ) (p q : Point) (within : p.place < long) where
  abbrev Less : Type 0
  Less = left_from long q.place q.turns < left_from long p.place p.turns

  arrives : (r : Point) → goes_to r ≡ goes_to q → left_from long r.place r.turns < left_from long p.place p.turns → Less
  arrives r e less = let same : r ≡ q = cc in subst (λ (x : Point). left_from long x.place x.turns < left_from long p.place p.turns) same less

  acts : (r : Result (List Entry) FaultKind) → acted p r ≡ goes_to q → Less
  acts (Ok row) e = arrives (record { place = suc p.place; row = row; turns = p.turns }) e (later long p.place (suc p.place) p.turns within (omega arith))
  acts (Err kind) e = let never : ⊥ = cc in absurd never

  goes : (next : ℕ) → p.place < next → at_place p next ≡ goes_to q → Less
  goes next less e = arrives (record { place = next; row = p.row; turns = p.turns }) e (later long p.place next p.turns within less)

  chooses : (other : ℕ) → p.place < other → (holds : Bool) → chosen p other holds ≡ goes_to q → Less
  chooses other less true e = goes (suc p.place) (omega arith) e
  chooses other less false e = goes other less e

  turns_to : (body turns : ℕ) → p.turns ≡ turns → turned p body turns ≡ goes_to q → Less
  turns_to body zero is e = let never : ⊥ = cc in absurd never
  turns_to body (suc left) is e =
      arrives (record { place = body; row = p.row; turns = left }) e
      (subst (λ (n : ℕ). left_from long body left < left_from long p.place n) (sym is) (turn long p.place body left))

  rounds_to : (body behind : ℕ) → p.place < behind → (holds : Bool) → rounded p body behind holds ≡ goes_to q → Less
  rounds_to body behind less true e = turns_to body p.turns refl e
  rounds_to body behind less false e = goes behind less e

  pub falls : (what : Flat) → GoesForward p.place what → step_at p (Some what) ≡ goes_to q → Less
  falls (doing a) forward e = acts (act_on a p.row) e
  falls (unless test other) forward e = chooses other forward (passes p.row test) e
  falls (rounds test body behind) forward e = rounds_to body behind forward (passes p.row test) e
  falls (jumps next) forward e = goes next forward e
  falls leaves forward e = let never : ⊥ = cc in absurd never
