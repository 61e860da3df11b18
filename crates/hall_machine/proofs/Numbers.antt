-- Where the list names fewer workers than there are, there is a number that it does not name.
use Rattle.std.proofs.Common.{◌≡◌, ℕ, zero, suc, ◌+◌, ◌<◌, ◌≤◌, ◌⊎◌, List, [], ◌∷◌, length, inl, inr, refl, sym, ap, subst, arith}
use Rattle.std.proofs.lemmas.Bool.{cases_lt, cases_eq}
use Rattle.std.specs.Prelude.{Some, slice_get}
use Rattle.std.proofs.lemmas.Option.{none-some, same_Some}
use Rattle.deque_machine.specs.Lists.{Among, Each, Differ, total, times}
use Rattle.deque_machine.proofs.Lists.{each_among, each_map, among_times, total_below}
use Rattle.deque_machine.specs.Machine.{Setting}
use Rattle.deque_machine.proofs.Ends.{few_among}
use Rattle.hall_machine.specs.Views.{View, one_if_in, one_if_some, workers_of, places_held}
use Rattle.hall_machine.proofs.Notes.{each_by_place}
use Rattle.hall_machine.proofs.Leaving.{in_below, workers_below}
use Rattle.hall_machine.specs.Numbers.{IsSmallestNumber, WorkersMayEnter}

-- the numbers below one
down : ℕ → List ℕ
down zero = []
down (suc n) = n ∷ down n

all_below : (n : ℕ) → Each (λ i. i < n) (down n)
unfolding down
all_below zero = tt
all_below (suc n) = (omega arith, each_map (λ i. i < n) (λ i. i < suc n) (down n) (λ i there low. omega (arith, low)) (all_below n))

they_differ : (n : ℕ) → Differ (down n)
unfolding down
they_differ zero = tt
they_differ (suc n) = (λ there. let low = each_among (λ i. i < n) n (down n) (all_below n) there in absurd (omega (arith, low)), they_differ n)

as_many : (n : ℕ) → length (down n) ≡ n
unfolding down
as_many zero = refl
as_many (suc n) = ap suc (as_many n)

-- a list that has all numbers below one is at least as long
all_named : (n : ℕ) (crew : List ℕ) → ((i : ℕ) → i < n → 0 < times i crew) → n ≤ length crew
all_named n crew named =
    let few = few_among (down n) crew (they_differ n) (each_map (λ i. i < n) (λ i. Among i crew) (down n) (λ i there low. among_times i crew (named i low)) (all_below n)) in
    let many = as_many n in omega (arith, few, many)

-- the first number from x on that is not named, or all are
first_free : (crew : List ℕ) (turns x : ℕ) → ((i : ℕ) → i < x → 0 < times i crew)
    → ((y : ℕ) × (y < x + turns) × (times y crew ≡ 0) × ((i : ℕ) → i < y → 0 < times i crew)) ⊎ ((i : ℕ) → i < x + turns → 0 < times i crew)
first_free crew zero x named = inr (λ i low. named i (omega (arith, low)))
first_free crew (suc turns) x named = elim (cases_lt 0 (times x crew)) [
  | inr none ↦ inl (x, omega arith, omega (arith, none), named)
  | inl some ↦ elim (first_free crew turns (suc x) (λ i low. elim (cases_eq i x) [
    | inl same ↦ subst (λ n. 0 < times n crew) (sym same) some
    | inr other ↦ named i (omega (arith, low, other))
  ])) [
    | inl found ↦ let low = found.1 in inl (found.0, omega (arith, low), found.2, found.3)
    | inr all ↦ inr (λ i low. all i (omega (arith, low)))
  ]
]

smallest : (workers : ℕ) (crew : List ℕ) → length crew < workers → (worker : ℕ) × IsSmallestNumber workers crew worker
smallest workers crew few = elim (first_free crew workers 0 (λ i low. absurd (omega (arith, low)))) [
  | inl found ↦ let low = found.1 in (found.0, (omega (arith, low), found.2, found.3))
  | inr all ↦ let long = all_named workers crew (λ i low. all i (omega (arith, low))) in absurd (omega (arith, few, long))
]

-- a sum is less than another where it is nowhere more, and less at one place
total_less : (f g : View → ℕ) (xs : List View) (i : ℕ) (x : View) → Each (λ y. f y ≤ g y) xs → slice_get xs i ≡ Some x → f x + 1 ≤ g x → total f xs + 1 ≤ total g xs
total_less f g [] i x all is less = absurd (none-some x is)
total_less f g (y ∷ xs) zero x all is less =
    let rest = total_below f g xs all.1 in let same = ap f (same_Some y x is) in let too = ap g (same_Some y x is) in omega (arith, rest, same, too, less)
total_less f g (y ∷ xs) (suc i) x all is less = let rest = total_less f g xs i x all.1 is less in let here : f y ≤ g y = all.0 in omega (arith, rest, here)

pub workers_may_enter : (s : Setting) → WorkersMayEnter s
workers_may_enter s limits h steps m leads count views seat v state is two free =
    let below = each_by_place (λ u. workers_of u ≤ places_held u) views (λ n u its. workers_below s limits h steps m leads count views state.crew n u its u.places refl u.enters refl) in
    let one = (in_below v.places v.left).1 in
    let nobody : one_if_some v.enters ≡ 0 = ap one_if_some free in
    let its : workers_of v ≡ one_if_in v + one_if_some v.enters = refl in
    let less = total_less workers_of places_held views seat v below is (omega (arith, one, nobody, its, two)) in
    let sized = state.crew.sized in let places = state.crew.places in
    let few : length h.list.crew < s.workers = omega (arith, less, sized, places) in
    (few, smallest s.workers h.list.crew few)
