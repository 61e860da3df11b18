-- Seats that hold a count own different deques, so there are no more of them than deques.
use Rattle.std.proofs.Common.{◌≡◌, ℕ, ◌+◌, ◌≤◌, Bool, true, false, cond, nat_eq, List, [], ◌∷◌, length, inl, inr, refl, sym, ap, ◌∙◌, arith}
use Rattle.std.proofs.lemmas.Bool.{cases_eq, eq-eqb, ne_eqb}
use Rattle.std.specs.Prelude.{Option, None, Some, slice_get}
use Rattle.deque_list.specs.declared.deque_id.DequeId.{DequeId}
use Rattle.deque_list.specs.declared.place.Place.{Place}
use Rattle.deque_machine.specs.Lists.{Among, Each, total}
use Rattle.deque_machine.proofs.Lists.{total_below, total_zero, each_from}
use Rattle.deque_machine.specs.Moments.{one_if_worker}
use Rattle.hall_machine.specs.Writing.{place_of}
use Rattle.hall_machine.specs.Views.{View, one_if_in, one_if_its, stands_for, one_if_counting}
use Rattle.hall_machine.proofs.Notes.{each_by_place}

-- ---- sums over two lists

module _ {X Y : Type 0} (f : X → Y → ℕ) where
  sum_both : (x : X) (xs : List X) (ys : List Y) → total (λ y. f x y + total (λ z. f z y) xs) ys ≡ total (f x) ys + total (λ y. total (λ z. f z y) xs) ys
  sum_both x xs [] = refl
  sum_both x xs (y ∷ ys) = let rest = sum_both x xs ys in omega (arith, rest)

  nothing : (ys : List Y) → total (λ (y : Y). 0) ys ≡ 0
  nothing [] = refl
  nothing (y ∷ ys) = let rest = nothing ys in omega (arith, rest)

  pub total_swap : (xs : List X) (ys : List Y) → total (λ x. total (f x) ys) xs ≡ total (λ y. total (λ x. f x y) xs) ys
  total_swap [] ys = sym (nothing ys)
  total_swap (x ∷ xs) ys = let rest = total_swap xs ys in let both = sum_both x xs ys in omega (arith, rest, both)

module _ {X : Type 0} (f : X → ℕ) where
  pub total_among : (x : X) (xs : List X) → Among x xs → f x ≤ total f xs
  total_among x [] there = absurd there
  total_among x (y ∷ xs) there = elim there [
    | inl same ↦ let is = ap f same in omega (arith, is)
    | inr later ↦ let rest = total_among x xs later in omega (arith, rest)
  ]

  pub total_ones_above : (xs : List X) → Each (λ x. f x ≤ 1) xs → total f xs ≤ length xs
  total_ones_above [] all = omega arith
  total_ones_above (x ∷ xs) all = let rest = total_ones_above xs all.1 in let here = all.0 in omega (arith, rest, here)

-- ---- what a seat claims

-- 1 for a deque of its worker, while it holds a count
abbrev claims : View → Place → ℕ
claims v place = cond v.counting (one_if_worker v.worker place.owner) 0

same_worker : (a b : ℕ) → one_if_worker a (Some b) ≡ one_if_worker b (Some a)
same_worker a b = elim (cases_eq a b) [
  | inl same ↦ ap (λ n. one_if_worker n (Some b)) same ∙ ap (λ n. one_if_worker b (Some n)) (sym same)
  | inr other ↦ ap (λ t. cond t 1 0) (ne_eqb a b other) ∙ sym (ap (λ t. cond t 1 0) (ne_eqb b a (λ e. other (sym e))))
]

-- Each seat of these that holds a count is in and owns a deque, and for each worker stands one seat at most.
pub record Claiming (views : List View) (places : List Place) : Type 0 where
  pub owning : (n : ℕ) (u : View) → slice_get views n ≡ Some u → u.counting ≡ true → (id : DequeId) × Among (place_of id (Some u.worker)) places × (one_if_in u ≡ 1)
  pub once : (worker : ℕ) → total (stands_for worker) views ≤ 1

module _ (views : List View) (places : List Place) (all : Claiming views places) where
  claimed : (n : ℕ) (u : View) → slice_get views n ≡ Some u → (counting : Bool) → u.counting ≡ counting → one_if_counting u ≤ total (claims u) places
  claimed n u is false none = let zero_here : one_if_counting u ≡ 0 = ap (λ b. cond b 1 0) none in omega (arith, zero_here)
  claimed n u is true holds =
      let owns = all.owning n u is holds in
      let one_here : one_if_counting u ≡ 1 = ap (λ b. cond b 1 0) holds in
      let one : claims u (place_of owns.0 (Some u.worker)) ≡ 1 =
      ap (λ b. cond b (one_if_worker u.worker (Some u.worker)) 0) holds ∙ ap (λ b. cond b 1 0) (eq-eqb u.worker u.worker refl) in
      let within = total_among (claims u) (place_of owns.0 (Some u.worker)) places owns.1 in omega (arith, one_here, one, within)

  within_stands : (n : ℕ) (u : View) → slice_get views n ≡ Some u → (id : DequeId) (worker : ℕ) (counting : Bool) → u.counting ≡ counting
      → claims u (place_of id (Some worker)) ≤ stands_for worker u
  within_stands n u is id worker false none =
      let zero_here : claims u (place_of id (Some worker)) ≡ 0 = ap (λ b. cond b (one_if_worker u.worker (Some worker)) 0) none in omega (arith, zero_here)
  within_stands n u is id worker true holds =
      let in_it = (all.owning n u is holds).2 in
      let here : claims u (place_of id (Some worker)) ≡ one_if_worker worker (Some u.worker) =
      ap (λ b. cond b (one_if_worker u.worker (Some worker)) 0) holds ∙ same_worker u.worker worker in
      let its : one_if_its worker u ≡ one_if_worker worker (Some u.worker) = ap (λ k. cond (nat_eq worker u.worker) k 0) in_it in
      let sum : stands_for worker u ≡ one_if_its worker u + one_if_worker worker u.enters = refl in
      omega (arith, here, its, sum)

  none_claims : (id : DequeId) (u : View) (counting : Bool) → u.counting ≡ counting → claims u (place_of id None) ≡ 0
  none_claims id u true holds = ap (λ b. cond b 0 0) holds
  none_claims id u false none = ap (λ b. cond b 0 0) none

  one_claims : (id : DequeId) (owner : Option ℕ) → total (λ u. claims u (place_of id owner)) views ≤ 1
  one_claims id None =
      let none = total_zero (λ u. claims u (place_of id None)) views (each_from (λ u. claims u (place_of id None) ≡ 0) views (λ u there. none_claims id u u.counting refl)) in
      omega (arith, none)
  one_claims id (Some worker) =
      let below = total_below (λ u. claims u (place_of id (Some worker))) (stands_for worker) views
      (each_by_place (λ u. claims u (place_of id (Some worker)) ≤ stands_for worker u) views (λ n u is. within_stands n u is id worker u.counting refl)) in
      let once = all.once worker in omega (arith, below, once)

  pub few_counting : total one_if_counting views ≤ length places
  few_counting =
      let below = total_below one_if_counting (λ u. total (claims u) places) views
      (each_by_place (λ u. one_if_counting u ≤ total (claims u) places) views (λ n u is. claimed n u is u.counting refl)) in
      let swap = total_swap claims views places in
      let few = total_ones_above (λ place. total (λ u. claims u place) views) places
      (each_from (λ place. total (λ u. claims u place) views ≤ 1) places (λ place there. one_claims place.id place.owner)) in
      omega (arith, below, swap, few)
