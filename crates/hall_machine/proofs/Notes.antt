-- Sums over seats, of which one notes something else.
use Rattle.std.proofs.Common.{◌≡◌, ◌≢◌, ℕ, zero, suc, ◌+◌, ◌<◌, ◌≤◌, ◌⊎◌, List, [], ◌∷◌, ◌++◌, length, inl, inr, refl, sym, ap, subst, arith}
use Rattle.std.specs.Prelude.{Some, slice_get, slice_set}
use Rattle.std.proofs.lemmas.Option.{none-some, same_Some}
use Rattle.deque_machine.specs.Lists.{Each, total}

module _ {X : Type 0} where
  pub total_set : (f : X → ℕ) (xs : List X) (i : ℕ) (x y : X) → slice_get xs i ≡ Some y → total f (slice_set xs i x) + f y ≡ total f xs + f x
  total_set f [] i x y is = absurd (none-some y is)
  total_set f (z ∷ xs) zero x y is = let same : f z ≡ f y = ap f (same_Some z y is) in omega (arith, same)
  total_set f (z ∷ xs) (suc i) x y is = let rest = total_set f xs i x y is in omega (arith, rest)

  pub total_at : (f : X → ℕ) (xs : List X) (i : ℕ) (y : X) → slice_get xs i ≡ Some y → f y ≤ total f xs
  total_at f [] i y is = absurd (none-some y is)
  total_at f (z ∷ xs) zero y is = let same : f z ≡ f y = ap f (same_Some z y is) in omega (arith, same)
  total_at f (z ∷ xs) (suc i) y is = let rest = total_at f xs i y is in omega (arith, rest)

  pub total_two : (f : X → ℕ) (xs : List X) (i j : ℕ) (x y : X) → i ≢ j → slice_get xs i ≡ Some x → slice_get xs j ≡ Some y → f x + f y ≤ total f xs
  total_two f [] i j x y apart is also = absurd (none-some x is)
  total_two f (z ∷ xs) zero zero x y apart is also = absurd (apart refl)
  total_two f (z ∷ xs) zero (suc j) x y apart is also =
      let same : f z ≡ f x = ap f (same_Some z x is) in let rest = total_at f xs j y also in omega (arith, same, rest)
  total_two f (z ∷ xs) (suc i) zero x y apart is also =
      let same : f z ≡ f y = ap f (same_Some z y also) in let rest = total_at f xs i x is in omega (arith, same, rest)
  total_two f (z ∷ xs) (suc i) (suc j) x y apart is also = let rest = total_two f xs i j x y (λ e. apart (ap suc e)) is also in omega (arith, rest)

  pub each_set : (P : X → Type 0) (xs : List X) (i : ℕ) (x : X) → Each P xs → P x → Each P (slice_set xs i x)
  each_set P [] i x all one = tt
  each_set P (z ∷ xs) zero x all one = (one, all.1)
  each_set P (z ∷ xs) (suc i) x all one = (all.0, each_set P xs i x all.1 one)

  pub each_get : (P : X → Type 0) (xs : List X) (i : ℕ) (x : X) → Each P xs → slice_get xs i ≡ Some x → P x
  each_get P [] i x all is = absurd (none-some x is)
  each_get P (z ∷ xs) zero x all is = subst P (same_Some z x is) all.0
  each_get P (z ∷ xs) (suc i) x all is = each_get P xs i x all.1 is

  -- all the others, where one of them was another
  pub each_unset : (P : X → Type 0) (xs : List X) (i : ℕ) (x y : X) → slice_get xs i ≡ Some y → Each P (slice_set xs i x) → (P x → P y) → Each P xs
  each_unset P [] i x y is all back = tt
  each_unset P (z ∷ xs) zero x y is all back = (subst P (sym (same_Some z y is)) (back all.0), all.1)
  each_unset P (z ∷ xs) (suc i) x y is all back = (all.0, each_unset P xs i x y is all.1 back)

  pub get_inside : (xs : List X) (i : ℕ) (x : X) → slice_get xs i ≡ Some x → i < length xs
  get_inside [] i x is = absurd (none-some x is)
  get_inside (z ∷ xs) zero x is = omega arith
  get_inside (z ∷ xs) (suc i) x is = let rest = get_inside xs i x is in omega (arith, rest)

  -- what holds of each by its place holds of all
  pub each_by_place : (P : X → Type 0) (xs : List X) → ((i : ℕ) (x : X) → slice_get xs i ≡ Some x → P x) → Each P xs
  each_by_place P [] f = tt
  each_by_place P (z ∷ xs) f = (f zero z refl, each_by_place P xs (λ i x is. f (suc i) x is))

  -- one more at the end is the last, and the others are where they were
  pub get_more : (xs : List X) (y : X) (i : ℕ) (x : X) → slice_get (xs ++ y ∷ []) i ≡ Some x → (slice_get xs i ≡ Some x) ⊎ ((i ≡ length xs) × (y ≡ x))
  get_more [] y zero x is = inr (refl, same_Some y x is)
  get_more [] y (suc i) x is = absurd (none-some x is)
  get_more (z ∷ xs) y zero x is = inl is
  get_more (z ∷ xs) y (suc i) x is = elim (get_more xs y i x is) [ inl there ↦ inl there | inr last ↦ inr (ap suc last.0, last.1) ]

  pub each_more : (P : X → Type 0) (xs : List X) (y : X) → Each P (xs ++ y ∷ []) → Each P xs
  each_more P [] y all = tt
  each_more P (z ∷ xs) y all = (all.0, each_more P xs y all.1)

  pub each_and : (P : X → Type 0) (xs : List X) (y : X) → Each P xs → P y → Each P (xs ++ y ∷ [])
  each_and P [] y all one = (one, tt)
  each_and P (z ∷ xs) y all one = (all.0, each_and P xs y all.1 one)

  pub total_more : (f : X → ℕ) (xs : List X) (y : X) → total f (xs ++ y ∷ []) ≡ total f xs + f y
  total_more f [] y = omega arith
  total_more f (z ∷ xs) y = let rest = total_more f xs y in omega (arith, rest)
