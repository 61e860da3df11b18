-- A number at a place of a block, by the place.
use Rattle.std.proofs.Common.{◌≡◌, ℕ, ◌≤◌, zero, suc, Bool, true, false, List, [], ◌∷◌, length, Some, None, Err, ℤ, pos, negsuc, slice_get, nat_le, refl, ap, sym, arith, rules}
use Rattle.dag_order.specs.declared.fault.FaultKind.TheVariants as faults
use Rattle.depth_first_run.specs.Values.{number_at, place_in, or_index_fault}

past : (items : List ℤ) (n : ℕ) → length items ≤ n → slice_get items n ≡ None
past [] n within = refl
past (x ∷ xs) zero within = absurd (omega arith)
past (x ∷ xs) (suc n) within = past xs n (omega arith)

pub number_outside : (items : List ℤ) (index : ℤ) → None ≡ place_in items index → Err faults.Index ≡ number_at items index
number_outside items (negsuc n) e = refl
number_outside items (pos n) e = cases (nat_le (length items) n) refl
  where
    cases : (t : Bool) → nat_le (length items) n ≡ t → Err faults.Index ≡ or_index_fault (slice_get items n)
    cases true is =
        let most : length items ≤ n = search rules in
        rw (past items n most) refl
    cases false is =
        let one : None ≡ Some n = rw is at e in
        let never : ⊥ = cc in absurd never

pub number_inside : (items : List ℤ) (index : ℤ) (n : ℕ) → Some n ≡ place_in items index → number_at items index ≡ or_index_fault (slice_get items n)
number_inside items (negsuc m) n e = let never : ⊥ = cc in absurd never
number_inside items (pos m) n e = cases (nat_le (length items) m) refl
  where
    cases : (t : Bool) → nat_le (length items) m ≡ t → or_index_fault (slice_get items m) ≡ or_index_fault (slice_get items n)
    cases true is =
        let one : Some n ≡ None = rw is at e in
        let never : ⊥ = cc in absurd never
    cases false is =
        let one : Some n ≡ Some m = rw is at e in
        let same : n ≡ m = cc in
        ap (λ k. or_index_fault (slice_get items k)) (sym same)

pub no_number : (index : ℤ) → Err faults.Index ≡ number_at [] index
no_number (pos n) = refl
no_number (negsuc n) = refl
