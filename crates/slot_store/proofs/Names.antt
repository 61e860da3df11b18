-- Names that are the same, and the names of slots.
use Rattle.std.proofs.Common.{◌≡◌, ℕ, zero, suc, ◌<◌, Bool, true, false, ◌||◌, List, [], ◌∷◌, length, refl, sym, arith}
use Rattle.std.specs.Str.{bytes_eq}
use Rattle.std.proofs.lemmas.Slice.Eq.{bytes_eq-Decides}
use Rattle.depth_first_run.specs.Passed.Tree.{Name}
use Rattle.depth_first_run.specs.Passed.Names.{is_among}
use Rattle.node_table.specs.Names.{name_at}
use Rattle.slot_store.specs.Agreement.{AreDistinct}

pub same_name : (x y : Name) → bytes_eq x y ≡ true → x ≡ y
same_name x y e = (bytes_eq-Decides x y).0 e

pub is_itself : (x : Name) → bytes_eq x x ≡ true
is_itself x = (bytes_eq-Decides x x).1 refl

pub is_other : (x y : Name) → (x ≡ y → ⊥) → bytes_eq x y ≡ false
is_other x y differ = cases (bytes_eq x y) refl
  where
    cases : (t : Bool) → bytes_eq x y ≡ t → bytes_eq x y ≡ false
    cases true e = absurd (differ (same_name x y e))
    cases false e = e

pub other_way : (x y : Name) → bytes_eq x y ≡ false → bytes_eq y x ≡ false
other_way x y e =
    is_other y x (λ same.
    let yes : bytes_eq x y ≡ true = (bytes_eq-Decides x y).1 (sym same) in
    let never : ⊥ = cc in absurd never)

pub neither : (a b : Bool) → (a || b) ≡ false → (a ≡ false) × (b ≡ false)
neither true b h = let never : ⊥ = cc in absurd never
neither false b h = (refl, h)

-- a name that is no slot's is another than that of each slot
pub not_of_slot : (names : List Name) (s : ℕ) (x : Name) → s < length names → is_among x names ≡ false → bytes_eq (name_at names s) x ≡ false
not_of_slot [] s x within h = absurd (omega arith)
not_of_slot (y ∷ ys) zero x within h = (neither (bytes_eq y x) (is_among x ys) h).0
not_of_slot (y ∷ ys) (suc s) x within h = not_of_slot ys s x (omega arith) (neither (bytes_eq y x) (is_among x ys) h).1

pub rest_distinct : (x : Name) (xs : List Name) → AreDistinct (x ∷ xs) → AreDistinct xs
rest_distinct x xs d i j il jl e =
    let same : suc i ≡ suc j = d (suc i) (suc j) (omega arith) (omega arith) e in
    omega (arith, same)

pub head_differs : (x : Name) (xs : List Name) → AreDistinct (x ∷ xs) → (j : ℕ) → j < length xs → bytes_eq x (name_at xs j) ≡ false
head_differs x xs d j within =
    is_other x (name_at xs j) (λ e.
    let same : zero ≡ suc j = d zero (suc j) (omega arith) (omega arith) e in
    omega (arith, same))

pub differs_head : (x : Name) (xs : List Name) → AreDistinct (x ∷ xs) → (j : ℕ) → j < length xs → bytes_eq (name_at xs j) x ≡ false
differs_head x xs d j within =
    is_other (name_at xs j) x (λ e.
    let same : zero ≡ suc j = d zero (suc j) (omega arith) (omega arith) (sym e) in
    omega (arith, same))

-- slots of different numbers
pub slots_differ : (names : List Name) (i j : ℕ) → AreDistinct names → i < length names → j < length names → (i ≡ j → ⊥) →
    bytes_eq (name_at names i) (name_at names j) ≡ false
slots_differ names i j d il jl differ = is_other (name_at names i) (name_at names j) (λ e. differ (d i j il jl e))
