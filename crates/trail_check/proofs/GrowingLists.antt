-- A list that grows by one at its end.
use Rattle.std.proofs.Common.{◌≡◌, ℕ, zero, suc, ◌<◌, List, [], ◌∷◌, ◌++◌, length, reverse, get_or, set, refl, ap, ◌∙◌, arith}
use Rattle.std.specs.List.{AllZip}
use Rattle.std.proofs.lemmas.List.{reverse-append}

pub get_left : {X : Type 0} (xs : List X) (y d : X) (i : ℕ) → i < length xs → get_or (xs ++ y ∷ []) i d ≡ get_or xs i d
get_left [] y d i lt = absurd (omega arith)
get_left (x ∷ xs) y d zero lt = refl
get_left (x ∷ xs) y d (suc i) lt = get_left xs y d i (omega arith)

pub get_last : {X : Type 0} (xs : List X) (y d : X) → get_or (xs ++ y ∷ []) (length xs) d ≡ y
get_last [] y d = refl
get_last (x ∷ xs) y d = get_last xs y d

pub get_set_here : {X : Type 0} (xs : List X) (y d : X) (i : ℕ) → i < length xs → get_or (set xs i y) i d ≡ y
get_set_here [] y d i lt = absurd (omega arith)
get_set_here (x ∷ xs) y d zero lt = refl
get_set_here (x ∷ xs) y d (suc i) lt = get_set_here xs y d i (omega arith)

pub get_set_other : {X : Type 0} (xs : List X) (y d : X) (i j : ℕ) → (j ≡ i → ⊥) → get_or (set xs i y) j d ≡ get_or xs j d
get_set_other [] y d i j ne = refl
get_set_other (x ∷ xs) y d zero zero ne = absurd (ne refl)
get_set_other (x ∷ xs) y d zero (suc j) ne = refl
get_set_other (x ∷ xs) y d (suc i) zero ne = refl
get_set_other (x ∷ xs) y d (suc i) (suc j) ne = get_set_other xs y d i j (λ e. ne (ap suc e))

pub length_set : {X : Type 0} (xs : List X) (y : X) (i : ℕ) → length (set xs i y) ≡ length xs
length_set [] y i = refl
length_set (x ∷ xs) y zero = refl
length_set (x ∷ xs) y (suc i) = ap suc (length_set xs y i)

pub length_more : {X : Type 0} (xs : List X) (y : X) → length (xs ++ y ∷ []) ≡ suc (length xs)
length_more [] y = refl
length_more (x ∷ xs) y = ap suc (length_more xs y)

-- what a stack with the newest last is, with the newest first
pub popped : (xs ys : List ℕ) (x : ℕ) → xs ≡ ys ++ x ∷ [] → reverse xs ≡ x ∷ reverse ys
popped xs ys x is = ap (λ m. reverse m) is ∙ reverse-append ys (x ∷ [])

-- two lists that fit at each place
pub zip_length : {X Y : Type 0} (R : X → Y → Type 0) (xs : List X) (ys : List Y) → AllZip R xs ys → length xs ≡ length ys
zip_length R [] [] h = refl
zip_length R [] (y ∷ ys) h = absurd h
zip_length R (x ∷ xs) [] h = absurd h
zip_length R (x ∷ xs) (y ∷ ys) h = ap suc (zip_length R xs ys h.1)

pub zip_at : {X Y : Type 0} (R : X → Y → Type 0) (xs : List X) (ys : List Y) (i : ℕ) (d : X) (e : Y) → AllZip R xs ys → i < length xs
    → R (get_or xs i d) (get_or ys i e)
zip_at R [] ys i d e h lt = absurd (omega arith)
zip_at R (x ∷ xs) [] i d e h lt = absurd h
zip_at R (x ∷ xs) (y ∷ ys) zero d e h lt = h.0
zip_at R (x ∷ xs) (y ∷ ys) (suc i) d e h lt = zip_at R xs ys i d e h.1 (omega arith)
