-- An element of a list that is two lists end to end, or a front of one.
use Rattle.std.proofs.Common.{◌≡◌, ℕ, ◌+◌, ◌<◌, zero, suc, List, [], ◌∷◌, ◌++◌, length, take, slice_get, refl, arith}

module _ {X : Type 0} where
  pub slice_get-append_left : (xs ys : List X) (i : ℕ) → i < length xs → slice_get (xs ++ ys) i ≡ slice_get xs i
  slice_get-append_left [] ys i within = absurd (omega arith)
  slice_get-append_left (x ∷ xs) ys zero within = refl
  slice_get-append_left (x ∷ xs) ys (suc i) within = slice_get-append_left xs ys i (omega arith)

  pub slice_get-append_right : (xs ys : List X) (i n : ℕ) → n ≡ length xs + i →
      slice_get (xs ++ ys) n ≡ slice_get ys i
  slice_get-append_right [] ys i n e = let same : n ≡ i = omega arith in rw same refl
  slice_get-append_right (x ∷ xs) ys i zero e = absurd (omega arith)
  slice_get-append_right (x ∷ xs) ys i (suc n) e = slice_get-append_right xs ys i n (omega arith)

  pub slice_get-take : (n : ℕ) (xs : List X) (i : ℕ) → i < n → slice_get (take n xs) i ≡ slice_get xs i
  slice_get-take zero xs i below = absurd (omega arith)
  slice_get-take (suc n) [] i below = refl
  slice_get-take (suc n) (x ∷ xs) zero below = refl
  slice_get-take (suc n) (x ∷ xs) (suc i) below = slice_get-take n xs i (omega arith)
