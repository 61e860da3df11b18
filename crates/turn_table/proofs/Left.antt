-- What a seat still holds after one of two or three slots is put back: which slots, and what they show.
use Rattle.std.proofs.Common.{◌≡◌, ◌≢◌, ℕ, List, [], ◌∷◌, ap, ◌∙◌}
use Rattle.turn_table.specs.Hands.{without_slot, renewed}
use Rattle.turn_table.proofs.Hands.{without_here, without_else}

module _ {V : Type 0} (f : ℕ → V → V) where
  pub left_of_one : (i k : ℕ) (v : V) → k ≡ i → renewed f (without_slot i ((k, v) ∷ [])) ≡ []
  left_of_one i k v e = ap (renewed f) (without_here i (k, v) [] e)

  -- the slot at the front goes
  pub left_of_first : (i k : ℕ) (v : V) (xs : List (ℕ × V)) → k ≡ i → renewed f (without_slot i ((k, v) ∷ xs)) ≡ renewed f xs
  left_of_first i k v xs e = ap (renewed f) (without_here i (k, v) xs e)

  pub first_of_two : (i k : ℕ) (v w : V) → renewed f (without_slot i ((i, v) ∷ (k, w) ∷ [])) ≡ (k, f k w) ∷ []
  first_of_two i k v w = left_of_first i i v ((k, w) ∷ []) (λ _. i)

  pub second_of_two : (i k : ℕ) (v w : V) → i ≢ k → renewed f (without_slot k ((i, v) ∷ (k, w) ∷ [])) ≡ (i, f i v) ∷ []
  second_of_two i k v w n = ap (renewed f) (without_else k (i, v) ((k, w) ∷ []) n ∙ ap (λ (xs : List (ℕ × V)). (i, v) ∷ xs) (without_here k (k, w) [] (λ _. k)))

  pub first_of_three : (i j k : ℕ) (u v w : V) → renewed f (without_slot i ((i, u) ∷ (j, v) ∷ (k, w) ∷ [])) ≡ (j, f j v) ∷ (k, f k w) ∷ []
  first_of_three i j k u v w = left_of_first i i u ((j, v) ∷ (k, w) ∷ []) (λ _. i)

  pub second_of_three : (i j k : ℕ) (u v w : V) → i ≢ j → renewed f (without_slot j ((i, u) ∷ (j, v) ∷ (k, w) ∷ [])) ≡ (i, f i u) ∷ (k, f k w) ∷ []
  second_of_three i j k u v w n = ap (renewed f) (without_else j (i, u) ((j, v) ∷ (k, w) ∷ []) n ∙ ap (λ (xs : List (ℕ × V)). (i, u) ∷ xs) (without_here j (j, v) ((k, w) ∷ []) (λ _. j)))

  pub third_of_three : (i j k : ℕ) (u v w : V) → i ≢ k → j ≢ k → renewed f (without_slot k ((i, u) ∷ (j, v) ∷ (k, w) ∷ [])) ≡ (i, f i u) ∷ (j, f j v) ∷ []
  third_of_three i j k u v w n m = ap (renewed f) (without_else k (i, u) ((j, v) ∷ (k, w) ∷ []) n ∙ ap (λ (xs : List (ℕ × V)). (i, u) ∷ xs)
      (without_else k (j, v) ((k, w) ∷ []) m ∙ ap (λ (xs : List (ℕ × V)). (j, v) ∷ xs) (without_here k (k, w) [] (λ _. k))))
