-- A list whose neighbours stand in a transitive order stands in order.
use Rattle.std.proofs.Common.{◌≡◌, ℕ, ◌+◌, ◌-◌, ◌<◌, ◌≤◌, List, length, get_or, subst, sym, ◌∙◌, arith, inl, inr}
use Rattle.std.proofs.lemmas.List.{get_or_default}
use Rattle.std.proofs.lemmas.Bool.{cases_order}

-- each of the first n elements stands in the order R with all later ones of them
abbrev pub InOrder : {T : Type 0} → (T → T → Type 0) → List T → ℕ → Type 0
InOrder {T} R xs n = (j k : ℕ) (d : T) → j < k → k < n → R (get_or xs j d) (get_or xs k d)

pub one_more_in_order : {T : Type 0} (R : T → T → Type 0) → ((x y z : T) → R x y → R y z → R x z) → (xs : List T) (i : ℕ) → 1 ≤ i → i < length xs
    → InOrder R xs i → (x y : T) → x ≡ get_or xs (i - 1) x → y ≡ get_or xs i y → R x y → InOrder R xs (i + 1)
one_more_in_order {T} R further xs i from in_list so_far x y x_is y_is next j k d jk k_below =
    let new_is : y ≡ get_or xs i d = y_is ∙ get_or_default xs i y d in_list in
    let last_is : x ≡ get_or xs (i - 1) d = x_is ∙ get_or_default xs (i - 1) x d (omega arith) in
    let newest : R (get_or xs (i - 1) d) (get_or xs i d) =
    let P : T → Type 0 = λ a. R a y in let Q : T → Type 0 = λ b. R (get_or xs (i - 1) d) b in subst Q new_is (subst P last_is next) in
    elim (cases_order k i) [
      | inl same ↦ let S : ℕ → Type 0 = λ m. R (get_or xs j d) (get_or xs m d) in subst S (sym same)
          (elim (cases_order j (i - 1)) [
            | inl last ↦ let L : ℕ → Type 0 = λ m. R (get_or xs m d) (get_or xs i d) in subst L (sym last) newest
            | inr r ↦ elim r [
              | inl lt ↦ further (get_or xs j d) (get_or xs (i - 1) d) (get_or xs i d) (so_far j (i - 1) d lt (omega arith)) newest
              | inr gt ↦ absurd (omega arith)
            ]
          ])
      | inr r ↦ elim r [ inl lt ↦ so_far j k d jk lt | inr gt ↦ absurd (omega arith) ]
    ]

-- a list whose neighbours at one place do not stand in the order does not stand in order
pub not_in_order : {T : Type 0} (R : T → T → Type 0) (xs : List T) (i : ℕ) → 1 ≤ i → i < length xs → (x y : T) → x ≡ get_or xs (i - 1) x → y ≡ get_or xs i y
    → (R x y → ⊥) → InOrder R xs (length xs) → ⊥
not_in_order {T} R xs i from in_list x y x_is y_is never all =
    let new_is : get_or xs i x ≡ y = sym (y_is ∙ get_or_default xs i y x in_list) in
    let Q : T → Type 0 = λ b. R x b in
    let P : T → Type 0 = λ a. R a (get_or xs i x) in
    never (subst Q new_is (subst P (sym x_is) (all (i - 1) i x (omega arith) in_list)))
