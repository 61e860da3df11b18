-- A list is cut in one way where the element in the middle is the first, or the only one, without a property.
use Rattle.std.proofs.Common.{◌≡◌, ℕ, zero, suc, ◌<◌, List, [], ◌∷◌, ◌++◌, length, inl, inr, refl, sym, ap, subst, ◌∙◌, arith}
use Rattle.std.specs.Prelude.{Some, slice_get, unwrap_or}
use Rattle.deque_machine.specs.Lists.{Among, Each}
use Rattle.deque_machine.proofs.Lists.{each_at, same_head, same_tail}

module _ {X : Type 0} where
  -- the same left parts, elements and right parts
  pub record IsSameCut (left right left' right' : List X) (x y : X) : Type 0 where
    pub lefts : left ≡ left'
    pub heres : x ≡ y
    pub rights : right ≡ right'

  -- the first without a property
  pub one_first_cut : (P : X → Type 0) (left right left' right' : List X) (x y : X) → left ++ x ∷ right ≡ left' ++ y ∷ right'
      → Each P left → Each P left' → ¬ P x → ¬ P y → IsSameCut left right left' right' x y
  one_first_cut P [] right [] right' x y same all all' no_x no_y =
      record { lefts = refl; heres = same_head x y right right' same; rights = same_tail x y right right' same }
  one_first_cut P [] right (z ∷ left') right' x y same all all' no_x no_y =
      absurd (no_x (subst P (sym (same_head x z right (left' ++ y ∷ right') same)) all'.0))
  one_first_cut P (z ∷ left) right [] right' x y same all all' no_x no_y =
      absurd (no_y (subst P (same_head z y (left ++ x ∷ right) right' same) all.0))
  one_first_cut P (z ∷ left) right (w ∷ left') right' x y same all all' no_x no_y =
      let rest = one_first_cut P left right left' right' x y (same_tail z w (left ++ x ∷ right)
      (left' ++ y ∷ right') same) all.1 all'.1 no_x no_y in
      record {
        lefts = ap (λ t. t ∷ left) (same_head z w (left ++ x ∷ right) (left' ++ y ∷ right') same) ∙ ap (λ t. w ∷ t) rest.lefts;
        heres = rest.heres;
        rights = rest.rights;
      }

  -- the only one without it
  pub one_only_cut : (P : X → Type 0) (left right left' right' : List X) (x y : X) → left ++ x ∷ right ≡ left' ++ y ∷ right'
      → Each P left → Each P right → ¬ P x → ¬ P y → IsSameCut left right left' right' x y
  one_only_cut P [] right [] right' x y same all others no_x no_y =
      record { lefts = refl; heres = same_head x y right right' same; rights = same_tail x y right right' same }
  one_only_cut P [] right (z ∷ left') right' x y same all others no_x no_y =
      absurd (no_y (each_at P left' y right' (subst (λ t. Each P t) (same_tail x z right (left' ++ y ∷ right') same) others)))
  one_only_cut P (z ∷ left) right [] right' x y same all others no_x no_y =
      absurd (no_y (subst P (same_head z y (left ++ x ∷ right) right' same) all.0))
  one_only_cut P (z ∷ left) right (w ∷ left') right' x y same all others no_x no_y =
      let rest = one_only_cut P left right left' right' x y (same_tail z w (left ++ x ∷ right)
      (left' ++ y ∷ right') same) all.1 others no_x no_y in
      record {
        lefts = ap (λ t. t ∷ left) (same_head z w (left ++ x ∷ right) (left' ++ y ∷ right') same) ∙ ap (λ t. w ∷ t) rest.lefts;
        heres = rest.heres;
        rights = rest.rights;
      }

  -- what is at a place
  pub get_middle : (left : List X) (x : X) (right : List X) → slice_get (left ++ x ∷ right) (length left) ≡ Some x
  get_middle [] x right = refl
  get_middle (y ∷ left) x right = get_middle left x right

  pub get_before : (left rest : List X) (place : ℕ) (x : X) → place < length left → slice_get (left ++ rest) place ≡ Some x → Among x left
  get_before [] rest place x lt is = absurd (omega arith)
  get_before (y ∷ left) rest zero x lt is = inl (sym (ap (λ o. unwrap_or o x) is))
  get_before (y ∷ left) rest (suc place) x lt is = inr (get_before left rest place x (omega arith) is)

  pub place_before : (left rest : List X) (x : X) → Among x left
      → (place : ℕ) × (place < length left) × (slice_get (left ++ rest) place ≡ Some x)
  place_before [] rest x there = absurd there
  place_before (y ∷ left) rest x there = elim there [
    | inl same ↦ (0, omega arith, ap Some (sym same))
    | inr later ↦ let found = place_before left rest x later in (suc found.0, (let lt = found.1 in omega arith), found.2)
  ]
