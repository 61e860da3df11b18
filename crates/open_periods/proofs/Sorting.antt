-- Periods in the order of their numbers.
use Rattle.std.proofs.Common.{◌≡◌, ℕ, zero, suc, ◌⊎◌, ◌≢◌, List, [], ◌∷◌, ◌++◌, length, inl, inr, refl, sym, ap, subst, ◌∙◌, arith}
use Rattle.std.specs.Prelude.{Some, slice_get}
use Rattle.std.proofs.lemmas.Bool.{cases_eq}
use Rattle.std.proofs.lemmas.Option.{same_Some, none-some}
use Rattle.deque_machine.specs.Lists.{Among}
use Rattle.deque_machine.proofs.Lists.{each_among, each_from}
use Rattle.open_periods.specs.Periods.{Period, InOrder, Adds, Replaces}

module _ {X : Type 0} where
  -- the element at a place, with what stands before and behind it
  pub cut_at : (xs : List X) (place : ℕ) (x : X) → slice_get xs place ≡ Some x → (left right : List X) × (xs ≡ left ++ x ∷ right) × (length left ≡ place)
  cut_at [] place x is = absurd (none-some x is)
  cut_at (y ∷ xs) zero x is = ([], xs, ap (λ t. t ∷ xs) (same_Some y x is), refl)
  cut_at (y ∷ xs) (suc place) x is =
      let rest = cut_at xs place x is in let n = rest.3 in (y ∷ rest.0, rest.1, ap (λ t. y ∷ t) rest.2, ap suc n)

  pub get_middle : (left : List X) (x : X) (right : List X) → slice_get (left ++ x ∷ right) (length left) ≡ Some x
  get_middle [] x right = refl
  get_middle (y ∷ left) x right = get_middle left x right

  -- what stands elsewhere does not change with the element in the middle
  pub get_elsewhere : (left : List X) (x y : X) (right : List X) (n : ℕ) → n ≢ length left → slice_get (left ++ x ∷ right) n ≡ slice_get (left ++ y ∷ right) n
  get_elsewhere [] x y right zero other = absurd (other refl)
  get_elsewhere [] x y right (suc n) other = refl
  get_elsewhere (z ∷ left) x y right zero other = refl
  get_elsewhere (z ∷ left) x y right (suc n) other = get_elsewhere left x y right n (λ e. other (ap suc e))

  -- in a list with one more at its end
  pub get_before : (xs : List X) (x y : X) (n : ℕ) → slice_get xs n ≡ Some y → slice_get (xs ++ x ∷ []) n ≡ Some y
  get_before [] x y n is = absurd (none-some y is)
  get_before (z ∷ xs) x y zero is = is
  get_before (z ∷ xs) x y (suc n) is = get_before xs x y n is

  pub get_of_more : (xs : List X) (x y : X) (n : ℕ) → slice_get (xs ++ x ∷ []) n ≡ Some y → (slice_get xs n ≡ Some y) ⊎ ((n ≡ length xs) × (y ≡ x))
  get_of_more [] x y zero is = inr (refl, sym (same_Some x y is))
  get_of_more [] x y (suc n) is = absurd (none-some y is)
  get_of_more (z ∷ xs) x y zero is = inl is
  get_of_more (z ∷ xs) x y (suc n) is = elim (get_of_more xs x y n is) [ inl there ↦ inl there | inr last ↦ inr (ap suc last.0, last.1) ]

  pub within : (xs ys : List X) (x : X) (n : ℕ) → slice_get xs n ≡ Some x → slice_get (xs ++ ys) n ≡ Some x
  within [] ys x n is = absurd (none-some x is)
  within (z ∷ xs) ys x zero is = is
  within (z ∷ xs) ys x (suc n) is = within xs ys x n is

  pub none_at_end : (xs : List X) (x : X) → slice_get xs (length xs) ≡ Some x → ⊥
  none_at_end [] x is = none-some x is
  none_at_end (z ∷ xs) x is = none_at_end xs x is

pred_same : (a b : ℕ) → suc a ≡ suc b → a ≡ b
pred_same a b e = omega (arith, e)

-- where a period stands among the others
unfoldable pub Place : Period → List Period → Type 0
Place p sorted = (before : ℕ) × (p.number ≡ suc before) × (slice_get sorted before ≡ Some p)

pub place_of : {periods sorted : List Period} → InOrder periods sorted → (p : Period) → Among p periods → Place p sorted
unfolding Place
place_of {periods} {sorted} order p there = each_among (λ q. (before : ℕ) × (q.number ≡ suc before) × (slice_get sorted before ≡ Some q)) p periods order.placed there

-- no two periods have one number
pub one_of_a_number : {periods sorted : List Period} → InOrder periods sorted → (p q : Period) → Among p periods → Among q periods → p.number ≡ q.number → p ≡ q
unfolding Place
one_of_a_number {periods} {sorted} order p q p_there q_there same =
    let a = place_of order p p_there in let b = place_of order q q_there in
    let e : a.0 ≡ b.0 = pred_same a.0 b.0 (sym a.1 ∙ same ∙ b.1) in
    same_Some p q (sym a.2 ∙ ap (slice_get sorted) e ∙ b.2)

-- a new period behind the others
pub added : (periods next sorted : List Period) (new : Period) → InOrder periods sorted → Adds periods new next → new.number ≡ suc (length sorted)
    → InOrder next (sorted ++ new ∷ [])
unfolding Place
added periods next sorted new order adds number = record {
  placed = each_from (λ p. (before : ℕ) × (p.number ≡ suc before) × (slice_get (sorted ++ new ∷ []) before ≡ Some p)) next placed_at;
  all = λ n p is. elim (get_of_more sorted new p n is) [
    | inl there ↦ let known = order.all n p there in (known.0, each_among (λ q. Among q next) p periods adds.kept known.1)
    | inr last ↦ (ap (λ q. Period.number q) last.1 ∙ number ∙ ap suc (sym last.0), subst (λ q. Among q next) (sym last.1) adds.there)
  ];
}
  where
    placed_at : (p : Period) → Among p next → (before : ℕ) × (p.number ≡ suc before) × (slice_get (sorted ++ new ∷ []) before ≡ Some p)
    placed_at p there = elim (each_among (λ q. (q ≡ new) ⊎ Among q periods) p next adds.no_more there) [
      | inl is ↦ (length sorted, ap (λ q. Period.number q) is ∙ number, get_middle sorted new [] ∙ ap Some (sym is))
      | inr was ↦ let known = place_of order p was in (known.0, known.1, get_before sorted new p known.0 known.2)
    ]

-- a changed period in the place of the old one
pub replaced : (periods next left right : List Period) (old new : Period) → InOrder periods (left ++ old ∷ right) → Replaces periods old new next
    → old.number ≡ suc (length left) → InOrder next (left ++ new ∷ right)
unfolding Place
replaced periods next left right old new order change number = record {
  placed = each_from (λ p. (before : ℕ) × (p.number ≡ suc before) × (slice_get (left ++ new ∷ right) before ≡ Some p)) next placed_at;
  all = λ n p is. elim (cases_eq n (length left)) [
    | inl here ↦
        let e : p ≡ new = same_Some p new (sym is ∙ ap (slice_get (left ++ new ∷ right)) here ∙ get_middle left new right) in
        (ap (λ q. Period.number q) e ∙ change.same_number ∙ number ∙ ap suc (sym here), subst (λ q. Among q next) (sym e) change.there)
    | inr other ↦
        let known = order.all n p (get_elsewhere left old new right n other ∙ is) in (
          known.0,
          each_among (λ q. q.number ≢ old.number → Among q next) p periods change.kept known.1
              (λ same. other (pred_same n (length left) (sym known.0 ∙ same ∙ number))),
        )
  ];
}
  where
    placed_at : (p : Period) → Among p next → (before : ℕ) × (p.number ≡ suc before) × (slice_get (left ++ new ∷ right) before ≡ Some p)
    placed_at p there = elim (each_among (λ q. (q ≡ new) ⊎ (Among q periods × (q.number ≢ old.number))) p next change.no_more there) [
      | inl is ↦ (length left, ap (λ q. Period.number q) is ∙ change.same_number ∙ number, get_middle left new right ∙ ap Some (sym is))
      | inr was ↦
          let known = place_of order p was.0 in
          (known.0, known.1, get_elsewhere left new old right known.0 (λ e. was.1 (known.1 ∙ ap suc e ∙ sym number)) ∙ known.2)
    ]
