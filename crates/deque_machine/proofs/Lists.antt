-- Laws of the words on lists.
use Rattle.std.proofs.Common.{◌≡◌, ℕ, ◌+◌, ◌≤◌, ◌<◌, ◌⊎◌, cond, List, [], ◌∷◌, ◌++◌, inl, inr, refl, sym, ap, subst, ◌∙◌, arith}
use Rattle.std.proofs.lemmas.Bool.{cases_eq, eq-eqb, ne_eqb}
use Rattle.deque_machine.specs.Lists.{Among, Each, Differ, total, one_if_same, times}

module _ {X : Type 0} where
  pub total_append : (f : X → ℕ) (xs ys : List X) → total f (xs ++ ys) ≡ total f xs + total f ys
  total_append f [] ys = omega arith
  total_append f (x ∷ xs) ys = let rest = total_append f xs ys in omega (arith, rest)

  -- a sum over a list with an element in the middle
  pub total_middle : (f : X → ℕ) (left : List X) (x : X) (right : List X) → total f (left ++ x ∷ right) ≡ total f left + (f x + total f right)
  total_middle f left x right = total_append f left (x ∷ right)

  pub each_left : (P : X → Type 0) (xs ys : List X) → Each P (xs ++ ys) → Each P xs
  each_left P [] ys all = tt
  each_left P (x ∷ xs) ys all = (all.0, each_left P xs ys all.1)

  pub each_right : (P : X → Type 0) (xs ys : List X) → Each P (xs ++ ys) → Each P ys
  each_right P [] ys all = all
  each_right P (x ∷ xs) ys all = each_right P xs ys all.1

  pub each_join : (P : X → Type 0) (xs ys : List X) → Each P xs → Each P ys → Each P (xs ++ ys)
  each_join P [] ys left right = right
  each_join P (x ∷ xs) ys left right = (left.0, each_join P xs ys left.1 right)

  -- where all of a list but one element is kept, and the new one has the property too
  pub each_change : (P : X → Type 0) (left : List X) (x y : X) (right : List X) → Each P (left ++ x ∷ right) → P y → Each P (left ++ y ∷ right)
  each_change P left x y right all new = each_join P left (y ∷ right) (each_left P left (x ∷ right) all) (new, (each_right P left (x ∷ right) all).1)

  pub each_without : (P : X → Type 0) (left : List X) (x : X) (right : List X) → Each P (left ++ x ∷ right) → Each P (left ++ right)
  each_without P left x right all = each_join P left right (each_left P left (x ∷ right) all) (each_right P left (x ∷ right) all).1

  pub each_at : (P : X → Type 0) (left : List X) (x : X) (right : List X) → Each P (left ++ x ∷ right) → P x
  each_at P left x right all = (each_right P left (x ∷ right) all).0

  pub each_map : (P Q : X → Type 0) (xs : List X) → ((x : X) → Among x xs → P x → Q x) → Each P xs → Each Q xs
  each_map P Q [] f all = tt
  each_map P Q (x ∷ xs) f all = (f x (inl refl) all.0, each_map P Q xs (λ y there. f y (inr there)) all.1)

  pub each_among : (P : X → Type 0) (x : X) (xs : List X) → Each P xs → Among x xs → P x
  each_among P x [] all there = absurd there
  each_among P x (y ∷ ys) all there = elim there [ inl same ↦ subst P (sym same) all.0 | inr later ↦ each_among P x ys all.1 later ]

  pub each_from : (P : X → Type 0) (xs : List X) → ((x : X) → Among x xs → P x) → Each P xs
  each_from P [] f = tt
  each_from P (x ∷ xs) f = (f x (inl refl), each_from P xs (λ y there. f y (inr there)))

  pub among_left : (x : X) (xs ys : List X) → Among x xs → Among x (xs ++ ys)
  among_left x [] ys there = absurd there
  among_left x (z ∷ xs) ys there = elim there [ inl same ↦ inl same | inr later ↦ inr (among_left x xs ys later) ]

  pub among_right : (x : X) (xs ys : List X) → Among x ys → Among x (xs ++ ys)
  among_right x [] ys there = there
  among_right x (z ∷ xs) ys there = inr (among_right x xs ys there)

  pub among_parts : (x : X) (xs ys : List X) → Among x (xs ++ ys) → Among x xs ⊎ Among x ys
  among_parts x [] ys there = inr there
  among_parts x (z ∷ xs) ys there = elim there [
    | inl same ↦ inl (inl same)
    | inr later ↦ elim (among_parts x xs ys later) [ inl l ↦ inl (inr l) | inr r ↦ inr r ]
  ]

  -- an element of a list is another one or stands left or right of it
  pub among_middle : (x : X) (left : List X) (y : X) (right : List X) → Among x (left ++ y ∷ right) → (x ≡ y) ⊎ Among x (left ++ right)
  among_middle x left y right there = elim (among_parts x left (y ∷ right) there) [
    | inl l ↦ inr (among_left x left right l)
    | inr r ↦ elim r [ inl same ↦ inl same | inr later ↦ inr (among_right x left right later) ]
  ]

  pub among_wider : (x : X) (left : List X) (y : X) (right : List X) → Among x (left ++ right) → Among x (left ++ y ∷ right)
  among_wider x left y right there = elim (among_parts x left right there) [
    | inl l ↦ among_left x left (y ∷ right) l
    | inr r ↦ among_right x left (y ∷ right) (inr r)
  ]

  pub among_here : (x : X) (left right : List X) → Among x (left ++ x ∷ right)
  among_here x left right = among_right x left (x ∷ right) (inl refl)

  -- what is said of each of a list, where an equal list is meant
  pub each_same : (P : X → Type 0) (xs ys : List X) → xs ≡ ys → Each P xs → Each P ys
  each_same P xs ys same all = subst (λ t. Each P t) same all

  -- lists that differ, with one element out
  pub differ_without : (left : List X) (x : X) (right : List X) → Differ (left ++ x ∷ right) → Differ (left ++ right)
  differ_without [] x right all = all.1
  differ_without (y ∷ left) x right all = (λ there. all.0 (among_wider y left x right there), differ_without left x right all.1)

  pub differ_at : (left : List X) (x : X) (right : List X) → Differ (left ++ x ∷ right) → ¬ Among x (left ++ right)
  differ_at [] x right all there = all.0 there
  differ_at (y ∷ left) x right all there = elim there [
    | inl same ↦ all.0 (subst (λ t. Among t (left ++ x ∷ right)) same (among_here x left right))
    | inr later ↦ differ_at left x right all.1 later
  ]

  head_or : X → List X → X
  head_or d [] = d
  head_or d (x ∷ xs) = x

  tail_of : List X → List X
  tail_of [] = []
  tail_of (x ∷ xs) = xs

  IsCons : List X → Type 0
  IsCons [] = ⊥
  IsCons (x ∷ xs) = Unit {0}

  pub same_head : (x y : X) (xs ys : List X) → x ∷ xs ≡ y ∷ ys → x ≡ y
  unfolding head_or
  same_head x y xs ys same = ap (head_or x) same

  pub same_tail : (x y : X) (xs ys : List X) → x ∷ xs ≡ y ∷ ys → xs ≡ ys
  unfolding tail_of
  same_tail x y xs ys same = ap tail_of same

  pub cons_is_not_nil : (x : X) (xs : List X) → ¬ (x ∷ xs ≡ [])
  unfolding IsCons
  cons_is_not_nil x xs same = subst IsCons same tt

  pub middle_is_not_nil : (left : List X) (x : X) (right : List X) → ¬ (left ++ x ∷ right ≡ [])
  middle_is_not_nil [] x right same = cons_is_not_nil x right same
  middle_is_not_nil (y ∷ left) x right same = cons_is_not_nil y (left ++ x ∷ right) same

  -- an element of a list with one more at its end is that one, or stands before it
  pub at_end : (xs front back : List X) (x i : X) → xs ++ x ∷ [] ≡ front ++ i ∷ back → (back ≡ []) ⊎ ((rest : List X) × (xs ≡ front ++ i ∷ rest))
  at_end [] [] back x i is = inl (sym (same_tail x i [] back is))
  at_end [] (z ∷ front) back x i is = absurd (middle_is_not_nil front i back (sym (same_tail x z [] (front ++ i ∷ back) is)))
  at_end (y ∷ xs) [] back x i is = inr (xs, ap (λ t. t ∷ xs) (same_head y i (xs ++ x ∷ []) back is))
  at_end (y ∷ xs) (z ∷ front) back x i is = elim (at_end xs front back x i (same_tail y z (xs ++ x ∷ []) (front ++ i ∷ back) is)) [
    | inl last ↦ inl last
    | inr there ↦ inr (there.0, ap (λ t. t ∷ xs) (same_head y z (xs ++ x ∷ []) (front ++ i ∷ back) is) ∙ ap (λ t. z ∷ t) there.1)
  ]

  -- the last element of a list that is not empty
  pub by_end : (xs : List X) → (xs ≡ []) ⊎ ((front : List X) × (last : X) × (xs ≡ front ++ last ∷ []))
  by_end [] = inl refl
  by_end (x ∷ xs) = elim (by_end xs) [
    | inl none ↦ inr ([], x, ap (λ t. x ∷ t) none)
    | inr cut ↦ inr (x ∷ cut.0, cut.1, ap (λ t. x ∷ t) cut.2)
  ]

  -- each element of a list that is no more than another list's
  pub total_zero : (f : X → ℕ) (xs : List X) → Each (λ x. f x ≡ 0) xs → total f xs ≡ 0
  total_zero f [] all = refl
  total_zero f (x ∷ xs) all = let rest = total_zero f xs all.1 in let here : f x ≡ 0 = all.0 in omega arith

  pub total_below : (f g : X → ℕ) (xs : List X) → Each (λ x. f x ≤ g x) xs → total f xs ≤ total g xs
  total_below f g [] all = omega arith
  total_below f g (x ∷ xs) all = let rest = total_below f g xs all.1 in let here : f x ≤ g x = all.0 in omega arith

pub one_same : (i j : ℕ) → i ≡ j → one_if_same i j ≡ 1
one_same i j same = ap (λ b. cond b 1 0) (eq-eqb i j same)

pub one_other : (i j : ℕ) → (i ≡ j → ⊥) → one_if_same i j ≡ 0
one_other i j other = ap (λ b. cond b 1 0) (ne_eqb i j other)

pub one_cases : (i j : ℕ) → ((i ≡ j) × (one_if_same i j ≡ 1)) ⊎ ((i ≡ j → ⊥) × (one_if_same i j ≡ 0))
one_cases i j = elim (cases_eq i j) [ inl same ↦ inl (same, one_same i j same) | inr other ↦ inr (other, one_other i j other) ]

-- what stands in a list stands there at least once
pub times_among : (i : ℕ) (xs : List ℕ) → Among i xs → 0 < times i xs
times_among i [] there = absurd there
times_among i (x ∷ xs) there = elim there [
  | inl same ↦ let one : one_if_same i x ≡ 1 = one_same i x same in omega arith
  | inr later ↦ let rest : 0 < times i xs = times_among i xs later in omega arith
]

pub among_times : (i : ℕ) (xs : List ℕ) → 0 < times i xs → Among i xs
among_times i [] some = absurd (omega arith)
among_times i (x ∷ xs) some = elim (one_cases i x) [ inl here ↦ inl here.0 | inr other ↦ let none = other.1 in inr (among_times i xs (omega arith)) ]
