-- What the tests say.
use Rattle.std.proofs.Common.{◌≡◌, ◌≢◌, ℕ, zero, suc, ◌+◌, ◌≤◌, ◌<◌, Bool, true, false, cond, not, ◌&&◌, ◌||◌, nat_eq, nat_lt, true≢false, List, [], ◌∷◌, ◌++◌, length, inl, inr, refl, sym, ap, subst, ◌∙◌, arith}
use Rattle.std.specs.Prelude.{Option, None, Some, is_some, unwrap_or}
use Rattle.std.proofs.lemmas.Bool.{cases_eq, cases_Bool, eqb-true, eq-eqb, ltb-true, lt-ltb, and_parts, and_from, or_cases, or_left, or_right}
use Rattle.dag_order.specs.LabelOrder.{fork_of}
use Rattle.depth_first_run.specs.Passed.Actions.{Deed, forks, joins, allocates, releases, dummy, faults, ends, Action}
use Rattle.depth_first_run.specs.Passed.Facts.{label_at, deed_at, IsNext}
use Rattle.deque_machine.specs.Lists.{Each}
use Rattle.deque_machine.proofs.Lists.{same_head, same_tail, middle_is_not_nil, cons_is_not_nil}
use Rattle.deque_machine.specs.Tests.{same_label, did_all, is_next, next_from, is_end, ended_by, Cut, behind, cut_first, cut_at, front_of, last_of, is_fork_of}

pub same_label_is : (a b : List ℕ) → same_label a b ≡ true → a ≡ b
same_label_is [] [] is = refl
same_label_is [] (y ∷ b) is = absurd (true≢false (sym is))
same_label_is (x ∷ a) [] is = absurd (true≢false (sym is))
same_label_is (x ∷ a) (y ∷ b) is =
    let p : (nat_eq x y ≡ true) × (same_label a b ≡ true) = and_parts (nat_eq x y) (same_label a b) is in
    ap (λ t. t ∷ a) (eqb-true x y p.0) ∙ ap (λ t. y ∷ t) (same_label_is a b p.1)

pub same_label_itself : (a : List ℕ) → same_label a a ≡ true
same_label_itself [] = refl
same_label_itself (x ∷ a) = and_from (nat_eq x x) (same_label a a) (eq-eqb x x refl) (same_label_itself a)

pub is_same_label : (a b : List ℕ) → a ≡ b → same_label a b ≡ true
is_same_label a b same = subst (λ t. same_label a t ≡ true) same (same_label_itself a)

module _ (l : List Action) (done : ℕ → ℕ) (thread : List ℕ) where
  pub did_all_is : (n : ℕ) → did_all l done thread n ≡ true → (i : ℕ) → i < n → label_at l i ≡ thread → 0 < done i
  did_all_is zero is i lt mine = absurd (omega arith)
  did_all_is (suc n) is i lt mine =
      let p : (did_all l done thread n ≡ true) × ((not (same_label (label_at l n) thread) || nat_lt 0 (done n)) ≡ true) =
      and_parts (did_all l done thread n) (not (same_label (label_at l n) thread) || nat_lt 0 (done n)) is in
      elim (cases_eq i n) [
        | inr other ↦ did_all_is n p.0 i (omega arith) mine
        | inl here ↦
            let same : same_label (label_at l n) thread ≡ true = is_same_label (label_at l n) thread (ap (λ t. label_at l t) (sym here) ∙ mine) in
            let did : nat_lt 0 (done n) ≡ true = subst (λ b. (not b || nat_lt 0 (done n)) ≡ true) same p.1 in
            subst (λ t. 0 < done t) (sym here) (ltb-true 0 (done n) did)
      ]

  is_did_all : (n : ℕ) → ((i : ℕ) → i < n → label_at l i ≡ thread → 0 < done i) → did_all l done thread n ≡ true
  is_did_all zero all = refl
  is_did_all (suc n) all =
      and_from (did_all l done thread n) (not (same_label (label_at l n) thread) || nat_lt 0 (done n)) (is_did_all n (λ i lt. all i (omega arith)))
      (elim (cases_Bool (same_label (label_at l n) thread)) [
        | inl same ↦ or_right (not (same_label (label_at l n) thread)) (nat_lt 0 (done n)) (lt-ltb 0 (done n) (all n (omega arith) (same_label_is (label_at l n) thread same)))
        | inr other ↦ or_left (not (same_label (label_at l n) thread)) (nat_lt 0 (done n)) (ap not other)
      ])

  pub is_next_is : (place : ℕ) → is_next l done thread place ≡ true → IsNext l done thread place
  is_next_is place is =
      let a = and_parts (nat_lt place (length l)) (same_label (label_at l place) thread && (nat_eq (done place) 0 && did_all l done thread place)) is in
      let b = and_parts (same_label (label_at l place) thread) (nat_eq (done place) 0 && did_all l done thread place) a.1 in
      let c = and_parts (nat_eq (done place) 0) (did_all l done thread place) b.1 in
      record { inside = ltb-true place (length l) a.0; by = same_label_is (label_at l place) thread b.0; missing = eqb-true (done place) 0 c.0; earlier = did_all_is place c.1 }

  pub next_is_next : (place : ℕ) → IsNext l done thread place → is_next l done thread place ≡ true
  next_is_next place next =
      and_from (nat_lt place (length l)) (same_label (label_at l place) thread && (nat_eq (done place) 0 && did_all l done thread place)) (lt-ltb place (length l) next.inside)
      (and_from (same_label (label_at l place) thread) (nat_eq (done place) 0 && did_all l done thread place) (is_same_label (label_at l place) thread next.by)
      (and_from (nat_eq (done place) 0) (did_all l done thread place) (eq-eqb (done place) 0 next.missing) (is_did_all place next.earlier)))

  pub next_from_is : (n place p : ℕ) → next_from l done thread place n ≡ Some p → IsNext l done thread p
  next_from_is zero place p is = absurd (true≢false (sym (ap is_some is)))
  next_from_is (suc n) place p is = elim (cases_Bool (is_next l done thread place)) [
    | inl here ↦ let same : place ≡ p = ap (λ o. unwrap_or o p) (ap (λ b. cond b (Some place) (next_from l done thread (suc place) n)) (sym here) ∙ is) in
        subst (IsNext l done thread) same (is_next_is place here)
    | inr later ↦ next_from_is n (suc place) p (ap (λ b. cond b (Some place) (next_from l done thread (suc place) n)) (sym later) ∙ is)
  ]

  pub next_from_finds : (n place p : ℕ) → IsNext l done thread p → place ≤ p → p < place + n → next_from l done thread place n ≡ Some p
  next_from_finds zero place p next low high = absurd (omega arith)
  next_from_finds (suc n) place p next low high = elim (cases_Bool (is_next l done thread place)) [
    | inl here ↦
        let first : IsNext l done thread place = is_next_is place here in
        let same : place ≡ p = elim (cases_eq place p) [
          | inl e ↦ e
          | inr other ↦ let did = next.earlier place (omega arith) first.by in let none = first.missing in absurd (omega arith)
        ] in ap (λ b. cond b (Some place) (next_from l done thread (suc place) n)) here ∙ ap Some same
    | inr later ↦
        let apart : place ≢ p = λ e. true≢false (sym (next_is_next place (subst (IsNext l done thread) (sym e) next)) ∙ later) in
        ap (λ b. cond b (Some place) (next_from l done thread (suc place) n)) later ∙ elim (cases_eq place p) [
          | inl e ↦ absurd (apart e)
          | inr other ↦ next_from_finds n (suc place) p next (omega arith) (omega arith)
        ]
  ]

  pub is_end_is : (deed : Deed) → is_end deed ≡ true → deed ≡ ends
  is_end_is (forks child) is = absurd (true≢false (sym is))
  is_end_is (joins child) is = absurd (true≢false (sym is))
  is_end_is allocates is = absurd (true≢false (sym is))
  is_end_is releases is = absurd (true≢false (sym is))
  is_end_is dummy is = absurd (true≢false (sym is))
  is_end_is faults is = absurd (true≢false (sym is))
  is_end_is ends is = refl

  pub ended_by_is : (n : ℕ) → ended_by l done thread n ≡ true → (e : ℕ) × (e < n) × (label_at l e ≡ thread) × (deed_at l e ≡ ends) × (0 < done e)
  ended_by_is zero is = absurd (true≢false (sym is))
  ended_by_is (suc n) is = elim (or_cases (ended_by l done thread n) (same_label (label_at l n) thread && (is_end (deed_at l n) && nat_lt 0 (done n))) is) [
    | inl before ↦ let e = ended_by_is n before in let lt = e.1 in (e.0, omega arith, e.2, e.3, e.4)
    | inr here ↦
        let a = and_parts (same_label (label_at l n) thread) (is_end (deed_at l n) && nat_lt 0 (done n)) here in
        let b = and_parts (is_end (deed_at l n)) (nat_lt 0 (done n)) a.1 in
        (n, omega arith, same_label_is (label_at l n) thread a.0, is_end_is (deed_at l n) b.0, ltb-true 0 (done n) b.1)
  ]

  pub ended_by_finds : (n e : ℕ) → e < n → label_at l e ≡ thread → deed_at l e ≡ ends → 0 < done e → ended_by l done thread n ≡ true
  ended_by_finds zero e lt mine end did = absurd (omega arith)
  ended_by_finds (suc n) e lt mine end did = elim (cases_eq e n) [
    | inr other ↦ or_left (ended_by l done thread n) (same_label (label_at l n) thread && (is_end (deed_at l n) && nat_lt 0 (done n))) (ended_by_finds n e (omega arith) mine end did)
    | inl here ↦ or_right (ended_by l done thread n) (same_label (label_at l n) thread && (is_end (deed_at l n) && nat_lt 0 (done n)))
        (subst (λ t. (same_label (label_at l t) thread && (is_end (deed_at l t) && nat_lt 0 (done t))) ≡ true) here
        (and_from (same_label (label_at l e) thread) (is_end (deed_at l e) && nat_lt 0 (done e)) (is_same_label (label_at l e) thread mine)
        (and_from (is_end (deed_at l e)) (nat_lt 0 (done e)) (ap is_end end) (lt-ltb 0 (done e) did))))
  ]

module _ {X : Type 0} where
  -- what a cut says of its list
  pub record IsCut (xs : List X) (c : Cut X) : Type 0 where
    pub is : xs ≡ c.left ++ c.here ∷ c.right

  cut_of : X → Option (Cut X) → Cut X
  cut_of x None = record { left = []; here = x; right = [] }
  cut_of x (Some c) = c

  pub same_cut : (c d : Cut X) → Some c ≡ Some d → c ≡ d
  unfolding cut_of
  same_cut c d is = ap (cut_of c.here) is

  behind_is : (x : X) (xs : List X) (o : Option (Cut X)) (c : Cut X) → ((d : Cut X) → o ≡ Some d → xs ≡ d.left ++ d.here ∷ d.right) → behind x o ≡ Some c
      → x ∷ xs ≡ c.left ++ c.here ∷ c.right
  behind_is x xs None c inner is = absurd (true≢false (sym (ap is_some is)))
  behind_is x xs (Some d) c inner is =
      subst (λ t. x ∷ xs ≡ t.left ++ t.here ∷ t.right) (same_cut (record { left = x ∷ d.left; here = d.here; right = d.right }) c is) (ap (λ t. x ∷ t) (inner d refl))

  behind_here : (x : X) (o : Option (Cut X)) (c : Cut X) (P : X → Type 0) → ((d : Cut X) → o ≡ Some d → P d.here) → behind x o ≡ Some c → P c.here
  behind_here x None c P inner is = absurd (true≢false (sym (ap is_some is)))
  behind_here x (Some d) c P inner is = subst (λ t. P t.here) (same_cut (record { left = x ∷ d.left; here = d.here; right = d.right }) c is) (inner d refl)

  pub cut_first_is : (passes : X → Bool) (xs : List X) (c : Cut X) → cut_first passes xs ≡ Some c → xs ≡ c.left ++ c.here ∷ c.right
  cut_first_is passes [] c is = absurd (true≢false (sym (ap is_some is)))
  cut_first_is passes (x ∷ xs) c is = elim (cases_Bool (passes x)) [
    | inl here ↦ subst (λ t. x ∷ xs ≡ t.left ++ t.here ∷ t.right)
        (same_cut (record { left = []; here = x; right = xs }) c (ap (λ b. cond b (Some (record { left = []; here = x; right = xs })) (behind x (cut_first passes xs))) (sym here) ∙ is)) refl
    | inr later ↦ behind_is x xs (cut_first passes xs) c (λ d. cut_first_is passes xs d)
        (ap (λ b. cond b (Some (record { left = []; here = x; right = xs })) (behind x (cut_first passes xs))) (sym later) ∙ is)
  ]

  pub cut_first_passes : (passes : X → Bool) (xs : List X) (c : Cut X) → cut_first passes xs ≡ Some c → passes c.here ≡ true
  cut_first_passes passes [] c is = absurd (true≢false (sym (ap is_some is)))
  cut_first_passes passes (x ∷ xs) c is = elim (cases_Bool (passes x)) [
    | inl here ↦ subst (λ t. passes t.here ≡ true)
        (same_cut (record { left = []; here = x; right = xs }) c (ap (λ b. cond b (Some (record { left = []; here = x; right = xs })) (behind x (cut_first passes xs))) (sym here) ∙ is)) here
    | inr later ↦ behind_here x (cut_first passes xs) c (λ t. passes t ≡ true) (λ d. cut_first_passes passes xs d)
        (ap (λ b. cond b (Some (record { left = []; here = x; right = xs })) (behind x (cut_first passes xs))) (sym later) ∙ is)
  ]

  pub cut_first_finds : (passes : X → Bool) (left : List X) (x : X) (right : List X) → Each (λ y. passes y ≡ false) left → passes x ≡ true
      → cut_first passes (left ++ x ∷ right) ≡ Some (record { left = left; here = x; right = right })
  cut_first_finds passes [] x right none here = ap (λ b. cond b (Some (record { left = []; here = x; right = right })) (behind x (cut_first passes right))) here
  cut_first_finds passes (y ∷ left) x right none here =
      ap (λ b. cond b (Some (record { left = []; here = y; right = left ++ x ∷ right })) (behind y (cut_first passes (left ++ x ∷ right)))) none.0
      ∙ ap (behind y) (cut_first_finds passes left x right none.1 here)

  pub cut_first_none : (passes : X → Bool) (xs : List X) → Each (λ y. passes y ≡ false) xs → cut_first passes xs ≡ None
  cut_first_none passes [] none = refl
  cut_first_none passes (x ∷ xs) none =
      ap (λ b. cond b (Some (record { left = []; here = x; right = xs })) (behind x (cut_first passes xs))) none.0 ∙ ap (behind x) (cut_first_none passes xs none.1)

  pub none_first : (passes : X → Bool) (xs : List X) → cut_first passes xs ≡ None → Each (λ y. passes y ≡ false) xs
  none_first passes [] is = tt
  none_first passes (x ∷ xs) is = elim (cases_Bool (passes x)) [
    | inl here ↦ absurd (true≢false (ap is_some (ap (λ b. cond b (Some (record { left = []; here = x; right = xs })) (behind x (cut_first passes xs))) (sym here) ∙ is)))
    | inr later ↦ (later, none_first passes xs (behind_none x (cut_first passes xs) (ap (λ b. cond b (Some (record { left = []; here = x; right = xs })) (behind x (cut_first passes xs))) (sym later) ∙ is)))
  ]
    where
      behind_none : (x : X) (o : Option (Cut X)) → behind x o ≡ None → o ≡ None
      behind_none x None is = refl
      behind_none x (Some c) is = absurd (true≢false (ap is_some is))

  pub cut_at_is : (place : ℕ) (xs : List X) (c : Cut X) → cut_at place xs ≡ Some c → (xs ≡ c.left ++ c.here ∷ c.right) × (length c.left ≡ place)
  cut_at_is place [] c is = absurd (true≢false (sym (ap is_some is)))
  cut_at_is zero (x ∷ xs) c is = subst (λ t. (x ∷ xs ≡ t.left ++ t.here ∷ t.right) × (length t.left ≡ 0)) (same_cut (record { left = []; here = x; right = xs }) c is) (refl, refl)
  cut_at_is (suc place) (x ∷ xs) c is = further (cut_at place xs) (λ d. cut_at_is place xs d) is
    where
      further : (o : Option (Cut X)) → ((d : Cut X) → o ≡ Some d → (xs ≡ d.left ++ d.here ∷ d.right) × (length d.left ≡ place)) → behind x o ≡ Some c
          → (x ∷ xs ≡ c.left ++ c.here ∷ c.right) × (length c.left ≡ suc place)
      further None inner is = absurd (true≢false (sym (ap is_some is)))
      further (Some d) inner is =
          let p : (xs ≡ d.left ++ d.here ∷ d.right) × (length d.left ≡ place) = inner d refl in
          let n = p.1 in
          subst (λ t. (x ∷ xs ≡ t.left ++ t.here ∷ t.right) × (length t.left ≡ suc place)) (same_cut (record { left = x ∷ d.left; here = d.here; right = d.right }) c is)
          (ap (λ t. x ∷ t) p.0, ap suc n)

  pub cut_at_finds : (left : List X) (x : X) (right : List X) → cut_at (length left) (left ++ x ∷ right) ≡ Some (record { left = left; here = x; right = right })
  cut_at_finds [] x right = refl
  cut_at_finds (y ∷ left) x right = ap (behind y) (cut_at_finds left x right)

  pub front_and_last : (x : X) (xs : List X) → x ∷ xs ≡ front_of x xs ++ last_of x xs ∷ []
  front_and_last x [] = refl
  front_and_last x (y ∷ ys) = ap (λ t. x ∷ t) (front_and_last y ys)

  pub front_and_last_are : (front : List X) (last x : X) (xs : List X) → front ++ last ∷ [] ≡ x ∷ xs → (front_of x xs ≡ front) × (last_of x xs ≡ last)
  front_and_last_are [] last x [] is = (refl, sym (same_head last x [] [] is))
  front_and_last_are [] last x (y ∷ ys) is = absurd (cons_is_not_nil y ys (sym (same_tail last x [] (y ∷ ys) is)))
  front_and_last_are (z ∷ front) last x [] is = absurd (middle_is_not_nil front last [] (same_tail z x (front ++ last ∷ []) [] is))
  front_and_last_are (z ∷ front) last x (y ∷ ys) is =
      let rest : (front_of y ys ≡ front) × (last_of y ys ≡ last) = front_and_last_are front last y ys (same_tail z x (front ++ last ∷ []) (y ∷ ys) is) in
      (ap (λ t. x ∷ t) rest.0 ∙ ap (λ t. t ∷ front) (sym (same_head z x (front ++ last ∷ []) (y ∷ ys) is)), rest.1)

pub is_fork_of_is : (parent top : List ℕ) → is_fork_of parent top ≡ true → (child : ℕ) × (top ≡ fork_of parent child)
is_fork_of_is parent [] is = absurd (true≢false (sym is))
is_fork_of_is parent (x ∷ xs) is =
    (last_of x xs, front_and_last x xs ∙ ap (λ t. t ++ last_of x xs ∷ []) (same_label_is (front_of x xs) parent is))

pub fork_is_fork_of : (parent top : List ℕ) (child : ℕ) → top ≡ fork_of parent child → is_fork_of parent top ≡ true
fork_is_fork_of parent [] child is = absurd (middle_is_not_nil parent child [] (sym is))
fork_is_fork_of parent (x ∷ xs) child is = is_same_label (front_of x xs) parent (front_and_last_are parent child x xs (sym is)).0
