-- The slots that hands hold: how often a slot is among them, and what the slots show.
use Rattle.std.proofs.Common.{◌≡◌, ◌≢◌, ℕ, zero, suc, ◌+◌, ◌-◌, ◌<◌, ◌≤◌, if◌then◌else◌, ◌==◌, inl, inr, Option, None, List, [], ◌∷◌, ◌++◌, length, get_or, set, refl, sym, ap, ◌∙◌, subst, arith, eq-eqb, ne_eqb, length-set}
use mathlib.Core.Option.{some, some-injective, some-ne-none}
use mathlib.Core.Logic.{dite}
use native.Mathlib.Decide.{ℕ_discrete}
use lib.ListN.{get_elem?}
use Rattle.atomic_table.proofs.Lists.{set_here, set_else, set_again}
use Rattle.turn_table.specs.declared.hand.Hand.{Hand}
use Rattle.turn_table.specs.Hands.{Has, times, without_slot, renewed, Shows, showing, turn}
use Rattle.turn_table.specs.Seats.{vacant, Within}

module _ {A : Type 0} where
  -- a place in the list has an element, and an element has a place
  pub some_at : (l : List A) (i : ℕ) → i < length l → (a : A) × (get_elem? l i ≡ some a)
  some_at [] i h = absurd (omega arith)
  some_at (x ∷ xs) zero h = (x, refl)
  some_at (x ∷ xs) (suc i) h = some_at xs i (omega arith)

  pub at_within : (l : List A) (i : ℕ) (a : A) → get_elem? l i ≡ some a → i < length l
  at_within [] i a e = absurd (some-ne-none a (sym e))
  at_within (x ∷ xs) zero a e = omega arith
  at_within (x ∷ xs) (suc i) a e = let h = at_within xs i a e in omega arith

-- the element at a place, as an index reads it
pub read_at : {A : Type 0} (l : List A) (i : ℕ) (a d : A) → get_elem? l i ≡ some a → get_or l i d ≡ a
read_at [] i a d e = absurd (some-ne-none a (sym e))
read_at (x ∷ xs) zero a d e = some-injective x a e
read_at (x ∷ xs) (suc i) a d e = read_at xs i a d e

module _ {V : Type 0} where
  pub times_here : (i k : ℕ) (v : V) (xs : List (ℕ × V)) → k ≡ i → times i ((k, v) ∷ xs) ≡ suc (times i xs)
  times_here i k v xs e = ap (λ b. (if b then 1 else 0) + times i xs) (eq-eqb k i e) ∙ (omega arith)

  pub times_else : (i k : ℕ) (v : V) (xs : List (ℕ × V)) → k ≢ i → times i ((k, v) ∷ xs) ≡ times i xs
  times_else i k v xs n = ap (λ b. (if b then 1 else 0) + times i xs) (ne_eqb k i n) ∙ (omega arith)

  pub times_has : (i : ℕ) (xs : List (ℕ × V)) → Has i xs → 0 < times i xs
  times_has i [] h = absurd h
  times_has i (x ∷ xs) (inl e) = let t = times_here i x.0 x.1 xs e in omega arith
  times_has i (x ∷ xs) (inr h) = let t = times_has i xs h in omega arith

  pub has_times : (i : ℕ) (xs : List (ℕ × V)) → 0 < times i xs → Has i xs
  has_times i [] h = absurd (omega arith)
  has_times i (x ∷ xs) h = dite (ℕ_discrete x.0 i) (λ e. inl e) (λ n. let t = times_else i x.0 x.1 xs n in inr (has_times i xs (omega arith)))

  pub times_none : (i : ℕ) (xs : List (ℕ × V)) → ¬ (Has i xs) → times i xs ≡ 0
  times_none i [] h = refl
  times_none i (x ∷ xs) h = times_else i x.0 x.1 xs (λ e. h (inl e)) ∙ times_none i xs (λ a. h (inr a))

  pub times_renewed : (f : ℕ → V → V) (i : ℕ) (xs : List (ℕ × V)) → times i (renewed f xs) ≡ times i xs
  times_renewed f i [] = refl
  times_renewed f i (x ∷ xs) = ap (λ n. (if x.0 == i then 1 else 0) + n) (times_renewed f i xs)

  pub times_vacant : (i : ℕ) (xs : List (ℕ × V)) → times i (vacant xs) ≡ times i xs
  times_vacant i [] = refl
  times_vacant i (x ∷ xs) = ap (λ n. (if x.0 == i then 1 else 0) + n) (times_vacant i xs)

  pub without_here : (i : ℕ) (x : ℕ × V) (xs : List (ℕ × V)) → x.0 ≡ i → without_slot i (x ∷ xs) ≡ xs
  without_here i x xs e = ap (λ b. if b then xs else x ∷ without_slot i xs) (eq-eqb x.0 i e)

  pub without_else : (i : ℕ) (x : ℕ × V) (xs : List (ℕ × V)) → x.0 ≢ i → without_slot i (x ∷ xs) ≡ x ∷ without_slot i xs
  without_else i x xs n = ap (λ b. if b then xs else x ∷ without_slot i xs) (ne_eqb x.0 i n)

  pub times_without : (i : ℕ) (xs : List (ℕ × V)) → times i (without_slot i xs) ≡ times i xs - 1
  times_without i [] = refl
  times_without i (x ∷ xs) = dite (ℕ_discrete x.0 i)
      (λ e. let t = times_here i x.0 x.1 xs e in ap (times i) (without_here i x xs e) ∙ (omega arith))
      (λ n. let t = times_else i x.0 x.1 xs n in let u = times_without i xs in ap (times i) (without_else i x xs n) ∙ times_else i x.0 x.1 (without_slot i xs) n ∙ u ∙ (omega arith))

  pub times_without_else : (i j : ℕ) (xs : List (ℕ × V)) → j ≢ i → times j (without_slot i xs) ≡ times j xs
  times_without_else i j [] n = refl
  times_without_else i j (x ∷ xs) n = dite (ℕ_discrete x.0 i)
      (λ e. ap (times j) (without_here i x xs e) ∙ sym (times_else j x.0 x.1 xs (λ d. n (sym d ∙ e))))
      (λ m. ap (times j) (without_else i x xs m) ∙ ap (λ k. (if x.0 == j then 1 else 0) + k) (times_without_else i j xs n))

  pub without_none : (i : ℕ) (xs : List (ℕ × V)) → times i xs ≡ 0 → without_slot i xs ≡ xs
  without_none i [] e = refl
  without_none i (x ∷ xs) e = dite (ℕ_discrete x.0 i) (λ d. let t = times_here i x.0 x.1 xs d in absurd (omega arith))
      (λ n. let t = times_else i x.0 x.1 xs n in without_else i x xs n ∙ ap (λ (ys : List (ℕ × V)). x ∷ ys) (without_none i xs (omega arith)))

  pub vacant_renewed : (f : ℕ → V → V) (xs : List (ℕ × V)) → vacant (renewed f xs) ≡ vacant xs
  vacant_renewed f [] = refl
  vacant_renewed f (x ∷ xs) = ap (λ (ys : List (ℕ × Option V)). (x.0, None) ∷ ys) (vacant_renewed f xs)

  pub within_more : (n i : ℕ) (v : V) (xs : List (ℕ × V)) → i < n → Within n xs → Within n ((i, v) ∷ xs)
  within_more n i v xs near w k pos = dite (ℕ_discrete i k) (λ e. subst (λ (z : ℕ). z < n) e near) (λ d. let t = times_else k i v xs d in w k (omega arith))

  pub within_left : (n i : ℕ) (f : ℕ → V → V) (xs : List (ℕ × V)) → Within n xs → Within n (renewed f (without_slot i xs))
  within_left n i f xs w k pos = let a = times_renewed f k (without_slot i xs) in
      dite (ℕ_discrete k i) (λ e. let b = times_without i xs in let c : times k (without_slot i xs) ≡ times i (without_slot i xs) = ap (λ (z : ℕ). times z (without_slot i xs)) e in let d : times k xs ≡ times i xs = ap (λ (z : ℕ). times z xs) e in w k (omega arith))
      (λ d. let b = times_without_else i k xs d in w k (omega arith))

  -- a slot that shows its value is a slot
  pub shows_within : (shown : List V) (k : ℕ) (xs : List (ℕ × V)) → Shows shown xs → 0 < times k xs → k < length shown
  shows_within shown k [] s h = absurd (omega arith)
  shows_within shown k (x ∷ xs) s h = dite (ℕ_discrete x.0 k) (λ e. subst (λ n. n < length shown) e (at_within shown x.0 x.1 s.0))
      (λ n. let t = times_else k x.0 x.1 xs n in shows_within shown k xs s.1 (omega arith))

  pub shows_same : (shown later : List V) (xs : List (ℕ × V)) → ((k : ℕ) → 0 < times k xs → get_elem? later k ≡ get_elem? shown k) → Shows shown xs → Shows later xs
  shows_same shown later [] e s = tt
  shows_same shown later (x ∷ xs) e s = (e x.0 (let t = times_here x.0 x.0 x.1 xs refl in omega arith) ∙ s.0, shows_same shown later xs (λ k h. e k (omega arith)) s.1)

  pub length-showing : (shown : List V) (xs : List (ℕ × V)) → length (showing shown xs) ≡ length shown
  length-showing shown [] = refl
  length-showing shown (x ∷ xs) = length-set (showing shown xs) x.0 x.1 ∙ length-showing shown xs

  pub showing_else : (shown : List V) (xs : List (ℕ × V)) (k : ℕ) → times k xs ≡ 0 → get_elem? (showing shown xs) k ≡ get_elem? shown k
  showing_else shown [] k e = refl
  showing_else shown (x ∷ xs) k e = let other : k ≢ x.0 = λ d. let t = times_here k x.0 x.1 xs (sym d) in absurd (omega arith) in
      set_else (showing shown xs) x.0 k x.1 other ∙ showing_else shown xs k (let t = times_else k x.0 x.1 xs (λ d. other (sym d)) in omega arith)

  -- slots that are each once among these show their values afterwards
  pub showing_shows : (shown : List V) (xs : List (ℕ × V)) → ((k : ℕ) → 0 < times k xs → k < length shown) → ((k : ℕ) → times k xs ≤ 1) → Shows (showing shown xs) xs
  showing_shows shown [] near once = tt
  showing_shows shown (x ∷ xs) near once = let t = times_here x.0 x.0 x.1 xs refl in let o = once x.0 in let us : List V = showing shown xs in
      let here : x.0 < length us = let n = near x.0 (omega arith) in let l = length-showing shown xs in omega arith in (
        set_here us x.0 x.1 here,
        shows_same us (set us x.0 x.1) xs (λ k h. set_else us x.0 k x.1 (λ e. let z : times k xs ≡ times x.0 xs = ap (λ n. times n xs) e in omega arith))
            (showing_shows shown xs (λ k h. near k (omega arith)) (λ k. let p = once k in omega arith)),
      )

  -- showing what is shown changes nothing
  pub showing_again : (shown : List V) (xs : List (ℕ × V)) → Shows shown xs → showing shown xs ≡ shown
  showing_again shown [] s = refl
  showing_again shown (x ∷ xs) s = ap (λ (us : List V). set us x.0 x.1) (showing_again shown xs s.1) ∙ set_again shown x.0 x.1 s.0

  pub shows_without : (shown : List V) (i : ℕ) (xs : List (ℕ × V)) → Shows shown xs → Shows shown (without_slot i xs)
  shows_without shown i [] s = tt
  shows_without shown i (x ∷ xs) s = dite (ℕ_discrete x.0 i) (λ e. subst (Shows shown) (sym (without_here i x xs e)) s.1)
      (λ n. subst (Shows shown) (sym (without_else i x xs n)) (s.0, shows_without shown i xs s.1))

module _ {V : Type 0} where
  pub vacant_without : (i : ℕ) (xs : List (ℕ × V)) → without_slot i (vacant xs) ≡ vacant (without_slot i xs)
  vacant_without i [] = refl
  vacant_without i (x ∷ xs) = dite (ℕ_discrete x.0 i)
      (λ e. without_here i (x.0, None) (vacant xs) e ∙ sym (ap vacant (without_here i x xs e)))
      (λ n. without_else i (x.0, None) (vacant xs) n ∙ ap (λ (ys : List (ℕ × Option V)). (x.0, None) ∷ ys) (vacant_without i xs) ∙ sym (ap vacant (without_else i x xs n)))

module _ {V N : Type 0} where
  pub turn_set : (hands : List (Hand V N)) (j : ℕ) (h g : Hand V N) (i : ℕ) → get_elem? hands j ≡ some h → turn (set hands j g) i + times i h.holds ≡ turn hands i + times i g.holds
  turn_set [] j h g i e = absurd (some-ne-none h (sym e))
  turn_set (x ∷ xs) zero h g i e = let d : times i x.holds ≡ times i h.holds = ap (λ (y : Hand V N). times i y.holds) (some-injective x h e) in omega arith
  turn_set (x ∷ xs) (suc j) h g i e = let r = turn_set xs j h g i e in omega arith

  pub turn_append : (hands : List (Hand V N)) (h : Hand V N) (i : ℕ) → turn (hands ++ h ∷ []) i ≡ turn hands i + times i h.holds
  turn_append [] h i = omega arith
  turn_append (x ∷ xs) h i = let r = turn_append xs h i in omega arith

  pub turn_at : (hands : List (Hand V N)) (j : ℕ) (h : Hand V N) (i : ℕ) → get_elem? hands j ≡ some h → times i h.holds ≤ turn hands i
  turn_at [] j h i e = absurd (some-ne-none h (sym e))
  turn_at (x ∷ xs) zero h i e = let d : times i x.holds ≡ times i h.holds = ap (λ (y : Hand V N). times i y.holds) (some-injective x h e) in omega arith
  turn_at (x ∷ xs) (suc j) h i e = let r = turn_at xs j h i e in omega arith

  pub turn_two : (hands : List (Hand V N)) (j k : ℕ) (h g : Hand V N) (i : ℕ) → k ≢ j → get_elem? hands j ≡ some h → get_elem? hands k ≡ some g → times i h.holds + times i g.holds ≤ turn hands i
  turn_two [] j k h g i n e d = absurd (some-ne-none h (sym e))
  turn_two (x ∷ xs) zero zero h g i n e d = absurd (n refl)
  turn_two (x ∷ xs) zero (suc k) h g i n e d = let a : times i x.holds ≡ times i h.holds = ap (λ (y : Hand V N). times i y.holds) (some-injective x h e) in let r = turn_at xs k g i d in omega arith
  turn_two (x ∷ xs) (suc j) zero h g i n e d = let a : times i x.holds ≡ times i g.holds = ap (λ (y : Hand V N). times i y.holds) (some-injective x g d) in let r = turn_at xs j h i e in omega arith
  turn_two (x ∷ xs) (suc j) (suc k) h g i n e d = let r = turn_two xs j k h g i (λ q. n (ap suc q)) e d in omega arith
