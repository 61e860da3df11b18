-- One of the slots that are out comes to the front, and the table stays as it is.
use Rattle.std.proofs.Common.{◌≡◌, ◌≢◌, ℕ, suc, ◌<◌, ◌≤◌, if◌then◌else◌, ◌==◌, true, inl, inr, Option, None, List, [], ◌∷◌, set, refl, sym, ap, ◌∙◌, subst, arith, eq-eqb, ne_eqb, length-set}
use mathlib.Core.Option.{some, none, some-injective, some-ne-none}
use mathlib.Core.Option as maybe
use mathlib.Core.Logic.{dite}
use native.Mathlib.Decide.{ℕ_discrete}
use lib.ListN.{get_elem?}
use Rattle.atomic_table.specs.Table.{Me, Act, keeps, takes, gives, chain, Allows, Valid, carried_after, homes_after}
use Rattle.atomic_table.proofs.Lists.{set_here, set_else, set_again}
use Rattle.turn_table.specs.declared.hand.Hand.{Hand}
use Rattle.turn_table.specs.declared.place.Place.{Place}
use Rattle.turn_table.specs.declared.opening.Opening.{Opening}
use Rattle.turn_table.specs.Hands.{Has, times, without_slot}
use Rattle.turn_table.specs.Seats.{vacant}
use Rattle.turn_table.specs.Rows.{turn_word, Rule}
use Rattle.turn_table.specs.Steps.{Fronted}
use Rattle.turn_table.proofs.Hands.{at_within, times_here, times_else, times_has, without_here, without_else, vacant_without, turn_at, shows_within}
use Rattle.turn_table.proofs.Rows.{mine, opened}
use Rattle.turn_table.proofs.Steps.{set_read}

-- two lists with the same elements are one
ext_at : {A : Type 0} (l m : List A) → ((j : ℕ) → get_elem? l j ≡ get_elem? m j) → l ≡ m
ext_at [] [] e = refl
ext_at [] (y ∷ ys) e = absurd (some-ne-none y (sym (e 0)))
ext_at (x ∷ xs) [] e = absurd (some-ne-none x (e 0))
ext_at (x ∷ xs) (y ∷ ys) e = let t : xs ≡ ys = ext_at xs ys (λ j. e (suc j)) in λ k. some-injective x y (e 0) k ∷ t k

module _ (V : Type 0) where
  abbrev Homes : Type 0
  Homes = List (maybe.Option (Option V))

  abbrev Carried : Type 0
  Carried = List (ℕ × Option V)

  -- the slots in front of the slot i go home, and come out again behind it
  abbrev bring : ℕ → List (ℕ × V) → Act (Option V)
  bring i [] = keeps
  bring i (x ∷ xs) = if x.0 == i then keeps else chain gives (chain (bring i xs) (chain gives (chain (takes x.0 None) (takes i None))))

  abbrev swap : ℕ → ℕ → Act (Option V)
  swap k i = chain gives (chain (takes k None) (takes i None))

  abbrev Brings : Homes → Carried → Homes → Carried → Act (Option V) → Type 0
  Brings hs c hs' c' a = (carried_after c a ≡ c') × (homes_after hs c a ≡ hs') × Valid hs c a

  swaps : (hs : Homes) (k i : ℕ) (r : Carried) → k ≢ i → get_elem? hs k ≡ some none → get_elem? hs i ≡ some none → Brings (set hs k (some None)) ((i, None) ∷ r) hs ((i, None) ∷ (k, None) ∷ r) (swap k i)
  swaps hs k i r n at_k at_i =
      let a : Homes = set hs k (some None) in let b : Homes = set a i (some None) in let c : Homes = set b k none in let la = length-set hs k (some None) in let lb = length-set a i (some None) in let lc = length-set b k none in
      let near_k = at_within hs k none at_k in let near_i = at_within hs i none at_i in let m : i ≢ k = λ e. n (sym e) in (
        refl,
        ext_at (set c i none) hs (λ j. dite (ℕ_discrete j i) (λ e. subst (λ z. get_elem? (set c i none) z ≡ get_elem? hs z) (sym e) (set_here c i none (omega arith) ∙ sym at_i))
            (λ d. dite (ℕ_discrete j k) (λ e. subst (λ z. get_elem? (set c i none) z ≡ get_elem? hs z) (sym e) (set_else c i k none n ∙ set_here b k none (omega arith) ∙ sym at_k))
            (λ o. set_else c i j none d ∙ set_else b k j none o ∙ set_else a i j (some None) d ∙ set_else hs k j (some None) o))),
        (tt, (set_else a i k (some None) n ∙ set_here hs k (some None) near_k, set_else b k i none m ∙ set_here a i (some None) (omega arith))),
      )

  -- one thing after another
  chains : (hs hs' hs'' : Homes) (c c' c'' : Carried) (a b : Act (Option V)) → Brings hs c hs' c' a → Brings hs' c' hs'' c'' b → Brings hs c hs'' c'' (chain a b)
  chains hs hs' hs'' c c' c'' a b p q =
      let t = subst (λ (z : Homes × Carried). Brings z.0 z.1 hs'' c'' b) (λ k. (sym p.1 k, sym p.0 k)) q in (t.0, t.1, (p.2, t.2))

  brings : (i : ℕ) (xs : List (ℕ × V)) (hs : Homes) → Has i xs → ((k : ℕ) → times k xs ≤ 1) → ((k : ℕ) → 0 < times k xs → get_elem? hs k ≡ some none)
      → Brings hs (vacant xs) hs ((i, None) ∷ vacant (without_slot i xs)) (bring i xs)
  brings i [] hs has once out = absurd has
  brings i (x ∷ xs) hs has once out = dite (ℕ_discrete x.0 i)
      (λ e. subst (Brings hs (vacant (x ∷ xs)) hs ((i, None) ∷ vacant (without_slot i (x ∷ xs))))
      (sym (ap (λ b. if b then keeps else chain gives (chain (bring i xs) (swap x.0 i))) (eq-eqb x.0 i e)))
      ((λ k. (e k, None) ∷ vacant (sym (without_here i x xs e) k)), refl, tt))
      (λ n. let t = times_else i x.0 x.1 xs n in let m = times_has i (x ∷ xs) has in let u = times_here x.0 x.0 x.1 xs refl in let o = once x.0 in
      let at_x = out x.0 (omega arith) in let at_i = out i m in
      let rest = brings i xs (set hs x.0 (some None)) (elim has as (λ _. Has i xs) [ (inl e) ↦ absurd (n e) | (inr h) ↦ h ])
      (λ k. let p = once k in omega arith)
      (λ k h. set_else hs x.0 k (some None) (λ e. let z : times k xs ≡ times x.0 xs = ap (λ y. times y xs) e in omega arith) ∙ out k (omega arith)) in
      let first : Brings hs (vacant (x ∷ xs)) (set hs x.0 (some None)) (vacant xs) gives = (refl, refl, tt) in
      let last = swaps hs x.0 i (vacant (without_slot i xs)) n at_x at_i in
      let all = chains hs (set hs x.0 (some None)) hs (vacant (x ∷ xs)) (vacant xs) ((i, None) ∷ (x.0, None) ∷ vacant (without_slot i xs)) gives (chain (bring i xs) (swap x.0 i)) first
      (chains (set hs x.0 (some None)) (set hs x.0 (some None)) hs (vacant xs) ((i, None) ∷ vacant (without_slot i xs)) ((i, None) ∷ (x.0, None) ∷ vacant (without_slot i xs)) (bring i xs) (swap x.0 i) rest last) in
      subst (λ (z : Act (Option V) × List (ℕ × V)). Brings hs (vacant (x ∷ xs)) hs ((i, None) ∷ vacant z.1) z.0)
      (λ k. (sym (ap (λ b. if b then keeps else chain gives (chain (bring i xs) (swap x.0 i))) (ne_eqb x.0 i n)) k, sym (without_else i x xs n) k)) all)

module _ {K V N : Type 0} (fact : K → List V → ℕ → List (Hand V N) → Type 0) (blank : N) (about : Opening K V) where
  pub fronts : (slots i id : ℕ) (me : Me (Option V) (Place K V N)) → me.0.hand.seated ≡ true → me.1 ≡ vacant me.0.hand.holds → Has i me.0.hand.holds
      → Allows (Rule fact blank about) slots id me (turn_word i) (λ n. n) (λ _ m. Fronted i me m)
  fronts slots i id me seated is has s law wide at small =
      let r = opened fact blank about s id me.0 law at seated in let h = me.0.hand in let mine' = mine fact blank about s r id me.0 at in
      let b = brings V i h.holds s.homes has (λ k. let t = turn_at r.hands id h k mine' in let o = r.fits.once k in omega arith)
      (λ k z. r.out k (let w = shows_within r.shown k h.holds (r.fits.shows id h mine') z in let l = r.fits.long in omega arith) (let t = turn_at r.hands id h k mine' in omega arith)) in
      let b' = subst (λ (c : List (ℕ × Option V)). Brings V s.homes c s.homes ((i, None) ∷ without_slot i c) (bring V i h.holds)) (sym is)
      (subst (λ (c : List (ℕ × Option V)). Brings V s.homes (vacant h.holds) s.homes ((i, None) ∷ c) (bring V i h.holds)) (sym (vacant_without i h.holds)) b) in (
        me.0,
        bring V i h.holds,
        b'.2,
        subst (Rule fact blank about) (λ k. record { words = sym (set_read s.words (turn_word i)) k; homes = sym b'.1 k; views = sym (set_again s.views id me.0 at) k }) law,
        (λ k. (me.0, b'.0 k)),
      )
