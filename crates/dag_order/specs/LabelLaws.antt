-- The laws of the order on labels.
use Rattle.std.specs.Prelude.{◌≡◌, ◌≢◌, ℕ, suc, ◌<◌, List, [], ◌∷◌, ◌++◌, ◌⊎◌, refl}
use Rattle.std.proofs.Common.{sym, ◌∙◌, ap, subst, inl, inr, arith}
use Rattle.std.proofs.lemmas.Bool.{cases_order}
use Rattle.dag_order.specs.LabelOrder.{Before, fork_of, StemsFromForkOn, ProperlyExtends, FirstDiffersLower, StandsDirectlyBefore}

-- no label is before itself
pub never_before_itself : (a : List ℕ) → ¬ Before a a
never_before_itself [] h = h
never_before_itself (x ∷ a) h = elim h [ inl lt ↦ omega arith | inr p ↦ never_before_itself a p.1 ]

-- what is before one label is before all that this label is before
pub before_further : (a b c : List ℕ) → Before a b → Before b c → Before a c
before_further [] b c h k = absurd h
before_further (x ∷ a) [] c h k = absurd k
before_further (x ∷ a) (y ∷ b) [] h k = tt
before_further (x ∷ a) (y ∷ b) (z ∷ c) h k =
    elim h [
      | inl xy ↦ elim k [ inl yz ↦ inl (omega arith) | inr q ↦ let e : y ≡ z = q.0 in inl (omega arith) ]
      | inr p ↦ let d : x ≡ y = p.0 in elim k [
        | inl yz ↦ inl (omega arith)
        | inr q ↦ inr (p.0 ∙ q.0, before_further a b c p.1 q.1)
      ]
    ]

-- of two labels one is before the other, or they are the same
pub three_ways : (a b : List ℕ) → Before a b ⊎ ((a ≡ b) ⊎ Before b a)
three_ways [] [] = inr (inl refl)
three_ways [] (y ∷ b) = inr (inr tt)
three_ways (x ∷ a) [] = inl tt
three_ways (x ∷ a) (y ∷ b) =
    elim (cases_order x y) [
      | inl e ↦ elim (three_ways a b) [
        | inl h ↦ inl (inr (e, h))
        | inr r ↦ elim r [
          | inl same ↦ inr (inl (ap (λ n. n ∷ a) e ∙ ap (λ l. y ∷ l) same))
          | inr h ↦ inr (inr (inr (sym e, h)))
        ]
      ]
      | inr r ↦ elim r [ inl lt ↦ inl (inl lt) | inr lt ↦ inr (inr (inl lt)) ]
    ]

-- of two different labels one is before the other
pub one_is_before : (a b : List ℕ) → a ≢ b → Before a b ⊎ Before b a
one_is_before a b differ =
    elim (three_ways a b) [ inl h ↦ inl h | inr r ↦ elim r [ inl same ↦ absurd (differ same) | inr h ↦ inr h ] ]

-- a label that goes on where another ends is before it
pub extension_is_before : (a : List ℕ) (next : ℕ) (rest : List ℕ) → Before (a ++ next ∷ rest) a
extension_is_before [] next rest = tt
extension_is_before (x ∷ a) next rest = inr (refl, extension_is_before a next rest)

-- what stems from an earlier fork of a thread is before what stems from a later one
pub earlier_fork_is_before : (parent : List ℕ) (j k : ℕ) (p q : List ℕ) → j < k → Before (parent ++ j ∷ p) (parent ++ k ∷ q)
earlier_fork_is_before [] j k p q lt = inl lt
earlier_fork_is_before (x ∷ parent) j k p q lt = inr (refl, earlier_fork_is_before parent j k p q lt)

-- a label that is before a thread's is before each fork of the thread, or stems from that fork or a later one
pub left_of_a_fork : (label parent : List ℕ) (k : ℕ) → Before label parent → Before label (fork_of parent k)
    ⊎ StemsFromForkOn parent k label
left_of_a_fork [] parent k h = absurd h
left_of_a_fork (x ∷ a) [] k h =
    elim (cases_order x k) [
      | inl e ↦ inr (x, a, omega arith, refl)
      | inr r ↦ elim r [ inl lt ↦ inl (inl lt) | inr gt ↦ inr (x, a, omega arith, refl) ]
    ]
left_of_a_fork (x ∷ a) (y ∷ parent) k h =
    elim h [
      | inl lt ↦ inl (inl lt)
      | inr p ↦ elim (left_of_a_fork a parent k p.1) [
        | inl l ↦ inl (inr (p.0, l))
        | inr s ↦ inr (s.0, s.1, s.2, ap (λ l. x ∷ l) s.3 ∙ ap (λ n. n ∷ (parent ++ s.0 ∷ s.1)) p.0)
      ]
    ]

-- what a thread's label is before, each fork of the thread is before
pub right_of_a_fork : (label parent : List ℕ) (k : ℕ) → Before parent label → Before (fork_of parent k) label
right_of_a_fork label parent k h = before_further (fork_of parent k) parent label (extension_is_before parent k []) h

-- what stands between a fork and its parent stems from a later fork of the parent
pub between_fork_and_parent : (label parent : List ℕ) (k : ℕ) → Before (fork_of parent k) label → Before label parent
    → StemsFromForkOn parent (suc k) label
between_fork_and_parent label [] k h below = first_fork label k h below
  where
    first_fork : (label : List ℕ) (k : ℕ) → Before (k ∷ []) label → Before label [] → StemsFromForkOn [] (suc k) label
    first_fork [] k h below = absurd below
    first_fork (x ∷ a) k h below = elim h [ inl lt ↦ (x, a, omega arith, refl) | inr p ↦ absurd p.1 ]
between_fork_and_parent [] (y ∷ parent) k h below = absurd below
between_fork_and_parent (x ∷ a) (y ∷ parent) k h below =
    elim h [
      | inl yx ↦ elim below [ inl xy ↦ absurd (omega arith) | inr q ↦ let e : x ≡ y = q.0 in absurd (omega arith) ]
      | inr p ↦ elim below [
        | inl xy ↦ let e : y ≡ x = p.0 in absurd (omega arith)
        | inr q ↦ let s : StemsFromForkOn parent (suc k) a = between_fork_and_parent a parent k p.1 q.1 in
            (s.0, s.1, s.2, ap (λ l. x ∷ l) s.3 ∙ ap (λ n. n ∷ (parent ++ s.0 ∷ s.1)) q.0)
      ]
    ]

-- what a fork is before is its parent, or its parent is before it, or it stems from a later fork of the parent
pub right_of_an_ended_fork : (label parent : List ℕ) (k : ℕ) → Before (fork_of parent k) label
    → (label ≡ parent) ⊎ (Before parent label ⊎ StemsFromForkOn parent (suc k) label)
right_of_an_ended_fork label parent k h =
    elim (three_ways label parent) [
      | inl below ↦ inr (inr (between_fork_and_parent label parent k h below))
      | inr r ↦ elim r [ inl same ↦ inl same | inr above ↦ inr (inl above) ]
    ]

-- the order by cases on the lists is the order in words
pub before_in_words : (a b : List ℕ) → Before a b → ProperlyExtends a b ⊎ FirstDiffersLower a b
before_in_words [] b h = absurd h
before_in_words (x ∷ a) [] h = inl (x, a, refl)
before_in_words (x ∷ a) (y ∷ b) h =
    elim h [
      | inl lt ↦ inr ([], x, y, a, b, lt, refl, refl)
      | inr p ↦ elim (before_in_words a b p.1) [
        | inl e ↦ inl (e.0, e.1, ap (λ l. x ∷ l) e.2 ∙ ap (λ n. n ∷ (b ++ e.0 ∷ e.1)) p.0)
        | inr d ↦ inr (
          x ∷ d.0,
          d.1,
          d.2,
          d.3,
          d.4,
          d.5,
          ap (λ l. x ∷ l) d.6,
          ap (λ l. y ∷ l) d.7
              ∙ ap (λ n. n ∷ (d.0 ++ d.2 ∷ d.4)) (sym p.0),
        )
      ]
    ]

-- and what is so in words is before
pub before_from_words : (a b : List ℕ) → ProperlyExtends a b ⊎ FirstDiffersLower a b → Before a b
before_from_words a b h =
    elim h [
      | inl e ↦ let P : List ℕ → Type 0 = λ l. Before l b in subst P (sym e.2) (extension_is_before b e.0 e.1)
      | inr d ↦ let P : List ℕ → Type 0 = λ l. Before l b in let Q : List ℕ → Type 0 = λ l. Before (d.0 ++ d.1 ∷ d.3) l in
          subst P (sym d.6) (subst Q (sym d.7) (earlier_fork_is_before d.0 d.1 d.2 d.3 d.4 d.5))
    ]

-- a fork stands directly before its parent
pub fork_stands_directly_before : (child parent : List ℕ) (k : ℕ) → child ≡ fork_of parent k → StandsDirectlyBefore child parent k
fork_stands_directly_before child parent k e =
    let P : List ℕ → Type 0 = λ c. StandsDirectlyBefore c parent k in
    subst P (sym e) (extension_is_before parent k [], λ label h below. between_fork_and_parent label parent k h below)
