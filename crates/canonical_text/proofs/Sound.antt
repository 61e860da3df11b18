-- What is known of the meaning of a form whose tokens are those of a text and are not too deep: one law
-- for each form of a rule.
use Rattle.std.proofs.Common.{◌≡◌, ℕ, zero, suc, ◌+◌, ◌≤◌, Bool, List, [], ◌∷◌, ◌++◌, inl, inr, refl, subst, arith}
use Rattle.par_text.specs.declared.kind.Kind.{Kind}
use Rattle.par_text.specs.Rule.{Token, Nonterminal, TreeOf, Rule, nothing, token, mapped, pair, either, many, nest, within}
use Rattle.par_text.specs.Form.{Marked, Form}
use Rattle.par_text.specs.Text.{Nested, nested_spelling, nested_meaning}
use Rattle.par_text.specs.Grammar.{◌⊳◌, ◌⊲◌}
use Rattle.par_text.specs.Lexing.{value_of}
use Rattle.canonical_text.proofs.Leaves.{IsToken}
use Rattle.canonical_text.proofs.Written.{spells, means_of}

-- a token that a text has
abbrev pub IsValid : Token → Type 0
IsValid t = IsToken t.kind t.bytes × (t.value ≡ value_of t.bytes)

abbrev pub Sound : ℕ → List Marked → Type 0
Sound most [] = Unit {0}
Sound most (m ∷ ms) = ((m.depth ≤ most) × IsValid m.token) × Sound most ms

sound_front : (most : ℕ) (ms ns : List Marked) → Sound most (ms ++ ns) → Sound most ms
sound_front most [] ns h = tt
sound_front most (m ∷ ms) ns h = (h.0, sound_front most ms ns h.1)

sound_back : (most : ℕ) (ms ns : List Marked) → Sound most (ms ++ ns) → Sound most ns
sound_back most [] ns h = h
sound_back most (m ∷ ms) ns h = sound_back most ms ns h.1

pub record Tells {X : Type 0} (most size depth : ℕ) (r : Rule X) (P : X → Type 0) : Type 0 where
  pub tells : (d : Form (Nested size) r) → Sound most (spells size depth r d) → P (means_of size r d)

abbrev pub TokenOf : Kind → Token → Type 0
TokenOf j t = IsToken j t.bytes × (t.value ≡ value_of t.bytes)

module _ {most size depth : ℕ} where
  pub tells_anything : {X : Type 0} {r : Rule X} → Tells most size depth r (λ x. Unit {0})
  tells_anything = record { tells = λ d h. tt }

  pub tells_nothing : {X : Type 0} {x : X} {P : X → Type 0} → P x → Tells most size depth (nothing x) P
  tells_nothing p = record { tells = λ d h. p }

  pub tells_token : {j : Kind} → Tells most size depth (token j) (TokenOf j)
  tells_token = record { tells = λ d h. subst (λ i. TokenOf i d.0) d.1 h.0.1 }

  pub tells_mapped : {A X : Type 0} {a : Rule A} {P : A → Type 0} {R : X → Type 0} {f : A → X} → ((x : A) → P x → R (f x)) → Tells most size depth a P → Tells most size depth (mapped f a) R
  tells_mapped h a = record { tells = λ d s. h _ (a.tells d s) }

  pub tells_weaker : {X : Type 0} {a : Rule X} {P R : X → Type 0} → ((x : X) → P x → R x) → Tells most size depth a P → Tells most size depth a R
  tells_weaker h a = record { tells = λ d s. h _ (a.tells d s) }

  pub tells_pair : {A B X : Type 0} {a : Rule A} {b : Rule B} {P : A → Type 0} {Q : B → Type 0} {R : X → Type 0} {f : A → B → X} → ((x : A) (y : B) → P x → Q y → R (f x y)) → Tells most size depth a P → Tells most size depth b Q → Tells most size depth (pair f a b) R
  tells_pair {a = a} {b = b} h p q = record {
    tells = λ d s. h _ _ (p.tells d.0 (sound_front most (spells size depth a d.0) (spells size depth b d.1) s)) (q.tells d.1 (sound_back most (spells size depth a d.0) (spells size depth b d.1) s));
  }

  pub tells_then : {A X : Type 0} {a : Rule A} {b : Rule X} {P : X → Type 0} → Tells most size depth b P → Tells most size depth (a ⊳ b) P
  tells_then q = tells_pair (λ x y p h. h) tells_anything q

  pub tells_before : {A X : Type 0} {a : Rule X} {b : Rule A} {P : X → Type 0} → Tells most size depth a P → Tells most size depth (a ⊲ b) P
  tells_before p = tells_pair (λ x y h q. h) p tells_anything

  pub tells_either : {X : Type 0} {ks : Kind → Bool} {a b : Rule X} {P : X → Type 0} → Tells most size depth a P → Tells most size depth b P → Tells most size depth (either ks a b) P
  tells_either {X} {ks} {a} {b} {P} p q = record { tells = go }
    where
      go : (d : Form (Nested size) (either ks a b)) → Sound most (spells size depth (either ks a b) d) → P (means_of size (either ks a b) d)
      go (inl d) s = p.tells d s
      go (inr d) s = q.tells d s

  pub tells_many : {A X : Type 0} {ks : Kind → Bool} {f : A → X → X} {z : X} {a : Rule A} {P : A → Type 0} {R : X → Type 0} → R z → ((x : A) (y : X) → P x → R y → R (f x y)) → Tells most size depth a P → Tells most size depth (many ks f z a) R
  tells_many {A} {X} {ks} {f} {z} {a} {P} {R} none more p = record { tells = go }
    where
      go : (ds : List (Form (Nested size) a)) → Sound most (spells size depth (many ks f z a) ds) → R (means_of size (many ks f z a) ds)
      go [] s = none
      go (d ∷ ds) s =
          more _ _ (p.tells d (sound_front most (spells size depth a d) (spells size depth (many ks f z a) ds) s))
          (go ds (sound_back most (spells size depth a d) (spells size depth (many ks f z a) ds) s))

  pub tells_nest : {X : Type 0} {j : Kind} {a : Rule X} {P : X → Type 0} (n : ℕ) → depth + n ≡ most → ((m : ℕ) → n ≡ suc m → (depth + 1) + m ≡ most → Tells most size (depth + 1) a P) → Tells most size depth (nest j a) P
  tells_nest {X} {j} {a} {P} n room inside = record { tells = λ d s. go n refl d s }
    where
      go : (i : ℕ) → n ≡ i → (d : Form (Nested size) (nest j a)) → Sound most (spells size depth (nest j a) d) → P (means_of size (nest j a) d)
      go zero is d s = absurd (omega (arith, s.0.0, is, room))
      go (suc m) is d s = (inside m is (omega (arith, is, room))).tells d.1 s.1

  pub tells_within : {X : Type 0} {s : Nonterminal} {P : TreeOf s → Type 0} {R : X → Type 0} {f : TreeOf s → X} → ((x : TreeOf s) → P x → R (f x)) → ((d : Nested size s) → Sound most (nested_spelling size depth s d) → P (nested_meaning size s d)) → Tells most size depth (within s f) R
  tells_within h p = record { tells = λ d s. h _ (p d s) }
