-- Bytes that the grammar reads by a rule, as what they put in front of any others: so texts of many parts need no brackets.
use Rattle.std.proofs.Common.{◌≡◌, ℕ, suc, Bool, true, false, List, [], ◌∷◌, ◌++◌, refl, sym, ap, ◌∙◌, append_assoc}
use Rattle.std.proofs.lemmas.List.{append-nil}
use Rattle.par_text.specs.declared.kind.Kind.{Kind}
use Rattle.par_text.specs.Rule.{Nonterminal, TreeOf, Rule, nothing, mapped, pair, either, many, nest, within}
use Rattle.par_text.specs.Grammar.{rule, ◌⊳◌, ◌⊲◌}
use Rattle.canonical_text.proofs.Lexemes.{gap-space}
use Rattle.canonical_text.proofs.Written.{Opens}
use Rattle.canonical_text.proofs.Claims.{Fits, mapped_fits, pair_fits, first_fits, second_fits, nothing_fits, none_fits, more_fits, gaps_fit, same_fits, nest_fits, within_fits}
use Rattle.canonical_text.proofs.Symbols.{Opening}

pub record Says {X : Type 0} (most : ℕ) (i : Bool) (n : ℕ) (r : Rule X) (R : X → Type 0) (put : List ℕ → List ℕ) : Type 0 where
  pub fits : Fits most i n r R (put [])
  pub front : (t : List ℕ) → put t ≡ put [] ++ t

-- the bytes begin with one that ends a word, or what is behind them does
abbrev pub Begins : (List ℕ → List ℕ) → Type 0
Begins put = Opens (put [])

both_in_front : (f g : List ℕ → List ℕ) → ((t : List ℕ) → f t ≡ f [] ++ t) → ((t : List ℕ) → g t ≡ g [] ++ t) → (t : List ℕ) → f (g t) ≡ f (g []) ++ t
both_in_front f g a b t =
    a (g t) ∙ ap (λ (z : List ℕ). f [] ++ z) (b t) ∙ sym (append_assoc (f []) (g []) t) ∙ ap (λ (z : List ℕ). z ++ t) (sym (a (g [])))

module _ {most : ℕ} {i : Bool} {n : ℕ} where
  pub leaf : {X : Type 0} {r : Rule X} {R : X → Type 0} (w : List ℕ) → Fits most i n r R w → Says most i n r R (λ t. w ++ t)
  leaf w f = record { fits = same_fits (sym (append-nil w)) f; front = λ t. ap (λ (z : List ℕ). z ++ t) (sym (append-nil w)) }

  pub pair_says : {A B X : Type 0} {a : Rule A} {b : Rule B} {P : A → Type 0} {Q : B → Type 0} {R : X → Type 0} {f g : List ℕ → List ℕ} (h : A → B → X) → Begins g → ((x : A) (y : B) → P x → Q y → R (h x y))
      → Says most i n a P f → Says most i n b Q g → Says most i n (pair h a b) R (λ t. f (g t))
  pair_says {f = f} {g = g} h begins k p q = record { fits = same_fits (sym (p.front (g []))) (pair_fits h begins k p.fits q.fits); front = both_in_front f g p.front q.front }

  -- of two rules, only the second or the first has a meaning
  pub then_says : {A X : Type 0} {a : Rule A} {b : Rule X} {P : A → Type 0} {R : X → Type 0} {f g : List ℕ → List ℕ} → Begins g → Says most i n a P f → Says most i n b R g → Says most i n (a ⊳ b) R (λ t. f (g t))
  then_says begins p q = pair_says (λ _ x. x) begins (λ x y p q. q) p q

  pub before_says : {A X : Type 0} {a : Rule X} {b : Rule A} {P : A → Type 0} {R : X → Type 0} {f g : List ℕ → List ℕ} → Begins g → Says most i n a R f → Says most i n b P g → Says most i n (a ⊲ b) R (λ t. f (g t))
  before_says begins p q = pair_says (λ x _. x) begins (λ x y p q. p) p q

  pub mapped_says : {A X : Type 0} {a : Rule A} {P : A → Type 0} {R : X → Type 0} {f : List ℕ → List ℕ} (h : A → X) → ((x : A) → P x → R (h x)) → Says most i n a P f → Says most i n (mapped h a) R f
  mapped_says h k p = record { fits = mapped_fits h k p.fits; front = p.front }

  pub first_says : {X : Type 0} {ks : Kind → Bool} {a b : Rule X} {R : X → Type 0} {f : List ℕ → List ℕ} → Says most i n a R f → Says most i n (either ks a b) R f
  first_says p = record { fits = first_fits p.fits; front = p.front }

  pub second_says : {X : Type 0} {ks : Kind → Bool} {a b : Rule X} {R : X → Type 0} {f : List ℕ → List ℕ} → Says most i n b R f → Says most i n (either ks a b) R f
  second_says p = record { fits = second_fits p.fits; front = p.front }

  pub nothing_says : {X : Type 0} {x : X} {R : X → Type 0} → R x → Says most i n (nothing x) R (λ t. t)
  nothing_says h = record { fits = nothing_fits h; front = λ t. refl }

  pub none_says : {A X : Type 0} {ks : Kind → Bool} {h : A → X → X} {z : X} {a : Rule A} {R : X → Type 0} → R z → Says most i n (many ks h z a) R (λ t. t)
  none_says h = record { fits = none_fits h; front = λ t. refl }

  pub more_says : {A X : Type 0} {ks : Kind → Bool} {h : A → X → X} {z : X} {a : Rule A} {P : A → Type 0} {Q R : X → Type 0} {f g : List ℕ → List ℕ} → Begins g → ((x : A) (y : X) → P x → Q y → R (h x y))
      → Says most i n a P f → Says most i n (many ks h z a) Q g → Says most i n (many ks h z a) R (λ t. f (g t))
  more_says {f = f} {g = g} begins k p q = record { fits = same_fits (sym (p.front (g []))) (more_fits begins k p.fits q.fits); front = both_in_front f g p.front q.front }

  pub same_says : {X : Type 0} {r : Rule X} {R : X → Type 0} {f g : List ℕ → List ℕ} → ((t : List ℕ) → f t ≡ g t) → Says most i n r R f → Says most i n r R g
  same_says e p = record { fits = same_fits (e []) p.fits; front = λ t. sym (e t) ∙ p.front t ∙ ap (λ (z : List ℕ). z ++ t) (e []) }

  -- a space in front
  pub spaced : {X : Type 0} {r : Rule X} {R : X → Type 0} {f : List ℕ → List ℕ} → Says most i n r R f → Says most i n r R (λ t. 32 ∷ f t)
  spaced p = record { fits = gaps_fit (32 ∷ []) (gap-space, tt) p.fits; front = λ t. ap (λ (z : List ℕ). 32 ∷ z) (p.front t) }

-- a construct, and what stands inside it
pub nest_says : {most n : ℕ} {X : Type 0} {j : Kind} {a : Rule X} {R : X → Type 0} {c : ℕ} {f : List ℕ → List ℕ} → Opening j c → Says most true n a R f → Says most false (suc n) (nest j a) R (λ t. c ∷ f t)
nest_says {c = c} o p = record { fits = nest_fits o.lexeme o.form o.whole o.allowed p.fits; front = λ t. ap (λ (z : List ℕ). c ∷ z) (p.front t) }

pub within_says : {most n : ℕ} {X : Type 0} {s : Nonterminal} {P : TreeOf s → Type 0} {R : X → Type 0} {f : List ℕ → List ℕ} (h : TreeOf s → X) → ((x : TreeOf s) → P x → R (h x)) → Says most false n (rule s) P f → Says most true n (within s h) R f
within_says h k p = record { fits = within_fits h k p.fits; front = p.front }
