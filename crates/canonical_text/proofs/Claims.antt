-- Bytes that are read by a rule at each depth with room for so many more constructs.
use Rattle.std.proofs.Common.{◌≡◌, ℕ, zero, suc, ◌+◌, ◌≤◌, Bool, true, false, List, [], ◌∷◌, ◌++◌, Ok, subst, arith}
use Rattle.par_text.specs.declared.kind.Kind.{Kind}
use Rattle.par_text.specs.Rule.{Nonterminal, TreeOf, Rule, nothing, token, mapped, pair, either, many, nest, within}
use Rattle.par_text.specs.Grammar.{rule, ◌⊳◌, ◌⊲◌}
use Rattle.par_text.specs.Lexing.{is_allowed, piece_rest, is_lexeme, form_of, value_of}
use Rattle.canonical_text.proofs.Lexemes.{AreGaps, Allowed, IsWhole}
use Rattle.canonical_text.proofs.Written.{Writes, Opens, token_writes, mapped_writes, weaker_writes, pair_writes, first_writes, second_writes, nothing_writes, none_writes, more_writes, nest_writes, within_writes, gaps_before, gaps_behind}

abbrev pub size_of : Bool → ℕ → ℕ
size_of false m = suc m
size_of true m = suc (suc m)

-- At each depth where at least k more constructs may open. Inside a construct, where i is true, the
-- forms of the nonterminals are one step smaller.
pub record Fits {X : Type 0} (most : ℕ) (i : Bool) (k : ℕ) (r : Rule X) (R : X → Type 0) (bs : List ℕ) : Type 0 where
  pub writes : (m depth : ℕ) → k ≤ m → depth + m ≡ most → Writes most (size_of i m) depth r R bs

abbrev pub Always : {X : Type 0} → X → Type 0
Always x = Unit {0}

module _ {most : ℕ} {i : Bool} {k : ℕ} where
  pub mapped_fits : {A X : Type 0} {a : Rule A} {P : A → Type 0} {R : X → Type 0} {u : List ℕ} (f : A → X) → ((x : A) → P x → R (f x)) → Fits most i k a P u → Fits most i k (mapped f a) R u
  mapped_fits f h w = record { writes = λ m depth le e. mapped_writes f h (w.writes m depth le e) }

  pub weaker_fits : {X : Type 0} {r : Rule X} {P R : X → Type 0} {u : List ℕ} → ((x : X) → P x → R x) → Fits most i k r P u → Fits most i k r R u
  weaker_fits h w = record { writes = λ m depth le e. weaker_writes h (w.writes m depth le e) }

  pub pair_fits : {A B X : Type 0} {a : Rule A} {b : Rule B} {P : A → Type 0} {Q : B → Type 0} {R : X → Type 0} {u v : List ℕ} (f : A → B → X) → Opens v → ((x : A) (y : B) → P x → Q y → R (f x y))
      → Fits most i k a P u → Fits most i k b Q v → Fits most i k (pair f a b) R (u ++ v)
  pair_fits f opens h a b = record { writes = λ m depth le e. pair_writes f opens h (a.writes m depth le e) (b.writes m depth le e) }

  -- of two rules, only the second or the first has a meaning
  pub then_fits : {A X : Type 0} {a : Rule A} {b : Rule X} {P : A → Type 0} {R : X → Type 0} {u v : List ℕ} → Opens v → Fits most i k a P u → Fits most i k b R v → Fits most i k (a ⊳ b) R (u ++ v)
  then_fits opens a b = pair_fits (λ _ x. x) opens (λ x y p q. q) a b

  pub before_fits : {A X : Type 0} {a : Rule X} {b : Rule A} {P : A → Type 0} {R : X → Type 0} {u v : List ℕ} → Opens v → Fits most i k a R u → Fits most i k b P v → Fits most i k (a ⊲ b) R (u ++ v)
  before_fits opens a b = pair_fits (λ x _. x) opens (λ x y p q. p) a b

  pub first_fits : {X : Type 0} {ks : Kind → Bool} {a b : Rule X} {R : X → Type 0} {u : List ℕ} → Fits most i k a R u → Fits most i k (either ks a b) R u
  first_fits w = record { writes = λ m depth le e. first_writes (w.writes m depth le e) }

  pub second_fits : {X : Type 0} {ks : Kind → Bool} {a b : Rule X} {R : X → Type 0} {u : List ℕ} → Fits most i k b R u → Fits most i k (either ks a b) R u
  second_fits w = record { writes = λ m depth le e. second_writes (w.writes m depth le e) }

  pub nothing_fits : {X : Type 0} {x : X} {R : X → Type 0} → R x → Fits most i k (nothing x) R []
  nothing_fits h = record { writes = λ m depth le e. nothing_writes h }

  pub none_fits : {A X : Type 0} {ks : Kind → Bool} {f : A → X → X} {z : X} {a : Rule A} {R : X → Type 0} → R z → Fits most i k (many ks f z a) R []
  none_fits h = record { writes = λ m depth le e. none_writes h }

  pub more_fits : {A X : Type 0} {ks : Kind → Bool} {f : A → X → X} {z : X} {a : Rule A} {P : A → Type 0} {Q R : X → Type 0} {u v : List ℕ} → Opens v → ((x : A) (y : X) → P x → Q y → R (f x y))
      → Fits most i k a P u → Fits most i k (many ks f z a) Q v → Fits most i k (many ks f z a) R (u ++ v)
  more_fits opens h a b = record { writes = λ m depth le e. more_writes opens h (a.writes m depth le e) (b.writes m depth le e) }

  pub gaps_fit : {X : Type 0} {r : Rule X} {R : X → Type 0} {u : List ℕ} (g : List ℕ) → AreGaps g → Fits most i k r R u → Fits most i k r R (g ++ u)
  gaps_fit g gaps w = record { writes = λ m depth le e. gaps_before g gaps (w.writes m depth le e) }

  pub gaps_fit_behind : {X : Type 0} {r : Rule X} {R : X → Type 0} {u : List ℕ} (g : List ℕ) → AreGaps g → Opens g → Fits most i k r R u → Fits most i k r R (u ++ g)
  gaps_fit_behind g gaps opens w = record { writes = λ m depth le e. gaps_behind g gaps opens (w.writes m depth le e) }

  pub token_fits : {j : Kind} {c : ℕ} {cs : List ℕ} → is_lexeme (c ∷ cs) ≡ true → form_of (c ∷ cs) ≡ Ok j → IsWhole (c ∷ cs) → Allowed (c ∷ cs)
      → Fits most i k (token j) (λ t. (t.bytes ≡ c ∷ cs) × (t.value ≡ value_of (c ∷ cs))) (c ∷ cs)
  token_fits word form whole allowed = record { writes = λ m depth le e. token_writes (omega arith) word form whole allowed }

  pub same_fits : {X : Type 0} {r : Rule X} {R : X → Type 0} {u v : List ℕ} → u ≡ v → Fits most i k r R u → Fits most i k r R v
  same_fits {r = r} {R = R} e w = subst (λ (x : List ℕ). Fits most i k r R x) e w

  -- with more room
  pub roomier : {X : Type 0} {r : Rule X} {R : X → Type 0} {u : List ℕ} (n : ℕ) → k ≤ n → Fits most i k r R u → Fits most i n r R u
  roomier n more w = record { writes = λ m depth le e. w.writes m depth (omega arith) e }

-- a construct, and what stands inside it
pub nest_fits : {most k : ℕ} {X : Type 0} {j : Kind} {a : Rule X} {R : X → Type 0} {c : ℕ} {u : List ℕ} → is_lexeme (c ∷ []) ≡ true → form_of (c ∷ []) ≡ Ok j → ((cs : List ℕ) → piece_rest c cs ≡ 0) → is_allowed c ≡ true
    → Fits most true k a R u → Fits most false (suc k) (nest j a) R (c ∷ u)
nest_fits {most} {k} {X} {j} {a} {R} {c} {u} word form whole allowed w = record { writes = nested }
  where
    nested : (m depth : ℕ) → suc k ≤ m → depth + m ≡ most → Writes most (suc m) depth (nest j a) R (c ∷ u)
    nested zero depth le e = absurd (omega arith)
    nested (suc m) depth le e = nest_writes (omega arith) word form whole allowed (w.writes m (depth + 1) (omega arith) (omega arith))

pub within_fits : {most k : ℕ} {X : Type 0} {s : Nonterminal} {P : TreeOf s → Type 0} {R : X → Type 0} {u : List ℕ} (f : TreeOf s → X) → ((x : TreeOf s) → P x → R (f x)) → Fits most false k (rule s) P u → Fits most true k (within s f) R u
within_fits f h w = record { writes = λ m depth le e. within_writes f h (w.writes m depth le e) }
