-- The forms of a rule: how each is spelled, how many constructs are open with each token, and what
-- the form means.
use Rattle.std.specs.Prelude.{◌≡◌, ℕ, ◌+◌, List, [], ◌∷◌, ◌++◌, map, ◌⊎◌}
use Rattle.std.proofs.Common.{inl, inr}
use Rattle.std.specs.List.{flat_map}
use Rattle.par_text.specs.declared.kind.Kind.{Kind}
use Rattle.par_text.specs.Rule.{Token, Nonterminal, TreeOf, Rule, nothing, token, mapped, pair, either, many, nest, within}

-- a token, and how many constructs are open with it
pub record Marked : Type 0 where
  pub token : Token
  pub depth : ℕ

abbrev pub token_of : Marked → Token
token_of m = m.token

abbrev pub tokens_of : List Marked → List Token
tokens_of ms = map token_of ms

-- a token of this kind
abbrev pub OfKind : Kind → Type 0
OfKind k = (t : Token) × (t.kind ≡ k)

module _ (Inner : Nonterminal → Type 0) where
  -- the forms of a rule, where Inner has the forms of the nonterminals
  abbrev pub Form : {X : Type 0} → Rule X → Type 0
  Form (nothing x) = Unit {0}
  Form (token k) = OfKind k
  Form (mapped f a) = Form a
  Form (pair f a b) = Form a × Form b
  Form (either ks a b) = Form a ⊎ Form b
  Form (many ks f z a) = List (Form a)
  Form (nest k a) = OfKind k × Form a
  Form (within s f) = Inner s

-- the values of a repetition, put together from the right
abbrev pub gather : {D A X : Type 0} → (D → A) → (A → X → X) → X → List D → X
gather mean f z [] = z
gather mean f z (d ∷ ds) = f (mean d) (gather mean f z ds)

module _ (Inner : Nonterminal → Type 0) (spell : ℕ → (s : Nonterminal) → Inner s → List Marked) where
  -- the tokens of a form, where n constructs are open around it
  abbrev pub spelling : {X : Type 0} → ℕ → (r : Rule X) → Form Inner r → List Marked
  spelling n (nothing x) d = []
  spelling n (token k) d = record { token = d.0; depth = n } ∷ []
  spelling n (mapped f a) d = spelling n a d
  spelling n (pair f a b) d = spelling n a d.0 ++ spelling n b d.1
  spelling n (either ks a b) (inl d) = spelling n a d
  spelling n (either ks a b) (inr d) = spelling n b d
  spelling n (many ks f z a) ds = flat_map (spelling n a) ds
  spelling n (nest k a) d = record { token = d.0.0; depth = n + 1 } ∷ spelling (n + 1) a d.1
  spelling n (within s f) d = spell n s d

module _ (Inner : Nonterminal → Type 0) (mean : (s : Nonterminal) → Inner s → TreeOf s) where
  -- what a form means
  abbrev pub meaning : {X : Type 0} → (r : Rule X) → Form Inner r → X
  meaning (nothing x) d = x
  meaning (token k) d = d.0
  meaning (mapped f a) d = f (meaning a d)
  meaning (pair f a b) d = f (meaning a d.0) (meaning b d.1)
  meaning (either ks a b) (inl d) = meaning a d
  meaning (either ks a b) (inr d) = meaning b d
  meaning (many ks f z a) ds = gather (meaning a) f z ds
  meaning (nest k a) d = meaning a d.1
  meaning (within s f) d = f (mean s d)
