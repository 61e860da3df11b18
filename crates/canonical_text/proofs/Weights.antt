-- The `(` of what a form means are at most as many as those of its tokens: a law for each form of a rule.
use Rattle.std.proofs.Common.{◌≡◌, ℕ, ◌+◌, ◌≤◌, Bool, true, false, cond, List, [], ◌∷◌, ◌++◌, inl, inr, refl, sym, subst, arith}
use Rattle.std.specs.Fmt.{signed_decimal}
use Rattle.par_text.specs.declared.kind.Kind.{Kind}
use Rattle.par_text.specs.declared.kind.Kind.TheVariants as k
use Rattle.par_text.specs.Kinds.{is}
use Rattle.par_text.specs.Rule.{Token, Rule, nothing, token, mapped, pair, either, many, nest}
use Rattle.par_text.specs.Form.{Marked, Form, tokens_of}
use Rattle.par_text.specs.Text.{Nested}
use Rattle.par_text.specs.Grammar.{name}
use Rattle.canonical_text.proofs.Written.{spells, means_of}
use Rattle.canonical_text.proofs.Openings.{opened}

-- what a token of a kind has of its own
abbrev pub opening : Kind → ℕ
opening j = cond (is k.LeftParen j) 1 0

-- the `(` of a token: that of the symbol, and those of the digits of a number and of the bytes of any other
abbrev pub token_weight : Token → ℕ
token_weight t = cond (is k.LeftParen t.kind) 1 (cond (is k.Number t.kind) (opened (signed_decimal t.value)) (opened t.bytes))

abbrev pub tokens_weight : List Token → ℕ
tokens_weight [] = 0
tokens_weight (t ∷ ts) = token_weight t + tokens_weight ts

abbrev pub weight : List Marked → ℕ
weight [] = 0
weight (m ∷ ms) = token_weight m.token + weight ms

pub weight-append : (ms ns : List Marked) → weight (ms ++ ns) ≡ weight ms + weight ns
weight-append [] ns = omega arith
weight-append (m ∷ ms) ns = let e = weight-append ms ns in omega (arith, e)

pub weight-tokens : (ms : List Marked) → weight ms ≡ tokens_weight (tokens_of ms)
weight-tokens [] = refl
weight-tokens (m ∷ ms) = let e = weight-tokens ms in omega (arith, e)

kind_weighs : (j : Kind) (t : Token) → t.kind ≡ j → opening j ≤ token_weight t
kind_weighs j t e = subst (λ (i : Kind). opening i ≤ token_weight t) e (go (is k.LeftParen t.kind))
  where
    go : (b : Bool) → cond b 1 0 ≤ cond b 1 (cond (is k.Number t.kind) (opened (signed_decimal t.value)) (opened t.bytes))
    go true = omega arith
    go false = omega arith

name_weighs : (t : Token) → t.kind ≡ k.Name → opened t.bytes ≤ token_weight t
name_weighs t e = subst (λ (i : Kind). opened t.bytes ≤ cond (is k.LeftParen i) 1 (cond (is k.Number i) (opened (signed_decimal t.value)) (opened t.bytes))) (sym e) (omega arith)

number_weighs : (t : Token) → t.kind ≡ k.Number → opened (signed_decimal t.value) ≤ token_weight t
number_weighs t e = subst (λ (i : Kind). opened (signed_decimal t.value) ≤ cond (is k.LeftParen i) 1 (cond (is k.Number i) (opened (signed_decimal t.value)) (opened t.bytes))) (sym e) (omega arith)

-- a form of the rule has at least as many `(` as c says of its meaning
pub record Weighs {X : Type 0} (size : ℕ) (r : Rule X) (c : X → ℕ) : Type 0 where
  pub weighs : (depth : ℕ) (d : Form (Nested size) r) → c (means_of size r d) ≤ weight (spells size depth r d)

abbrev pub free : {X : Type 0} → X → ℕ
free x = 0

module _ {size : ℕ} where
  pub weigh_free : {X : Type 0} (r : Rule X) → Weighs size r free
  weigh_free r = record { weighs = λ depth d. omega arith }

  pub weigh_less : {X : Type 0} {r : Rule X} {c e : X → ℕ} → ((x : X) → c x ≤ e x) → Weighs size r e → Weighs size r c
  weigh_less {r = r} h s = record { weighs = λ depth d. let a = h (means_of size r d) in let b = s.weighs depth d in omega (arith, a, b) }

  pub weigh_name_token : Weighs size (token k.Name) (λ t. opened t.bytes)
  weigh_name_token = record { weighs = λ depth d. let h = name_weighs d.0 d.1 in omega (arith, h) }

  pub weigh_name : Weighs size name opened
  unfolding name
  weigh_name = record { weighs = λ depth d. let h = name_weighs d.0 d.1 in omega (arith, h) }

  pub weigh_number : Weighs size (token k.Number) (λ t. opened (signed_decimal t.value))
  weigh_number = record { weighs = λ depth d. let h = number_weighs d.0 d.1 in omega (arith, h) }

  pub weigh_mapped : {A X : Type 0} {a : Rule A} {f : A → X} {ca : A → ℕ} {c : X → ℕ} → ((x : A) → c (f x) ≤ ca x) → Weighs size a ca → Weighs size (mapped f a) c
  weigh_mapped {a = a} h s = record { weighs = λ depth d. let e = h (means_of size a d) in let inside = s.weighs depth d in omega (arith, e, inside) }

  pub weigh_pair : {A B X : Type 0} {a : Rule A} {r : Rule B} {f : A → B → X} {ca : A → ℕ} {cb : B → ℕ} {c : X → ℕ} → ((x : A) (y : B) → c (f x y) ≤ ca x + cb y) → Weighs size a ca → Weighs size r cb → Weighs size (pair f a r) c
  weigh_pair {a = a} {r = r} h s t = record {
    weighs = λ depth d.
        let more = h (means_of size a d.0) (means_of size r d.1) in
        let first = s.weighs depth d.0 in
        let second = t.weighs depth d.1 in
        let both = weight-append (spells size depth a d.0) (spells size depth r d.1) in
        omega (arith, more, first, second, both);
  }

  -- a rule behind a token or before one, which adds nothing
  pub weigh_second : {A X : Type 0} {a : Rule A} {r : Rule X} {c : X → ℕ} → Weighs size r c → Weighs size (pair (λ _ x. x) a r) c
  weigh_second s = weigh_pair {ca = free} (λ x y. omega arith) (weigh_free _) s

  pub weigh_first : {A X : Type 0} {a : Rule X} {r : Rule A} {c : X → ℕ} → Weighs size a c → Weighs size (pair (λ x _. x) a r) c
  weigh_first s = weigh_pair {cb = free} (λ x y. omega arith) s (weigh_free _)

  pub weigh_either : {X : Type 0} {ks : Kind → Bool} {a r : Rule X} {c : X → ℕ} → Weighs size a c → Weighs size r c → Weighs size (either ks a r) c
  weigh_either {X} {ks} {a} {r} {c} s t = record { weighs = go }
    where
      go : (depth : ℕ) (d : Form (Nested size) (either ks a r)) → c (means_of size (either ks a r) d) ≤ weight (spells size depth (either ks a r) d)
      go depth (inl d) = s.weighs depth d
      go depth (inr d) = t.weighs depth d

  pub weigh_nothing : {X : Type 0} {x : X} {c : X → ℕ} → c x ≤ 0 → Weighs size (nothing x) c
  weigh_nothing h = record { weighs = λ depth d. h }

  pub weigh_many : {A X : Type 0} {ks : Kind → Bool} {f : A → X → X} {z : X} {a : Rule A} {ca : A → ℕ} {c : X → ℕ} → c z ≤ 0 → ((x : A) (y : X) → c (f x y) ≤ ca x + c y) → Weighs size a ca → Weighs size (many ks f z a) c
  weigh_many {A} {X} {ks} {f} {z} {a} {ca} {c} none more s = record { weighs = go }
    where
      go : (depth : ℕ) (ds : List (Form (Nested size) a)) → c (means_of size (many ks f z a) ds) ≤ weight (spells size depth (many ks f z a) ds)
      go depth [] = none
      go depth (d ∷ ds) =
          let step = more (means_of size a d) (means_of size (many ks f z a) ds) in
          let first = s.weighs depth d in
          let rest = go depth ds in
          let both = weight-append (spells size depth a d) (spells size depth (many ks f z a) ds) in
          omega (arith, step, first, rest, both)

  -- a construct: what its first token has, and what stands inside
  pub weigh_nest : {X : Type 0} {j : Kind} {a : Rule X} {ca c : X → ℕ} → ((x : X) → c x ≤ opening j + ca x) → Weighs size a ca → Weighs size (nest j a) c
  weigh_nest {j = j} {a = a} h s = record {
    weighs = λ depth d.
        let own = kind_weighs j d.0.0 d.0.1 in
        let inside = s.weighs (depth + 1) d.1 in
        let all = h (means_of size a d.1) in
        omega (arith, own, inside, all);
  }
