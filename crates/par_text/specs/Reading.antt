-- Reading a list of tokens by a rule, from the left, with one token to look at.
use Rattle.std.specs.Prelude.{ℕ, zero, suc, Bool, List, [], ◌∷◌, length, Result, Ok, Err, if◌then◌else◌}
use Rattle.par_text.specs.declared.kind.Kind.{Kind}
use Rattle.par_text.specs.declared.kind.Kind.TheVariants.{End}
use Rattle.par_text.specs.declared.stop.Stop.{Stop}
use Rattle.par_text.specs.declared.stop.Stop.TheVariants.{Expected, TooDeep}
use Rattle.par_text.specs.Kinds.{is}
use Rattle.par_text.specs.Rule.{Token, Nonterminal, TreeOf, Rule, nothing, token, mapped, pair, either, many, nest, within}

-- the value and the tokens behind it, or why reading stops, and how many tokens are left there
abbrev pub Answer : Type 0 → Type 0
Answer X = Result (X × List Token) (Stop × ℕ)

abbrev pub Reader : Type 0 → Type 0
Reader X = List Token → Answer X

-- the kind of the next token
abbrev pub next : List Token → Kind
next [] = End
next (t ∷ ts) = t.kind

infixl 10 ◌>>=◌
abbrev pub ◌>>=◌ : {A B : Type 0} → Answer A → (A × List Token → Answer B) → Answer B
(Ok x) >>= f = f x
(Err e) >>= f = Err e

abbrev pub read_token : Kind → Reader Token
read_token k [] = Err (Expected, 0)
read_token k (t ∷ ts) = if is k t.kind then Ok (t, ts) else Err (Expected, length (t ∷ ts))

-- one construct more is open, where there is room
abbrev pub opened : ℕ → List Token → List Token → Answer ℕ
opened zero all ts = Err (TooDeep, length all)
opened (suc n) all ts = Ok (n, ts)

-- a token that opens a construct, where there is room for n; the value is the room inside
abbrev pub read_open : ℕ → Kind → Reader ℕ
read_open n k [] = Err (Expected, 0)
read_open n k (t ∷ ts) = if is k t.kind then opened n (t ∷ ts) ts else Err (Expected, length (t ∷ ts))

abbrev pub read_pair : {A B X : Type 0} → (A → B → X) → Reader A → Reader B → Reader X
read_pair f a b ts = a ts >>= λ x. b x.1 >>= λ y. Ok (f x.0 y.0, y.1)

abbrev pub read_nest : {X : Type 0} → ℕ → Kind → Reader X → Reader X
read_nest n k a ts = read_open n k ts >>= λ m. a m.1

abbrev pub read_as : {A X : Type 0} → (A → X) → Reader A → Reader X
read_as f a ts = a ts >>= λ x. Ok (f x.0, x.1)

-- at most n times, as long as the next kind passes
abbrev pub read_many : {A X : Type 0} → (Kind → Bool) → (A → X → X) → X → Reader A → ℕ → Reader X
read_many ks f z a zero ts = Ok (z, ts)
read_many ks f z a (suc n) ts =
    if ks (next ts) then (a ts >>= λ x. read_many ks f z a n x.1 >>= λ xs. Ok (f x.0 xs.0, xs.1)) else Ok (z, ts)

module _ (n : ℕ) (inner : (s : Nonterminal) → Reader (TreeOf s)) where
  -- by a rule, where n more constructs may open, and inner reads the nonterminals
  abbrev pub read_by : {X : Type 0} → Rule X → Reader X
  read_by (nothing x) ts = Ok (x, ts)
  read_by (token k) ts = read_token k ts
  read_by (mapped f a) ts = read_as f (read_by a) ts
  read_by (pair f a b) ts = read_pair f (read_by a) (read_by b) ts
  read_by (either ks a b) ts = if ks (next ts) then read_by a ts else read_by b ts
  read_by (many ks f z a) ts = read_many ks f z (read_by a) (length ts) ts
  read_by (nest k a) ts = read_nest n k (read_by a) ts
  read_by (within s f) ts = read_as f (inner s) ts
