-- Rules whose forms have no token of a kind.
use Rattle.std.proofs.Common.{◌≡◌, ℕ, zero, suc, ◌+◌, Bool, true, false, List, [], ◌∷◌, ◌++◌, ◌⊎◌, inl, inr, refl, sym, ap, ◌∙◌, subst}
use Rattle.std.specs.Prelude.{◌&&◌, not}
use Rattle.std.proofs.lemmas.Bool.{not-true}
use Rattle.par_text.specs.declared.kind.Kind.{Kind}
use Rattle.par_text.specs.Kinds.{is}
use Rattle.par_text.specs.Rule.{Token, Nonterminal, Rule, nothing, token, mapped, pair, either, many, nest, within}
use Rattle.par_text.specs.Form.{Marked, Form, tokens_of}
use Rattle.par_text.specs.Text.{Nested, nested_spelling}
use Rattle.par_text.specs.Grammar.{rule}
use Rattle.par_text.proofs.Marks.{tokens_of-append}
use Rattle.par_text.proofs.KindLemmas.{both_true}
use Rattle.canonical_text.proofs.Written.{spells}

pub false_true : (b : Bool) → b ≡ false → b ≡ true → ⊥
false_true true e h = cc
false_true false e h = cc

-- no token is of this kind
abbrev pub Without : Kind → List Token → Type 0
Without j [] = Unit {0}
Without j (t ∷ ts) = (is j t.kind ≡ false) × Without j ts

pub join_without : (j : Kind) (ts us : List Token) → Without j ts → Without j us → Without j (ts ++ us)
join_without j [] us a b = b
join_without j (t ∷ ts) us a b = (a.0, join_without j ts us a.1 b)

pub without_middle : (j : Kind) (ts : List Token) (t : Token) (us : List Token) → Without j (ts ++ t ∷ us) → is j t.kind ≡ false
without_middle j [] t us h = h.0
without_middle j (u ∷ ts) t us h = without_middle j ts t us h.1

-- a rule that has no token of this kind outside the nonterminals that pass
abbrev pub is_without : {X : Type 0} → Kind → (Nonterminal → Bool) → Rule X → Bool
is_without j ok (nothing x) = true
is_without j ok (token i) = not (is j i)
is_without j ok (mapped f a) = is_without j ok a
is_without j ok (pair f a b) = is_without j ok a && is_without j ok b
is_without j ok (either ks a b) = is_without j ok a && is_without j ok b
is_without j ok (many ks f z a) = is_without j ok a
is_without j ok (nest i a) = not (is j i) && is_without j ok a
is_without j ok (within s f) = ok s

-- of nonterminals that pass no form has one
abbrev pub AreWithout : Kind → (Nonterminal → Bool) → ℕ → Type 0
AreWithout j ok size = (s : Nonterminal) → ok s ≡ true → (depth : ℕ) (d : Nested size s) → Without j (tokens_of (nested_spelling size depth s d))

module _ (j : Kind) (ok : Nonterminal → Bool) (size : ℕ) (inner : AreWithout j ok size) where
  join_marked : (ms ns : List Marked) → Without j (tokens_of ms) → Without j (tokens_of ns) → Without j (tokens_of (ms ++ ns))
  join_marked ms ns a b = subst (Without j) (sym (tokens_of-append ms ns)) (join_without j (tokens_of ms) (tokens_of ns) a b)

  of_kind : (i : Kind) (t : Token) → t.kind ≡ i → not (is j i) ≡ true → is j t.kind ≡ false
  of_kind i t e h = subst (λ (x : Kind). is j x ≡ false) (sym e) (not-true (is j i) h)

  pub spells_without : {X : Type 0} (r : Rule X) → is_without j ok r ≡ true → (depth : ℕ) (d : Form (Nested size) r) → Without j (tokens_of (spells size depth r d))
  spells_without (nothing x) e depth d = tt
  spells_without (token i) e depth d = (of_kind i d.0 d.1 e, tt)
  spells_without (mapped f a) e depth d = spells_without a e depth d
  spells_without (pair f a b) e depth d = let (p, q) = both_true _ _ e in join_marked (spells size depth a d.0) (spells size depth b d.1) (spells_without a p depth d.0) (spells_without b q depth d.1)
  spells_without (either ks a b) e depth (inl d) = let (p, q) = both_true _ _ e in spells_without a p depth d
  spells_without (either ks a b) e depth (inr d) = let (p, q) = both_true _ _ e in spells_without b q depth d
  spells_without (many ks f z a) e depth [] = tt
  spells_without (many ks f z a) e depth (d ∷ ds) = join_marked (spells size depth a d) (spells size depth (many ks f z a) ds) (spells_without a e depth d) (spells_without (many ks f z a) e depth ds)
  spells_without (nest i a) e depth d = let (p, q) = both_true _ _ e in (of_kind i d.0.0 d.0.1 p, spells_without a q (depth + 1) d.1)
  spells_without (within s f) e depth d = inner s e depth d

pub nested_without : (j : Kind) (ok : Nonterminal → Bool) → ((s : Nonterminal) → ok s ≡ true → is_without j ok (rule s) ≡ true) → (size : ℕ) → AreWithout j ok size
nested_without j ok rules zero s h depth d = absurd d
nested_without j ok rules (suc size) s h depth d = spells_without j ok size (nested_without j ok rules size) (rule s) (rules s h) depth d

-- a token in the middle of two lists stands in one of them

pub record InFirst (ts us front behind : List Token) (t : Token) : Type 0 where
  pub rest : List Token
  pub here : ts ≡ front ++ t ∷ rest
  pub more : behind ≡ rest ++ us

pub record InSecond (ts us front behind : List Token) (t : Token) : Type 0 where
  pub rest : List Token
  pub here : us ≡ rest ++ t ∷ behind

pub head_same : (t u : Token) (ts us : List Token) → t ∷ ts ≡ u ∷ us → t ≡ u
head_same t u ts us e = ap (head_or t) e
  where
    head_or : Token → List Token → Token
    head_or d [] = d
    head_or d (x ∷ xs) = x

pub tail_same : (t u : Token) (ts us : List Token) → t ∷ ts ≡ u ∷ us → ts ≡ us
tail_same t u ts us e = ap tail_of e
  where
    tail_of : List Token → List Token
    tail_of [] = []
    tail_of (x ∷ xs) = xs

pub in_one : (ts us front behind : List Token) (t : Token) → ts ++ us ≡ front ++ t ∷ behind → InFirst ts us front behind t ⊎ InSecond ts us front behind t
in_one [] us front behind t e = inr (record { rest = front; here = e })
in_one (x ∷ ts) us [] behind t e = inl (record { rest = ts; here = ap (λ y. y ∷ ts) (head_same x t (ts ++ us) behind e); more = sym (tail_same x t (ts ++ us) behind e) })
in_one (x ∷ ts) us (y ∷ front) behind t e = further (in_one ts us front behind t (tail_same x y (ts ++ us) (front ++ t ∷ behind) e))
  where
    further : InFirst ts us front behind t ⊎ InSecond ts us front behind t → InFirst (x ∷ ts) us (y ∷ front) behind t ⊎ InSecond (x ∷ ts) us (y ∷ front) behind t
    further (inl h) = inl (record { rest = h.rest; here = ap (λ z. z ∷ ts) (head_same x y (ts ++ us) (front ++ t ∷ behind) e) ∙ ap (λ zs. y ∷ zs) h.here; more = h.more })
    further (inr h) = inr (record { rest = h.rest; here = h.here })
