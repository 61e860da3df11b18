-- How many names the functions of a program declare, by its tree; and that the count of the tokens of
-- a form is that of its meaning.
use Rattle.std.proofs.Common.{◌≡◌, ℕ, ◌+◌, ◌≤◌, Bool, true, false, cond, List, [], ◌∷◌, ◌++◌, Option, Some, None, refl, ap, ◌∙◌, arith}
use Rattle.std.specs.Prelude.{◌&&◌, ◌||◌, not, nat_lt}
use Rattle.std.proofs.lemmas.Bool.{ltb-true, ltb-false}
use Rattle.par_text.specs.declared.kind.Kind.{Kind}
use Rattle.par_text.specs.declared.kind.Kind.TheVariants as k
use Rattle.par_text.specs.Kinds.{is}
use Rattle.par_text.specs.Rule.{Token}
use Rattle.par_text.specs.Counts.{Before, after, is_declared, is_too_many, most_functions, most_names, crowded_from}

-- what stands before the token behind these
abbrev pub afters : Before → List Token → Before
afters b [] = b
afters b (t ∷ ts) = afters (after b t.kind) ts

pub afters-append : (b : Before) (ts us : List Token) → afters b (ts ++ us) ≡ afters (afters b ts) us
afters-append b [] us = refl
afters-append b (t ∷ ts) us = afters-append (after b t.kind) ts us

-- none of these is one too many
abbrev pub Uncrowded : Before → List Token → Type 0
Uncrowded b [] = Unit {0}
Uncrowded b (t ∷ ts) = (is_too_many (after b t.kind) ≡ false) × Uncrowded (after b t.kind) ts

pub uncrowded-append : (b : Before) (ts us : List Token) → Uncrowded b ts → Uncrowded (afters b ts) us → Uncrowded b (ts ++ us)
uncrowded-append b [] us h g = g
uncrowded-append b (t ∷ ts) us h g = (h.0, uncrowded-append (after b t.kind) ts us h.1 g)

pub uncrowded-front : (b : Before) (ts us : List Token) → Uncrowded b (ts ++ us) → Uncrowded b ts
uncrowded-front b [] us h = tt
uncrowded-front b (t ∷ ts) us h = (h.0, uncrowded-front (after b t.kind) ts us h.1)

pub uncrowded-back : (b : Before) (ts us : List Token) → Uncrowded b (ts ++ us) → Uncrowded (afters b ts) us
uncrowded-back b [] us h = h
uncrowded-back b (t ∷ ts) us h = uncrowded-back (after b t.kind) ts us h.1

pub none_crowded : (i : ℕ) (b : Before) (ts : List Token) → Uncrowded b ts → crowded_from i b ts ≡ None
unfolding crowded_from
none_crowded i b [] h = refl
none_crowded i b (t ∷ ts) h = ap (λ (c : Bool). cond c (Some i) (crowded_from (i + 1) (after b t.kind) ts)) h.0 ∙ none_crowded (i + 1) (after b t.kind) ts h.1

pub uncrowded_from : (i : ℕ) (b : Before) (ts : List Token) → crowded_from i b ts ≡ None → Uncrowded b ts
unfolding crowded_from
uncrowded_from i b [] e = tt
uncrowded_from i b (t ∷ ts) e = go (is_too_many (after b t.kind)) refl (uncrowded_from (i + 1) (after b t.kind) ts) e
  where
    never : ◌≡◌ {A = Option ℕ} (Some i) None → ⊥
    never e = cc

    go : (c : Bool) → is_too_many (after b t.kind) ≡ c → (crowded_from (i + 1) (after b t.kind) ts ≡ None → Uncrowded (after b t.kind) ts) → cond c (Some i) (crowded_from (i + 1) (after b t.kind) ts) ≡ None → Uncrowded b (t ∷ ts)
    go true h more e = absurd (never e)
    go false h more e = (h, more e)

-- within the limits
abbrev pub Within : Before → Type 0
Within b = (b.functions ≤ most_functions) × (b.names ≤ most_names)

or_false : (a b : Bool) → (a || b) ≡ false → (a ≡ false) × (b ≡ false)
or_false true b e = cc
or_false false b e = (refl, e)

pub within_from : (b : Before) → is_too_many b ≡ false → Within b
within_from b e =
    let h = or_false (nat_lt most_functions b.functions) (nat_lt most_names b.names) e in
    (ltb-false most_functions b.functions h.0, ltb-false most_names b.names h.1)

pub not_above : (a b : ℕ) → b ≤ a → nat_lt a b ≡ false
not_above a b h = go (nat_lt a b) refl
  where
    go : (c : Bool) → nat_lt a b ≡ c → c ≡ false
    go true e = absurd (omega (arith, ltb-true a b e, h))
    go false e = refl

pub not_many : (b : Before) → Within b → is_too_many b ≡ false
not_many b h = ap (λ (c : Bool). c || nat_lt most_names b.names) (not_above most_functions b.functions h.0) ∙ not_above most_names b.names h.1

-- Behind these tokens a name is no declaration, also behind further plain tokens.
pub record Calm (b : Before) : Type 0 where
  pub header : b.in_header ≡ false
  pub no_let : is k.Let b.last ≡ false
  pub no_alloc : is k.Alloc b.last ≡ false
  pub no_into : is k.Into b.last ≡ false
  pub no_call : is k.Call b.last ≡ false
  pub second_into : is k.Into b.second ≡ false
  pub third_into : is k.Into b.third ≡ false
  pub no_own : (is k.Own b.last && is k.Call b.second) ≡ false

-- a kind of token that begins no declaration and no function
pub record Plain (j : Kind) : Type 0 where
  pub no_fn : is k.Fn j ≡ false
  pub no_let : is k.Let j ≡ false
  pub no_alloc : is k.Alloc j ≡ false
  pub no_into : is k.Into j ≡ false
  pub no_call : is k.Call j ≡ false

and_false : (a b : Bool) → b ≡ false → (a && b) ≡ false
and_false true b e = e
and_false false b e = refl

undeclared : (b : Before) → Calm b → is_declared b ≡ false
undeclared b c =
    ap (λ x. (x && not (is k.Fn b.last)) || (is k.Let b.last || (is k.Alloc b.last || (is k.Into b.last || ((is k.Comma b.last && is k.Into b.third) || (is k.Own b.last && is k.Call b.second)))))) c.header
    ∙ ap (λ x. x || (is k.Alloc b.last || (is k.Into b.last || ((is k.Comma b.last && is k.Into b.third) || (is k.Own b.last && is k.Call b.second))))) c.no_let
    ∙ ap (λ x. x || (is k.Into b.last || ((is k.Comma b.last && is k.Into b.third) || (is k.Own b.last && is k.Call b.second)))) c.no_alloc
    ∙ ap (λ x. x || ((is k.Comma b.last && is k.Into b.third) || (is k.Own b.last && is k.Call b.second))) c.no_into
    ∙ ap (λ x. x || (is k.Own b.last && is k.Call b.second)) (and_false (is k.Comma b.last) (is k.Into b.third) c.third_into)
    ∙ c.no_own

-- n names more are declared, and no function has begun
pub record Adds (n : ℕ) (b c : Before) : Type 0 where
  pub functions : c.functions ≡ b.functions
  pub names : c.names ≡ b.names + n
  pub calm : Calm c

pub no_adds : (b : Before) → Calm b → Adds 0 b b
no_adds b c = record { functions = refl; names = omega arith; calm = c }

pub adds_both : (m n : ℕ) (b c d : Before) → Adds m b c → Adds n c d → Adds (m + n) b d
adds_both m n b c d x y = record { functions = y.functions ∙ x.functions; names = omega (arith, x.names, y.names); calm = y.calm }

pub one_plain : (b : Before) (j : Kind) → Calm b → Plain j → Adds 0 b (after b j)
one_plain b j c p = record {
  functions = ap (λ x. cond x (b.functions + 1) b.functions) p.no_fn;
  names =
      ap (λ x. cond x 0 (cond (is k.Name j && is_declared b) (b.names + 1) b.names)) p.no_fn
      ∙ ap (λ x. cond x (b.names + 1) b.names) (and_false (is k.Name j) (is_declared b) (undeclared b c))
      ∙ (let e : b.names ≡ b.names + 0 = omega arith in e);
  calm = record {
    header = ap (λ x. x || (b.in_header && not (is k.RightParen j))) p.no_fn ∙ ap (λ x. x && not (is k.RightParen j)) c.header;
    no_let = p.no_let;
    no_alloc = p.no_alloc;
    no_into = p.no_into;
    no_call = p.no_call;
    second_into = c.no_into;
    third_into = c.second_into;
    no_own = and_false (is k.Own j) (is k.Call b.last) c.no_call;
  };
}

-- the header's flag where no header is open
still_closed : (b : Before) (x : Bool) → b.in_header ≡ false → (b.in_header && x) ≡ false
still_closed b x e = ap (λ y. y && x) e

-- `let x`, `alloc x`
pub let_adds : (b : Before) → Calm b → Adds 1 b (after (after b k.Let) k.Name)
let_adds b c = record {
  functions = refl;
  names = ap (λ x. cond x (b.names + 1) b.names) (ap (λ x. (x && true) || true) (still_closed b true c.header));
  calm = record {
    header = ap (λ x. x && true) (still_closed b true c.header);
    no_let = refl;
    no_alloc = refl;
    no_into = refl;
    no_call = refl;
    second_into = refl;
    third_into = c.no_into;
    no_own = refl;
  };
}

pub alloc_adds : (b : Before) → Calm b → Adds 1 b (after (after b k.Alloc) k.Name)
alloc_adds b c = record {
  functions = refl;
  names = ap (λ x. cond x (b.names + 1) b.names) (ap (λ x. (x && true) || true) (still_closed b true c.header));
  calm = record {
    header = ap (λ x. x && true) (still_closed b true c.header);
    no_let = refl;
    no_alloc = refl;
    no_into = refl;
    no_call = refl;
    second_into = refl;
    third_into = c.no_into;
    no_own = refl;
  };
}

-- `call f`
pub call_adds : (b : Before) → Calm b → Adds 0 b (after (after b k.Call) k.Name)
call_adds b c = record {
  functions = refl;
  names = ap (λ x. cond x (b.names + 1) b.names) (ap (λ x. (x && true) || false) (still_closed b true c.header)) ∙ (let e : b.names ≡ b.names + 0 = omega arith in e);
  calm = record {
    header = ap (λ x. x && true) (still_closed b true c.header);
    no_let = refl;
    no_alloc = refl;
    no_into = refl;
    no_call = refl;
    second_into = refl;
    third_into = c.no_into;
    no_own = refl;
  };
}

-- `call own x`
pub own_adds : (b : Before) → Calm b → Adds 1 b (after (after (after b k.Call) k.Own) k.Name)
own_adds b c = record {
  functions = refl;
  names = ap (λ x. cond x (b.names + 1) b.names) (ap (λ x. (x && true) || true) (ap (λ x. x && true) (still_closed b true c.header)));
  calm = record {
    header = ap (λ x. x && true) (ap (λ x. x && true) (still_closed b true c.header));
    no_let = refl;
    no_alloc = refl;
    no_into = refl;
    no_call = refl;
    second_into = refl;
    third_into = refl;
    no_own = refl;
  };
}

-- `into l, r`
pub into_adds : (b : Before) → Calm b → Adds 2 b (after (after (after (after b k.Into) k.Name) k.Comma) k.Name)
into_adds b c =
    let closed : (b.in_header && true) ≡ false = still_closed b true c.header in
    let closed' : ((b.in_header && true) && true) ≡ false = ap (λ x. x && true) closed in
    let closed'' : (((b.in_header && true) && true) && true) ≡ false = ap (λ x. x && true) closed' in
    let first : cond (((b.in_header && true) && true) || true) (b.names + 1) b.names ≡ b.names + 1 = ap (λ x. cond x (b.names + 1) b.names) (ap (λ x. (x && true) || true) closed) in
    record {
      functions = refl;
      names =
          ap (λ y. cond (((((b.in_header && true) && true) && true) && true) || true) (y + 1) y) first
          ∙ ap (λ x. cond x ((b.names + 1) + 1) (b.names + 1)) (ap (λ x. (x && true) || true) closed'')
          ∙ (let e : (b.names + 1) + 1 ≡ b.names + 2 = omega arith in e);
      calm = record {
        header = ap (λ x. x && true) closed'';
        no_let = refl;
        no_alloc = refl;
        no_into = refl;
        no_call = refl;
        second_into = refl;
        third_into = refl;
        no_own = refl;
      };
    }
