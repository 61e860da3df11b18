-- Bytes that the grammar reads by a rule, with a meaning of which something is known: one law for each
-- form of a rule.
use Rattle.std.proofs.Common.{◌≡◌, ℕ, suc, ◌+◌, ◌≤◌, Bool, true, List, [], ◌∷◌, ◌++◌, Ok, inl, inr, refl, sym, subst}
use Rattle.std.proofs.lemmas.List.{append-nil}
use Rattle.par_text.specs.declared.kind.Kind.{Kind}
use Rattle.par_text.specs.Rule.{Token, Nonterminal, TreeOf, Rule, nothing, token, mapped, pair, either, many, nest, within}
use Rattle.par_text.specs.Form.{Marked, Form, tokens_of, spelling, meaning}
use Rattle.par_text.specs.Text.{Shallow, Nested, nested_spelling, nested_meaning}
use Rattle.par_text.specs.Grammar.{rule}
use Rattle.par_text.specs.Lexing.{is_allowed, piece_rest, is_lexeme, form_of, value_of, token_from}
use Rattle.par_text.proofs.Marks.{tokens_of-append, Shallow-append}
use Rattle.canonical_text.proofs.Lexemes.{Clear, Lexes, no_bytes, both_lex, one_token, AreGaps, no_token, Allowed, allowed-append, gaps-allowed, IsWhole}

abbrev pub spells : {X : Type 0} (size depth : ℕ) (r : Rule X) → Form (Nested size) r → List Marked
spells size depth r d = spelling (Nested size) (nested_spelling size) depth r d

abbrev pub means_of : {X : Type 0} (size : ℕ) (r : Rule X) → Form (Nested size) r → X
means_of size r d = meaning (Nested size) (nested_meaning size) r d

-- the form that is read at a place
pub record Written {X : Type 0} (most size depth : ℕ) (r : Rule X) (R : X → Type 0) (bs : List ℕ) (at line : ℕ) (rest : List ℕ) : Type 0 where
  pub form : Form (Nested size) r
  pub lexes : Lexes at line bs rest (tokens_of (spells size depth r form))
  pub means : R (means_of size r form)
  pub shallow : Shallow most (spells size depth r form)

-- bytes that are read at each place
pub record Writes {X : Type 0} (most size depth : ℕ) (r : Rule X) (R : X → Type 0) (bs : List ℕ) : Type 0 where
  pub allowed : Allowed bs
  pub written : (at line : ℕ) (rest : List ℕ) → Clear rest → Written most size depth r R bs at line rest

-- the bytes begin with one that ends a word, or what is behind them does
abbrev pub Opens : List ℕ → Type 0
Opens v = (rest : List ℕ) → Clear rest → Clear (v ++ rest)

joined : (most at line : ℕ) (u v rest : List ℕ) (ms ns : List Marked) (a : Lexes at line u (v ++ rest) (tokens_of ms)) → Lexes a.at_end a.last_line v rest (tokens_of ns) → Lexes at line (u ++ v) rest (tokens_of (ms ++ ns))
joined most at line u v rest ms ns a b =
    subst (λ (ts : List Token). Lexes at line (u ++ v) rest ts) (sym (tokens_of-append ms ns)) (both_lex at line u v rest (tokens_of ms) (tokens_of ns) a b)

module _ {most size depth : ℕ} where
  pub token_writes : {k : Kind} {c : ℕ} {cs : List ℕ} → depth ≤ most → is_lexeme (c ∷ cs) ≡ true → form_of (c ∷ cs) ≡ Ok k → IsWhole (c ∷ cs) → Allowed (c ∷ cs)
      → Writes most size depth (token k) (λ t. (t.bytes ≡ c ∷ cs) × (t.value ≡ value_of (c ∷ cs))) (c ∷ cs)
  token_writes {k} {c} {cs} le word form whole allowed = record {
    allowed = allowed;
    written = λ at line rest clear. record {
      form = (token_from (record { bytes = c ∷ cs; at = at; line = line }) k, refl);
      lexes = one_token k c cs word form at line rest (whole rest clear);
      means = (refl, refl);
      shallow = (le, tt);
    };
  }

  pub mapped_writes : {A X : Type 0} {a : Rule A} {P : A → Type 0} {R : X → Type 0} {u : List ℕ} (f : A → X) → ((x : A) → P x → R (f x)) → Writes most size depth a P u → Writes most size depth (mapped f a) R u
  mapped_writes f h w = record {
    allowed = w.allowed;
    written = λ at line rest clear.
        let p = w.written at line rest clear in
        record { form = p.form; lexes = p.lexes; means = h _ p.means; shallow = p.shallow };
  }

  pub weaker_writes : {X : Type 0} {r : Rule X} {P R : X → Type 0} {u : List ℕ} → ((x : X) → P x → R x) → Writes most size depth r P u → Writes most size depth r R u
  weaker_writes h w = record {
    allowed = w.allowed;
    written = λ at line rest clear.
        let p = w.written at line rest clear in
        record { form = p.form; lexes = p.lexes; means = h _ p.means; shallow = p.shallow };
  }

  pub pair_writes : {A B X : Type 0} {a : Rule A} {b : Rule B} {P : A → Type 0} {Q : B → Type 0} {R : X → Type 0} {u v : List ℕ} (f : A → B → X) → Opens v → ((x : A) (y : B) → P x → Q y → R (f x y))
      → Writes most size depth a P u → Writes most size depth b Q v → Writes most size depth (pair f a b) R (u ++ v)
  pair_writes {a = a} {b = b} {u = u} {v = v} f opens h wa wb = record {
    allowed = allowed-append u v wa.allowed wb.allowed;
    written = λ at line rest clear.
        let p = wa.written at line (v ++ rest) (opens rest clear) in
        let q = wb.written p.lexes.at_end p.lexes.last_line rest clear in
        record {
          form = (p.form, q.form);
          lexes = joined most at line u v rest (spells size depth a p.form) (spells size depth b q.form) p.lexes q.lexes;
          means = h _ _ p.means q.means;
          shallow = Shallow-append most (spells size depth a p.form) (spells size depth b q.form) p.shallow q.shallow;
        };
  }

  pub first_writes : {X : Type 0} {ks : Kind → Bool} {a b : Rule X} {R : X → Type 0} {u : List ℕ} → Writes most size depth a R u → Writes most size depth (either ks a b) R u
  first_writes w = record {
    allowed = w.allowed;
    written = λ at line rest clear.
        let p = w.written at line rest clear in
        record { form = inl p.form; lexes = p.lexes; means = p.means; shallow = p.shallow };
  }

  pub second_writes : {X : Type 0} {ks : Kind → Bool} {a b : Rule X} {R : X → Type 0} {u : List ℕ} → Writes most size depth b R u → Writes most size depth (either ks a b) R u
  second_writes w = record {
    allowed = w.allowed;
    written = λ at line rest clear.
        let p = w.written at line rest clear in
        record { form = inr p.form; lexes = p.lexes; means = p.means; shallow = p.shallow };
  }

  pub nothing_writes : {X : Type 0} {x : X} {R : X → Type 0} → R x → Writes most size depth (nothing x) R []
  nothing_writes h = record {
    allowed = tt;
    written = λ at line rest clear. record { form = tt; lexes = no_bytes at line rest; means = h; shallow = tt };
  }

  pub none_writes : {A X : Type 0} {ks : Kind → Bool} {f : A → X → X} {z : X} {a : Rule A} {R : X → Type 0} → R z → Writes most size depth (many ks f z a) R []
  none_writes h = record {
    allowed = tt;
    written = λ at line rest clear. record { form = []; lexes = no_bytes at line rest; means = h; shallow = tt };
  }

  pub more_writes : {A X : Type 0} {ks : Kind → Bool} {f : A → X → X} {z : X} {a : Rule A} {P : A → Type 0} {Q R : X → Type 0} {u v : List ℕ} → Opens v → ((x : A) (y : X) → P x → Q y → R (f x y))
      → Writes most size depth a P u → Writes most size depth (many ks f z a) Q v → Writes most size depth (many ks f z a) R (u ++ v)
  more_writes {ks = ks} {f = f} {z = z} {a = a} {u = u} {v = v} opens h wa wb = record {
    allowed = allowed-append u v wa.allowed wb.allowed;
    written = λ at line rest clear.
        let p = wa.written at line (v ++ rest) (opens rest clear) in
        let q = wb.written p.lexes.at_end p.lexes.last_line rest clear in
        record {
          form = p.form ∷ q.form;
          lexes = joined most at line u v rest (spells size depth a p.form) (spells size depth (many ks f z a) q.form) p.lexes q.lexes;
          means = h _ _ p.means q.means;
          shallow = Shallow-append most (spells size depth a p.form) (spells size depth (many ks f z a) q.form) p.shallow q.shallow;
        };
  }

  pub nest_writes : {X : Type 0} {k : Kind} {a : Rule X} {R : X → Type 0} {c : ℕ} {u : List ℕ} → depth + 1 ≤ most → is_lexeme (c ∷ []) ≡ true → form_of (c ∷ []) ≡ Ok k → ((cs : List ℕ) → piece_rest c cs ≡ 0) → is_allowed c ≡ true
      → Writes most size (depth + 1) a R u → Writes most size depth (nest k a) R (c ∷ u)
  nest_writes {k = k} {a = a} {c = c} {u = u} le word form whole allowed w = record {
    allowed = (allowed, w.allowed);
    written = λ at line rest clear.
        let t = token_from (record { bytes = c ∷ []; at = at; line = line }) k in
        let o = one_token k c [] word form at line (u ++ rest) (whole (u ++ rest)) in
        let p = w.written o.at_end o.last_line rest clear in
        record {
          form = ((t, refl), p.form);
          lexes = joined most at line (c ∷ []) u rest (record { token = t; depth = depth + 1 } ∷ []) (spells size (depth + 1) a p.form) o p.lexes;
          means = p.means;
          shallow = (le, p.shallow);
        };
  }

  pub within_writes : {X : Type 0} {s : Nonterminal} {P : TreeOf s → Type 0} {R : X → Type 0} {u : List ℕ} (f : TreeOf s → X) → ((x : TreeOf s) → P x → R (f x)) → Writes most size depth (rule s) P u → Writes most (suc size) depth (within s f) R u
  within_writes f h w = record {
    allowed = w.allowed;
    written = λ at line rest clear.
        let p = w.written at line rest clear in
        record { form = p.form; lexes = p.lexes; means = h _ p.means; shallow = p.shallow };
  }

  -- blanks before and behind
  pub gaps_before : {X : Type 0} {r : Rule X} {R : X → Type 0} {u : List ℕ} (g : List ℕ) → AreGaps g → Writes most size depth r R u → Writes most size depth r R (g ++ u)
  gaps_before {u = u} g gaps w = record {
    allowed = allowed-append g u (gaps-allowed g gaps) w.allowed;
    written = λ at line rest clear.
        let o = no_token g gaps at line (u ++ rest) in
        let p = w.written o.at_end o.last_line rest clear in
        record { form = p.form; lexes = both_lex at line g u rest [] _ o p.lexes; means = p.means; shallow = p.shallow };
  }

  pub gaps_behind : {X : Type 0} {r : Rule X} {R : X → Type 0} {u : List ℕ} (g : List ℕ) → AreGaps g → Opens g → Writes most size depth r R u → Writes most size depth r R (u ++ g)
  gaps_behind {r = r} {u = u} g gaps opens w = record {
    allowed = allowed-append u g w.allowed (gaps-allowed g gaps);
    written = λ at line rest clear.
        let p = w.written at line (g ++ rest) (opens rest clear) in
        let o = no_token g gaps p.lexes.at_end p.lexes.last_line rest in
        record {
          form = p.form;
          lexes = subst (λ (ts : List Token). Lexes at line (u ++ g) rest ts) (append-nil (tokens_of (spells size depth r p.form))) (both_lex at line u g rest (tokens_of (spells size depth r p.form)) [] p.lexes o);
          means = p.means;
          shallow = p.shallow;
        };
  }
