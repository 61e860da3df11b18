-- Words are one expression at most: places and lines are of no account, and one token ahead picks each form.
use Rattle.std.proofs.Common.{◌≡◌, ℕ, zero, suc, ◌+◌, ◌<◌, ◌≤◌, Bool, true, cond, List, [], ◌∷◌, ◌++◌, length, map, Ok, Err, inl, inr, refl, sym, ap, ◌∙◌, arith}
use Rattle.std.specs.Prelude.{Some, pos}
use Rattle.std.proofs.lemmas.Bool.{le-leb}
use Rattle.std.proofs.lemmas.List.{map-append}
use Rattle.par_tree.specs.Tree.{Expr, len_of, neg}
use Rattle.par_text.specs.declared.kind.Kind.{Kind}
use Rattle.par_text.specs.declared.kind.Kind.TheVariants as k
use Rattle.par_text.specs.declared.stop.Stop.TheVariants.{TooDeep}
use Rattle.par_text.specs.Rule.{Token, Nonterminal, expression, factor, statements, TreeOf, Rule, nothing, token, mapped, pair, either, many, nest, within}
use Rattle.par_text.specs.Form.{Marked, Form, tokens_of}
use Rattle.par_text.specs.Text.{Shallow, Nested, nested_spelling, nested_meaning}
use Rattle.par_text.specs.Grammar.{rule, ◌⊳◌, ◌⊲◌, name_of, name, named, index_rule, extent_rule, group_rule, sign_rule, number_of, number_rule, factor_rule, chained, linked, term_operator, term_link, term_links, term_rule, sum_operator, sum_link, sum_links, sum_rule, comparison, compared, compared_rule, expr_rule}
use Rattle.par_text.specs.Reading.{Answer}
use Rattle.par_text.specs.Parsing.{read_inner}
use Rattle.par_text.proofs.Marks.{tokens_of-append, judge}
use Rattle.par_text.proofs.Rooms.{inner_complete}
use Rattle.canonical_text.proofs.Written.{spells, means_of}
use Rattle.loop_laws.specs.LoopCalls.{Word, word_of, IsExpression}
use Rattle.loop_laws.proofs.FoundCalls.{is_expression}
use Rattle.loop_laws.proofs.CallForms.{nested_same_at}

-- a word as a token without a place
abbrev token_for : Word → Token
token_for w = record { kind = w.kind; bytes = w.bytes; value = w.value; at = 0; len = 0; line = 0 }

abbrev bare_token : Token → Token
bare_token t = token_for (word_of t)

bare_words : (ts : List Token) → map bare_token ts ≡ map token_for (map word_of ts)
bare_words [] = refl
bare_words (t ∷ ts) = ap (λ us. bare_token t ∷ us) (bare_words ts)

-- a form with such tokens

module _ (size : ℕ) (inner : (s : Nonterminal) → Nested size s → Nested size s) where
  abbrev bare : {X : Type 0} (r : Rule X) → Form (Nested size) r → Form (Nested size) r
  bare (nothing x) d = d
  bare (token j) d = (bare_token d.0, d.1)
  bare (mapped f a) d = bare a d
  bare (pair f a b) d = (bare a d.0, bare b d.1)
  bare (either ks a b) (inl d) = inl (bare a d)
  bare (either ks a b) (inr d) = inr (bare b d)
  bare (many ks f z a) ds = map (bare a) ds
  bare (nest j a) d = ((bare_token d.0.0, d.0.1), bare a d.1)
  bare (within s f) d = inner s d

abbrev nested_bare : (size : ℕ) (s : Nonterminal) → Nested size s → Nested size s
nested_bare zero s d = d
nested_bare (suc size) s d = bare size (nested_bare size) (rule s) d

-- its tokens

abbrev SpellsBare : (size : ℕ) → ((s : Nonterminal) → Nested size s → Nested size s) → Type 0
SpellsBare size inner = (s : Nonterminal) (n : ℕ) (d : Nested size s) → tokens_of (nested_spelling size n s (inner s d)) ≡ map bare_token (tokens_of (nested_spelling size n s d))

module _ (size : ℕ) (inner : (s : Nonterminal) → Nested size s → Nested size s) (known : SpellsBare size inner) where
  two_bare : (a b c d : List Marked) → tokens_of a ≡ map bare_token (tokens_of c) → tokens_of b ≡ map bare_token (tokens_of d) → tokens_of (a ++ b) ≡ map bare_token (tokens_of (c ++ d))
  two_bare a b c d e h =
      tokens_of-append a b ∙ ap (λ ts. ts ++ tokens_of b) e ∙ ap (λ ts. map bare_token (tokens_of c) ++ ts) h
      ∙ sym (ap (map bare_token) (tokens_of-append c d) ∙ map-append bare_token (tokens_of c) (tokens_of d))

  spells_bare : {X : Type 0} (r : Rule X) (n : ℕ) (d : Form (Nested size) r) → tokens_of (spells size n r (bare size inner r d)) ≡ map bare_token (tokens_of (spells size n r d))
  spells_bare (nothing x) n d = refl
  spells_bare (token j) n d = refl
  spells_bare (mapped f a) n d = spells_bare a n d
  spells_bare (pair f a b) n d = two_bare (spells size n a (bare size inner a d.0)) (spells size n b (bare size inner b d.1)) (spells size n a d.0) (spells size n b d.1) (spells_bare a n d.0) (spells_bare b n d.1)
  spells_bare (either ks a b) n (inl d) = spells_bare a n d
  spells_bare (either ks a b) n (inr d) = spells_bare b n d
  spells_bare (many ks f z a) n [] = refl
  spells_bare (many ks f z a) n (d ∷ ds) =
      two_bare (spells size n a (bare size inner a d)) (spells size n (many ks f z a) (bare size inner (many ks f z a) ds)) (spells size n a d) (spells size n (many ks f z a) ds) (spells_bare a n d) (spells_bare (many ks f z a) n ds)
  spells_bare (nest j a) n d = ap (λ ts. bare_token d.0.0 ∷ ts) (spells_bare a (n + 1) d.1)
  spells_bare (within s f) n d = known s n d

nested_spells_bare : (size : ℕ) → SpellsBare size (nested_bare size)
nested_spells_bare zero s n d = absurd d
nested_spells_bare (suc size) s n d = spells_bare size (nested_bare size) (nested_spells_bare size) (rule s) n d

-- its meaning

record Keeps {X : Type 0} (size : ℕ) (r : Rule X) (R : X → X → Type 0) : Type 0 where
  keeps : (d : Form (Nested size) r) → R (means_of size r (bare size (nested_bare size) r d)) (means_of size r d)

abbrev Same : {X : Type 0} → X → X → Type 0
Same x y = x ≡ y

abbrev SameToken : Token → Token → Type 0
SameToken x y = x ≡ bare_token y

module _ {size : ℕ} where
  keeps_token : {j : Kind} → Keeps size (token j) SameToken
  keeps_token = record { keeps = λ d. refl }

  keeps_mapped : {A X : Type 0} {a : Rule A} {f : A → X} {P : A → A → Type 0} {R : X → X → Type 0} → ((x y : A) → P x y → R (f x) (f y)) → Keeps size a P → Keeps size (mapped f a) R
  keeps_mapped h a = record { keeps = λ d. h _ _ (a.keeps d) }

  keeps_pair : {A B X : Type 0} {a : Rule A} {b : Rule B} {f : A → B → X} {P : A → A → Type 0} {Q : B → B → Type 0} {R : X → X → Type 0} → ((x y : A) (u v : B) → P x y → Q u v → R (f x u) (f y v)) → Keeps size a P → Keeps size b Q → Keeps size (pair f a b) R
  keeps_pair h a b = record { keeps = λ d. h _ _ _ _ (a.keeps d.0) (b.keeps d.1) }

  keeps_both : {A B X : Type 0} {a : Rule A} {b : Rule B} (f : A → B → X) → Keeps size a Same → Keeps size b Same → Keeps size (pair f a b) Same
  keeps_both f a b = keeps_pair {P = Same} {Q = Same} (λ x y u v p q. ap (λ z. f z u) p ∙ ap (λ z. f y z) q) a b

  keeps_nothing : {X : Type 0} {x : X} → Keeps size (nothing x) Same
  keeps_nothing = record { keeps = λ d. refl }

  keeps_either : {X : Type 0} {ks : Kind → Bool} {a b : Rule X} {R : X → X → Type 0} → Keeps size a R → Keeps size b R → Keeps size (either ks a b) R
  keeps_either {X} {ks} {a} {b} {R} p q = record { keeps = keeps }
    where
      keeps : (d : Form (Nested size) (either ks a b)) → R (means_of size (either ks a b) (bare size (nested_bare size) (either ks a b) d)) (means_of size (either ks a b) d)
      keeps (inl d) = p.keeps d
      keeps (inr d) = q.keeps d

  keeps_many : {A X : Type 0} {ks : Kind → Bool} {z : X} {a : Rule A} (f : A → X → X) → Keeps size a Same → Keeps size (many ks f z a) Same
  keeps_many {A} {X} {ks} {z} {a} f p = record { keeps = keeps }
    where
      keeps : (ds : List (Form (Nested size) a)) → means_of size (many ks f z a) (bare size (nested_bare size) (many ks f z a) ds) ≡ means_of size (many ks f z a) ds
      keeps [] = refl
      keeps (d ∷ ds) = ap (λ x. f x (means_of size (many ks f z a) (bare size (nested_bare size) (many ks f z a) ds))) (p.keeps d) ∙ ap (λ y. f (means_of size a d) y) (keeps ds)

  keeps_nest : {X : Type 0} {j : Kind} {a : Rule X} {R : X → X → Type 0} → Keeps size a R → Keeps size (nest j a) R
  keeps_nest p = record { keeps = λ d. p.keeps d.1 }

  keeps_within : {X : Type 0} {s : Nonterminal} (f : TreeOf s → X) → ((d : Nested size s) → nested_meaning size s (nested_bare size s d) ≡ nested_meaning size s d) → Keeps size (within s f) Same
  keeps_within f h = record { keeps = λ d. ap f (h d) }

  -- a token that tells nothing but its kind
  keeps_sign : {X : Type 0} {j : Kind} (x : X) → Keeps size (mapped (λ _. x) (token j)) Same
  keeps_sign x = keeps_mapped {P = SameToken} (λ a b h. refl) keeps_token

  keeps_then : {A X : Type 0} {a : Rule A} {b : Rule X} {P : A → A → Type 0} → Keeps size a P → Keeps size b Same → Keeps size (a ⊳ b) Same
  keeps_then p q = keeps_pair {Q = Same} (λ x y u v e h. h) p q

  keeps_before : {A X : Type 0} {a : Rule X} {b : Rule A} {P : A → A → Type 0} → Keeps size a Same → Keeps size b P → Keeps size (a ⊲ b) Same
  keeps_before p q = keeps_pair {P = Same} (λ x y u v e h. e) p q

  keeps_name : Keeps size name Same
  unfolding name
  keeps_name = keeps_mapped {P = SameToken} (λ x y h. ap name_of h) keeps_token

abbrev KeepsInside : ℕ → Type 0
KeepsInside size = (s : Nonterminal) → is_expression s ≡ true → (d : Nested size s) → nested_meaning size s (nested_bare size s d) ≡ nested_meaning size s d

module _ {size : ℕ} (known : KeepsInside size) where
  keeps_factor : Keeps size factor_rule Same
  unfolding index_rule extent_rule group_rule sign_rule number_rule factor_rule
  keeps_factor =
      keeps_either (keeps_both named keeps_name (keeps_either (keeps_nest (keeps_before (keeps_within (λ e. Some e) (known expression refl)) keeps_token)) keeps_nothing))
      (keeps_either (keeps_then keeps_token (keeps_nest (keeps_before (keeps_mapped {P = Same} (λ x y h. ap len_of h) keeps_name) keeps_token)))
      (keeps_either (keeps_nest (keeps_before (keeps_within (λ e. e) (known expression refl)) keeps_token))
      (keeps_either (keeps_nest (keeps_within neg (known factor refl)))
      (keeps_mapped {P = SameToken} (λ x y h. ap number_of h) keeps_token))))

  keeps_term : Keeps size term_rule Same
  unfolding term_operator term_link term_links term_rule
  keeps_term = keeps_both chained keeps_factor (keeps_many linked (keeps_both (λ x y. (x, y)) (keeps_either (keeps_sign _) (keeps_either (keeps_sign _) (keeps_sign _))) keeps_factor))

  keeps_sum : Keeps size sum_rule Same
  unfolding sum_operator sum_link sum_links sum_rule
  keeps_sum = keeps_both chained keeps_term (keeps_many linked (keeps_both (λ x y. (x, y)) (keeps_either (keeps_sign _) (keeps_sign _)) keeps_term))

  keeps_expr : Keeps size expr_rule Same
  unfolding comparison compared_rule expr_rule
  keeps_expr =
      keeps_both compared keeps_sum (keeps_either (keeps_both (λ c e. Some (c, e))
      (keeps_either (keeps_sign _) (keeps_either (keeps_sign _) (keeps_either (keeps_sign _) (keeps_either (keeps_sign _) (keeps_either (keeps_sign _) (keeps_sign _)))))) keeps_sum) keeps_nothing)

nested_keeps : (size : ℕ) → KeepsInside size
nested_keeps zero s h d = absurd d
nested_keeps (suc size) expression h d = (keeps_expr (nested_keeps size)).keeps d
nested_keeps (suc size) factor h d = (keeps_factor (nested_keeps size)).keeps d
nested_keeps (suc size) statements h d = cc

-- no token is deeper than all depths together

abbrev depths : List Marked → ℕ
depths [] = 0
depths (m ∷ ms) = m.depth + depths ms

shallow_more : (a b : ℕ) (ms : List Marked) → a ≤ b → Shallow a ms → Shallow b ms
shallow_more a b [] le h = tt
shallow_more a b (m ∷ ms) le h = (omega (arith, le, h.0), shallow_more a b ms le h.1)

shallow_by_depths : (ms : List Marked) → Shallow (depths ms) ms
shallow_by_depths [] = tt
shallow_by_depths (m ∷ ms) = (omega arith, shallow_more (depths ms) (m.depth + depths ms) ms (omega arith) (shallow_by_depths ms))

judge_shallow : {X : Type 0} (most : ℕ) (x : X) (ms : List Marked) (rest : List Token) → Shallow most ms → judge most x ms rest ≡ Ok (x, rest)
judge_shallow most x [] rest h = refl
judge_shallow most x (m ∷ ms) rest h = ap (λ b. cond b (judge most x ms rest) (Err (TooDeep, length (m.token ∷ (tokens_of ms ++ rest))))) (le-leb m.depth most h.0) ∙ judge_shallow most x ms rest h.1

-- reading

abbrev closing : List Token
closing = token_for (record { kind = k.RightParen; bytes = []; value = pos 0 }) ∷ []

reads : (most size : ℕ) (d : Nested size expression) → 0 < most → Shallow most (nested_spelling size 1 expression d) → read_inner most expression (tokens_of (nested_spelling size 1 expression d) ++ closing) ≡ Ok (nested_meaning size expression d, closing)
reads most size d some shallow =
    inner_complete size most 0 most (let room : 0 + most ≡ most = omega arith in room) some expression d closing refl ∙ judge_shallow most (nested_meaning size expression d) (nested_spelling size 1 expression d) closing shallow

abbrev value_or : Expr → Answer Expr → Expr
value_or e (Ok x) = x.0
value_or e (Err f) = e

-- the bare form of an expression: its tokens are those of its words
bare_tokens : (size : ℕ) (d : Nested (suc size) expression) (ws : List Word) → map word_of (tokens_of (nested_spelling (suc size) 0 expression d)) ≡ ws
    → tokens_of (nested_spelling (suc size) 1 expression (nested_bare (suc size) expression d)) ≡ map token_for ws
bare_tokens size d ws e =
    nested_spells_bare (suc size) expression 1 d
    ∙ ap (map bare_token) (nested_same_at (suc size) expression 1 0 d)
    ∙ bare_words (tokens_of (nested_spelling (suc size) 0 expression d))
    ∙ ap (map token_for) e

pub one_expression : (ws : List Word) (e f : Expr) → IsExpression ws e → IsExpression ws f → e ≡ f
one_expression ws e f a b =
    let d : Nested (suc a.size) expression = nested_bare (suc a.size) expression a.form in
    let g : Nested (suc b.size) expression = nested_bare (suc b.size) expression b.form in
    let ms : List Marked = nested_spelling (suc a.size) 1 expression d in
    let ns : List Marked = nested_spelling (suc b.size) 1 expression g in
    let most : ℕ = suc (depths ms + depths ns) in
    let first = reads most (suc a.size) d (omega arith) (shallow_more (depths ms) most ms (omega arith) (shallow_by_depths ms)) in
    let second = reads most (suc b.size) g (omega arith) (shallow_more (depths ns) most ns (omega arith) (shallow_by_depths ns)) in
    let tokens : tokens_of ms ≡ tokens_of ns = bare_tokens a.size a.form ws a.spelled ∙ sym (bare_tokens b.size b.form ws b.spelled) in
    sym a.means ∙ sym (nested_keeps (suc a.size) expression refl a.form)
    ∙ ap (value_or e) (sym first ∙ ap (λ ts. read_inner most expression (ts ++ closing)) tokens ∙ second)
    ∙ nested_keeps (suc b.size) expression refl b.form ∙ b.means
