-- Words in which each bracket is closed and no comma stands outside brackets: where they end is told by what stands behind them.
use Rattle.std.proofs.Common.{◌≡◌, ℕ, zero, suc, ◌+◌, ◌<◌, Bool, true, false, List, [], ◌∷◌, ◌++◌, length, map, inl, inr, refl, sym, ap, ◌∙◌, subst, arith}
use Rattle.std.specs.Prelude.{◌||◌, Option, Some, None, IsTrue}
use Rattle.par_text.specs.declared.kind.Kind.{Kind}
use Rattle.par_text.specs.declared.kind.Kind.TheVariants as k
use Rattle.par_text.specs.Kinds.{is}
use Rattle.par_text.specs.Rule.{Nonterminal, expression, factor, statements, TreeOf, Rule, nothing, token, mapped, pair, either, many, nest, within}
use Rattle.par_text.specs.Form.{Marked, Form, tokens_of}
use Rattle.par_text.specs.Text.{Nested, nested_spelling}
use Rattle.par_text.specs.Grammar.{◌⊲◌, name, index_rule, extent_rule, group_rule, sign_rule, number_rule, factor_rule, term_operator, term_link, term_links, term_rule, sum_operator, sum_link, sum_links, sum_rule, comparison, compared_rule, expr_rule, arg_rule}
use Rattle.par_text.proofs.Marks.{tokens_of-append}
use Rattle.par_text.proofs.KindLemmas.{same_from_is}
use Rattle.canonical_text.proofs.Written.{spells}
use Rattle.par_lex.specs.declared.lexeme.Lexeme.{Lexeme}
use Rattle.loop_expand.specs.Runs.{is_plain, is_inner, closer, IsRun, Nested as NestedRun, nothing as no_lexeme, plain as plain_lexeme, bracketed}
use Rattle.loop_laws.specs.LoopCalls.{Word, word_of, word_at, run_words}
use Rattle.loop_laws.proofs.TokenWords.{words-append}
use Rattle.loop_laws.proofs.FoundCalls.{is_expression}

-- how many brackets are open behind a word, where so many are open before it
abbrev one_less : ℕ → Option ℕ
one_less zero = None
one_less (suc n) = Some n

abbrev some_open : ℕ → Option ℕ
some_open zero = None
some_open (suc n) = Some (suc n)

abbrev pub open_behind : Kind → ℕ → Option ℕ
open_behind k.LeftParen n = Some (suc n)
open_behind k.LeftBracket n = Some (suc n)
open_behind k.RightParen n = one_less n
open_behind k.RightBracket n = one_less n
open_behind k.Comma n = some_open n
open_behind _ n = Some n

abbrev pub then_open : Option ℕ → (ℕ → Option ℕ) → Option ℕ
then_open None f = None
then_open (Some n) f = f n

-- and behind words
abbrev pub open_after : List Word → ℕ → Option ℕ
open_after [] n = Some n
open_after (w ∷ ws) n = then_open (open_behind w.kind n) (open_after ws)

abbrev pub IsFlat : List Word → Type 0
IsFlat ws = (n : ℕ) → open_after ws n ≡ Some n

-- a word that ends what stands outside brackets
abbrev pub Stops : List Word → Type 0
Stops [] = ⊥
Stops (w ∷ ws) = open_behind w.kind 0 ≡ None

pub word_head : (v w : Word) (vs ws : List Word) → v ∷ vs ≡ w ∷ ws → v ≡ w
word_head v w vs ws e = ap (head_or v) e
  where
    head_or : Word → List Word → Word
    head_or d [] = d
    head_or d (x ∷ xs) = x

pub word_tail : (v w : Word) (vs ws : List Word) → v ∷ vs ≡ w ∷ ws → vs ≡ ws
word_tail v w vs ws e = ap tail_of e
  where
    tail_of : List Word → List Word
    tail_of [] = []
    tail_of (x ∷ xs) = xs

none_some : (n : ℕ) → ◌≡◌ {A = Option ℕ} None (Some n) → ⊥
none_some n e = cc

ends_once : (w : Word) (ws us vs : List Word) (n : ℕ) → open_after [] n ≡ Some 0 → open_after (w ∷ ws) n ≡ Some 0 → Stops us → us ≡ w ∷ (ws ++ vs) → ⊥
ends_once w ws us vs n a b stop e =
    let zero_n : ◌≡◌ {A = Option ℕ} (Some n) (Some 0) = a in
    let same : n ≡ 0 = ap (number_or 0) zero_n in
    let stops : open_behind w.kind 0 ≡ None = subst Stops e stop in
    none_some 0 (sym (ap (λ m. then_open (open_behind w.kind m) (open_after ws)) same ∙ ap (λ o. then_open o (open_after ws)) stops) ∙ b)
  where
    number_or : ℕ → Option ℕ → ℕ
    number_or d None = d
    number_or d (Some m) = m

cut_once_from : (as_ bs us vs : List Word) (n : ℕ) → open_after as_ n ≡ Some 0 → open_after bs n ≡ Some 0 → Stops us → Stops vs → as_ ++ us ≡ bs ++ vs → (as_ ≡ bs) × (us ≡ vs)
cut_once_from [] [] us vs n a b s t e = (refl, e)
cut_once_from [] (w ∷ bs) us vs n a b s t e = absurd (ends_once w bs us vs n a b s e)
cut_once_from (w ∷ as_) [] us vs n a b s t e = absurd (ends_once w as_ vs us n b a t (sym e))
cut_once_from (w ∷ as_) (v ∷ bs) us vs n a b s t e =
    further (open_behind w.kind n) a (ap (λ (x : Word). then_open (open_behind x.kind n) (open_after bs)) (word_head w v (as_ ++ us) (bs ++ vs) e) ∙ b) (λ m p q. cut_once_from as_ bs us vs m p q s t (word_tail w v (as_ ++ us) (bs ++ vs) e))
  where
    further : (o : Option ℕ) → then_open o (open_after as_) ≡ Some 0 → then_open o (open_after bs) ≡ Some 0 → ((m : ℕ) → open_after as_ m ≡ Some 0 → open_after bs m ≡ Some 0 → (as_ ≡ bs) × (us ≡ vs)) → (w ∷ as_ ≡ v ∷ bs) × (us ≡ vs)
    further None p q more = absurd (none_some 0 p)
    further (Some m) p q more = let h = more m p q in (ap (λ x. x ∷ as_) (word_head w v (as_ ++ us) (bs ++ vs) e) ∙ ap (λ xs. v ∷ xs) h.0, h.1)

pub cut_once : (as_ bs us vs : List Word) → IsFlat as_ → IsFlat bs → Stops us → Stops vs → as_ ++ us ≡ bs ++ vs → (as_ ≡ bs) × (us ≡ vs)
cut_once as_ bs us vs a b s t e = cut_once_from as_ bs us vs 0 (a 0) (b 0) s t e

pub open_append : (as_ bs : List Word) (n : ℕ) → open_after (as_ ++ bs) n ≡ then_open (open_after as_ n) (open_after bs)
open_append [] bs n = refl
open_append (w ∷ as_) bs n = further (open_behind w.kind n) (λ m. open_append as_ bs m)
  where
    further : (o : Option ℕ) → ((m : ℕ) → open_after (as_ ++ bs) m ≡ then_open (open_after as_ m) (open_after bs)) → then_open o (open_after (as_ ++ bs)) ≡ then_open (then_open o (open_after as_)) (open_after bs)
    further None more = refl
    further (Some m) more = more m

pub flat_append : (as_ bs : List Word) → IsFlat as_ → IsFlat bs → IsFlat (as_ ++ bs)
flat_append as_ bs a b = λ n. open_append as_ bs n ∙ ap (λ o. then_open o (open_after bs)) (a n) ∙ b n

-- the forms of expressions

pub record Flats {X : Type 0} (size : ℕ) (r : Rule X) : Type 0 where
  pub flat : (depth : ℕ) (d : Form (Nested size) r) → IsFlat (map word_of (tokens_of (spells size depth r d)))

pub words_of_two : (ms ns : List Marked) → map word_of (tokens_of (ms ++ ns)) ≡ map word_of (tokens_of ms) ++ map word_of (tokens_of ns)
words_of_two ms ns = ap (map word_of) (tokens_of-append ms ns) ∙ words-append (tokens_of ms) (tokens_of ns)

abbrev IsQuiet : Kind → Type 0
IsQuiet j = (n : ℕ) → open_behind j n ≡ Some n

module _ {size : ℕ} where
  flat_token : {j : Kind} → IsQuiet j → Flats size (token j)
  flat_token {j} h = record { flat = λ depth d n. ap (λ i. then_open (open_behind i n) (open_after [])) d.1 ∙ ap (λ o. then_open o (open_after [])) (h n) }

  flat_mapped : {A X : Type 0} {f : A → X} {a : Rule A} → Flats size a → Flats size (mapped f a)
  flat_mapped a = record { flat = λ depth d. a.flat depth d }

  flat_pair : {A B X : Type 0} {f : A → B → X} {a : Rule A} {b : Rule B} → Flats size a → Flats size b → Flats size (pair f a b)
  flat_pair {a = a} {b = b} p q = record {
    flat = λ depth d.
        subst IsFlat (sym (words_of_two (spells size depth a d.0) (spells size depth b d.1)))
        (flat_append (map word_of (tokens_of (spells size depth a d.0))) (map word_of (tokens_of (spells size depth b d.1))) (p.flat depth d.0) (q.flat depth d.1));
  }

  flat_nothing : {X : Type 0} {x : X} → Flats size (nothing x)
  flat_nothing = record { flat = λ depth d n. refl }

  flat_either : {X : Type 0} {ks : Kind → Bool} {a b : Rule X} → Flats size a → Flats size b → Flats size (either ks a b)
  flat_either {X} {ks} {a} {b} p q = record { flat = flat }
    where
      flat : (depth : ℕ) (d : Form (Nested size) (either ks a b)) → IsFlat (map word_of (tokens_of (spells size depth (either ks a b) d)))
      flat depth (inl d) = p.flat depth d
      flat depth (inr d) = q.flat depth d

  flat_many : {A X : Type 0} {ks : Kind → Bool} {f : A → X → X} {z : X} {a : Rule A} → Flats size a → Flats size (many ks f z a)
  flat_many {A} {X} {ks} {f} {z} {a} p = record { flat = flat }
    where
      flat : (depth : ℕ) (ds : List (Form (Nested size) a)) → IsFlat (map word_of (tokens_of (spells size depth (many ks f z a) ds)))
      flat depth [] = λ n. refl
      flat depth (d ∷ ds) =
          subst IsFlat (sym (words_of_two (spells size depth a d) (spells size depth (many ks f z a) ds)))
          (flat_append (map word_of (tokens_of (spells size depth a d))) (map word_of (tokens_of (spells size depth (many ks f z a) ds))) (p.flat depth d) (flat depth ds))

  flat_sign : {X : Type 0} {j : Kind} {a : Rule X} → IsQuiet j → Flats size a → Flats size (nest j a)
  flat_sign {j = j} {a = a} h p = record {
    flat = λ depth d n. ap (λ i. then_open (open_behind i n) (open_after (map word_of (tokens_of (spells size (depth + 1) a d.1))))) d.0.1
        ∙ ap (λ o. then_open o (open_after (map word_of (tokens_of (spells size (depth + 1) a d.1))))) (h n) ∙ p.flat (depth + 1) d.1 n;
  }

  flat_brackets : {X : Type 0} {i j : Kind} {a : Rule X} → ((n : ℕ) → open_behind i n ≡ Some (suc n)) → ((n : ℕ) → open_behind j (suc n) ≡ Some n) → Flats size a → Flats size (nest i (a ⊲ token j))
  flat_brackets {i = i} {j = j} {a = a} opens closes p = record {
    flat = λ depth d n.
        let inside : List Word = map word_of (tokens_of (spells size (depth + 1) a d.1.0)) in
        let last : List Word = word_of d.1.1.0 ∷ [] in
        ap (λ x. then_open (open_behind x n) (open_after (map word_of (tokens_of (spells size (depth + 1) (a ⊲ token j) d.1))))) d.0.1
        ∙ ap (λ o. then_open o (open_after (map word_of (tokens_of (spells size (depth + 1) (a ⊲ token j) d.1))))) (opens n)
        ∙ ap (λ ws. open_after ws (suc n)) (words_of_two (spells size (depth + 1) a d.1.0) (record { token = d.1.1.0; depth = depth + 1 } ∷ []))
        ∙ open_append inside last (suc n)
        ∙ ap (λ o. then_open o (open_after last)) (p.flat (depth + 1) d.1.0 (suc n))
        ∙ ap (λ x. then_open (open_behind x (suc n)) (open_after [])) d.1.1.1
        ∙ ap (λ o. then_open o (open_after [])) (closes n);
  }

  flat_within : {X : Type 0} {s : Nonterminal} {f : TreeOf s → X} → ((depth : ℕ) (d : Nested size s) → IsFlat (map word_of (tokens_of (nested_spelling size depth s d)))) → Flats size (within s f)
  flat_within h = record { flat = λ depth d. h depth d }

abbrev FlatInside : ℕ → Type 0
FlatInside size = (s : Nonterminal) → is_expression s ≡ true → (depth : ℕ) (d : Nested size s) → IsFlat (map word_of (tokens_of (nested_spelling size depth s d)))

module _ {size : ℕ} (inner : FlatInside size) where
  flat_name : Flats size name
  unfolding name
  flat_name = flat_mapped (flat_token (λ n. refl))

  flat_factor : Flats size factor_rule
  unfolding index_rule extent_rule group_rule sign_rule number_rule factor_rule
  flat_factor =
      flat_either (flat_pair flat_name (flat_either (flat_brackets (λ n. refl) (λ n. refl) (flat_within (inner expression refl))) flat_nothing))
      (flat_either (flat_pair (flat_token (λ n. refl)) (flat_brackets (λ n. refl) (λ n. refl) (flat_mapped flat_name)))
      (flat_either (flat_brackets (λ n. refl) (λ n. refl) (flat_within (inner expression refl)))
      (flat_either (flat_sign (λ n. refl) (flat_within (inner factor refl)))
      (flat_mapped (flat_token (λ n. refl))))))

  flat_term : Flats size term_rule
  unfolding term_operator term_link term_links term_rule
  flat_term =
      flat_pair flat_factor (flat_many (flat_pair (flat_either (flat_mapped (flat_token (λ n. refl))) (flat_either (flat_mapped (flat_token (λ n. refl))) (flat_mapped (flat_token (λ n. refl))))) flat_factor))

  flat_sum : Flats size sum_rule
  unfolding sum_operator sum_link sum_links sum_rule
  flat_sum = flat_pair flat_term (flat_many (flat_pair (flat_either (flat_mapped (flat_token (λ n. refl))) (flat_mapped (flat_token (λ n. refl)))) flat_term))

  flat_expr : Flats size expr_rule
  unfolding comparison compared_rule expr_rule
  flat_expr =
      flat_pair flat_sum (flat_either (flat_pair
      (flat_either (flat_mapped (flat_token (λ n. refl))) (flat_either (flat_mapped (flat_token (λ n. refl))) (flat_either (flat_mapped (flat_token (λ n. refl))) (flat_either (flat_mapped (flat_token (λ n. refl))) (flat_either (flat_mapped (flat_token (λ n. refl))) (flat_mapped (flat_token (λ n. refl))))))))
      flat_sum) flat_nothing)

flat_nested : (size : ℕ) → FlatInside size
flat_nested zero s h depth d = absurd d
flat_nested (suc size) expression h depth d = (flat_expr (flat_nested size)).flat depth d
flat_nested (suc size) factor h depth d = (flat_factor (flat_nested size)).flat depth d
flat_nested (suc size) statements h depth d = cc

pub flat_expression : (size depth : ℕ) (d : Nested size expression) → IsFlat (map word_of (tokens_of (nested_spelling size depth expression d)))
flat_expression size depth d = flat_nested size expression refl depth d

pub flat_argument : (size : ℕ) → Flats size arg_rule
unfolding arg_rule
flat_argument size =
    flat_either (flat_pair (flat_token (λ n. refl)) (flat_mapped (flat_name (flat_nested size))))
    (flat_either (flat_pair (flat_token (λ n. refl)) (flat_mapped (flat_name (flat_nested size)))) (flat_within (λ depth d. flat_expression size depth d)))

-- runs

plain_quiet : (j : Kind) → IsTrue (is_plain j) → IsQuiet j
plain_quiet k.Name h = λ n. refl
plain_quiet k.Number h = λ n. refl
plain_quiet k.Assign h = λ n. refl
plain_quiet k.Plus h = λ n. refl
plain_quiet k.Minus h = λ n. refl
plain_quiet k.Star h = λ n. refl
plain_quiet k.Slash h = λ n. refl
plain_quiet k.Percent h = λ n. refl
plain_quiet k.Less h = λ n. refl
plain_quiet k.LessEqual h = λ n. refl
plain_quiet k.Greater h = λ n. refl
plain_quiet k.GreaterEqual h = λ n. refl
plain_quiet k.EqualEqual h = λ n. refl
plain_quiet k.NotEqual h = λ n. refl
plain_quiet k.Len h = λ n. refl
plain_quiet _ h = cc

inner_quiet : (j : Kind) → IsTrue (is_inner j) → (n : ℕ) → open_behind j (suc n) ≡ Some (suc n)
inner_quiet j h n = by_tests (is_plain j) (is k.Comma j) refl refl h
  where
    by_tests : (a b : Bool) → is_plain j ≡ a → is k.Comma j ≡ b → IsTrue (a || b) → open_behind j (suc n) ≡ Some (suc n)
    by_tests true b p c h = plain_quiet j p (suc n)
    by_tests false true p c h = ap (λ i. open_behind i (suc n)) (same_from_is k.Comma j c)
    by_tests false false p c h = cc

opens_closes : (o c : Kind) → closer o ≡ Some c → (n : ℕ) → (open_behind o n ≡ Some (suc n)) × (open_behind c (suc n) ≡ Some n)
opens_closes k.LeftParen c e n = (refl, ap (λ i. open_behind i (suc n)) (let same : c ≡ k.RightParen = cc in same))
opens_closes k.LeftBracket c e n = (refl, ap (λ i. open_behind i (suc n)) (let same : c ≡ k.RightBracket = cc in same))
opens_closes _ c e n = cc

run_words-append : (text : List ℕ) (ts us : List Lexeme) → run_words text (ts ++ us) ≡ run_words text ts ++ run_words text us
run_words-append text [] us = refl
run_words-append text (t ∷ ts) us = ap (λ ws. word_at text t ∷ ws) (run_words-append text ts us)

nested_run_flat : (text : List ℕ) (p : Kind → Bool) (n : ℕ) → ((j : Kind) → IsTrue (p j) → open_behind j n ≡ Some n) → (ts : List Lexeme) → NestedRun p ts → open_after (run_words text ts) n ≡ Some n
nested_run_flat text p n quiet ts (no_lexeme q) = refl
nested_run_flat text p n quiet ts (plain_lexeme q t us ok rest) = ap (λ o. then_open o (open_after (run_words text us))) (quiet t.kind ok) ∙ nested_run_flat text p n quiet us rest
nested_run_flat text p n quiet ts (bracketed q o c inside after opening inner rest) =
    let kinds = opens_closes o.kind c.kind opening n in
    let behind : List Word = word_at text c ∷ run_words text after in
    ap (λ x. then_open x (open_after (run_words text (inside ++ c ∷ after)))) kinds.0
    ∙ ap (λ ws. open_after ws (suc n)) (run_words-append text inside (c ∷ after))
    ∙ open_append (run_words text inside) behind (suc n)
    ∙ ap (λ x. then_open x (open_after behind)) (nested_run_flat text is_inner (suc n) (λ j h. inner_quiet j h n) inside inner)
    ∙ ap (λ x. then_open x (open_after (run_words text after))) kinds.1
    ∙ nested_run_flat text p n quiet after rest

pub run_flat : (text : List ℕ) (ts : List Lexeme) → IsRun ts → IsFlat (run_words text ts)
run_flat text ts h = λ n. nested_run_flat text is_plain n (λ j ok. plain_quiet j ok n) ts h.1

-- a run begins with a token of none of these kinds

abbrev pub StartsOther : Kind → List Word → Type 0
StartsOther j [] = ⊥
StartsOther j (w ∷ ws) = is j w.kind ≡ false

passes_not : (p : Kind → Bool) (j i : Kind) → p j ≡ false → IsTrue (p i) → is j i ≡ false
passes_not p j i none ok = by_kind (is j i) refl
  where
    never : false ≡ true → ⊥
    never e = cc

    by_kind : (b : Bool) → is j i ≡ b → b ≡ false
    by_kind false other = refl
    by_kind true same = absurd (never (sym none ∙ ap p (sym (same_from_is j i same)) ∙ ok))

opens_not : (j o c : Kind) → closer j ≡ None → closer o ≡ Some c → is j o ≡ false
opens_not j o c none opening = by_kind (is j o) refl
  where
    never : ◌≡◌ {A = Option Kind} None (Some c) → ⊥
    never e = cc

    by_kind : (b : Bool) → is j o ≡ b → b ≡ false
    by_kind false other = refl
    by_kind true same = absurd (never (sym none ∙ ap closer (sym (same_from_is j o same)) ∙ opening))

pub run_starts : (text : List ℕ) (j : Kind) → is_plain j ≡ false → closer j ≡ None → (ts : List Lexeme) → IsRun ts → StartsOther j (run_words text ts)
run_starts text j plain opens ts h = by_nesting ts h.0 h.1
  where
    by_nesting : (ts : List Lexeme) → 0 < length ts → NestedRun is_plain ts → StartsOther j (run_words text ts)
    by_nesting ts some (no_lexeme q) = absurd (omega (arith, some))
    by_nesting ts some (plain_lexeme q t us ok rest) = passes_not is_plain j t.kind plain ok
    by_nesting ts some (bracketed q o c inside after opening inner rest) = opens_not j o.kind c.kind opens opening
