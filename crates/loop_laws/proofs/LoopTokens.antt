-- The tokens of a text's loops are tokens of the text.
use Rattle.std.proofs.Common.{◌≡◌, ℕ, suc, Bool, true, false, cond, List, [], ◌∷◌, ◌++◌, length, map, Ok, refl, sym, ap, ◌∙◌, subst, arith}
use Rattle.std.specs.Prelude.{◌==◌, ◌&&◌, ◌||◌, not, ℤ, pos, negsuc, IsTrue}
use Rattle.std.specs.List.{list_all}
use Rattle.std.proofs.lemmas.Bool.{eqb-true}
use Rattle.std.proofs.lemmas.List.{append-nil}
use Rattle.par_text.specs.declared.kind.Kind.{Kind}
use Rattle.par_text.specs.declared.kind.Kind.TheVariants.{Number, Par, RightParen, Semicolon}
use Rattle.par_text.specs.Rule.{Token}
use Rattle.par_text.specs.Lexing.{is_word, is_blank, is_not_newline, takes_equal, begins_with_equal, run, piece_rest, value_of, text_tokens}
use Rattle.canonical_text.proofs.Leaves.{IsToken, IsName}
use Rattle.canonical_text.proofs.Tokens.{AllValid, tokens_valid}
use Rattle.par_lex.specs.declared.lexeme.Lexeme.{Lexeme}
use Rattle.loop_expand.specs.Runs.{IsRun}
use Rattle.loop_expand.specs.Loops.{Range, numbers, parts, Loop, is_size, Element, sign, word, size, run as run_of, StandsFirst, StandFirst, range_form, others_form, loop_form, BeginsLoop, AreLoops, no_token, no_call, one_loop}
use Rattle.loop_expand.specs.Texts.{bytes_of, place_behind}
use Rattle.loop_expand.specs.Expansion.{lexeme_of}
use Rattle.loop_laws.specs.HelperFunctions.{words_of}
use Rattle.loop_laws.proofs.Pieces.{Each, HasItsBytes, tokens_have_their_bytes, IsBoundary, StandsApart, tokens_stand_apart, OnOneLine}
use Rattle.loop_laws.proofs.Expressions.{IsNumberOf}

-- a token of the text, by its place: no piece goes over its beginning or its end
abbrev pub IsLexemeOf : List ℕ → Lexeme → Type 0
IsLexemeOf text t = IsToken t.kind (bytes_of text t) × (value_of (bytes_of text t) ≡ t.value) × IsBoundary text t.at × IsBoundary text (place_behind t)

-- each of these tokens is so
abbrev pub AllOf : (Lexeme → Type 0) → List Lexeme → Type 0
AllOf P [] = Unit {0}
AllOf P (t ∷ ts) = P t × AllOf P ts

abbrev pub AreLexemesOf : List ℕ → List Lexeme → Type 0
AreLexemesOf text ts = AllOf (IsLexemeOf text) ts

lexemes_by : (text : List ℕ) (ts : List Token) → Each (HasItsBytes text) ts → Each (StandsApart text) ts → AllValid ts → AreLexemesOf text (map lexeme_of ts)
lexemes_by text [] bytes apart valid = tt
lexemes_by text (t ∷ ts) bytes apart valid =
    let one = subst (λ bs. IsToken t.kind bs × (value_of bs ≡ t.value)) (sym bytes.0) (valid.0.0, sym valid.0.1) in
    ((one.0, one.1, apart.0.0, apart.0.1), lexemes_by text ts bytes.1 apart.1 valid.1)

pub lexemes_of_text : (text : List ℕ) (ts : List Token) → text_tokens text ≡ Ok ts → AreLexemesOf text (map lexeme_of ts)
lexemes_of_text text ts e = lexemes_by text ts (tokens_have_their_bytes text ts e) (tokens_stand_apart text ts e) (tokens_valid text ts e)

all_front : (P : Lexeme → Type 0) (ts us : List Lexeme) → AllOf P (ts ++ us) → AllOf P ts
all_front P [] us h = tt
all_front P (t ∷ ts) us h = (h.0, all_front P ts us h.1)

all_behind : (P : Lexeme → Type 0) (ts us : List Lexeme) → AllOf P (ts ++ us) → AllOf P us
all_behind P [] us h = h
all_behind P (t ∷ ts) us h = all_behind P ts us h.1

-- what an element of a form is, where each token is so
abbrev pub IsElementOf : (Lexeme → Type 0) → Element → Type 0
IsElementOf P (sign j) = Unit {0}
IsElementOf P (word j t) = P t × (t.kind ≡ j)
IsElementOf P (size t) = P t × (t.kind ≡ Number) × IsTrue (is_size t.value)
IsElementOf P (run_of r) = AllOf P r × IsRun r

abbrev pub AreElementsOf : (Lexeme → Type 0) → List Element → Type 0
AreElementsOf P [] = Unit {0}
AreElementsOf P (e ∷ es) = IsElementOf P e × AreElementsOf P es

first_element : (P : Lexeme → Type 0) (e : Element) (ts behind : List Lexeme) → AllOf P ts → StandsFirst e ts behind → IsElementOf P e × AllOf P behind
first_element P (sign j) ts behind h s = (tt, (subst (AllOf P) s.1 h).1)
first_element P (word j t) ts behind h s = let g = subst (AllOf P) s.0 h in ((g.0, s.1), g.1)
first_element P (size t) ts behind h s = let g = subst (AllOf P) s.0 h in ((g.0, s.1, s.2), g.1)
first_element P (run_of r) ts behind h s = let g = subst (AllOf P) s.0 h in ((all_front P r behind g, s.1), all_behind P r behind g)

pub elements : (P : Lexeme → Type 0) (es : List Element) (ts behind : List Lexeme) → AllOf P ts → StandFirst es ts behind → AreElementsOf P es
elements P [] ts behind h s = tt
elements P (e ∷ es) ts behind h s = let one = first_element P e ts s.0 h s.1 in (one.0, elements P es s.0 behind one.1 s.2)

pub elements_behind : (P : Lexeme → Type 0) (es fs : List Element) → AreElementsOf P (es ++ fs) → AreElementsOf P fs
elements_behind P [] fs h = h
elements_behind P (e ∷ es) fs h = elements_behind P es fs h.1

-- a run of tokens of the text
abbrev pub IsRunOf : List ℕ → List Lexeme → Type 0
IsRunOf text r = AreLexemesOf text r × IsRun r

-- what is known of a loop: its names are names, its size is a number, and its runs have tokens of the text
abbrev pub IsRangeOf : List ℕ → Range → Type 0
IsRangeOf text (numbers low high) = Unit {0}
IsRangeOf text (parts block most) = IsNumberOf (pos (words_of most.value)) (bytes_of text most)

abbrev pub HasRuns : List ℕ → Range → Type 0
HasRuns text (numbers low high) = IsRunOf text low × IsRunOf text high
HasRuns text (parts block most) = IsName (bytes_of text block)

abbrev pub AreRunsOf : List ℕ → List (List Lexeme) → Type 0
AreRunsOf text [] = Unit {0}
AreRunsOf text (r ∷ rs) = IsRunOf text r × AreRunsOf text rs

pub record IsLoopOf (text : List ℕ) (l : Loop) : Type 0 where
  pub opening : IsLexemeOf text l.opening × (l.opening.kind ≡ Par)
  pub target : IsName (bytes_of text l.target)
  pub function : IsName (bytes_of text l.function)
  pub range : IsRangeOf text l.range
  pub runs : HasRuns text l.range
  pub others : AreRunsOf text l.others
  pub closing : IsLexemeOf text l.closing

abbrev pub AreLoopsOf : List ℕ → List Loop → Type 0
AreLoopsOf text [] = Unit {0}
AreLoopsOf text (l ∷ ls) = IsLoopOf text l × AreLoopsOf text ls

size_value : (z : ℤ) → IsTrue (is_size z) → z ≡ pos (words_of z)
size_value (pos n) h = refl
size_value (negsuc n) h = cc

range_of : (text : List ℕ) (r : Range) (es : List Element) → AreElementsOf (IsLexemeOf text) (range_form r ++ es) → IsRangeOf text r
range_of text (numbers low high) es h = tt
range_of text (parts block most) es h =
    let most_is = h.1.1.1.0 in
    (subst (λ j. IsToken j (bytes_of text most)) most_is.1 most_is.0.0, most_is.0.1 ∙ size_value most.value most_is.2)

runs_of : (text : List ℕ) (r : Range) (es : List Element) → AreElementsOf (IsLexemeOf text) (range_form r ++ es) → HasRuns text r
runs_of text (numbers low high) es h = (h.0, h.1.1.0)
runs_of text (parts block most) es h = subst (λ j. IsToken j (bytes_of text block)) h.1.0.1 h.1.0.0.0

others_of : (text : List ℕ) (rs : List (List Lexeme)) (es : List Element) → AreElementsOf (IsLexemeOf text) (others_form rs ++ es) → AreRunsOf text rs
others_of text [] es h = tt
others_of text (r ∷ rs) es h = (h.1.0, others_of text rs es h.1.1)

loop_of : (text : List ℕ) (l : Loop) (ts : List Lexeme) → AreLexemesOf text ts → BeginsLoop l ts → IsLoopOf text l
loop_of text l ts h begins =
    let all = elements (IsLexemeOf text) (loop_form l) ts begins.0 h begins.1 in
    let in_range = all.1.1.1.1.1.1 in
    let in_others = elements_behind (IsLexemeOf text) (range_form l.range) (others_form l.others ++ (sign RightParen ∷ word Semicolon l.closing ∷ [])) in_range in
    let last = elements_behind (IsLexemeOf text) (others_form l.others) (sign RightParen ∷ word Semicolon l.closing ∷ []) in_others in
    record {
      opening = all.0;
      target = subst (λ j. IsToken j (bytes_of text l.target)) all.1.1.0.1 all.1.1.0.0.0;
      function = subst (λ j. IsToken j (bytes_of text l.function)) all.1.1.1.1.0.1 all.1.1.1.1.0.0.0;
      range = range_of text l.range (others_form l.others ++ (sign RightParen ∷ word Semicolon l.closing ∷ [])) in_range;
      runs = runs_of text l.range (others_form l.others ++ (sign RightParen ∷ word Semicolon l.closing ∷ [])) in_range;
      others = others_of text l.others (sign RightParen ∷ word Semicolon l.closing ∷ []) in_others;
      closing = last.1.0.0;
    }

pub loops_of_text : (text : List ℕ) (ts : List Lexeme) (ls : List Loop) → AreLexemesOf text ts → AreLoops ts ls → AreLoopsOf text ls
loops_of_text text ts ls h no_token = tt
loops_of_text text ts ls h (no_call t us ms e more) = loops_of_text text us ms h.1 more
loops_of_text text ts ls h (one_loop t us l ms begins more) = (loop_of text l (t ∷ us) h begins, loops_of_text text us ms h.1 more)

-- no line ends in a token

never : true ≡ false → ⊥
never e = cc

not_newline : (c : ℕ) → (c ≡ 10 → ⊥) → is_not_newline c ≡ true
not_newline c h = by_test (c == 10) refl
  where
    by_test : (b : Bool) → (c == 10) ≡ b → not b ≡ true
    by_test true e = absurd (h (eqb-true c 10 e))
    by_test false e = refl

pub word_not_newline : (c : ℕ) → is_word c ≡ true → is_not_newline c ≡ true
word_not_newline c h = not_newline c (λ e. no_word (sym (ap is_word e) ∙ h))
  where
    no_word : false ≡ true → ⊥
    no_word e = cc

suc_same : (m n : ℕ) → suc m ≡ suc n → m ≡ n
suc_same m n e = omega (arith, e)

words_one_line : (cs : List ℕ) → run is_word cs ≡ length cs → OnOneLine cs
words_one_line [] e = refl
words_one_line (c ∷ cs) e = by_test (λ h. words_one_line cs h) (is_word c) refl e
  where
    by_test : (run is_word cs ≡ length cs → OnOneLine cs) → (b : Bool) → is_word c ≡ b → cond b (suc (run is_word cs)) 0 ≡ suc (length cs) → (is_not_newline c && list_all is_not_newline cs) ≡ true
    by_test more true h e = ap (λ x. x && list_all is_not_newline cs) (word_not_newline c h) ∙ more (suc_same (run is_word cs) (length cs) e)
    by_test more false h e = absurd (omega (arith, e))

equal_one_line : (a : Bool) (cs : List ℕ) → cond (a && begins_with_equal cs) 1 0 ≡ length cs → OnOneLine cs
equal_one_line a [] e = refl
equal_one_line a (c ∷ []) e = by_test a (c == 61) refl e
  where
    by_test : (a b : Bool) → (c == 61) ≡ b → ◌≡◌ {A = ℕ} (cond (a && b) 1 0) 1 → OnOneLine (c ∷ [])
    by_test true true h e = ap (λ x. x && true) (not_newline c (λ g. absurd (other (sym (eqb-true c 61 h) ∙ g))))
      where
        other : ◌≡◌ {A = ℕ} 61 10 → ⊥
        other g = omega (arith, g)
    by_test true false h e = absurd (omega (arith, e))
    by_test false b h e = absurd (omega (arith, e))
equal_one_line a (c ∷ d ∷ cs) e = by_test (a && (c == 61)) e
  where
    by_test : (b : Bool) → cond b 1 0 ≡ length (c ∷ d ∷ cs) → OnOneLine (c ∷ d ∷ cs)
    by_test true e = absurd (omega (arith, e))
    by_test false e = absurd (omega (arith, e))

lexeme_not_newline : (c : ℕ) → not (is_blank c || (c == 35)) ≡ true → is_not_newline c ≡ true
lexeme_not_newline c h = not_newline c (λ e. no_lexeme (sym (ap (λ x. not (is_blank x || (x == 35))) e) ∙ h))
  where
    no_lexeme : false ≡ true → ⊥
    no_lexeme e = cc

rest_one_line : (c : ℕ) (cs : List ℕ) → not (is_blank c || (c == 35)) ≡ true → piece_rest c cs ≡ length cs → OnOneLine cs
unfolding piece_rest
rest_one_line c cs lexeme e = by_tests (is_word c) (c == 35) refl e
  where
    or_true : (a : Bool) → (a || true) ≡ true
    or_true true = refl
    or_true false = refl

    by_tests : (a b : Bool) → (c == 35) ≡ b → cond a (run is_word cs) (cond b (run is_not_newline cs) (cond (takes_equal c && begins_with_equal cs) 1 0)) ≡ length cs → OnOneLine cs
    by_tests true b h e = words_one_line cs e
    by_tests false true h e = absurd (never (sym lexeme ∙ ap (λ x. not (is_blank c || x)) h ∙ ap not (or_true (is_blank c))))
    by_tests false false h e = equal_one_line (takes_equal c) cs e

pub token_one_line : (j : Kind) (bs : List ℕ) → IsToken j bs → OnOneLine bs
token_one_line j [] h = refl
token_one_line j (c ∷ cs) h =
    ap (λ x. x && list_all is_not_newline cs) (lexeme_not_newline c h.0)
    ∙ rest_one_line c cs h.0 (ap (λ us. piece_rest c us) (sym (append-nil cs)) ∙ h.1.1.0 [] tt)
