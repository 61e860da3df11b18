-- Where a loop stood, the program of the expansion calls its helper.
use Rattle.std.proofs.Common.{◌≡◌, ℕ, suc, ◌+◌, ◌^◌, ◌<◌, ◌≤◌, List, [], ◌∷◌, ◌++◌, length, map, Ok, refl, sym, ap, ◌∙◌, subst, arith, append_assoc, length-append}
use Rattle.std.specs.Prelude.{Some}
use Rattle.par_tree.specs.Tree.{Expr, Arg, value, lend, Stmt, Program}
use Rattle.par_text.specs.declared.kind.Kind.TheVariants as k
use Rattle.par_text.specs.Rule.{Token}
use Rattle.par_text.specs.Form.{Form, tokens_of}
use Rattle.par_text.specs.Text.{Nested, IsProgram}
use Rattle.par_text.specs.Grammar.{any_call}
use Rattle.par_text.specs.Lexing.{text_tokens}
use Rattle.par_text.specs.Judging.{deepest}
use Rattle.par_text.proofs.KindLemmas.{is-self}
use Rattle.canonical_text.proofs.Leaves.{IsName}
use Rattle.canonical_text.proofs.Written.{spells, means_of}
use Rattle.par_lex.specs.declared.lexeme.Lexeme.{Lexeme}
use Rattle.loop_expand.specs.Loops.{Range, numbers, parts, Loop, AreLoops}
use Rattle.loop_expand.specs.Texts.{between, bytes_of, place_behind, sum_name, call_text, line_feeds}
use Rattle.loop_expand.specs.Expansion.{lexeme_of, with_others, Apart, replacement, replaced}
use Rattle.loop_expand.proofs.LoopPlaces.{loops_apart}
use Rattle.loop_laws.specs.HelperTrees.{difference}
use Rattle.loop_laws.specs.LoopCalls.{Word, word_of, run_words, AreExpressions, AreArguments, IsCall, OfSomeStatement}
use Rattle.loop_laws.specs.TreeLaws.{EachLoopIsACall}
use Rattle.loop_laws.proofs.Joining.{lexed_of_text}
use Rattle.loop_laws.proofs.HelperNames.{sum_is_name}
use Rattle.loop_laws.proofs.LoopTokens.{HasRuns, AreRunsOf, IsLoopOf, AreLoopsOf, lexemes_of_text, loops_of_text}
use Rattle.loop_laws.proofs.TokenWords.{words-append, word_for, call_word, use_word, assign_word, left_word, right_word, comma_word, minus_word, grouped, range_words, others_words, rest_words}
use Rattle.loop_laws.proofs.CallPlaces.{HasCall, each_call_stands}
use Rattle.loop_laws.proofs.FoundCalls.{found_in_program}
use Rattle.loop_laws.proofs.FlatWords.{then_open, open_after, open_append, IsFlat, flat_append, run_flat, run_starts, word_head, word_tail}
use Rattle.loop_laws.proofs.CallForms.{expression_argument, group_argument, difference_argument, lent_argument, behind_commas, AreArgumentsOf, AreFlat, IsCallOf, call_form}
use Rattle.loop_laws.proofs.OneExpression.{one_expression}

-- the arguments of a call, as lists of words

abbrev first_words : List ℕ → Range → List Word
first_words text (numbers low high) = grouped (run_words text low)
first_words text (parts block most) = use_word ∷ word_for k.Name (bytes_of text block) ∷ []

abbrev runs_words : List ℕ → List (List Lexeme) → List (List Word)
runs_words text [] = []
runs_words text (r ∷ rs) = run_words text r ∷ runs_words text rs

abbrev more_words : List ℕ → Range → List (List Lexeme) → List (List Word)
more_words text (numbers low high) rs = (grouped (run_words text high) ++ (minus_word ∷ grouped (run_words text low))) ∷ runs_words text rs
more_words text (parts block most) rs = runs_words text rs

others_commas : (text : List ℕ) (rs : List (List Lexeme)) → others_words text rs ≡ behind_commas (runs_words text rs)
others_commas text [] = refl
others_commas text (r ∷ rs) = ap (λ ws. comma_word ∷ (run_words text r ++ ws)) (others_commas text rs)

arguments_words : (text : List ℕ) (r : Range) (rs : List (List Lexeme)) (rest : List Word) → (range_words text r ++ (others_words text rs ++ (right_word ∷ []))) ++ rest ≡ first_words text r ++ (behind_commas (more_words text r rs) ++ right_word ∷ rest)
arguments_words text (parts block most) rs rest =
    ap (λ ws. use_word ∷ word_for k.Name (bytes_of text block) ∷ ws) (append_assoc (others_words text rs) (right_word ∷ []) rest ∙ ap (λ ws. ws ++ right_word ∷ rest) (others_commas text rs))
arguments_words text (numbers low high) rs rest =
    let first : List Word = grouped (run_words text low) in
    let second : List Word = grouped (run_words text high) ++ (minus_word ∷ grouped (run_words text low)) in
    let others : List Word = others_words text rs in
    append_assoc (first ++ (comma_word ∷ second)) (others ++ (right_word ∷ [])) rest
    ∙ append_assoc first (comma_word ∷ second) ((others ++ (right_word ∷ [])) ++ rest)
    ∙ ap (λ ws. first ++ (comma_word ∷ ws))
    (ap (λ ws. second ++ ws) (append_assoc others (right_word ∷ []) rest ∙ ap (λ ws. ws ++ right_word ∷ rest) (others_commas text rs))
    ∙ sym (append_assoc second (behind_commas (runs_words text rs)) (right_word ∷ rest)))

grouped_flat : (ws : List Word) → IsFlat ws → IsFlat (grouped ws)
grouped_flat ws h = λ n. inside n
  where
    inside : (n : ℕ) → open_after (ws ++ right_word ∷ []) (suc n) ≡ Some n
    inside n = open_append ws (right_word ∷ []) (suc n) ∙ ap (λ o. then_open o (open_after (right_word ∷ []))) (h (suc n))

minus_flat : IsFlat (minus_word ∷ [])
minus_flat = λ n. refl

first_flat : (text : List ℕ) (r : Range) → HasRuns text r → IsFlat (first_words text r)
first_flat text (numbers low high) h = grouped_flat (run_words text low) (run_flat text low h.0.1)
first_flat text (parts block most) h = λ n. refl

runs_flat : (text : List ℕ) (rs : List (List Lexeme)) → AreRunsOf text rs → AreFlat (runs_words text rs)
runs_flat text [] h = tt
runs_flat text (r ∷ rs) h = (run_flat text r h.0.1, runs_flat text rs h.1)

more_flat : (text : List ℕ) (r : Range) (rs : List (List Lexeme)) → HasRuns text r → AreRunsOf text rs → AreFlat (more_words text r rs)
more_flat text (numbers low high) rs h g = (
  flat_append (grouped (run_words text high)) (minus_word ∷ grouped (run_words text low)) (grouped_flat (run_words text high) (run_flat text high h.1.1))
      (flat_append (minus_word ∷ []) (grouped (run_words text low)) minus_flat (grouped_flat (run_words text low) (run_flat text low h.0.1))),
  runs_flat text rs g,
)
more_flat text (parts block most) rs h g = runs_flat text rs g

first_some : (text : List ℕ) (r : Range) → first_words text r ≡ [] → ⊥
first_some text (numbers low high) e = cc
first_some text (parts block most) e = cc

-- the arguments, as expressions

runs_are : (text : List ℕ) (rs : List (List Lexeme)) (xs : List Arg) → AreRunsOf text rs → AreArgumentsOf (runs_words text rs) xs → (es : List Expr) × AreExpressions text rs es × (xs ≡ map value es)
runs_are text [] [] h a = ([], tt, refl)
runs_are text [] (x ∷ xs) h a = absurd a
runs_are text (r ∷ rs) [] h a = absurd a
runs_are text (r ∷ rs) (x ∷ xs) h a =
    let one = expression_argument (run_words text r) x (run_starts text k.Use refl refl r h.0.1) (run_starts text k.Own refl refl r h.0.1) a.0 in
    let more = runs_are text rs xs h.1 a.1 in
    (one.0 ∷ more.0, (one.1, more.1), ap (λ y. y ∷ xs) one.2 ∙ ap (λ ys. value one.0 ∷ ys) more.2)

arguments_are : (text : List ℕ) (r : Range) (rs : List (List Lexeme)) (xs : List Arg) → HasRuns text r → AreRunsOf text rs → AreArgumentsOf (first_words text r ∷ more_words text r rs) xs
    → (es : List Expr) × AreExpressions text rs es × AreArguments text r (map value es) xs
arguments_are text (numbers low high) rs [] h g a = absurd a
arguments_are text (numbers low high) rs (x ∷ []) h g a = absurd a.1
arguments_are text (numbers low high) rs (x ∷ y ∷ xs) h g a =
    let first = group_argument (run_words text low) x (run_flat text low h.0.1) a.0 in
    let second = difference_argument (run_words text high) (run_words text low) y (run_flat text high h.1.1) (run_flat text low h.0.1) a.1.0 in
    let others = runs_are text rs xs g a.1.1 in
    let same : second.1 ≡ first.0 = one_expression (run_words text low) second.1 first.0 second.3 first.1 in (
      others.0,
      others.1,
      (
        first.0,
        second.0,
        first.1,
        second.2,
        ap (λ z. z ∷ y ∷ xs) first.2 ∙ ap (λ z. value first.0 ∷ z ∷ xs) (second.4 ∙ ap (λ e. value (difference second.0 e)) same) ∙ ap (λ zs. value first.0 ∷ value (difference second.0 first.0) ∷ zs) others.2,
      ),
    )
arguments_are text (parts block most) rs [] h g a = absurd a
arguments_are text (parts block most) rs (x ∷ xs) h g a =
    let others = runs_are text rs xs g a.1 in
    (others.0, others.1, ap (λ z. z ∷ xs) (lent_argument (bytes_of text block) x a.0) ∙ ap (λ zs. lend (bytes_of text block) ∷ zs) others.2)

call_is : (text : List ℕ) (j : ℕ) (l : Loop) (s : Stmt) → IsLoopOf text l → IsCallOf (bytes_of text l.target) (sum_name j) (first_words text l.range ∷ more_words text l.range l.others) s → IsCall text j l s
call_is text j l s h c =
    let a = arguments_are text l.range l.others c.args h.runs h.others c.are in
    (a.0, c.args, a.1, a.2, c.is_)

-- a form whose tokens are those of the call, behind its `call`
pub form_is_call : (text : List ℕ) (j : ℕ) (l : Loop) → IsLoopOf text l → (call behind : List Token) (closing : Token) → map word_of call ≡ rest_words text j l
    → (size depth : ℕ) (d : Form (Nested size) any_call) (last : Token) (others : List Token) → tokens_of (spells size depth any_call d) ++ last ∷ others ≡ call ++ closing ∷ behind → IsCall text j l (means_of size any_call d)
form_is_call text j l h call behind closing e size depth d last others same =
    let rest : List Word = word_of closing ∷ map word_of behind in
    let words : map word_of (call ++ (closing ∷ behind)) ≡ word_for k.Name (bytes_of text l.target) ∷ assign_word ∷ word_for k.Name (sum_name j) ∷ left_word ∷ (first_words text l.range ++ (behind_commas (more_words text l.range l.others) ++ right_word ∷ rest)) =
    words-append call (closing ∷ behind)
    ∙ ap (λ ws. ws ++ rest) e
    ∙ ap (λ ws. word_for k.Name (bytes_of text l.target) ∷ assign_word ∷ word_for k.Name (sum_name j) ∷ left_word ∷ ws) (arguments_words text l.range l.others rest) in
    call_is text j l (means_of size any_call d) h
    (call_form size depth d (bytes_of text l.target) (sum_name j) (first_words text l.range) (more_words text l.range l.others) (word_of last ∷ map word_of others) rest
    (first_some text l.range) (first_flat text l.range h.runs) (more_flat text l.range l.others h.runs h.others)
    (sym (words-append (tokens_of (spells size depth any_call d)) (last ∷ others)) ∙ ap (map word_of) same ∙ words))

-- the tokens of a call are the call, in each program
call_found : (text : List ℕ) (j : ℕ) (l : Loop) (most : ℕ) (ts : List Token) (p : Program) → IsLoopOf text l → HasCall (call_word ∷ rest_words text j l) ts → IsProgram most ts p → OfSomeStatement (IsCall text j l) p
call_found text j l most ts p h c is_ = by_call c.call c.words c.all
  where
    by_call : (call : List Token) → map word_of call ≡ call_word ∷ rest_words text j l → ts ≡ c.front ++ (call ++ (c.closing ∷ c.behind)) → OfSomeStatement (IsCall text j l) p
    by_call [] e all = absurd (no_words e)
      where
        no_words : [] ≡ call_word ∷ rest_words text j l → ⊥
        no_words e = cc
    by_call (t ∷ call) e all =
        found_in_program (call ++ (c.closing ∷ c.behind)) (IsCall text j l)
        (λ size depth d closing behind ends same. form_is_call text j l h call c.behind c.closing (word_tail (word_of t) call_word (map word_of call) (rest_words text j l) e) size depth d closing behind same)
        most c.front t p
        (is-self k.Call t.kind (ap (λ (w : Word). w.kind) (word_head (word_of t) call_word (map word_of call) (rest_words text j l) e)))
        (subst (λ us. IsProgram most us p) all is_)

-- a text is no shorter than it has calls

pub replaced_long : (text : List ℕ) (from j : ℕ) (ls : List Loop) → length ls ≤ length (with_others (replacement text) text from j ls)
replaced_long text from j [] = omega arith
replaced_long text from j (l ∷ ls) =
    let rest : List ℕ = with_others (replacement text) text (place_behind l.closing) (j + 1) ls in
    let more = replaced_long text (place_behind l.closing) (j + 1) ls in
    let some : 1 ≤ length (replacement text j l) = call_some (call_text text j l) (line_feeds text l) refl in
    omega (arith, more, some, length-append (between text from l.opening.at) (replacement text j l ++ rest), length-append (replacement text j l) rest)
  where
    first_or : ℕ → List ℕ → ℕ
    first_or d [] = d
    first_or d (c ∷ cs) = c

    call_some : (u v : List ℕ) → first_or 0 u ≡ 99 → 1 ≤ length (u ++ v)
    call_some [] v e = absurd (never e)
      where
        never : ◌≡◌ {A = ℕ} 0 99 → ⊥
        never e = omega (arith, e)
    call_some (c ∷ u) v e = omega arith

pub each_loop_is_a_call : EachLoopIsACall
each_loop_is_a_call text ts before l behind p has loops is_ =
    let ls : List Loop = before ++ l ∷ behind in
    let known : AreLoopsOf text ls = loops_of_text text (map lexeme_of ts) ls (lexemes_of_text text ts has) loops in
    let lexes = lexed_of_text (replaced text ls) is_.tokens is_.lexed in
    let long = replaced_long text 0 0 ls in
    let count : length ls ≡ length before + suc (length behind) = length-append before (l ∷ behind) in
    let room : 0 + length before < suc (length before) = omega arith in
    let named : (i : ℕ) → i < suc (length before) → IsName (sum_name i) = λ i lt. sum_is_name i (let small : i < 2 ^ 64 = omega (arith, lt, count, long, lexes.0) in small) in
    let stands = each_call_stands text before l behind 0 0 0 1 (length text) (suc (length before)) is_.tokens refl (loops_stand text ts ls has loops) known named room lexes.1 in
    subst (λ i. OfSomeStatement (IsCall text i l) p) (let e : 0 + length before ≡ length before = omega arith in e)
    (call_found text (0 + length before) l deepest is_.tokens p (loop_at text before l behind known) stands is_.parsed)
  where
    loops_stand : (text : List ℕ) (ts : List Token) (ls : List Loop) → text_tokens text ≡ Ok ts → AreLoops (map lexeme_of ts) ls → Apart 0 ls (length text)
    loops_stand text ts ls has loops = loops_apart text ts ls has loops

    loop_at : (text : List ℕ) (before : List Loop) (l : Loop) (behind : List Loop) → AreLoopsOf text (before ++ l ∷ behind) → IsLoopOf text l
    loop_at text [] l behind h = h.0
    loop_at text (m ∷ before) l behind h = loop_at text before l behind h.1
