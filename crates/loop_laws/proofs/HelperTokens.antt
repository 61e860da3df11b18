-- The helper lines of an expansion are the helpers, as functions.
use Rattle.std.proofs.Common.{◌≡◌, ℕ, zero, suc, ◌+◌, ◌^◌, ◌<◌, ◌≤◌, false, List, [], ◌∷◌, ◌++◌, length, Ok, refl, sym, ap, ◌∙◌, arith, length-append}
use Rattle.std.specs.Prelude.{◌&&◌, codes}
use Rattle.std.specs.List.{list_all}
use Rattle.std.specs.Fmt.{decimal}
use Rattle.std.proofs.lemmas.List.{append-nil}
use Rattle.std.proofs.lemmas.List.Folds.{list_all-append}
use Rattle.par_tree.specs.Tree.{Func}
use Rattle.par_text.specs.declared.kind.Kind.TheVariants.{Name, Number}
use Rattle.par_text.specs.Rule.{Token}
use Rattle.par_text.specs.Form.{tokens_of}
use Rattle.par_text.specs.Grammar.{func_rule}
use Rattle.par_text.specs.Judging.{deepest}
use Rattle.par_text.specs.Lexing.{is_not_newline, pieces, lexed}
use Rattle.par_text.proofs.KindLemmas.{both_true}
use Rattle.canonical_text.proofs.Lexemes.{with_tokens, with_tokens-all}
use Rattle.canonical_text.proofs.Written.{spells, means_of}
use Rattle.canonical_text.proofs.Claims.{Fits}
use Rattle.canonical_text.proofs.Leaves.{IsName}
use Rattle.loop_expand.specs.Loops.{Range, numbers, parts, Loop}
use Rattle.loop_expand.specs.Texts.{bytes_of, sum_name, more_names, range_helper, helper_text}
use Rattle.loop_expand.specs.Expansion.{helper_lines}
use Rattle.loop_laws.specs.HelperFunctions.{words_of, range_function, helper_function, helper_functions}
use Rattle.loop_laws.proofs.Joining.{place_after, lines_after, joined, behind_line, BothHave, same_tokens, both_have}
use Rattle.loop_laws.proofs.Pieces.{OnOneLine, tokens_on_line, same_line}
use Rattle.loop_laws.proofs.TreeLines.{func_on, tells_func}
use Rattle.loop_laws.proofs.HelperNames.{sum_is_name, further_is_name}
use Rattle.loop_laws.proofs.HelperPhrases.{further_are_names, numbers_read, parts_read}
use Rattle.loop_laws.proofs.FunctionLists.{IsFunction, AreFunctions}
use Rattle.loop_laws.proofs.LoopTokens.{IsRangeOf, AreLoopsOf, token_one_line}

-- the helper's text stands on one line

join_line : (u v : List ℕ) → OnOneLine u → OnOneLine v → OnOneLine (u ++ v)
join_line u v a b = list_all-append is_not_newline u v ∙ ap (λ x. x && list_all is_not_newline v) a ∙ b

more_names_line : (n : ℕ) → n < 2 ^ 64 → OnOneLine (more_names n)
more_names_line zero small = refl
more_names_line (suc n) small = join_line (more_names n) (codes ", c" ++ decimal (suc n)) (more_names_line n (omega arith)) (further_line (suc n) small)
  where
    further_line : (m : ℕ) → m < 2 ^ 64 → OnOneLine (codes ", c" ++ decimal m)
    further_line m small = token_one_line Name (codes "c" ++ decimal m) (further_is_name m small)

range_line : (text : List ℕ) (r : Range) (sum f more : List ℕ) → OnOneLine sum → OnOneLine f → OnOneLine more → IsRangeOf text r → OnOneLine (range_helper text r sum f more)
range_line text (numbers low high) sum f more s g m known =
    join_line sum _ s (join_line more _ m (join_line f _ g (join_line more _ m (join_line sum _ s (join_line more _ m (join_line sum _ s (join_line more _ m refl)))))))
range_line text (parts block most) sum f more s g m known =
    join_line sum _ s (join_line more _ m (join_line (bytes_of text most) _ (token_one_line Number (bytes_of text most) known.0)
    (join_line f _ g (join_line more _ m (join_line sum _ s (join_line more _ m (join_line sum _ s (join_line more _ m refl))))))))

-- it is no shorter than the loop has further arguments

longer_front : (u v : List ℕ) → length u ≤ length (u ++ v)
longer_front u v = omega (arith, length-append u v)

longer_behind : (u v : List ℕ) → length v ≤ length (u ++ v)
longer_behind u v = omega (arith, length-append u v)

more_names_long : (n : ℕ) → n ≤ length (more_names n)
more_names_long zero = omega arith
more_names_long (suc n) =
    let more = more_names_long n in
    omega (arith, more, length-append (more_names n) (codes ", c" ++ decimal (suc n)))

range_long : (text : List ℕ) (r : Range) (sum f more : List ℕ) → length more ≤ length (range_helper text r sum f more)
range_long text (numbers low high) sum f more = in_sum sum _ (longer_front more _)
  where
    in_sum : (u v : List ℕ) → length more ≤ length v → length more ≤ length (codes "fn " ++ (u ++ (codes "(lo, n" ++ v)))
    in_sum u v h = let a = longer_behind u (codes "(lo, n" ++ v) in omega (arith, h, a)
range_long text (parts block most) sum f more = in_sum sum _ (longer_front more _)
  where
    in_sum : (u v : List ℕ) → length more ≤ length v → length more ≤ length (codes "fn " ++ (u ++ (codes "(use b" ++ v)))
    in_sum u v h = let a = longer_behind u (codes "(use b" ++ v) in omega (arith, h, a)

-- it is read as the helper

range_reads : (line : ℕ) (text : List ℕ) (r : Range) (sum f : List ℕ) (n : ℕ) → n < 2 ^ 64 → IsName sum → IsName f → IsRangeOf text r
    → Fits deepest false 5 func_rule (λ y. func_on line y ≡ range_function r sum f n line) (range_helper text r sum f (more_names n))
range_reads line text (numbers low high) sum f n small s g known = numbers_read {line = line} {n = 0} sum f n s g (further_are_names n small)
range_reads line text (parts block most) sum f n small s g known = parts_read {line = line} {n = 0} sum f n s g (further_are_names n small) (bytes_of text most) (words_of most.value) known

-- the size of the forms of helpers
abbrev pub helper_size : ℕ
helper_size = suc deepest

-- the tokens of a helper, at a place on a line
record HasTokens (at line : ℕ) (bs : List ℕ) (f : Func) : Type 0 where
  tokens : List Token
  lexes : lexed (pieces 0 at line bs) ≡ Ok tokens
  are : IsFunction deepest helper_size tokens f

nothing_lexed : (at line : ℕ) → lexed (pieces 0 at line []) ≡ Ok []
unfolding pieces lexed
nothing_lexed at line = refl

has_tokens : (at line : ℕ) (bs : List ℕ) (f : Func) → OnOneLine bs → Fits deepest false 5 func_rule (λ y. func_on line y ≡ f) bs → HasTokens at line bs f
has_tokens at line bs f one fits =
    let w = (fits.writes deepest 0 (omega arith) (omega arith)).written at line [] tt in
    let ts : List Token = tokens_of (spells helper_size 0 func_rule w.form) in
    let lexes : lexed (pieces 0 at line bs) ≡ Ok ts =
    ap (λ us. lexed (pieces 0 at line us)) (sym (append-nil bs)) ∙ w.lexes.same ∙ ap (λ l. with_tokens ts l) (nothing_lexed w.lexes.at_end w.lexes.last_line) ∙ with_tokens-all ts in
    let on : func_on line (means_of helper_size func_rule w.form) ≡ means_of helper_size func_rule w.form = (tells_func {line = line} {size = helper_size} {depth = 0}).tells w.form (tokens_on_line at line bs ts one lexes) in
    record { tokens = ts; lexes = lexes; are = record { form = w.form; spelled = refl; means = sym on ∙ w.means; shallow = w.shallow } }

lines_stay : (line : ℕ) (bs : List ℕ) → OnOneLine bs → lines_after line bs ≡ line
lines_stay line [] one = refl
lines_stay line (c ∷ cs) one =
    let (a, b) = both_true (is_not_newline c) (list_all is_not_newline cs) one in
    ap (λ n. lines_after n cs) (same_line c line a) ∙ lines_stay line cs b

pub helpers_are : (text : List ℕ) (ls : List Loop) (j at line : ℕ) (ts : List Token) → AreLoopsOf text ls → j + length (helper_lines text j ls) < 2 ^ 64
    → lexed (pieces 0 at line (helper_lines text j ls)) ≡ Ok ts → AreFunctions deepest helper_size ts (helper_functions text j line ls)
helpers_are text [] j at line ts known room e = same_tokens ts [] (sym e ∙ nothing_lexed at line)
helpers_are text (l ∷ ls) j at line ts known room e =
    let bs : List ℕ = helper_text text j l in
    let rest : List ℕ = helper_lines text (j + 1) ls in
    let k : ℕ = length l.others in
    let long : length (helper_lines text j (l ∷ ls)) ≡ length bs + suc (length rest) = length-append bs (codes "\n" ++ rest) in
    let enough : k ≤ length bs =
    (let a = range_long text l.range (sum_name j) (bytes_of text l.function) (more_names k) in let b = more_names_long k in omega (arith, a, b)) in
    let small_j : j < 2 ^ 64 = omega (arith, room) in
    let small_k : k < 2 ^ 64 = omega (arith, room, long, enough) in
    let sum_named : IsName (sum_name j) = sum_is_name j small_j in
    let one : OnOneLine bs =
    range_line text l.range (sum_name j) (bytes_of text l.function) (more_names k) (token_one_line Name (sum_name j) sum_named) (token_one_line Name (bytes_of text l.function) known.0.function) (more_names_line k small_k) known.0.range in
    let h = has_tokens at line bs (helper_function text j l line) one (range_reads line text l.range (sum_name j) (bytes_of text l.function) k small_k sum_named known.0.function known.0.range) in
    let both : BothHave (lexed (pieces 0 at line bs)) (lexed (pieces 0 (place_after at bs) (lines_after line bs) (10 ∷ rest))) ts =
    both_have (lexed (pieces 0 at line bs)) (lexed (pieces 0 (place_after at bs) (lines_after line bs) (10 ∷ rest))) ts (sym (joined 0 at line bs rest (omega arith)) ∙ e) in
    let front_same : h.tokens ≡ both.front = same_tokens h.tokens both.front (sym h.lexes ∙ both.front_is) in
    let behind_lexes : lexed (pieces 0 (place_after at bs + 1) (line + 1) rest) ≡ Ok both.behind =
    ap (λ n. lexed (pieces 0 (place_after at bs + 1) (n + 1) rest)) (sym (lines_stay line bs one)) ∙ sym (behind_line (place_after at bs) (lines_after line bs) rest) ∙ both.behind_is in (
      h.tokens,
      both.behind,
      both.both ∙ ap (λ us. us ++ both.behind) (sym front_same),
      h.are,
      helpers_are text ls (j + 1) (place_after at bs + 1) (line + 1) both.behind known.1 (omega (arith, room, long)) behind_lexes,
    )
