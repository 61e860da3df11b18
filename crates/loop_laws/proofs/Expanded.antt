-- The program of an expansion is that of the text in which each loop is replaced, and the helpers behind it.
use Rattle.std.proofs.Common.{◌≡◌, ℕ, zero, suc, ◌+◌, ◌^◌, ◌<◌, ◌≤◌, Bool, true, false, cond, List, [], ◌∷◌, ◌++◌, length, map, Option, Some, None, Ok, Err, refl, sym, ap, ◌∙◌, subst, arith, append_assoc, length-append}
use Rattle.std.specs.Prelude.{nat_lt}
use Rattle.std.specs.Option.{option_or}
use Rattle.std.specs.Str.{bytes_eq}
use Rattle.std.proofs.lemmas.Bool.{le-ltb}
use Rattle.std.proofs.lemmas.List.{append-nil}
use Rattle.std.proofs.lemmas.Slice.Eq.{bytes_eq-Decides}
use Rattle.std.proofs.lemmas.List.Folds.{find-append}
use Rattle.par_tree.specs.Tree.{Name, Func, Program}
use Rattle.par_text.specs.declared.syntax_error.SyntaxKind.TheVariants.{TooLong}
use Rattle.par_text.specs.Rule.{Token}
use Rattle.par_text.specs.Counts.{Before, at_start, after, is_too_many, crowded_from, crowded}
use Rattle.par_text.specs.Lexing.{Lexed, pieces, lexed, is_allowed, forbidden, of_allowed, longest_text, text_tokens}
use Rattle.par_text.specs.Text.{IsProgram}
use Rattle.par_text.specs.Judging.{deepest, IsText}
use Rattle.par_ownership.specs.Ownership.{function_of, HaveNewNames, main_name, Ownership}
use Rattle.loop_expand.specs.Loops.{Range, numbers, parts, Loop, AreLoops}
use Rattle.loop_expand.specs.Texts.{bytes_of, sum_name}
use Rattle.loop_expand.specs.Expansion.{lexeme_of, replaced, helper_lines, expansion}
use Rattle.loop_laws.specs.HelperFunctions.{range_function, helper_function, helper_functions}
use Rattle.loop_laws.specs.TreeLaws.{HelpersStandBehind, EachLoopHasItsHelper}
use Rattle.loop_laws.proofs.Joining.{place_after, lines_after, joined, behind_line, BothHave, both_have, lexed_of_text}
use Rattle.loop_laws.proofs.FunctionLists.{AreFunctions, program_functions, functions_program, functions_start, Cut, cut_functions, same_functions}
use Rattle.loop_laws.proofs.LoopTokens.{lexemes_of_text, loops_of_text}
use Rattle.loop_laws.proofs.HelperTokens.{helper_size, helpers_are}

-- a front of a text is a text

forbidden_front : (at : ℕ) (u v : List ℕ) → forbidden at (u ++ v) ≡ None → forbidden at u ≡ None
unfolding forbidden
forbidden_front at [] v e = refl
forbidden_front at (c ∷ u) v e = by_test (is_allowed c) (forbidden_front (at + 1) u v) e
  where
    by_test : (b : Bool) → (forbidden (at + 1) (u ++ v) ≡ None → forbidden (at + 1) u ≡ None) → cond b (forbidden (at + 1) (u ++ v)) (Some at) ≡ None → cond b (forbidden (at + 1) u) (Some at) ≡ None
    by_test true more e = more e
    by_test false more e = e

uncrowded_front : (i : ℕ) (b : Before) (ts us : List Token) → crowded_from i b (ts ++ us) ≡ None → crowded_from i b ts ≡ None
unfolding crowded_from
uncrowded_front i b [] us e = refl
uncrowded_front i b (t ∷ ts) us e = by_test (is_too_many (after b t.kind)) (uncrowded_front (i + 1) (after b t.kind) ts us) e
  where
    by_test : (c : Bool) → (crowded_from (i + 1) (after b t.kind) (ts ++ us) ≡ None → crowded_from (i + 1) (after b t.kind) ts ≡ None)
        → cond c (Some i) (crowded_from (i + 1) (after b t.kind) (ts ++ us)) ≡ None → cond c (Some i) (crowded_from (i + 1) (after b t.kind) ts) ≡ None
    by_test true more e = e
    by_test false more e = more e

abbrev too_long : Lexed
too_long = Err (record { kind = TooLong; at = longest_text })

allowed_of_text : (text : List ℕ) (ts : List Token) → text_tokens text ≡ Ok ts → forbidden 0 text ≡ None
unfolding text_tokens
allowed_of_text text ts is = by_length (nat_lt longest_text (length text)) is
  where
    by_bytes : (o : Option ℕ) → of_allowed o text ≡ Ok ts → o ≡ None
    by_bytes (Some at) h = cc
    by_bytes None h = refl

    by_length : (b : Bool) → cond b too_long (of_allowed (forbidden 0 text) text) ≡ Ok ts → forbidden 0 text ≡ None
    by_length true h = cc
    by_length false h = by_bytes (forbidden 0 text) h

text_of_lexed : (text : List ℕ) (ts : List Token) → length text ≤ longest_text → forbidden 0 text ≡ None → lexed (pieces 0 0 1 text) ≡ Ok ts → text_tokens text ≡ Ok ts
unfolding text_tokens
text_of_lexed text ts short allowed e =
    ap (λ b. cond b too_long (of_allowed (forbidden 0 text) text)) (le-ltb longest_text (length text) short) ∙ ap (λ o. of_allowed o text) allowed ∙ e

-- functions by their names

main_no_helper : (text : List ℕ) (ls : List Loop) (j line : ℕ) → function_of (helper_functions text j line ls) main_name ≡ None
main_no_helper text [] j line = refl
main_no_helper text (l ∷ ls) j line = by_range l.range ∙ main_no_helper text ls (j + 1) (line + 1)
  where
    by_range : (r : Range) → function_of (range_function r (sum_name j) (bytes_of text l.function) (length l.others) line ∷ helper_functions text (j + 1) (line + 1) ls) main_name ≡ function_of (helper_functions text (j + 1) (line + 1) ls) main_name
    by_range (numbers low high) = refl
    by_range (parts block most) = refl

range_name : (r : Range) (sum f : Name) (k line : ℕ) → (range_function r sum f k line).name ≡ sum
range_name (numbers low high) sum f k line = refl
range_name (parts block most) sum f k line = refl

bytes_eq-same : (x : Name) → bytes_eq x x ≡ true
bytes_eq-same x = (bytes_eq-Decides x x).1 refl

-- what stands before a function has not its name
new_behind : (before a : List Func) (h : Func) (b : List Func) → HaveNewNames before (a ++ h ∷ b) → function_of (before ++ a) h.name ≡ None
new_behind before [] h b new = ap (λ fs. function_of fs h.name) (append-nil before) ∙ new.0
new_behind before (f ∷ a) h b new = ap (λ fs. function_of fs h.name) (sym (append_assoc before (f ∷ []) a)) ∙ new_behind (before ++ f ∷ []) a h b new.1

none_in_front : (x : Name) (a b : List Func) → function_of (a ++ b) x ≡ None → function_of a x ≡ None
none_in_front x a b e = by_front (function_of a x) (sym (find-append (λ (g : Func). bytes_eq g.name x) a b) ∙ e)
  where
    by_front : (o : Option Func) → option_or o (function_of b x) ≡ None → o ≡ None
    by_front None e = refl
    by_front (Some f) e = e

found_behind : (a : List Func) (h : Func) (b : List Func) (x : Name) → function_of a x ≡ None → h.name ≡ x → function_of (a ++ h ∷ b) x ≡ Some h
found_behind a h b x none named =
    find-append (λ (g : Func). bytes_eq g.name x) a (h ∷ b)
    ∙ ap (λ o. option_or o (function_of (h ∷ b) x)) none
    ∙ ap (λ c. cond c (Some h) (function_of b x)) (ap (λ y. bytes_eq y x) named ∙ bytes_eq-same x)

-- one helper among the others
record Among (text : List ℕ) (fs : List Func) (j : ℕ) (l : Loop) : Type 0 where
  front : List Func
  line : ℕ
  behind : List Func
  all : fs ≡ front ++ helper_function text j l line ∷ behind

among : (text : List ℕ) (before : List Loop) (l : Loop) (behind : List Loop) (j i line : ℕ) → j + length before ≡ i → Among text (helper_functions text j line (before ++ l ∷ behind)) i l
among text [] l behind j i line e =
    record { front = []; line = line; behind = helper_functions text (j + 1) (line + 1) behind; all = ap (λ n. helper_function text n l line ∷ helper_functions text (j + 1) (line + 1) behind) (let same : j ≡ i = omega (arith, e) in same) }
among text (m ∷ before) l behind j i line e =
    let more = among text before l behind (j + 1) i (line + 1) (omega (arith, e)) in
    record { front = helper_function text j m line ∷ more.front; line = more.line; behind = more.behind; all = ap (λ fs. helper_function text j m line ∷ fs) more.all }

-- a loop by its rank
record At (ls : List Loop) (j : ℕ) : Type 0 where
  before : List Loop
  loop : Loop
  behind : List Loop
  all : ls ≡ before ++ loop ∷ behind
  rank : length before ≡ j

at_rank : (ls : List Loop) (j : ℕ) → j < length ls → At ls j
at_rank [] j lt = absurd (omega (arith, lt))
at_rank (l ∷ ls) zero lt = record { before = []; loop = l; behind = ls; all = refl; rank = refl }
at_rank (l ∷ ls) (suc j) lt =
    let more = at_rank ls j (omega (arith, lt)) in
    record { before = l ∷ more.before; loop = more.loop; behind = more.behind; all = ap (λ ms. l ∷ ms) more.all; rank = ap suc more.rank }

-- a helper in a program with new names
record Helper (text : List ℕ) (p front : Program) (j : ℕ) (l : Loop) : Type 0 where
  line : ℕ
  found : function_of p (sum_name j) ≡ Some (helper_function text j l line)
  new : function_of front (sum_name j) ≡ None

helper_named : (text : List ℕ) (j : ℕ) (l : Loop) (line : ℕ) → (helper_function text j l line).name ≡ sum_name j
helper_named text j l line = range_name l.range (sum_name j) (bytes_of text l.function) (length l.others) line

has_helper : (text : List ℕ) (ls : List Loop) (p front : Program) (line : ℕ) (j : ℕ) (before : List Loop) (l : Loop) (behind : List Loop) → ls ≡ before ++ l ∷ behind → length before ≡ j
    → p ≡ front ++ helper_functions text 0 line ls → HaveNewNames [] p → Helper text p front j l
has_helper text ls p front line j before l behind cut rank all new =
    let here = among text before l behind 0 j line (let e : 0 + length before ≡ j = omega (arith, rank) in e) in
    let h : Func = helper_function text j l here.line in
    let parts : p ≡ (front ++ here.front) ++ h ∷ here.behind = all ∙ ap (λ ms. front ++ helper_functions text 0 line ms) cut ∙ ap (λ fs. front ++ fs) here.all ∙ sym (append_assoc front here.front (h ∷ here.behind)) in
    let named : h.name ≡ sum_name j = helper_named text j l here.line in
    let none : function_of (front ++ here.front) (sum_name j) ≡ None = ap (function_of (front ++ here.front)) (sym named) ∙ new_behind [] (front ++ here.front) h here.behind (subst (HaveNewNames []) parts new) in
    record {
      line = here.line;
      found = ap (λ q. function_of q (sum_name j)) parts ∙ found_behind (front ++ here.front) h here.behind (sum_name j) none named;
      new = none_in_front (sum_name j) front here.front none;
    }

-- the program, cut before the helpers
record Front (text : List ℕ) (ls : List Loop) (p : Program) : Type 0 where
  size : ℕ
  tokens : List Token
  front : Program
  line : ℕ
  all : p ≡ front ++ helper_functions text 0 line ls
  short : length (replaced text ls) ≤ longest_text
  allowed : forbidden 0 (replaced text ls) ≡ None
  lexes : lexed (pieces 0 0 1 (replaced text ls)) ≡ Ok tokens
  are : AreFunctions deepest size tokens front
  counted : crowded tokens ≡ None

front_of : (text : List ℕ) (ts : List Token) (ls : List Loop) (p : Program) → text_tokens text ≡ Ok ts → AreLoops (map lexeme_of ts) ls → IsText (expansion text ls) p → Front text ls p
front_of text ts [] p has loops is =
    let same : expansion text [] ≡ replaced text [] = append-nil (replaced text []) in
    let lexes = lexed_of_text (replaced text []) is.tokens (subst (λ u. text_tokens u ≡ Ok is.tokens) same is.lexed) in
    record {
      size = is.parsed.size;
      tokens = is.tokens;
      front = p;
      line = 0;
      all = sym (append-nil p);
      short = lexes.0;
      allowed = allowed_of_text (replaced text []) is.tokens (subst (λ u. text_tokens u ≡ Ok is.tokens) same is.lexed);
      lexes = lexes.1;
      are = program_functions deepest is.tokens p is.parsed;
      counted = is.counted;
    }
front_of text ts (l ∷ ls) p has loops is =
    let r : List ℕ = replaced text (l ∷ ls) in
    let hs : List ℕ = helper_lines text 0 (l ∷ ls) in
    let lexes = lexed_of_text (r ++ 10 ∷ hs) is.tokens is.lexed in
    let long : length (r ++ 10 ∷ hs) ≡ length r + suc (length hs) = length-append r (10 ∷ hs) in
    let both : BothHave (lexed (pieces 0 0 1 r)) (lexed (pieces 0 (place_after 0 r) (lines_after 1 r) (10 ∷ hs))) is.tokens =
    both_have (lexed (pieces 0 0 1 r)) (lexed (pieces 0 (place_after 0 r) (lines_after 1 r) (10 ∷ hs))) is.tokens (sym (joined 0 0 1 r hs (omega arith)) ∙ lexes.1) in
    let line : ℕ = lines_after 1 r + 1 in
    let helpers : AreFunctions deepest helper_size both.behind (helper_functions text 0 line (l ∷ ls)) =
    helpers_are text (l ∷ ls) 0 (place_after 0 r + 1) line both.behind (loops_of_text text (map lexeme_of ts) (l ∷ ls) (lexemes_of_text text ts has) loops)
    (let small : 0 + length hs < 2 ^ 64 = omega (arith, lexes.0, long) in small) (sym (behind_line (place_after 0 r) (lines_after 1 r) hs) ∙ both.behind_is) in
    let cut : Cut deepest is.parsed.size both.front both.behind p =
    cut_functions deepest is.parsed.size both.front both.behind p (functions_start deepest helper_size both.behind (helper_functions text 0 line (l ∷ ls)) helpers)
    (subst (λ us. AreFunctions deepest is.parsed.size us p) both.both (program_functions deepest is.tokens p is.parsed)) in
    record {
      size = is.parsed.size;
      tokens = both.front;
      front = cut.front;
      line = line;
      all = cut.all ∙ ap (λ fs. cut.front ++ fs) (same_functions deepest is.parsed.size helper_size both.behind cut.behind (helper_functions text 0 line (l ∷ ls)) cut.behind_are helpers);
      short = omega (arith, lexes.0, long);
      allowed = forbidden_front 0 r (10 ∷ hs) (allowed_of_text (r ++ 10 ∷ hs) is.tokens is.lexed);
      lexes = both.front_is;
      are = cut.front_are;
      counted = uncrowded_front 0 at_start both.front both.behind (subst (λ us. crowded us ≡ None) both.both is.counted);
    }

none_some : (f : Func) → ◌≡◌ {A = Option Func} None (Some f) → ⊥
none_some f e = cc

front_program : (text : List ℕ) (ls : List Loop) (p : Program) (f : Front text ls p) → Ownership p → IsProgram deepest f.tokens f.front
front_program text ls p f own = by_front f.front f.all f.are
  where
    by_front : (front : Program) → p ≡ front ++ helper_functions text 0 f.line ls → AreFunctions deepest f.size f.tokens front → IsProgram deepest f.tokens front
    by_front [] all are = absurd (none_some own.main.0 (sym (main_no_helper text ls 0 f.line) ∙ ap (λ q. function_of q main_name) (sym all) ∙ own.main.1))
    by_front (g ∷ gs) all are = functions_program deepest f.size f.tokens g gs are

pub helpers_stand_behind : HelpersStandBehind
helpers_stand_behind text ts ls p has loops is own =
    let f = front_of text ts ls p has loops is in
    record {
      front = f.front;
      line = f.line;
      all = f.all;
      is_text = record { tokens = f.tokens; lexed = text_of_lexed (replaced text ls) f.tokens f.short f.allowed f.lexes; parsed = front_program text ls p f own; counted = f.counted };
      names = λ j lt. let here = at_rank ls j lt in (has_helper text ls p f.front f.line j here.before here.loop here.behind here.all here.rank f.all own.new_names).new;
    }

pub each_loop_has_its_helper : EachLoopHasItsHelper
each_loop_has_its_helper text ts before l behind p has loops is own =
    let f = front_of text ts (before ++ l ∷ behind) p has loops is in
    let h = has_helper text (before ++ l ∷ behind) p f.front f.line (length before) before l behind refl refl f.all own.new_names in
    (h.line, h.found)
