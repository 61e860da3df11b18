-- A made source is a text, and its tree is the made program.
use Rattle.std.proofs.Common.{◌≡◌, ℕ, zero, suc, ◌+◌, ◌*◌, ◌^◌, ◌<◌, ◌≤◌, Bool, false, cond, List, [], ◌∷◌, ◌++◌, length, map, Option, None, Ok, Err, inr, refl, sym, ap, ◌∙◌, subst, append_assoc, arith}
use Rattle.std.specs.Prelude.{codes}
use Rattle.std.specs.List.{flat_map, range_with_len}
use Rattle.std.proofs.lemmas.Bool.{le-ltb}
use Rattle.std.proofs.lemmas.Grind.{flat_map-append, div_ceil_times}
use Rattle.std.proofs.lemmas.List.{append-nil}
use Rattle.par_tree.specs.Tree.{Name, Stmt, Body, step, Func, Program}
use Rattle.par_text.specs.declared.kind.Kind.TheVariants as k
use Rattle.par_text.specs.declared.syntax_error.SyntaxKind.TheVariants.{TooLong}
use Rattle.par_text.specs.Rule.{Token, Rule, nothing, token, nest}
use Rattle.par_text.specs.Form.{Marked, Form, tokens_of}
use Rattle.par_text.specs.Text.{Shallow, Nested, IsProgram}
use Rattle.par_text.specs.Grammar.{two, name, stmt_rule, stmts_rule, params_rule, param_list, func_body, ret_rule, func_rule}
use Rattle.par_text.specs.Judging.{IsText, deepest}
use Rattle.par_text.specs.Counts.{crowded, at_start}
use Rattle.par_text.specs.Lexing.{Lexed, pieces, lexed, forbidden, longest_text, of_allowed, text_tokens}
use Rattle.par_text.proofs.Marks.{tokens_of-append, Shallow-append}
use Rattle.par_ownership.specs.Ownership.{main_name}
use Rattle.canonical_text.proofs.Lexemes.{Allowed, allowed-append, none_forbidden, with_tokens, with_tokens-all}
use Rattle.canonical_text.proofs.Written.{spells, means_of}
use Rattle.canonical_text.proofs.Claims.{Fits, Always, roomier}
use Rattle.canonical_text.proofs.Leaves.{IsName, name_fits}
use Rattle.canonical_text.proofs.Symbols.{opens-LeftParen, opens-LeftBrace, reads-Fn, reads-RightParen, reads-RightBrace}
use Rattle.canonical_text.proofs.Counting.{none_crowded}
use Rattle.canonical_text.proofs.Scans.{body_names}
use Rattle.canonical_text.proofs.Limits.{ProgramCount, program_from}
use Rattle.loop_laws.proofs.Joining.{place_after}
use Rattle.loop_laws.proofs.Pieces.{OnOneLine}
use Rattle.loop_laws.proofs.Phrases.{leaf, pair_says, nothing_says, spaced, nest_says}
use Rattle.loop_laws.proofs.TreeLines.{stmt_on}
use Rattle.loop_laws.proofs.FunctionLists.{IsFunction, AreFunctions, functions_program}
use Rattle.made_source.specs.MadeSource.{line as ended_line, text_of, group_line, groups_in, call_line, function_lines, main_lines, made_source}
use Rattle.made_source.proofs.Lengths.{source_short}
use Rattle.made_laws.specs.MadeProgram.{group, call, one_a_line, groups_of, function_name, made_function, made_main, functions_from, function_count, made_program}
use Rattle.made_laws.proofs.Numerals.{join_line, main_is_name, function_is_name, function_line}
use Rattle.made_laws.proofs.GroupTexts.{group_fits, group_one_line, call_fits, call_one_line}
use Rattle.made_laws.proofs.Lines.{Takes, takes_both, takes_nothing, OnLine, on_line, stmt_there}

-- the head of a function without parameters, as a rule of its own
unfoldable head_rule : Rule (Token × (Name × (Token × Unit {0})))
head_rule = two (token k.Fn) (two name (two (nest k.LeftParen (token k.RightParen)) (nest k.LeftBrace (nothing tt))))

abbrev head_text : Name → List ℕ
head_text x = codes "fn " ++ (x ++ codes "() {")

head_fits : {most n : ℕ} (x : Name) → IsName x → Fits most false (suc n) head_rule (λ y. y.1.0 ≡ x) (head_text x)
unfolding head_rule
head_fits x named =
    (pair_says {P = Always} {Q = λ y. y.0 ≡ x} {R = λ y. y.1.0 ≡ x} (λ a b. (a, b)) (λ rest c. (refl, refl)) (λ a b p q. q) (leaf (codes "fn") reads-Fn)
    (spaced (pair_says {P = λ y. y ≡ x} {Q = Always} {R = λ y. y.0 ≡ x} (λ a b. (a, b)) (λ rest c. (refl, refl)) (λ a b p q. p) (leaf x (name_fits x named))
    (pair_says {P = Always} {Q = Always} {R = Always} (λ a b. (a, b)) (λ rest c. (refl, refl)) (λ a b p q. tt)
    (nest_says opens-LeftParen (leaf (codes ")") reads-RightParen)) (spaced (nest_says opens-LeftBrace (nothing_says tt))))))).fits

-- the line is read as this statement
abbrev Line : Stmt → ℕ → List ℕ → Type 0
Line s line bs = OnOneLine bs × Fits deepest false 2 stmt_rule (λ y. stmt_on line y.1 ≡ s) bs

plain_function : Name → Body → ℕ → Func
plain_function x b line = record { name = x; params = []; body = b; ret = None; line = line }

same_function : (y x : Name) (c b : Body) (l line : ℕ) → y ≡ x → c ≡ b → l ≡ line → plain_function y c l ≡ plain_function x b line
same_function y x c b l line p q r = ap (λ z. plain_function z c l) p ∙ ap (λ z. plain_function x z l) q ∙ ap (λ z. plain_function x b z) r

before_brace : (ms ns : List Marked) → tokens_of ((ms ++ []) ++ ns) ≡ tokens_of ms ++ tokens_of ns
before_brace ms ns = ap (λ (os : List Marked). tokens_of (os ++ ns)) (append-nil ms) ∙ tokens_of-append ms ns

text_both : (xs ys : List (List ℕ)) → text_of (xs ++ ys) ≡ text_of xs ++ text_of ys
text_both xs ys = flat_map-append ended_line xs ys

-- Inside a function, whose brace is the first of all that are open, m more constructs may open.
module _ (m : ℕ) (room : 1 + m ≡ deepest) (enough : 2 ≤ m) where
  abbrev size : ℕ
  size = suc m

  one_stmt : (at line : ℕ) (bs : List ℕ) (s : Stmt) → Line s line bs → OnLine deepest size 1 stmt_rule (λ y. (y.0 ≡ line) × (y.1 ≡ s)) at line bs
  one_stmt at line bs s h =
      let o = on_line at line bs h.0 (h.1.writes m 1 enough room) in
      let there = stmt_there size line o.form o.there in
      record { form = o.form; means = (sym there.begins, sym there.stmt ∙ o.means); shallow = o.shallow; there = o.there; takes = o.takes; allowed = o.allowed }

  -- statements, each on a line of its own
  record HasStmts (at line : ℕ) (bs : List ℕ) (b : Body) (last : ℕ) : Type 0 where
    form : Form (Nested size) stmts_rule
    end : ℕ
    takes : Takes at line bs (tokens_of (spells size 1 stmts_rule form)) end last
    means : means_of size stmts_rule form ≡ b
    shallow : Shallow deepest (spells size 1 stmts_rule form)
    allowed : Allowed bs

  lines_read :
      (f : ℕ → List ℕ) (stmt : ℕ → ℕ → Stmt) (i count at line last : ℕ) → line + count ≡ last
      → ((j l : ℕ) → i ≤ j → j < i + count → Line (stmt j l) l (f j))
      → HasStmts at line (text_of (map f (range_with_len i count))) (one_a_line stmt i count line) last
  unfolding stmts_rule
  lines_read f stmt i zero at line last is each = record {
    form = [];
    end = at;
    takes = subst (λ (l : ℕ). Takes at line [] [] at l) (let e : line ≡ last = omega (arith, is) in e) (takes_nothing at line);
    means = refl;
    shallow = tt;
    allowed = tt;
  }
  lines_read f stmt i (suc count) at line last is each =
      let o = one_stmt at line (f i) (stmt i line) (each i line (omega arith) (omega arith)) in
      let rest = lines_read f stmt (i + 1) count (place_after at (f i) + 1) (line + 1) last (omega (arith, is))
      (λ j l above below. each j l (omega (arith, above)) (omega (arith, below))) in
      let ms : List Marked = spells size 1 stmt_rule o.form in
      let ns : List Marked = spells size 1 stmts_rule rest.form in
      let begun = means_of size stmt_rule o.form in
      let more : Body = one_a_line stmt (i + 1) count (line + 1) in
      record {
        form = o.form ∷ rest.form;
        end = rest.end;
        takes = subst (λ (ts : List Token). Takes at line (ended_line (f i) ++ text_of (map f (range_with_len (i + 1) count))) ts rest.end last)
            (sym (tokens_of-append ms ns)) (takes_both o.takes rest.takes);
        means = ap (λ b. step begun.0 begun.1 b) rest.means ∙ ap (λ l. step l begun.1 more) o.means.0 ∙ ap (λ s. step line s more) o.means.1;
        shallow = Shallow-append deepest ms ns o.shallow rest.shallow;
        allowed = allowed-append (ended_line (f i)) (text_of (map f (range_with_len (i + 1) count))) o.allowed rest.allowed;
      }

  -- a function
  record HasFunction (at line : ℕ) (bs : List ℕ) (f : Func) (last : ℕ) : Type 0 where
    tokens : List Token
    end : ℕ
    takes : Takes at line bs tokens end last
    is_function : IsFunction deepest (suc size) tokens f
    allowed : Allowed bs

  function_read : (at line : ℕ) (x : Name) (ls : List (List ℕ)) (b : Body) (inner : ℕ) → IsName x → OnOneLine x
      → ((at : ℕ) → HasStmts at (line + 1) (text_of ls) b inner)
      → HasFunction at line (text_of (head_text x ∷ ls ++ codes "}" ∷ [])) (plain_function x b line) (inner + 1)
  unfolding plain_function head_rule func_rule name params_rule param_list func_body ret_rule
  function_read at line x ls b inner named one stmts =
      let one_more : 1 ≤ suc m = omega arith in
      let whole : 0 + suc m ≡ deepest = omega (arith, room) in
      let h = on_line at line (head_text x) (join_line x (codes "() {") one refl) ((head_fits {n = 0} x named).writes (suc m) 0 one_more whole) in
      let s = stmts (place_after at (head_text x) + 1) in
      let brace : Fits deepest false 0 (token k.RightBrace) Always (codes "}") = reads-RightBrace in
      let none : 0 ≤ m = omega arith in
      let e = on_line s.end inner (codes "}") refl (brace.writes m 1 none room) in
      let form : Form (Nested (suc size)) func_rule =
      (h.form.0, (h.form.1.0, ((h.form.1.1.0.0, (inr tt, h.form.1.1.0.1)), (h.form.1.1.1.0, ((s.form, inr tt), e.form))))) in
      let ms : List Marked = spells size 1 stmts_rule s.form in
      let last : List Marked = record { token = e.form.0; depth = 1 } ∷ [] in
      let front : List Token = h.form.0.0 ∷ h.form.1.0.0 ∷ h.form.1.1.0.0.0 ∷ h.form.1.1.0.1.0 ∷ h.form.1.1.1.0.0 ∷ [] in
      let tokens : List Token = front ++ (tokens_of ms ++ tokens_of last) in
      let text : text_of (head_text x ∷ ls ++ codes "}" ∷ []) ≡ ended_line (head_text x) ++ (text_of ls ++ ended_line (codes "}")) =
      ap (λ (bs : List ℕ). ended_line (head_text x) ++ bs) (text_both ls (codes "}" ∷ [])) in
      record {
        tokens = tokens;
        end = place_after s.end (codes "}") + 1;
        takes = subst (λ (bs : List ℕ). Takes at line bs tokens (place_after s.end (codes "}") + 1) (inner + 1)) (sym text)
            (takes_both h.takes (takes_both s.takes e.takes));
        is_function = record {
          form = form;
          spelled = ap (λ (ts : List Token). front ++ ts) (before_brace ms last);
          means = same_function _ x _ b _ line h.means s.means h.there.0;
          shallow =
              let inside : Shallow deepest ((ms ++ []) ++ last) = subst (λ (ns : List Marked). Shallow deepest (ns ++ last)) (sym (append-nil ms))
              (Shallow-append deepest ms last s.shallow e.shallow) in
              (h.shallow.0, (h.shallow.1.0, (h.shallow.1.1.0, (h.shallow.1.1.1.0, (h.shallow.1.1.1.1.0, inside)))));
        };
        allowed =
            subst (λ (bs : List ℕ). Allowed bs) (sym text)
            (allowed-append (ended_line (head_text x)) (text_of ls ++ ended_line (codes "}")) h.allowed
            (allowed-append (text_of ls) (ended_line (codes "}")) s.allowed e.allowed));
      }

  -- the functions, and `main` after them
  record HasFunctions (at line : ℕ) (bs : List ℕ) (p : Program) : Type 0 where
    tokens : List Token
    end : ℕ
    last : ℕ
    takes : Takes at line bs tokens end last
    are : AreFunctions deepest (suc size) tokens p
    allowed : Allowed bs

  main_read : (functions at line : ℕ) → functions < 2 ^ 64
      → HasFunction at line (text_of (main_lines (range_with_len 0 functions))) (made_main functions line) (line + 1 + functions + 1)
  unfolding plain_function main_lines
  main_read functions at line low =
      function_read at line main_name (map call_line (range_with_len 0 functions)) (one_a_line call 0 functions (line + 1))
      (line + 1 + functions) main_is_name refl
      (λ place. lines_read call_line call 0 functions place (line + 1) (line + 1 + functions) refl
      (λ j l above below. (call_one_line j (omega (arith, below, low)), roomier 2 (omega arith) (call_fits {n = 0} j (omega (arith, below, low))))))

  one_read : (n j at line : ℕ) → n ≤ 8000 → j < 2 ^ 64
      → HasFunction at line (text_of (function_lines n j)) (made_function n j line) (line + 1 + groups_of n j + 1)
  unfolding plain_function function_lines
  one_read n j at line most low =
      function_read at line (function_name j) (map group_line (groups_in n j)) (one_a_line group (64 * j) (groups_of n j) (line + 1)) (line + 1 + groups_of n j)
      (function_is_name j low) (function_line j low)
      (λ place. lines_read group_line group (64 * j) (groups_of n j) place (line + 1) (line + 1 + groups_of n j) refl
      (λ i l above below. (group_one_line i (omega (arith, below, most)), group_fits {n = 0} i (omega (arith, below, most)))))

  functions_read : (n functions j count at line : ℕ) → n ≤ 8000 → functions < 2 ^ 64 → j + count < 2 ^ 64
      → HasFunctions at line (text_of (flat_map (function_lines n) (range_with_len j count) ++ main_lines (range_with_len 0 functions)))
      (functions_from n functions j count line)
  functions_read n functions j zero at line most few low =
      let h = main_read functions at line few in
      record {
        tokens = h.tokens;
        end = h.end;
        last = line + 1 + functions + 1;
        takes = h.takes;
        are = (h.tokens, [], sym (append-nil h.tokens), h.is_function, refl);
        allowed = h.allowed;
      }
  functions_read n functions j (suc count) at line most few low =
      let h = one_read n j at line most (omega (arith, low)) in
      let rest = functions_read n functions (j + 1) count h.end (line + 1 + groups_of n j + 1) most few (omega (arith, low)) in
      let ls : List (List ℕ) = function_lines n j in
      let more : List (List ℕ) = flat_map (function_lines n) (range_with_len (j + 1) count) in
      let main : List (List ℕ) = main_lines (range_with_len 0 functions) in
      let text : text_of ((ls ++ more) ++ main) ≡ text_of ls ++ text_of (more ++ main) =
      ap text_of (append_assoc ls more main) ∙ text_both ls (more ++ main) in
      record {
        tokens = h.tokens ++ rest.tokens;
        end = rest.end;
        last = rest.last;
        takes = subst (λ (bs : List ℕ). Takes at line bs (h.tokens ++ rest.tokens) rest.end rest.last) (sym text) (takes_both h.takes rest.takes);
        are = (h.tokens, rest.tokens, refl, h.is_function, rest.are);
        allowed = subst (λ (bs : List ℕ). Allowed bs) (sym text) (allowed-append (text_of ls) (text_of (more ++ main)) h.allowed rest.allowed);
      }

-- the functions are a program

one_program : (size n functions j count line : ℕ) (ts : List Token) → AreFunctions deepest size ts (functions_from n functions j count line)
    → IsProgram deepest ts (functions_from n functions j count line)
one_program size n functions j zero line ts are = functions_program deepest size ts (made_main functions line) [] are
one_program size n functions j (suc count) line ts are =
    functions_program deepest size ts (made_function n j line) (functions_from n functions (j + 1) count (line + 1 + groups_of n j + 1)) are

-- it has few functions, with few names each

group_names : (i count line : ℕ) → body_names (one_a_line group i count line) ≡ 2 * count
group_names i zero line = refl
group_names i (suc count) line = let rest = group_names (i + 1) count (line + 1) in omega (arith, rest)

call_names : (i count line : ℕ) → body_names (one_a_line call i count line) ≡ 0
call_names i zero line = refl
call_names i (suc count) line = let rest = call_names (i + 1) count (line + 1) in omega (arith, rest)

few : (n functions j count line before : ℕ) → before + count < 1000 → ProgramCount before (functions_from n functions j count line)
few n functions j zero line before room = let calls = call_names 0 functions (line + 1) in ((omega (arith, room), omega (arith, calls)), tt)
few n functions j (suc count) line before room =
    let groups = group_names (64 * j) (groups_of n j) (line + 1) in (
      (omega (arith, room), omega (arith, groups)),
      few n functions (j + 1) count (line + 1 + groups_of n j + 1) (before + 1) (omega (arith, room)),
    )

counted : (most : ℕ) (ts : List Token) (p : Program) → IsProgram most ts p → ProgramCount 0 p → crowded ts ≡ None
counted most ts p is count =
    subst (λ (us : List Token). crowded us ≡ None) is.spelled
    (none_crowded 0 at_start _ (program_from is.size 0 is.form at_start (subst (λ (q : Program). ProgramCount 0 q) (sym is.means) count)))

-- the text is not too long, and has no byte that a text may not have

nothing_lexed : (at line : ℕ) → lexed (pieces 0 at line []) ≡ Ok []
unfolding pieces lexed
nothing_lexed at line = refl

has_tokens : (text : List ℕ) (ts : List Token) (end last : ℕ) → length text ≤ longest_text → Allowed text → Takes 0 1 text ts end last
    → text_tokens text ≡ Ok ts
unfolding text_tokens
has_tokens text ts end last short allowed h =
    ap (λ (b : Bool). cond b (Err (record { kind = TooLong; at = longest_text })) (of_allowed (forbidden 0 text) text))
    (le-ltb longest_text (length text) short)
    ∙ ap (λ (o : Option ℕ). of_allowed o text) (none_forbidden 0 text allowed)
    ∙ ap (λ (bs : List ℕ). lexed (pieces 0 0 1 bs)) (sym (append-nil text))
    ∙ h.takes []
    ∙ ap (λ (l : Lexed). with_tokens ts l) (nothing_lexed end last)
    ∙ with_tokens-all ts

pub made_sources_are_texts : (n : ℕ) → n ≤ 8000 → IsText (made_source n) (made_program n)
made_sources_are_texts n most =
    let count : ℕ = function_count n in
    let bounds = div_ceil_times n 64 (omega arith) in
    let h = functions_read 63 refl (omega arith) n count 0 count 0 1 most (omega (arith, bounds.1)) (omega (arith, bounds.1)) in
    let parsed = one_program 65 n count 0 count 1 h.tokens h.are in
    record {
      tokens = h.tokens;
      lexed = has_tokens (made_source n) h.tokens h.end h.last (source_short n most) h.allowed h.takes;
      parsed = parsed;
      counted = counted deepest h.tokens (made_program n) parsed (few n count 0 count 1 0 (omega (arith, bounds.1)));
    }
