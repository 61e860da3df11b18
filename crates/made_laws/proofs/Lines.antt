-- The tokens of a text of lines, line by line, and a statement on a line of its own.
use Rattle.std.proofs.Common.{◌≡◌, ℕ, suc, ◌+◌, List, [], ◌∷◌, ◌++◌, Ok, inr, refl, sym, ap, ◌∙◌, subst, append_assoc, arith}
use Rattle.std.specs.Prelude.{pos}
use Rattle.std.specs.List.{list_all}
use Rattle.std.proofs.lemmas.List.{append-nil}
use Rattle.par_tree.specs.Tree.{Stmt, print_stmt, num, Body, done, step}
use Rattle.par_text.specs.declared.kind.Kind.{Kind}
use Rattle.par_text.specs.declared.kind.Kind.TheVariants as k
use Rattle.par_text.specs.Rule.{Token, Rule}
use Rattle.par_text.specs.Form.{Marked, Form, tokens_of}
use Rattle.par_text.specs.Text.{Shallow, Nested}
use Rattle.par_text.specs.Grammar.{name, stmt_rule, stmts_rule, params_rule, param_list, func_body, ret_rule, func_rule}
use Rattle.par_text.specs.Lexing.{Lexed, is_not_newline, pieces, lexed}
use Rattle.par_text.proofs.KindLemmas.{both_true}
use Rattle.par_text.proofs.Marks.{tokens_of-append}
use Rattle.canonical_text.proofs.Lexemes.{Allowed, allowed-append, with_tokens, with_tokens-append, with_tokens-all}
use Rattle.canonical_text.proofs.Written.{Writes, spells, means_of}
use Rattle.loop_laws.proofs.Joining.{place_after, lines_after, in_front, joined, behind_line}
use Rattle.loop_laws.proofs.Pieces.{Each, IsOnLine, OnOneLine, same_line, tokens_on_line}
use Rattle.loop_laws.proofs.TreeLines.{stmt_on, tells_func}
use Rattle.made_source.specs.MadeSource.{line as ended_line}

-- The tokens of bytes in front of whatever follows, and the place and the line after them.
pub record Takes (at line : ℕ) (bs : List ℕ) (ts : List Token) (end last : ℕ) : Type 0 where
  pub takes : (rest : List ℕ) → lexed (pieces 0 at line (bs ++ rest)) ≡ with_tokens ts (lexed (pieces 0 end last rest))

pub takes_nothing : (at line : ℕ) → Takes at line [] [] at line
takes_nothing at line = record { takes = λ rest. refl }

pub takes_both : {at line end last end2 last2 : ℕ} {u v : List ℕ} {ts us : List Token}
    → Takes at line u ts end last → Takes end last v us end2 last2 → Takes at line (u ++ v) (ts ++ us) end2 last2
takes_both {at} {line} {end} {last} {end2} {last2} {u} {v} {ts} {us} a b = record {
  takes = λ rest.
      ap (λ (bs : List ℕ). lexed (pieces 0 at line bs)) (append_assoc u v rest)
      ∙ a.takes (v ++ rest)
      ∙ ap (λ (l : Lexed). with_tokens ts l) (b.takes rest)
      ∙ sym (with_tokens-append ts us (lexed (pieces 0 end2 last2 rest)));
}

lines_stay : (line : ℕ) (bs : List ℕ) → OnOneLine bs → lines_after line bs ≡ line
lines_stay line [] one = refl
lines_stay line (c ∷ cs) one =
    let (a, b) = both_true (is_not_newline c) (list_all is_not_newline cs) one in
    ap (λ n. lines_after n cs) (same_line c line a) ∙ lines_stay line cs b

-- a line, of whose bytes the tokens are known
pub takes_line : (at line : ℕ) (bs : List ℕ) (ts : List Token) → OnOneLine bs → lexed (pieces 0 at line bs) ≡ Ok ts
    → Takes at line (ended_line bs) ts (place_after at bs + 1) (line + 1)
takes_line at line bs ts one e = record {
  takes = λ rest.
      ap (λ (cs : List ℕ). lexed (pieces 0 at line cs)) (append_assoc bs (10 ∷ []) rest)
      ∙ joined 0 at line bs rest (omega arith)
      ∙ ap (λ (l : Lexed). in_front l (lexed (pieces 0 (place_after at bs) (lines_after line bs) (10 ∷ rest)))) e
      ∙ ap (λ (n : ℕ). with_tokens ts (lexed (pieces 0 (place_after at bs) n (10 ∷ rest)))) (lines_stay line bs one)
      ∙ ap (λ (l : Lexed). with_tokens ts l) (behind_line (place_after at bs) line rest);
}

-- the form by which a line is read, all of whose tokens are on it
pub record OnLine {X : Type 0} (most size depth : ℕ) (r : Rule X) (R : X → Type 0) (at line : ℕ) (bs : List ℕ) : Type 0 where
  pub form : Form (Nested size) r
  pub means : R (means_of size r form)
  pub shallow : Shallow most (spells size depth r form)
  pub there : Each (IsOnLine line) (tokens_of (spells size depth r form))
  pub takes : Takes at line (ended_line bs) (tokens_of (spells size depth r form)) (place_after at bs + 1) (line + 1)
  pub allowed : Allowed (ended_line bs)

nothing_lexed : (at line : ℕ) → lexed (pieces 0 at line []) ≡ Ok []
unfolding pieces lexed
nothing_lexed at line = refl

pub on_line : {X : Type 0} {most size depth : ℕ} {r : Rule X} {R : X → Type 0} (at line : ℕ) (bs : List ℕ) → OnOneLine bs → Writes most size depth r R bs
    → OnLine most size depth r R at line bs
on_line {size = size} {depth = depth} {r = r} at line bs one writes =
    let w = writes.written at line [] tt in
    let ts : List Token = tokens_of (spells size depth r w.form) in
    let lexes : lexed (pieces 0 at line bs) ≡ Ok ts =
    ap (λ us. lexed (pieces 0 at line us)) (sym (append-nil bs)) ∙ w.lexes.same
    ∙ ap (λ l. with_tokens ts l) (nothing_lexed w.lexes.at_end w.lexes.last_line) ∙ with_tokens-all ts in
    record {
      form = w.form;
      means = w.means;
      shallow = w.shallow;
      there = tokens_on_line at line bs ts one lexes;
      takes = takes_line at line bs ts one lexes;
      allowed = allowed-append bs (10 ∷ []) writes.allowed (refl, tt);
    }

-- a statement whose tokens are on a line is on it, as it would be in a function on this line

each_append : (P : Token → Type 0) (ts us : List Token) → Each P ts → Each P us → Each P (ts ++ us)
each_append P [] us a b = b
each_append P (t ∷ ts) us a b = (a.0, each_append P ts us a.1 b)

token_on : ℕ → Kind → Token
token_on line j = record { kind = j; bytes = []; value = pos 0; at = 0; len = 0; line = line }

first_line : Body → ℕ
first_line done = 0
first_line (step line s rest) = line

first_stmt : Body → Stmt
first_stmt done = print_stmt (num (pos 0))
first_stmt (step line s rest) = s

pub record IsOn (line : ℕ) (m : ℕ × Stmt) : Type 0 where
  pub begins : line ≡ m.0
  pub stmt : stmt_on line m.1 ≡ m.1

pub stmt_there : (size line : ℕ) (d : Form (Nested size) stmt_rule) → Each (IsOnLine line) (tokens_of (spells size 1 stmt_rule d))
    → IsOn line (means_of size stmt_rule d)
unfolding func_rule name params_rule param_list func_body ret_rule stmts_rule token_on first_line first_stmt
stmt_there size line d there =
    let ms : List Marked = spells size 1 stmt_rule d in
    let brace : Marked = record { token = token_on line k.RightBrace; depth = 1 } in
    let inside : Each (IsOnLine line) (tokens_of (((ms ++ []) ++ []) ++ brace ∷ [])) =
    subst (λ (ns : List Marked). Each (IsOnLine line) (tokens_of (ns ++ brace ∷ []))) (sym (append-nil (ms ++ []) ∙ append-nil ms))
    (subst (Each (IsOnLine line)) (sym (tokens_of-append ms (brace ∷ []))) (each_append (IsOnLine line) (tokens_of ms) (brace.token ∷ []) there (refl, tt))) in
    let form : Form (Nested (suc size)) func_rule = (
      (token_on line k.Fn, refl),
      (
        (token_on line k.Name, refl),
        (
          ((token_on line k.LeftParen, refl), (inr tt, (token_on line k.RightParen, refl))),
          ((token_on line k.LeftBrace, refl), ((d ∷ [], inr tt), (token_on line k.RightBrace, refl))),
        ),
      ),
    ) in
    let same = (tells_func {line = line} {size = suc size} {depth = 0}).tells form (refl, (refl, (refl, (refl, (refl, inside))))) in
    record { begins = ap (λ f. first_line f.body) same; stmt = ap (λ f. first_stmt f.body) same }
