-- The canonical text of a program that was read is a text of the same program but for lines.
use Rattle.std.proofs.Common.{◌≡◌, ℕ, ◌+◌, ◌≤◌, Bool, true, false, cond, List, [], length, Option, Ok, Err, refl, sym, ap, ◌∙◌, subst, arith}
use Rattle.std.specs.Prelude.{nat_lt}
use Rattle.std.proofs.lemmas.List.{append-nil}
use Rattle.std.proofs.lemmas.Bool.{ltb-false}
use Rattle.par_tree.specs.Tree.{Program}
use Rattle.par_text.specs.declared.syntax_error.SyntaxKind.TheVariants.{TooLong}
use Rattle.par_text.specs.declared.syntax_error.SyntaxError.{SyntaxError}
use Rattle.par_text.specs.Rule.{Token}
use Rattle.par_text.specs.Form.{tokens_of}
use Rattle.par_text.specs.Grammar.{program_rule}
use Rattle.par_text.specs.Text.{ProgramForm, program_spelling, program_meaning, Shallow}
use Rattle.par_text.specs.Lexing.{Lexed, pieces, lexed, forbidden, of_allowed, longest_text, text_tokens}
use Rattle.par_text.specs.Counts.{at_start}
use Rattle.par_text.specs.Judging.{deepest, tree}
use Rattle.par_text.proofs.Verdicts.{one_verdict}
use Rattle.canonical_text.specs.Canonical.{canonical}
use Rattle.canonical_text.specs.Lines.{SameButForLines}
use Rattle.canonical_text.specs.Laws.{IsTextButForLines, CanonicalIsText, CanonicalStays}
use Rattle.canonical_text.proofs.LineLemmas.{same_text}
use Rattle.canonical_text.proofs.Lexemes.{lex, with_tokens, with_tokens-all, Lexes, Allowed, none_forbidden}
use Rattle.canonical_text.proofs.Claims.{Fits}
use Rattle.canonical_text.proofs.Counting.{Uncrowded, none_crowded, uncrowded_from, not_above}
use Rattle.canonical_text.proofs.Limits.{ProgramCount, program_to, program_from, same_count}
use Rattle.canonical_text.proofs.Meanings.{known_all}
use Rattle.canonical_text.proofs.Functions.{ProgramClaim, SameProgram, program_fits, tells_program}
use Rattle.canonical_text.proofs.Tokens.{tokens_valid, sound_tokens}

-- nothing is left at the end
lexed_end : (at line : ℕ) → lex at line [] ≡ Ok []
unfolding pieces lexed
lexed_end at line = refl

tokens_are : (text : List ℕ) (ts : List Token) → length text ≤ longest_text → Allowed text → Lexes 0 1 text [] ts → text_tokens text ≡ Ok ts
unfolding text_tokens
tokens_are text ts short allowed l =
    ap (λ (b : Bool). cond b (Err (record { kind = TooLong; at = longest_text })) (of_allowed (forbidden 0 text) text)) (not_above longest_text (length text) short)
    ∙ ap (λ (o : Option ℕ). of_allowed o text) (none_forbidden 0 text allowed)
    ∙ ap (λ (bs : List ℕ). lex 0 1 bs) (sym (append-nil text))
    ∙ l.same
    ∙ ap (λ (x : Lexed). with_tokens ts x) (lexed_end l.at_end l.last_line)
    ∙ with_tokens-all ts

-- what is known of the form of a text
form_claim : (size : ℕ) (form : ProgramForm size) (text : List ℕ) (ts : List Token) → text_tokens text ≡ Ok ts → tokens_of (program_spelling size form) ≡ ts → Shallow deepest (program_spelling size form) → ProgramClaim deepest deepest (program_meaning size form)
form_claim size form text ts e spelled shallow =
    let room : 0 + deepest ≡ deepest = omega arith in
    (tells_program (known_all deepest size) 0 deepest room).tells form (sound_tokens deepest (program_spelling size form) ts spelled (tokens_valid text ts e) shallow)

fits_at_all : (size : ℕ) (form : ProgramForm size) → ProgramClaim deepest deepest (program_meaning size form) → Fits deepest false deepest program_rule (SameProgram (program_meaning size form)) (canonical (program_meaning size form))
unfolding program_rule
fits_at_all size form h = program_fits _ _ h

written_back : (p : Program) → ProgramCount 0 p → length (canonical p) ≤ longest_text → Fits deepest false deepest program_rule (SameProgram p) (canonical p) → IsTextButForLines (canonical p) p
written_back p count short fits =
    let room : 0 + deepest ≡ deepest = omega arith in
    let w = fits.writes deepest 0 (omega arith) room in
    let r = w.written 0 1 [] tt in
    let ts = tokens_of (program_spelling 65 r.form) in
    let q = program_meaning 65 r.form in
    record {
      tree = q;
      is_text = record {
        tokens = ts;
        lexed = tokens_are (canonical p) ts short w.allowed r.lexes;
        parsed = record { size = 65; form = r.form; spelled = refl; means = refl; shallow = r.shallow };
        counted = none_crowded 0 at_start ts (program_from 65 0 r.form at_start (same_count 0 p q r.means count));
      };
      same = r.means;
    }

pub canonical_reads_back : CanonicalIsText
canonical_reads_back text p t short =
    subst (λ (x : Program). length (canonical x) ≤ longest_text → IsTextButForLines (canonical x) x) t.parsed.means
    (λ l. written_back (program_meaning t.parsed.size t.parsed.form)
    (program_to t.parsed.size 0 t.parsed.form at_start (subst (λ (ts : List Token). Uncrowded at_start ts) (sym t.parsed.spelled) (uncrowded_from 0 at_start t.tokens t.counted)))
    l
    (fits_at_all t.parsed.size t.parsed.form (form_claim t.parsed.size t.parsed.form text t.tokens t.lexed t.parsed.spelled t.parsed.shallow)))
    short

-- a text is not too long
not_too_long : (text : List ℕ) (ts : List Token) → text_tokens text ≡ Ok ts → length text ≤ longest_text
unfolding text_tokens
not_too_long text ts e = go (nat_lt longest_text (length text)) refl e
  where
    never : (f : SyntaxError) → ◌≡◌ {A = Lexed} (Err f) (Ok ts) → ⊥
    never f e = cc

    go : (b : Bool) → nat_lt longest_text (length text) ≡ b → cond b (Err (record { kind = TooLong; at = longest_text })) (of_allowed (forbidden 0 text) text) ≡ Ok ts → length text ≤ longest_text
    go true h e = absurd (never _ e)
    go false h e = ltb-false longest_text (length text) h

same_tree : (p q : Program) → tree p ≡ tree q → p ≡ q
same_tree p q e = cc

pub canonical_again : CanonicalStays
canonical_again text p q t u =
    let back = canonical_reads_back text p t (not_too_long (canonical p) u.tokens u.lexed) in
    let one : back.tree ≡ q = same_tree back.tree q (one_verdict (canonical p) (tree back.tree) (tree q) back.is_text u) in
    let alike : SameButForLines q p = subst (λ (x : Program). SameButForLines x p) one back.same in
    (alike, same_text q p alike)
