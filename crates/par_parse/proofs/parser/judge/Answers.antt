use Rattle.std.proofs.Common.{◌≡◌, ℕ, ◌-◌, ◌≤◌, List, length, Some, None, Ok, Err, ap, sym, subst, ◌∙◌, arith}
use Rattle.par_tree.specs.View.{program_tree}
use Rattle.par_text.specs.declared.syntax_error.SyntaxKind.{SyntaxKind}
use Rattle.par_text.specs.declared.syntax_error.SyntaxKind.TheVariants.{TooMany}
use Rattle.par_text.specs.declared.syntax_error.SyntaxError.{SyntaxError}
use Rattle.par_text.specs.Parsing.{read_program}
use Rattle.par_text.specs.Counts.{crowded}
use Rattle.par_text.specs.Judging.{deepest, IsRefused, refused_at, earlier, kind_of}
use Rattle.par_text.proofs.Verdicts.{settle, left_within}
use Rattle.par_lex.specs.Words.{words}
use Rattle.par_parse.specs.Gives.{Fails}
use Rattle.par_parse.specs.declared.parse_error.ParseError.{ParseError}
use Rattle.par_lex.specs.declared.lexeme.Lexeme.{Lexeme}
use Rattle.par_parse.proofs.Loops.{length-words}
use Rattle.par_parse.proofs.parser.judge.Goals as goal

pub returns-in-None : goal.returns-in-None
returns-in-None c =
    let text = c.args.text.now in
    settle text (words text c.in_ok-lexemes.lexemes.items) (Ok (program_tree c.in-Ok.program)) None c.in_ok-lexemes.ensures.tokens
    (ap (λ (ls : List Lexeme). read_program deepest (words text ls)) (sym c.deref-2.ensures.value) ∙ c.in-Ok.ensures)
    (ap (λ (ls : List Lexeme). crowded (words text ls)) (sym c.deref.ensures.value) ∙ sym (c.crowded-crowded.ensures text) ∙ c.in-None.is)

pub returns-in-Ok : goal.returns-in-Ok
returns-in-Ok c =
    let text = c.args.text.now in
    let same : refused_at (words text c.in_ok-lexemes.lexemes.items) TooMany c.in-Some.index (length text) ≡ c.refused_at-error.result =
    ap (λ (ls : List Lexeme). refused_at (words text ls) TooMany c.in-Some.index (length text)) (sym c.deref-in-Some.ensures.value) ∙ sym (c.refused_at-error.ensures text) in
    subst (λ (e : SyntaxError). IsRefused text e) same
    (settle text (words text c.in_ok-lexemes.lexemes.items) (Ok (program_tree c.in-Ok.program)) (Some c.in-Some.index) c.in_ok-lexemes.ensures.tokens
    (ap (λ (ls : List Lexeme). read_program deepest (words text ls)) (sym c.deref-2.ensures.value) ∙ c.in-Ok.ensures)
    (ap (λ (ls : List Lexeme). crowded (words text ls)) (sym c.deref.ensures.value) ∙ sym (c.crowded-crowded.ensures text) ∙ c.in-Some.is))

pub overflow_sub-index : goal.overflow_sub-index
overflow_sub-index c =
    let text = c.args.text.now in
    let stopped : read_program deepest (words text c.deref-2.result.now) ≡ Err (c.in-Err-Stopped.stop, c.in-Err-Stopped.left) = subst (λ (e : ParseError). Fails e (read_program deepest (words text c.deref-2.result.now))) c.in-Err-Stopped.field-0-is c.in-Err-Stopped.ensures in
    let within : c.in-Err-Stopped.left ≤ length (words text c.deref-2.result.now) = left_within (words text c.deref-2.result.now) c.in-Err-Stopped.stop c.in-Err-Stopped.left stopped in
    omega (arith, within, length-words text c.deref-2.result.now, ap length c.deref-2.ensures.value, c.len.ensures, c.in_ok-lexemes.lexemes.ok.0)

pub returns : goal.returns
returns c =
    let text = c.args.text.now in
    let ts = words text c.in_ok-lexemes.lexemes.items in
    let left = c.in-Err-Stopped.left in
    let many = c.crowded-crowded.result in
    let stopped : read_program deepest (words text c.deref-2.result.now) ≡ Err (c.in-Err-Stopped.stop, c.in-Err-Stopped.left) = subst (λ (e : ParseError). Fails e (read_program deepest (words text c.deref-2.result.now))) c.in-Err-Stopped.field-0-is c.in-Err-Stopped.ensures in
    let count : c.len.result ≡ length ts = omega (arith, length-words text c.in_ok-lexemes.lexemes.items, c.len.ensures, c.in_ok-lexemes.lexemes.ok.0) in
    let same : earlier ts (kind_of c.in-Err-Stopped.stop) (length ts - left) many (length text) ≡ c.earlier-error.result =
    ap (λ (f : SyntaxKind). earlier ts f (length ts - left) many (length text)) (sym c.kind_of.ensures)
    ∙ ap (λ (n : ℕ). earlier ts c.kind_of.result (n - left) many (length text)) (sym count)
    ∙ ap (λ (ls : List Lexeme). earlier (words text ls) c.kind_of.result (c.len.result - left) many (length text)) (sym c.deref-in-Err-Stopped.ensures.value)
    ∙ sym (c.earlier-error.ensures text) in
    subst (λ (e : SyntaxError). IsRefused text e) same
    (settle text ts (Err (c.in-Err-Stopped.stop, left)) many c.in_ok-lexemes.ensures.tokens
    (ap (λ (ls : List Lexeme). read_program deepest (words text ls)) (sym c.deref-2.ensures.value) ∙ stopped)
    (ap (λ (ls : List Lexeme). crowded (words text ls)) (sym c.deref.ensures.value) ∙ sym (c.crowded-crowded.ensures text)))
