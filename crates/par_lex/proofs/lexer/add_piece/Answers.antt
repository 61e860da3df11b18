use Rattle.std.proofs.Common.{◌≡◌, ℕ, ℤ, true, false, [], ◌∷◌, ◌++◌, length, ap, ◌∙◌, sym, rules, w64}
use Rattle.std.proofs.lemmas.Int.{to_z-of_z}
use mir.Val.{SFits}
use Rattle.par_text.specs.declared.kind.Kind.{Kind}
use Rattle.par_lex.specs.declared.lexeme.Lexeme.{Lexeme}
use Rattle.par_text.specs.Lexing.{is_lexeme}
use Rattle.par_lex.specs.Words.{words}
use Rattle.par_lex.specs.Lexes.{with_tokens}
use Rattle.par_lex.proofs.Pieces.{with_piece-gap, with_piece-bad, adds_token}
use Rattle.par_lex.proofs.lexer.add_piece.Goals as goal

abbrev as_lexeme : Kind → ℤ → ℕ → ℕ → ℕ → Lexeme
as_lexeme j v at len line = record { kind = j; value = v; at = at; len = len; line = line }

pub returns-then-not-is_lexeme : goal.returns-then-not-is_lexeme
returns-then-not-is_lexeme c = λ text rest cut.
    let gap : is_lexeme c.args.piece.now ≡ false = sym c.is_lexeme.ensures ∙ c.if-not-is_lexeme.true in
    ap (λ l. with_tokens (words text c.args.lexemes.now.items) l) (with_piece-gap (record { bytes = c.args.piece.now; at = c.args.at; line = c.args.line }) rest gap)

pub returns-in-Err : goal.returns-in-Err
returns-in-Err c = λ rest.
    let some : is_lexeme c.args.piece.now ≡ true = sym c.is_lexeme.ensures ∙ c.if-not-is_lexeme.false in
    rw c.refused.ensures (with_piece-bad (record { bytes = c.args.piece.now; at = c.args.at; line = c.args.line }) rest c.in-Err.kind some c.in-Err.ensures)

pub returns-in_ok-push-in-Ok : goal.returns-in_ok-push-in-Ok
returns-in_ok-push-in-Ok c = λ text rest cut.
    let some : is_lexeme c.args.piece.now ≡ true = sym c.is_lexeme.ensures ∙ c.if-not-is_lexeme.false in
    let fits : SFits w64 c.in-Ok.value = search rules in
    adds_token text c.args.piece.now c.in-Ok.kind c.in-Ok.value c.args.at c.args.line c.args.lexemes.now.items c.push.new.self.items rest some c.in-Ok.ensures.0 c.in-Ok.ensures.1 (c.in_ok-push-in-Ok.ensures.items ∙ ap (λ (v : ℤ). c.args.lexemes.now.items ++ as_lexeme c.in-Ok.kind v c.args.at (length c.args.piece.now) c.args.line ∷ []) (to_z-of_z w64 c.in-Ok.value fits)) cut
