use Rattle.std.proofs.Common.{◌≡◌, ℕ, ◌+◌, ◌≤◌, ap, sym, ◌∙◌, refl, arith}
use Rattle.std.proofs.lemmas.Result.{err_from_is_err_and}
use Rattle.par_text.specs.Lexing.{Lexed, lexed, pieces, line_after}
use Rattle.par_lex.specs.Words.{words}
use Rattle.par_lex.specs.Lexes.{with_tokens}
use Rattle.par_lex.proofs.Pieces.{words-none, with_tokens-none, line_after-le, lexed-step, lexed-end, cut_of, rest_of, refuses_text, all_tokens}
use Rattle.par_lex.proofs.lexer.lex.Goals as goal

pub pieces-init : goal.pieces-init
pieces-init c = record {
  here = refl;
  count = omega arith;
  lines = omega arith;
  so_far = with_tokens-none (words c.args.text.now c.new-lexemes.result.items) (lexed (pieces 0 0 1 c.args.text.now)) (words-none c.args.text.now c.new-lexemes.result.items c.new-lexemes.ensures.items);
}

pub returns-in_err-add_piece : goal.returns-in_err-add_piece
returns-in_err-add_piece c =
    let p = err_from_is_err_and c.from_residual.result c.from_residual.ensures.1 in
    let n = c.piece_rest-len.result + 1 in
    let count : n ≡ c.piece_rest-len.result + 1 = refl in
    let step = lexed-step c.pieces.at c.pieces.line c.pieces.rest.now c.in-Some.first.now c.in-Some.behind.now n c.split_at.result.0.now c.split_at.result.1.now c.in-Some.ensures.cases.0 (ap (λ (i : ℕ). i + 1) c.piece_rest-len.ensures.count) c.split_at.ensures.front c.split_at.ensures.back in
    rw (p.1, p.2) (refuses_text c.in_err-add_piece.field-0.0 (words c.args.text.now c.pieces.lexemes.items) (record { bytes = c.split_at.result.0.now; at = c.pieces.at; line = c.pieces.line }) (lexed (pieces 0 (c.pieces.at + n) (line_after c.in-Some.first.now c.pieces.line) c.split_at.result.1.now)) (lexed (pieces 0 c.pieces.at c.pieces.line c.pieces.rest.now)) (lexed (pieces 0 0 1 c.args.text.now)) c.in_err-add_piece.ensures step c.pieces.invariant.so_far)

pub pieces-preserved : goal.pieces-preserved
pieces-preserved c =
    let n = c.piece_rest-len.result + 1 in
    let text = c.args.text.now in
    let after = c.split_at.result.1.now in
    let more : c.line_after-line.result ≤ c.pieces.line + 1 = rw c.line_after-line.ensures (line_after-le c.in-Some.first.now c.pieces.line) in
    let step = lexed-step c.pieces.at c.pieces.line c.pieces.rest.now c.in-Some.first.now c.in-Some.behind.now n c.split_at.result.0.now after c.in-Some.ensures.cases.0 (ap (λ (i : ℕ). i + 1) c.piece_rest-len.ensures.count) c.split_at.ensures.front c.split_at.ensures.back in
    record {
      here = rest_of c.pieces.at n text c.pieces.rest.now after c.pieces.invariant.here c.split_at.ensures.back;
      count = omega (arith, c.split_at.ensures.back_len, c.pieces.invariant.count);
      lines = omega (arith, c.pieces.invariant.lines);
      so_far =
          ap (λ (i : ℕ). with_tokens (words text c.add_piece.new.lexemes.items) (lexed (pieces 0 (c.pieces.at + n) i after))) c.line_after-line.ensures
          ∙ sym (c.in_ok-add_piece.ensures text (lexed (pieces 0 (c.pieces.at + n) (line_after c.in-Some.first.now c.pieces.line) after)) (cut_of c.pieces.at n text c.pieces.rest.now c.split_at.result.0.now c.pieces.invariant.here c.split_at.ensures.front c.split_at.ensures.front_len))
          ∙ ap (λ (l : Lexed). with_tokens (words text c.pieces.lexemes.items) l) (sym step)
          ∙ c.pieces.invariant.so_far;
    }

pub returns : goal.returns
returns c = all_tokens (words c.args.text.now c.pieces.lexemes.items) (lexed (pieces 0 c.pieces.at c.pieces.line c.pieces.rest.now)) (lexed (pieces 0 0 1 c.args.text.now)) (lexed-end c.pieces.at c.pieces.line c.pieces.rest.now c.in_default.ensures.cases) c.pieces.invariant.so_far
