use Rattle.std.proofs.Common.{◌≡◌, ◌+◌, ◌≤◌, length, drop}
use Rattle.par_text.specs.Lexing.{lexed, pieces}
use Rattle.par_lex.specs.Words.{words}
use Rattle.par_lex.specs.Lexes.{with_tokens}
use Rattle.par_lex.proofs.lexer.lex.Given as goal

abbrev pub invariant-pieces : goal.invariant-pieces
invariant-pieces l = record {
  here : l.rest ≡ drop l.at l.text;
  count : l.at + length l.rest ≡ length l.text;
  lines : l.line ≤ l.at + 1;
  so_far : with_tokens (words l.text l.lexemes.items) (lexed (pieces 0 l.at l.line l.rest)) ≡ lexed (pieces 0 0 1 l.text);
}

abbrev pub decreases-pieces : goal.decreases-pieces
decreases-pieces l = length l.rest
