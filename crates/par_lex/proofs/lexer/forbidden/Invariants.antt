use Rattle.std.proofs.Common.{◌≡◌, ◌+◌, length}
use Rattle.par_text.specs.Lexing.{forbidden}
use Rattle.par_lex.proofs.lexer.forbidden.Given as goal

abbrev pub invariant-bytes : goal.invariant-bytes
invariant-bytes l = (forbidden l.at l.rest ≡ forbidden 0 l.text) × (l.at + length l.rest ≡ length l.text)

abbrev pub decreases-bytes : goal.decreases-bytes
decreases-bytes l = length l.rest
