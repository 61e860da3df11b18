use Rattle.std.proofs.Common.{◌≡◌, ◌+◌, length}
use Rattle.par_text.specs.Lexing.{run, is_not_newline}
use Rattle.par_lex.proofs.bytes.line_run.Given as goal

abbrev pub invariant-bytes : goal.invariant-bytes
invariant-bytes l = (l.count + run is_not_newline l.rest ≡ run is_not_newline l.bytes) × (l.count + length l.rest ≡ length l.bytes)

abbrev pub decreases-bytes : goal.decreases-bytes
decreases-bytes l = length l.rest
