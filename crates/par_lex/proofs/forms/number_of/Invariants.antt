use Rattle.std.proofs.Common.{◌≡◌, ◌≤◌, length}
use Rattle.par_text.specs.Lexing.{value_from, greatest_number}
use Rattle.par_lex.proofs.forms.number_of.Given as goal

abbrev pub invariant-digits : goal.invariant-digits
invariant-digits l = (value_from l.value l.rest ≡ value_from 0 l.word) × (l.value ≤ greatest_number)

abbrev pub decreases-digits : goal.decreases-digits
decreases-digits l = length l.rest
