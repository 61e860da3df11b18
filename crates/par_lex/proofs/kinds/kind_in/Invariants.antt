use Rattle.std.proofs.Common.{◌≡◌, drop}
use Rattle.par_text.specs.Lexing.{kind_in}
use Rattle.par_lex.specs.Tables.{table_shown}
use Rattle.par_lex.proofs.kinds.kind_in.Given as goal

abbrev pub invariant-loop-entry : goal.invariant-loop-entry
invariant-loop-entry l = kind_in (table_shown (drop l.entry-index l.table)) l.word ≡ kind_in (table_shown l.table) l.word
