use Rattle.std.proofs.Common.{◌≡◌, ◌+◌, ℕ, List, length}
use Rattle.par_text.specs.Counts.{crowded, crowded_from}
use Rattle.par_lex.specs.Words.{words}
use Rattle.par_parse.specs.Counting.{counts_of, AllowsMore}
use Rattle.par_parse.proofs.counting.crowded.Given as goal

abbrev pub invariant-tokens : goal.invariant-tokens
invariant-tokens l = record {
  count : l.index + length l.rest ≡ length l.lexemes;
  allows : AllowsMore l.before;
  so_far : (text : List ℕ) → crowded_from l.index (counts_of l.before) (words text l.rest) ≡ crowded (words text l.lexemes);
}

abbrev pub decreases-tokens : goal.decreases-tokens
decreases-tokens l = length l.rest
