use Rattle.par_parse.proofs.CountingLemmas.{place-at, place-past}
use Rattle.par_parse.proofs.parser.place_of.Goals as goal

pub returns-then-index-lexemes : goal.returns-then-index-lexemes
returns-then-index-lexemes c = λ text. place-at text c.args.lexemes.now c.args.index _ c.args.end c.if-index-lexemes.true

pub returns-else-index-lexemes : goal.returns-else-index-lexemes
returns-else-index-lexemes c = λ text. place-past text c.args.lexemes.now c.args.index c.args.end c.if-index-lexemes.false
