use Rattle.std.proofs.Common.{ap, arith}
use Rattle.block_arena.specs.Region.{Region}
use Rattle.serial_meaning.proofs.forks.fork_child.Goals as goal

pub returns-clause-point : goal.returns-clause-point
returns-clause-point c = λ t k at. (c.do_fork.ensures.point t k at, c.in-Ok.ensures.child t k at)

pub returns-clause-words : goal.returns-clause-words
returns-clause-words c =
    let words = c.in-Ok.ensures.forked.words in let pool = ap (λ (r : Region). r.live) c.in-Ok.ensures.pool in omega (arith, words, pool)
