use Rattle.std.proofs.Common.{ap, arith}
use Rattle.block_arena.specs.Region.{Region}
use Rattle.serial_meaning.proofs.Acting.{acts_with}
use Rattle.serial_meaning.proofs.alone.do_fault.Goals as goal

pub do_fault-requires-clause-live : goal.do_fault-requires-clause-live
do_fault-requires-clause-live c = let within = c.requires.live in omega (arith, within)

pub returns-clause-acts : goal.returns-clause-acts
returns-clause-acts c =
    let less = c.do_fault.ensures.words in let pool = ap (λ (r : Region). r.live) c.do_fault.ensures.pool in let within = c.requires.live in
    acts_with c.args.thread.now c.do_fault.new.self c.args.pool.now.live c.do_fault.new.pool.live c.do_fault.ensures.acted (omega (arith, less, pool, within)) c.do_fault.ensures.point

pub overflow_sub-result : goal.overflow_sub-result
overflow_sub-result c =
    let pool = ap (λ (r : Region). r.live) c.do_fault.ensures.pool in let before = c.live-before.ensures.value in let after = c.live.ensures.value in
    omega (arith, pool, before, after)

pub returns-clause-words : goal.returns-clause-words
returns-clause-words c =
    let pool = ap (λ (r : Region). r.live) c.do_fault.ensures.pool in let before = c.live-before.ensures.value in let after = c.live.ensures.value in let within = c.requires.live in
    omega (arith, pool, before, after, within)
