use Rattle.std.proofs.Common.{ap, arith}
use Rattle.block_arena.specs.Region.{Region}
use Rattle.serial_meaning.proofs.Acting.{acts_with}
use Rattle.serial_meaning.proofs.alone.do_alloc.Goals as goal

pub returns-clause-acts : goal.returns-clause-acts
returns-clause-acts c =
    let more = c.in-Ok.ensures.words in let pool = ap (λ (r : Region). r.live) c.in-Ok.ensures.pool in let same = c.make_room.ensures.live in
    acts_with c.args.thread.now c.do_alloc.new.self c.args.pool.now.live c.do_alloc.new.pool.live c.in-Ok.ensures.acted (omega (arith, more, pool, same)) c.do_alloc.ensures.point
