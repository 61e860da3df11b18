use Rattle.std.proofs.Common.{ap, arith}
use Rattle.block_arena.specs.Region.{Region}
use Rattle.thread_frames.proofs.Bounds.{join_within}
use Rattle.serial_meaning.proofs.Acting.{acts_joined}
use Rattle.serial_meaning.proofs.alone.do_join.Goals as goal

pub give_all-requires : goal.give_all-requires
give_all-requires c =
    let rows = c.do_join-words.ensures.rows in let has = join_within c.args.thread.now in let within = c.requires.live in omega (arith, rows, has, within)

pub returns-clause-acts : goal.returns-clause-acts
returns-clause-acts c =
    let rows = c.do_join-words.ensures.rows in let words = c.do_join-words.ensures.words in let has = join_within c.args.thread.now in let within = c.requires.live in
    let pool = ap (λ (r : Region). r.live) c.give_all.ensures in
    acts_joined c.args.thread.now c.do_join-words.new.self c.args.pool.now.live c.give_all.new.pool.live c.do_join-words.result.0 c.do_join-words.ensures.joined
    (omega (arith, words, has, within)) (omega (arith, rows, words, pool)) c.do_join-words.ensures.point
