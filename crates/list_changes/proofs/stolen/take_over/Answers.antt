use Rattle.std.proofs.Common.{refl, length}
use Rattle.list_changes.proofs.Stealing.{held, rank_of, owned, took_over}
use Rattle.list_changes.proofs.Seating.{taken_by_begin}
use Rattle.list_changes.proofs.stolen.take_over.Goals as goal

pub take_over-requires : goal.take_over-requires
take_over-requires g c = let v = c.requires.victim in (length v.1.left, held v.1, rank_of v.1, refl)

pub returns-clause-deques : goal.returns-clause-deques
returns-clause-deques g c thread holds = owned c.args.worker c.take_over.new.self thread c.take_over.ensures.deque c.take_over.ensures.rest holds

pub returns-clause-steals : goal.returns-clause-steals
returns-clause-steals g c =
    took_over c.args.worker c.args.victim c.args.list.now c.args.table.now c.take_over.new.self c.begin.new.self c.args.period c.begin.ensures.periods c.requires.number c.requires.unused
    c.requires.ran_nothing c.requires.bore_none
    (λ thread holds. owned c.args.worker c.take_over.new.self thread c.take_over.ensures.deque c.take_over.ensures.rest holds)

pub returns-clause-seats : goal.returns-clause-seats
returns-clause-seats g c =
    taken_by_begin c.args.worker c.args.table.now c.begin.new.self c.begin.ensures.others c.begin.ensures.workers c.args.victim c.args.period c.begin.ensures.seat c.begin.ensures.begun
