use Rattle.std.proofs.Common.{refl}
use Rattle.list_changes.proofs.Putting.{at_rank, here}
use Rattle.list_changes.proofs.Leaving.{gone, suspended}
use Rattle.list_changes.proofs.Seating.{left_by_close}
use Rattle.list_changes.proofs.left.suspend.Goals as goal

pub remove-requires : goal.remove-requires
remove-requires g c = (_, here c.requires.stands, at_rank c.requires.stands, refl)

pub returns-clause-suspends : goal.returns-clause-suspends
returns-clause-suspends g c = suspended c.args.list.now c.args.table.now c.remove.new.self c.close.new.self c.remove.ensures.deque c.close.ensures.periods

pub returns-clause-deques : goal.returns-clause-deques
returns-clause-deques g c stands = gone c.args.list.now c.args.table.now c.remove.new.self c.close.new.self stands c.remove.ensures.deque c.remove.ensures.rest

pub returns-clause-seats : goal.returns-clause-seats
returns-clause-seats g c =
    left_by_close c.args.worker c.args.table.now c.close.new.self c.close.ensures.others c.close.ensures.workers c.close.ensures.idle c.close.ensures.begun
