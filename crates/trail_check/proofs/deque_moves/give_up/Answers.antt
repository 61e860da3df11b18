-- The deque is at its rank.
use Rattle.std.proofs.Common.{length}
use Rattle.std.specs.Prelude.{None}
use Rattle.trail_check.specs.Holds.{deque_with}
use Rattle.trail_check.proofs.Moves.{rank_of, set_there}
use Rattle.trail_check.proofs.deque_moves.give_up.Goals as goal

pub returns-clause-deques : goal.returns-clause-deques
returns-clause-deques c = λ owner items h.
    set_there h c.give_up.new.self.deques (deque_with c.args.id None items)
    (c.give_up.ensures.deque (length h.left) (deque_with c.args.id owner items) (rank_of h))
