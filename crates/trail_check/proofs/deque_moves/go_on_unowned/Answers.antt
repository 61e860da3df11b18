-- The thread goes on, and then the owner leaves.
use Rattle.std.proofs.Common.{◌∷◌, length}
use Rattle.std.specs.Prelude.{None}
use Rattle.trail_check.specs.Holds.{deque_with}
use Rattle.trail_check.proofs.Moves.{rank_of, set_there, holds_then}
use Rattle.trail_check.proofs.deque_moves.go_on_unowned.Goals as goal

pub returns-clause-deques : goal.returns-clause-deques
returns-clause-deques c = λ owner top under h.
    let then_held = holds_then h c.go_on.new.deques.deques owner (c.args.place ∷ under) (c.go_on.ensures.deques owner top under h) in
    set_there then_held c.give_up.new.self.deques (deque_with c.args.id None (c.args.place ∷ under))
    (c.give_up.ensures.deque (length h.left) (deque_with c.args.id owner (c.args.place ∷ under)) (rank_of then_held))
