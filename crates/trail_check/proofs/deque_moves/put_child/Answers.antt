-- The parent goes on, and then the child is put on top.
use Rattle.std.proofs.Common.{◌∷◌, length, ◌∙◌}
use Rattle.trail_check.specs.Holds.{deque_with}
use Rattle.trail_check.proofs.Moves.{rank_of, set_there, holds_then}
use Rattle.trail_check.proofs.deque_moves.put_child.Goals as goal

pub returns-clause-deques : goal.returns-clause-deques
returns-clause-deques c = λ owner top under h.
    let then_held = holds_then h c.reserve.new.self.deques owner (c.args.parent ∷ under) (c.in_ok-reserve.ensures.deques ∙ c.go_on.ensures.deques owner top under h) in
    set_there then_held c.push_top.new.self.deques (deque_with c.args.id owner (c.args.child ∷ c.args.parent ∷ under))
    (c.push_top.ensures.deque (length h.left) (deque_with c.args.id owner (c.args.parent ∷ under)) (rank_of then_held))
