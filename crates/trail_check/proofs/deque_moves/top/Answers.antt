-- The deque is at its rank.
use Rattle.std.proofs.Common.{length, ◌∙◌}
use Rattle.trail_check.specs.Holds.{deque_with}
use Rattle.trail_check.proofs.Moves.{rank_of}
use Rattle.trail_check.proofs.deque_moves.top.Goals as goal

pub returns : goal.returns
returns c = λ owner items h. c.copied.ensures ∙ c.item.ensures (length h.left) (deque_with c.args.id owner items) (rank_of h)
