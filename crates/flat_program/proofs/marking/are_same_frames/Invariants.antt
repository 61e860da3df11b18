use Rattle.std.proofs.Common.{◌≡◌, ◌↔◌, length}
use Rattle.flat_program.proofs.marking.are_same_frames.Given as goal

-- what is left of both is the same exactly if they are
abbrev pub invariant-frames : goal.invariant-frames
invariant-frames l = (l.left ≡ l.right) ↔ (l.one ≡ l.other)

abbrev pub decreases-frames : goal.decreases-frames
decreases-frames l = length l.left
