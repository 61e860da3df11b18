-- The tree of one leaf is that leaf, and a larger one is made of its halves.
use Rattle.std.proofs.Common.{◌≡◌, ◌<◌, ◌+◌, ◌/◌, ℕ, ◌∙◌, ap, arith}
use Rattle.depth_first_list.specs.Shapes.{shape_of}
use Rattle.depth_first_list.proofs.ShapeLaws.{shape_of_one, shape_of_more}
use Rattle.depth_first_list.proofs.tree.Tree.halves.Goals as goal

pub returns-then-self-eq1-clause-shape : goal.returns-then-self-eq1-clause-shape
returns-then-self-eq1-clause-shape c = ap (λ n. shape_of n) c.if-self-eq1.true ∙ shape_of_one

pub returns-clause-shape : goal.returns-clause-shape
returns-clause-shape c =
    let n : ℕ = c.args.self.now.leaves in
    let up : c.div_ceil.result ≡ (n + 1) / 2 = omega (arith, c.div_ceil.ensures) in
    let many : 1 < n = omega (arith, c.args.self.now.in_range.0) in rw up (shape_of_more n many)
