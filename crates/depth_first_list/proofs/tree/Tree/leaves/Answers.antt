-- What is known of the tree of n leaves.
use Rattle.depth_first_list.proofs.ShapeLaws.{shape_of_is_shape, counts_of_tree}
use Rattle.depth_first_list.proofs.tree.Tree.leaves.Goals as goal

pub returns-clause-shape : goal.returns-clause-shape
returns-clause-shape c = shape_of_is_shape c.args.self.now.leaves c.args.self.now.in_range.0

pub returns-clause-counts : goal.returns-clause-counts
returns-clause-counts c = counts_of_tree c.args.self.now.leaves c.args.self.now.in_range.0
