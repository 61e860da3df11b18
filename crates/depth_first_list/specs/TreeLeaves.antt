-- What contracts see of a `Tree`.
use Rattle.std.specs.Prelude.{ℕ}
use Rattle.depth_first_list.specs.declared.tree.Tree.{Tree}

-- its number of leaves
abbrev pub tree_leaves : Tree → ℕ
tree_leaves tree = tree.leaves
