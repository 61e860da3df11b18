-- What callers need of what this crate stands on.
pub use Rattle.depth_first_list.specs.Actions as Actions
pub use Rattle.depth_first_list.specs.Facts as Facts
pub use Rattle.depth_first_list.specs.Laws as Laws
pub use Rattle.depth_first_list.specs.Quotas as Quotas
pub use Rattle.depth_first_list.specs.Runs as Runs
pub use Rattle.depth_first_list.specs.Shapes as Shapes
pub use Rattle.par_ownership.specs.Environment as Environment
pub use Rattle.par_ownership.specs.Ownership as Ownership
pub use Rattle.par_tree.specs.Names as Names
pub use Rattle.par_tree.specs.Tree as Tree
