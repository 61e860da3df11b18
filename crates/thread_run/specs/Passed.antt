-- What callers need of what this crate stands on.
pub use Rattle.ownership_laws.specs.Counts as Counts
pub use Rattle.ownership_laws.specs.Holdings as Holdings
pub use Rattle.par_ownership.specs.Ownership as Ownership
pub use Rattle.par_tree.specs.Tree as Tree
pub use Rattle.thread_points.specs.Laws as Laws
pub use Rattle.thread_points.specs.Points as Points
pub use Rattle.thread_points.specs.Threads as Threads
