-- Definitions of lower crates that callers find here.
pub use Rattle.depth_first_run.specs.Middle as Middle
pub use Rattle.depth_first_run.specs.Run as Run
pub use Rattle.depth_first_run.specs.States as States
pub use Rattle.depth_first_run.specs.Stores as Stores
pub use Rattle.depth_first_run.specs.Values as Values
pub use Rattle.node_table.specs.Names as Names
pub use Rattle.node_table.specs.Programs as Programs
pub use Rattle.node_table.specs.Reading as Reading
pub use Rattle.node_table.specs.Table as Table
