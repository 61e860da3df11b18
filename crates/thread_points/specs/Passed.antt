-- What callers need of what this crate stands on.
pub use Rattle.dag_order.specs.declared.fault.FaultKind as FaultKind
pub use Rattle.depth_first_run.specs.Calls as Calls
pub use Rattle.depth_first_run.specs.Middle as Middle
pub use Rattle.depth_first_run.specs.Run as Run
pub use Rattle.depth_first_run.specs.States as States
pub use Rattle.depth_first_run.specs.Stores as Stores
pub use Rattle.depth_first_run.specs.Values as Values
