-- What callers need of what this crate stands on.
pub use Rattle.moment_laws.specs.Moves as Moves
pub use Rattle.moment_laws.specs.Orders as Orders
pub use Rattle.moment_laws.specs.Readiness as Readiness
pub use Rattle.moment_laws.specs.Standing as Standing
pub use Rattle.open_periods.specs.Periods as Periods
pub use Rattle.open_periods.specs.Tables as Tables
pub use Rattle.thread_map.specs.Kept as Kept
pub use Rattle.thread_points.specs.Points as Points
pub use Rattle.thread_state.specs.Settings as Settings
