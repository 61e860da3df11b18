-- Definitions of lower crates that callers find here.
pub use Rattle.thread_points.specs.Points as Points
pub use Rattle.thread_points.specs.Threads as Threads
