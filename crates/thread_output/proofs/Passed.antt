-- Definitions of lower crates that callers find here.
pub use Rattle.thread_points.proofs.Alone as Alone
pub use Rattle.thread_points.proofs.Putting as Putting
pub use Rattle.thread_points.proofs.Telling as Telling
