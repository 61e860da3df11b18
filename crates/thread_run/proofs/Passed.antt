-- What the proofs of callers need of what this crate stands on.
pub use Rattle.ownership_laws.proofs.Reading as Reading
pub use Rattle.ownership_laws.proofs.Skipping as Skipping
pub use Rattle.par_ownership.proofs.NewNames as NewNames
pub use Rattle.thread_points.proofs.Alone as Alone
pub use Rattle.thread_points.proofs.Placing as Placing
pub use Rattle.thread_points.proofs.Putting as Putting
pub use Rattle.thread_points.proofs.Reaching as Reaching
pub use Rattle.thread_points.proofs.Telling as Telling
pub use Rattle.thread_points.proofs.Walking as Walking
