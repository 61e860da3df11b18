-- What the proofs of callers need of what this crate stands on.
pub use Rattle.moment_laws.proofs.Going as Going
pub use Rattle.moment_laws.proofs.Ready as Ready
pub use Rattle.moment_laws.proofs.Standing as Standing
pub use Rattle.moment_laws.proofs.Told as Told
