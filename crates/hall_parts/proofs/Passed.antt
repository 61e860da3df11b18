-- What the proofs of callers need of what this crate stands on.
pub use Rattle.moment_laws.proofs.Parents as Parents
