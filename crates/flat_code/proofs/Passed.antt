-- Definitions of lower crates that callers find here.
pub use Rattle.flat_statements.proofs.Ending as Ending
pub use Rattle.flat_statements.proofs.Running as Running
