-- Definitions of lower crates that callers find here.
pub use Rattle.slot_store.proofs.Agreement as Agreement
pub use Rattle.slot_store.proofs.Rows as Rows
