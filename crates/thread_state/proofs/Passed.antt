-- What the proofs of callers need of what this crate stands on.
pub use Rattle.depth_first_run.proofs.Built as Built
pub use Rattle.depth_first_run.proofs.Covered as Covered
pub use Rattle.depth_first_run.proofs.FewWords as FewWords
pub use Rattle.depth_first_run.proofs.Nearing as Nearing
pub use Rattle.depth_first_run.proofs.Stepping as Stepping
pub use Rattle.depth_first_run.proofs.Words as Words
pub use Rattle.slot_store.proofs.Agreement as Agreement
pub use Rattle.slot_store.proofs.Held as Held
pub use Rattle.slot_store.proofs.Rows as Rows
