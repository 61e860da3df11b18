-- Definitions of lower crates that callers find here.
pub use Rattle.thread_stack.proofs.Costs as Costs
pub use Rattle.thread_stack.proofs.Lists as Lists
