-- What the proofs of callers need of what this crate stands on.
pub use Rattle.moment_shown.proofs.Counting as Counting
pub use Rattle.moment_shown.proofs.Cutting as Cutting
pub use Rattle.moment_shown.proofs.Ending as Ending
pub use Rattle.moment_shown.proofs.Forking as Forking
pub use Rattle.moment_shown.proofs.Placing as Placing
pub use Rattle.moment_shown.proofs.Shown as Shown
pub use Rattle.open_periods.proofs.Changes as Changes
pub use Rattle.open_periods.proofs.Lists as Lists
