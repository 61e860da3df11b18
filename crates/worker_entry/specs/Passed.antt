-- What callers need of what this crate stands on.
pub use Rattle.dfd_core.specs.Cores as Cores
pub use Rattle.dfd_core.specs.Parts as Parts
pub use Rattle.dfd_core.specs.declared.run.Core as Core
