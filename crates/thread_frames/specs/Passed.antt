-- What callers need of what this crate stands on.
pub use Rattle.moment_shown.specs.Cuts as Cuts
pub use Rattle.moment_shown.specs.Events as Events
pub use Rattle.moment_shown.specs.Parts as Parts
pub use Rattle.moment_shown.specs.Standing as Standing
pub use Rattle.node_table.specs.Table as Table
pub use Rattle.thread_output.specs.Telling as Telling
pub use Rattle.thread_run.specs.Dones as Dones
pub use Rattle.thread_run.specs.Going as Going
pub use Rattle.thread_run.specs.declared.ready.Ready.TheVariants as ReadyVariants
pub use Rattle.thread_run.specs.declared.run.ThreadRun as ThreadRun
pub use Rattle.thread_state.specs.Joins as Joins
pub use Rattle.thread_state.specs.Settings as Settings
