-- Definitions of lower crates that callers find here.
pub use Rattle.flat_statements.specs.Codes as Codes
pub use Rattle.flat_statements.specs.Flat as Flat
pub use Rattle.flat_statements.specs.Follows as Follows
pub use Rattle.flat_statements.specs.Forward as Forward
pub use Rattle.flat_statements.specs.Threads as Threads
