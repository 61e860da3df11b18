-- Definitions of lower crates that callers find here.
pub use Rattle.flat_expressions.specs.Acts as Acts
pub use Rattle.flat_expressions.specs.Meanings as Meanings
