-- Definitions of lower crates that callers find here.
pub use Rattle.flat_program.specs.Programs as Programs
pub use Rattle.flat_program.specs.Running as Running
pub use Rattle.flat_program.specs.declared.flat_list.FlatList as FlatList
