-- Definitions of lower crates that callers find here.
pub use Rattle.flat_expressions.specs.Acts as Acts
pub use Rattle.flat_expressions.specs.Values as Values
pub use Rattle.thread_stack.specs.Frames as Frames
pub use Rattle.thread_stack.specs.Lists as Lists
pub use Rattle.thread_stack.specs.Measure as Measure
pub use Rattle.thread_stack.specs.declared.frame.Frame as Frame
pub use Rattle.thread_stack.specs.declared.frame.Frame.TheVariants as FrameVariants
pub use Rattle.thread_stack.specs.declared.list_of.ListOf as ListOf
pub use Rattle.thread_stack.specs.declared.list_of.ListOf.TheVariants as ListOfVariants
