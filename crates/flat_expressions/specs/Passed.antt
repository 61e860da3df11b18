-- Definitions of lower crates that callers find here.
pub use Rattle.dag_order.specs.declared.fault.FaultKind as FaultKind
pub use Rattle.dag_order.specs.declared.fault.FaultKind.TheVariants as FaultKindVariants
pub use Rattle.par_tree.specs.Tree as Tree
pub use Rattle.slot_store.specs.Agreement as Agreement
pub use Rattle.slot_store.specs.Rows as Rows
