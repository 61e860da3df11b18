-- What callers need of what this crate stands on.
pub use Rattle.dag_order.specs.Births as Births
pub use Rattle.dag_order.specs.LabelLaws as LabelLaws
pub use Rattle.dag_order.specs.LabelOrder as LabelOrder
pub use Rattle.dag_order.specs.declared.action_id.ActionId as ActionId
pub use Rattle.dag_order.specs.declared.birth.Birth as Birth
pub use Rattle.dag_order.specs.declared.fault.FaultAt as FaultAt
pub use Rattle.dag_order.specs.declared.fault.FaultKind as FaultKind
pub use Rattle.dag_order.specs.declared.fault.FaultKind.TheVariants as FaultKindVariants
pub use Rattle.dag_order.specs.declared.finish.Finish as Finish
pub use Rattle.dag_order.specs.declared.finish.Finish.TheVariants as FinishVariants
pub use Rattle.dag_order.specs.declared.thread_id.ThreadId as ThreadId
pub use Rattle.language_limits.specs.declared.TheConstants as Constants
