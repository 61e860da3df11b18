-- What an expression comes to, as the depth-first run says it.
use Rattle.std.specs.Prelude.{Ok, Err}
use Rattle.dag_order.specs.declared.fault.FaultKind.TheVariants as faults
use Rattle.depth_first_run.specs.Values as values
use Rattle.slot_store.specs.declared.outcome.Outcome.{Outcome}
use Rattle.slot_store.specs.declared.outcome.Outcome.TheVariants.{Number, Index, Divide}

-- the number, or the fault
abbrev pub outcome_shown : Outcome → values.Outcome
outcome_shown (Number v) = Ok v
outcome_shown Index = Err faults.Index
outcome_shown Divide = Err faults.Divide
