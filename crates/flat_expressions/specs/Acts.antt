-- Straight code over a row of slots: acts one after another, of which each leaves a number in a slot, or writes one to a block, or meets a
-- fault.
use Rattle.std.specs.Prelude.{ℕ, Bool, List, [], ◌∷◌, length, slice_set, ℤ, pos, Option, Some, None, Result, Ok, Err}
use Rattle.dag_order.specs.declared.fault.FaultKind.{FaultKind}
use Rattle.dag_order.specs.declared.fault.FaultKind.TheVariants as faults
use Rattle.par_tree.specs.Tree.{ChainOp, Comparison}
use Rattle.slot_store.specs.Passed.Values.{Outcome, operated, negated, compared, number_at, place_in, holds, is_true}
use Rattle.slot_store.specs.Rows.{Entry, integer_at, items_at, with_integer_at, with_blocks_at}

-- where the number of an operand is: in a slot, or in the act itself
pub data Operand : Type 0 where
  at_slot : ℕ → Operand
  literal : ℤ → Operand

abbrev pub operand_in : List Entry → Operand → ℤ
operand_in row (at_slot s) = integer_at row s
operand_in row (literal v) = v

-- What an act does. `d` is the slot in which it leaves its number, `b` the slot of the block that it reads or writes: the number of an
-- operand; the length of a block; its number at an index; a number with the other sign; an operator, and a comparison, of two operands;
-- and a write to a block, the index first.
pub data Act : Type 0 where
  move_to : (d : ℕ) → Operand → Act
  length_to : (d b : ℕ) → Act
  element_to : (d b : ℕ) → Operand → Act
  negate_to : (d : ℕ) → Operand → Act
  operate_to : ChainOp → (d : ℕ) → Operand → Operand → Act
  compare_to : Comparison → (d : ℕ) → Operand → Operand → Act
  write_at : (b : ℕ) → Operand → Operand → Act

-- a number is left in a slot, or the fault comes in its place
abbrev pub left_in : ℕ → List Entry → Outcome → Result (List Entry) FaultKind
left_in d row (Ok v) = Ok (with_integer_at row d v)
left_in d row (Err kind) = Err kind

-- a number is written to a place of a block, where the block has the place
abbrev pub written_in : ℕ → List Entry → ℤ → Option ℕ → Result (List Entry) FaultKind
written_in b row v (Some i) = Ok (with_blocks_at row b (slice_set (items_at row b) i v ∷ []))
written_in b row v None = Err faults.Index

-- the row after an act, or its fault
abbrev pub act_on : Act → List Entry → Result (List Entry) FaultKind
act_on (move_to d a) row = left_in d row (Ok (operand_in row a))
act_on (length_to d b) row = left_in d row (Ok (pos (length (items_at row b))))
act_on (element_to d b i) row = left_in d row (number_at (items_at row b) (operand_in row i))
act_on (negate_to d a) row = left_in d row (negated (operand_in row a))
act_on (operate_to op d a b) row = left_in d row (operated op (operand_in row a) (operand_in row b))
act_on (compare_to op d a b) row = left_in d row (compared op (operand_in row a) (operand_in row b))
act_on (write_at b i a) row = written_in b row (operand_in row a) (place_in (items_at row b) (operand_in row i))

-- What straight code gives: the row after its last act; or the first fault, and the row before the act that met it.
pub data Ran : Type 0 where
  ends : List Entry → Ran
  fails : FaultKind → List Entry → Ran

abbrev pub next_act : Result (List Entry) FaultKind → List Entry → (List Entry → Ran) → Ran
next_act (Ok new) row rest = rest new
next_act (Err kind) row rest = fails kind row

abbrev pub straight : List Act → List Entry → Ran
straight [] row = ends row
straight (a ∷ acts) row = next_act (act_on a row) row (straight acts)

-- The test of a condition: that a number is not 0, or a comparison of two numbers, which is then left in no slot.
pub data Test : Type 0 where
  is_set : Operand → Test
  compares : Comparison → Operand → Operand → Test

abbrev pub passes : List Entry → Test → Bool
passes row (is_set a) = is_true (operand_in row a)
passes row (compares op a b) = holds op (operand_in row a) (operand_in row b)
