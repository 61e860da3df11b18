-- What the values of the Rust types are, and what running them is.
use Rattle.std.specs.Prelude.{◌≡◌, ℕ, List, length, map, pos, Result, Ok, Err}
use Rattle.dag_order.specs.declared.fault.FaultKind.{FaultKind}
use Rattle.par_tree.specs.View.{chain_op_tree, cmp_op_tree}
use Rattle.slot_store.specs.Passed.Values.{Outcome, operated, negated, compared, number_at}
use Rattle.slot_store.specs.Rows.{Entry, items_at}
use Rattle.flat_expressions.specs.Acts
use Rattle.flat_expressions.specs.Acts.{operand_in, Ran, ends, fails}
use Rattle.flat_expressions.specs.declared.operand.Operand.{Operand}
use Rattle.flat_expressions.specs.declared.operand.Operand.TheVariants.{Slot, Number}
use Rattle.flat_expressions.specs.declared.act.Act.{Act}
use Rattle.flat_expressions.specs.declared.act.Act.TheVariants.{Move, Length, Element, Negate, Operate, Compare}

abbrev pub operand_shown : Operand → Acts.Operand
operand_shown (Slot s) = Acts.at_slot s
operand_shown (Number v) = Acts.literal v

abbrev pub act_shown : Act → Acts.Act
act_shown (Move d a) = Acts.move_to d (operand_shown a)
act_shown (Length d b) = Acts.length_to d b
act_shown (Element d b i) = Acts.element_to d b (operand_shown i)
act_shown (Negate d a) = Acts.negate_to d (operand_shown a)
act_shown (Operate op d a b) = Acts.operate_to (chain_op_tree op) d (operand_shown a) (operand_shown b)
act_shown (Compare op d a b) = Acts.compare_to (cmp_op_tree op) d (operand_shown a) (operand_shown b)

abbrev pub acts_shown : List Act → List Acts.Act
acts_shown acts = map act_shown acts

-- the slot in which an act leaves its number, and the number
abbrev pub target_of : Act → ℕ
target_of (Move d a) = d
target_of (Length d b) = d
target_of (Element d b i) = d
target_of (Negate d a) = d
target_of (Operate op d a b) = d
target_of (Compare op d a b) = d

abbrev pub number_by : List Entry → Act → Outcome
number_by row (Move d a) = Ok (operand_in row (operand_shown a))
number_by row (Length d b) = Ok (pos (length (items_at row b)))
number_by row (Element d b i) = number_at (items_at row b) (operand_in row (operand_shown i))
number_by row (Negate d a) = negated (operand_in row (operand_shown a))
number_by row (Operate op d a b) = operated (chain_op_tree op) (operand_in row (operand_shown a)) (operand_in row (operand_shown b))
number_by row (Compare op d a b) = compared (cmp_op_tree op) (operand_in row (operand_shown a)) (operand_in row (operand_shown b))

-- an act was done, which gives this; or it met a fault, and the row is as it was
abbrev pub IsDone : Result (List Entry) FaultKind → (before : List Entry) → Result (Unit {0}) FaultKind → (after : List Entry) → Type 0
IsDone (Ok row) before result after = (result ≡ Ok tt) × (after ≡ row)
IsDone (Err kind) before result after = (result ≡ Err kind) × (after ≡ before)

-- straight code ended, or met a fault, and this is the row that it left
abbrev pub IsRun : Ran → Result (Unit {0}) FaultKind → List Entry → Type 0
IsRun (ends row) result now = (result ≡ Ok tt) × (now ≡ row)
IsRun (fails kind row) result now = (result ≡ Err kind) × (now ≡ row)
