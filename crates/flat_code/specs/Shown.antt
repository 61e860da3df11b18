-- What the values of the Rust types are.
use Rattle.std.specs.Prelude.{◌≡◌, ℕ, List, map, reverse}
use Rattle.node_table.specs.Table.{Expr, Table}
use Rattle.node_table.specs.Codes.{code_shown}
use Rattle.par_tree.specs.View.{cmp_op_tree}
use Rattle.thread_stack.specs.declared.frame.Frame.{Frame}
use Rattle.flat_expressions.specs.Acts as acts
use Rattle.flat_expressions.specs.Codes.{before_test, test_of}
use Rattle.flat_expressions.specs.Shown.{operand_shown, act_shown, acts_shown}
use Rattle.flat_statements.specs.Flat.{Flat, doing, unless, rounds, jumps, leaves, FlatCode}
use Rattle.flat_code.specs.Made.{Placed, placed}
use Rattle.flat_code.specs.declared.test.Test.{Test}
use Rattle.flat_code.specs.declared.test.Test.TheVariants.{IsSet, Compare}
use Rattle.flat_code.specs.declared.instruction.Instruction.{Instruction}
use Rattle.flat_code.specs.declared.instruction.Instruction.TheVariants.{Act, Write, Unless, Round, Jump, Leave}
use Rattle.flat_code.specs.declared.place.Place.{Place}
use Rattle.flat_code.specs.declared.condition.Condition.{Condition}
use Rattle.flat_code.specs.declared.scope.Scope.{Scope}

abbrev pub test_shown : Test → acts.Test
test_shown (IsSet a) = acts.is_set (operand_shown a)
test_shown (Compare op a b) = acts.compares (cmp_op_tree op) (operand_shown a) (operand_shown b)

abbrev pub instruction_shown : Instruction → Flat
instruction_shown (Act a) = doing (act_shown a)
instruction_shown (Write b i a) = doing (acts.write_at b (operand_shown i) (operand_shown a))
instruction_shown (Unless test other) = unless (test_shown test) other
instruction_shown (Round test body behind) = rounds (test_shown test) body behind
instruction_shown (Jump place) = jumps place
instruction_shown Leave = leaves

-- the frames of a stack, the next one first
abbrev pub frames_shown : List Frame → List Frame
frames_shown stack = reverse stack

abbrev pub place_shown : Place → Placed
place_shown p = placed (instruction_shown p.what) (frames_shown p.mark.items)

abbrev pub places_shown : List Place → List Placed
places_shown ps = map place_shown ps

-- places as flat code
abbrev pub what_of : Placed → Flat
what_of p = p.what

abbrev pub mark_of : Placed → List Frame
mark_of p = p.mark

abbrev pub flat_of : List Placed → FlatCode
flat_of ps = record { places = map what_of ps; marks = map mark_of ps }

abbrev pub flat_shown : List Place → FlatCode
flat_shown ps = flat_of (places_shown ps)

-- the table that code is made of
abbrev pub table_of : Scope → Table
table_of s = code_shown s.table.now

-- these are the acts and the test of a condition, in a function with k slots
abbrev pub IsCondition : Condition → Expr → (k : ℕ) → Type 0
IsCondition c e k = (acts_shown c.acts.items ≡ before_test e k) × (test_shown c.test ≡ test_of e k)
