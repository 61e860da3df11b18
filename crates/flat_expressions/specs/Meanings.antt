-- What it means that straight code is that of an expression, of an assignment, of a write, of a condition: whatever it leaves in temporary
-- slots, the slots of the function become what the definition says, or the same fault comes and they are as they were.
use Rattle.std.specs.Prelude.{◌≡◌, ℕ, ◌<◌, List, length, ℤ, Result, Ok, Err}
use Rattle.dag_order.specs.declared.fault.FaultKind.{FaultKind}
use Rattle.slot_store.specs.Passed.Values.{Outcome, is_true}
use Rattle.slot_store.specs.Passed.Table.{Expr}
use Rattle.slot_store.specs.Rows.{Entry, entry_at, integer_at, blocks_at}
use Rattle.flat_expressions.specs.Acts.{Act, Ran, ends, fails, straight, Test, passes}
use Rattle.flat_expressions.specs.Values.{value_in}

-- a row of `size` slots has the k slots of a function in front
pub record HasInFront (k size : ℕ) (row own : List Entry) : Type 0 where
  pub long : length row ≡ size
  pub short : length own ≡ k
  pub same : (s : ℕ) → s < k → entry_at row s ≡ entry_at own s

-- Code that ran on a row with `own` in front gave this: the new slots of the function are in front, or the fault, and `own` is.
abbrev pub CameTo : (k size : ℕ) → (own : List Entry) → Ran → Result (List Entry) FaultKind → Type 0
CameTo k size own (ends row) (Ok new) = HasInFront k size row new
CameTo k size own (ends row) (Err kind) = ⊥
CameTo k size own (fails kind row) (Ok new) = ⊥
CameTo k size own (fails other row) (Err kind) = (other ≡ kind) × HasInFront k size row own

-- acts do to a function's k slots, in a row of `size` slots, what `f` does
abbrev pub Do : (k size : ℕ) → (List Entry → Result (List Entry) FaultKind) → List Act → Type 0
Do k size f acts = (row own : List Entry) → HasInFront k size row own → CameTo k size own (straight acts row) (f own)

-- acts leave the function's slots as they are, and the test after them passes exactly where the number of the condition is not 0
abbrev pub TestCameTo : (k size : ℕ) → (own : List Entry) → Test → Ran → Outcome → Type 0
TestCameTo k size own test (ends row) (Ok v) = HasInFront k size row own × (passes row test ≡ is_true v)
TestCameTo k size own test (ends row) (Err kind) = ⊥
TestCameTo k size own test (fails kind row) (Ok v) = ⊥
TestCameTo k size own test (fails other row) (Err kind) = (other ≡ kind) × HasInFront k size row own

abbrev pub AreTest : (k size : ℕ) → Expr → List Act → Test → Type 0
AreTest k size e acts test =
    (row own : List Entry) → HasInFront k size row own → TestCameTo k size own test (straight acts row) (value_in own e)

-- below k two rows are the same
pub record SameBelow (k : ℕ) (before after : List Entry) : Type 0 where
  pub long : length after ≡ length before
  pub same : (s : ℕ) → s < k → entry_at after s ≡ entry_at before s

-- the slot d has the integer v from now on; below k nothing else is changed
pub record Left (k d : ℕ) (v : ℤ) (before after : List Entry) : Type 0 where
  pub long : length after ≡ length before
  pub number : integer_at after d ≡ v
  pub blocks : d < k → blocks_at after d ≡ blocks_at before d
  pub others : (s : ℕ) → s < k → (s ≡ d → ⊥) → entry_at after s ≡ entry_at before s

-- straight code leaves a number in the slot d and changes no other slot below k; or it meets the fault, and changes none
abbrev pub Leaves : (k d : ℕ) → (before : List Entry) → Outcome → Ran → Type 0
Leaves k d before (Ok v) (ends after) = Left k d v before after
Leaves k d before (Ok v) (fails kind after) = ⊥
Leaves k d before (Err kind) (ends after) = ⊥
Leaves k d before (Err kind) (fails other after) = (other ≡ kind) × SameBelow k before after

-- acts are the code of an expression: in each row of `size` slots they leave its number in the slot d, or meet its fault
abbrev pub IsExprCode : (k size d : ℕ) → Expr → List Act → Type 0
IsExprCode k size d e acts = (row : List Entry) → length row ≡ size → Leaves k d row (value_in row e) (straight acts row)
