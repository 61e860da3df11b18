-- What a caller may use of tables that are programs.
use Rattle.std.specs.Prelude.{◌≡◌, ℕ, ◌<◌, List, length, slice_get, Some}
use Rattle.std.specs.List.{All}
use Rattle.par_tree.specs.Tree.{Name, Body, Func, Program}
use Rattle.par_ownership.specs.Ownership.{Ownership, function_of}
use Rattle.node_table.specs.Names.{slot_names, name_at, IsSlot}
use Rattle.node_table.specs.Table.{Node, Function, Table}
use Rattle.node_table.specs.Programs.{IsBody, IsFunc, function_names, IsTableOf}
use Rattle.node_table.specs.Codes.{code_shown}
use Rattle.node_table.specs.declared.node_table.NodeTable.{NodeTable}

-- slots of different numbers have different names
abbrev pub SlotNamesDiffer : Type 0
SlotNamesDiffer =
    (f : Func) (i j : ℕ) → i < length (slot_names f) → j < length (slot_names f) → name_at (slot_names f) i ≡ name_at (slot_names f) j
    → i ≡ j

-- tables that are the same as plain data are of the same programs
abbrev pub SameTableSameProgram : Type 0
SameTableSameProgram = (p : Program) (a b : NodeTable) → code_shown a ≡ code_shown b → IsTableOf p (code_shown a) → IsTableOf p (code_shown b)

-- a number that reads as a name is that of the function that a call of this name finds, and the table has it under this number
pub record IsCallee (p : Program) (t : Table) (n : ℕ) (x : Name) : Type 0 where
  pub func : Func
  pub code : Function
  pub found : function_of p x ≡ Some func
  pub there : slice_get t.funcs n ≡ Some code
  pub is : IsFunc t.nodes (function_names p) func code

abbrev pub CallsFindFunctions : Type 0
CallsFindFunctions =
    (p : Program) (t : Table) (n : ℕ) (x : Name) → Ownership p → IsTableOf p t → IsSlot (function_names p) n x → IsCallee p t n x

-- each number of a list of statements has a node
abbrev pub NumbersHaveNodes : Type 0
NumbersHaveNodes =
    (t : List Node) (functions names : List Name) (b : Body) (low : ℕ) (ns : List ℕ) → IsBody t functions names b low ns
    → All (λ n. n < length t) ns
