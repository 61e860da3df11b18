-- What a caller may use of flat code that is made.
use Rattle.std.specs.Prelude.{ℕ, ◌≤◌, List, length}
use Rattle.par_tree.specs.Tree.{Name, Program, Body}
use Rattle.node_table.specs.Table.{Table}
use Rattle.thread_stack.specs.declared.list_of.ListOf.{ListOf}
use Rattle.thread_stack.specs.Lists.{kind_at, numbers_from}
use Rattle.thread_stack.specs.Frames.{AreStatements}
use Rattle.flat_code.specs.Fits.{KindHasRoom, CanBeFlat}

-- Each list of a table that is statements of a program has flat code, in a row that has room for the intermediate numbers of each node.
abbrev pub ListsOfProgramsCanBeFlat : Type 0
ListsOfProgramsCanBeFlat =
    (p : Program) (t : Table) (names : List Name) (list : ListOf) (b : Body) (size : ℕ) → AreStatements p t names (numbers_from t list 0) b
    → length names ≤ size → ((n : ℕ) → KindHasRoom (length names) size (kind_at t n)) → CanBeFlat t (length names) size list

-- A list that has flat code in a row of so many slots has it in each longer row.
abbrev pub LongerRowsServe : Type 0
LongerRowsServe = (t : Table) (k size most : ℕ) (list : ListOf) → size ≤ most → CanBeFlat t k size list → CanBeFlat t k most list
