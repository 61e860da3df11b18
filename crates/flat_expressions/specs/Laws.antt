-- What a caller may use of the straight code of expressions. The function has k slots, and temporary slots are after them.
use Rattle.std.specs.Prelude.{◌≡◌, ℕ, suc, ◌<◌, ◌≤◌, List, length}
use Rattle.par_tree.specs.Tree.{Name}
use Rattle.slot_store.specs.Passed.Stores.{Store}
use Rattle.slot_store.specs.Passed.Values.{value}
use Rattle.slot_store.specs.Passed.Table.{Expr}
use Rattle.slot_store.specs.Passed.Reading.{expr_read, FitsExpr}
use Rattle.slot_store.specs.Rows.{Entry}
use Rattle.slot_store.specs.Agreement.{ShowsStore}
use Rattle.flat_expressions.specs.Values.{value_in, set_by, put_by}
use Rattle.flat_expressions.specs.Codes.{code_of, put_code, before_test, test_of, HasRoom}
use Rattle.flat_expressions.specs.Meanings.{IsExprCode, Do, AreTest}

-- the number of an expression over a row is its value over the store that the row shows
abbrev pub RowsGiveTheValue : Type 0
RowsGiveTheValue =
    (names : List Name) (row : List Entry) (store : Store) (e : Expr) → ShowsStore names row store → FitsExpr (length names) e
    → value_in row e ≡ value store (expr_read names e)

-- each expression has code, for each slot that its number goes to
abbrev pub ExpressionsHaveCode : Type 0
ExpressionsHaveCode =
    (k size d : ℕ) (e : Expr) → FitsExpr k e → HasRoom size e k → d < size → IsExprCode k size d e (code_of e d k)

-- so have assignments, writes and conditions
abbrev pub AssignmentsHaveCode : Type 0
AssignmentsHaveCode =
    (k size s : ℕ) (e : Expr) → FitsExpr k e → HasRoom size e k → s < k → k ≤ size → Do k size (set_by s e) (code_of e s k)

abbrev pub WritesHaveCode : Type 0
WritesHaveCode =
    (k size b : ℕ) (i e : Expr) → FitsExpr k i → FitsExpr k e → k < size → HasRoom size i k → suc k < size → HasRoom size e (suc k) → b < k
    → Do k size (put_by b i e) (put_code b i e k)

abbrev pub ConditionsHaveCode : Type 0
ConditionsHaveCode = (k size : ℕ) (e : Expr) → FitsExpr k e → HasRoom size e k → k < size → AreTest k size e (before_test e k) (test_of e k)
