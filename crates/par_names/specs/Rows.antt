-- The statements of a `Vec`, as they stand in the tree of a statement that owns it.
use Rattle.std.specs.declared.vec.Vec.{Vec}
use Rattle.std.specs.declared.alloc.Global.{Global}
use Rattle.par_tree.specs.Tree
use Rattle.par_tree.specs.View.{row_body}
use Rattle.par_tree.specs.declared.stmt.Stmt.{Stmt}
use Rattle.par_tree.specs.declared.stmt_kind.StmtKind.TheBlock.{hidden-the_row-Stmt-0}

abbrev pub rows_tree : Vec Stmt Global → Tree.Body
rows_tree b = row_body (hidden-the_row-Stmt-0 b)
