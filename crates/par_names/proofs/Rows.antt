-- The statements that a statement owns are a list.
use Rattle.std.proofs.Common.{◌≡◌, ap, pos}
use Rattle.std.specs.declared.vec.Vec.{Vec}
use Rattle.std.specs.declared.alloc.Global.{Global}
use Rattle.par_tree.specs.Tree
use Rattle.par_tree.specs.View.{body_tree}
use Rattle.par_tree.specs.declared.expr.Expr.{Num}
use Rattle.par_tree.specs.declared.stmt.Stmt.{Stmt}
use Rattle.par_tree.proofs.Lists.{stmt_tree-while}
use Rattle.par_names.specs.Rows.{rows_tree}

body_of : Tree.Stmt → Tree.Body
body_of (Tree.while_stmt e b) = b
body_of _ = Tree.done

pub body_is : (b : Vec Stmt Global) → rows_tree b ≡ body_tree b.items
unfolding body_of
body_is b = ap body_of (stmt_tree-while (Num (pos 0)) b)
