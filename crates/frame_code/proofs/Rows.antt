-- A chain that is lowered, and the rows that hold the statements of a list.
use Rattle.std.proofs.Common.{◌≡◌, List, sym, ap, subst, pos}
use Rattle.std.specs.declared.vec.Vec.{Vec}
use Rattle.std.specs.declared.boxed.Box.{Box}
use Rattle.std.specs.declared.alloc.Global.{Global}
use Rattle.par_tree.specs.Tree
use Rattle.par_tree.specs.View.{row_body, body_tree}
use Rattle.par_tree.specs.declared.expr.Expr.{Num as TreeNum}
use Rattle.par_tree.specs.declared.stmt.Stmt.{Stmt}
use Rattle.par_tree.specs.declared.stmt_kind.StmtKind.TheBlock.{hidden-the_row-Stmt-0}
use Rattle.par_tree.proofs.Lists.{stmt_tree-while}
use Rattle.node_table.specs.Table
use Rattle.node_table.specs.Reading.{IsExpr, AreLinks}
use Rattle.node_table.specs.Shown.{expr_shown, links_shown}
use Rattle.node_table.specs.declared.code_expr.CodeExpr.{CodeExpr, Chain}
use Rattle.node_table.specs.declared.code_link.CodeLink.{CodeLink}
use Rattle.node_table.proofs.Showing.{expr_shown-chain}

chain_read : (names : List Tree.Name) (c : Table.Expr) (ls : Table.Links) (e : Tree.Expr) (rest : Tree.Links) → IsExpr names c e → AreLinks names ls rest → IsExpr names (Table.chain c ls) (Tree.chain e rest)
chain_read names c ls e rest f l = (λ i. Tree.chain (f.0 i) (l.0 i), (f.1, l.1))

pub chain_is : (names : List Tree.Name) (first : Box CodeExpr Global) (rest : Vec CodeLink Global) (e : Tree.Expr) (ls : Tree.Links) (whole : Tree.Expr) → whole ≡ Tree.chain e ls → IsExpr names (expr_shown first.value) e → AreLinks names (links_shown rest.items) ls → IsExpr names (expr_shown (Chain first rest)) whole
chain_is names first rest e ls whole w f l =
    subst (λ (x : Table.Expr). IsExpr names x whole) (sym (expr_shown-chain first rest))
    (subst (λ (x : Tree.Expr). IsExpr names (Table.chain (expr_shown first.value) (links_shown rest.items)) x) (sym w) (chain_read names (expr_shown first.value) (links_shown rest.items) e ls f l))

body_of : Tree.Stmt → Tree.Body
body_of (Tree.while_stmt e b) = b
body_of _ = Tree.done

pub body_is : (b : Vec Stmt Global) → row_body (hidden-the_row-Stmt-0 b) ≡ body_tree b.items
unfolding body_of
body_is b = ap body_of (stmt_tree-while (TreeNum (pos 0)) b)
