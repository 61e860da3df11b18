-- The rows that hold the entries of a `Vec` are its list.
use Rattle.std.proofs.Common.{◌≡◌, refl, ap, ◌∙◌}
use Rattle.std.specs.declared.vec.Vec.{Vec}
use Rattle.std.specs.declared.boxed.Box.{Box}
use Rattle.std.specs.declared.alloc.Global.{Global}
use Rattle.par_tree.specs.Tree
use Rattle.par_tree.specs.View.{name_tree, chain_op_tree, expr_tree, row_links, links_tree, stmt_tree, row_body, body_tree}
use Rattle.par_tree.specs.declared.name.Name.{Name}
use Rattle.par_tree.specs.declared.expr.Expr.{Expr, Chain, Row_of-Link, end_of-Link, more_of-Link, items-the_row-Link, items_hidden-the_row-Link-0}
use Rattle.par_tree.specs.declared.expr.Expr.TheBlock.{hidden-the_row-Link-0}
use Rattle.par_tree.specs.declared.link.Link.{Link}
use Rattle.par_tree.specs.declared.stmt.Stmt.{Stmt}
use Rattle.par_tree.specs.declared.stmt_kind.StmtKind.TheBlock.{hidden-the_row-Stmt-0}
use Rattle.par_tree.specs.declared.stmt_kind.StmtKind.{If, While, Par, Split, Row_of-Stmt, end_of-Stmt, more_of-Stmt, items-the_row-Stmt, items_hidden-the_row-Stmt-0}

row_links-list : {n : _} (k : Row_of-Link n) → row_links k ≡ links_tree (items-the_row-Link n k)
row_links-list end_of-Link = refl
row_links-list (more_of-Link op e rest) = ap (λ (r : Tree.Links). Tree.link (chain_op_tree op) (expr_tree e) r) (row_links-list rest)

row_body-list : {n : _} (k : Row_of-Stmt n) → row_body k ≡ body_tree (items-the_row-Stmt n k)
row_body-list end_of-Stmt = refl
row_body-list (more_of-Stmt line s rest) = ap (λ (r : Tree.Body). Tree.step line (stmt_tree s) r) (row_body-list rest)

links_are : (rest : Vec Link Global) → row_links (hidden-the_row-Link-0 rest) ≡ links_tree rest.items
links_are rest = row_links-list (hidden-the_row-Link-0 rest) ∙ ap links_tree (items_hidden-the_row-Link-0 rest)

body_is : (b : Vec Stmt Global) → row_body (hidden-the_row-Stmt-0 b) ≡ body_tree b.items
body_is b = row_body-list (hidden-the_row-Stmt-0 b) ∙ ap body_tree (items_hidden-the_row-Stmt-0 b)

pub expr_tree-chain : (first : Box Expr Global) (rest : Vec Link Global) → expr_tree (Chain first rest) ≡ Tree.chain (expr_tree first.value) (links_tree rest.items)
expr_tree-chain first rest = ap (λ (r : Tree.Links). Tree.chain (expr_tree first.value) r) (links_are rest)

pub stmt_tree-if : (e : Expr) (a b : Vec Stmt Global) → stmt_tree (If e a b) ≡ Tree.if_stmt (expr_tree e) (body_tree a.items) (body_tree b.items)
stmt_tree-if e a b =
    ap (λ (x : Tree.Body). Tree.if_stmt (expr_tree e) x (row_body (hidden-the_row-Stmt-0 b))) (body_is a)
    ∙ ap (λ (x : Tree.Body). Tree.if_stmt (expr_tree e) (body_tree a.items) x) (body_is b)

pub stmt_tree-while : (e : Expr) (a : Vec Stmt Global) → stmt_tree (While e a) ≡ Tree.while_stmt (expr_tree e) (body_tree a.items)
stmt_tree-while e a = ap (λ (x : Tree.Body). Tree.while_stmt (expr_tree e) x) (body_is a)

pub stmt_tree-par : (a b : Vec Stmt Global) → stmt_tree (Par a b) ≡ Tree.par_stmt (body_tree a.items) (body_tree b.items)
stmt_tree-par a b =
    ap (λ (x : Tree.Body). Tree.par_stmt x (row_body (hidden-the_row-Stmt-0 b))) (body_is a)
    ∙ ap (λ (x : Tree.Body). Tree.par_stmt (body_tree a.items) x) (body_is b)

pub stmt_tree-split : (b : Name) (e : Expr) (l r : Name) (a : Vec Stmt Global) → stmt_tree (Split b e l r a) ≡ Tree.split_stmt (name_tree b) (expr_tree e) (name_tree l) (name_tree r) (body_tree a.items)
stmt_tree-split b e l r a = ap (λ (x : Tree.Body). Tree.split_stmt (name_tree b) (expr_tree e) (name_tree l) (name_tree r) x) (body_is a)
