-- What a caller may use: the tree of a value that holds a list, by the list that its `Vec` shows.
use Rattle.std.specs.Prelude.{◌≡◌}
use Rattle.std.specs.declared.vec.Vec.{Vec}
use Rattle.std.specs.declared.boxed.Box.{Box}
use Rattle.std.specs.declared.alloc.Global.{Global}
use Rattle.par_tree.specs.Tree
use Rattle.par_tree.specs.View.{name_tree, expr_tree, links_tree, stmt_tree, body_tree}
use Rattle.par_tree.specs.declared.name.Name.{Name}
use Rattle.par_tree.specs.declared.expr.Expr.{Expr, Chain}
use Rattle.par_tree.specs.declared.link.Link.{Link}
use Rattle.par_tree.specs.declared.stmt.Stmt.{Stmt}
use Rattle.par_tree.specs.declared.stmt_kind.StmtKind.{If, While, Par, Split}

-- each list of a tree is the list in the `Vec`, one entry after the other
pub record ListsAreLists : Type 0 where
  pub of_chain : (first : Box Expr Global) (rest : Vec Link Global)
      → expr_tree (Chain first rest) ≡ Tree.chain (expr_tree first.value) (links_tree rest.items)
  pub of_if : (e : Expr) (a b : Vec Stmt Global) → stmt_tree (If e a b) ≡ Tree.if_stmt (expr_tree e) (body_tree a.items) (body_tree b.items)
  pub of_while : (e : Expr) (a : Vec Stmt Global) → stmt_tree (While e a) ≡ Tree.while_stmt (expr_tree e) (body_tree a.items)
  pub of_par : (a b : Vec Stmt Global) → stmt_tree (Par a b) ≡ Tree.par_stmt (body_tree a.items) (body_tree b.items)
  pub of_split : (b : Name) (e : Expr) (l r : Name) (a : Vec Stmt Global)
      → stmt_tree (Split b e l r a) ≡ Tree.split_stmt (name_tree b) (expr_tree e) (name_tree l) (name_tree r) (body_tree a.items)
