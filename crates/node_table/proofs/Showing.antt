-- The chain that is shown is that of its list of links.
use Rattle.std.proofs.Common.{◌≡◌, refl, sym, ap, ◌∙◌}
use Rattle.std.specs.declared.vec.Vec.{Vec}
use Rattle.std.specs.declared.boxed.Box.{Box}
use Rattle.std.specs.declared.alloc.Global.{Global}
use Rattle.par_tree.specs.View.{chain_op_tree}
use Rattle.node_table.specs.Table
use Rattle.node_table.specs.Shown.{expr_shown, row_shown, links_shown}
use Rattle.node_table.specs.declared.code_expr.CodeExpr.{CodeExpr, Chain, Row_of-CodeLink, end_of-CodeLink, more_of-CodeLink, items-the_row-CodeLink, items_hidden-the_row-CodeLink-0}
use Rattle.node_table.specs.declared.code_expr.CodeExpr.TheBlock.{hidden-the_row-CodeLink-0}
use Rattle.node_table.specs.declared.code_link.CodeLink.{CodeLink}

row_shown-list : {n : _} (k : Row_of-CodeLink n) → row_shown k ≡ links_shown (items-the_row-CodeLink n k)
row_shown-list end_of-CodeLink = refl
row_shown-list (more_of-CodeLink op e rest) = ap (λ (r : Table.Links). Table.link (chain_op_tree op) (expr_shown e) r) (row_shown-list rest)

pub expr_shown-chain : (first : Box CodeExpr Global) (rest : Vec CodeLink Global) → expr_shown (Chain first rest) ≡ Table.chain (expr_shown first.value) (links_shown rest.items)
expr_shown-chain first rest =
    ap (λ (r : Table.Links). Table.chain (expr_shown first.value) r) (row_shown-list (hidden-the_row-CodeLink-0 rest) ∙ ap links_shown (items_hidden-the_row-CodeLink-0 rest))

pub chain_alike : (first other : Box CodeExpr Global) (rest more : Vec CodeLink Global) (whole : CodeExpr) → whole ≡ Chain other more → expr_shown first.value ≡ expr_shown other.value → links_shown rest.items ≡ links_shown more.items → expr_shown (Chain first rest) ≡ expr_shown whole
chain_alike first other rest more whole is e l =
    expr_shown-chain first rest
    ∙ ap (λ (x : Table.Expr). Table.chain x (links_shown rest.items)) e
    ∙ ap (λ (r : Table.Links). Table.chain (expr_shown other.value) r) l
    ∙ sym (expr_shown-chain other more)
    ∙ sym (ap expr_shown is)
