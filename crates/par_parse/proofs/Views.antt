-- The lists of a tree, by the lists of the code.
use Rattle.std.proofs.Common.{◌≡◌, ◌<◌, List, [], ◌∷◌, length, map, refl, ap, ◌∙◌, arith}
use Rattle.std.specs.declared.vec.Vec.{Vec}
use Rattle.std.specs.declared.boxed.Box.{Box}
use Rattle.std.specs.declared.alloc.Global.{Global}
use Rattle.par_tree.specs.Tree.{ChainOp, Links, last}
use Rattle.par_tree.specs.Tree
use Rattle.par_tree.specs.View.{expr_tree, links_tree, arg_tree, param_tree, func_tree, body_tree}
use Rattle.par_tree.specs.declared.arg.Arg.{Arg as RustArg}
use Rattle.par_tree.specs.declared.param.Param.{Param as RustParam}
use Rattle.par_tree.specs.declared.func.Func.{Func as RustFunc}
use Rattle.par_tree.specs.declared.stmt.Stmt.{Stmt as RustStmt}
use Rattle.par_tree.specs.declared.expr.Expr.{Expr as RustExpr, Chain}
use Rattle.par_tree.specs.declared.link.Link.{Link}
use Rattle.par_tree.proofs.Lists.{expr_tree-chain}
use Rattle.par_text.specs.Grammar.{linked, chained, listed, stepped}
use Rattle.par_parse.specs.Gives.{link_pair, line_and_tree}
use Rattle.par_parse.proofs.Loops.{put}

pub links_tree-put : (ls : List Link) → links_tree ls ≡ put linked (map link_pair ls) last
links_tree-put [] = refl
links_tree-put (l ∷ ls) = ap (λ (rest : Links). linked (link_pair l) rest) (links_tree-put ls)

chained-some : (e : Tree.Expr) (ls : List Link) → 0 < length ls → Tree.chain e (links_tree ls) ≡ chained e (links_tree ls)
chained-some e [] lt = absurd (omega arith)
chained-some e (l ∷ ls) lt = refl

pub made_chain : (first : Box RustExpr Global) (rest : Vec Link Global) → 0 < length rest.items → expr_tree (Chain first rest) ≡ chained (expr_tree first.value) (links_tree rest.items)
made_chain first rest lt = expr_tree-chain first rest ∙ chained-some (expr_tree first.value) rest.items lt

put-listed : {A : Type 0} (xs : List A) → xs ≡ put listed xs []
put-listed [] = refl
put-listed (x ∷ xs) = ap (λ ys. x ∷ ys) (put-listed xs)

pub args_tree-put : (xs : List RustArg) → map arg_tree xs ≡ put listed (map arg_tree xs) []
args_tree-put xs = put-listed (map arg_tree xs)

pub params_tree-put : (xs : List RustParam) → map param_tree xs ≡ put listed (map param_tree xs) []
params_tree-put xs = put-listed (map param_tree xs)

pub funcs_tree-put : (xs : List RustFunc) → map func_tree xs ≡ put listed (map func_tree xs) []
funcs_tree-put xs = put-listed (map func_tree xs)

pub body_tree-put : (xs : List RustStmt) → body_tree xs ≡ put stepped (map line_and_tree xs) Tree.done
body_tree-put [] = refl
body_tree-put (x ∷ xs) = ap (λ (rest : Tree.Body). stepped (line_and_tree x) rest) (body_tree-put xs)
