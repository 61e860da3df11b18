-- How large expressions and lists of statements are: what the recursions over them go down by.
use Rattle.std.proofs.Common.{◌≡◌, ℕ, zero, suc, ◌+◌, ◌*◌, ◌<◌, ◌≤◌, List, [], ◌∷◌, drop, length, get_or, ap, ◌∙◌, arith}
use Rattle.std.specs.declared.vec.Vec.{Vec}
use Rattle.std.specs.declared.boxed.Box.{Box}
use Rattle.std.specs.declared.alloc.Global.{Global}
use Rattle.par_tree.specs.Tree.{Expr, num, var, get, len_of, neg, chain, cmp, Links, last, link, Stmt, Body}
use Rattle.par_tree.specs.View.{expr_tree, links_tree, stmt_tree, body_tree}
use Rattle.par_tree.specs.declared.expr.Expr.{Expr as RustExpr, Chain}
use Rattle.par_tree.specs.declared.link.Link.{Link}
use Rattle.par_tree.specs.declared.stmt.Stmt.{Stmt as RustStmt}
use Rattle.par_tree.proofs.Lists.{expr_tree-chain}
use Rattle.accepted_source.specs.Sizes.{stmt_size, body_size}
use Rattle.node_table.proofs.Lists.{drop_item}

abbrev mutual
  pub expr_weight : Expr → ℕ
  expr_weight (num n) = 1
  expr_weight (var x) = 1
  expr_weight (get b i) = 1 + expr_weight i
  expr_weight (len_of b) = 1
  expr_weight (neg e) = 1 + expr_weight e
  expr_weight (chain e rest) = 1 + (expr_weight e + links_weight rest)
  expr_weight (cmp op l r) = 1 + (expr_weight l + expr_weight r)

  pub links_weight : Links → ℕ
  links_weight last = 0
  links_weight (link op e rest) = 1 + (expr_weight e + links_weight rest)

pub link_lighter : (ls : List Link) (i : ℕ) (x : Link) → i < length ls → x ≡ get_or ls i x → expr_weight (expr_tree x.operand) < links_weight (links_tree ls)
link_lighter [] i x lt e = let never : ⊥ = omega arith in absurd never
link_lighter (y ∷ ys) zero x lt e = let same = ap (λ (z : Link). expr_weight (expr_tree z.operand)) e in omega (arith, same)
link_lighter (y ∷ ys) (suc i) x lt e = let less : i < length ys = omega arith in let inside = link_lighter ys i x less e in omega (arith, inside)

pub chain_weight : (first : Box RustExpr Global) (rest : Vec Link Global) (e : RustExpr) → e ≡ Chain first rest → expr_weight (expr_tree e) ≡ 1 + (expr_weight (expr_tree first.value) + links_weight (links_tree rest.items))
chain_weight first rest e is = ap (λ x. expr_weight x) (ap expr_tree is ∙ expr_tree-chain first rest)

-- A list inside a statement is lighter than the statement, and a list is heavier than each of its statements.
abbrev pub stmt_weight : Stmt → ℕ
stmt_weight s = 3 * stmt_size s

abbrev pub nested_weight : Body → ℕ
nested_weight b = 3 * body_size b + 2

abbrev pub list_weight : Body → ℕ
list_weight b = 3 * body_size b + 1

pub item_size : (xs : List RustStmt) (i : ℕ) (x : RustStmt) → i < length xs → x ≡ get_or xs i x → body_size (body_tree (drop i xs)) ≡ stmt_size (stmt_tree x.kind) + body_size (body_tree (drop (i + 1) xs))
item_size xs i x lt e = ap (λ (ys : List RustStmt). body_size (body_tree ys)) (drop_item xs i x lt e)

pub rest_size : (i : ℕ) (xs : List RustStmt) → body_size (body_tree (drop i xs)) ≤ body_size (body_tree xs)
rest_size zero xs = omega arith
rest_size (suc i) [] = omega arith
rest_size (suc i) (x ∷ xs) = let rest = rest_size i xs in omega (arith, rest)
