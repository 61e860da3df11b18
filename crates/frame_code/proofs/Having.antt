-- What has slots: the elements of a list that has them.
use Rattle.std.proofs.Common.{◌≡◌, ℕ, zero, suc, ◌+◌, ◌<◌, Bool, false, ◌||◌, List, [], ◌∷◌, drop, length, get_or, sym, ap, ◌∙◌, subst}
use Rattle.std.specs.Str.{bytes_eq}
use Rattle.par_tree.specs.Tree.{Name}
use Rattle.par_tree.specs.View.{name_tree, expr_tree, links_tree, arg_tree, args_tree, params_tree, stmt_tree, body_tree, func_tree}
use Rattle.par_tree.specs.declared.func.Func.{Func}
use Rattle.block_check.specs.Shown.{funcs_tree}
use Rattle.accepted_source.specs.Laws.{EachFunction}
use Rattle.accepted_source.specs.Sizes.{body_size, functions_size}
use Rattle.par_tree.specs.declared.link.Link.{Link}
use Rattle.par_tree.specs.declared.expr.Expr.{Expr, Chain}
use Rattle.std.specs.declared.vec.Vec.{Vec}
use Rattle.std.specs.declared.boxed.Box.{Box}
use Rattle.std.specs.declared.alloc.Global.{Global}
use Rattle.par_tree.proofs.Lists.{expr_tree-chain}
use Rattle.par_tree.specs.declared.arg.Arg.{Arg}
use Rattle.par_tree.specs.declared.param.Param.{Param}
use Rattle.par_tree.specs.declared.stmt.Stmt.{Stmt}
use Rattle.par_tree.specs.Names.{is_among, param_names}
use Rattle.frame_code.specs.Slotted.{Has, HasAll, HasExpr, HasLinks, HasArg, HasArgs, HasStmt, HasBody, HasFunc}
use Rattle.node_table.proofs.Lists.{at_item, drop_item}

-- a name that is not the first of the names is behind it
pub has_behind : (n x : Name) (rest : List Name) → bytes_eq n x ≡ false → Has (n ∷ rest) x → Has rest x
has_behind n x rest e h = sym (ap (λ (b : Bool). b || is_among x rest) e) ∙ h

pub has_none : (x : Name) → Has [] x → ⊥
has_none x h = cc

-- what holds of all elements of a list holds of those behind a number, and of each element
behind : {A : Type 0} (Q : List A → Type 0) → ((x : A) (xs : List A) → Q (x ∷ xs) → Q xs) → (i : ℕ) (xs : List A) → Q xs → Q (drop i xs)
behind Q rest zero xs h = h
behind Q rest (suc i) [] h = h
behind Q rest (suc i) (x ∷ xs) h = behind Q rest i xs (rest x xs h)

item_has : {A : Type 0} (P : A → Type 0) (Q : List A → Type 0) → ((x : A) (xs : List A) → Q (x ∷ xs) → P x × Q xs) → (xs : List A) (i : ℕ) (x : A) → i < length xs → x ≡ get_or xs i x → Q xs → P x
item_has P Q parts xs i x lt e h = (parts x (drop (i + 1) xs) (at_item Q xs i x lt e (behind Q (λ y ys k. (parts y ys k).1) i xs h))).0

pub link_has : (names : List Name) (ls : List Link) (i : ℕ) (x : Link) → i < length ls → x ≡ get_or ls i x → HasLinks names (links_tree ls) → HasExpr names (expr_tree x.operand)
link_has names ls i x lt e h = item_has (λ (y : Link). HasExpr names (expr_tree y.operand)) (λ ys. HasLinks names (links_tree ys)) (λ y ys k. k) ls i x lt e h

pub arg_has : (names : List Name) (xs : List Arg) (i : ℕ) (x : Arg) → i < length xs → x ≡ get_or xs i x → HasArgs names (args_tree xs) → HasArg names (arg_tree x)
arg_has names xs i x lt e h = item_has (λ (y : Arg). HasArg names (arg_tree y)) (λ ys. HasArgs names (args_tree ys)) (λ y ys k. k) xs i x lt e h

pub param_has : (names : List Name) (xs : List Param) (i : ℕ) (x : Param) → i < length xs → x ≡ get_or xs i x → HasAll names (param_names (params_tree xs)) → Has names (name_tree x.name)
param_has names xs i x lt e h = item_has (λ (y : Param). Has names (name_tree y.name)) (λ ys. HasAll names (param_names (params_tree ys))) (λ y ys k. k) xs i x lt e h

pub stmt_has : (functions names : List Name) (xs : List Stmt) (i : ℕ) (x : Stmt) → i < length xs → x ≡ get_or xs i x → HasBody functions names (body_tree xs) → HasStmt functions names (stmt_tree x.kind)
stmt_has functions names xs i x lt e h = item_has (λ (y : Stmt). HasStmt functions names (stmt_tree y.kind)) (λ ys. HasBody functions names (body_tree ys)) (λ y ys k. k) xs i x lt e h

pub chain_has : (names : List Name) (first : Box Expr Global) (rest : Vec Link Global) (e : Expr) (ls : List Link) → e ≡ Chain first rest → ls ≡ rest.items → HasExpr names (expr_tree e) → HasLinks names (links_tree ls)
chain_has names first rest e ls is same h =
    subst (λ (xs : List Link). HasLinks names (links_tree xs)) (sym same) (subst (λ x. HasExpr names x) (ap expr_tree is ∙ expr_tree-chain first rest) h).1

pub func_has : (functions : List Name) (fs : List Func) (i : ℕ) (f : Func) → i < length fs → f ≡ get_or fs i f → EachFunction (HasFunc functions) (funcs_tree fs) → HasFunc functions (func_tree f)
func_has functions fs i f lt e h = item_has (λ (g : Func). HasFunc functions (func_tree g)) (λ gs. EachFunction (HasFunc functions) (funcs_tree gs)) (λ g gs k. k) fs i f lt e h

-- the statements of the functions that are left
pub func_size : (fs : List Func) (i : ℕ) (f : Func) → i < length fs → f ≡ get_or fs i f → functions_size (funcs_tree (drop i fs)) ≡ body_size (func_tree f).body + functions_size (funcs_tree (drop (i + 1) fs))
func_size fs i f lt e = ap (λ (gs : List Func). functions_size (funcs_tree gs)) (drop_item fs i f lt e)
