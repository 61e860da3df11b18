-- What can be lowered: each name has a slot, each call has a function, and there are not too many of them.
use Rattle.std.specs.Prelude.{◌≡◌, ℕ, ◌≤◌, true, List, [], ◌∷◌, length, Option, Some, None}
use Rattle.language_limits.specs.declared.TheConstants.{GREATEST_COUNT}
use Rattle.par_tree.specs.Tree
use Rattle.par_tree.specs.Tree.{Name, Expr, num, var, get, len_of, neg, chain, cmp, Links, last, link, Target, unused, block, Arg, value, lend, give, Stmt, let_stmt, assign_stmt, put_stmt, alloc_stmt, free_stmt, if_stmt, while_stmt, call_stmt, print_stmt, par_stmt, split_stmt, Body, done, step, RetValue, gives, hands, Ret, Func, Program}
use Rattle.par_ownership.specs.Ownership.{main_name}
use Rattle.par_tree.specs.Names.{is_among, param_names}
use Rattle.accepted_source.specs.Laws.{EachFunction}
use Rattle.accepted_source.specs.Sizes.{functions_size}
use Rattle.node_table.specs.Names.{slot_names}

-- x is among the names
abbrev pub Has : List Name → Name → Type 0
Has names x = is_among x names ≡ true

abbrev pub HasAll : List Name → List Name → Type 0
HasAll names [] = Unit {0}
HasAll names (x ∷ xs) = Has names x × HasAll names xs

-- each name of an expression, of links, of a target, of arguments or of a `return` is among the names
abbrev mutual
  pub HasExpr : List Name → Expr → Type 0
  HasExpr names (num n) = Unit {0}
  HasExpr names (var x) = Has names x
  HasExpr names (get b i) = Has names b × HasExpr names i
  HasExpr names (len_of b) = Has names b
  HasExpr names (neg e) = HasExpr names e
  HasExpr names (chain e rest) = HasExpr names e × HasLinks names rest
  HasExpr names (cmp op l r) = HasExpr names l × HasExpr names r

  pub HasLinks : List Name → Links → Type 0
  HasLinks names last = Unit {0}
  HasLinks names (link op e rest) = HasExpr names e × HasLinks names rest

abbrev pub HasTarget : List Name → Target → Type 0
HasTarget names unused = Unit {0}
HasTarget names (Tree.integer x) = Has names x
HasTarget names (block b) = Has names b

abbrev pub HasArg : List Name → Arg → Type 0
HasArg names (value e) = HasExpr names e
HasArg names (lend b) = Has names b
HasArg names (give b) = Has names b

abbrev pub HasArgs : List Name → List Arg → Type 0
HasArgs names [] = Unit {0}
HasArgs names (a ∷ rest) = HasArg names a × HasArgs names rest

abbrev pub HasValue : List Name → RetValue → Type 0
HasValue names (gives e) = HasExpr names e
HasValue names (hands b) = Has names b

abbrev pub HasReturn : List Name → Option Ret → Type 0
HasReturn names None = Unit {0}
HasReturn names (Some r) = HasValue names r.value

module _ (functions names : List Name) where
  -- each name of a statement is among the names, and each function that it calls among the functions
  abbrev mutual
    pub HasStmt : Stmt → Type 0
    HasStmt (let_stmt x e) = Has names x × HasExpr names e
    HasStmt (assign_stmt x e) = Has names x × HasExpr names e
    HasStmt (put_stmt b i e) = Has names b × HasExpr names i × HasExpr names e
    HasStmt (alloc_stmt b e) = Has names b × HasExpr names e
    HasStmt (free_stmt b) = Has names b
    HasStmt (if_stmt c a b) = HasExpr names c × HasBody a × HasBody b
    HasStmt (while_stmt c a) = HasExpr names c × HasBody a
    HasStmt (call_stmt t f args) = HasTarget names t × Has functions f × HasArgs names args
    HasStmt (print_stmt e) = HasExpr names e
    HasStmt (par_stmt a b) = HasBody a × HasBody b
    HasStmt (split_stmt b e l r a) = Has names b × HasExpr names e × Has names l × Has names r × HasBody a

    pub HasBody : Body → Type 0
    HasBody done = Unit {0}
    HasBody (step line s rest) = HasStmt s × HasBody rest

-- a frame has a slot for each of so many names
abbrev pub most_slots : ℕ
most_slots = 65535

-- so many nodes have numbers
abbrev pub most_nodes : ℕ
most_nodes = GREATEST_COUNT

-- a function whose names have slots
pub record HasFunc (functions : List Name) (f : Func) : Type 0 where
  pub few : length (slot_names f) ≤ most_slots
  pub params : HasAll (slot_names f) (param_names f.params)
  pub body : HasBody functions (slot_names f) f.body
  pub ret : HasReturn (slot_names f) f.ret

-- functions whose names have slots, whose calls find functions, and whose statements have numbers
pub record CanBeLowered (functions : List Name) (p : Program) : Type 0 where
  pub few : length p ≤ most_nodes
  pub small : functions_size p ≤ most_nodes
  pub each : EachFunction (HasFunc functions) p
  pub main : Has functions main_name
