-- A name is among those that are listed where the definitions of what a list mentions find it.
use Rattle.std.proofs.Common.{◌≡◌, Bool, true, false, ◌||◌, List, [], ◌∷◌, ◌++◌, refl, ap, ◌∙◌}
use Rattle.std.specs.Str.{bytes_eq}
use Rattle.std.proofs.lemmas.List.Folds.{list_any-append}
use Rattle.par_tree.specs.Tree.{Name, Expr, num, var, get, len_of, neg, chain, cmp, Links, last, link, Target, unused, integer, block, Arg, value, lend, give, Stmt, let_stmt, assign_stmt, put_stmt, alloc_stmt, free_stmt, if_stmt, while_stmt, call_stmt, print_stmt, par_stmt, split_stmt, Body, done, step}
use Rattle.par_tree.specs.Names.{names_in_expr, names_in_links, names_in_target, names_in_arg, names_in_args, names_in_stmt, names_in_body, assigns_in_target, assigns_in_stmt, assigns_in_body}
use Rattle.par_tree.specs.Names.{expr_names, links_names, target_names, arg_names, args_names, parts_names, stmt_names, body_names, target_assigned, stmt_assigned, body_assigned}
use Rattle.par_tree.specs.Names.{is_among}

or_assoc : (a b c : Bool) → (a || (b || c)) ≡ ((a || b) || c)
or_assoc true b c = refl
or_assoc false b c = refl

pub or-false : (a : Bool) → (a || false) ≡ a
or-false true = refl
or-false false = refl

pub among-append : (x : Name) (xs ys : List Name) → is_among x (xs ++ ys) ≡ (is_among x xs || is_among x ys)
among-append x xs ys = list_any-append (λ (y : Name). bytes_eq y x) xs ys

pub among-one : (x y : Name) → is_among x (y ∷ []) ≡ bytes_eq y x
among-one x y = or-false (bytes_eq y x)

joined : {a b : Bool} (x : Name) (xs ys : List Name) → is_among x xs ≡ a → is_among x ys ≡ b → is_among x (xs ++ ys) ≡ (a || b)
joined {a} {b} x xs ys e f = among-append x xs ys ∙ ap (λ c. c || is_among x ys) e ∙ ap (λ c. a || c) f

behind : {b : Bool} (x y : Name) (ys : List Name) → is_among x ys ≡ b → is_among x (y ∷ ys) ≡ (bytes_eq y x || b)
behind x y ys e = ap (λ c. bytes_eq y x || c) e

mutual
  pub expr_found : (x : Name) (e : Expr) → is_among x (expr_names e) ≡ names_in_expr x e
  expr_found x (num n) = refl
  expr_found x (var y) = among-one x y
  expr_found x (get b i) = behind x b (expr_names i) (expr_found x i)
  expr_found x (len_of b) = among-one x b
  expr_found x (neg e) = expr_found x e
  expr_found x (chain e ls) = joined x (expr_names e) (links_names ls) (expr_found x e) (links_found x ls)
  expr_found x (cmp op l r) = joined x (expr_names l) (expr_names r) (expr_found x l) (expr_found x r)

  pub links_found : (x : Name) (ls : Links) → is_among x (links_names ls) ≡ names_in_links x ls
  links_found x last = refl
  links_found x (link op e ls) = joined x (expr_names e) (links_names ls) (expr_found x e) (links_found x ls)

target_found : (x : Name) (t : Target) → is_among x (target_names t) ≡ names_in_target x t
target_found x unused = refl
target_found x (integer y) = among-one x y
target_found x (block b) = among-one x b

arg_found : (x : Name) (a : Arg) → is_among x (arg_names a) ≡ names_in_arg x a
arg_found x (value e) = expr_found x e
arg_found x (lend b) = among-one x b
arg_found x (give b) = among-one x b

args_found : (x : Name) (args : List Arg) → is_among x (args_names args) ≡ names_in_args x args
args_found x [] = refl
args_found x (a ∷ rest) = joined x (arg_names a) (args_names rest) (arg_found x a) (args_found x rest)

parts_found : (x b : Name) (e : Expr) (l r : Name) → is_among x (parts_names b e l r) ≡ (bytes_eq b x || names_in_expr x e || bytes_eq l x || bytes_eq r x)
parts_found x b e l r =
    let i = bytes_eq b x in
    let j = names_in_expr x e in
    let m = bytes_eq l x in
    let n = bytes_eq r x in
    behind x b (expr_names e ++ l ∷ r ∷ []) (joined x (expr_names e) (l ∷ r ∷ []) (expr_found x e) (behind x l (r ∷ []) (among-one x r)))
    ∙ or_assoc i j (m || n)
    ∙ or_assoc (i || j) m n

mutual
  pub stmt_found : (x : Name) (s : Stmt) → is_among x (stmt_names s) ≡ names_in_stmt x s
  stmt_found x (let_stmt y e) = behind x y (expr_names e) (expr_found x e)
  stmt_found x (assign_stmt y e) = behind x y (expr_names e) (expr_found x e)
  stmt_found x (put_stmt b i e) =
      behind x b (expr_names i ++ expr_names e) (joined x (expr_names i) (expr_names e) (expr_found x i) (expr_found x e))
      ∙ or_assoc (bytes_eq b x) (names_in_expr x i) (names_in_expr x e)
  stmt_found x (alloc_stmt b e) = behind x b (expr_names e) (expr_found x e)
  stmt_found x (free_stmt b) = among-one x b
  stmt_found x (if_stmt c a b) = joined x (expr_names c) (body_names a ++ body_names b) (expr_found x c) (joined x (body_names a) (body_names b) (body_found x a) (body_found x b))
  stmt_found x (while_stmt c a) = joined x (expr_names c) (body_names a) (expr_found x c) (body_found x a)
  stmt_found x (call_stmt t f args) = joined x (target_names t) (args_names args) (target_found x t) (args_found x args)
  stmt_found x (print_stmt e) = expr_found x e
  stmt_found x (par_stmt a b) = joined x (body_names a) (body_names b) (body_found x a) (body_found x b)
  stmt_found x (split_stmt b e l r a) = joined x (parts_names b e l r) (body_names a) (parts_found x b e l r) (body_found x a)

  pub body_found : (x : Name) (b : Body) → is_among x (body_names b) ≡ names_in_body x b
  body_found x done = refl
  body_found x (step line s rest) = joined x (stmt_names s) (body_names rest) (stmt_found x s) (body_found x rest)

target_assigned_found : (x : Name) (t : Target) → is_among x (target_assigned t) ≡ assigns_in_target x t
target_assigned_found x unused = refl
target_assigned_found x (integer y) = among-one x y
target_assigned_found x (block b) = refl

mutual
  pub stmt_assigned_found : (x : Name) (s : Stmt) → is_among x (stmt_assigned s) ≡ assigns_in_stmt x s
  stmt_assigned_found x (let_stmt y e) = refl
  stmt_assigned_found x (assign_stmt y e) = among-one x y
  stmt_assigned_found x (put_stmt b i e) = refl
  stmt_assigned_found x (alloc_stmt b e) = refl
  stmt_assigned_found x (free_stmt b) = refl
  stmt_assigned_found x (if_stmt c a b) = joined x (body_assigned a) (body_assigned b) (body_assigned_found x a) (body_assigned_found x b)
  stmt_assigned_found x (while_stmt c a) = body_assigned_found x a
  stmt_assigned_found x (call_stmt t f args) = target_assigned_found x t
  stmt_assigned_found x (print_stmt e) = refl
  stmt_assigned_found x (par_stmt a b) = joined x (body_assigned a) (body_assigned b) (body_assigned_found x a) (body_assigned_found x b)
  stmt_assigned_found x (split_stmt b e l r a) = body_assigned_found x a

  pub body_assigned_found : (x : Name) (b : Body) → is_among x (body_assigned b) ≡ assigns_in_body x b
  body_assigned_found x done = refl
  body_assigned_found x (step line s rest) = joined x (stmt_assigned s) (body_assigned rest) (stmt_assigned_found x s) (body_assigned_found x rest)
