-- Which names a program writes, declares and assigns to. A declaration writes what it declares; the names of functions are apart, and
-- never count. A name is asked for by a test, or all are listed in the order of the text; `par_names` has the law that both say the same.
use Rattle.std.specs.Prelude.{Bool, false, ◌||◌, List, [], ◌∷◌, ◌++◌, map, Option, Some, None}
use Rattle.std.specs.Str.{bytes_eq}
use Rattle.std.specs.List.{list_any}
use Rattle.par_tree.specs.Tree.{Name, Expr, num, var, get, len_of, neg, chain, cmp, Links, last, link, Target, unused, integer, block, Arg, value, lend, give, Stmt, let_stmt, assign_stmt, put_stmt, alloc_stmt, free_stmt, if_stmt, while_stmt, call_stmt, print_stmt, par_stmt, split_stmt, Body, done, step, Param, Func, Ret, RetValue, gives, hands}

-- x is among some names
abbrev pub is_among : Name → List Name → Bool
is_among x names = list_any (λ y. bytes_eq y x) names

-- tests: is x written, is it assigned to

-- the expression names x
abbrev mutual
  pub names_in_expr : Name → Expr → Bool
  names_in_expr x (num n) = false
  names_in_expr x (var y) = bytes_eq y x
  names_in_expr x (get b i) = bytes_eq b x || names_in_expr x i
  names_in_expr x (len_of b) = bytes_eq b x
  names_in_expr x (neg e) = names_in_expr x e
  names_in_expr x (chain e ls) = names_in_expr x e || names_in_links x ls
  names_in_expr x (cmp op l r) = names_in_expr x l || names_in_expr x r

  pub names_in_links : Name → Links → Bool
  names_in_links x last = false
  names_in_links x (link op e ls) = names_in_expr x e || names_in_links x ls

abbrev pub names_in_target : Name → Target → Bool
names_in_target x unused = false
names_in_target x (integer y) = bytes_eq y x
names_in_target x (block b) = bytes_eq b x

abbrev pub names_in_arg : Name → Arg → Bool
names_in_arg x (value e) = names_in_expr x e
names_in_arg x (lend b) = bytes_eq b x
names_in_arg x (give b) = bytes_eq b x

abbrev pub names_in_args : Name → List Arg → Bool
names_in_args x [] = false
names_in_args x (a ∷ rest) = names_in_arg x a || names_in_args x rest

-- the statements name x
abbrev mutual
  pub names_in_stmt : Name → Stmt → Bool
  names_in_stmt x (let_stmt y e) = bytes_eq y x || names_in_expr x e
  names_in_stmt x (assign_stmt y e) = bytes_eq y x || names_in_expr x e
  names_in_stmt x (put_stmt b i e) = bytes_eq b x || names_in_expr x i || names_in_expr x e
  names_in_stmt x (alloc_stmt b e) = bytes_eq b x || names_in_expr x e
  names_in_stmt x (free_stmt b) = bytes_eq b x
  names_in_stmt x (if_stmt c a b) = names_in_expr x c || (names_in_body x a || names_in_body x b)
  names_in_stmt x (while_stmt c a) = names_in_expr x c || names_in_body x a
  names_in_stmt x (call_stmt t f args) = names_in_target x t || names_in_args x args
  names_in_stmt x (print_stmt e) = names_in_expr x e
  names_in_stmt x (par_stmt a b) = names_in_body x a || names_in_body x b
  names_in_stmt x (split_stmt b e l r a) = bytes_eq b x || names_in_expr x e || bytes_eq l x || bytes_eq r x || names_in_body x a

  pub names_in_body : Name → Body → Bool
  names_in_body x done = false
  names_in_body x (step line s rest) = names_in_stmt x s || names_in_body x rest

-- the answer of a call is assigned to the integer x
abbrev pub assigns_in_target : Name → Target → Bool
assigns_in_target x unused = false
assigns_in_target x (integer y) = bytes_eq y x
assigns_in_target x (block b) = false

-- the statements assign to the integer x, by `=` or as the target of a call
abbrev mutual
  pub assigns_in_stmt : Name → Stmt → Bool
  assigns_in_stmt x (let_stmt y e) = false
  assigns_in_stmt x (assign_stmt y e) = bytes_eq y x
  assigns_in_stmt x (put_stmt b i e) = false
  assigns_in_stmt x (alloc_stmt b e) = false
  assigns_in_stmt x (free_stmt b) = false
  assigns_in_stmt x (if_stmt c a b) = assigns_in_body x a || assigns_in_body x b
  assigns_in_stmt x (while_stmt c a) = assigns_in_body x a
  assigns_in_stmt x (call_stmt t f args) = assigns_in_target x t
  assigns_in_stmt x (print_stmt e) = false
  assigns_in_stmt x (par_stmt a b) = assigns_in_body x a || assigns_in_body x b
  assigns_in_stmt x (split_stmt b e l r a) = assigns_in_body x a

  pub assigns_in_body : Name → Body → Bool
  assigns_in_body x done = false
  assigns_in_body x (step line s rest) = assigns_in_stmt x s || assigns_in_body x rest

-- lists: the names that are written, the integers that are assigned to

-- the names in an expression
abbrev mutual
  pub expr_names : Expr → List Name
  expr_names (num n) = []
  expr_names (var x) = x ∷ []
  expr_names (get b i) = b ∷ expr_names i
  expr_names (len_of b) = b ∷ []
  expr_names (neg e) = expr_names e
  expr_names (chain e ls) = expr_names e ++ links_names ls
  expr_names (cmp op l r) = expr_names l ++ expr_names r

  pub links_names : Links → List Name
  links_names last = []
  links_names (link op e ls) = expr_names e ++ links_names ls

-- the name of the target of a call
abbrev pub target_names : Target → List Name
target_names unused = []
target_names (integer x) = x ∷ []
target_names (block b) = b ∷ []

-- the names in an argument
abbrev pub arg_names : Arg → List Name
arg_names (value e) = expr_names e
arg_names (lend b) = b ∷ []
arg_names (give b) = b ∷ []

abbrev pub args_names : List Arg → List Name
args_names [] = []
args_names (a ∷ rest) = arg_names a ++ args_names rest

-- the names in the head of a `split`
abbrev pub parts_names : Name → Expr → Name → Name → List Name
parts_names b e l r = b ∷ (expr_names e ++ l ∷ r ∷ [])

-- the names in statements
abbrev mutual
  pub stmt_names : Stmt → List Name
  stmt_names (let_stmt x e) = x ∷ expr_names e
  stmt_names (assign_stmt x e) = x ∷ expr_names e
  stmt_names (put_stmt b i e) = b ∷ (expr_names i ++ expr_names e)
  stmt_names (alloc_stmt b e) = b ∷ expr_names e
  stmt_names (free_stmt b) = b ∷ []
  stmt_names (if_stmt c a b) = expr_names c ++ (body_names a ++ body_names b)
  stmt_names (while_stmt c a) = expr_names c ++ body_names a
  stmt_names (call_stmt t f args) = target_names t ++ args_names args
  stmt_names (print_stmt e) = expr_names e
  stmt_names (par_stmt a b) = body_names a ++ body_names b
  stmt_names (split_stmt b e l r a) = parts_names b e l r ++ body_names a

  pub body_names : Body → List Name
  body_names done = []
  body_names (step line s rest) = stmt_names s ++ body_names rest

-- the integer to which the answer of a call is assigned
abbrev pub target_assigned : Target → List Name
target_assigned unused = []
target_assigned (integer x) = x ∷ []
target_assigned (block b) = []

-- the integers to which statements assign, by `=` or as the target of a call
abbrev mutual
  pub stmt_assigned : Stmt → List Name
  stmt_assigned (let_stmt x e) = []
  stmt_assigned (assign_stmt x e) = x ∷ []
  stmt_assigned (put_stmt b i e) = []
  stmt_assigned (alloc_stmt b e) = []
  stmt_assigned (free_stmt b) = []
  stmt_assigned (if_stmt c a b) = body_assigned a ++ body_assigned b
  stmt_assigned (while_stmt c a) = body_assigned a
  stmt_assigned (call_stmt t f args) = target_assigned t
  stmt_assigned (print_stmt e) = []
  stmt_assigned (par_stmt a b) = body_assigned a ++ body_assigned b
  stmt_assigned (split_stmt b e l r a) = body_assigned a

  pub body_assigned : Body → List Name
  body_assigned done = []
  body_assigned (step line s rest) = stmt_assigned s ++ body_assigned rest

-- lists: the names that are declared

-- the block that a call hands back is declared
abbrev pub declared_by_target : Target → List Name
declared_by_target unused = []
declared_by_target (integer x) = []
declared_by_target (block b) = b ∷ []

-- the names that statements declare, in the order of the text, each as often as it is declared
abbrev mutual
  pub declared_in_stmt : Stmt → List Name
  declared_in_stmt (let_stmt x e) = x ∷ []
  declared_in_stmt (assign_stmt x e) = []
  declared_in_stmt (put_stmt b i e) = []
  declared_in_stmt (alloc_stmt b e) = b ∷ []
  declared_in_stmt (free_stmt b) = []
  declared_in_stmt (if_stmt c a b) = declared_in_body a ++ declared_in_body b
  declared_in_stmt (while_stmt c a) = declared_in_body a
  declared_in_stmt (call_stmt t f args) = declared_by_target t
  declared_in_stmt (print_stmt e) = []
  declared_in_stmt (par_stmt a b) = declared_in_body a ++ declared_in_body b
  declared_in_stmt (split_stmt b e l r a) = l ∷ r ∷ declared_in_body a

  pub declared_in_body : Body → List Name
  declared_in_body done = []
  declared_in_body (step line s rest) = declared_in_stmt s ++ declared_in_body rest

abbrev pub param_name : Param → Name
param_name q = q.name

abbrev pub param_names : List Param → List Name
param_names qs = map param_name qs

-- the names that a function declares: its parameters, and those of its body
abbrev pub declared_in : Func → List Name
declared_in f = param_names f.params ++ declared_in_body f.body

-- a `return` names x
abbrev pub names_in_value : Name → RetValue → Bool
names_in_value x (gives e) = names_in_expr x e
names_in_value x (hands b) = bytes_eq b x

abbrev pub names_in_return : Name → Option Ret → Bool
names_in_return x None = false
names_in_return x (Some r) = names_in_value x r.value

-- x is written in a function, apart from names of functions
abbrev pub is_written_in : Name → Func → Bool
is_written_in x f = is_among x (param_names f.params) || (names_in_body x f.body || names_in_return x f.ret)
