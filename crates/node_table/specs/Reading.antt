-- What expressions, arguments, targets and a `return` over slots are, read with the names of the slots, and that each slot in them is one
-- of the function's.
use Rattle.std.specs.Prelude.{◌≡◌, ℕ, ◌<◌, List, [], ◌∷◌, length, Option, Some, None}
use Rattle.par_tree.specs.Tree
use Rattle.par_tree.specs.Tree.{Name}
use Rattle.node_table.specs.Names.{name_at}
use Rattle.node_table.specs.Table

-- an expression, and the links of a chain
abbrev mutual
  pub expr_read : List Name → Table.Expr → Tree.Expr
  expr_read names (Table.num n) = Tree.num n
  expr_read names (Table.var s) = Tree.var (name_at names s)
  expr_read names (Table.get s i) = Tree.get (name_at names s) (expr_read names i)
  expr_read names (Table.len_of s) = Tree.len_of (name_at names s)
  expr_read names (Table.neg e) = Tree.neg (expr_read names e)
  expr_read names (Table.chain e rest) = Tree.chain (expr_read names e) (links_read names rest)
  expr_read names (Table.cmp op l r) = Tree.cmp op (expr_read names l) (expr_read names r)

  pub links_read : List Name → Table.Links → Tree.Links
  links_read names Table.last = Tree.last
  links_read names (Table.link op e rest) = Tree.link op (expr_read names e) (links_read names rest)

-- each slot of an expression is below the number of slots
abbrev mutual
  pub FitsExpr : ℕ → Table.Expr → Type 0
  FitsExpr slots (Table.num n) = Unit {0}
  FitsExpr slots (Table.var s) = s < slots
  FitsExpr slots (Table.get s i) = (s < slots) × FitsExpr slots i
  FitsExpr slots (Table.len_of s) = s < slots
  FitsExpr slots (Table.neg e) = FitsExpr slots e
  FitsExpr slots (Table.chain e rest) = FitsExpr slots e × FitsLinks slots rest
  FitsExpr slots (Table.cmp op l r) = FitsExpr slots l × FitsExpr slots r

  pub FitsLinks : ℕ → Table.Links → Type 0
  FitsLinks slots Table.last = Unit {0}
  FitsLinks slots (Table.link op e rest) = FitsExpr slots e × FitsLinks slots rest

abbrev pub target_read : List Name → Table.Target → Tree.Target
target_read names Table.unused = Tree.unused
target_read names (Table.integer s) = Tree.integer (name_at names s)
target_read names (Table.block s) = Tree.block (name_at names s)

abbrev pub FitsTarget : ℕ → Table.Target → Type 0
FitsTarget slots Table.unused = Unit {0}
FitsTarget slots (Table.integer s) = s < slots
FitsTarget slots (Table.block s) = s < slots

abbrev pub arg_read : List Name → Table.Arg → Tree.Arg
arg_read names (Table.value e) = Tree.value (expr_read names e)
arg_read names (Table.lend s) = Tree.lend (name_at names s)
arg_read names (Table.give s) = Tree.give (name_at names s)

abbrev pub FitsArg : ℕ → Table.Arg → Type 0
FitsArg slots (Table.value e) = FitsExpr slots e
FitsArg slots (Table.lend s) = s < slots
FitsArg slots (Table.give s) = s < slots

abbrev pub args_read : List Name → List Table.Arg → List Tree.Arg
args_read names [] = []
args_read names (a ∷ rest) = arg_read names a ∷ args_read names rest

abbrev pub FitsArgs : ℕ → List Table.Arg → Type 0
FitsArgs slots [] = Unit {0}
FitsArgs slots (a ∷ rest) = FitsArg slots a × FitsArgs slots rest

-- the names of slots, and that these are slots
abbrev pub slots_read : List Name → List ℕ → List Name
slots_read names [] = []
slots_read names (s ∷ rest) = name_at names s ∷ slots_read names rest

abbrev pub FitsSlots : ℕ → List ℕ → Type 0
FitsSlots slots [] = Unit {0}
FitsSlots slots (s ∷ rest) = (s < slots) × FitsSlots slots rest

abbrev pub ret_value_read : List Name → Table.RetValue → Tree.RetValue
ret_value_read names (Table.gives e) = Tree.gives (expr_read names e)
ret_value_read names (Table.hands s) = Tree.hands (name_at names s)

abbrev pub FitsRetValue : ℕ → Table.RetValue → Type 0
FitsRetValue slots (Table.gives e) = FitsExpr slots e
FitsRetValue slots (Table.hands s) = s < slots

abbrev pub ret_read : List Name → Option Table.Ret → Option Tree.Ret
ret_read names None = None
ret_read names (Some r) = Some record { line = r.line; value = ret_value_read names r.value }

abbrev pub FitsRet : ℕ → Option Table.Ret → Type 0
FitsRet slots None = Unit {0}
FitsRet slots (Some r) = FitsRetValue slots r.value

-- an expression, links, a target, an argument, arguments or a `return` over slots is this one of the tree
abbrev pub IsExpr : List Name → Table.Expr → Tree.Expr → Type 0
IsExpr names c e = (expr_read names c ≡ e) × FitsExpr (length names) c

abbrev pub AreLinks : List Name → Table.Links → Tree.Links → Type 0
AreLinks names ls es = (links_read names ls ≡ es) × FitsLinks (length names) ls

abbrev pub IsTarget : List Name → Table.Target → Tree.Target → Type 0
IsTarget names c t = (target_read names c ≡ t) × FitsTarget (length names) c

abbrev pub IsArg : List Name → Table.Arg → Tree.Arg → Type 0
IsArg names c a = (arg_read names c ≡ a) × FitsArg (length names) c

abbrev pub AreArgs : List Name → List Table.Arg → List Tree.Arg → Type 0
AreArgs names cs args = (args_read names cs ≡ args) × FitsArgs (length names) cs

abbrev pub IsReturnValue : List Name → Table.RetValue → Tree.RetValue → Type 0
IsReturnValue names c v = (ret_value_read names c ≡ v) × FitsRetValue (length names) c

abbrev pub IsReturn : List Name → Option Table.Ret → Option Tree.Ret → Type 0
IsReturn names c r = (ret_read names c ≡ r) × FitsRet (length names) c

-- slots have these names
abbrev pub AreSlots : List Name → List ℕ → List Name → Type 0
AreSlots names slots xs = (slots_read names slots ≡ xs) × FitsSlots (length names) slots
