-- The node table as a program: which node is which statement, which numbers are a list of them, and which table is which program.
use Rattle.std.specs.Prelude.{◌≡◌, ℕ, ◌+◌, ◌≤◌, Bool, List, [], ◌∷◌, map, length, slice_get, Some}
use Rattle.std.specs.List.{filter}
use Rattle.par_tree.specs.Tree.{Name, Expr, Target, Arg, Stmt, let_stmt, assign_stmt, put_stmt, alloc_stmt, free_stmt, if_stmt, while_stmt, call_stmt, print_stmt, par_stmt, split_stmt, Body, done, step, Func, Program}
use Rattle.par_tree.specs.Names.{names_in_body, assigns_in_body}
use Rattle.par_ownership.specs.Ownership.{Ownership, main_name}
use Rattle.par_tree.specs.Names.{param_names}
use Rattle.node_table.specs.Names.{slot_names, IsSlot}
use Rattle.node_table.specs.Reading.{IsExpr, IsTarget, AreArgs, AreSlots, IsReturn}
use Rattle.node_table.specs.Table.{Kind, let_node, assign_node, put_node, alloc_node, free_node, if_node, while_node, call_node, print_node, both_node, split_node, Node, Function, Table}

-- Each statement form has its kind of node. What stands inside it is said by a fact of its numbers.
abbrev pub AsLet : List Name → Name → Expr → Kind → Type 0
AsLet names x e (let_node s c) = IsSlot names s x × IsExpr names c e
AsLet names x e _ = ⊥

abbrev pub AsAssign : List Name → Name → Expr → Kind → Type 0
AsAssign names x e (assign_node s c) = IsSlot names s x × IsExpr names c e
AsAssign names x e _ = ⊥

abbrev pub AsPut : List Name → Name → Expr → Expr → Kind → Type 0
AsPut names b i e (put_node s c d) = IsSlot names s b × IsExpr names c i × IsExpr names d e
AsPut names b i e _ = ⊥

abbrev pub AsAlloc : List Name → Name → Expr → Kind → Type 0
AsAlloc names b e (alloc_node s c) = IsSlot names s b × IsExpr names c e
AsAlloc names b e _ = ⊥

abbrev pub AsFree : List Name → Name → Kind → Type 0
AsFree names b (free_node s) = IsSlot names s b
AsFree names b _ = ⊥

abbrev pub AsIf : List Name → Expr → (List ℕ → Type 0) → (List ℕ → Type 0) → Kind → Type 0
AsIf names e P Q (if_node c a b) = IsExpr names c e × P a × Q b
AsIf names e P Q _ = ⊥

abbrev pub AsWhile : List Name → Expr → (List ℕ → Type 0) → Kind → Type 0
AsWhile names e P (while_node c a) = IsExpr names c e × P a
AsWhile names e P _ = ⊥

-- the function of a call is that of its number
abbrev pub AsCall : List Name → List Name → Target → Name → List Arg → Kind → Type 0
AsCall functions names t f args (call_node c n cs) = IsTarget names c t × IsSlot functions n f × AreArgs names cs args
AsCall functions names t f args _ = ⊥

abbrev pub AsPrint : List Name → Expr → Kind → Type 0
AsPrint names e (print_node c) = IsExpr names c e
AsPrint names e _ = ⊥

-- the statements write the name, and they assign to the integer of this name
abbrev pub is_named_in : Body → Name → Bool
is_named_in b x = names_in_body x b

abbrev pub is_assigned_in : Body → Name → Bool
is_assigned_in b x = assigns_in_body x b

-- of the slots of the function, in their order: those whose names the first branch of a `par` writes, and those to whose integers it
-- assigns
abbrev pub AsBoth : List Name → Body → (List ℕ → Type 0) → (List ℕ → Type 0) → Kind → Type 0
AsBoth names left P Q (both_node a b blocks assigned) =
    P a × Q b × AreSlots names blocks (filter (is_named_in left) names) × AreSlots names assigned (filter (is_assigned_in left) names)
AsBoth names left P Q _ = ⊥

abbrev pub AsSplit : List Name → Name → Expr → Name → Name → (List ℕ → Type 0) → Kind → Type 0
AsSplit names b e l r P (split_node s c m n a) = IsSlot names s b × IsExpr names c e × IsSlot names m l × IsSlot names n r × P a
AsSplit names b e l r P _ = ⊥

-- a number that is not below low, whose node has this line; what stands inside the node has greater numbers; then the numbers of the
-- statements behind
abbrev pub AsStep : List Node → ℕ → ℕ → (ℕ → Kind → Type 0) → (List ℕ → Type 0) → List ℕ → Type 0
AsStep t low line P Q [] = ⊥
AsStep t low line P Q (n ∷ ns) = (low ≤ n) × ((node : Node) × (slice_get t n ≡ Some node) × (node.line ≡ line) × P (n + 1) node.kind) × Q ns

abbrev pub IsNone : List ℕ → Type 0
IsNone [] = Unit {0}
IsNone (n ∷ ns) = ⊥

module _ (t : List Node) (functions names : List Name) where
  -- a node is this statement, with numbers inside it that are not below low; and numbers, none below low, are these statements
  abbrev mutual
    pub IsStmt : Stmt → ℕ → Kind → Type 0
    IsStmt (let_stmt x e) low = AsLet names x e
    IsStmt (assign_stmt x e) low = AsAssign names x e
    IsStmt (put_stmt b i e) low = AsPut names b i e
    IsStmt (alloc_stmt b e) low = AsAlloc names b e
    IsStmt (free_stmt b) low = AsFree names b
    IsStmt (if_stmt c a b) low = AsIf names c (IsBody a low) (IsBody b low)
    IsStmt (while_stmt c a) low = AsWhile names c (IsBody a low)
    IsStmt (call_stmt u f args) low = AsCall functions names u f args
    IsStmt (print_stmt e) low = AsPrint names e
    IsStmt (par_stmt a b) low = AsBoth names a (IsBody a low) (IsBody b low)
    IsStmt (split_stmt b e l r a) low = AsSplit names b e l r (IsBody a low)

    pub IsBody : Body → ℕ → List ℕ → Type 0
    IsBody done low = IsNone
    IsBody (step line s rest) low = AsStep t low line (IsStmt s) (IsBody rest low)

-- a function: as many slots as it has names, its parameters, its statements and its `return`
pub record IsFunc (t : List Node) (functions : List Name) (f : Func) (c : Function) : Type 0 where
  pub slots : c.slots ≡ length (slot_names f)
  pub params : AreSlots (slot_names f) c.params (param_names f.params)
  pub body : IsBody t functions (slot_names f) f.body 0 c.body
  pub ret : IsReturn (slot_names f) c.ret f.ret

-- one function for each, in the order of the text
abbrev pub AreFuncs : List Node → List Name → List Func → List Function → Type 0
AreFuncs t functions [] [] = Unit {0}
AreFuncs t functions [] (c ∷ cs) = ⊥
AreFuncs t functions (f ∷ fs) [] = ⊥
AreFuncs t functions (f ∷ fs) (c ∷ cs) = IsFunc t functions f c × AreFuncs t functions fs cs

abbrev pub name_of : Func → Name
name_of f = f.name

abbrev pub function_names : Program → List Name
function_names p = map name_of p

-- the table with its functions, read with names in place of slots and of function numbers, is the program
pub record IsTableOf (p : Program) (t : Table) : Type 0 where
  pub functions : AreFuncs t.nodes (function_names p) p t.funcs
  pub main : IsSlot (function_names p) t.main main_name

-- the table is that of some program that keeps the rules of ownership
abbrev pub IsAcceptedTable : Table → Type 0
IsAcceptedTable t = ∥ ((p : Program) × Ownership p × IsTableOf p t) ∥₁
