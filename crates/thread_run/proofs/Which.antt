-- Which statement a node is, by what it does.
use Rattle.std.proofs.Common.{◌≡◌, ℕ, List, refl}
use Rattle.std.specs.List.{filter}
use Rattle.par_tree.specs.Tree.{Name, Expr, Target, Arg, Stmt, let_stmt, assign_stmt, put_stmt, alloc_stmt, free_stmt, if_stmt, while_stmt, call_stmt, print_stmt, par_stmt, split_stmt, Body}
use Rattle.node_table.specs.Names.{IsSlot}
use Rattle.node_table.specs.Reading.{IsExpr, IsTarget, AreArgs, AreSlots}
use Rattle.node_table.specs.Table as tables
use Rattle.node_table.specs.Table.{Node, let_node, assign_node, put_node, alloc_node, free_node, if_node, while_node, call_node, print_node, both_node, split_node}
use Rattle.node_table.specs.Programs.{IsStmt, IsBody, is_named_in, is_assigned_in}

module _ (t : List Node) (functions names : List Name) where
  pub record OfLet (s : ℕ) (c : tables.Expr) (stmt : Stmt) : Type 0 where
    pub name : Name
    pub expr : Expr
    pub is : stmt ≡ let_stmt name expr
    pub slot : IsSlot names s name
    pub read : IsExpr names c expr

  pub of_let : (stmt : Stmt) (low s : ℕ) (c : tables.Expr) → IsStmt t functions names stmt low (let_node s c) → OfLet s c stmt
  of_let (let_stmt x e) low s c h = record { name = x; expr = e; is = refl; slot = h.0; read = h.1 }
  of_let stmt low s c h = absurd h

  pub record OfAssign (s : ℕ) (c : tables.Expr) (stmt : Stmt) : Type 0 where
    pub name : Name
    pub expr : Expr
    pub is : stmt ≡ assign_stmt name expr
    pub slot : IsSlot names s name
    pub read : IsExpr names c expr

  pub of_assign : (stmt : Stmt) (low s : ℕ) (c : tables.Expr) → IsStmt t functions names stmt low (assign_node s c) → OfAssign s c stmt
  of_assign (assign_stmt x e) low s c h = record { name = x; expr = e; is = refl; slot = h.0; read = h.1 }
  of_assign stmt low s c h = absurd h

  pub record OfPut (s : ℕ) (c d : tables.Expr) (stmt : Stmt) : Type 0 where
    pub name : Name
    pub index : Expr
    pub expr : Expr
    pub is : stmt ≡ put_stmt name index expr
    pub slot : IsSlot names s name
    pub read_index : IsExpr names c index
    pub read : IsExpr names d expr

  pub of_put : (stmt : Stmt) (low s : ℕ) (c d : tables.Expr) → IsStmt t functions names stmt low (put_node s c d) → OfPut s c d stmt
  of_put (put_stmt b i e) low s c d h = record { name = b; index = i; expr = e; is = refl; slot = h.0; read_index = h.1; read = h.2 }
  of_put stmt low s c d h = absurd h

  pub record OfAlloc (s : ℕ) (c : tables.Expr) (stmt : Stmt) : Type 0 where
    pub name : Name
    pub expr : Expr
    pub is : stmt ≡ alloc_stmt name expr
    pub slot : IsSlot names s name
    pub read : IsExpr names c expr

  pub of_alloc : (stmt : Stmt) (low s : ℕ) (c : tables.Expr) → IsStmt t functions names stmt low (alloc_node s c) → OfAlloc s c stmt
  of_alloc (alloc_stmt x e) low s c h = record { name = x; expr = e; is = refl; slot = h.0; read = h.1 }
  of_alloc stmt low s c h = absurd h

  pub record OfFree (s : ℕ) (stmt : Stmt) : Type 0 where
    pub name : Name
    pub is : stmt ≡ free_stmt name
    pub slot : IsSlot names s name

  pub of_free : (stmt : Stmt) (low s : ℕ) → IsStmt t functions names stmt low (free_node s) → OfFree s stmt
  of_free (free_stmt x) low s h = record { name = x; is = refl; slot = h }
  of_free stmt low s h = absurd h

  pub record OfIf (low : ℕ) (c : tables.Expr) (m n : List ℕ) (stmt : Stmt) : Type 0 where
    pub expr : Expr
    pub first : Body
    pub second : Body
    pub is : stmt ≡ if_stmt expr first second
    pub read : IsExpr names c expr
    pub firsts : IsBody t functions names first low m
    pub seconds : IsBody t functions names second low n

  pub of_if : (stmt : Stmt) (low : ℕ) (c : tables.Expr) (m n : List ℕ) → IsStmt t functions names stmt low (if_node c m n) → OfIf low c m n stmt
  of_if (if_stmt e a b) low c m n h = record { expr = e; first = a; second = b; is = refl; read = h.0; firsts = h.1; seconds = h.2 }
  of_if stmt low c m n h = absurd h

  pub record OfWhile (low : ℕ) (c : tables.Expr) (m : List ℕ) (stmt : Stmt) : Type 0 where
    pub expr : Expr
    pub body : Body
    pub is : stmt ≡ while_stmt expr body
    pub read : IsExpr names c expr
    pub rounds : IsBody t functions names body low m

  pub of_while : (stmt : Stmt) (low : ℕ) (c : tables.Expr) (m : List ℕ) → IsStmt t functions names stmt low (while_node c m) → OfWhile low c m stmt
  of_while (while_stmt e a) low c m h = record { expr = e; body = a; is = refl; read = h.0; rounds = h.1 }
  of_while stmt low c m h = absurd h

  pub record OfCall (to : tables.Target) (n : ℕ) (from : List tables.Arg) (stmt : Stmt) : Type 0 where
    pub target : Target
    pub name : Name
    pub args : List Arg
    pub is : stmt ≡ call_stmt target name args
    pub to_target : IsTarget names to target
    pub callee : IsSlot functions n name
    pub passed : AreArgs names from args

  pub of_call : (stmt : Stmt) (low : ℕ) (to : tables.Target) (n : ℕ) (from : List tables.Arg) → IsStmt t functions names stmt low (call_node to n from) → OfCall to n from stmt
  of_call (call_stmt u f args) low to n from h = record { target = u; name = f; args = args; is = refl; to_target = h.0; callee = h.1; passed = h.2 }
  of_call stmt low to n from h = absurd h

  pub record OfPrint (c : tables.Expr) (stmt : Stmt) : Type 0 where
    pub expr : Expr
    pub is : stmt ≡ print_stmt expr
    pub read : IsExpr names c expr

  pub of_print : (stmt : Stmt) (low : ℕ) (c : tables.Expr) → IsStmt t functions names stmt low (print_node c) → OfPrint c stmt
  of_print (print_stmt e) low c h = record { expr = e; is = refl; read = h }
  of_print stmt low c h = absurd h

  pub record OfBoth (low : ℕ) (m n blocks assigned : List ℕ) (stmt : Stmt) : Type 0 where
    pub first : Body
    pub second : Body
    pub is : stmt ≡ par_stmt first second
    pub firsts : IsBody t functions names first low m
    pub seconds : IsBody t functions names second low n
    pub named : AreSlots names blocks (filter (is_named_in first) names)
    pub assigns : AreSlots names assigned (filter (is_assigned_in first) names)

  pub of_both : (stmt : Stmt) (low : ℕ) (m n blocks assigned : List ℕ) → IsStmt t functions names stmt low (both_node m n blocks assigned) → OfBoth low m n blocks assigned stmt
  of_both (par_stmt a b) low m n blocks assigned h = record { first = a; second = b; is = refl; firsts = h.0; seconds = h.1; named = h.2; assigns = h.3 }
  of_both stmt low m n blocks assigned h = absurd h

  pub record OfSplit (low s : ℕ) (c : tables.Expr) (m n : ℕ) (body : List ℕ) (stmt : Stmt) : Type 0 where
    pub block : Name
    pub expr : Expr
    pub left : Name
    pub right : Name
    pub inside : Body
    pub is : stmt ≡ split_stmt block expr left right inside
    pub slot : IsSlot names s block
    pub read : IsExpr names c expr
    pub left_slot : IsSlot names m left
    pub right_slot : IsSlot names n right
    pub insides : IsBody t functions names inside low body

  pub of_split : (stmt : Stmt) (low s : ℕ) (c : tables.Expr) (m n : ℕ) (body : List ℕ) → IsStmt t functions names stmt low (split_node s c m n body) → OfSplit low s c m n body stmt
  of_split (split_stmt b e l r a) low s c m n body h = record { block = b; expr = e; left = l; right = r; inside = a; is = refl; slot = h.0; read = h.1; left_slot = h.2; right_slot = h.3; insides = h.4 }
  of_split stmt low s c m n body h = absurd h
