-- The calls of a list of statements, and what a call of an accepted program is.
use Rattle.std.specs.Prelude.{◌≡◌, Bool, true, false, List, [], ◌∷◌, Some}
use Rattle.par_tree.specs.Tree
use Rattle.par_tree.specs.Tree.{Name, Program, Target, Arg, value, lend, give, Stmt, let_stmt, assign_stmt, put_stmt, alloc_stmt, free_stmt, if_stmt, while_stmt, call_stmt, print_stmt, par_stmt, split_stmt, Body, done, step, ParamKind, by_value, owned, Param, Func}
use Rattle.par_ownership.specs.Ownership.{function_of, hands_back, takes_answer}

-- P holds of each call: of its target, of the name of the function, and of the arguments
abbrev mutual
  pub EachCallOfStmt : (Target → Name → List Arg → Type 0) → Stmt → Type 0
  EachCallOfStmt P (let_stmt x e) = Unit {0}
  EachCallOfStmt P (assign_stmt x e) = Unit {0}
  EachCallOfStmt P (put_stmt b i e) = Unit {0}
  EachCallOfStmt P (alloc_stmt b e) = Unit {0}
  EachCallOfStmt P (free_stmt b) = Unit {0}
  EachCallOfStmt P (if_stmt c a b) = EachCall P a × EachCall P b
  EachCallOfStmt P (while_stmt c a) = EachCall P a
  EachCallOfStmt P (call_stmt t f args) = P t f args
  EachCallOfStmt P (print_stmt e) = Unit {0}
  EachCallOfStmt P (par_stmt a b) = EachCall P a × EachCall P b
  EachCallOfStmt P (split_stmt b e l r a) = EachCall P a

  pub EachCall : (Target → Name → List Arg → Type 0) → Body → Type 0
  EachCall P done = Unit {0}
  EachCall P (step line s rest) = EachCallOfStmt P s × EachCall P rest

-- an argument of the kind that a parameter takes
abbrev pub is_taken : ParamKind → Arg → Bool
is_taken by_value (value e) = true
is_taken by_value (lend b) = false
is_taken by_value (give b) = false
is_taken Tree.lent (value e) = false
is_taken Tree.lent (lend b) = true
is_taken Tree.lent (give b) = false
is_taken owned (value e) = false
is_taken owned (lend b) = false
is_taken owned (give b) = true

-- one argument for each parameter, each of its kind
abbrev pub AreTaken : List Param → List Arg → Type 0
AreTaken [] [] = Unit {0}
AreTaken [] (a ∷ rest) = ⊥
AreTaken (q ∷ qs) [] = ⊥
AreTaken (q ∷ qs) (a ∷ rest) = (is_taken q.kind a ≡ true) × AreTaken qs rest

-- A call names a function of the program, takes a block from it exactly where it hands one back, and
-- passes what its parameters take.
pub record IsCall (p : Program) (t : Target) (f : Name) (args : List Arg) : Type 0 where
  pub callee : Func
  pub found : function_of p f ≡ Some callee
  pub answered : takes_answer t (hands_back callee.ret) ≡ true
  pub passed : AreTaken callee.params args
