-- A program that keeps the rules passes what its functions take.
use Rattle.std.proofs.Common.{◌≡◌, ℕ, true, List, [], ◌∷◌, ◌++◌, refl}
use Rattle.par_tree.specs.Tree
use Rattle.par_tree.specs.Tree.{Name, Program, Target, Arg, value, lend, give, Stmt, let_stmt, assign_stmt, put_stmt, alloc_stmt, free_stmt, if_stmt, while_stmt, call_stmt, print_stmt, par_stmt, split_stmt, Body, done, step, ParamKind, by_value, owned, Param, Func}
use Rattle.par_ownership.specs.Environment.{Environment}
use Rattle.par_ownership.specs.Ownership.{Owns, OwnsAll, OwnsFunctions, PassesOne, Passes, Ownership}
use Rattle.accepted_source.specs.Calls.{EachCallOfStmt, EachCall, IsCall, AreTaken, is_taken}
use Rattle.accepted_source.specs.Laws.{EachFunction}

taken : (env : Environment) (before : List Arg) (k : ParamKind) (a : Arg) → PassesOne env before k a → is_taken k a ≡ true
taken env before by_value (value e) h = refl
taken env before by_value (lend b) h = absurd h
taken env before by_value (give b) h = absurd h
taken env before Tree.lent (value e) h = absurd h
taken env before Tree.lent (lend b) h = refl
taken env before Tree.lent (give b) h = absurd h
taken env before owned (value e) h = absurd h
taken env before owned (lend b) h = absurd h
taken env before owned (give b) h = refl

all_taken : (env : Environment) (before : List Arg) (qs : List Param) (args : List Arg) → Passes env before qs args → AreTaken qs args
all_taken env before [] [] h = tt
all_taken env before [] (a ∷ rest) h = absurd h
all_taken env before (q ∷ qs) [] h = absurd h
all_taken env before (q ∷ qs) (a ∷ rest) h = (taken env before q.kind a h.0, all_taken env (before ++ a ∷ []) qs rest h.1)

mutual
  calls_of_stmt : (p : Program) (line : ℕ) (s : Stmt) (env after : Environment) → Owns p line s env after → EachCallOfStmt (IsCall p) s
  calls_of_stmt p line (let_stmt x e) env after h = tt
  calls_of_stmt p line (assign_stmt x e) env after h = tt
  calls_of_stmt p line (put_stmt b i e) env after h = tt
  calls_of_stmt p line (alloc_stmt b e) env after h = tt
  calls_of_stmt p line (free_stmt b) env after h = tt
  calls_of_stmt p line (if_stmt c a b) env after h = (calls_of_body p a env h.1.0 h.1.1, calls_of_body p b env h.2.1.0 h.2.1.1)
  calls_of_stmt p line (while_stmt c a) env after h = calls_of_body p a env h.1.1.0 h.1.1.1
  calls_of_stmt p line (call_stmt t f args) env after h = record { callee = h.1.0; found = h.1.1; answered = h.1.2; passed = all_taken env [] h.1.0.params args h.1.3 }
  calls_of_stmt p line (print_stmt e) env after h = tt
  calls_of_stmt p line (par_stmt a b) env after h = (calls_of_body p a env h.1.1.0 h.1.1.1, calls_of_body p b env h.1.2.1.0 h.1.2.1.1)
  calls_of_stmt p line (split_stmt b e l r a) env after h = calls_of_body p a _ h.4.1.0 h.4.1.1

  pub calls_of_body : (p : Program) (b : Body) (env after : Environment) → OwnsAll p b env after → EachCall (IsCall p) b
  calls_of_body p done env after h = tt
  calls_of_body p (step line s rest) env after h = (calls_of_stmt p line s env h.0 h.1, calls_of_body p rest h.0 after h.2)

calls_of_functions : (p : Program) (fs : List Func) → OwnsFunctions p fs → EachFunction (λ f. EachCall (IsCall p) f.body) fs
calls_of_functions p [] h = tt
calls_of_functions p (f ∷ rest) h = (calls_of_body p f.body h.0.0 h.0.2.0 h.0.2.1, calls_of_functions p rest h.1)

pub calls : (p : Program) → Ownership p → EachFunction (λ f. EachCall (IsCall p) f.body) p
calls p o = calls_of_functions p p o.functions
