-- The checker's walk: the program from its first function to its last, and the first refusal that is met.
-- A test gives a refusal or none; a statement gives the environment after it, or the first refusal.
use Rattle.std.specs.Prelude.{ℕ, Bool, true, false, not, List, [], ◌∷◌, ◌++◌, take, drop, length, nat_eq, Option, Some, None, is_none, Result, Ok, Err}
use Rattle.std.specs.List.{list_any}
use Rattle.par_tree.specs.Tree
use Rattle.par_tree.specs.Tree.{Name, Program, Expr, num, var, get, len_of, neg, chain, cmp, Links, last, link, Target, unused, block, Arg, value, lend, give, Stmt, let_stmt, assign_stmt, put_stmt, alloc_stmt, free_stmt, if_stmt, while_stmt, call_stmt, print_stmt, par_stmt, split_stmt, Body, done, step, ParamKind, by_value, owned, Param, Func, Ret, RetValue, gives, hands}
use Rattle.par_ownership.specs.declared.check_kind.CheckKind.{CheckKind}
use Rattle.par_ownership.specs.declared.check_kind.CheckKind.TheVariants.{UnknownName, Redefined, WrongKind, WrongCount, SharedBlock, SharedInt, Gone, NotFreed, ArmsDiffer, FreesLent, NoMain}
use Rattle.par_ownership.specs.Environment.{is_block, is_own, Entry, Environment, entry_of, integer_entry, block_entry, lent_entry, with_entry, regained, opened, without, after_gives, after_answer, held_in_both, is_released, param_entry}
use Rattle.par_ownership.specs.Ownership.{function_of, hands_back, takes_answer, passes, are_apart, main_name, begins}

-- why a program is refused, at which line, and for which name
pub record Refusal : Type 0 where
  pub kind : CheckKind
  pub line : ℕ
  pub name : Name

-- a test, and the refusal where it fails
abbrev pub unless : Bool → CheckKind → ℕ → Name → Option Refusal
unless true kind line x = None
unless false kind line x = Some record { kind = kind; line = line; name = x }

-- the first of two refusals
abbrev pub first_of : Option Refusal → Option Refusal → Option Refusal
first_of None later = later
first_of (Some r) later = Some r

-- a refusal, or what follows
abbrev pub guarded : {A : Type 0} → Option Refusal → Result A Refusal → Result A Refusal
guarded None next = next
guarded (Some r) next = Err r

-- what follows from the environment that the part before leaves
abbrev pub then_walk : Result Environment Refusal → (Environment → Result Environment Refusal) → Result Environment Refusal
then_walk (Ok env) next = next env
then_walk (Err r) next = Err r

-- the name of a declaration is not visible yet
abbrev pub fresh_refusal : ℕ → Environment → Name → Option Refusal
fresh_refusal line env x = unless (is_none (entry_of env x)) Redefined line x

-- a name that is read as an integer
abbrev pub integer_case : ℕ → Name → Option Entry → Option Refusal
integer_case line x None = unless false UnknownName line x
integer_case line x (Some e) = unless (not (is_block e.kind)) WrongKind line x

abbrev pub integer_refusal : ℕ → Environment → Name → Option Refusal
integer_refusal line env x = integer_case line x (entry_of env x)

-- a name that is read as a block
abbrev pub block_case : ℕ → Name → Option Entry → Option Refusal
block_case line b None = unless false UnknownName line b
block_case line b (Some e) = first_of (unless (is_block e.kind) WrongKind line b) (unless e.held Gone line b)

abbrev pub block_refusal : ℕ → Environment → Name → Option Refusal
block_refusal line env b = block_case line b (entry_of env b)

-- a block that is freed or given away is not lent
abbrev pub lent_case : ℕ → Name → Option Entry → Option Refusal
lent_case line b None = None
lent_case line b (Some e) = unless (is_own e.kind) FreesLent line b

abbrev pub lent_refusal : ℕ → Environment → Name → Option Refusal
lent_refusal line env b = lent_case line b (entry_of env b)

-- an expression from left to right
abbrev mutual
  pub expr_refusal : ℕ → Environment → Expr → Option Refusal
  expr_refusal line env (num n) = None
  expr_refusal line env (var x) = integer_refusal line env x
  expr_refusal line env (get b i) = first_of (block_refusal line env b) (expr_refusal line env i)
  expr_refusal line env (len_of b) = block_refusal line env b
  expr_refusal line env (neg e) = expr_refusal line env e
  expr_refusal line env (chain e ls) = first_of (expr_refusal line env e) (links_refusal line env ls)
  expr_refusal line env (cmp op l r) = first_of (expr_refusal line env l) (expr_refusal line env r)

  pub links_refusal : ℕ → Environment → Links → Option Refusal
  links_refusal line env last = None
  links_refusal line env (link op e ls) = first_of (expr_refusal line env e) (links_refusal line env ls)

-- the target of a call
abbrev pub target_refusal : ℕ → Environment → Target → Option Refusal
target_refusal line env unused = None
target_refusal line env (Tree.integer x) = integer_refusal line env x
target_refusal line env (block b) = fresh_refusal line env b

-- the arguments of a call in order, behind those before
abbrev pub shared_refusal : ℕ → List Arg → Name → Option Refusal
shared_refusal line before b = unless (not (list_any (passes b) before)) SharedBlock line b

abbrev pub arg_refusal : ℕ → Environment → List Arg → Name → ParamKind → Arg → Option Refusal
arg_refusal line env before q by_value (value e) = expr_refusal line env e
arg_refusal line env before q Tree.lent (lend b) = first_of (block_refusal line env b) (shared_refusal line before b)
arg_refusal line env before q owned (give b) =
    first_of (block_refusal line env b) (first_of (shared_refusal line before b) (lent_refusal line env b))
arg_refusal line env before q kind other = unless false WrongKind line q

abbrev pub args_refusal : ℕ → Environment → List Arg → List Param → List Arg → Option Refusal
args_refusal line env before [] rest = None
args_refusal line env before (q ∷ qs) [] = None
args_refusal line env before (q ∷ qs) (a ∷ rest) =
    first_of (arg_refusal line env before q.name q.kind a) (args_refusal line env (before ++ a ∷ []) qs rest)

-- a call of a function
abbrev pub function_refusal : ℕ → Environment → Target → Name → List Arg → Option Func → Option Refusal
function_refusal line env t f args None = unless false UnknownName line f
function_refusal line env t f args (Some g) =
    first_of (unless (nat_eq (length args) (length g.params)) WrongCount line f)
    (first_of (unless (takes_answer t (hands_back g.ret)) WrongKind line f) (args_refusal line env [] g.params args))

abbrev pub call_refusal : Program → ℕ → Environment → Target → Name → List Arg → Option Refusal
call_refusal p line env t f args = first_of (target_refusal line env t) (function_refusal line env t f args (function_of p f))

-- the first name, in order of declaration, that two branches share
abbrev pub shared_kind : Bool → CheckKind
shared_kind true = SharedBlock
shared_kind false = SharedInt

abbrev pub branches_refusal : ℕ → Body → Body → Environment → Option Refusal
branches_refusal line a b [] = None
branches_refusal line a b (e ∷ rest) =
    first_of (unless (are_apart a b e) (shared_kind (is_block e.kind)) line e.name) (branches_refusal line a b rest)

-- the first block, in order of declaration, that is held on one side alone
abbrev pub is_same : Bool → Bool → Bool
is_same true held = held
is_same false held = not held

abbrev pub arms_refusal : ℕ → Environment → Environment → Option Refusal
arms_refusal line [] others = None
arms_refusal line (e ∷ es) [] = None
arms_refusal line (e ∷ es) (f ∷ fs) = first_of (unless (is_same e.held f.held) ArmsDiffer line e.name) (arms_refusal line es fs)

-- the first owned block, in order of declaration, that is still held where its list ends
abbrev pub end_refusal : Environment → Option Refusal
end_refusal [] = None
end_refusal (e ∷ rest) = first_of (unless (is_released e) NotFreed e.line e.name) (end_refusal rest)

-- the end of a list that began with n visible names
abbrev pub ended : ℕ → Result Environment Refusal → Result Environment Refusal
ended n (Ok env) = guarded (end_refusal (drop n env)) (Ok (take n env))
ended n (Err r) = Err r

-- after both arms of an `if`
abbrev pub after_arms : ℕ → Result Environment Refusal → Result Environment Refusal → Result Environment Refusal
after_arms line (Err r) other = Err r
after_arms line (Ok env) (Err r) = Err r
after_arms line (Ok env) (Ok other) = guarded (arms_refusal line env other) (Ok env)

-- after the body of a loop that began with an environment
abbrev pub after_round : ℕ → Environment → Result Environment Refusal → Result Environment Refusal
after_round line env (Err r) = Err r
after_round line env (Ok end) = guarded (arms_refusal line env end) (Ok env)

-- after both branches of a `par`
abbrev pub after_branches : Result Environment Refusal → Result Environment Refusal → Result Environment Refusal
after_branches (Err r) other = Err r
after_branches (Ok left) (Err r) = Err r
after_branches (Ok left) (Ok right) = Ok (held_in_both left right)

-- after the body of a `split`
abbrev pub after_split : Name → Result Environment Refusal → Result Environment Refusal
after_split b (Err r) = Err r
after_split b (Ok end) = Ok (regained end b)

-- a statement with its line, and a list of statements
abbrev mutual
  pub walk : Program → ℕ → Stmt → Environment → Result Environment Refusal
  walk p line (let_stmt x e) env =
      guarded (fresh_refusal line env x) (guarded (expr_refusal line env e) (Ok (with_entry env (integer_entry x line))))
  walk p line (assign_stmt x e) env = guarded (integer_refusal line env x) (guarded (expr_refusal line env e) (Ok env))
  walk p line (put_stmt b i e) env =
      guarded (block_refusal line env b) (guarded (expr_refusal line env i) (guarded (expr_refusal line env e) (Ok env)))
  walk p line (alloc_stmt b e) env =
      guarded (fresh_refusal line env b) (guarded (expr_refusal line env e) (Ok (with_entry env (block_entry b line))))
  walk p line (free_stmt b) env = guarded (block_refusal line env b) (guarded (lent_refusal line env b) (Ok (without env b)))
  walk p line (if_stmt c a b) env =
      guarded (expr_refusal line env c)
      (after_arms line (ended (length env) (walk_all p a env)) (ended (length env) (walk_all p b env)))
  walk p line (while_stmt c a) env = guarded (expr_refusal line env c) (after_round line env (ended (length env) (walk_all p a env)))
  walk p line (call_stmt t f args) env =
      guarded (call_refusal p line env t f args) (Ok (after_answer (after_gives env args) t line))
  walk p line (print_stmt e) env = guarded (expr_refusal line env e) (Ok env)
  walk p line (par_stmt a b) env =
      guarded (branches_refusal line a b env)
      (after_branches (ended (length env) (walk_all p a env)) (ended (length env) (walk_all p b env)))
  walk p line (split_stmt b e l r a) env =
      guarded (block_refusal line env b)
      (guarded (expr_refusal line env e)
      (guarded (fresh_refusal line env l)
      (guarded (fresh_refusal line (with_entry env (lent_entry l line)) r)
      (after_split b
      (ended (length env)
      (walk_all p a (opened env b l r line)))))))

  pub walk_all : Program → Body → Environment → Result Environment Refusal
  walk_all p done env = Ok env
  walk_all p (step line s rest) env = then_walk (walk p line s env) (walk_all p rest)

-- the parameters of a function
abbrev pub walk_params : ℕ → List Param → Environment → Result Environment Refusal
walk_params line [] env = Ok env
walk_params line (q ∷ qs) env = guarded (fresh_refusal line env q.name) (walk_params line qs (with_entry env (param_entry q line)))

-- a `return`
abbrev pub walk_value : ℕ → RetValue → Environment → Result Environment Refusal
walk_value line (gives e) env = guarded (expr_refusal line env e) (Ok env)
walk_value line (hands b) env = guarded (block_refusal line env b) (guarded (lent_refusal line env b) (Ok (without env b)))

abbrev pub walk_return : Option Ret → Environment → Result Environment Refusal
walk_return None env = Ok env
walk_return (Some r) env = walk_value r.line r.value env

-- the end of a function
abbrev pub last_refusal : Result Environment Refusal → Option Refusal
last_refusal (Ok env) = end_refusal env
last_refusal (Err r) = Some r

abbrev pub func_refusal : Program → Func → Option Refusal
func_refusal p f = last_refusal (then_walk (then_walk (walk_params f.line f.params []) (walk_all p f.body)) (walk_return f.ret))

abbrev pub funcs_refusal : Program → List Func → Option Refusal
funcs_refusal p [] = None
funcs_refusal p (f ∷ rest) = first_of (func_refusal p f) (funcs_refusal p rest)

-- the names of the functions
abbrev pub names_refusal : List Func → List Func → Option Refusal
names_refusal before [] = None
names_refusal before (f ∷ rest) =
    first_of (unless (is_none (function_of before f.name)) Redefined f.line f.name) (names_refusal (before ++ f ∷ []) rest)

abbrev pub main_case : Option Func → Option Refusal
main_case None = unless false NoMain 1 main_name
main_case (Some f) = unless (begins f) NoMain 1 main_name

-- the first refusal of a program
abbrev pub program_refusal : Program → Option Refusal
program_refusal p = first_of (names_refusal [] p) (first_of (main_case (function_of p main_name)) (funcs_refusal p p))
