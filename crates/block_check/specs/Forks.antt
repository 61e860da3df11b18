-- The `par` statements of a function in the order of the text, each with the names that are visible
-- there, and the names that its branches take and give back.
use Rattle.std.specs.Prelude.{ℕ, Bool, not, ◌&&◌, List, [], ◌∷◌, ◌++◌, map, slice_get, Option}
use Rattle.std.specs.List.{filter}
use Rattle.std.specs.Option.{option_and_then}
use Rattle.std.specs.declared.vec.Vec.{Vec}
use Rattle.std.specs.declared.alloc.Global.{Global}
use Rattle.par_tree.specs.Tree
use Rattle.par_tree.specs.Tree.{Program, Stmt, let_stmt, assign_stmt, put_stmt, alloc_stmt, free_stmt, if_stmt, while_stmt, call_stmt, print_stmt, par_stmt, split_stmt, Body, done, step, Param, Func}
use Rattle.par_tree.specs.View.{name_tree}
use Rattle.par_tree.specs.declared.name.Name.{Name}
use Rattle.par_ownership.specs.Environment.{Environment, Entry, is_block, integer_entry, block_entry, lent_entry, with_entry, after_answer, param_entry}
use Rattle.par_tree.specs.Names.{names_in_body, assigns_in_body}

-- a `par`, with the names that are visible before it
pub record Fork : Type 0 where
  pub names : Environment
  pub left : Body
  pub right : Body

-- the names that are visible behind a statement
abbrev pub declared_by : Environment → ℕ → Stmt → Environment
declared_by env line (let_stmt x e) = with_entry env (integer_entry x line)
declared_by env line (assign_stmt x e) = env
declared_by env line (put_stmt b i e) = env
declared_by env line (alloc_stmt b e) = with_entry env (block_entry b line)
declared_by env line (free_stmt b) = env
declared_by env line (if_stmt c a b) = env
declared_by env line (while_stmt c a) = env
declared_by env line (call_stmt t f args) = after_answer env t line
declared_by env line (print_stmt e) = env
declared_by env line (par_stmt a b) = env
declared_by env line (split_stmt b e l r a) = env

-- inside a `split` its two names are visible too
abbrev pub split_names : Environment → ℕ → Tree.Name → Tree.Name → Environment
split_names env line l r = with_entry (with_entry env (lent_entry l line)) (lent_entry r line)

abbrev mutual
  pub forks_in_stmt : Environment → ℕ → Stmt → List Fork
  forks_in_stmt env line (let_stmt x e) = []
  forks_in_stmt env line (assign_stmt x e) = []
  forks_in_stmt env line (put_stmt b i e) = []
  forks_in_stmt env line (alloc_stmt b e) = []
  forks_in_stmt env line (free_stmt b) = []
  forks_in_stmt env line (if_stmt c a b) = forks_in_body env a ++ forks_in_body env b
  forks_in_stmt env line (while_stmt c a) = forks_in_body env a
  forks_in_stmt env line (call_stmt t f args) = []
  forks_in_stmt env line (print_stmt e) = []
  forks_in_stmt env line (par_stmt a b) = record { names = env; left = a; right = b } ∷ (forks_in_body env a ++ forks_in_body env b)
  forks_in_stmt env line (split_stmt b e l r a) = forks_in_body (split_names env line l r) a

  pub forks_in_body : Environment → Body → List Fork
  forks_in_body env done = []
  forks_in_body env (step line s rest) = forks_in_stmt env line s ++ forks_in_body (declared_by env line s) rest

-- the parameters are visible in the whole body
abbrev pub with_params : Environment → ℕ → List Param → Environment
with_params env line [] = env
with_params env line (q ∷ qs) = with_params (with_entry env (param_entry q line)) line qs

abbrev pub forks_in_func : Func → List Fork
forks_in_func f = forks_in_body (with_params [] f.line f.params) f.body

-- the `par` of a number, from 0, in the function of a number, from 0
abbrev pub fork_at : Program → ℕ → ℕ → Option Fork
fork_at p func par = option_and_then (λ (f : Func). slice_get (forks_in_func f) par) (slice_get p func)

-- the names of the entries that pass a test, in the order of their declarations
abbrev pub names_of : (Entry → Bool) → Environment → List Tree.Name
names_of p env = map (λ (e : Entry). e.name) (filter p env)

-- a block that a branch names, and an integer to which a branch assigns
abbrev pub takes_block : Body → Entry → Bool
takes_block branch e = is_block e.kind && names_in_body e.name branch

abbrev pub assigns_integer : Body → Entry → Bool
assigns_integer branch e = not (is_block e.kind) && assigns_in_body e.name branch

abbrev pub names_shown : Vec Name Global → List Tree.Name
names_shown ns = map name_tree ns.items
