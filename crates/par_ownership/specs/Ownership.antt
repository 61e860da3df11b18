-- The ownership rules, as a relation between the environment before a statement and the one after it.
-- A case says what the statement needs of the environment and what it does to it. No case speaks of an
-- order of tests.
use Rattle.std.specs.Prelude.{◌≡◌, ℕ, Bool, true, false, not, ◌&&◌, ◌||◌, List, [], ◌∷◌, ◌++◌, take, drop, length, Option, Some, None, codes}
use Rattle.std.specs.List.{find, list_all, list_any}
use Rattle.std.specs.Str.{bytes_eq}
use Rattle.par_tree.specs.Tree
use Rattle.par_tree.specs.Tree.{Name, Program, Expr, num, var, get, len_of, neg, chain, cmp, Links, last, link, Target, unused, block, Arg, value, lend, give, Stmt, let_stmt, assign_stmt, put_stmt, alloc_stmt, free_stmt, if_stmt, while_stmt, call_stmt, print_stmt, par_stmt, split_stmt, Body, done, step, ParamKind, by_value, owned, Param, Func, Ret, RetValue, gives, hands}
use Rattle.par_ownership.specs.Environment.{is_block, is_own, Entry, Environment, entry_of, integer_entry, block_entry, lent_entry, with_entry, regained, opened, without, after_gives, after_answer, held_in_both, is_released, param_entry}
use Rattle.par_tree.specs.Names.{names_in_body, assigns_in_body}

-- nothing of this name is visible
abbrev pub IsFresh : Environment → Name → Type 0
IsFresh env x = entry_of env x ≡ None

-- x is a visible integer
abbrev pub IsInteger : Environment → Name → Type 0
IsInteger env x = (e : Entry) × (entry_of env x ≡ Some e) × (is_block e.kind ≡ false)

-- b is a visible block that is held
abbrev pub IsHeld : Environment → Name → Type 0
IsHeld env b = (e : Entry) × (entry_of env b ≡ Some e) × (is_block e.kind ≡ true) × (e.held ≡ true)

-- b is a block that is held and owned, so that it may be freed or given away
abbrev pub IsOwned : Environment → Name → Type 0
IsOwned env b = (e : Entry) × (entry_of env b ≡ Some e) × (is_own e.kind ≡ true) × (e.held ≡ true)

-- every name of an expression is an integer, or a block that is held, as its place wants
abbrev mutual
  pub Reads : Environment → Expr → Type 0
  Reads env (num n) = Unit {0}
  Reads env (var x) = IsInteger env x
  Reads env (get b i) = IsHeld env b × Reads env i
  Reads env (len_of b) = IsHeld env b
  Reads env (neg e) = Reads env e
  Reads env (chain e ls) = Reads env e × ReadsLinks env ls
  Reads env (cmp op l r) = Reads env l × Reads env r

  pub ReadsLinks : Environment → Links → Type 0
  ReadsLinks env last = Unit {0}
  ReadsLinks env (link op e ls) = Reads env e × ReadsLinks env ls

-- the function of a name
abbrev pub function_of : Program → Name → Option Func
function_of p f = find (λ (g : Func). bytes_eq g.name f) p

-- the function hands a block back
abbrev pub hands_back : Option Ret → Bool
hands_back None = false
hands_back (Some r) = hands_value r.value
  where
    hands_value : RetValue → Bool
    hands_value (gives e) = false
    hands_value (hands b) = true

-- a block is taken from a function that hands one back, and from no other
abbrev pub takes_answer : Target → Bool → Bool
takes_answer unused handed = not handed
takes_answer (Tree.integer x) handed = not handed
takes_answer (block b) handed = handed

-- an integer is there, and the name of a new block is fresh
abbrev pub IsTarget : Environment → Target → Type 0
IsTarget env unused = Unit {0}
IsTarget env (Tree.integer x) = IsInteger env x
IsTarget env (block b) = IsFresh env b

-- the argument passes block b
abbrev pub passes : Name → Arg → Bool
passes b (value e) = false
passes b (lend c) = bytes_eq c b
passes b (give c) = bytes_eq c b

-- an argument of a kind that the parameter takes, and no block that the call passes before
abbrev pub PassesOne : Environment → List Arg → ParamKind → Arg → Type 0
PassesOne env before by_value (value e) = Reads env e
PassesOne env before by_value (lend b) = ⊥
PassesOne env before by_value (give b) = ⊥
PassesOne env before Tree.lent (value e) = ⊥
PassesOne env before Tree.lent (lend b) = IsHeld env b × (list_any (passes b) before ≡ false)
PassesOne env before Tree.lent (give b) = ⊥
PassesOne env before owned (value e) = ⊥
PassesOne env before owned (lend b) = ⊥
PassesOne env before owned (give b) = IsOwned env b × (list_any (passes b) before ≡ false)

-- as many arguments as parameters, each as its parameter wants it
abbrev pub Passes : Environment → List Arg → List Param → List Arg → Type 0
Passes env before [] [] = Unit {0}
Passes env before [] (a ∷ rest) = ⊥
Passes env before (q ∷ qs) [] = ⊥
Passes env before (q ∷ qs) (a ∷ rest) = PassesOne env before q.kind a × Passes env (before ++ a ∷ []) qs rest

-- two branches name no block both, and assign no integer that the other names
abbrev pub are_apart : Body → Body → Entry → Bool
are_apart a b e = kept (is_block e.kind)
  where
    kept : Bool → Bool
    kept true = not (names_in_body e.name a && names_in_body e.name b)
    kept false = not ((assigns_in_body e.name a && names_in_body e.name b) || (assigns_in_body e.name b && names_in_body e.name a))

-- the same blocks are held
abbrev pub HoldTheSame : Environment → Environment → Type 0
HoldTheSame [] others = Unit {0}
HoldTheSame (e ∷ es) [] = Unit {0}
HoldTheSame (e ∷ es) (f ∷ fs) = (e.held ≡ f.held) × HoldTheSame es fs

-- A list of statements from its first environment to its last one, seen from outside: the names that
-- were declared behind the first n are released, and are no longer visible.
abbrev pub Within : ℕ → (Environment → Environment → Type 0) → Environment → Environment → Type 0
Within n R env after = (end : Environment) × R env end × (list_all is_released (drop n end) ≡ true) × (after ≡ take n end)

-- a statement with its line, and a list of statements
abbrev mutual
  pub Owns : Program → ℕ → Stmt → Environment → Environment → Type 0
  Owns p line (let_stmt x e) env after = IsFresh env x × Reads env e × (after ≡ with_entry env (integer_entry x line))
  Owns p line (assign_stmt x e) env after = IsInteger env x × Reads env e × (after ≡ env)
  Owns p line (put_stmt b i e) env after = IsHeld env b × Reads env i × Reads env e × (after ≡ env)
  Owns p line (alloc_stmt b e) env after = IsFresh env b × Reads env e × (after ≡ with_entry env (block_entry b line))
  Owns p line (free_stmt b) env after = IsOwned env b × (after ≡ without env b)
  Owns p line (if_stmt c a b) env after =
      Reads env c × Within (length env) (OwnsAll p a) env after
      × ((other : Environment) × Within (length env) (OwnsAll p b) env other × HoldTheSame after other)
  Owns p line (while_stmt c a) env after =
      Reads env c × ((end : Environment) × Within (length env) (OwnsAll p a) env end × HoldTheSame env end) × (after ≡ env)
  Owns p line (call_stmt t f args) env after =
      IsTarget env t
      × ((g : Func) × (function_of p f ≡ Some g) × (takes_answer t (hands_back g.ret) ≡ true) × Passes env [] g.params args)
      × (after ≡ after_answer (after_gives env args) t line)
  Owns p line (print_stmt e) env after = Reads env e × (after ≡ env)
  Owns p line (par_stmt a b) env after =
      (list_all (are_apart a b) env ≡ true)
      × ((left : Environment) × Within (length env) (OwnsAll p a) env left
      × ((right : Environment) × Within (length env) (OwnsAll p b) env right × (after ≡ held_in_both left right)))
  Owns p line (split_stmt b e l r a) env after =
      IsHeld env b × Reads env e × IsFresh env l × IsFresh (with_entry env (lent_entry l line)) r
      × ((end : Environment)
      × Within (length env) (OwnsAll p a) (opened env b l r line) end
      × (after ≡ regained end b))

  pub OwnsAll : Program → Body → Environment → Environment → Type 0
  OwnsAll p done env after = after ≡ env
  OwnsAll p (step line s rest) env after = (middle : Environment) × Owns p line s env middle × OwnsAll p rest middle after

-- parameters have names of their own, and are declared in order at the line of their function
abbrev pub OwnsParams : ℕ → List Param → Environment → Environment → Type 0
OwnsParams line [] env after = after ≡ env
OwnsParams line (q ∷ qs) env after = IsFresh env q.name × OwnsParams line qs (with_entry env (param_entry q line)) after

-- a `return` reads an integer, or gives a block of the function away
abbrev pub OwnsValue : RetValue → Environment → Environment → Type 0
OwnsValue (gives e) env after = Reads env e × (after ≡ env)
OwnsValue (hands b) env after = IsOwned env b × (after ≡ without env b)

abbrev pub OwnsReturn : Option Ret → Environment → Environment → Type 0
OwnsReturn None env after = after ≡ env
OwnsReturn (Some r) env after = OwnsValue r.value env after

-- A function goes from its parameters to its lent blocks alone.
abbrev pub OwnsFunction : Program → Func → Type 0
OwnsFunction p f =
    (start : Environment) × OwnsParams f.line f.params [] start
    × ((end : Environment) × OwnsAll p f.body start end
    × ((after : Environment) × OwnsReturn f.ret end after × (list_all is_released after ≡ true)))

abbrev pub OwnsFunctions : Program → List Func → Type 0
OwnsFunctions p [] = Unit {0}
OwnsFunctions p (f ∷ rest) = OwnsFunction p f × OwnsFunctions p rest

-- no function has the name of one before it
abbrev pub HaveNewNames : List Func → List Func → Type 0
HaveNewNames before [] = Unit {0}
HaveNewNames before (f ∷ rest) = (function_of before f.name ≡ None) × HaveNewNames (before ++ f ∷ []) rest

abbrev pub main_name : Name
main_name = codes "main"

-- a run can begin: `main` takes nothing, and hands no block back
abbrev pub takes_nothing : List Param → Bool
takes_nothing [] = true
takes_nothing (q ∷ qs) = false

abbrev pub begins : Func → Bool
begins f = takes_nothing f.params && not (hands_back f.ret)

-- a program keeps the ownership rules
pub record Ownership (p : Program) : Type 0 where
  pub new_names : HaveNewNames [] p
  pub main : (f : Func) × (function_of p main_name ≡ Some f) × (begins f ≡ true)
  pub functions : OwnsFunctions p p
