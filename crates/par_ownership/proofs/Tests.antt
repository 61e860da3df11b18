-- Each test of the walk tells exactly whether the relation's fact holds.
use Rattle.std.proofs.Common.{◌≡◌, ℕ, Bool, true, false, not, List, [], ◌∷◌, ◌++◌, length, nat_eq, Option, Some, None, is_none, refl, sym, subst, arith, eq-eqb, eqb-true}
use Rattle.std.specs.List.{list_all, list_any}
use Rattle.par_tree.specs.Tree
use Rattle.par_tree.specs.Tree.{Name, Program, Expr, num, var, get, len_of, neg, chain, cmp, Links, last, link, Target, unused, block, Arg, value, lend, give, Body, ParamKind, by_value, owned, Param, Func}
use Rattle.par_ownership.specs.declared.check_kind.CheckKind.{CheckKind}
use Rattle.par_ownership.specs.declared.check_kind.CheckKind.TheVariants.{UnknownName, Redefined, WrongKind, WrongCount, SharedBlock, Gone, FreesLent, NoMain}
use Rattle.par_ownership.specs.Environment.{Kind, integer, own, lent, is_block, is_own, Entry, Environment, entry_of}
use Rattle.par_ownership.specs.Ownership.{IsFresh, IsInteger, IsHeld, IsOwned, Reads, ReadsLinks, function_of, hands_back, takes_answer, IsTarget, passes, PassesOne, Passes, are_apart, HaveNewNames, main_name, begins}
use Rattle.par_ownership.specs.Walk.{Refusal, unless, first_of, fresh_refusal, integer_case, integer_refusal, block_case, block_refusal, lent_case, lent_refusal, expr_refusal, links_refusal, target_refusal, shared_refusal, arg_refusal, args_refusal, function_refusal, call_refusal, shared_kind, branches_refusal, names_refusal, main_case}
use Rattle.par_ownership.proofs.Exact.{Tells, tells_nothing, tells_never, tells_unless, tells_as, tells_first, tells_both}

-- nothing stands under a name
tells_none : {T : Type 0} (o : Option T) (kind : CheckKind) (line : ℕ) (x : Name) → Tells (unless (is_none o) kind line x) (o ≡ None)
tells_none None kind line x = record { sound = λ h. refl; complete = λ h. refl }
tells_none (Some v) kind line x = record { sound = λ h. let no : ⊥ = cc in absurd no; complete = λ h. let no : ⊥ = cc in absurd no }

tells_not : (b : Bool) (kind : CheckKind) (line : ℕ) (x : Name) → Tells (unless (not b) kind line x) (b ≡ false)
tells_not true kind line x = record { sound = λ h. let no : ⊥ = cc in absurd no; complete = λ h. let no : ⊥ = cc in absurd no }
tells_not false kind line x = record { sound = λ h. refl; complete = λ h. refl }

pub tells_fresh : (line : ℕ) (env : Environment) (x : Name) → Tells (fresh_refusal line env x) (IsFresh env x)
tells_fresh line env x = tells_none (entry_of env x) Redefined line x

-- a fact of what stands under a name
same_entry : {T : Type 0} (a b : T) → Some a ≡ Some b → a ≡ b
same_entry a b e = cc

found : {T : Type 0} {o : Option Refusal} (P : T → Type 0) (e : T) → Tells o (P e) → Tells o ((f : T) × (Some e ≡ Some f) × P f)
found P e t = tells_as t (λ h. (e, refl, h)) (λ h. subst P (sym (same_entry e h.0 h.1)) h.2)

tells_absent : {T : Type 0} (P : T → Type 0) (kind : CheckKind) (line : ℕ) (x : Name) → Tells (unless false kind line x) ((f : T) × (None ≡ Some f) × P f)
tells_absent P kind line x = record { sound = λ h. let no : ⊥ = cc in absurd no; complete = λ h. let no : ⊥ = (let e = h.1 in cc) in absurd no }

integer_told : (line : ℕ) (x : Name) (o : Option Entry) → Tells (integer_case line x o) ((e : Entry) × (o ≡ Some e) × (is_block e.kind ≡ false))
integer_told line x None = tells_absent (λ (e : Entry). is_block e.kind ≡ false) UnknownName line x
integer_told line x (Some e) = found (λ (e : Entry). is_block e.kind ≡ false) e (tells_not (is_block e.kind) WrongKind line x)

pub tells_integer : (line : ℕ) (env : Environment) (x : Name) → Tells (integer_refusal line env x) (IsInteger env x)
tells_integer line env x = integer_told line x (entry_of env x)

block_told : (line : ℕ) (b : Name) (o : Option Entry) → Tells (block_case line b o) ((e : Entry) × (o ≡ Some e) × ((is_block e.kind ≡ true) × (e.held ≡ true)))
block_told line b None = tells_absent (λ (e : Entry). (is_block e.kind ≡ true) × (e.held ≡ true)) UnknownName line b
block_told line b (Some e) = found (λ (e : Entry). (is_block e.kind ≡ true) × (e.held ≡ true)) e (tells_first (tells_unless (is_block e.kind) WrongKind line b) (tells_unless e.held Gone line b))

pub tells_held : (line : ℕ) (env : Environment) (b : Name) → Tells (block_refusal line env b) (IsHeld env b)
tells_held line env b = tells_as (block_told line b (entry_of env b)) (λ h. (h.0, h.1, h.2.0, h.2.1)) (λ h. (h.0, h.1, (h.2, h.3)))

-- an owned block is a block
own_is_block : (k : Kind) → is_own k ≡ true → is_block k ≡ true
own_is_block integer h = h
own_is_block own h = refl
own_is_block lent h = refl

owned_told : (line : ℕ) (b : Name) (o : Option Entry) → Tells (first_of (block_case line b o) (lent_case line b o)) ((e : Entry) × (o ≡ Some e) × ((is_own e.kind ≡ true) × (e.held ≡ true)))
owned_told line b None = record { sound = λ h. let no : ⊥ = cc in absurd no; complete = λ h. let no : ⊥ = (let e = h.1 in cc) in absurd no }
owned_told line b (Some e) =
    found (λ (e : Entry). (is_own e.kind ≡ true) × (e.held ≡ true)) e
    (tells_as
    (tells_first (tells_first (tells_unless (is_block e.kind) WrongKind line b) (tells_unless e.held Gone line b)) (tells_unless (is_own e.kind) FreesLent line b))
    (λ h. (h.1, h.0.1)) (λ h. ((own_is_block e.kind h.0, h.1), h.0)))

pub tells_owned : (line : ℕ) (env : Environment) (b : Name) → Tells (first_of (block_refusal line env b) (lent_refusal line env b)) (IsOwned env b)
tells_owned line env b = tells_as (owned_told line b (entry_of env b)) (λ h. (h.0, h.1, h.2.0, h.2.1)) (λ h. (h.0, h.1, (h.2, h.3)))

-- expressions
mutual
  pub tells_expr : (line : ℕ) (env : Environment) (e : Expr) → Tells (expr_refusal line env e) (Reads env e)
  tells_expr line env (num n) = tells_nothing
  tells_expr line env (var x) = tells_integer line env x
  tells_expr line env (get b i) = tells_first (tells_held line env b) (tells_expr line env i)
  tells_expr line env (len_of b) = tells_held line env b
  tells_expr line env (neg e) = tells_expr line env e
  tells_expr line env (chain e ls) = tells_first (tells_expr line env e) (tells_links line env ls)
  tells_expr line env (cmp op l r) = tells_first (tells_expr line env l) (tells_expr line env r)

  tells_links : (line : ℕ) (env : Environment) (ls : Links) → Tells (links_refusal line env ls) (ReadsLinks env ls)
  tells_links line env last = tells_nothing
  tells_links line env (link op e ls) = tells_first (tells_expr line env e) (tells_links line env ls)

-- calls
pub tells_target : (line : ℕ) (env : Environment) (t : Target) → Tells (target_refusal line env t) (IsTarget env t)
tells_target line env unused = tells_nothing
tells_target line env (Tree.integer x) = tells_integer line env x
tells_target line env (block b) = tells_fresh line env b

tells_unshared : (line : ℕ) (before : List Arg) (b : Name) → Tells (shared_refusal line before b) (list_any (passes b) before ≡ false)
tells_unshared line before b = tells_not (list_any (passes b) before) SharedBlock line b

-- of three tests the last two change places
swapped : {P Q : Type 0} (a b c : Option Refusal) → Tells (first_of a c) P → Tells b Q → Tells (first_of a (first_of b c)) (P × Q)
swapped None None c s t = record { sound = λ h. (s.sound h, t.sound refl); complete = λ h. s.complete h.0 }
swapped None (Some q) c s t = record { sound = λ h. let no : ⊥ = cc in absurd no; complete = λ h. let e : Some q ≡ None = t.complete h.1 in let no : ⊥ = cc in absurd no }
swapped (Some q) b c s t = record { sound = λ h. let no : ⊥ = cc in absurd no; complete = λ h. s.complete h.0 }

tells_arg : (line : ℕ) (env : Environment) (before : List Arg) (q : Name) (k : ParamKind) (a : Arg) → Tells (arg_refusal line env before q k a) (PassesOne env before k a)
tells_arg line env before q by_value (value e) = tells_expr line env e
tells_arg line env before q by_value (lend b) = tells_never WrongKind line q
tells_arg line env before q by_value (give b) = tells_never WrongKind line q
tells_arg line env before q Tree.lent (value e) = tells_never WrongKind line q
tells_arg line env before q Tree.lent (lend b) = tells_first (tells_held line env b) (tells_unshared line before b)
tells_arg line env before q Tree.lent (give b) = tells_never WrongKind line q
tells_arg line env before q owned (value e) = tells_never WrongKind line q
tells_arg line env before q owned (lend b) = tells_never WrongKind line q
tells_arg line env before q owned (give b) =
    swapped (block_refusal line env b) (shared_refusal line before b) (lent_refusal line env b) (tells_owned line env b) (tells_unshared line before b)

-- where the numbers are the same, the arguments are walked to the end of both lists
tells_args : (line : ℕ) (env : Environment) (before : List Arg) (qs : List Param) (rest : List Arg) → length rest ≡ length qs → Tells (args_refusal line env before qs rest) (Passes env before qs rest)
tells_args line env before [] [] same = tells_nothing
tells_args line env before [] (a ∷ rest) same = let no : ⊥ = omega arith in absurd no
tells_args line env before (q ∷ qs) [] same = let no : ⊥ = omega arith in absurd no
tells_args line env before (q ∷ qs) (a ∷ rest) same =
    tells_first (tells_arg line env before q.name q.kind a) (tells_args line env (before ++ a ∷ []) qs rest (omega arith))

pass_length : (env : Environment) (before : List Arg) (qs : List Param) (rest : List Arg) → Passes env before qs rest → length rest ≡ length qs
pass_length env before [] [] h = refl
pass_length env before [] (a ∷ rest) h = absurd h
pass_length env before (q ∷ qs) [] h = absurd h
pass_length env before (q ∷ qs) (a ∷ rest) h = let e : length rest ≡ length qs = pass_length env (before ++ a ∷ []) qs rest h.1 in omega arith

-- a first test, under whose fact the second one tells
tells_given : {a b : Option Refusal} {P : Type 0} (Q : Type 0) → Tells a P → (P → Tells b Q) → (Q → P) → Tells (first_of a b) Q
tells_given {a = None} Q s t f = t (s.sound refl)
tells_given {a = Some q} Q s t f = record { sound = λ h. let no : ⊥ = cc in absurd no; complete = λ h. s.complete (f h) }

tells_count : (a b : ℕ) (line : ℕ) (x : Name) → Tells (unless (nat_eq a b) WrongCount line x) (a ≡ b)
tells_count a b line x = tells_as (tells_unless (nat_eq a b) WrongCount line x) (λ h. eqb-true a b h) (λ h. eq-eqb a b h)

tells_function : (line : ℕ) (env : Environment) (t : Target) (f : Name) (args : List Arg) (o : Option Func) → Tells (function_refusal line env t f args o) ((g : Func) × (o ≡ Some g) × ((takes_answer t (hands_back g.ret) ≡ true) × Passes env [] g.params args))
tells_function line env t f args None = tells_absent (λ (g : Func). (takes_answer t (hands_back g.ret) ≡ true) × Passes env [] g.params args) UnknownName line f
tells_function line env t f args (Some g) =
    found (λ (g : Func). (takes_answer t (hands_back g.ret) ≡ true) × Passes env [] g.params args) g
    (tells_given ((takes_answer t (hands_back g.ret) ≡ true) × Passes env [] g.params args)
    (tells_count (length args) (length g.params) line f)
    (λ same. tells_first (tells_unless (takes_answer t (hands_back g.ret)) WrongKind line f) (tells_args line env [] g.params args same))
    (λ h. pass_length env [] g.params args h.1))

pub tells_call : (p : Program) (line : ℕ) (env : Environment) (t : Target) (f : Name) (args : List Arg) → Tells (call_refusal p line env t f args) (IsTarget env t × ((g : Func) × (function_of p f ≡ Some g) × (takes_answer t (hands_back g.ret) ≡ true) × Passes env [] g.params args))
tells_call p line env t f args =
    tells_first (tells_target line env t)
    (tells_as (tells_function line env t f args (function_of p f)) (λ h. (h.0, h.1, h.2.0, h.2.1)) (λ h. (h.0, h.1, (h.2, h.3))))

-- branches
pub tells_branches : (line : ℕ) (a b : Body) (env : Environment) → Tells (branches_refusal line a b env) (list_all (are_apart a b) env ≡ true)
tells_branches line a b [] = record { sound = λ h. refl; complete = λ h. refl }
tells_branches line a b (e ∷ rest) =
    tells_both (are_apart a b e) (list_all (are_apart a b) rest)
    (tells_first (tells_unless (are_apart a b e) (shared_kind (is_block e.kind)) line e.name) (tells_branches line a b rest))

-- the names of functions, and `main`
pub tells_names : (before fs : List Func) → Tells (names_refusal before fs) (HaveNewNames before fs)
tells_names before [] = tells_nothing
tells_names before (f ∷ rest) = tells_first (tells_none (function_of before f.name) Redefined f.line f.name) (tells_names (before ++ f ∷ []) rest)

pub tells_main : (o : Option Func) → Tells (main_case o) ((f : Func) × (o ≡ Some f) × (begins f ≡ true))
tells_main None = tells_absent (λ (f : Func). begins f ≡ true) NoMain 1 main_name
tells_main (Some f) = found (λ (f : Func). begins f ≡ true) f (tells_unless (begins f) NoMain 1 main_name)
