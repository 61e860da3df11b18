-- The blocks that a statement needs are held where it begins.
use Rattle.std.specs.Prelude.{◌≡◌, ℕ, Bool, true, false, ◌||◌, List, [], ◌∷◌, ◌++◌, refl}
use Rattle.std.specs.Str.{bytes_eq}
use Rattle.std.proofs.Common.{◌∙◌, subst}
use Rattle.depth_first_run.specs.Passed.Tree.{Name, Program, Expr, num, var, get, len_of, neg, chain, cmp, Links, last, link, Arg, value, lend, give, Param, ParamKind, by_value, lent, owned, Stmt, let_stmt, assign_stmt, put_stmt, alloc_stmt, free_stmt, if_stmt, while_stmt, call_stmt, print_stmt, par_stmt, split_stmt}
use Rattle.depth_first_run.specs.Passed.Environment.{Environment}
use Rattle.depth_first_run.specs.Passed.Names.{names_in_expr, names_in_links, names_in_args, names_in_target, names_in_stmt, names_in_body}
use Rattle.depth_first_run.specs.Passed.Ownership.{Reads, ReadsLinks, PassesOne, Passes, Owns}
use Rattle.depth_first_run.specs.States.{State}
use Rattle.ownership_laws.specs.Counts.{count, held_in}
use Rattle.ownership_laws.specs.Needs.{reads_block, reads_links, needed_by_args, needs_block}
use Rattle.ownership_laws.proofs.Counting.{same_name, held_block, owned_block}
use Rattle.ownership_laws.proofs.Tame.{passes_give, passes_lend}
use Rattle.ownership_laws.proofs.Passing.{or_left, or_right}

-- what follows from each of two tests follows from either
pub or_cases : {P : Type 0} (a b : Bool) → (a || b) ≡ true → (a ≡ true → P) → (b ≡ true → P) → P
or_cases true b e f g = f refl
or_cases false b e f g = g e

-- a test for this or that, where each leads to another
or_map : (a b c d : Bool) → (a ≡ true → c ≡ true) → (b ≡ true → d ≡ true) → (a || b) ≡ true → (c || d) ≡ true
or_map a b c d f g e = or_cases a b e (λ h. or_left c d (f h)) (λ h. or_right c d (g h))

pub held_name : (env : Environment) (b x : Name) → held_in env b ≡ 1 → bytes_eq b x ≡ true → held_in env x ≡ 1
held_name env b x h e = subst (λ (n : Name). held_in env n ≡ 1) (same_name b x e) h

mutual
  pub reads_held : (env : Environment) (x : Name) (e : Expr) → Reads env e → reads_block x e ≡ true → held_in env x ≡ 1
  reads_held env x (num n) r h = let never : ⊥ = cc in absurd never
  reads_held env x (var y) r h = let never : ⊥ = cc in absurd never
  reads_held env x (get b i) r h = or_cases (bytes_eq b x) (reads_block x i) h (held_name env b x (held_block env b r.0).0) (reads_held env x i r.1)
  reads_held env x (len_of b) r h = held_name env b x (held_block env b r).0 h
  reads_held env x (neg e) r h = reads_held env x e r h
  reads_held env x (chain e ls) r h = or_cases (reads_block x e) (reads_links x ls) h (reads_held env x e r.0) (links_held env x ls r.1)
  reads_held env x (cmp op a b) r h = or_cases (reads_block x a) (reads_block x b) h (reads_held env x a r.0) (reads_held env x b r.1)

  links_held : (env : Environment) (x : Name) (ls : Links) → ReadsLinks env ls → reads_links x ls ≡ true → held_in env x ≡ 1
  links_held env x last r h = let never : ⊥ = cc in absurd never
  links_held env x (link op e ls) r h = or_cases (reads_block x e) (reads_links x ls) h (reads_held env x e r.0) (links_held env x ls r.1)

mutual
  reads_named : (x : Name) (e : Expr) → reads_block x e ≡ true → names_in_expr x e ≡ true
  reads_named x (num n) h = h
  reads_named x (var y) h = let never : ⊥ = cc in absurd never
  reads_named x (get b i) h = or_map (bytes_eq b x) (reads_block x i) (bytes_eq b x) (names_in_expr x i) (λ e. e) (reads_named x i) h
  reads_named x (len_of b) h = h
  reads_named x (neg e) h = reads_named x e h
  reads_named x (chain e ls) h = or_map (reads_block x e) (reads_links x ls) (names_in_expr x e) (names_in_links x ls) (reads_named x e) (links_named x ls) h
  reads_named x (cmp op a b) h = or_map (reads_block x a) (reads_block x b) (names_in_expr x a) (names_in_expr x b) (reads_named x a) (reads_named x b) h

  links_named : (x : Name) (ls : Links) → reads_links x ls ≡ true → names_in_links x ls ≡ true
  links_named x last h = h
  links_named x (link op e ls) h = or_map (reads_block x e) (reads_links x ls) (names_in_expr x e) (names_in_links x ls) (reads_named x e) (links_named x ls) h

passed_number : (env : Environment) (before : List Arg) (k : ParamKind) (e : Expr) → PassesOne env before k (value e) → Reads env e
passed_number env before by_value e h = h
passed_number env before lent e h = absurd h
passed_number env before owned e h = absurd h

args_held : (env : Environment) (before : List Arg) (qs : List Param) (args : List Arg) (x : Name) → Passes env before qs args → needed_by_args x args ≡ true → held_in env x ≡ 1
args_held env before qs [] x p h = let never : ⊥ = cc in absurd never
args_held env before [] (a ∷ args) x p h = absurd p
args_held env before (q ∷ qs) (value e ∷ args) x p h =
    or_cases (reads_block x e) (needed_by_args x args) h (reads_held env x e (passed_number env before q.kind e p.0)) (args_held env (before ++ value e ∷ []) qs args x p.1)
args_held env before (q ∷ qs) (lend b ∷ args) x p h =
    or_cases (bytes_eq b x) (needed_by_args x args) h (held_name env b x (held_block env b (passes_lend env before q.kind b p.0).1).0) (args_held env (before ++ lend b ∷ []) qs args x p.1)
args_held env before (q ∷ qs) (give b ∷ args) x p h =
    or_cases (bytes_eq b x) (needed_by_args x args) h (held_name env b x (owned_block env b (passes_give env before q.kind b p.0).1).0) (args_held env (before ++ give b ∷ []) qs args x p.1)

args_named : (args : List Arg) (x : Name) → needed_by_args x args ≡ true → names_in_args x args ≡ true
args_named [] x h = h
args_named (value e ∷ args) x h = or_map (reads_block x e) (needed_by_args x args) (names_in_expr x e) (names_in_args x args) (reads_named x e) (args_named args x) h
args_named (lend b ∷ args) x h = or_map (bytes_eq b x) (needed_by_args x args) (bytes_eq b x) (names_in_args x args) (λ e. e) (args_named args x) h
args_named (give b ∷ args) x h = or_map (bytes_eq b x) (needed_by_args x args) (bytes_eq b x) (names_in_args x args) (λ e. e) (args_named args x) h

needed_held : (p : Program) (line : ℕ) (stmt : Stmt) (env after : Environment) (x : Name) → Owns p line stmt env after → needs_block x stmt ≡ true → held_in env x ≡ 1
needed_held p line (let_stmt y e) env after x o h = reads_held env x e o.1 h
needed_held p line (assign_stmt y e) env after x o h = reads_held env x e o.1 h
needed_held p line (put_stmt b i e) env after x o h =
    or_cases (bytes_eq b x) (reads_block x i || reads_block x e) h (held_name env b x (held_block env b o.0).0)
    (λ k. or_cases (reads_block x i) (reads_block x e) k (reads_held env x i o.1) (reads_held env x e o.2))
needed_held p line (alloc_stmt b e) env after x o h = reads_held env x e o.1 h
needed_held p line (free_stmt b) env after x o h = held_name env b x (owned_block env b o.0).0 h
needed_held p line (if_stmt c a b) env after x o h = reads_held env x c o.0 h
needed_held p line (while_stmt c a) env after x o h = reads_held env x c o.0 h
needed_held p line (call_stmt t f args) env after x o h = args_held env [] o.1.0.params args x o.1.3 h
needed_held p line (print_stmt e) env after x o h = reads_held env x e o.0 h
needed_held p line (par_stmt a b) env after x o h = let never : ⊥ = cc in absurd never
needed_held p line (split_stmt b e l r a) env after x o h = or_cases (bytes_eq b x) (reads_block x e) h (held_name env b x (held_block env b o.0).0) (reads_held env x e o.1)

needed_named : (stmt : Stmt) (x : Name) → needs_block x stmt ≡ true → names_in_stmt x stmt ≡ true
needed_named (let_stmt y e) x h = or_right (bytes_eq y x) (names_in_expr x e) (reads_named x e h)
needed_named (assign_stmt y e) x h = or_right (bytes_eq y x) (names_in_expr x e) (reads_named x e h)
needed_named (put_stmt b i e) x h =
    or_cases (bytes_eq b x) (reads_block x i || reads_block x e) h
    (λ k. or_left (bytes_eq b x || names_in_expr x i) (names_in_expr x e) (or_left (bytes_eq b x) (names_in_expr x i) k))
    (λ k. or_cases (reads_block x i) (reads_block x e) k
    (λ m. or_left (bytes_eq b x || names_in_expr x i) (names_in_expr x e) (or_right (bytes_eq b x) (names_in_expr x i) (reads_named x i m)))
    (λ m. or_right (bytes_eq b x || names_in_expr x i) (names_in_expr x e) (reads_named x e m)))
needed_named (alloc_stmt b e) x h = or_right (bytes_eq b x) (names_in_expr x e) (reads_named x e h)
needed_named (free_stmt b) x h = h
needed_named (if_stmt c a b) x h = or_left (names_in_expr x c) (names_in_body x a || names_in_body x b) (reads_named x c h)
needed_named (while_stmt c a) x h = or_left (names_in_expr x c) (names_in_body x a) (reads_named x c h)
needed_named (call_stmt t f args) x h = or_right (names_in_target x t) (names_in_args x args) (args_named args x h)
needed_named (print_stmt e) x h = reads_named x e h
needed_named (par_stmt a b) x h = let never : ⊥ = cc in absurd never
needed_named (split_stmt b e l r a) x h =
    let front : (bytes_eq b x || names_in_expr x e) ≡ true = or_map (bytes_eq b x) (reads_block x e) (bytes_eq b x) (names_in_expr x e) (λ k. k) (reads_named x e) h in
    or_left (bytes_eq b x || names_in_expr x e || bytes_eq l x || bytes_eq r x) (names_in_body x a)
    (or_left (bytes_eq b x || names_in_expr x e || bytes_eq l x) (bytes_eq r x) (or_left (bytes_eq b x || names_in_expr x e) (bytes_eq l x) front))

-- a block that a statement needs is there, once
pub needed_is_there : (p : Program) (line : ℕ) (stmt : Stmt) (env after : Environment) (s : State) → Owns p line stmt env after
    → ((x : Name) → names_in_stmt x stmt ≡ true → count s.store.blocks x ≡ held_in env x) → (x : Name) → needs_block x stmt ≡ true → count s.store.blocks x ≡ 1
needed_is_there p line stmt env after s o holds x h = holds x (needed_named stmt x h) ∙ needed_held p line stmt env after x o h
