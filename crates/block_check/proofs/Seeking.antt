-- How the searches of two parts make the search of both.
use Rattle.std.proofs.Common.{◌≡◌, ◌≤◌, ◌<◌, ℕ, zero, suc, ◌+◌, ◌-◌, List, [], ◌∷◌, ◌++◌, take, drop, length, get_or, Some, Result, Ok, Err, refl, sym, ap, ◌∙◌, subst, arith, add-one, drop-cons}
use Rattle.std.specs.Prelude.{slice_get}
use Rattle.std.proofs.lemmas.List.{length-append, take-append-le, take-map, drop_all}
use Rattle.par_tree.specs.Tree
use Rattle.par_tree.specs.Tree.{Name, Body, Stmt, let_stmt, assign_stmt, put_stmt, alloc_stmt, free_stmt, if_stmt, while_stmt, call_stmt, print_stmt, par_stmt, split_stmt}
use Rattle.par_ownership.specs.Environment.{Environment, Entry, integer_entry, block_entry, lent_entry, with_entry}
use Rattle.block_check.specs.Forks.{Fork, declared_by, split_names, forks_in_body}
use Rattle.block_check.specs.Sought.{Seeks, fork_shown}
use Rattle.block_check.specs.Shown.{entry_shown, entries_shown, env_shown}
use Rattle.block_check.specs.declared.entry.Entry.{Entry as RustEntry}
use Rattle.block_check.specs.declared.fork.Fork.{Fork as RustFork}
use Rattle.block_check.specs.declared.sought.Sought.{Sought}
use Rattle.block_check.specs.declared.sought.Sought.TheVariants.{Found, Passed}
use Rattle.block_check.specs.declared.refusal.Fail.{Fail}
use Rattle.std.proofs.Math.Seq.{take-length}
use Rattle.par_tree.specs.View.{body_tree}
use Rattle.par_tree.specs.declared.stmt.Stmt.{Stmt as RustStmt}
use Rattle.std.specs.declared.vec.Vec.{Vec}
use Rattle.std.specs.declared.alloc.Global.{Global}

-- what a loop over a list keeps: the sought `par` is among those that are left, and the names that were
-- visible at first are still there
pub record Left (visible : ℕ) (first now : Environment) (all rest : List Fork) (wanted number : ℕ) : Type 0 where
  pub same : slice_get all wanted ≡ slice_get rest number
  pub counted : length all + number ≡ wanted + length rest
  pub names : take visible now ≡ first
  pub long : visible ≤ length now

pub get_left : {A : Type 0} (xs ys : List A) (n : ℕ) (k : A) → slice_get xs n ≡ Some k → slice_get (xs ++ ys) n ≡ Some k
get_left [] ys n k e = let never : ⊥ = cc in absurd never
get_left (x ∷ xs) ys zero k e = e
get_left (x ∷ xs) ys (suc n) k e = get_left xs ys n k e

pub get_right : {A : Type 0} (xs ys : List A) (n m : ℕ) → n ≡ length xs + m → slice_get (xs ++ ys) n ≡ slice_get ys m
get_right [] ys n m e = let same : n ≡ m = omega arith in ap (slice_get ys) same
get_right (x ∷ xs) ys zero m e = let never : ⊥ = omega arith in absurd never
get_right (x ∷ xs) ys (suc n) m e = let less : n ≡ length xs + m = omega arith in get_right xs ys n m less

pub seeks_after : (xs ys : List Fork) (n m : ℕ) (env : Environment) (r : Result Sought Fail) → n ≡ length xs + m → Seeks ys m env r → Seeks (xs ++ ys) n env r
seeks_after xs ys n m env (Ok (Found k)) e h = get_right xs ys n m e ∙ h
seeks_after xs ys n m env (Ok (Passed q names)) e h =
    let left : m ≡ length ys + q = h.0 in
    (omega (arith, length-append xs ys), h.1)
seeks_after xs ys n m env (Err f) e h = tt

pub seeks_next : (k : Fork) (zs : List Fork) (n : ℕ) (env : Environment) (r : Result Sought Fail) → 0 < n → Seeks zs (n - 1) env r → Seeks (k ∷ zs) n env r
seeks_next k zs n env (Ok (Found f)) lt h =
    let step : n ≡ suc (n - 1) = omega arith in
    ap (slice_get (k ∷ zs)) step ∙ h
seeks_next k zs n env (Ok (Passed q names)) lt h =
    let left : n - 1 ≡ length zs + q = h.0 in
    (omega arith, h.1)
seeks_next k zs n env (Err f) lt h = tt

-- a part of a list of statements that holds the sought one
pub seeks_first : (xs ys : List Fork) (n : ℕ) (env : Environment) (k : RustFork) (s : Sought) → s ≡ Found k → Seeks xs n env (Ok s) → slice_get (xs ++ ys) n ≡ Some (fork_shown k)
seeks_first xs ys n env k s e h = get_left xs ys n (fork_shown k) (subst (λ (v : Sought). Seeks xs n env (Ok v)) e h)

-- a part that was passed, before the one that is searched next
pub seeks_second : (xs : List Fork) (more : Environment → List Fork) (n m : ℕ) (env : Environment) (names : Vec RustEntry Global) (s : Sought) (r : Result Sought Fail) → s ≡ Passed m names → Seeks xs n env (Ok s) → Seeks (more (env_shown names)) m (env_shown names) r → Seeks (xs ++ more env) n env r
seeks_second xs more n m env names s r e h k =
    let passed : (n ≡ length xs + m) × (env_shown names ≡ env) = subst (λ (v : Sought). Seeks xs n env (Ok v)) e h in
    seeks_after xs (more env) n m env r passed.0 (subst (λ (v : Environment). Seeks (more v) m v r) passed.1 k)

-- what stands at an index, before what follows
pub drop_item : {A : Type 0} (xs : List A) (i : ℕ) (x : A) → i < length xs → x ≡ get_or xs i x → drop i xs ≡ x ∷ drop (i + 1) xs
drop_item xs i x h e = rw add-one (drop-cons xs i x h ∙ ap (λ y. y ∷ drop (suc i) xs) (sym e))

pub pushed : (visible : ℕ) (env : Environment) (e : Entry) → visible ≤ length env → (take visible (env ++ e ∷ []) ≡ take visible env) × (visible ≤ length (env ++ e ∷ []))
pushed visible env e h = (rw take-append-le, omega (arith, length-append env (e ∷ [])))

-- a statement declares behind the names that are visible
pub declared_keeps : (visible : ℕ) (env : Environment) (line : ℕ) (s : Stmt) → visible ≤ length env → (take visible (declared_by env line s) ≡ take visible env) × (visible ≤ length (declared_by env line s))
declared_keeps visible env line (let_stmt x e) h = pushed visible env (integer_entry x line) h
declared_keeps visible env line (assign_stmt x e) h = (refl, h)
declared_keeps visible env line (put_stmt b i e) h = (refl, h)
declared_keeps visible env line (alloc_stmt b e) h = pushed visible env (block_entry b line) h
declared_keeps visible env line (free_stmt b) h = (refl, h)
declared_keeps visible env line (if_stmt c a b) h = (refl, h)
declared_keeps visible env line (while_stmt c a) h = (refl, h)
declared_keeps visible env line (call_stmt Tree.unused f args) h = (refl, h)
declared_keeps visible env line (call_stmt (Tree.integer x) f args) h = (refl, h)
declared_keeps visible env line (call_stmt (Tree.block b) f args) h = pushed visible env (block_entry b line) h
declared_keeps visible env line (print_stmt e) h = (refl, h)
declared_keeps visible env line (par_stmt a b) h = (refl, h)
declared_keeps visible env line (split_stmt b e l r a) h = (refl, h)

-- the names that were visible at first are what is left of those at the end
truncated : (visible : ℕ) (env now : Environment) (names out : Vec RustEntry Global) → out.items ≡ take visible names.items → env_shown names ≡ now → take visible now ≡ env → env_shown out ≡ env
truncated visible env now names out e f g =
    ap entries_shown e ∙ sym (take-map entry_shown visible names.items) ∙ ap (λ (v : Environment). take visible v) f ∙ g

pub passed_parts : (b : Body) (whole : List Fork) (line : ℕ) (l r : Name) (n m visible : ℕ) (env inner : Environment) (names out : Vec RustEntry Global) (s : Sought) → whole ≡ forks_in_body (split_names env line l r) b → split_names env line l r ≡ inner → visible ≡ length env → s ≡ Passed m names → Seeks (forks_in_body inner b) n inner (Ok s) → out.items ≡ take visible names.items → (n ≡ length whole + m) × (env_shown out ≡ env)
passed_parts b whole line l r n m visible env inner names out s w parts v e h t =
    let passed : (n ≡ length (forks_in_body inner b) + m) × (env_shown names ≡ inner) = subst (λ (v : Sought). Seeks (forks_in_body inner b) n inner (Ok v)) e h in
    let same : whole ≡ forks_in_body inner b = w ∙ ap (λ (v : Environment). forks_in_body v b) parts in
    let kept : take visible inner ≡ env =
    subst (λ (v : Environment). take visible v ≡ env) parts
    ((pushed visible (with_entry env (lent_entry l line)) (lent_entry r line) (pushed visible env (lent_entry l line) (omega (arith, v))).1).0 ∙ (pushed visible env (lent_entry l line) (omega (arith, v))).0 ∙ rw v (take-length env)) in
    (passed.0 ∙ ap (λ (fs : List Fork). length fs + m) (sym same), truncated visible env inner names out t passed.1 kept)

pub begins_left : (visible : ℕ) (first : Environment) (all : List Fork) (n : ℕ) → visible ≡ length first → Left visible first first all all n n
begins_left visible first all n v = record { same = refl; counted = omega arith; names = rw v (take-length first); long = omega arith }

pub goes_left : (visible : ℕ) (first now new : Environment) (all rest xs ys later : List Fork) (wanted number left : ℕ) (line : ℕ) (s : Stmt) (passed : Vec RustEntry Global) (o : Sought) → Left visible first now all rest wanted number → rest ≡ xs ++ ys → o ≡ Passed left passed → Seeks xs number now (Ok o) → declared_by (env_shown passed) line s ≡ new → (declared_by now line s ≡ new → ys ≡ later) → Left visible first new all later wanted left
goes_left visible first now new all rest xs ys later wanted number left line s passed o inv parted e h d tail =
    let told : (number ≡ length xs + left) × (env_shown passed ≡ now) = subst (λ (v : Sought). Seeks xs number now (Ok v)) e h in
    let declared : declared_by now line s ≡ new = ap (λ (v : Environment). declared_by v line s) (sym told.1) ∙ d in
    let same : ys ≡ later = tail declared in
    let kept = declared_keeps visible now line s inv.long in
    let number_is : number ≡ length xs + left = told.0 in
    let all_is : length all + number ≡ wanted + length rest = inv.counted in
    let rest_is : length rest ≡ length xs + length ys = ap length parted ∙ length-append xs ys in
    let later_is : length ys ≡ length later = ap length same in
    record {
      same = inv.same ∙ ap (λ (fs : List Fork). slice_get fs number) parted ∙ get_right xs ys number left told.0 ∙ ap (λ (fs : List Fork). slice_get fs left) same;
      counted = omega arith;
      names = ap (λ (v : Environment). take visible v) (sym declared) ∙ kept.0 ∙ inv.names;
      long = subst (λ (v : Environment). visible ≤ length v) declared kept.1;
    }

pub ends_left : (visible : ℕ) (first : Environment) (all : List Fork) (wanted number : ℕ) (names out : Vec RustEntry Global) (body : List RustStmt) (i : ℕ) → Left visible first (env_shown names) all (forks_in_body (env_shown names) (body_tree (drop i body))) wanted number → length body ≤ i → out.items ≡ take visible names.items → (wanted ≡ length all + number) × (env_shown out ≡ first)
ends_left visible first all wanted number names out body i inv h t =
    let none : forks_in_body (env_shown names) (body_tree (drop i body)) ≡ [] = ap (λ b. forks_in_body (env_shown names) (body_tree b)) (drop_all i body h) in
    let none_long : length (forks_in_body (env_shown names) (body_tree (drop i body))) ≡ 0 = ap length none in
    let counted : length all + number ≡ wanted + length (forks_in_body (env_shown names) (body_tree (drop i body))) = inv.counted in
    (omega arith, truncated visible first (env_shown names) names out t refl inv.names)
