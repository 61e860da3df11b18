-- What statements do to the names of the environment before them: a name that they do not write keeps what is held,
-- a visible block is not held where it was not before, and a lent block stays held.
use Rattle.std.specs.Prelude.{◌≡◌, ℕ, ◌+◌, ◌≤◌, Bool, true, false, ◌&&◌, ◌||◌, if◌then◌else◌, List, [], ◌∷◌, ◌++◌, take, drop, length, refl}
use Rattle.std.specs.Str.{bytes_eq}
use Rattle.std.specs.List.{list_all, list_any}
use Rattle.std.proofs.Common.{sym, ◌∙◌, ap, arith, subst}
use Rattle.depth_first_run.specs.Passed.Tree.{Name, Program, Expr, Target, unused, integer, block, Arg, value, lend, give, Param, ParamKind, by_value, lent, owned, Stmt, let_stmt, assign_stmt, put_stmt, alloc_stmt, free_stmt, if_stmt, while_stmt, call_stmt, print_stmt, par_stmt, split_stmt, Body, done, step}
use Rattle.depth_first_run.specs.Passed.Environment as environments
use Rattle.depth_first_run.specs.Passed.Environment.{Kind, Entry, Environment, entry_of, integer_entry, block_entry, lent_entry, with_entry, marked, regained, opened, after_gives, after_answer, held_in_both, is_released}
use Rattle.depth_first_run.specs.Passed.Names.{names_in_args, names_in_stmt, names_in_body, names_in_expr, names_in_target}
use Rattle.depth_first_run.specs.Passed.Ownership.{IsFresh, IsHeld, IsOwned, IsTarget, PassesOne, Passes, passes, Owns, OwnsAll}
use Rattle.ownership_laws.specs.Counts.{one_if, hit, found, held_entry, block_entry_of, lent_entry_of, seen_entry, held_in, block_in, lent_in, seen_in}
use Rattle.ownership_laws.proofs.Counting.{by_names, hit_other, fresh_unseen, held_block, owned_block, found_front, seen_or_not, unseen_none, found_with, found_marked, found_own, held_without_less}
use Rattle.ownership_laws.proofs.Environments.{Follows, Like, like_follows, like_same, follows_same, follows_trans, follows_with, like_marked, like_trans, follows_take, seen_follows, seen_like, lent_like, block_like, lent_seen, lent_follows, held_at_most_one, held_take, like_both, held_both, like_opened, held_parts}

pub record Tame (named : Bool) (env after : Environment) (x : Name) : Type 0 where
  pub follows : Follows env after
  pub kept : named ≡ false → held_in after x ≡ held_in env x
  pub falls : seen_in env x ≡ 1 → held_in after x ≤ held_in env x
  pub lents : lent_in env x ≡ 1 → held_in after x ≡ held_in env x

pub or_split : (a b : Bool) → (a || b) ≡ false → (a ≡ false) × (b ≡ false)
or_split true b e = let never : ⊥ = cc in absurd never
or_split false b e = (refl, e)

tame_same : (n : Bool) (env : Environment) (x : Name) → Tame n env env x
tame_same n env x = record { follows = follows_same env; kept = λ e. refl; falls = λ s. omega arith; lents = λ l. refl }

tame_as : (m n : Bool) (env after : Environment) (x : Name) → (m ≡ false → n ≡ false) → Tame n env after x → Tame m env after x
tame_as m n env after x w t = record { follows = t.follows; kept = λ e. t.kept (w e); falls = t.falls; lents = t.lents }

tame_to : (n : Bool) (env mid after : Environment) (x : Name) → after ≡ mid → Tame n env mid x → Tame n env after x
tame_to n env mid after x e t = subst (λ (v : Environment). Tame n env v x) (sym e) t

tame_trans : (n : Bool) (env mid after : Environment) (x : Name) → Tame n env mid x → Tame n mid after x → Tame n env after x
tame_trans n env mid after x p q = record {
  follows = follows_trans env mid after p.follows q.follows;
  kept = λ e. q.kept e ∙ p.kept e;
  falls = λ s. let a = p.falls s in let b = q.falls (seen_follows env mid x p.follows s) in omega (arith, a, b);
  lents = λ l. q.lents (lent_follows env mid x p.follows l) ∙ p.lents l;
}

nothing_or_nothing : (t : Bool) → ◌≡◌ {A = ℕ} (if t then 0 else 0) 0
nothing_or_nothing true = refl
nothing_or_nothing false = refl

one_or_nothing : (t : Bool) → ◌≡◌ {A = ℕ} (if t then 1 else 0) (one_if t)
one_or_nothing true = refl
one_or_nothing false = refl

-- a declared integer is no block; a declared block is held
pub held_with_integer : (env : Environment) (y : Name) (line : ℕ) (x : Name) → seen_in env y ≡ 0 → held_in (with_entry env (integer_entry y line)) x ≡ held_in env x
held_with_integer env y line x s = let a = found_with held_entry env (integer_entry y line) x s in let z = nothing_or_nothing (bytes_eq y x) in omega (arith, a, z)

pub held_with_block : (env : Environment) (b : Name) (line : ℕ) (x : Name) → seen_in env b ≡ 0 → held_in (with_entry env (block_entry b line)) x ≡ held_in env x + hit b x
unfolding hit
held_with_block env b line x s = let a = found_with held_entry env (block_entry b line) x s in let z = one_or_nothing (bytes_eq b x) in omega (arith, a, z)

pub held_with_lent : (env : Environment) (b : Name) (line : ℕ) (x : Name) → seen_in env b ≡ 0 → held_in (with_entry env (lent_entry b line)) x ≡ held_in env x + hit b x
unfolding hit
held_with_lent env b line x s = let a = found_with held_entry env (lent_entry b line) x s in let z = one_or_nothing (bytes_eq b x) in omega (arith, a, z)

pub lent_with_lent : (env : Environment) (b : Name) (line : ℕ) (x : Name) → seen_in env b ≡ 0 → lent_in (with_entry env (lent_entry b line)) x ≡ lent_in env x + hit b x
unfolding hit
lent_with_lent env b line x s = let a = found_with lent_entry_of env (lent_entry b line) x s in let z = one_or_nothing (bytes_eq b x) in omega (arith, a, z)

pub lent_with_block : (env : Environment) (b : Name) (line : ℕ) (x : Name) → seen_in env b ≡ 0 → lent_in (with_entry env (block_entry b line)) x ≡ lent_in env x
lent_with_block env b line x s = let a = found_with lent_entry_of env (block_entry b line) x s in let z = nothing_or_nothing (bytes_eq b x) in omega (arith, a, z)

pub lent_with_integer : (env : Environment) (b : Name) (line : ℕ) (x : Name) → seen_in env b ≡ 0 → lent_in (with_entry env (integer_entry b line)) x ≡ lent_in env x
lent_with_integer env b line x s = let a = found_with lent_entry_of env (integer_entry b line) x s in let z = nothing_or_nothing (bytes_eq b x) in omega (arith, a, z)

-- two fresh names for the parts of a block are two names
pub fresh_pair : (env : Environment) (l r : Name) (line : ℕ) → IsFresh env l → IsFresh (with_entry env (lent_entry l line)) r
    → (seen_in env l ≡ 0) × (seen_in env r ≡ 0) × (bytes_eq l r ≡ false)
fresh_pair env l r line p q =
    let sl = fresh_unseen env l p in let sr = fresh_unseen (with_entry env (lent_entry l line)) r q in
    let a = found_with seen_entry env (lent_entry l line) r sl in
    (sl, omega (arith, sr, a), by (bytes_eq l r) (omega (arith, sr, a)))
  where
    by : (t : Bool) → ◌≡◌ {A = ℕ} (if t then 1 else 0) 0 → t ≡ false
    by true e = absurd (omega (arith, e))
    by false e = refl

tame_integer : (n : Bool) (env : Environment) (y : Name) (line : ℕ) (x : Name) → seen_in env y ≡ 0 → Tame n env (with_entry env (integer_entry y line)) x
tame_integer n env y line x s =
    let same = held_with_integer env y line x s in
    record { follows = follows_with env (integer_entry y line) refl; kept = λ e. same; falls = λ v. omega (arith, same); lents = λ l. same }

tame_block : (n : Bool) (env : Environment) (b : Name) (line : ℕ) (x : Name) → seen_in env b ≡ 0 → (n ≡ false → bytes_eq b x ≡ false) → Tame n env (with_entry env (block_entry b line)) x
tame_block n env b line x s d =
    let front : seen_in env x ≡ 1 → held_in (with_entry env (block_entry b line)) x ≡ held_in env x = λ v. found_front held_entry 0 env (block_entry b line ∷ []) x v in
    record {
      follows = follows_with env (block_entry b line) refl;
      kept = λ e. let a = held_with_block env b line x s in let z = hit_other b x (d e) in omega (arith, a, z);
      falls = λ v. let a = front v in omega (arith, a);
      lents = λ l. front (lent_seen env x l);
    }

tame_without : (n : Bool) (env : Environment) (b x : Name) → lent_in env b ≡ 0 → (n ≡ false → bytes_eq b x ≡ false) → Tame n env (environments.without env b) x
tame_without n env b x z d = record {
  follows = like_follows env (environments.without env b) (like_marked env b false);
  kept = λ e. found_marked held_entry 0 false env b x (d e);
  falls = λ s. held_without_less env b x;
  lents = by_names (λ (b : Name) (x : Name). lent_in env b ≡ 0 → lent_in env x ≡ 1 → held_in (environments.without env b) x ≡ held_in env x) b x
      (λ x p q. absurd (omega (arith, p, q))) (λ e p q. found_marked held_entry 0 false env b x e) z;
}

-- the blocks that a call gives away
pub passes_give : (env : Environment) (before : List Arg) (k : ParamKind) (b : Name) → PassesOne env before k (give b) → (k ≡ owned) × IsOwned env b × (list_any (passes b) before ≡ false)
passes_give env before by_value b h = absurd h
passes_give env before lent b h = absurd h
passes_give env before owned b h = (refl, h.0, h.1)

pub passes_lend : (env : Environment) (before : List Arg) (k : ParamKind) (b : Name) → PassesOne env before k (lend b) → (k ≡ lent) × IsHeld env b × (list_any (passes b) before ≡ false)
passes_lend env before by_value b h = absurd h
passes_lend env before lent b h = (refl, h.0, h.1)
passes_lend env before owned b h = absurd h

pub passes_number : (env : Environment) (before : List Arg) (k : ParamKind) (e : Expr) → PassesOne env before k (value e) → k ≡ by_value
passes_number env before by_value e h = refl
passes_number env before lent e h = absurd h
passes_number env before owned e h = absurd h

tame_gives : (n : Bool) (over env : Environment) (before : List Arg) (qs : List Param) (args : List Arg) (x : Name) → Passes over before qs args
    → ((b : Name) → lent_in env b ≡ lent_in over b) → (n ≡ false → names_in_args x args ≡ false) → Tame n env (after_gives env args) x
tame_gives n over env before [] [] x h same d = tame_same n env x
tame_gives n over env before [] (a ∷ rest) x h same d = absurd h
tame_gives n over env before (q ∷ qs) [] x h same d = absurd h
tame_gives n over env before (q ∷ qs) (value e ∷ rest) x h same d =
    tame_gives n over env (before ++ value e ∷ []) qs rest x h.1 same (λ f. (or_split (names_in_expr x e) (names_in_args x rest) (d f)).1)
tame_gives n over env before (q ∷ qs) (lend b ∷ rest) x h same d =
    tame_gives n over env (before ++ lend b ∷ []) qs rest x h.1 same (λ f. (or_split (bytes_eq b x) (names_in_args x rest) (d f)).1)
tame_gives n over env before (q ∷ qs) (give b ∷ rest) x h same d =
    let o = passes_give over before q.kind b h.0 in
    let z : lent_in env b ≡ 0 = same b ∙ (owned_block over b o.1).1 in
    let next : Environment = environments.without env b in
    tame_trans n env next (after_gives next rest) x (tame_without n env b x z (λ f. (or_split (bytes_eq b x) (names_in_args x rest) (d f)).0))
    (tame_gives n over next (before ++ give b ∷ []) qs rest x h.1 (λ c. lent_like env next c (like_marked env b false) ∙ same c) (λ f. (or_split (bytes_eq b x) (names_in_args x rest) (d f)).1))

pub like_gives : (env : Environment) (args : List Arg) → Like env (after_gives env args)
like_gives env [] = like_same env
like_gives env (value e ∷ rest) = like_gives env rest
like_gives env (lend b ∷ rest) = like_gives env rest
like_gives env (give b ∷ rest) =
    let next : Environment = environments.without env b in like_trans env next (after_gives next rest) (like_marked env b false) (like_gives next rest)

tame_call : (n : Bool) (env : Environment) (qs : List Param) (args : List Arg) (t : Target) (line : ℕ) (x : Name) → IsTarget env t → Passes env [] qs args
    → (n ≡ false → (names_in_target x t || names_in_args x args) ≡ false) → Tame n env (after_answer (after_gives env args) t line) x
tame_call n env qs args unused line x it h d = tame_gives n env env [] qs args x h (λ b. refl) d
tame_call n env qs args (integer y) line x it h d = tame_gives n env env [] qs args x h (λ b. refl) (λ f. (or_split (bytes_eq y x) (names_in_args x args) (d f)).1)
tame_call n env qs args (block b) line x it h d =
    let mid : Environment = after_gives env args in
    tame_trans n env mid (with_entry mid (block_entry b line)) x
    (tame_gives n env env [] qs args x h (λ b. refl) (λ f. (or_split (bytes_eq b x) (names_in_args x args) (d f)).1))
    (tame_block n mid b line x (seen_like env mid b (like_gives env args) ∙ fresh_unseen env b it) (λ f. (or_split (bytes_eq b x) (names_in_args x args) (d f)).0))

-- seen from outside of its list
tame_taken : (n : Bool) (env end : Environment) (x : Name) → list_all is_released (drop (length env) end) ≡ true → Tame n env end x → Tame n env (take (length env) end) x
tame_taken n env end x r t =
    let h = held_take env end x t.follows r in
    record {
      follows = like_follows env (take (length env) end) (follows_take env end t.follows);
      kept = λ e. sym h ∙ t.kept e;
      falls = λ s. let a = t.falls s in omega (arith, a, h);
      lents = λ l. sym h ∙ t.lents l;
    }

tame_both : (m n : Bool) (env left right : Environment) (x : Name) → Like env left → Like env right → Tame m env left x → Tame n env right x → Tame (m || n) env (held_in_both left right) x
tame_both m n env left right x p q a b =
    let w = held_both env left right x p q in let one = held_at_most_one env x in
    let w0 = w.0 in let w1 = w.1 in let w2 = w.2 in
    record {
      follows = like_follows env (held_in_both left right) (like_both env left right p q);
      kept = λ e. let two = or_split m n e in let l = a.kept two.0 in let r = b.kept two.1 in omega (arith, w0, w2, one, l, r);
      falls = λ s. let l = a.falls s in omega (arith, w0, l);
      lents = λ t. let l = a.lents t in let r = b.lents t in omega (arith, w0, w2, one, l, r);
    }

-- a visible name inside a `split` of another block
opened_other : {A : Type 0} (f : Entry → A) (none : A) (env : Environment) (b l r : Name) (line : ℕ) (x : Name) → seen_in env x ≡ 1 → bytes_eq b x ≡ false → found f none (opened env b l r line) x ≡ found f none env x
opened_other f none env b l r line x s d =
    let one : Environment = with_entry env (lent_entry l line) in
    let two : Environment = with_entry one (lent_entry r line) in
    found_marked f none false two b x d
    ∙ found_front f none one (lent_entry r line ∷ []) x (found_front seen_entry 0 env (lent_entry l line ∷ []) x s ∙ s)
    ∙ found_front f none env (lent_entry l line ∷ []) x s

tame_split : (n : Bool) (env end : Environment) (b l r : Name) (line : ℕ) (x : Name) → IsHeld env b
    → Tame n (opened env b l r line) end x → Tame ((bytes_eq b x || bytes_eq l x || bytes_eq r x) || n) env (regained (take (length env) end) b) x
tame_split n env end b l r line x held t =
    let inner : Environment = opened env b l r line in
    let front : Environment = take (length env) end in
    let like : Like env front = like_opened env end b l r line t.follows in
    let hb = held_block env b held in
    let hb0 = hb.0 in
    -- another visible name
    let seen_front : seen_in env x ≡ 1 → bytes_eq b x ≡ false → held_in (regained front b) x ≡ held_in end x =
    λ s d. found_marked held_entry 0 true front b x d ∙ sym (held_parts (length env) end x (seen_like env front x like ∙ s)) in
    record {
      follows = like_follows env (regained front b) (like_trans env front (regained front b) like (like_marked front b true));
      kept = λ e.
          let o = or_split (bytes_eq b x || bytes_eq l x || bytes_eq r x) n e in
          let d : bytes_eq b x ≡ false = (or_split (bytes_eq b x) (bytes_eq l x) (or_split (bytes_eq b x || bytes_eq l x) (bytes_eq r x) o.0).0).0 in
          seen_or_not env x (held_in (regained front b) x ≡ held_in env x)
          (λ s. seen_front s d ∙ t.kept o.1 ∙ opened_other held_entry 0 env b l r line x s d)
          (λ s. found_marked held_entry 0 true front b x d ∙ unseen_none held_entry 0 front x (seen_like env front x like ∙ s) ∙ sym (unseen_none held_entry 0 env x s));
      falls = λ s. by_names (λ (b' : Name) (x' : Name). b' ≡ b → x' ≡ x → held_in (regained front b) x ≤ held_in env x) b x
          (λ y p q. let e : b ≡ x = sym p ∙ q in let m = held_at_most_one (regained front b) x in
          let h : held_in env x ≡ 1 = subst (λ (v : Name). held_in env v ≡ 1) e hb0 in omega (arith, m, h))
          (λ d p q. let a = seen_front s d in let c = opened_other held_entry 0 env b l r line x s d in
          let w = t.falls (opened_other seen_entry 0 env b l r line x s d ∙ s) in omega (arith, a, c, w)) refl refl;
      lents = λ k. let s = lent_seen env x k in by_names (λ (b' : Name) (x' : Name). b' ≡ b → x' ≡ x → held_in (regained front b) x ≡ held_in env x) b x
          (λ y p q. let e : b ≡ x = sym p ∙ q in
          let h : held_in env b ≡ 1 = hb0 in
          let o : held_in (regained front b) b ≡ block_in front b = found_own held_entry block_entry_of 0 true (λ e. and_one (environments.is_block e.kind)) front b in
          let k : block_in front b ≡ 1 = block_like env front b like ∙ hb.1 in
          subst (λ (v : Name). held_in (regained front b) v ≡ held_in env v) e (o ∙ k ∙ sym h))
          (λ d p q. seen_front s d ∙ t.lents (opened_other lent_entry_of 0 env b l r line x s d ∙ k) ∙ opened_other held_entry 0 env b l r line x s d) refl refl;
    }
  where
    and_one : (a : Bool) → one_if (a && true) ≡ one_if a
    and_one true = refl
    and_one false = refl

or_first : (a b : Bool) → (a || b) ≡ false → a ≡ false
or_first a b e = (or_split a b e).0

or_second : (a b : Bool) → (a || b) ≡ false → b ≡ false
or_second a b e = (or_split a b e).1

split_names : (b e l r a : Bool) → (b || e || l || r || a) ≡ false → ((b || l || r) || a) ≡ false
split_names true e l r a h = h
split_names false true l r a h = let never : ⊥ = cc in absurd never
split_names false false true r a h = h
split_names false false false true a h = h
split_names false false false false a h = h

mutual
  pub tame_stmt : (p : Program) (line : ℕ) (stmt : Stmt) (env after : Environment) (x : Name) → Owns p line stmt env after → Tame (names_in_stmt x stmt) env after x
  tame_stmt p line (let_stmt y e) env after x h = tame_to _ env (with_entry env (integer_entry y line)) after x h.2 (tame_integer _ env y line x (fresh_unseen env y h.0))
  tame_stmt p line (assign_stmt y e) env after x h = tame_to _ env env after x h.2 (tame_same _ env x)
  tame_stmt p line (put_stmt b i e) env after x h = tame_to _ env env after x h.3 (tame_same _ env x)
  tame_stmt p line (alloc_stmt b e) env after x h =
      tame_to _ env (with_entry env (block_entry b line)) after x h.2 (tame_block _ env b line x (fresh_unseen env b h.0) (or_first (bytes_eq b x) (names_in_expr x e)))
  tame_stmt p line (free_stmt b) env after x h =
      tame_to _ env (environments.without env b) after x h.1 (tame_without _ env b x (owned_block env b h.0).1 (λ e. e))
  tame_stmt p line (if_stmt c a b) env after x h =
      let end : Environment = h.1.0 in
      tame_to _ env (take (length env) end) after x h.1.3
      (tame_as (names_in_stmt x (if_stmt c a b)) (names_in_body x a) env (take (length env) end) x
      (λ e. or_first (names_in_body x a) (names_in_body x b) (or_second (names_in_expr x c) (names_in_body x a || names_in_body x b) e))
      (tame_taken (names_in_body x a) env end x h.1.2 (tame_all p a env end x h.1.1)))
  tame_stmt p line (while_stmt c a) env after x h = tame_to _ env env after x h.2 (tame_same _ env x)
  tame_stmt p line (call_stmt t f args) env after x h =
      tame_to _ env (after_answer (after_gives env args) t line) after x h.2 (tame_call _ env h.1.0.params args t line x h.0 h.1.3 (λ e. e))
  tame_stmt p line (print_stmt e) env after x h = tame_to _ env env after x h.1 (tame_same _ env x)
  tame_stmt p line (par_stmt a b) env after x h =
      let l : Environment = h.1.1.0 in let r : Environment = h.1.2.1.0 in
      let tl : Tame (names_in_body x a) env l x = tame_all p a env l x h.1.1.1 in
      let tr : Tame (names_in_body x b) env r x = tame_all p b env r x h.1.2.1.1 in
      let left : Environment = take (length env) l in let right : Environment = take (length env) r in
      tame_to _ env (held_in_both left right) after x
      (h.1.2.2 ∙ ap (λ (v : Environment). held_in_both v h.1.2.0) h.1.1.3 ∙ ap (λ (v : Environment). held_in_both left v) h.1.2.1.3)
      (tame_both (names_in_body x a) (names_in_body x b) env left right x (follows_take env l tl.follows) (follows_take env r tr.follows)
      (tame_taken (names_in_body x a) env l x h.1.1.2 tl) (tame_taken (names_in_body x b) env r x h.1.2.1.2 tr))
  tame_stmt p line (split_stmt b e l r a) env after x h =
      let end : Environment = h.4.1.0 in
      let inner : Environment = opened env b l r line in
      tame_to _ env (regained (take (length env) end) b) after x (h.4.2 ∙ ap (λ (v : Environment). regained v b) h.4.1.3)
      (tame_as (names_in_stmt x (split_stmt b e l r a)) ((bytes_eq b x || bytes_eq l x || bytes_eq r x) || names_in_body x a) env (regained (take (length env) end) b) x
      (split_names (bytes_eq b x) (names_in_expr x e) (bytes_eq l x) (bytes_eq r x) (names_in_body x a))
      (tame_split (names_in_body x a) env end b l r line x h.0 (tame_all p a inner end x h.4.1.1)))

  pub tame_all : (p : Program) (b : Body) (env after : Environment) (x : Name) → OwnsAll p b env after → Tame (names_in_body x b) env after x
  tame_all p done env after x h = tame_to _ env env after x h (tame_same _ env x)
  tame_all p (step line stmt rest) env after x h =
      let n : Bool = names_in_stmt x stmt in let m : Bool = names_in_body x rest in
      tame_trans (n || m) env h.0 after x
      (tame_as (n || m) n env h.0 x (or_first n m) (tame_stmt p line stmt env h.0 x h.1))
      (tame_as (n || m) m h.0 after x (or_second n m) (tame_all p rest h.0 after x h.2))

pub follows_all : (p : Program) (b : Body) (env after : Environment) → OwnsAll p b env after → Follows env after
follows_all p b env after h = (tame_all p b env after [] h).follows
