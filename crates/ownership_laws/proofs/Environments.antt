-- How the environment behind a list of statements stands to the one before it: the entries before stay, but for
-- what is held, and no lent block comes behind them.
use Rattle.std.specs.Prelude.{◌≡◌, ℕ, zero, suc, ◌+◌, ◌≤◌, Bool, true, false, not, ◌&&◌, if◌then◌else◌, map, [], ◌∷◌, ◌++◌, take, drop, length, refl}
use Rattle.std.specs.Str.{bytes_eq}
use Rattle.std.specs.List.{list_all}
use Rattle.std.proofs.Common.{sym, ◌∙◌, ap, arith, subst, append_assoc}
use Rattle.depth_first_run.specs.Passed.Tree.{Name}
use Rattle.depth_first_run.specs.Passed.Environment as environments
use Rattle.depth_first_run.specs.Passed.Environment.{Kind, Entry, Environment, with_entry, marked, is_block, is_own, is_released, held_in_both, held_also, lent_entry, opened}
use Rattle.depth_first_run.specs.Passed.Ownership.{HoldTheSame}
use Rattle.ownership_laws.specs.Counts.{one_if, hit, found, held_entry, block_entry_of, is_lent, lent_entry_of, held_in, block_in, lent_in, seen_in}
use Rattle.ownership_laws.proofs.Counting.{by_names, same_name, hit_same, hit_other, found_front, found_behind, seen_or_not, unseen_none}

-- no entry is a lent block
pub NoLents : Environment → Type 0
NoLents [] = Unit {0}
NoLents (e ∷ es) = (is_lent e.kind ≡ false) × NoLents es

-- the entries of the first stand in front of the second with their names and kinds, and nothing lent stands behind them
pub Follows : Environment → Environment → Type 0
Follows [] after = NoLents after
Follows (e ∷ es) [] = ⊥
Follows (e ∷ es) (f ∷ fs) = (f.name ≡ e.name) × (f.kind ≡ e.kind) × Follows es fs

-- the same names and kinds
pub Like : Environment → Environment → Type 0
Like [] [] = Unit {0}
Like [] (f ∷ fs) = ⊥
Like (e ∷ es) [] = ⊥
Like (e ∷ es) (f ∷ fs) = (f.name ≡ e.name) × (f.kind ≡ e.kind) × Like es fs

pub like_follows : (env after : Environment) → Like env after → Follows env after
unfolding Like Follows NoLents
like_follows [] [] l = tt
like_follows [] (f ∷ fs) l = absurd l
like_follows (e ∷ es) [] l = absurd l
like_follows (e ∷ es) (f ∷ fs) l = (l.0, l.1, like_follows es fs l.2)

pub like_same : (env : Environment) → Like env env
unfolding Like
like_same [] = tt
like_same (e ∷ es) = (refl, refl, like_same es)

pub follows_same : (env : Environment) → Follows env env
follows_same env = like_follows env env (like_same env)

follows_none : (mid after : Environment) → NoLents mid → Follows mid after → NoLents after
unfolding Follows NoLents
follows_none [] after n f = f
follows_none (e ∷ es) [] n f = absurd f
follows_none (e ∷ es) (g ∷ gs) n f = (ap is_lent f.1 ∙ n.0, follows_none es gs n.1 f.2)

pub follows_trans : (a b c : Environment) → Follows a b → Follows b c → Follows a c
unfolding Follows
follows_trans [] b c p q = follows_none b c p q
follows_trans (x ∷ xs) [] c p q = absurd p
follows_trans (x ∷ xs) (y ∷ ys) [] p q = absurd q
follows_trans (x ∷ xs) (y ∷ ys) (z ∷ zs) p q = (q.0 ∙ p.0, q.1 ∙ p.1, follows_trans xs ys zs p.2 q.2)

pub follows_with : (env : Environment) (e : Entry) → is_lent e.kind ≡ false → Follows env (with_entry env e)
unfolding Follows NoLents
follows_with [] e n = (n, tt)
follows_with (x ∷ xs) e n = (refl, refl, follows_with xs e n)

pub like_marked : (env : Environment) (b : Name) (held : Bool) → Like env (map (marked b held) env)
unfolding Like
like_marked [] b held = tt
like_marked (e ∷ es) b held = by (like_marked es b held) (bytes_eq e.name b)
  where
    by : Like es (map (marked b held) es) → (t : Bool) → Like (e ∷ es) ((if t then record e { held = held } else e) ∷ map (marked b held) es)
    by r true = (refl, refl, r)
    by r false = (refl, refl, r)

pub like_trans : (a b c : Environment) → Like a b → Like b c → Like a c
unfolding Like
like_trans [] [] c p q = q
like_trans [] (y ∷ ys) c p q = absurd p
like_trans (x ∷ xs) [] c p q = absurd p
like_trans (x ∷ xs) (y ∷ ys) [] p q = absurd q
like_trans (x ∷ xs) (y ∷ ys) (z ∷ zs) p q = (q.0 ∙ p.0, q.1 ∙ p.1, like_trans xs ys zs p.2 q.2)

pub like_back : (env a b : Environment) → Like env a → Like env b → Like a b
unfolding Like
like_back [] [] [] p q = tt
like_back [] [] (y ∷ ys) p q = absurd q
like_back [] (x ∷ xs) b p q = absurd p
like_back (e ∷ es) [] b p q = absurd p
like_back (e ∷ es) (x ∷ xs) [] p q = absurd q
like_back (e ∷ es) (x ∷ xs) (y ∷ ys) p q = (q.0 ∙ sym p.0, q.1 ∙ sym p.1, like_back es xs ys p.2 q.2)

pub follows_take : (env end : Environment) → Follows env end → Like env (take (length env) end)
unfolding Follows Like
follows_take [] end f = tt
follows_take (e ∷ es) [] f = absurd f
follows_take (e ∷ es) (g ∷ gs) f = (f.0, f.1, follows_take es gs f.2)

-- what is said by name and kind alone stays
pub found_follows : {A : Type 0} (f : Kind → A) (none : A) (env after : Environment) (x : Name) → Follows env after → seen_in env x ≡ 1
    → found (λ e. f e.kind) none after x ≡ found (λ e. f e.kind) none env x
unfolding found Follows
found_follows f none [] after x l s = absurd (omega (arith, s))
found_follows f none (e ∷ es) [] x l s = absurd l
found_follows f none (e ∷ es) (g ∷ gs) x l s =
    ap (λ (n : Name). if bytes_eq n x then f g.kind else found (λ e. f e.kind) none gs x) l.0
    ∙ ap (λ k. if bytes_eq e.name x then f k else found (λ e. f e.kind) none gs x) l.1
    ∙ by (found_follows f none es gs x l.2) (bytes_eq e.name x) s
  where
    by : (seen_in es x ≡ 1 → found (λ e. f e.kind) none gs x ≡ found (λ e. f e.kind) none es x) → (t : Bool) → (if t then 1 else seen_in es x) ≡ 1
        → (if t then f e.kind else found (λ e. f e.kind) none gs x) ≡ (if t then f e.kind else found (λ e. f e.kind) none es x)
    by r true s = refl
    by r false s = r s

pub found_like : {A : Type 0} (f : Kind → A) (none : A) (env after : Environment) (x : Name) → Like env after
    → found (λ e. f e.kind) none after x ≡ found (λ e. f e.kind) none env x
unfolding found Like
found_like f none [] [] x l = refl
found_like f none [] (g ∷ gs) x l = absurd l
found_like f none (e ∷ es) [] x l = absurd l
found_like f none (e ∷ es) (g ∷ gs) x l =
    ap (λ (n : Name). if bytes_eq n x then f g.kind else found (λ e. f e.kind) none gs x) l.0
    ∙ ap (λ k. if bytes_eq e.name x then f k else found (λ e. f e.kind) none gs x) l.1
    ∙ ap (λ v. if bytes_eq e.name x then f e.kind else v) (found_like f none es gs x l.2)

pub seen_follows : (env after : Environment) (x : Name) → Follows env after → seen_in env x ≡ 1 → seen_in after x ≡ 1
seen_follows env after x l s = found_follows (λ (k : Kind). 1) 0 env after x l s ∙ s

pub seen_like : (env after : Environment) (x : Name) → Like env after → seen_in after x ≡ seen_in env x
seen_like env after x l = found_like (λ (k : Kind). 1) 0 env after x l

pub lent_like : (env after : Environment) (x : Name) → Like env after → lent_in after x ≡ lent_in env x
lent_like env after x l = found_like (λ (k : Kind). one_if (is_lent k)) 0 env after x l

pub block_like : (env after : Environment) (x : Name) → Like env after → block_in after x ≡ block_in env x
block_like env after x l = found_like (λ (k : Kind). one_if (is_block k)) 0 env after x l

pub lent_seen : (env : Environment) (x : Name) → lent_in env x ≡ 1 → seen_in env x ≡ 1
lent_seen env x h = seen_or_not env x (seen_in env x ≡ 1) (λ s. s) (λ s. let z = unseen_none lent_entry_of 0 env x s in absurd (omega (arith, z, h)))

pub lent_follows : (env after : Environment) (x : Name) → Follows env after → lent_in env x ≡ 1 → lent_in after x ≡ 1
lent_follows env after x l h = found_follows (λ (k : Kind). one_if (is_lent k)) 0 env after x l (lent_seen env x h) ∙ h

-- at most one block is held under a name
pub held_at_most_one : (env : Environment) (x : Name) → held_in env x ≤ 1
unfolding found
held_at_most_one [] x = omega arith
held_at_most_one (e ∷ es) x = by (held_at_most_one es x) (bytes_eq e.name x)
  where
    one : (t : Bool) → one_if t ≤ 1
    one true = omega arith
    one false = omega arith

    by : held_in es x ≤ 1 → (t : Bool) → (if t then held_entry e else held_in es x) ≤ 1
    by r true = one (is_block e.kind && e.held)
    by r false = r

-- a block that is held is a block
pub held_is_block : (env : Environment) (x : Name) → held_in env x ≤ block_in env x
unfolding found
held_is_block [] x = omega arith
held_is_block (e ∷ es) x = by (held_is_block es x) (bytes_eq e.name x)
  where
    one : (a b : Bool) → one_if (a && b) ≤ one_if a
    one true true = omega arith
    one true false = omega arith
    one false b = omega arith

    by : held_in es x ≤ block_in es x → (t : Bool) → (if t then held_entry e else held_in es x) ≤ (if t then block_entry_of e else block_in es x)
    by r true = one (is_block e.kind) e.held
    by r false = r

-- what is released and not lent is not held
and_split : (a b : Bool) → (a && b) ≡ true → (a ≡ true) × (b ≡ true)
and_split true true e = (refl, refl)
and_split true false e = let never : ⊥ = cc in absurd never
and_split false b e = let never : ⊥ = cc in absurd never

released_entry : (k : Kind) (held : Bool) → not (is_own k && held) ≡ true → one_if (is_block k && held) ≤ one_if (is_lent k)
released_entry environments.integer held r = omega arith
released_entry environments.own true r = let never : ⊥ = cc in absurd never
released_entry environments.own false r = omega arith
released_entry environments.lent true r = omega arith
released_entry environments.lent false r = omega arith

-- behind a list that released all that it owned, only lent blocks are held
pub released_held : (env : Environment) (x : Name) → list_all is_released env ≡ true → held_in env x ≤ lent_in env x
unfolding found
released_held [] x r = omega arith
released_held (e ∷ es) x r =
    let two = and_split (is_released e) (list_all is_released es) r in
    by (released_held es x two.1) (released_entry e.kind e.held two.0) (bytes_eq e.name x)
  where
    by : held_in es x ≤ lent_in es x → held_entry e ≤ lent_entry_of e → (t : Bool) → (if t then held_entry e else held_in es x) ≤ (if t then lent_entry_of e else lent_in es x)
    by r h true = h
    by r h false = r

no_lent_in : (env : Environment) (x : Name) → NoLents env → lent_in env x ≡ 0
unfolding found NoLents
no_lent_in [] x n = refl
no_lent_in (e ∷ es) x n = by (no_lent_in es x n.1) (bytes_eq e.name x)
  where
    by : lent_in es x ≡ 0 → (t : Bool) → (if t then lent_entry_of e else lent_in es x) ≡ 0
    by r true = ap one_if n.0
    by r false = r

-- the lent blocks are those that were lent before
pub lent_back_in : (env after : Environment) (x : Name) → Follows env after → lent_in after x ≡ lent_in env x
unfolding found Follows
lent_back_in [] after x f = no_lent_in after x f
lent_back_in (e ∷ es) [] x f = absurd f
lent_back_in (e ∷ es) (g ∷ gs) x f =
    ap (λ (n : Name). if bytes_eq n x then lent_entry_of g else lent_in gs x) f.0
    ∙ ap (λ k. if bytes_eq e.name x then one_if (is_lent k) else lent_in gs x) f.1
    ∙ ap (λ v. if bytes_eq e.name x then lent_entry_of e else v) (lent_back_in es gs x f.2)

pub lent_most : (env : Environment) (x : Name) → lent_in env x ≤ 1
unfolding found
lent_most [] x = omega arith
lent_most (e ∷ es) x = by (lent_most es x) (bytes_eq e.name x)
  where
    one : (t : Bool) → one_if t ≤ 1
    one true = omega arith
    one false = omega arith

    by : lent_in es x ≤ 1 → (t : Bool) → (if t then lent_entry_of e else lent_in es x) ≤ 1
    by r true = one (is_lent e.kind)
    by r false = r

pub none_released : (env : Environment) (x : Name) → NoLents env → list_all is_released env ≡ true → held_in env x ≡ 0
none_released env x n r = let h = released_held env x r in let z = no_lent_in env x n in omega (arith, h, z)

-- the end of a list of statements: what was declared within it is released
pub held_take : (env end : Environment) (x : Name) → Follows env end → list_all is_released (drop (length env) end) ≡ true
    → held_in end x ≡ held_in (take (length env) end) x
unfolding found Follows
held_take [] end x f r = none_released end x f r
held_take (e ∷ es) [] x f r = absurd f
held_take (e ∷ es) (g ∷ gs) x f r = ap (λ v. if bytes_eq g.name x then held_entry g else v) (held_take es gs x f.2 r)

-- the blocks that two environments both hold
pub like_both : (env left right : Environment) → Like env left → Like env right → Like env (held_in_both left right)
unfolding Like
like_both [] [] right p q = tt
like_both [] (l ∷ ls) right p q = absurd p
like_both (e ∷ es) [] right p q = absurd p
like_both (e ∷ es) (l ∷ ls) [] p q = absurd q
like_both (e ∷ es) (l ∷ ls) (r ∷ rs) p q = (p.0, p.1, like_both es ls rs p.2 q.2)

both_entries : (k m : Kind) (a b : Bool) → k ≡ m → (one_if (is_block k && (a && b)) ≤ one_if (is_block k && a)) × (one_if (is_block k && (a && b)) ≤ one_if (is_block m && b))
    × (one_if (is_block k && a) + one_if (is_block m && b) ≤ one_if (is_block k && (a && b)) + 1)
both_entries k m a b e = subst (λ (m : Kind). (one_if (is_block k && (a && b)) ≤ one_if (is_block k && a)) × (one_if (is_block k && (a && b)) ≤ one_if (is_block m && b))
    × (one_if (is_block k && a) + one_if (is_block m && b) ≤ one_if (is_block k && (a && b)) + 1)) e (all (is_block k) a b)
  where
    all : (t a b : Bool) → (one_if (t && (a && b)) ≤ one_if (t && a)) × (one_if (t && (a && b)) ≤ one_if (t && b)) × (one_if (t && a) + one_if (t && b) ≤ one_if (t && (a && b)) + 1)
    all true true true = (omega arith, omega arith, omega arith)
    all true true false = (omega arith, omega arith, omega arith)
    all true false true = (omega arith, omega arith, omega arith)
    all true false false = (omega arith, omega arith, omega arith)
    all false a b = (omega arith, omega arith, omega arith)

Both : ℕ → ℕ → ℕ → Type 0
Both n l r = (n ≤ l) × (n ≤ r) × (l + r ≤ n + 1)

pub held_both : (env left right : Environment) (x : Name) → Like env left → Like env right
    → (held_in (held_in_both left right) x ≤ held_in left x) × (held_in (held_in_both left right) x ≤ held_in right x)
    × (held_in left x + held_in right x ≤ held_in (held_in_both left right) x + 1)
unfolding found Like
held_both [] [] [] x p q = (omega arith, omega arith, omega arith)
held_both [] [] (r ∷ rs) x p q = absurd q
held_both [] (l ∷ ls) right x p q = absurd p
held_both (e ∷ es) [] right x p q = absurd p
held_both (e ∷ es) (l ∷ ls) [] x p q = absurd q
held_both (e ∷ es) (l ∷ ls) (r ∷ rs) x p q =
    let n : bytes_eq l.name x ≡ bytes_eq r.name x = ap (λ (n : Name). bytes_eq n x) (p.0 ∙ sym q.0) in
    let k : l.kind ≡ r.kind = p.1 ∙ sym q.1 in
    by (held_both es ls rs x p.2 q.2) (both_entries l.kind r.kind l.held r.held k) (bytes_eq l.name x) (bytes_eq r.name x) n
  where
    by : (held_in (held_in_both ls rs) x ≤ held_in ls x) × (held_in (held_in_both ls rs) x ≤ held_in rs x) × (held_in ls x + held_in rs x ≤ held_in (held_in_both ls rs) x + 1)
        → (one_if (is_block l.kind && (l.held && r.held)) ≤ one_if (is_block l.kind && l.held)) × (one_if (is_block l.kind && (l.held && r.held)) ≤ one_if (is_block r.kind && r.held))
        × (one_if (is_block l.kind && l.held) + one_if (is_block r.kind && r.held) ≤ one_if (is_block l.kind && (l.held && r.held)) + 1)
        → (t u : Bool) → t ≡ u
        → ((if t then one_if (is_block l.kind && (l.held && r.held)) else held_in (held_in_both ls rs) x) ≤ (if t then one_if (is_block l.kind && l.held) else held_in ls x))
        × ((if t then one_if (is_block l.kind && (l.held && r.held)) else held_in (held_in_both ls rs) x) ≤ (if u then one_if (is_block r.kind && r.held) else held_in rs x))
        × ((if t then one_if (is_block l.kind && l.held) else held_in ls x) + (if u then one_if (is_block r.kind && r.held) else held_in rs x) ≤ (if t then one_if (is_block l.kind && (l.held && r.held)) else held_in (held_in_both ls rs) x) + 1)
    by h b true true e = b
    by h b false false e = h
    by h b true false e = let never : ⊥ = cc in absurd never
    by h b false true e = let never : ⊥ = cc in absurd never

-- environments of the same names that hold the same
pub held_the_same : (env other : Environment) (x : Name) → Like env other → HoldTheSame env other → held_in other x ≡ held_in env x
unfolding found Like
held_the_same [] [] x l h = refl
held_the_same [] (f ∷ fs) x l h = absurd l
held_the_same (e ∷ es) [] x l h = absurd l
held_the_same (e ∷ es) (f ∷ fs) x l h =
    ap (λ (n : Name). if bytes_eq n x then held_entry f else held_in fs x) l.0
    ∙ ap (λ k. if bytes_eq e.name x then one_if (is_block k && f.held) else held_in fs x) l.1
    ∙ ap (λ t. if bytes_eq e.name x then one_if (is_block e.kind && t) else held_in fs x) (sym h.0)
    ∙ ap (λ v. if bytes_eq e.name x then held_entry e else v) (held_the_same es fs x l.2 h.1)

-- ---- inside a `split`

-- two entries behind the names before: what they are of the end
follows_drop : (env more end : Environment) → Follows (env ++ more) end → Follows env (take (length env) end) × Follows more (drop (length env) end)
unfolding Follows NoLents
follows_drop [] more end f = (tt, f)
follows_drop (e ∷ es) more [] f = absurd f
follows_drop (e ∷ es) more (g ∷ gs) f = let r = follows_drop es more gs f.2 in ((f.0, f.1, r.0), r.1)

like_drop : (env more end : Environment) → Follows (env ++ more) end → Like env (take (length env) end)
unfolding Follows Like
like_drop [] more end f = tt
like_drop (e ∷ es) more [] f = absurd f
like_drop (e ∷ es) more (g ∷ gs) f = (f.0, f.1, like_drop es more gs f.2)

pub follows_opened : (env end : Environment) (b l r : Name) (line : ℕ) → Follows (opened env b l r line) end → Follows (env ++ (lent_entry l line ∷ lent_entry r line ∷ [])) end
follows_opened env end b l r line f =
    let two : Environment = with_entry (with_entry env (lent_entry l line)) (lent_entry r line) in
    let same : two ≡ env ++ (lent_entry l line ∷ lent_entry r line ∷ []) = append_assoc env (lent_entry l line ∷ []) (lent_entry r line ∷ []) in
    subst (λ (v : Environment). Follows v end) same
    (follows_trans two (opened env b l r line) end (like_follows two (opened env b l r line) (like_marked two b false)) f)

pub like_opened : (env end : Environment) (b l r : Name) (line : ℕ) → Follows (opened env b l r line) end → Like env (take (length env) end)
like_opened env end b l r line f = like_drop env (lent_entry l line ∷ lent_entry r line ∷ []) end (follows_opened env end b l r line f)

take_drop : (n : ℕ) (end : Environment) → take n end ++ drop n end ≡ end
take_drop zero end = refl
take_drop (suc n) [] = refl
take_drop (suc n) (e ∷ es) = ap (λ v. e ∷ v) (take_drop n es)

-- of an environment in two parts
pub held_parts : (n : ℕ) (end : Environment) (x : Name) → seen_in (take n end) x ≡ 1 → held_in end x ≡ held_in (take n end) x
held_parts n end x s = ap (λ (v : Environment). held_in v x) (sym (take_drop n end)) ∙ found_front held_entry 0 (take n end) (drop n end) x s

pub held_parts_behind : (n : ℕ) (end : Environment) (x : Name) → seen_in (take n end) x ≡ 0 → held_in end x ≡ held_in (drop n end) x
held_parts_behind n end x s = ap (λ (v : Environment). held_in v x) (sym (take_drop n end)) ∙ found_behind held_entry 0 (take n end) (drop n end) x s

-- other names than those of the two parts are released behind the body
drop_other : (l r : Name) (line : ℕ) (rest : Environment) (x : Name) → Follows (lent_entry l line ∷ lent_entry r line ∷ []) rest → list_all is_released rest ≡ true
    → bytes_eq l x ≡ false → bytes_eq r x ≡ false → held_in rest x ≡ 0
unfolding found Follows
drop_other l r line [] x f rel dl dr = absurd f
drop_other l r line (g ∷ []) x f rel dl dr = absurd f.2
drop_other l r line (g ∷ h ∷ rest) x f rel dl dr =
    let a = and_split (is_released g) (list_all is_released (h ∷ rest)) rel in
    let b = and_split (is_released h) (list_all is_released rest) a.1 in
    ap (λ (n : Name). if bytes_eq n x then held_entry g else held_in (h ∷ rest) x) f.0
    ∙ ap (λ (t : Bool). if t then held_entry g else held_in (h ∷ rest) x) dl
    ∙ ap (λ (n : Name). if bytes_eq n x then held_entry h else held_in rest x) f.2.0
    ∙ ap (λ (t : Bool). if t then held_entry h else held_in rest x) dr
    ∙ none_released rest x f.2.2 b.1

-- behind the body of a `split` the names before it are as in its end, and beside them only the two parts are held
pub held_opened : (env end : Environment) (b l r : Name) (line : ℕ) (x : Name) → Follows (opened env b l r line) end → list_all is_released (drop (length env) end) ≡ true
    → seen_in env l ≡ 0 → seen_in env r ≡ 0 → bytes_eq l r ≡ false → held_in end l ≡ 1 → held_in end r ≡ 1
    → held_in end x ≡ held_in (take (length env) end) x + (hit l x + hit r x)
held_opened env end b l r line x f rel sl sr d hl hr =
    let front : Environment = take (length env) end in
    let like : Like env front = like_opened env end b l r line f in
    seen_or_not env x (held_in end x ≡ held_in front x + (hit l x + hit r x))
    (λ s. let h = held_parts (length env) end x (seen_like env front x like ∙ s) in
    let zl : hit l x ≡ 0 = differs l sl s in let zr : hit r x ≡ 0 = differs r sr s in omega (arith, h, zl, zr))
    (λ s. let z = unseen_none held_entry 0 front x (seen_like env front x like ∙ s) in
    let two = (follows_drop env (lent_entry l line ∷ lent_entry r line ∷ []) end (follows_opened env end b l r line f)).1 in
    let h = held_parts_behind (length env) end x (seen_like env front x like ∙ s) in
    by z two h (bytes_eq l x) refl (bytes_eq r x) refl)
  where
    differs : (a : Name) → seen_in env a ≡ 0 → seen_in env x ≡ 1 → hit a x ≡ 0
    differs a z = by_names (λ (a : Name) (x : Name). seen_in env a ≡ 0 → seen_in env x ≡ 1 → hit a x ≡ 0) a x
        (λ x p q. absurd (omega (arith, p, q))) (λ e p q. hit_other a x e) z

    by : held_in (take (length env) end) x ≡ 0 → Follows (lent_entry l line ∷ lent_entry r line ∷ []) (drop (length env) end) → held_in end x ≡ held_in (drop (length env) end) x
        → (t : Bool) → bytes_eq l x ≡ t → (u : Bool) → bytes_eq r x ≡ u → held_in end x ≡ held_in (take (length env) end) x + (hit l x + hit r x)
    by z two h true t u' u =
        let same : l ≡ x = same_name l x t in
        let o : hit l x ≡ 1 = subst (λ (n : Name). hit n x ≡ 1) (sym same) (hit_same x) in
        let h1 : held_in end x ≡ 1 = subst (λ (n : Name). held_in end n ≡ 1) same hl in
        let rl : hit l r ≡ 0 = hit_other l r d in
        let rx : hit r x ≡ 0 = by_names (λ (r : Name) (x : Name). hit x r ≡ 0 → hit r x ≡ 0) r x (λ x h. h) (λ e h. hit_other r x e) (subst (λ (n : Name). hit n r ≡ 0) same rl) in
        omega (arith, o, h1, rx, z)
    by z two h false t true u =
        let same : r ≡ x = same_name r x u in
        let o : hit r x ≡ 1 = subst (λ (n : Name). hit n x ≡ 1) (sym same) (hit_same x) in
        let h1 : held_in end x ≡ 1 = subst (λ (n : Name). held_in end n ≡ 1) same hr in
        let lx = hit_other l x t in omega (arith, o, h1, lx, z)
    by z two h false t false u =
        let w = drop_other l r line (drop (length env) end) x two rel t u in
        let lx = hit_other l x t in let rx = hit_other r x u in omega (arith, h, w, lx, rx, z)
