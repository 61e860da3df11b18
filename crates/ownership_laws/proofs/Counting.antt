-- How counts change with what is held, and what environments say with what is declared and given up.
use Rattle.std.specs.Prelude.{◌≡◌, ℕ, ◌+◌, ◌≤◌, Bool, true, false, ◌&&◌, if◌then◌else◌, map, List, [], ◌∷◌, ◌++◌, ℤ, Option, Some, None, refl}
use Rattle.std.specs.Str.{bytes_eq}
use Rattle.std.specs.List.{find}
use Rattle.std.proofs.Common.{sym, ◌∙◌, ap, arith, subst}
use Rattle.std.proofs.lemmas.Slice.Eq.{bytes_eq-Decides}
use Rattle.depth_first_run.specs.Passed.Tree.{Name}
use Rattle.depth_first_run.specs.Passed.Environment as environments
use Rattle.depth_first_run.specs.Passed.Environment.{Kind, Entry, Environment, entry_of, has_name, with_entry, marked, is_block, is_own}
use Rattle.depth_first_run.specs.Passed.Ownership.{IsFresh, IsHeld, IsOwned}
use Rattle.depth_first_run.specs.Stores.{Held, without, replaced, with_block, those_named, those_not_named}
use Rattle.ownership_laws.specs.Counts.{one_if, hit, count, found, held_entry, block_entry_of, is_lent, lent_entry_of, seen_entry, held_in, block_in, lent_in, seen_in}

-- ---- names

pub same_name : (a b : Name) → bytes_eq a b ≡ true → a ≡ b
same_name a b e = (bytes_eq-Decides a b).0 e

pub name_same : (a : Name) → bytes_eq a a ≡ true
name_same a = (bytes_eq-Decides a a).1 refl

pub hit_same : (a : Name) → hit a a ≡ 1
unfolding hit
hit_same a = ap one_if (name_same a)

pub hit_other : (a b : Name) → bytes_eq a b ≡ false → hit a b ≡ 0
unfolding hit
hit_other a b e = ap one_if e

pub hit_true : (a b : Name) → bytes_eq a b ≡ true → hit a b ≡ 1
unfolding hit
hit_true a b e = ap one_if e

-- a name that differs from one of two equal names differs from the other
pub other_name : (a b x : Name) → bytes_eq a x ≡ true → bytes_eq b x ≡ false → bytes_eq a b ≡ false
other_name a b x e d = by (bytes_eq a b) refl
  where
    by : (t : Bool) → bytes_eq a b ≡ t → bytes_eq a b ≡ false
    by true h = let no : true ≡ false = sym (subst (λ (n : Name). bytes_eq n x ≡ true) (same_name a b h) e) ∙ d in let never : ⊥ = cc in absurd never
    by false h = h

pub bytes_swap : (a b : Name) → bytes_eq a b ≡ false → bytes_eq b a ≡ false
bytes_swap a b d = by (bytes_eq b a) refl
  where
    by : (t : Bool) → bytes_eq b a ≡ t → bytes_eq b a ≡ false
    by true h = let no : true ≡ false = sym (name_same a) ∙ (let e : b ≡ a = same_name b a h in subst (λ (n : Name). bytes_eq a n ≡ false) e d) in let never : ⊥ = cc in absurd never
    by false h = h

-- a claim on two names, by whether they are the same
pub by_names : (P : Name → Name → Type 0) → (a b : Name) → ((x : Name) → P x x) → (bytes_eq a b ≡ false → P a b) → P a b
by_names P a b same other = by (bytes_eq a b) refl
  where
    by : (t : Bool) → bytes_eq a b ≡ t → P a b
    by true e = subst (λ (n : Name). P a n) (same_name a b e) (same a)
    by false e = other e

-- ---- counts

pub count_append : (hs gs : List Held) (x : Name) → count (hs ++ gs) x ≡ count hs x + count gs x
unfolding count
count_append [] gs x = omega arith
count_append (h ∷ hs) gs x = let r = count_append hs gs x in omega (arith, r)

pub count_with : (hs : List Held) (b : Name) (xs : List ℤ) (x : Name) → count (with_block hs b xs) x ≡ count hs x + hit b x
unfolding count
count_with hs b xs x = let r = count_append hs (record { name = b; items = xs } ∷ []) x in omega (arith, r)

pub count_without : (hs : List Held) (b x : Name) → 1 ≤ count hs b → count (without hs b) x + hit b x ≡ count hs x
unfolding count
count_without [] b x le = absurd (omega (arith, le))
count_without (h ∷ hs) b x le = by (count_without hs b x) (bytes_eq h.name b) refl
  where
    by : (1 ≤ count hs b → count (without hs b) x + hit b x ≡ count hs x) → (t : Bool) → bytes_eq h.name b ≡ t
        → count (if t then hs else h ∷ without hs b) x + hit b x ≡ hit h.name x + count hs x
    by r true e = let n : hit h.name x ≡ hit b x = ap (λ (a : Name). hit a x) (same_name h.name b e) in omega (arith, n)
    by r false e = let z = hit_other h.name b e in let q = r (omega (arith, z, le)) in omega (arith, q)

pub count_replaced : (hs : List Held) (b : Name) (xs : List ℤ) (x : Name) → count (replaced hs b xs) x ≡ count hs x
unfolding count
count_replaced [] b xs x = refl
count_replaced (h ∷ hs) b xs x = by (count_replaced hs b xs x) (bytes_eq h.name b)
  where
    by : count (replaced hs b xs) x ≡ count hs x → (t : Bool) → count (if t then record { name = h.name; items = xs } ∷ hs else h ∷ replaced hs b xs) x ≡ count (h ∷ hs) x
    by r true = refl
    by r false = ap (λ n. hit h.name x + n) r

pub count_parted : (named : Name → Bool) (hs : List Held) (x : Name) → count (those_named named hs) x + count (those_not_named named hs) x ≡ count hs x
unfolding count
count_parted named [] x = refl
count_parted named (h ∷ hs) x = by (count_parted named hs x) (named h.name)
  where
    by : count (those_named named hs) x + count (those_not_named named hs) x ≡ count hs x → (t : Bool)
        → count (if t then h ∷ those_named named hs else those_named named hs) x + count (if t then those_not_named named hs else h ∷ those_not_named named hs) x ≡ hit h.name x + count hs x
    by r true = omega (arith, r)
    by r false = omega (arith, r)

-- a name that passes is not among the others, and one that does not pass is among the others alone
pub count_not_named : (named : Name → Bool) (hs : List Held) (x : Name) → named x ≡ true → count (those_not_named named hs) x ≡ 0
unfolding count
count_not_named named [] x e = refl
count_not_named named (h ∷ hs) x e = by (count_not_named named hs x e) (named h.name) refl
  where
    by : count (those_not_named named hs) x ≡ 0 → (t : Bool) → named h.name ≡ t → count (if t then those_not_named named hs else h ∷ those_not_named named hs) x ≡ 0
    by r true t = r
    by r false t = other (bytes_eq h.name x) refl
      where
        other : (u : Bool) → bytes_eq h.name x ≡ u → hit h.name x + count (those_not_named named hs) x ≡ 0
        other true u = let no : true ≡ false = sym e ∙ sym (ap named (same_name h.name x u)) ∙ t in let never : ⊥ = cc in absurd never
        other false u = let z = hit_other h.name x u in omega (arith, z, r)

pub count_named : (named : Name → Bool) (hs : List Held) (x : Name) → named x ≡ false → count (those_named named hs) x ≡ 0
unfolding count
count_named named [] x e = refl
count_named named (h ∷ hs) x e = by (count_named named hs x e) (named h.name) refl
  where
    by : count (those_named named hs) x ≡ 0 → (t : Bool) → named h.name ≡ t → count (if t then h ∷ those_named named hs else those_named named hs) x ≡ 0
    by r false t = r
    by r true t = other (bytes_eq h.name x) refl
      where
        other : (u : Bool) → bytes_eq h.name x ≡ u → hit h.name x + count (those_named named hs) x ≡ 0
        other true u = let no : true ≡ false = sym t ∙ ap named (same_name h.name x u) ∙ e in let never : ⊥ = cc in absurd never
        other false u = let z = hit_other h.name x u in omega (arith, z, r)

-- a store of which no name is held has no block
pub none_held : (hs : List Held) → ((x : Name) → count hs x ≡ 0) → hs ≡ []
unfolding count
none_held [] none = refl
none_held (h ∷ hs) none = let z = none h.name in let o = hit_same h.name in absurd (omega (arith, z, o))

pub none_counted : (x : Name) → count [] x ≡ 0
unfolding count
none_counted x = refl

-- ---- environments

pub empty_found : (f : Entry → ℕ) (x : Name) → found f 0 [] x ≡ 0
unfolding found
empty_found f x = refl

found_of : {A : Type 0} → (Entry → A) → A → Option Entry → A
found_of f none None = none
found_of f none (Some e) = f e

found_entry : {A : Type 0} (f : Entry → A) (none : A) (env : Environment) (x : Name) → found f none env x ≡ found_of f none (entry_of env x)
unfolding found found_of
found_entry f none [] x = refl
found_entry f none (e ∷ es) x = by (found_entry f none es x) (bytes_eq e.name x)
  where
    by : found f none es x ≡ found_of f none (find (has_name x) es) → (t : Bool) → (if t then f e else found f none es x) ≡ found_of f none (if t then Some e else find (has_name x) es)
    by r true = refl
    by r false = r

pub fresh_unseen : (env : Environment) (x : Name) → IsFresh env x → seen_in env x ≡ 0
unfolding found_of
fresh_unseen env x h = found_entry seen_entry 0 env x ∙ ap (found_of seen_entry 0) h

pub entry_found : {A : Type 0} (f : Entry → A) (none : A) (env : Environment) (x : Name) (e : Entry) → entry_of env x ≡ Some e → found f none env x ≡ f e
unfolding found_of
entry_found f none env x e h = found_entry f none env x ∙ ap (found_of f none) h

held_is : (block held : Bool) → block ≡ true → held ≡ true → one_if (block && held) ≡ 1
held_is true true p q = refl
held_is true false p q = let never : ⊥ = cc in absurd never
held_is false held p q = let never : ⊥ = cc in absurd never

own_block : (k : Kind) → is_own k ≡ true → (is_block k ≡ true) × (is_lent k ≡ false)
own_block environments.integer e = let never : ⊥ = cc in absurd never
own_block environments.own e = (refl, refl)
own_block environments.lent e = let never : ⊥ = cc in absurd never

pub held_block : (env : Environment) (b : Name) → IsHeld env b → (held_in env b ≡ 1) × (block_in env b ≡ 1)
held_block env b h = (
  entry_found held_entry 0 env b h.0 h.1 ∙ held_is (is_block h.0.kind) h.0.held h.2 h.3,
  entry_found block_entry_of 0 env b h.0 h.1 ∙ ap one_if h.2,
)

pub owned_block : (env : Environment) (b : Name) → IsOwned env b → (held_in env b ≡ 1) × (lent_in env b ≡ 0)
owned_block env b h =
    let o = own_block h.0.kind h.2 in (
      entry_found held_entry 0 env b h.0 h.1 ∙ held_is (is_block h.0.kind) h.0.held o.0 h.3,
      entry_found lent_entry_of 0 env b h.0 h.1 ∙ ap one_if o.1,
    )

-- a visible name is found in front, and another behind
pub found_front : {A : Type 0} (f : Entry → A) (none : A) (env more : Environment) (x : Name) → seen_in env x ≡ 1 → found f none (env ++ more) x ≡ found f none env x
unfolding found
found_front f none [] more x s = absurd (omega (arith, s))
found_front f none (e ∷ es) more x s = by (found_front f none es more x) (bytes_eq e.name x) s
  where
    by : (seen_in es x ≡ 1 → found f none (es ++ more) x ≡ found f none es x) → (t : Bool) → (if t then 1 else seen_in es x) ≡ 1
        → (if t then f e else found f none (es ++ more) x) ≡ (if t then f e else found f none es x)
    by r true s = refl
    by r false s = r s

pub found_behind : {A : Type 0} (f : Entry → A) (none : A) (env more : Environment) (x : Name) → seen_in env x ≡ 0 → found f none (env ++ more) x ≡ found f none more x
unfolding found
found_behind f none [] more x s = refl
found_behind f none (e ∷ es) more x s = by (found_behind f none es more x) (bytes_eq e.name x) s
  where
    by : (seen_in es x ≡ 0 → found f none (es ++ more) x ≡ found f none more x) → (t : Bool) → (if t then 1 else seen_in es x) ≡ 0
        → (if t then f e else found f none (es ++ more) x) ≡ found f none more x
    by r true s = absurd (omega (arith, s))
    by r false s = r s

-- a name is visible or not, and what is not visible is nothing
pub seen_or_not : (env : Environment) (x : Name) → (P : Type 0) → (seen_in env x ≡ 1 → P) → (seen_in env x ≡ 0 → P) → P
unfolding found
seen_or_not [] x P yes_ no_ = no_ refl
seen_or_not (e ∷ es) x P yes_ no_ = by (seen_or_not es x P) (bytes_eq e.name x) yes_ no_
  where
    by : ((seen_in es x ≡ 1 → P) → (seen_in es x ≡ 0 → P) → P) → (t : Bool) → ((if t then 1 else seen_in es x) ≡ 1 → P) → ((if t then 1 else seen_in es x) ≡ 0 → P) → P
    by r true yes_ no_ = yes_ refl
    by r false yes_ no_ = r yes_ no_

pub unseen_none : {A : Type 0} (f : Entry → A) (none : A) (env : Environment) (x : Name) → seen_in env x ≡ 0 → found f none env x ≡ none
unfolding found
unseen_none f none [] x s = refl
unseen_none f none (e ∷ es) x s = by (unseen_none f none es x) (bytes_eq e.name x) s
  where
    by : (seen_in es x ≡ 0 → found f none es x ≡ none) → (t : Bool) → (if t then 1 else seen_in es x) ≡ 0 → (if t then f e else found f none es x) ≡ none
    by r true s = absurd (omega (arith, s))
    by r false s = r s

-- a number of a new entry comes to what was said of its name
pub found_with : (f : Entry → ℕ) (env : Environment) (e : Entry) (x : Name) → seen_in env e.name ≡ 0
    → found f 0 (with_entry env e) x ≡ found f 0 env x + (if bytes_eq e.name x then f e else 0)
unfolding found
found_with f env e x s = by (bytes_eq e.name x) refl
  where
    by : (t : Bool) → bytes_eq e.name x ≡ t → found f 0 (env ++ e ∷ []) x ≡ found f 0 env x + (if t then f e else 0)
    by true h =
        let q : seen_in env x ≡ 0 = subst (λ (n : Name). seen_in env n ≡ 0) (same_name e.name x h) s in
        let a = found_behind f 0 env (e ∷ []) x q in let b = unseen_none f 0 env x q in
        let c : found f 0 (e ∷ []) x ≡ f e = ap (λ (t : Bool). if t then f e else 0) h in omega (arith, a, b, c)
    by false h =
        seen_or_not env x (found f 0 (env ++ e ∷ []) x ≡ found f 0 env x + 0)
        (λ q. let a = found_front f 0 env (e ∷ []) x q in omega (arith, a))
        (λ q. let a = found_behind f 0 env (e ∷ []) x q in let b = unseen_none f 0 env x q in
        let c : found f 0 (e ∷ []) x ≡ 0 = ap (λ (t : Bool). if t then f e else 0) h in omega (arith, a, b, c))

-- an entry that is marked: other names stay, and of its own name only whether it is held changes
pub found_marked : {A : Type 0} (f : Entry → A) (none : A) (held : Bool) (env : Environment) (b x : Name) → bytes_eq b x ≡ false
    → found f none (map (marked b held) env) x ≡ found f none env x
unfolding found
found_marked f none held [] b x d = refl
found_marked f none held (e ∷ es) b x d = by (found_marked f none held es b x d) (bytes_eq e.name b) refl
  where
    by : found f none (map (marked b held) es) x ≡ found f none es x → (t : Bool) → bytes_eq e.name b ≡ t
        → found f none ((if t then record e { held = held } else e) ∷ map (marked b held) es) x ≡ found f none (e ∷ es) x
    by r true h =
        let z : bytes_eq e.name x ≡ false = subst (λ (n : Name). bytes_eq n x ≡ false) (sym (same_name e.name b h)) d in
        ap (λ (t : Bool). if t then f (record e { held = held }) else found f none (map (marked b held) es) x) z ∙ r ∙ sym (ap (λ (t : Bool). if t then f e else found f none es x) z)
    by r false h = ap (λ v. if bytes_eq e.name x then f e else v) r

pub found_kept : {A : Type 0} (f : Entry → A) (none : A) (held : Bool) → ((e : Entry) → f (record e { held = held }) ≡ f e)
    → (env : Environment) (b x : Name) → found f none (map (marked b held) env) x ≡ found f none env x
unfolding found
found_kept f none held k [] b x = refl
found_kept f none held k (e ∷ es) b x = by (found_kept f none held k es b x) (bytes_eq e.name b)
  where
    by : found f none (map (marked b held) es) x ≡ found f none es x → (t : Bool)
        → found f none ((if t then record e { held = held } else e) ∷ map (marked b held) es) x ≡ found f none (e ∷ es) x
    by r true = ap (λ v. if bytes_eq e.name x then v else found f none (map (marked b held) es) x) (k e) ∙ ap (λ v. if bytes_eq e.name x then f e else v) r
    by r false = ap (λ v. if bytes_eq e.name x then f e else v) r

-- of a marked name
pub found_own : {A : Type 0} (f g : Entry → A) (none : A) (held : Bool) → ((e : Entry) → f (record e { held = held }) ≡ g e)
    → (env : Environment) (x : Name) → found f none (map (marked x held) env) x ≡ found g none env x
unfolding found
found_own f g none held k [] x = refl
found_own f g none held k (e ∷ es) x = by (found_own f g none held k es x) (bytes_eq e.name x) refl
  where
    by : found f none (map (marked x held) es) x ≡ found g none es x → (t : Bool) → bytes_eq e.name x ≡ t
        → found f none ((if t then record e { held = held } else e) ∷ map (marked x held) es) x ≡ (if t then g e else found g none es x)
    by r true h = ap (λ (t : Bool). if t then f (record e { held = held }) else found f none (map (marked x held) es) x) h ∙ k e
    by r false h = ap (λ (t : Bool). if t then f e else found f none (map (marked x held) es) x) h ∙ r

gone_entry : Entry → ℕ
gone_entry e = 0

found_gone : (env : Environment) (x : Name) → found gone_entry 0 env x ≡ 0
unfolding found gone_entry
found_gone [] x = refl
found_gone (e ∷ es) x = by (found_gone es x) (bytes_eq e.name x)
  where
    by : found gone_entry 0 es x ≡ 0 → (t : Bool) → (if t then 0 else found gone_entry 0 es x) ≡ 0
    by r true = refl
    by r false = r

and_false : (b : Bool) → one_if (b && false) ≡ 0
and_false true = refl
and_false false = refl

and_true : (b : Bool) → one_if (b && true) ≡ one_if b
and_true true = refl
and_true false = refl

pub held_without : (env : Environment) (b x : Name) → held_in env b ≡ 1 → held_in (environments.without env b) x + hit b x ≡ held_in env x
unfolding gone_entry
held_without env b x = by_names (λ (b : Name) (x : Name). held_in env b ≡ 1 → held_in (environments.without env b) x + hit b x ≡ held_in env x) b x
    (λ x h. let a : held_in (environments.without env x) x ≡ found gone_entry 0 env x = found_own held_entry gone_entry 0 false (λ e. and_false (is_block e.kind)) env x in
    let z = found_gone env x in let o = hit_same x in omega (arith, a, z, o, h))
    (λ d h. let a : held_in (environments.without env b) x ≡ held_in env x = found_marked held_entry 0 false env b x d in let z = hit_other b x d in omega (arith, a, z))

pub held_without_less : (env : Environment) (b x : Name) → held_in (environments.without env b) x ≤ held_in env x
unfolding gone_entry
held_without_less env b x = by_names (λ (b : Name) (x : Name). held_in (environments.without env b) x ≤ held_in env x) b x
    (λ x. let a : held_in (environments.without env x) x ≡ found gone_entry 0 env x = found_own held_entry gone_entry 0 false (λ e. and_false (is_block e.kind)) env x in
    let z = found_gone env x in omega (arith, a, z))
    (λ d. let a : held_in (environments.without env b) x ≡ held_in env x = found_marked held_entry 0 false env b x d in omega (arith, a))

pub held_regained : (env : Environment) (b x : Name) → held_in env b ≡ 0 → block_in env b ≡ 1 → held_in (environments.regained env b) x ≡ held_in env x + hit b x
held_regained env b x = by_names (λ (b : Name) (x : Name). held_in env b ≡ 0 → block_in env b ≡ 1 → held_in (environments.regained env b) x ≡ held_in env x + hit b x) b x
    (λ x h k. let a : held_in (environments.regained env x) x ≡ block_in env x = found_own held_entry block_entry_of 0 true (λ e. and_true (is_block e.kind)) env x in
    let o = hit_same x in omega (arith, a, o, h, k))
    (λ d h k. let a : held_in (environments.regained env b) x ≡ held_in env x = found_marked held_entry 0 true env b x d in let z = hit_other b x d in omega (arith, a, z))
