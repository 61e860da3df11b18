-- Lists of slots, told by how often each name stands in them.
use Rattle.std.proofs.Common.{◌≡◌, ℕ, ◌+◌, ◌≤◌, Bool, true, false, List, [], ◌∷◌, ◌++◌, length, refl, ap, ◌∙◌, subst, arith}
use Rattle.std.specs.Prelude.{nat_eq, ◌||◌, if◌then◌else◌}
use Rattle.std.specs.List.{list_any}
use Rattle.std.specs.Str.{bytes_eq}
use Rattle.std.proofs.lemmas.List.{nil_from_length}
use borrow.Author.Tests.{eqb-true}
use Rattle.par_tree.specs.Tree
use Rattle.par_tree.specs.Tree.{Name, Arg, Param, ParamKind, value, lend, give}
use Rattle.par_tree.specs.Names.{param_names}
use Rattle.par_ownership.specs.Environment.{Environment, Entry, with_entry, param_entry}
use Rattle.par_ownership.specs.Ownership.{OwnsParams, passes, PassesOne, Passes}
use Rattle.thread_state.specs.Passed.Stores.{Store}
use Rattle.node_table.specs.Names.{name_at}
use Rattle.node_table.specs.Reading.{FitsArgs, FitsSlots, slots_read, args_read}
use Rattle.node_table.specs.Table as tables
use Rattle.ownership_laws.specs.Counts.{one_if, hit, count, seen_entry, seen_in}
use Rattle.ownership_laws.specs.Needs.{reads_block, needed_by_args}
use Rattle.ownership_laws.proofs.Counting.{same_name, hit_same, hit_other, hit_true, fresh_unseen, seen_or_not, found_with}
use Rattle.ownership_laws.proofs.Passing.{or_left, or_right}
use Rattle.thread_state.specs.Passed.Rows.{Entry as Slot, blocks_at}
use Rattle.thread_state.specs.Passed.SlotStoreCalls.{EachOnce, EachHasBlock, EachHasNone, passed_slots}
use Rattle.thread_state.specs.Passed.Forks.{is_in}
use Rattle.thread_state.specs.Passed.Agreement.{ShowsStore}
use Rattle.thread_run.proofs.Knowing.{slot_count}

-- how often a name stands in a list
abbrev pub hits : List Name → Name → ℕ
hits [] y = 0
hits (x ∷ xs) y = hit x y + hits xs y

in_hits : (names : List Name) (q : ℕ) (qs : List ℕ) → is_in q qs ≡ true → 1 ≤ hits (slots_read names qs) (name_at names q)
in_hits names q [] e = let never : ⊥ = cc in absurd never
in_hits names q (t ∷ ts) e = by (in_hits names q ts) (nat_eq t q) refl e
  where
    by : (is_in q ts ≡ true → 1 ≤ hits (slots_read names ts) (name_at names q)) → (b : Bool) → nat_eq t q ≡ b → (b || is_in q ts) ≡ true → 1 ≤ hits (slots_read names (t ∷ ts)) (name_at names q)
    by more true same e =
        let one : hit (name_at names t) (name_at names q) ≡ 1 = subst (λ (i : ℕ). hit (name_at names t) (name_at names i) ≡ 1) (eqb-true t q same) (hit_same (name_at names t)) in omega (arith, one)
    by more false same e = let rest = more e in omega (arith, rest)

-- slots whose names stand once in their list stand once
pub once_hits : (names : List Name) (qs : List ℕ) → ((y : Name) → hits (slots_read names qs) y ≤ 1) → EachOnce qs
once_hits names [] few = tt
once_hits names (q ∷ qs) few = (by (is_in q qs) refl, once_hits names qs (λ y. let f = few y in omega (arith, f)))
  where
    by : (b : Bool) → is_in q qs ≡ b → is_in q qs ≡ false
    by true e = let a = in_hits names q qs e in let f = few (name_at names q) in let s = hit_same (name_at names q) in absurd (omega (arith, a, f, s))
    by false e = e

-- one slot is not in a list whose names it does not share
pub apart_hits : (names : List Name) (q : ℕ) (qs : List ℕ) → hits (slots_read names qs) (name_at names q) ≡ 0 → is_in q qs ≡ false
apart_hits names q qs none = by (is_in q qs) refl
  where
    by : (b : Bool) → is_in q qs ≡ b → is_in q qs ≡ false
    by true e = let a = in_hits names q qs e in absurd (omega (arith, a, none))
    by false e = e

pub each_has : (names : List Name) (row : List Slot) (store : Store) → ShowsStore names row store → (xs : List ℕ) → FitsSlots (length names) xs → ((y : Name) → 1 ≤ hits (slots_read names xs) y → count store.blocks y ≡ 1) → EachHasBlock row xs
each_has names row store shows [] fits has = tt
each_has names row store shows (x ∷ xs) fits has =
    let s = hit_same (name_at names x) in (
      slot_count names row store x (name_at names x) shows (record { reads = refl; below = fits.0 }) ∙ has (name_at names x) (omega (arith, s)),
      each_has names row store shows xs fits.1 (λ y le. has y (omega (arith, le))),
    )

pub each_none : (names : List Name) (row : List Slot) (store : Store) → ShowsStore names row store → (xs : List ℕ) → FitsSlots (length names) xs → ((y : Name) → 1 ≤ hits (slots_read names xs) y → count store.blocks y ≡ 0) → EachHasNone row xs
each_none names row store shows [] fits none = tt
each_none names row store shows (x ∷ xs) fits none =
    let s = hit_same (name_at names x) in (
      nil_from_length (blocks_at row x) (slot_count names row store x (name_at names x) shows (record { reads = refl; below = fits.0 }) ∙ none (name_at names x) (omega (arith, s))),
      each_none names row store shows xs fits.1 (λ y le. none y (omega (arith, le))),
    )

-- ---- what a call passes

abbrev pub passed_under : List Arg → Name → ℕ
passed_under [] y = 0
passed_under (value e ∷ args) y = passed_under args y
passed_under (lend b ∷ args) y = hit b y + passed_under args y
passed_under (give b ∷ args) y = hit b y + passed_under args y

pub passed_fits : (n : ℕ) (xs : List tables.Arg) → FitsArgs n xs → FitsSlots n (passed_slots xs)
passed_fits n [] h = tt
passed_fits n (tables.value e ∷ xs) h = passed_fits n xs h.1
passed_fits n (tables.lend s ∷ xs) h = (h.0, passed_fits n xs h.1)
passed_fits n (tables.give s ∷ xs) h = (h.0, passed_fits n xs h.1)

pub passed_hits : (names : List Name) (xs : List tables.Arg) (y : Name) → hits (slots_read names (passed_slots xs)) y ≡ passed_under (args_read names xs) y
passed_hits names [] y = refl
passed_hits names (tables.value e ∷ xs) y = passed_hits names xs y
passed_hits names (tables.lend s ∷ xs) y = ap (λ (n : ℕ). hit (name_at names s) y + n) (passed_hits names xs y)
passed_hits names (tables.give s ∷ xs) y = ap (λ (n : ℕ). hit (name_at names s) y + n) (passed_hits names xs y)

needed_next : (y b : Name) (rest : ℕ) (needed : Bool) → 1 ≤ hit b y + rest → (1 ≤ rest → needed ≡ true) → (bytes_eq b y || needed) ≡ true
needed_next y b rest needed le more = by (bytes_eq b y) refl
  where
    by : (t : Bool) → bytes_eq b y ≡ t → (bytes_eq b y || needed) ≡ true
    by true e = or_left (bytes_eq b y) needed e
    by false e = or_right (bytes_eq b y) needed (more (let z = hit_other b y e in omega (arith, le, z)))

pub passed_needed : (args : List Arg) (y : Name) → 1 ≤ passed_under args y → needed_by_args y args ≡ true
passed_needed [] y le = absurd (omega (arith, le))
passed_needed (value e ∷ args) y le = or_right (reads_block y e) (needed_by_args y args) (passed_needed args y le)
passed_needed (lend b ∷ args) y le = needed_next y b (passed_under args y) (needed_by_args y args) le (passed_needed args y)
passed_needed (give b ∷ args) y le = needed_next y b (passed_under args y) (needed_by_args y args) le (passed_needed args y)

-- a call passes each block once
any_before : List Arg → Name → ℕ
any_before before y = one_if (list_any (passes y) before)

or_false : (b : Bool) → (b || false) ≡ b
or_false true = refl
or_false false = refl

any_more : (y : Name) (before : List Arg) (a : Arg) → list_any (passes y) (before ++ a ∷ []) ≡ (list_any (passes y) before || passes y a)
any_more y [] a = or_false (passes y a)
any_more y (d ∷ before) a = by (passes y d) (any_more y before a)
  where
    by : (b : Bool) → list_any (passes y) (before ++ a ∷ []) ≡ (list_any (passes y) before || passes y a) → (b || list_any (passes y) (before ++ a ∷ [])) ≡ ((b || list_any (passes y) before) || passes y a)
    by true e = refl
    by false e = e

lend_new : (env : Environment) (before : List Arg) (k : ParamKind) (b : Name) → PassesOne env before k (lend b) → list_any (passes b) before ≡ false
lend_new env before Tree.by_value b h = absurd h
lend_new env before Tree.lent b h = h.1
lend_new env before Tree.owned b h = absurd h

give_new : (env : Environment) (before : List Arg) (k : ParamKind) (b : Name) → PassesOne env before k (give b) → list_any (passes b) before ≡ false
give_new env before Tree.by_value b h = absurd h
give_new env before Tree.lent b h = absurd h
give_new env before Tree.owned b h = h.1

at_most_one : (b : Bool) → one_if b ≤ 1
at_most_one true = omega arith
at_most_one false = omega arith

-- of a block that is passed next
passed_next : (y b : Name) (before : List Arg) (a : Arg) (rest : ℕ) → list_any (passes b) before ≡ false → passes y a ≡ bytes_eq b y → rest + any_before (before ++ a ∷ []) y ≤ 1 → (hit b y + rest) + any_before before y ≤ 1
unfolding any_before
passed_next y b before a rest new is le = by (bytes_eq b y) refl
  where
    by : (t : Bool) → bytes_eq b y ≡ t → (hit b y + rest) + one_if (list_any (passes y) before) ≤ 1
    by true e =
        let one : one_if (list_any (passes y) (before ++ a ∷ [])) ≡ 1 = ap one_if (any_more y before a ∙ or_right (list_any (passes y) before) (passes y a) (is ∙ e)) in
        let none : one_if (list_any (passes y) before) ≡ 0 = ap one_if (subst (λ (x : Name). list_any (passes x) before ≡ false) (same_name b y e) new) in
        let h = hit_true b y e in omega (arith, one, none, h, le)
    by false e =
        let same : one_if (list_any (passes y) (before ++ a ∷ [])) ≡ one_if (list_any (passes y) before) =
        ap one_if (any_more y before a ∙ ap (λ (t : Bool). list_any (passes y) before || t) (is ∙ e) ∙ or_false (list_any (passes y) before)) in
        let h = hit_other b y e in omega (arith, same, h, le)

passed_few : (env : Environment) (before : List Arg) (qs : List Param) (args : List Arg) (y : Name) → Passes env before qs args → passed_under args y + any_before before y ≤ 1
unfolding any_before
passed_few env before [] [] y h = let a = at_most_one (list_any (passes y) before) in omega (arith, a)
passed_few env before [] (a ∷ args) y h = absurd h
passed_few env before (q ∷ qs) [] y h = absurd h
passed_few env before (q ∷ qs) (value e ∷ args) y h =
    let rest = passed_few env (before ++ value e ∷ []) qs args y h.1 in
    let same : one_if (list_any (passes y) (before ++ value e ∷ [])) ≡ one_if (list_any (passes y) before) = ap one_if (any_more y before (value e) ∙ or_false (list_any (passes y) before)) in
    omega (arith, rest, same)
passed_few env before (q ∷ qs) (lend b ∷ args) y h =
    passed_next y b before (lend b) (passed_under args y) (lend_new env before q.kind b h.0) refl (passed_few env (before ++ lend b ∷ []) qs args y h.1)
passed_few env before (q ∷ qs) (give b ∷ args) y h =
    passed_next y b before (give b) (passed_under args y) (give_new env before q.kind b h.0) refl (passed_few env (before ++ give b ∷ []) qs args y h.1)

pub passed_once : (env : Environment) (qs : List Param) (args : List Arg) (y : Name) → Passes env [] qs args → passed_under args y ≤ 1
passed_once env qs args y h = let few = passed_few env [] qs args y h in omega (arith, few)

-- ---- parameters

entry_seen : (env : Environment) (e : Entry) (y : Name) → seen_in env e.name ≡ 0 → seen_in (with_entry env e) y ≡ seen_in env y + hit e.name y
unfolding hit
entry_seen env e y new = found_with seen_entry env e y new ∙ ap (λ (n : ℕ). seen_in env y + n) (by (bytes_eq e.name y))
  where
    by : (b : Bool) → (let n : ℕ = if b then 1 else 0 in n) ≡ one_if b
    by true = refl
    by false = refl

-- a parameter is declared by its name
param_declares : (x : Name) (k : ParamKind) (line : ℕ) → Entry.name (param_entry (record { name = x; kind = k }) line) ≡ x
param_declares x Tree.by_value line = refl
param_declares x Tree.lent line = refl
param_declares x Tree.owned line = refl

param_seen : (env : Environment) (q : Param) (line : ℕ) (y : Name) → seen_in env q.name ≡ 0 → seen_in (with_entry env (param_entry q line)) y ≡ seen_in env y + hit q.name y
param_seen env q line y new =
    let named = param_declares q.name q.kind line in
    entry_seen env (param_entry q line) y (ap (seen_in env) named ∙ new) ∙ ap (λ (x : Name). seen_in env y + hit x y) named

seen_most : (env : Environment) (y : Name) → seen_in env y ≤ 1
seen_most env y = seen_or_not env y (seen_in env y ≤ 1) (λ e. omega (arith, e)) (λ e. omega (arith, e))

params_few : (line : ℕ) (qs : List Param) (env start : Environment) (y : Name) → OwnsParams line qs env start → hits (param_names qs) y + seen_in env y ≤ 1
params_few line [] env start y h = let s = seen_most env y in omega (arith, s)
params_few line (q ∷ qs) env start y h =
    let rest = params_few line qs (with_entry env (param_entry q line)) start y h.1 in
    let seen = param_seen env q line y (fresh_unseen env q.name h.0) in omega (arith, rest, seen)

pub params_once : (line : ℕ) (qs : List Param) (start : Environment) (y : Name) → OwnsParams line qs [] start → hits (param_names qs) y ≤ 1
params_once line qs start y h = let few = params_few line qs [] start y h in omega (arith, few)
