-- What a call takes from its caller, and what comes back.
use Rattle.std.specs.Prelude.{◌≡◌, ℕ, zero, suc, ◌+◌, ◌≤◌, Bool, true, false, ◌||◌, if◌then◌else◌, List, [], ◌∷◌, ◌++◌, length, ℤ, Result, Ok, Err, Option, Some, None, refl}
use Rattle.std.specs.Str.{bytes_eq}
use Rattle.std.specs.List.{find, list_any}
use Rattle.std.proofs.Common.{◌∙◌, ap, arith, subst}
use Rattle.thread_points.specs.Passed.FaultKind.{FaultKind}
use Rattle.depth_first_run.specs.Passed.Tree
use Rattle.depth_first_run.specs.Passed.Tree.{Name, Expr, Program, Target, unused, integer, block, Arg, value, lend, give, Param, ParamKind, Func}
use Rattle.depth_first_run.specs.Passed.Environment as environments
use Rattle.depth_first_run.specs.Passed.Environment.{Entry, Environment, integer_entry, block_entry, lent_entry, with_entry, after_gives, after_answer, param_entry, is_released}
use Rattle.depth_first_run.specs.Passed.Names.{names_in_args, names_in_expr}
use Rattle.depth_first_run.specs.Passed.Ownership.{Passes, passes, OwnsParams, OwnsFunction, OwnsFunctions}
use Rattle.depth_first_run.specs.Stores.{Store, Held, block_of, without, with_block, hold_block, held_words}
use Rattle.depth_first_run.specs.Values as values
use Rattle.depth_first_run.specs.Calls.{Passing, pass_integer, pass_block, pass_value, passed, lent_back}
use Rattle.depth_first_run.proofs.Words.{with_words, without_words}
use Rattle.ownership_laws.specs.Counts.{hit, count, held_in, lent_in, seen_in, seen_entry}
use Rattle.ownership_laws.proofs.Counting.{by_names, name_same, same_name, hit_same, hit_other, hit_true, fresh_unseen, held_block, owned_block, found_with, count_with, count_without, none_held, held_without}
use Rattle.ownership_laws.proofs.Tame.{or_split, passes_give, passes_lend, passes_number, held_with_integer, held_with_block, held_with_lent, lent_with_integer, lent_with_block, lent_with_lent}
use Rattle.ownership_laws.proofs.Sizes.{weigh, size, weigh_same, weigh_other, size_with, size_without, size_one, size_none}

-- ---- how often arguments lend a block, and give it; how often parameters take a block of a name, and are lent one

unfoldable pub lends : List Arg → Name → ℕ
lends [] x = 0
lends (value e ∷ args) x = lends args x
lends (lend b ∷ args) x = hit b x + lends args x
lends (give b ∷ args) x = lends args x

unfoldable pub gives : List Arg → Name → ℕ
gives [] x = 0
gives (value e ∷ args) x = gives args x
gives (lend b ∷ args) x = gives args x
gives (give b ∷ args) x = hit b x + gives args x

unfoldable pub taken_as : List Param → List Arg → Name → ℕ
taken_as [] args y = 0
taken_as (q ∷ qs) [] y = 0
taken_as (q ∷ qs) (value e ∷ args) y = taken_as qs args y
taken_as (q ∷ qs) (lend b ∷ args) y = hit q.name y + taken_as qs args y
taken_as (q ∷ qs) (give b ∷ args) y = hit q.name y + taken_as qs args y

unfoldable pub lent_as : List Param → List Arg → Name → ℕ
lent_as [] args y = 0
lent_as (q ∷ qs) [] y = 0
lent_as (q ∷ qs) (value e ∷ args) y = lent_as qs args y
lent_as (q ∷ qs) (lend b ∷ args) y = hit q.name y + lent_as qs args y
lent_as (q ∷ qs) (give b ∷ args) y = lent_as qs args y

-- the numbers that are lent under x, by the sizes of the parameters
unfoldable pub lent_size : (Name → ℕ) → List Param → List Arg → Name → ℕ
lent_size f [] args x = 0
lent_size f (q ∷ qs) [] x = 0
lent_size f (q ∷ qs) (value e ∷ args) x = lent_size f qs args x
lent_size f (q ∷ qs) (lend b ∷ args) x = weigh b x (f q.name) + lent_size f qs args x
lent_size f (q ∷ qs) (give b ∷ args) x = lent_size f qs args x

-- ---- what is passed before

pub any_append : (c : Name) (before : List Arg) (a : Arg) → list_any (passes c) (before ++ a ∷ []) ≡ false → (list_any (passes c) before ≡ false) × (passes c a ≡ false)
any_append c [] a h = (refl, (or_split (passes c a) false h).0)
any_append c (d ∷ rest) a h =
    let o = or_split (passes c d) (list_any (passes c) (rest ++ a ∷ [])) h in
    let r = any_append c rest a o.1 in (ap (λ t. t || list_any (passes c) rest) o.0 ∙ r.0, r.1)

pub or_left : (a b : Bool) → a ≡ true → (a || b) ≡ true
or_left true b e = refl
or_left false b e = let never : ⊥ = cc in absurd never

pub or_right : (a b : Bool) → b ≡ true → (a || b) ≡ true
or_right true b e = refl
or_right false b e = e

-- the caller holds each block that is still to be passed
unfoldable pub Ready : Environment → List Arg → List Held → List Arg → Type 0
Ready over before hs args = (c : Name) → list_any (passes c) before ≡ false → held_in over c ≡ 1 → names_in_args c args ≡ true → count hs c ≡ 1

ready_number : (over : Environment) (before : List Arg) (hs : List Held) (e : Expr) (args : List Arg) → Ready over before hs (value e ∷ args) → Ready over (before ++ value e ∷ []) hs args
unfolding Ready
ready_number over before hs e args r = λ c b h n. r c (any_append c before (value e) b).0 h (or_right (names_in_expr c e) (names_in_args c args) n)

ready_lend : (over : Environment) (before : List Arg) (hs : List Held) (b : Name) (args : List Arg) → Ready over before hs (lend b ∷ args) → 1 ≤ count hs b → Ready over (before ++ lend b ∷ []) (without hs b) args
unfolding Ready
ready_lend over before hs b args r le = λ c p h n.
    let two = any_append c before (lend b) p in
    let a = r c two.0 h (or_right (bytes_eq b c) (names_in_args c args) n) in
    let w = count_without hs b c le in let z = hit_other b c two.1 in omega (arith, a, w, z)

ready_give : (over : Environment) (before : List Arg) (hs : List Held) (b : Name) (args : List Arg) → Ready over before hs (give b ∷ args) → 1 ≤ count hs b → Ready over (before ++ give b ∷ []) (without hs b) args
unfolding Ready
ready_give over before hs b args r le = λ c p h n.
    let two = any_append c before (give b) p in
    let a = r c two.0 h (or_right (bytes_eq b c) (names_in_args c args) n) in
    let w = count_without hs b c le in let z = hit_other b c two.1 in omega (arith, a, w, z)

ready_one : (over : Environment) (before : List Arg) (hs : List Held) (a : Arg) (args : List Arg) (b : Name) → Ready over before hs (a ∷ args) → list_any (passes b) before ≡ false → held_in over b ≡ 1
    → names_in_args b (a ∷ args) ≡ true → 1 ≤ count hs b
unfolding Ready
ready_one over before hs a args b r p h n = let e = r b p h n in omega (arith, e)

-- ---- what the function has, and what its caller keeps

pub record Passed (qs : List Param) (args : List Arg) (h k : Passing) : Type 0 where
  pub caller : (x : Name) → count k.caller.blocks x + (lends args x + gives args x) ≡ count h.caller.blocks x
  pub callee : (y : Name) → count k.callee.blocks y ≡ count h.callee.blocks y + taken_as qs args y
  pub kept : (y : Name) → taken_as qs args y ≡ 0 → size k.callee.blocks y ≡ size h.callee.blocks y
  pub sizes : (x : Name) → gives args x ≡ 0 → size k.caller.blocks x + lent_size (size k.callee.blocks) qs args x ≡ size h.caller.blocks x

unfoldable pub PassedWell : List Param → List Arg → Passing → Result Passing FaultKind → Type 0
PassedWell qs args h (Ok k) = Passed qs args h k
PassedWell qs args h (Err kind) = Unit {0}

-- the parameters that are still to come have other names than those that the function has
unfoldable pub NewNames : List Param → List Arg → Store → Type 0
NewNames qs args callee = (y : Name) → 1 ≤ taken_as qs args y → count callee.blocks y ≡ 0

-- each parameter that takes a block has a name of its own
unfoldable pub Apart : List Param → List Arg → Type 0
Apart [] args = Unit {0}
Apart (q ∷ qs) [] = Unit {0}
Apart (q ∷ qs) (value e ∷ args) = Apart qs args
Apart (q ∷ qs) (lend b ∷ args) = (taken_as qs args q.name ≡ 0) × Apart qs args
Apart (q ∷ qs) (give b ∷ args) = (taken_as qs args q.name ≡ 0) × Apart qs args

passed_nothing : (qs : List Param) (args : List Arg) (h : Passing) → ((x : Name) → lends args x + gives args x ≡ 0) → ((y : Name) → taken_as qs args y ≡ 0) → ((x : Name) → lent_size (size h.callee.blocks) qs args x ≡ 0) → Passed qs args h h
passed_nothing qs args h a b c = record {
  caller = λ x. let z = a x in omega (arith, z);
  callee = λ y. let z = b y in omega (arith, z);
  kept = λ y z. refl;
  sizes = λ x g. let z = c x in omega (arith, z);
}

number_one : (q : Param) (e : Expr) (qs : List Param) (args : List Arg) (v : ℤ) (h : Passing) (r : Result Passing FaultKind) → PassedWell qs args (pass_integer q.name v h) r → PassedWell (q ∷ qs) (value e ∷ args) h r
unfolding PassedWell lends gives taken_as lent_size
number_one q e qs args v h (Ok k) p = record { caller = p.caller; callee = p.callee; kept = p.kept; sizes = p.sizes }
number_one q e qs args v h (Err kind) p = tt

passes_on : (q : Param) (e : Expr) (qs : List Param) (args : List Arg) (s : Store) (o : values.Outcome) (h : Passing)
    → ((v : ℤ) → PassedWell qs args (pass_integer q.name v h) (passed s qs args (pass_integer q.name v h)))
    → PassedWell (q ∷ qs) (value e ∷ args) h (pass_value q.name o h (passed s qs args))
unfolding PassedWell
passes_on q e qs args s (Err kind) h k = tt
passes_on q e qs args s (Ok v) h k = number_one q e qs args v h (passed s qs args (pass_integer q.name v h)) (k v)

-- a block that is lent
lend_one : (q : Param) (b : Name) (qs : List Param) (args : List Arg) (h : Passing) (r : Result Passing FaultKind) → 1 ≤ count h.caller.blocks b → count h.caller.blocks b ≤ 1 → count h.callee.blocks q.name ≡ 0
    → taken_as qs args q.name ≡ 0 → PassedWell qs args (pass_block q.name b h) r → PassedWell (q ∷ qs) (lend b ∷ args) h r
unfolding PassedWell lends gives taken_as lent_size
lend_one q b qs args h (Err kind) le most new apart p = tt
lend_one q b qs args h (Ok k) le most new apart p =
    let xs : List ℤ = block_of h.caller.blocks b in
    record {
      caller = λ x. let a = p.caller x in let w = count_without h.caller.blocks b x le in omega (arith, a, w);
      callee = λ y. let a = p.callee y in let w = count_with h.callee.blocks q.name xs y in omega (arith, a, w);
      kept = λ y z.
          let a = p.kept y (omega (arith, z)) in let w = size_with h.callee.blocks q.name xs y in
          let o : weigh q.name y (length xs) ≡ 0 = weigh_unless q.name y (length xs) (omega (arith, z)) in omega (arith, a, w, o);
      sizes = λ x g.
          let a = p.sizes x g in let w = size_without h.caller.blocks b x in
          let f : size k.callee.blocks q.name ≡ length xs =
          p.kept q.name apart ∙ size_with h.callee.blocks q.name xs q.name
          ∙ plus (size h.callee.blocks q.name) (weigh q.name q.name (length xs)) (length xs) (size_none h.callee.blocks q.name new) (weigh_same q.name (length xs)) in
          let v : weigh b x (size k.callee.blocks q.name) ≡ weigh b x (length xs) = ap (weigh b x) f in omega (arith, a, w, v);
    }
  where
    plus : (a b c : ℕ) → a ≡ 0 → b ≡ c → a + b ≡ c
    plus a b c e f = omega (arith, e, f)

    weigh_unless : (a b : Name) (n : ℕ) → hit a b ≡ 0 → weigh a b n ≡ 0
    weigh_unless a b n z = by (bytes_eq a b) refl
      where
        by : (t : Bool) → bytes_eq a b ≡ t → weigh a b n ≡ 0
        by true e = let o = hit_true a b e in absurd (omega (arith, o, z))
        by false e = weigh_other a b n e

-- a block that is given
give_one : (q : Param) (b : Name) (qs : List Param) (args : List Arg) (h : Passing) (r : Result Passing FaultKind) → 1 ≤ count h.caller.blocks b
    → PassedWell qs args (pass_block q.name b h) r → PassedWell (q ∷ qs) (give b ∷ args) h r
unfolding PassedWell lends gives taken_as lent_size
give_one q b qs args h (Err kind) le p = tt
give_one q b qs args h (Ok k) le p =
    let xs : List ℤ = block_of h.caller.blocks b in
    record {
      caller = λ x. let a = p.caller x in let w = count_without h.caller.blocks b x le in omega (arith, a, w);
      callee = λ y. let a = p.callee y in let w = count_with h.callee.blocks q.name xs y in omega (arith, a, w);
      kept = λ y z.
          let a = p.kept y (omega (arith, z)) in let w = size_with h.callee.blocks q.name xs y in
          let o : weigh q.name y (length xs) ≡ 0 = weigh_unless q.name y (length xs) (omega (arith, z)) in omega (arith, a, w, o);
      sizes = λ x g.
          let a = p.sizes x (omega (arith, g)) in let w = size_without h.caller.blocks b x in
          let o : weigh b x (length xs) ≡ 0 = weigh_unless b x (length xs) (omega (arith, g)) in omega (arith, a, w, o);
    }
  where
    weigh_unless : (a b : Name) (n : ℕ) → hit a b ≡ 0 → weigh a b n ≡ 0
    weigh_unless a b n z = by (bytes_eq a b) refl
      where
        by : (t : Bool) → bytes_eq a b ≡ t → weigh a b n ≡ 0
        by true e = let o = hit_true a b e in absurd (omega (arith, o, z))
        by false e = weigh_other a b n e

new_with : (q : Param) (qs : List Param) (args : List Arg) (callee : Store) (xs : List ℤ) → taken_as qs args q.name ≡ 0 → ((y : Name) → 1 ≤ hit q.name y + taken_as qs args y → count callee.blocks y ≡ 0)
    → (y : Name) → 1 ≤ taken_as qs args y → count (with_block callee.blocks q.name xs) y ≡ 0
new_with q qs args callee xs apart new y le =
    let w = count_with callee.blocks q.name xs y in let z = new y (omega (arith, le)) in
    let o : hit q.name y ≡ 0 = by_names (λ (a : Name) (y : Name). taken_as qs args a ≡ 0 → 1 ≤ taken_as qs args y → hit a y ≡ 0) q.name y
    (λ y e l. absurd (omega (arith, e, l))) (λ d e l. hit_other q.name y d) apart le in omega (arith, w, z, o)

at_most_one : (n : ℕ) → n ≡ 1 → n ≤ 1
at_most_one n e = omega (arith, e)

pub passed_well : (s : Store) (over : Environment) (before : List Arg) (qs : List Param) (args : List Arg) (h : Passing) → Passes over before qs args → Apart qs args
    → Ready over before h.caller.blocks args → NewNames qs args h.callee → PassedWell qs args h (passed s qs args h)
unfolding passed PassedWell Apart Ready NewNames lends gives taken_as lent_size
passed_well s over before [] [] h p a r n = passed_nothing [] [] h (λ x. omega arith) (λ y. refl) (λ x. refl)
passed_well s over before [] (b ∷ args) h p a r n = absurd p
passed_well s over before (q ∷ qs) [] h p a r n = absurd p
passed_well s over before (q ∷ qs) (value e ∷ args) h p a r n =
    passes_on q e qs args s (values.value s e) h
    (λ v. passed_well s over (before ++ value e ∷ []) qs args (pass_integer q.name v h) p.1 a (ready_number over before h.caller.blocks e args r) n)
passed_well s over before (q ∷ qs) (lend b ∷ args) h p a r n =
    let one = passes_lend over before q.kind b p.0 in
    let e : count h.caller.blocks b ≡ 1 = r b one.2 (held_block over b one.1).0 (or_left (bytes_eq b b) (names_in_args b args) (name_same b)) in
    let le : 1 ≤ count h.caller.blocks b = omega (arith, e) in
    let z : count h.callee.blocks q.name ≡ 0 = n q.name (let o = hit_same q.name in omega (arith, o)) in
    let k : Passing = pass_block q.name b h in
    lend_one q b qs args h (passed s qs args k) le (at_most_one (count h.caller.blocks b) e) z a.0
    (passed_well s over (before ++ lend b ∷ []) qs args k p.1 a.1 (ready_lend over before h.caller.blocks b args r le) (new_with q qs args h.callee (block_of h.caller.blocks b) a.0 n))
passed_well s over before (q ∷ qs) (give b ∷ args) h p a r n =
    let one = passes_give over before q.kind b p.0 in
    let e : count h.caller.blocks b ≡ 1 = r b one.2 (owned_block over b one.1).0 (or_left (bytes_eq b b) (names_in_args b args) (name_same b)) in
    let le : 1 ≤ count h.caller.blocks b = omega (arith, e) in
    let k : Passing = pass_block q.name b h in
    give_one q b qs args h (passed s qs args k) le
    (passed_well s over (before ++ give b ∷ []) qs args k p.1 a.1 (ready_give over before h.caller.blocks b args r le) (new_with q qs args h.callee (block_of h.caller.blocks b) a.0 n))

-- ---- the environments of a call

-- what the parameters declare
pub params_held : (line : ℕ) (over : Environment) (before : List Arg) (qs : List Param) (args : List Arg) (env start : Environment) (y : Name) → OwnsParams line qs env start → Passes over before qs args
    → (held_in start y ≡ held_in env y + taken_as qs args y) × (lent_in start y ≡ lent_in env y + lent_as qs args y) × (1 ≤ taken_as qs args y → seen_in env y ≡ 0) × Apart qs args
unfolding taken_as lent_as Apart
params_held line over before [] [] env start y o p =
    (ap (λ (v : Environment). held_in v y) o ∙ nothing_more (held_in env y), ap (λ (v : Environment). lent_in v y) o ∙ nothing_more (lent_in env y), λ le. absurd (omega (arith, le)), tt)
  where
    nothing_more : (n : ℕ) → n ≡ n + 0
    nothing_more n = omega arith
params_held line over before [] (a ∷ args) env start y o p = absurd p
params_held line over before (q ∷ qs) [] env start y o p = absurd p
params_held line over before (q ∷ qs) (value e ∷ args) env start y o p =
    let k : q.kind ≡ Tree.by_value = passes_number over before q.kind e p.0 in
    let s = fresh_unseen env q.name o.0 in
    let next : Environment = with_entry env (integer_entry q.name line) in
    let same : with_entry env (param_entry q line) ≡ next = ap (λ (j : ParamKind). with_entry env (param_entry (record { name = q.name; kind = j }) line)) k in
    let r = params_held line over (before ++ value e ∷ []) qs args next start y (subst (λ (v : Environment). OwnsParams line qs v start) same o.1) p.1 in
    let h = held_with_integer env q.name line y s in let l = lent_with_integer env q.name line y s in
    let v = found_with seen_entry env (integer_entry q.name line) y s in
    let r0 = r.0 in let r1 = r.1 in
    (omega (arith, r0, h), omega (arith, r1, l), λ le. let z = r.2 le in omega (arith, z, v), r.3)
params_held line over before (q ∷ qs) (lend b ∷ args) env start y o p =
    let k : q.kind ≡ Tree.lent = (passes_lend over before q.kind b p.0).0 in
    let s = fresh_unseen env q.name o.0 in
    let next : Environment = with_entry env (lent_entry q.name line) in
    let same : with_entry env (param_entry q line) ≡ next = ap (λ (j : ParamKind). with_entry env (param_entry (record { name = q.name; kind = j }) line)) k in
    let own = subst (λ (v : Environment). OwnsParams line qs v start) same o.1 in
    let r = params_held line over (before ++ lend b ∷ []) qs args next start y own p.1 in
    let mine = params_held line over (before ++ lend b ∷ []) qs args next start q.name own p.1 in
    let h = held_with_lent env q.name line y s in let l = lent_with_lent env q.name line y s in
    let v = found_with seen_entry env (lent_entry q.name line) y s in
    let r0 = r.0 in let r1 = r.1 in (
      omega (arith, r0, h),
      omega (arith, r1, l),
      λ le. unseen env q.name y s (taken_as qs args y) le (λ m. let z = r.2 m in omega (arith, z, v)),
      (own_name (taken_as qs args q.name) (seen_in next q.name) mine.2 (let w = found_with seen_entry env (lent_entry q.name line) q.name s in let b = seen_same q.name in omega (arith, w, b, s)), r.3),
    )
  where
    seen_same : (n : Name) → ◌≡◌ {A = ℕ} (if bytes_eq n n then 1 else 0) 1
    seen_same n = ap (λ (t : Bool). let r : ℕ = if t then 1 else 0 in r) (name_same n)

    own_name : (n m : ℕ) → (1 ≤ n → m ≡ 0) → m ≡ 1 → n ≡ 0
    own_name zero m f e = refl
    own_name (suc n) m f e = let z = f (omega arith) in absurd (omega (arith, z, e))

    unseen : (env : Environment) (a y : Name) → seen_in env a ≡ 0 → (n : ℕ) → 1 ≤ hit a y + n → (1 ≤ n → seen_in env y ≡ 0) → seen_in env y ≡ 0
    unseen env a y s n le f = by_names (λ (a : Name) (y : Name). seen_in env a ≡ 0 → 1 ≤ hit a y + n → (1 ≤ n → seen_in env y ≡ 0) → seen_in env y ≡ 0) a y
        (λ y s le f. s) (λ d s le f. let z = hit_other a y d in f (omega (arith, le, z))) s le f
params_held line over before (q ∷ qs) (give b ∷ args) env start y o p =
    let k : q.kind ≡ Tree.owned = (passes_give over before q.kind b p.0).0 in
    let s = fresh_unseen env q.name o.0 in
    let next : Environment = with_entry env (block_entry q.name line) in
    let same : with_entry env (param_entry q line) ≡ next = ap (λ (j : ParamKind). with_entry env (param_entry (record { name = q.name; kind = j }) line)) k in
    let own = subst (λ (v : Environment). OwnsParams line qs v start) same o.1 in
    let r = params_held line over (before ++ give b ∷ []) qs args next start y own p.1 in
    let mine = params_held line over (before ++ give b ∷ []) qs args next start q.name own p.1 in
    let h = held_with_block env q.name line y s in let l = lent_with_block env q.name line y s in
    let v = found_with seen_entry env (block_entry q.name line) y s in
    let r0 = r.0 in let r1 = r.1 in (
      omega (arith, r0, h),
      omega (arith, r1, l),
      λ le. unseen env q.name y s (taken_as qs args y) le (λ m. let z = r.2 m in omega (arith, z, v)),
      (own_name (taken_as qs args q.name) (seen_in next q.name) mine.2 (let w = found_with seen_entry env (block_entry q.name line) q.name s in let b = seen_same q.name in omega (arith, w, b, s)), r.3),
    )
  where
    seen_same : (n : Name) → ◌≡◌ {A = ℕ} (if bytes_eq n n then 1 else 0) 1
    seen_same n = ap (λ (t : Bool). let r : ℕ = if t then 1 else 0 in r) (name_same n)

    own_name : (n m : ℕ) → (1 ≤ n → m ≡ 0) → m ≡ 1 → n ≡ 0
    own_name zero m f e = refl
    own_name (suc n) m f e = let z = f (omega arith) in absurd (omega (arith, z, e))

    unseen : (env : Environment) (a y : Name) → seen_in env a ≡ 0 → (n : ℕ) → 1 ≤ hit a y + n → (1 ≤ n → seen_in env y ≡ 0) → seen_in env y ≡ 0
    unseen env a y s n le f = by_names (λ (a : Name) (y : Name). seen_in env a ≡ 0 → 1 ≤ hit a y + n → (1 ≤ n → seen_in env y ≡ 0) → seen_in env y ≡ 0) a y
        (λ y s le f. s) (λ d s le f. let z = hit_other a y d in f (omega (arith, le, z))) s le f

-- what is given away is held no more
pub held_gives : (over env : Environment) (before : List Arg) (qs : List Param) (args : List Arg) (x : Name) → Passes over before qs args
    → ((b : Name) → list_any (passes b) before ≡ false → held_in env b ≡ held_in over b) → held_in (after_gives env args) x + gives args x ≡ held_in env x
unfolding gives
held_gives over env before [] [] x p same = omega arith
held_gives over env before [] (a ∷ args) x p same = absurd p
held_gives over env before (q ∷ qs) [] x p same = absurd p
held_gives over env before (q ∷ qs) (value e ∷ args) x p same = held_gives over env (before ++ value e ∷ []) qs args x p.1 (λ b n. same b (any_append b before (value e) n).0)
held_gives over env before (q ∷ qs) (lend c ∷ args) x p same = held_gives over env (before ++ lend c ∷ []) qs args x p.1 (λ b n. same b (any_append b before (lend c) n).0)
held_gives over env before (q ∷ qs) (give c ∷ args) x p same =
    let one = passes_give over before q.kind c p.0 in
    let h : held_in env c ≡ 1 = same c one.2 ∙ (owned_block over c one.1).0 in
    let next : Environment = environments.without env c in
    let r = held_gives over next (before ++ give c ∷ []) qs args x p.1
    (λ b n. let two = any_append b before (give c) n in let w = held_without env c b h in let z = hit_other c b two.1 in let e = same b two.0 in omega (arith, w, z, e)) in
    let w = held_without env c x h in omega (arith, r, w)

-- ---- what comes back

pub lent_back_count : (over : Environment) (before : List Arg) (qs : List Param) (args : List Arg) (callee : List Held) (caller : Store) (x : Name) → Passes over before qs args
    → count (lent_back qs args callee caller).blocks x ≡ count caller.blocks x + lends args x
unfolding lent_back lends
lent_back_count over before [] [] callee caller x p = omega arith
lent_back_count over before [] (a ∷ args) callee caller x p = absurd p
lent_back_count over before (q ∷ qs) [] callee caller x p = absurd p
lent_back_count over before (q ∷ qs) (value e ∷ args) callee caller x p = lent_back_count over (before ++ value e ∷ []) qs args callee caller x p.1
lent_back_count over before (q ∷ qs) (lend b ∷ args) callee caller x p =
    let r = lent_back_count over (before ++ lend b ∷ []) qs args (without callee q.name) (hold_block b (block_of callee q.name) caller) x p.1 in
    let w = count_with caller.blocks b (block_of callee q.name) x in omega (arith, r, w)
lent_back_count over before (q ∷ qs) (give b ∷ args) callee caller x p = lent_back_count over (before ++ give b ∷ []) qs args callee caller x p.1

-- a name that is not held: nothing is dropped
pub without_less : (hs : List Held) (b x : Name) (n : ℕ) → count hs x ≤ hit b x + n → count (without hs b) x ≤ n
unfolding count
without_less [] b x n le = omega arith
without_less (h ∷ hs) b x n le = by (without_less hs b x) (bytes_eq h.name b) refl
  where
    by : ((n : ℕ) → count hs x ≤ hit b x + n → count (without hs b) x ≤ n) → (t : Bool) → bytes_eq h.name b ≡ t → count (if t then hs else h ∷ without hs b) x ≤ n
    by r true e = let m : hit h.name x ≡ hit b x = ap (λ (a : Name). hit a x) (same_name h.name b e) in omega (arith, m, le)
    by r false e = other (bytes_eq b x) refl
      where
        other : (u : Bool) → bytes_eq b x ≡ u → hit h.name x + count (without hs b) x ≤ n
        other true u =
            let z : hit h.name x ≡ 0 = hit_other h.name x (subst (λ (v : Name). bytes_eq h.name v ≡ false) (same_name b x u) e) in
            let q = r n (omega (arith, z, le)) in omega (arith, z, q)
        other false u = let z = hit_other b x u in let q = r (count hs x) (omega arith) in omega (arith, q, z, le)

-- a function that has nothing but what was lent to it gives all of it back
pub lent_back_exact : (over : Environment) (before : List Arg) (qs : List Param) (args : List Arg) (callee : List Held) (caller : Store) → Passes over before qs args
    → ((y : Name) → count callee y ≤ lent_as qs args y) → held_words (lent_back qs args callee caller).blocks ≡ held_words callee + held_words caller.blocks
unfolding lent_back lent_as
lent_back_exact over before [] [] callee caller p few = let z : held_words callee ≡ 0 = ap held_words (none_held callee (λ y. let l = few y in omega (arith, l))) in omega (arith, z)
lent_back_exact over before [] (a ∷ args) callee caller p few = absurd p
lent_back_exact over before (q ∷ qs) [] callee caller p few = absurd p
lent_back_exact over before (q ∷ qs) (value e ∷ args) callee caller p few = lent_back_exact over (before ++ value e ∷ []) qs args callee caller p.1 few
lent_back_exact over before (q ∷ qs) (lend b ∷ args) callee caller p few =
    let r = lent_back_exact over (before ++ lend b ∷ []) qs args (without callee q.name) (hold_block b (block_of callee q.name) caller) p.1
    (λ y. without_less callee q.name y (lent_as qs args y) (few y)) in
    let w = with_words caller.blocks b (block_of callee q.name) in let d = without_words callee q.name in omega (arith, r, w, d)
lent_back_exact over before (q ∷ qs) (give b ∷ args) callee caller p few = lent_back_exact over (before ++ give b ∷ []) qs args callee caller p.1 few

-- the sizes of what comes back
pub lent_size_same : (f g : Name → ℕ) (qs : List Param) (args : List Arg) (x : Name) → ((y : Name) → 1 ≤ lent_as qs args y → f y ≡ g y) → lent_size f qs args x ≡ lent_size g qs args x
unfolding lent_size lent_as
lent_size_same f g [] args x e = refl
lent_size_same f g (q ∷ qs) [] x e = refl
lent_size_same f g (q ∷ qs) (value v ∷ args) x e = lent_size_same f g qs args x e
lent_size_same f g (q ∷ qs) (lend b ∷ args) x e =
    let r = lent_size_same f g qs args x (λ y le. e y (omega (arith, le))) in
    let s : f q.name ≡ g q.name = e q.name (let o = hit_same q.name in omega (arith, o)) in
    let w : weigh b x (f q.name) ≡ weigh b x (g q.name) = ap (weigh b x) s in omega (arith, r, w)
lent_size_same f g (q ∷ qs) (give b ∷ args) x e = lent_size_same f g qs args x e

pub lent_taken : (qs : List Param) (args : List Arg) (y : Name) → lent_as qs args y ≤ taken_as qs args y
unfolding lent_as taken_as
lent_taken [] args y = omega arith
lent_taken (q ∷ qs) [] y = omega arith
lent_taken (q ∷ qs) (value e ∷ args) y = lent_taken qs args y
lent_taken (q ∷ qs) (lend b ∷ args) y = let r = lent_taken qs args y in omega (arith, r)
lent_taken (q ∷ qs) (give b ∷ args) y = let r = lent_taken qs args y in omega (arith, r)

without_fewer : (hs : List Held) (b x : Name) → count (without hs b) x ≤ count hs x
without_fewer hs b x = without_less hs b x (count hs x) (omega arith)

pub lent_back_size : (over : Environment) (before : List Arg) (qs : List Param) (args : List Arg) (callee : List Held) (caller : Store) (x : Name) → Passes over before qs args → Apart qs args
    → ((y : Name) → count callee y ≤ 1) → size (lent_back qs args callee caller).blocks x ≡ size caller.blocks x + lent_size (size callee) qs args x
unfolding lent_back lent_size Apart
lent_back_size over before [] [] callee caller x p a one = omega arith
lent_back_size over before [] (b ∷ args) callee caller x p a one = absurd p
lent_back_size over before (q ∷ qs) [] callee caller x p a one = absurd p
lent_back_size over before (q ∷ qs) (value e ∷ args) callee caller x p a one = lent_back_size over (before ++ value e ∷ []) qs args callee caller x p.1 a one
lent_back_size over before (q ∷ qs) (lend b ∷ args) callee caller x p a one =
    let xs : List ℤ = block_of callee q.name in
    let r = lent_back_size over (before ++ lend b ∷ []) qs args (without callee q.name) (hold_block b xs caller) x p.1 a.1
    (λ y. let w = without_fewer callee q.name y in let o = one y in omega (arith, w, o)) in
    let w = size_with caller.blocks b xs x in
    let s : weigh b x (size callee q.name) ≡ weigh b x (length xs) = ap (weigh b x) (size_one callee q.name (one q.name)) in
    let l = lent_size_same (size (without callee q.name)) (size callee) qs args x
    (λ y le. let t = lent_taken qs args y in other q.name y xs (λ e. let z = a.0 in let zz : taken_as qs args y ≡ 0 = subst (λ (n : Name). taken_as qs args n ≡ 0) e z in omega (arith, zz, t, le))) in
    omega (arith, r, w, s, l)
  where
    other : (n y : Name) (xs : List ℤ) → (n ≡ y → ⊥) → size (without callee n) y ≡ size callee y
    other n y xs never = by (bytes_eq n y) refl
      where
        by : (t : Bool) → bytes_eq n y ≡ t → size (without callee n) y ≡ size callee y
        by true e = absurd (never (same_name n y e))
        by false e = let d = size_without callee n y in let z = weigh_other n y (length (block_of callee n)) e in omega (arith, d, z)
lent_back_size over before (q ∷ qs) (give b ∷ args) callee caller x p a one = lent_back_size over (before ++ give b ∷ []) qs args callee caller x p.1 a.1 one

function_or : Func → Option Func → Func
function_or a None = a
function_or a (Some b) = b

same_function : (a b : Func) → ◌≡◌ {A = Option Func} (Some a) (Some b) → a ≡ b
unfolding function_or
same_function a b e = ap (function_or a) e

-- a function of the program keeps the rules
pub function_owned : (p : Program) (fs : List Func) (f : Name) (g : Func) → find (λ (h : Func). bytes_eq h.name f) fs ≡ Some g → OwnsFunctions p fs → OwnsFunction p g
function_owned p [] f g e o = let never : ⊥ = cc in absurd never
function_owned p (h ∷ fs) f g e o = by (function_owned p fs f g) (bytes_eq h.name f) e
  where
    by : (find (λ (h : Func). bytes_eq h.name f) fs ≡ Some g → OwnsFunctions p fs → OwnsFunction p g) → (t : Bool) → (if t then Some h else find (λ (h : Func). bytes_eq h.name f) fs) ≡ Some g → OwnsFunction p g
    by r true e = subst (λ (v : Func). OwnsFunction p v) (same_function h g e) o.0
    by r false e = r e o.1
