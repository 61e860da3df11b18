-- What stands at the end of a call and of a `split`.
use Rattle.std.specs.Prelude.{◌≡◌, ℕ, zero, suc, ◌+◌, ◌*◌, ◌/◌, ◌%◌, ◌≤◌, ◌&&◌, if◌then◌else◌, nat_le, nat_eq, Bool, true, false, not, List, [], ◌∷◌, ◌⊎◌, length, ℤ, pos, negsuc, Option, Some, None, refl}
use Rattle.std.specs.List.{list_all}
use Rattle.std.proofs.Common.{inl, inr, sym, ◌∙◌, ap, arith, subst}
use Rattle.depth_first_run.specs.Passed.Tree.{Name, Program, Arg, value, lend, give, Target, unused, integer, block, Param, Ret, RetValue, gives, hands, Func}
use borrow.Author.Tests.{leb-true, eqb-true}
use Rattle.depth_first_run.specs.Passed.Names.{names_in_target}
use Rattle.depth_first_run.specs.Passed.Environment as environments
use Rattle.depth_first_run.specs.Passed.Environment.{Environment, is_released, opened}
use Rattle.depth_first_run.specs.Passed.Ownership.{IsTarget, IsOwned, Passes, OwnsAll, OwnsReturn, OwnsValue, OwnsFunction, OwnsFunctions, hands_back}
use Rattle.depth_first_run.specs.Stores
use Rattle.depth_first_run.specs.Stores.{Store, block_of}
use Rattle.depth_first_run.specs.States.{Setting, State}
use Rattle.depth_first_run.specs.Calls.{Passing, entered}
use Rattle.depth_first_run.specs.Run.{run, cut_of, cut_block, on_store}
use Rattle.thread_points.specs.Points.{Each}
use Rattle.ownership_laws.specs.Counts.{hit, count, held_in, lent_in, held_entry, lent_entry_of}
use Rattle.ownership_laws.proofs.Counting.{by_names, name_same, hit_other, owned_block, fresh_unseen, unseen_none, held_without, none_counted, empty_found}
use Rattle.ownership_laws.proofs.Environments.{held_at_most_one, released_held, lent_back_in, lent_most, lent_like, like_marked}
use Rattle.ownership_laws.proofs.Tame.{tame_all}
use Rattle.ownership_laws.proofs.Moves.{Way, stopped, went}
use Rattle.ownership_laws.proofs.Passing.{taken_as, lent_as, lends, lent_taken, Passed, params_held}
use Rattle.ownership_laws.proofs.Statements.{Agrees, SplitEnds, left_stays, parts_length}
use Rattle.ownership_laws.proofs.Owned.{ran_run}
use Rattle.ownership_laws.proofs.Fitting.{FitsBody, function_fits}
use Rattle.language_limits.specs.declared.TheConstants.{LONGEST_BLOCK}
use Rattle.ownership_laws.specs.Holdings.{OneEach, AreShort, taken_under, lent_under, given_back_under, answered_under, handed_by, handed_out, EndsCall, EndsSplit}
use Rattle.ownership_laws.specs.PointLaws.{KeepsTheCut}
use Rattle.ownership_laws.proofs.Single.{IsSingle, Single}

-- ---- the numbers of a call in the words of the laws below

pub taken_is : (qs : List Param) (args : List Arg) (x : Name) → taken_under qs args x ≡ taken_as qs args x
unfolding taken_as
taken_is [] args x = refl
taken_is (q ∷ qs) [] x = refl
taken_is (q ∷ qs) (value e ∷ args) x = taken_is qs args x
taken_is (q ∷ qs) (lend b ∷ args) x = ap (λ n. hit q.name x + n) (taken_is qs args x)
taken_is (q ∷ qs) (give b ∷ args) x = ap (λ n. hit q.name x + n) (taken_is qs args x)

lent_is : (qs : List Param) (args : List Arg) (x : Name) → lent_under qs args x ≡ lent_as qs args x
unfolding lent_as
lent_is [] args x = refl
lent_is (q ∷ qs) [] x = refl
lent_is (q ∷ qs) (value e ∷ args) x = lent_is qs args x
lent_is (q ∷ qs) (lend b ∷ args) x = ap (λ n. hit q.name x + n) (lent_is qs args x)
lent_is (q ∷ qs) (give b ∷ args) x = lent_is qs args x

back_is : (args : List Arg) (x : Name) → given_back_under args x ≡ lends args x
unfolding lends
back_is [] x = refl
back_is (value e ∷ args) x = back_is args x
back_is (lend b ∷ args) x = ap (λ n. hit b x + n) (back_is args x)
back_is (give b ∷ args) x = back_is args x

pub taken_none : (x : Name) → taken_as [] [] x ≡ 0
unfolding taken_as
taken_none x = refl

pub lent_none : (x : Name) → lent_as [] [] x ≡ 0
unfolding lent_as
lent_none x = refl

-- ---- the end of a call

-- what a function has in its environments
record Holds (start end : Environment) (params : List Param) (args : List Arg) : Type 0 where
  held : (y : Name) → held_in start y ≡ taken_as params args y
  lent : (y : Name) → lent_in start y ≡ lent_as params args y
  kept : (y : Name) → lent_in start y ≡ 1 → held_in end y ≡ held_in start y
  back : (y : Name) → lent_in end y ≡ lent_in start y

-- where all that is left to the function is lent to it
lent_alone : (start end : Environment) (params : List Param) (args : List Arg) → Holds start end params args → (y : Name) → held_in end y ≤ lent_in end y → held_in end y ≡ lent_as params args y
lent_alone start end params args h y le = by (lent_in start y) refl
  where
    by : (n : ℕ) → lent_in start y ≡ n → held_in end y ≡ lent_as params args y
    by zero e = let b = h.back y in let l = h.lent y in omega (arith, e, b, l, le)
    by (suc n) e =
        let m = lent_most start y in
        let one : lent_in start y ≡ 1 = omega (arith, e, m) in
        let k = h.kept y one in let s = h.held y in let o = held_at_most_one start y in let l = h.lent y in let t = lent_taken params args y in
        omega (arith, k, s, o, l, t, one)

-- and where it has a block of its own that it hands out
one_more : (start end : Environment) (params : List Param) (args : List Arg) (b : Name) → Holds start end params args → IsOwned end b
    → list_all is_released (environments.without end b) ≡ true → (y : Name) → held_in end y ≡ lent_as params args y + hit b y
one_more start end params args b h own rel y =
    by_names (λ (b : Name) (y : Name). (held_in end b ≡ 1) → (lent_in end b ≡ 0) → list_all is_released (environments.without end b) ≡ true → held_in end y ≡ lent_as params args y + hit b y) b y
    (λ x p q r. let l = h.lent x in let k = h.back x in let t = Rattle.ownership_laws.proofs.Counting.hit_same x in omega (arith, p, q, l, k, t))
    (λ d p q r.
    let z = hit_other b y d in
    let w = held_without end b y p in let rh = released_held (environments.without end b) y r in
    let ll = lent_like end (environments.without end b) y (like_marked end b false) in
    let e = lent_alone start end params args h y (omega (arith, z, w, rh, ll)) in omega (arith, e, z))
    (owned_block end b own).0 (owned_block end b own).1 rel

value_ends : (start end after : Environment) (params : List Param) (args : List Arg) (v : RetValue) → Holds start end params args → OwnsValue v end after → list_all is_released after ≡ true
    → (y : Name) → held_in end y ≡ lent_under params args y + handed_by v y
value_ends start end after params args (gives e) h own rel y =
    let all = subst (λ (n : Environment). list_all is_released n ≡ true) own.1 rel in
    let l = lent_is params args y in let k = lent_alone start end params args h y (released_held end y all) in omega (arith, l, k)
value_ends start end after params args (hands b) h own rel y =
    let all = subst (λ (n : Environment). list_all is_released n ≡ true) own.1 rel in
    let l = lent_is params args y in let k = one_more start end params args b h own.0 all y in omega (arith, l, k)

return_ends : (start end after : Environment) (params : List Param) (args : List Arg) (ret : Option Ret) → Holds start end params args → OwnsReturn ret end after → list_all is_released after ≡ true
    → (y : Name) → held_in end y ≡ lent_under params args y + handed_out ret y
return_ends start end after params args None h own rel y =
    let all = subst (λ (n : Environment). list_all is_released n ≡ true) own rel in
    let l = lent_is params args y in let k = lent_alone start end params args h y (released_held end y all) in omega (arith, l, k)
return_ends start end after params args (Some r) h own rel y = value_ends start end after params args r.value h own rel y

-- the target is new, so the caller has no block of its name
target_meets : (env : Environment) (t : Target) (args : List Arg) (s : Store) (caller : Name → ℕ) → IsTarget env t → ((x : Name) → names_in_target x t ≡ true → count s.blocks x ≡ held_in env x) → OneEach s
    → ((x : Name) → caller x + given_back_under args x ≤ count s.blocks x) → (x : Name) → caller x + (given_back_under args x + answered_under t x) ≤ 1
target_meets env unused args s caller i agrees one le x = let l = le x in let o = one x in omega (arith, l, o)
target_meets env (integer y) args s caller i agrees one le x = let l = le x in let o = one x in omega (arith, l, o)
target_meets env (block b) args s caller i agrees one le x =
    by_names (λ (b : Name) (x : Name). count s.blocks b ≡ 0 → caller x + (given_back_under args x + hit b x) ≤ 1) b x
    (λ y z. let l = le y in let h = Rattle.ownership_laws.proofs.Counting.hit_same y in omega (arith, z, l, h))
    (λ d z. let l = le x in let o = one x in let h = hit_other b x d in omega (arith, l, o, h))
    (agrees b (name_same b) ∙ unseen_none held_entry 0 env b (fresh_unseen env b i))

-- the state in which a function begins, what its body comes to, and what stands at its end
pub record Function (c : Setting) (g : Func) (args : List Arg) (t : Target) (v : State) : Type 0 where
  pub single : Single v
  pub body : FitsBody c g.body v
  pub ends : ((run c g.body v).faulted ≡ true) ⊎ EndsCall g.ret g.params args t (run c g.body v)

pub function_ends : (c : Setting) → OwnsFunctions c.program c.program → (env : Environment) (g : Func) (args : List Arg) (t : Target) (h : Passing) (s u : State) → OwnsFunction c.program g → Passes env [] g.params args
    → Passed g.params args (record { callee = Stores.nothing; caller = s.store }) h → IsTarget env t → ((x : Name) → names_in_target x t ≡ true → count s.store.blocks x ≡ held_in env x)
    → AreShort h.caller.blocks × AreShort h.callee.blocks → Single s → u.faulted ≡ false → u.callers ≡ s.callers → Function c g args t (entered h u)
unfolding Agrees
function_ends c all env g args t h s u owns passes passed target agrees short one f callers =
    let v : State = entered h u in
    let start : Environment = owns.0 in let end : Environment = owns.2.0 in
    let held : (y : Name) → held_in start y ≡ taken_as g.params args y =
    λ y. let p = (params_held g.line env [] g.params args [] start y owns.1 passes).0 in let z = empty_found held_entry y in omega (arith, p, z) in
    let lent : (y : Name) → lent_in start y ≡ lent_as g.params args y =
    λ y. let p = (params_held g.line env [] g.params args [] start y owns.1 passes).1 in let z = empty_found lent_entry_of y in omega (arith, p, z) in
    let taken : (y : Name) → count v.store.blocks y ≡ taken_as g.params args y = λ y. let a = passed.callee y in let z = none_counted y in omega (arith, a, z) in
    let holds : (y : Name) → count v.store.blocks y ≡ held_in start y = λ y. taken y ∙ sym (held y) in
    let keeps : Holds start end g.params args = record {
      held = held;
      lent = lent;
      kept = λ y k. (tame_all c.program g.body start end y owns.2.1).lents k;
      back = λ y. lent_back_in start end y (tame_all c.program g.body start end y owns.2.1).follows;
    } in
    let le : (x : Name) → count h.caller.blocks x + given_back_under args x ≤ count s.store.blocks x = λ x. let a = passed.caller x in let b = back_is args x in omega (arith, a, b) in
    let caller_one : OneEach h.caller = λ x. let a = le x in let o = one.0.0 x in omega (arith, a, o) in
    record {
      single = (
        (λ y. let a = holds y in let o = held_at_most_one start y in omega (arith, a, o), short.1),
        ((caller_one, short.0), subst (λ cs. Each IsSingle cs) (sym callers) one.1),
      );
      body = (function_fits c all env g args v owns passes f taken).0;
      ends = by (run c g.body v) holds keeps (target_meets env t args s.store (count h.caller.blocks) target agrees one.0.0 le) (ran_run c all g.body start end v owns.2.1 f (λ y n. holds y)).way;
    }
  where
    by : (w : State) → ((y : Name) → count h.callee.blocks y ≡ held_in owns.0 y) → Holds owns.0 owns.2.0 g.params args → ((x : Name) → count h.caller.blocks x + (given_back_under args x + answered_under t x) ≤ 1)
        → Way owns.0 owns.2.0 (entered h u) w → (w.faulted ≡ true) ⊎ EndsCall g.ret g.params args t w
    by w holds keeps meets (stopped k) = inl k.faulted
    by w holds keeps meets (went m) = inr (record {
      caller = h.caller;
      older = u.callers;
      waits = m.callers;
      holds = λ y.
          let a = m.counts y in let b = holds y in
          let e = return_ends owns.0 owns.2.0 owns.2.2.0 g.params args g.ret keeps owns.2.2.1 owns.2.2.2 y in omega (arith, a, b, e);
      meets_none = meets;
    })

-- ---- the end of a `split`

or_zero : Option ℕ → ℕ
or_zero None = 0
or_zero (Some n) = n

-- a block is cut between two pieces, within the block
pub cut_is : (items : List ℤ) (v : ℤ) (at : ℕ) → cut_of items v ≡ Some at → (at ≤ length items) × (at ≡ 16 * (at / 16))
unfolding or_zero
cut_is items (negsuc n) at e = let never : ⊥ = cc in absurd never
cut_is items (pos n) at e = by (nat_le n (length items)) refl (nat_eq (n % 16) 0) refl e
  where
    by : (x : Bool) → nat_le n (length items) ≡ x → (y : Bool) → nat_eq (n % 16) 0 ≡ y → (let r : Option ℕ = if x && y then Some n else None in r) ≡ Some at
        → (at ≤ length items) × (at ≡ 16 * (at / 16))
    by true le true whole k =
        let same : n ≡ at = ap or_zero k in
        let few = leb-true n (length items) le in let rest = eqb-true (n % 16) 0 whole in
        let here : (n ≤ length items) × (n ≡ 16 * (n / 16)) = (few, omega (arith, rest)) in
        subst (λ m. (m ≤ length items) × (m ≡ 16 * (m / 16))) same here
    by true le false whole k = let never : ⊥ = cc in absurd never
    by false le y whole k = let never : ⊥ = cc in absurd never

pub parts_end : (env end : Environment) (b l r : Name) (line at q : ℕ) (s v : State) → SplitEnds env end b l r line → at ≤ length (block_of s.store.blocks b) → at ≡ 16 * q
    → count s.store.blocks b ≡ 1 → count s.store.blocks l ≡ 0 → count s.store.blocks r ≡ 0 → length (block_of s.store.blocks b) ≤ LONGEST_BLOCK
    → Way (opened env b l r line) end (on_store (cut_block b l r at) s) v → (v.faulted ≡ true) ⊎ EndsSplit b l r v
parts_end env end b l r line at q s v ends le whole cb cl cr few (stopped k) = inl k.faulted
parts_end env end b l r line at q s v ends le whole cb cl cr few (went m) =
    let left = left_stays env end b l r line at s v ends le cb cl cr m in
    let both = parts_length env end b l r line at s v ends le cb cl cr m in
    inr (record { none = left.0; apart = ends.two; pieces = q; whole = left.1 ∙ whole; short = omega (arith, both, few) })

pub cut_kept : (env end : Environment) (b l r : Name) (line at : ℕ) (s v : State) → SplitEnds env end b l r line → at ≤ length (block_of s.store.blocks b)
    → count s.store.blocks b ≡ 1 → count s.store.blocks l ≡ 0 → count s.store.blocks r ≡ 0
    → Way (opened env b l r line) end (on_store (cut_block b l r at) s) v → KeepsTheCut l at v
cut_kept env end b l r line at s v ends le cb cl cr (stopped k) = inl k.faulted
cut_kept env end b l r line at s v ends le cb cl cr (went m) = inr (left_stays env end b l r line at s v ends le cb cl cr m).1

-- ---- the end of `main`

no_answer : (ret : Option Ret) (x : Name) → hands_back ret ≡ false → handed_out ret x ≡ 0
no_answer None x e = refl
no_answer (Some r) x e = by r.value e
  where
    by : (v : RetValue) → hands_back (Some (record { line = r.line; value = v })) ≡ false → handed_by v x ≡ 0
    by (gives y) e = refl
    by (hands b) e = let never : ⊥ = cc in absurd never

not_true : (b : Bool) → not b ≡ true → b ≡ false
not_true true e = let never : ⊥ = cc in absurd never
not_true false e = refl

pub main_ends : (p : Program) (g : Func) (end after : Environment) (s t : State) → OwnsAll p g.body [] end → ((y : Name) → count s.store.blocks y ≡ held_in [] y) → not (hands_back g.ret) ≡ true
    → OwnsReturn g.ret end after → list_all is_released after ≡ true → Way [] end s t → (t.faulted ≡ true) ⊎ ((x : Name) → count t.store.blocks x ≡ 0)
main_ends p g end after s t all holds hb owns rel (stopped k) = inl k.faulted
main_ends p g end after s t all holds hb owns rel (went m) = inr (λ x.
    let keeps : Holds [] end [] [] = record {
      held = λ y. empty_found held_entry y ∙ none_taken y;
      lent = λ y. empty_found lent_entry_of y ∙ none_lent y;
      kept = λ y k. (tame_all p g.body [] end y all).lents k;
      back = λ y. lent_back_in [] end y (tame_all p g.body [] end y all).follows;
    } in
    let a = m.counts x in let b = holds x in
    let e = return_ends [] end after [] [] g.ret keeps owns rel x in
    let z = no_answer g.ret x (not_true (hands_back g.ret) hb) in omega (arith, a, b, e, z))
  where
    none_taken : (y : Name) → 0 ≡ taken_as [] [] y
    none_taken y = sym (taken_none y)

    none_lent : (y : Name) → 0 ≡ lent_as [] [] y
    none_lent y = sym (lent_none y)
