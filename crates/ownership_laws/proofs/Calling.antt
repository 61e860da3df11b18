-- A call moves what its thread holds as its environments say.
use Rattle.std.specs.Prelude.{◌≡◌, ℕ, ◌+◌, ◌≤◌, ◌<◌, true, false, List, [], ◌∷◌, length, ℤ, pos, ◌+ℤ◌, Result, Ok, Err, Option, Some, None, refl}
use Rattle.std.specs.Str.{bytes_eq}
use Rattle.std.specs.List.{list_all}
use Rattle.std.proofs.Common.{sym, ◌∙◌, ap, arith, subst}
use Rattle.std.proofs.lemmas.Int.{ints}
use Rattle.thread_points.specs.Passed.FaultKind.{FaultKind}
use Rattle.depth_first_run.specs.Passed.Tree.{Name, Expr, Program, Arg, Param, Target, unused, integer, block, Func, Ret, RetValue, gives, hands, call_stmt, Body}
use Rattle.depth_first_run.specs.Passed.Environment as environments
use Rattle.depth_first_run.specs.Passed.Environment.{Environment, block_entry, with_entry, after_gives, after_answer, is_released}
use Rattle.depth_first_run.specs.Passed.Names.{names_in_args, names_in_target, names_in_stmt, names_in_body}
use Rattle.depth_first_run.specs.Passed.Ownership.{IsTarget, IsOwned, Passes, OwnsAll, OwnsReturn, OwnsValue, OwnsFunction, OwnsFunctions, hands_back, takes_answer, function_of}
use Rattle.depth_first_run.specs.Stores
use Rattle.depth_first_run.specs.Stores.{Store, block_of, block_words, held_words, stored_words, drop_block, without, hold_block}
use Rattle.depth_first_run.specs.Values.{value, Outcome}
use Rattle.depth_first_run.specs.States
use Rattle.depth_first_run.specs.States.{Setting, State, with_number, unless_faulted, holdings}
use Rattle.depth_first_run.specs.Calls
use Rattle.depth_first_run.specs.Calls.{Passing, all_passed, entered, Answer, end_call, returned, with_answer, with_return, as_number, lent_back, answered}
use Rattle.depth_first_run.specs.Run.{run_callee, call_with, call_function, room, run}
use Rattle.depth_first_run.proofs.Words.{without_words, with_words, answer_words, PassesWords, passed_words, passes_same, both_words}
use Rattle.depth_first_run.proofs.Fixed.{room_fewer}
use Rattle.ownership_laws.specs.Counts.{hit, count, held_in, seen_in, lent_in, held_entry, lent_entry_of}
use Rattle.ownership_laws.proofs.Counting.{by_names, hit_other, count_with, count_without, owned_block, fresh_unseen, held_without, none_counted, empty_found}
use Rattle.ownership_laws.proofs.Environments.{seen_like, held_at_most_one, released_held, lent_seen, lent_follows, like_marked, lent_like, lent_most, lent_back_in}
use Rattle.ownership_laws.proofs.Tame.{held_with_block, like_gives, tame_all}
use Rattle.ownership_laws.specs.Holdings.{AreShort}
use Rattle.ownership_laws.proofs.Sizes.{size, weigh_other, size_with, size_without}
use Rattle.ownership_laws.proofs.Short.{short_block, short_without, PassesShort, passed_short, short_back, IsShort, short_answered}
use Rattle.ownership_laws.proofs.Moves.{Exact, exact_trans, exact_quiet, Moved, Way, stopped, went, Ran, ran_fault, ran_with_depth, ran_with_turn, unless_stopped, unless_running, live, stops}
use Rattle.ownership_laws.proofs.Passing.{lends, taken_as, lent_as, lent_size, or_left, or_right, Ready, Passed, PassedWell, NewNames, Apart, passed_well, params_held, held_gives, lent_back_count, lent_back_exact, lent_size_same, lent_back_size, function_owned}
use Rattle.ownership_laws.proofs.Passing as passing
use Rattle.ownership_laws.proofs.Statements.{Agrees, went_ran, differs, weigh_unless}

-- what holds of each run of a list of statements with less room than n
unfoldable pub Good : Setting → ℕ → Type 0
Good c n = (b : Body) (env after : Environment) (s : State) → room c s < n → OwnsAll c.program b env after → s.faulted ≡ false
    → Agrees (λ x. names_in_body x b) env s.store → Ran env after s (run c b s)

-- an answer that the target takes
unfoldable Fits : Target → Answer → Type 0
Fits unused (Calls.number v) = Unit {0}
Fits unused (Calls.items xs) = ⊥
Fits (integer x) (Calls.number v) = Unit {0}
Fits (integer x) (Calls.items xs) = ⊥
Fits (block b) (Calls.number v) = ⊥
Fits (block b) (Calls.items xs) = Unit {0}

fits_number : (t : Target) (v : ℤ) → takes_answer t false ≡ true → Fits t (Calls.number v)
unfolding Fits
fits_number unused v e = tt
fits_number (integer x) v e = tt
fits_number (block b) v e = let never : ⊥ = cc in absurd never

fits_items : (t : Target) (xs : List ℤ) → takes_answer t true ≡ true → Fits t (Calls.items xs)
unfolding Fits
fits_items unused xs e = let never : ⊥ = cc in absurd never
fits_items (integer x) xs e = let never : ⊥ = cc in absurd never
fits_items (block b) xs e = tt

-- the block that the target declares
pub target_hit : Target → Name → ℕ
target_hit unused x = 0
target_hit (integer y) x = 0
target_hit (block b) x = hit b x

answered_count : (t : Target) (a : Answer) (s : Store) (x : Name) → Fits t a → count (answered t a s).blocks x ≡ count s.blocks x + target_hit t x
unfolding Fits target_hit
answered_count unused (Calls.number v) s x f = omega arith
answered_count unused (Calls.items xs) s x f = absurd f
answered_count (integer y) (Calls.number v) s x f = omega arith
answered_count (integer y) (Calls.items xs) s x f = absurd f
answered_count (block b) (Calls.number v) s x f = absurd f
answered_count (block b) (Calls.items xs) s x f = count_with s.blocks b xs x

answered_exact : (t : Target) (a : Answer) (s : Store) → Fits t a → held_words (answered t a s).blocks ≡ held_words s.blocks + answer_words a
unfolding Fits
answered_exact unused (Calls.number v) s f = omega arith
answered_exact unused (Calls.items xs) s f = absurd f
answered_exact (integer y) (Calls.number v) s f = omega arith
answered_exact (integer y) (Calls.items xs) s f = absurd f
answered_exact (block b) (Calls.number v) s f = absurd f
answered_exact (block b) (Calls.items xs) s f = with_words s.blocks b xs

answered_size : (t : Target) (a : Answer) (s : Store) (x : Name) → target_hit t x ≡ 0 → size (answered t a s).blocks x ≡ size s.blocks x
unfolding target_hit
answered_size unused a s x z = refl
answered_size (integer y) (Calls.number v) s x z = refl
answered_size (integer y) (Calls.items xs) s x z = refl
answered_size (block b) (Calls.number v) s x z = refl
answered_size (block b) (Calls.items xs) s x z = let w = size_with s.blocks b xs x in let o = weigh_unless b x (length xs) z in omega (arith, w, o)

held_answer : (env mid : Environment) (t : Target) (line : ℕ) (x : Name) → ((b : Name) → seen_in mid b ≡ seen_in env b) → IsTarget env t → held_in (after_answer mid t line) x ≡ held_in mid x + target_hit t x
unfolding target_hit
held_answer env mid unused line x s i = omega arith
held_answer env mid (integer y) line x s i = omega arith
held_answer env mid (block b) line x s i = held_with_block mid b line x (s b ∙ fresh_unseen env b i)

target_new : (env : Environment) (t : Target) (x : Name) → IsTarget env t → seen_in env x ≡ 1 → target_hit t x ≡ 0
unfolding target_hit
target_new env unused x i s = refl
target_new env (integer y) x i s = refl
target_new env (block b) x i s = hit_other b x (differs env b x (fresh_unseen env b i) s)

-- ---- the end of a call

returned_is : (params : List Param) (args : List Arg) (t : Target) (a : Answer) (v : State) (caller : Store) (callers : List Store) → v.callers ≡ caller ∷ callers
    → returned params args t a v ≡ end_call (caller ∷ callers) params args t a v
unfolding returned
returned_is params args t a v caller callers e = ap (λ cs. end_call cs params args t a v) e

-- what the call was made with
record Made (env : Environment) (params : List Param) (args : List Arg) (t : Target) (h : Passing) (s : State) : Type 0 where
  target : IsTarget env t
  passes : Passes env [] params args
  passed : Passed params args (record { callee = Stores.nothing; caller = s.store }) h
  apart : Apart params args
  short : AreShort s.store.blocks → AreShort h.caller.blocks × AreShort h.callee.blocks

-- what the function leaves behind its `return`
record Left (params : List Param) (args : List Arg) (h : Passing) (s v : State) : Type 0 where
  running : v.faulted ≡ false
  callers : v.callers ≡ h.caller ∷ s.callers
  few : (y : Name) → count v.store.blocks y ≤ lent_as params args y
  one : (y : Name) → count v.store.blocks y ≤ 1
  sizes : (y : Name) → 1 ≤ lent_as params args y → size v.store.blocks y ≡ size h.callee.blocks y
  short : AreShort s.store.blocks → AreShort v.store.blocks

ran_returned : (env : Environment) (line : ℕ) (params : List Param) (args : List Arg) (t : Target) (a : Answer) (h : Passing) (s v : State)
    → Made env params args t h s → Left params args h s v → Fits t a → (AreShort s.store.blocks → IsShort a)
    → (pos (holdings v + answer_words a) +ℤ live s.items) ≡ (pos (holdings s) +ℤ live v.items)
    → Ran env (after_answer (after_gives env args) t line) s (returned params args t a v)
ran_returned env line params args t a h s v m l f few e =
    let w : State = end_call (h.caller ∷ s.callers) params args t a v in
    let back : Store = lent_back params args v.store.blocks h.caller in
    let after : Environment = after_answer (after_gives env args) t line in
    let x1 = lent_back_exact env [] params args v.store.blocks h.caller m.passes l.few in
    let x2 = answered_exact t a back f in
    let x3 : stored_words v.callers ≡ held_words h.caller.blocks + stored_words s.callers = ap stored_words l.callers in
    let words : holdings w ≡ holdings v + answer_words a = omega (arith, x1, x2, x3) in
    subst (λ r. Ran env after s r) (sym (returned_is params args t a v h.caller s.callers l.callers))
    (went_ran env after s w (record { same = ap (λ n. pos n +ℤ live s.items) words ∙ e })
    (record {
      running = l.running;
      callers = refl;
      counts = λ x.
          let c1 = answered_count t a back x f in
          let c2 = lent_back_count env [] params args v.store.blocks h.caller x m.passes in
          let c3 = m.passed.caller x in
          let g = held_gives env env [] params args x m.passes (λ b n. refl) in
          let k = held_answer env (after_gives env args) t line x (λ b. seen_like env (after_gives env args) b (like_gives env args)) m.target in
          omega (arith, c1, c2, c3, g, k);
      sizes = λ x p q.
          let z = target_new env t x m.target p in
          let g = held_gives env env [] params args x m.passes (λ b n. refl) in
          let k = held_answer env (after_gives env args) t line x (λ b. seen_like env (after_gives env args) b (like_gives env args)) m.target in
          let one = held_at_most_one env x in
          let none : passing.gives args x ≡ 0 = omega (arith, z, g, k, one, q) in
          let s1 = answered_size t a back x z in
          let s2 = lent_back_size env [] params args v.store.blocks h.caller x m.passes m.apart l.one in
          let s3 = lent_size_same (size v.store.blocks) (size h.callee.blocks) params args x l.sizes in
          let s4 = m.passed.sizes x none in
          omega (arith, s1, s2, s3, s4);
      short = λ p. short_answered t a back (few p) (short_back params args v.store.blocks h.caller (l.short p) (m.short p).0);
    }))

-- the environments of the function
record Body_ends (p : Program) (g : Func) (args : List Arg) (start end : Environment) : Type 0 where
  all : OwnsAll p g.body start end
  held : (y : Name) → held_in start y ≡ taken_as g.params args y
  lent : (y : Name) → lent_in start y ≡ lent_as g.params args y

-- lent parameters are lent to the end, and each is one block
lent_at_most_one : (env : Environment) (x : Name) → lent_in env x ≤ 1
lent_at_most_one env x = lent_most env x

-- behind the body: what the function has, by its last environment
ran_answering : (p : Program) (env : Environment) (line : ℕ) (g : Func) (args : List Arg) (t : Target) (h : Passing) (s v : State) (start end after : Environment)
    → Made env g.params args t h s → Body_ends p g args start end → takes_answer t (hands_back g.ret) ≡ true → OwnsReturn g.ret end after → list_all is_released after ≡ true
    → Exact s v → Moved start end (entered h s) v
    → Ran env (after_answer (after_gives env args) t line) s (with_answer g.ret (returned g.params args t) v)
unfolding with_answer with_number
ran_answering p env line g args t h s v start end after m b takes owns released e w = by g.ret takes owns
  where
    -- the counts behind the body are those of its last environment
    counted : (y : Name) → count v.store.blocks y ≡ held_in end y
    counted y =
        let a = w.counts y in let c = m.passed.callee y in let d = b.held y in let z = none_counted y in omega (arith, a, c, d, z)

    lent_kept : (y : Name) → lent_in start y ≡ 1 → held_in end y ≡ held_in start y
    lent_kept y k = (tame_all p g.body start end y b.all).lents k

    -- what is lent in the end was lent at the start
    lent_before : (y : Name) → lent_in end y ≡ lent_in start y
    lent_before y = lent_back_in start end y (tame_all p g.body start end y b.all).follows

    held_lent : (y : Name) → 1 ≤ lent_as g.params args y → (lent_in start y ≡ 1) × (held_in start y ≡ 1)
    held_lent y le =
        let l = b.lent y in let k = b.held y in let o = held_at_most_one start y in let n = lent_at_most_one start y in
        let t = passing.lent_taken g.params args y in (omega (arith, l, le, n), omega (arith, k, le, o, t))

    kept_size : (y : Name) → 1 ≤ lent_as g.params args y → size v.store.blocks y ≡ size h.callee.blocks y
    kept_size y le =
        let two = held_lent y le in
        w.sizes y (lent_seen start y two.0) (lent_kept y two.0 ∙ two.1)

    words : (pos (holdings v + 0) +ℤ live s.items) ≡ (pos (holdings s) +ℤ live v.items)
    words = plain (holdings v) (holdings v + 0) (holdings s) (live s.items) (live v.items) (omega arith) e.same
      where
        plain : (a d b : ℕ) (x y : ℤ) → d ≡ a → (pos a +ℤ x) ≡ (pos b +ℤ y) → (pos d +ℤ x) ≡ (pos b +ℤ y)
        plain a d b x y i e = omega (arith, ints, i)

    -- nothing is handed over
    number_left : list_all is_released end ≡ true → Left g.params args h s v
    number_left rel = record {
      running = w.running;
      callers = w.callers;
      few = λ y. let c = counted y in let r = released_held end y rel in let l = lent_before y in let k = b.lent y in omega (arith, c, r, l, k);
      one = λ y. let c = counted y in let o = held_at_most_one end y in omega (arith, c, o);
      sizes = kept_size;
      short = λ p. w.short (m.short p).1;
    }

    number_end : (z : ℤ) → takes_answer t false ≡ true → list_all is_released end ≡ true → Ran env (after_answer (after_gives env args) t line) s (returned g.params args t (Calls.number z) v)
    number_end z tk rel = ran_returned env line g.params args t (Calls.number z) h s v m (number_left rel) (fits_number t z tk) (λ p. tt) words

    -- a block is handed over
    block_end : (c : Name) → takes_answer t true ≡ true → IsOwned end c → list_all is_released (environments.without end c) ≡ true
        → Ran env (after_answer (after_gives env args) t line) s (returned g.params args t (Calls.items (block_of v.store.blocks c)) (record v { store = drop_block c v.store }))
    block_end c tk own rel =
        let u : State = record v { store = drop_block c v.store } in
        let xs : List ℤ = block_of v.store.blocks c in
        let o = owned_block end c own in
        let o0 = o.0 in let o1 = o.1 in
        let cc_ = counted c in
        let le : 1 ≤ count v.store.blocks c = omega (arith, cc_, o0) in
        let less = without_words v.store.blocks c in
        ran_returned env line g.params args t (Calls.items xs) h s u m
        (record {
          running = w.running;
          callers = w.callers;
          few = λ y.
              let k = counted y in let d = count_without v.store.blocks c y le in let hw = held_without end c y o0 in
              let r = released_held (environments.without end c) y rel in
              let ll = lent_like end (environments.without end c) y (like_marked end c false) in
              let l = lent_before y in let bl = b.lent y in omega (arith, k, d, hw, r, ll, l, bl);
          one = λ y. let k = counted y in let d = count_without v.store.blocks c y le in let one = held_at_most_one end y in omega (arith, k, d, one);
          sizes = λ y n.
              let two = held_lent y n in
              let le2 : lent_in end y ≡ 1 = lent_follows start end y (tame_all p g.body start end y b.all).follows two.0 in
              let d = size_without v.store.blocks c y in
              let z = weigh_other c y (length xs) (apart_names c y o1 le2) in
              let k = kept_size y n in omega (arith, d, z, k);
          short = λ p. short_without v.store.blocks c (w.short (m.short p).1);
        }) (fits_items t xs tk) (λ p. short_block v.store.blocks c (w.short (m.short p).1))
        (handed (holdings v) (holdings u + block_words (length xs)) (holdings s) (live s.items) (live v.items) (omega (arith, less)) e.same)
      where
        apart_names : (c y : Name) → lent_in end c ≡ 0 → lent_in end y ≡ 1 → bytes_eq c y ≡ false
        apart_names c y = by_names (λ (c : Name) (y : Name). lent_in end c ≡ 0 → lent_in end y ≡ 1 → bytes_eq c y ≡ false) c y (λ x p q. absurd (omega (arith, p, q))) (λ d p q. d)

        handed : (a d b : ℕ) (x y : ℤ) → d ≡ a → (pos a +ℤ x) ≡ (pos b +ℤ y) → (pos d +ℤ x) ≡ (pos b +ℤ y)
        handed a d b x y i e = omega (arith, ints, i)

    by_value : (l : ℕ) (r : RetValue) → takes_answer t (hands_back (Some (record { line = l; value = r }))) ≡ true → OwnsValue r end after
        → Ran env (after_answer (after_gives env args) t line) s (with_return l r (returned g.params args t) v)
    by_value l (gives x) tk own =
        ran_settled_from l x (λ z. number_end z tk (subst (λ (n : Environment). list_all is_released n ≡ true) own.1 released))
      where
        ran_settled_from : (l : ℕ) (x : Expr) → ((z : ℤ) → Ran env (after_answer (after_gives env args) t line) s (returned g.params args t (Calls.number z) v))
            → Ran env (after_answer (after_gives env args) t line) s (with_return l (gives x) (returned g.params args t) v)
        ran_settled_from l x k = settled_here (value v.store x)
          where
            settled_here : (o : Outcome) → Ran env (after_answer (after_gives env args) t line) s (with_number l o (as_number (returned g.params args t)) v)
            settled_here (Ok z) = k z
            settled_here (Err kind) = let f = ran_fault env (after_answer (after_gives env args) t line) kind l v in
                record { exact = exact_trans s v (States.with_fault kind l v) e f.exact; way = stopped (stops kind l v) }
    by_value l (hands c) tk own = block_end c tk own.0 (subst (λ (n : Environment). list_all is_released n ≡ true) own.1 released)

    by : (r : Option Ret) → takes_answer t (hands_back r) ≡ true → OwnsReturn r end after → Ran env (after_answer (after_gives env args) t line) s (with_answer r (returned g.params args t) v)
    by None tk own = number_end (pos 0) tk (subst (λ (n : Environment). list_all is_released n ≡ true) own released)
    by (Some r) tk own = by_value r.line r.value tk own

-- the body of a function and its end
ran_body : (c : Setting) (n : ℕ) → Good c n → (env : Environment) (line : ℕ) (g : Func) (args : List Arg) (t : Target) (h : Passing) (s : State)
    → room c s < n → s.faulted ≡ false → Made env g.params args t h s → both_words h ≡ held_words s.store.blocks → takes_answer t (hands_back g.ret) ≡ true → OwnsFunction c.program g
    → Ran env (after_answer (after_gives env args) t line) s (run_callee (run c) t args g h s)
unfolding Good Agrees
ran_body c n good env line g args t h s less f m words takes owns =
    let start : Environment = owns.0 in let end : Environment = owns.2.0 in let after : Environment = owns.2.2.0 in
    let u : State = entered h s in
    let v : State = run c g.body u in
    let b : Body_ends c.program g args start end = record {
      all = owns.2.1;
      held = λ y. let p = (params_held g.line env [] g.params args [] start y owns.1 m.passes).0 in let z = empty_found held_entry y in omega (arith, p, z);
      lent = λ y. let p = (params_held g.line env [] g.params args [] start y owns.1 m.passes).1 in let z = empty_found lent_entry_of y in omega (arith, p, z);
    } in
    let r : Ran start end u v = good g.body start end u less owns.2.1 f
    (λ y k. let a = m.passed.callee y in let d = b.held y in let z = none_counted y in omega (arith, a, d, z)) in
    let same : Exact s v = exact_trans s u v (exact_quiet s u refl (omega (arith, words))) r.exact in
    by v r.way same b
  where
    by : (v : State) → Way owns.0 owns.2.0 (entered h s) v → Exact s v → Body_ends c.program g args owns.0 owns.2.0
        → Ran env (after_answer (after_gives env args) t line) s (unless_faulted (with_answer g.ret (returned g.params args t)) v)
    by v (stopped k) e b = subst (λ w. Ran env (after_answer (after_gives env args) t line) s w) (sym (unless_stopped (with_answer g.ret (returned g.params args t)) v k.faulted)) (record { exact = e; way = stopped k })
    by v (went w) e b = subst (λ w. Ran env (after_answer (after_gives env args) t line) s w) (sym (unless_running (with_answer g.ret (returned g.params args t)) v w.running))
        (ran_answering c.program env line g args t h s v owns.0 owns.2.0 owns.2.2.0 m b takes owns.2.2.1 owns.2.2.2 e w)

ran_calling_with : (c : Setting) (env : Environment) (line : ℕ) (g : Func) (args : List Arg) (t : Target) (r : Result Passing FaultKind) (s : State) → Good c (room c s)
    → s.faulted ≡ false → IsTarget env t → Passes env [] g.params args → Apart g.params args
    → PassedWell g.params args (record { callee = Stores.nothing; caller = s.store }) r → PassesWords (held_words s.store.blocks) r → (AreShort s.store.blocks → PassesShort r)
    → takes_answer t (hands_back g.ret) ≡ true → OwnsFunction c.program g
    → Ran env (after_answer (after_gives env args) t line) s (call_with c (run c) line t args g r s)
unfolding PassedWell PassesWords PassesShort
ran_calling_with c env line g args t (Err kind) s good f target passes apart well words few takes owns = ran_fault env (after_answer (after_gives env args) t line) kind line s
ran_calling_with c env line g args t (Ok h) s good f target passes apart well words few takes owns =
    ran_with_depth env (after_answer (after_gives env args) t line) s.calls c.most_calls line (States.with_turn line (run_callee (run c) t args g h)) s
    (λ below. ran_with_turn env (after_answer (after_gives env args) t line) line (run_callee (run c) t args g h) s
    (λ left is.
    let u : State = record s { turns = left } in
    ran_body c (room c s) good env line g args t h u (room_fewer c s left is) f
    (record { target = target; passes = passes; passed = record { caller = well.caller; callee = well.callee; kept = well.kept; sizes = well.sizes }; apart = apart; short = few }) words takes owns))

zero_plus : (n : ℕ) → 0 + n ≡ n
zero_plus n = omega arith

pub ran_calling : (c : Setting) (env : Environment) (line : ℕ) (t : Target) (f : Name) (args : List Arg) (g : Func) (s : State) → Good c (room c s) → OwnsFunctions c.program c.program
    → s.faulted ≡ false → IsTarget env t → function_of c.program f ≡ Some g → takes_answer t (hands_back g.ret) ≡ true → Passes env [] g.params args
    → Agrees (λ x. names_in_stmt x (call_stmt t f args)) env s.store
    → Ran env (after_answer (after_gives env args) t line) s (call_function c (run c) line t args (function_of c.program f) s)
unfolding Agrees Ready NewNames
ran_calling c env line t f args g s good all running target is takes passes agrees =
    let h : Passing = record { callee = Stores.nothing; caller = s.store } in
    let owns : OwnsFunction c.program g = function_owned c.program c.program f g is all in
    let apart : Apart g.params args = (params_held g.line env [] g.params args [] owns.0 [] owns.1 passes).3 in
    let r : Result Passing FaultKind = all_passed s.store g.params args in
    let well : PassedWell g.params args h r =
    passed_well s.store env [] g.params args h passes apart
    (λ x b held n. agrees x (or_right (names_in_target x t) (names_in_args x args) n) ∙ held) (λ y le. none_counted y) in
    let words : PassesWords (held_words s.store.blocks) r = passes_same (zero_plus (held_words s.store.blocks)) r (passed_words s.store g.params args h) in
    subst (λ o. Ran env (after_answer (after_gives env args) t line) s (call_function c (run c) line t args o s)) (sym is)
    (ran_calling_with c env line g args t r s good running target passes apart well words (λ p. passed_short s.store g.params args h p tt) takes owns)
