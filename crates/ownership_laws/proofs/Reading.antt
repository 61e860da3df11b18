-- What a reader has: what stands at a point of a thread.
use Rattle.std.specs.Prelude.{◌≡◌, ℕ, ◌+◌, ◌≤◌, Bool, true, false, List, [], ℤ, ◌∷◌, ◌++◌, length, replicate, pos, Option, Some, None, refl}
use Rattle.std.specs.Str.{bytes_eq}
use Rattle.std.proofs.Common.{inl, inr, sym, ◌∙◌, ap, arith, subst}
use Rattle.depth_first_run.specs.Passed.Actions as actions
use Rattle.depth_first_run.specs.Passed.Tree.{Name, Expr, Arg, Target, unused, integer, block, Stmt, let_stmt, assign_stmt, put_stmt, alloc_stmt, free_stmt, if_stmt, while_stmt, call_stmt, print_stmt, par_stmt, split_stmt, Body, step, Param, Ret, Func}
use Rattle.depth_first_run.specs.Passed.Names.{names_in_expr, names_in_args, names_in_stmt, names_in_body}
use Rattle.depth_first_run.specs.Passed.Environment.{Environment, opened}
use Rattle.depth_first_run.specs.Passed.Ownership.{IsFresh, Owns, OwnsFunction, Ownership, function_of}
use Rattle.depth_first_run.specs.Stores.{Store, block_of, block_words}
use Rattle.depth_first_run.specs.States.{Setting, State, with_action, with_result, joined, given_back}
use Rattle.depth_first_run.specs.Run.{cut_of, cut_block, on_store, run}
use Rattle.depth_first_run.specs.Middle.{Frame, does, statements, answers, rejoins, answers_main, allocates, awaits, joins, frame_done}
use Rattle.thread_points.specs.Points.{Each, IsAt, marked}
use Rattle.ownership_laws.specs.Counts.{count, held_in, held_entry}
use Rattle.ownership_laws.proofs.Counting.{same_name, hit_true, fresh_unseen, unseen_none, none_held, count_append, count_with, empty_found}
use Rattle.ownership_laws.proofs.Environments.{held_at_most_one}
use Rattle.ownership_laws.proofs.Needed.{or_cases}
use Rattle.ownership_laws.proofs.Passing.{or_left, params_held, function_owned}
use Rattle.ownership_laws.proofs.Statements.{Agrees, cut_count, whole_words}
use Rattle.ownership_laws.proofs.Owned.{split_ends, split_counts, split_agrees, ran_run}
use Rattle.ownership_laws.proofs.Fitting.{keeps_at, not_both}
use Rattle.ownership_laws.specs.Holdings.{OneEach, NoneTooLong, taken_under, puts_block, frame_puts, EndsCall, EndsSplit}
use Rattle.ownership_laws.specs.PointLaws.{KeepsTheCut}
use Rattle.ownership_laws.proofs.Single.{IsSingle, Single}
use Rattle.ownership_laws.proofs.Ending.{taken_is, cut_is, cut_kept}
use Rattle.ownership_laws.proofs.Stepping.{FrameEnds, Unless, carried, carries_at, next_carries}

pub one_each : (c : Setting) → Ownership c.program → (own : List Frame) (s : State) → IsAt c own s → OneEach s.store × Each OneEach s.callers
one_each c o own s at = let p = carried c (own ++ at.parents) s (carries_at c o own s at) in (p.0.0, each_one s.callers p.1)
  where
    each_one : (callers : List Store) → Each IsSingle callers → Each OneEach callers
    each_one [] p = tt
    each_one (st ∷ more) p = (p.0.0, each_one more p.1)

pub none_too_long : (c : Setting) → Ownership c.program → (own : List Frame) (s : State) → IsAt c own s → NoneTooLong s.store × Each NoneTooLong s.callers
none_too_long c o own s at = let p = carried c (own ++ at.parents) s (carries_at c o own s at) in (p.0.1, each_short s.callers p.1)
  where
    each_short : (callers : List Store) → Each IsSingle callers → Each NoneTooLong callers
    each_short [] p = tt
    each_short (st ∷ more) p = (p.0.1, each_short more p.1)

-- ---- where a statement begins

-- the statement keeps the rules from what the thread holds
abbrev pub Begun : Setting → ℕ → Stmt → State → Type 0
Begun c line stmt s = (env : Environment) × (after : Environment) × Owns c.program line stmt env after × ((x : Name) → names_in_stmt x stmt ≡ true → count s.store.blocks x ≡ held_in env x)

begun_at : (c : Setting) → Ownership c.program → (line : ℕ) (stmt : Stmt) (rest : Body) (own : List Frame) (s : State) → IsAt c (does (statements (step line stmt rest)) ∷ own) s → s.faulted ≡ false → Begun c line stmt s
begun_at c o line stmt rest own s at f = keeps_at c o at.steps line stmt rest (own ++ at.parents) s at.there f

none_fresh : (env : Environment) (b x : Name) (n : ℕ) → IsFresh env b → bytes_eq b x ≡ true → n ≡ held_in env x → n ≡ 0
none_fresh env b x n fresh e is = is ∙ sym (ap (held_in env) (same_name b x e)) ∙ unseen_none held_entry 0 env b (fresh_unseen env b fresh)

puts_none : (c : Setting) (line : ℕ) (stmt : Stmt) (s : State) → Begun c line stmt s → (x : Name) → puts_block x stmt ≡ true → count s.store.blocks x ≡ 0
unfolding Agrees
puts_none c line (let_stmt y e) s h x p = let never : ⊥ = cc in absurd never
puts_none c line (assign_stmt y e) s h x p = let never : ⊥ = cc in absurd never
puts_none c line (put_stmt b i e) s h x p = let never : ⊥ = cc in absurd never
puts_none c line (alloc_stmt b e) s h x p = none_fresh h.0 b x (count s.store.blocks x) h.2.0 p (h.3 x (or_left (bytes_eq b x) (names_in_expr x e) p))
puts_none c line (free_stmt b) s h x p = let never : ⊥ = cc in absurd never
puts_none c line (if_stmt e a b) s h x p = let never : ⊥ = cc in absurd never
puts_none c line (while_stmt e a) s h x p = let never : ⊥ = cc in absurd never
puts_none c line (call_stmt unused f args) s h x p = let never : ⊥ = cc in absurd never
puts_none c line (call_stmt (integer y) f args) s h x p = let never : ⊥ = cc in absurd never
puts_none c line (call_stmt (block b) f args) s h x p = none_fresh h.0 b x (count s.store.blocks x) h.2.0 p (h.3 x (or_left (bytes_eq b x) (names_in_args x args) p))
puts_none c line (print_stmt e) s h x p = let never : ⊥ = cc in absurd never
puts_none c line (par_stmt a b) s h x p = let never : ⊥ = cc in absurd never
puts_none c line (split_stmt b e l r a) s h x p =
    let n = split_counts c.program line b e l r a h.0 h.1 s h.2 h.3 in
    or_cases (bytes_eq l x) (bytes_eq r x) p
    (λ k. subst (λ (y : Name). count s.store.blocks y ≡ 0) (same_name l x k) n.1)
    (λ k. subst (λ (y : Name). count s.store.blocks y ≡ 0) (same_name r x k) n.2)

pub puts_where_none : (c : Setting) → Ownership c.program → (line : ℕ) (stmt : Stmt) (rest : Body) (own : List Frame) (s : State)
    → IsAt c (does (statements (step line stmt rest)) ∷ own) s → s.faulted ≡ false → (x : Name) → puts_block x stmt ≡ true → count s.store.blocks x ≡ 0
puts_where_none c o line stmt rest own s at f x p = puts_none c line stmt s (begun_at c o line stmt rest own s at f) x p

pub parts_apart : (c : Setting) → Ownership c.program → (line : ℕ) (b : Name) (e : Expr) (l r : Name) (a rest : Body) (own : List Frame) (s : State)
    → IsAt c (does (statements (step line (split_stmt b e l r a) rest)) ∷ own) s → s.faulted ≡ false → bytes_eq l r ≡ false
parts_apart c o line b e l r a rest own s at f =
    let h : Begun c line (split_stmt b e l r a) s = begun_at c o line (split_stmt b e l r a) rest own s at f in (split_ends c.program line b e l r a h.0 h.1 h.2).two

pub keeps_cut : (c : Setting) → Ownership c.program → (line : ℕ) (b : Name) (e : Expr) (l r : Name) (a rest : Body) (own : List Frame) (s : State)
    → IsAt c (does (statements (step line (split_stmt b e l r a) rest)) ∷ own) s → s.faulted ≡ false → (v : ℤ) (at : ℕ) → cut_of (block_of s.store.blocks b) v ≡ Some at
    → KeepsTheCut l at (run c a (on_store (cut_block b l r at) (marked (does (statements (step line (split_stmt b e l r a) rest))) s)))
unfolding Agrees
keeps_cut c o line b e l r a rest own s at f v cut is =
    let h : Begun c line (split_stmt b e l r a) s = begun_at c o line (split_stmt b e l r a) rest own s at f in
    let n = split_counts c.program line b e l r a h.0 h.1 s h.2 h.3 in
    let t : State = marked (does (statements (step line (split_stmt b e l r a) rest))) s in
    let u : State = on_store (cut_block b l r cut) t in
    let inside : Agrees (λ x. names_in_body x a) (opened h.0 b l r line) u.store = split_agrees c.program line b e l r a h.0 h.1 s u h.2 h.3 (λ x. cut_count b l r cut s.store x n.0) in
    let way = (ran_run c o.functions a (opened h.0 b l r line) h.2.4.1.0 u h.2.4.1.1 f inside).way in
    cut_kept h.0 h.2.4.1.0 b l r line cut t (run c a u) (split_ends c.program line b e l r a h.0 h.1 h.2) (cut_is (block_of s.store.blocks b) v cut is).0 n.0 n.1 n.2 way

-- one of two functions, where the first is the one that is found
or_this : Func → Option Func → Func
or_this g None = g
or_this g (Some h) = h

pub same_function : (g h : Func) (o : Option Func) → o ≡ Some g → o ≡ Some h → g ≡ h
unfolding or_this
same_function g h o p q = ap (or_this g) (sym p ∙ q)

pub parameters_apart : (c : Setting) → Ownership c.program → (line : ℕ) (t : Target) (f : Name) (args : List Arg) (rest : Body) (own : List Frame) (s : State) (g : Func)
    → IsAt c (does (statements (step line (call_stmt t f args) rest)) ∷ own) s → s.faulted ≡ false → function_of c.program f ≡ Some g → (x : Name) → taken_under g.params args x ≤ 1
parameters_apart c o line t f args rest own s g at running is x =
    let h : Begun c line (call_stmt t f args) s = begun_at c o line (call_stmt t f args) rest own s at running in
    let k : Func = h.2.1.0 in
    let owns : OwnsFunction c.program k = function_owned c.program c.program f k h.2.1.1 o.functions in
    let p = (params_held k.line h.0 [] k.params args [] owns.0 x owns.1 h.2.1.3).0 in
    let z = empty_found held_entry x in let one = held_at_most_one owns.0 x in let e = taken_is k.params args x in
    let few : taken_under k.params args x ≤ 1 = omega (arith, p, z, one, e) in
    subst (λ (q : Func). taken_under q.params args x ≤ 1) (same_function k g (function_of c.program f) h.2.1.1 is) few

-- ---- where a frame ends

sound_ends : {P : Type 0} (s : State) → s.faulted ≡ false → Unless s P → P
sound_ends s f (inl k) = not_both s.faulted k f
sound_ends s f (inr p) = p

frame_none : (c : Setting) (f : Frame) (s : State) → s.faulted ≡ false → FrameEnds f s → Single (frame_done c f s) → (x : Name) → frame_puts x f ≡ true → count s.store.blocks x ≡ 0
unfolding FrameEnds with_action
frame_none c (does part) s f ends e x p = let never : ⊥ = cc in absurd never
frame_none c (answers ret params args t) s f ends e x p = let never : ⊥ = cc in absurd never
frame_none c (rejoins b l r) s f ends e x p = subst (λ (y : Name). count s.store.blocks y ≡ 0) (same_name b x p) (sound_ends s f ends).none
frame_none c (answers_main ret) s f ends e x p = let never : ⊥ = cc in absurd never
frame_none c (allocates b n) s f ends e x p = let o = e.0.0 x in let w = count_with s.store.blocks b (replicate n (pos 0)) x in let h = hit_true b x p in omega (arith, o, w, h)
frame_none c (awaits named assigned own parent) s f ends e x p = let never : ⊥ = cc in absurd never
frame_none c (joins assigned child d) s f ends e x p = let never : ⊥ = cc in absurd never

pub frame_where_none : (c : Setting) → Ownership c.program → (f : Frame) (own : List Frame) (s : State) → IsAt c (f ∷ own) s → s.faulted ≡ false → (x : Name) → frame_puts x f ≡ true → count s.store.blocks x ≡ 0
frame_where_none c o f own s at running x p = let k = next_carries c o f own s at in frame_none c f s running k.1 k.2 x p

pub call_ends : (c : Setting) → Ownership c.program → (ret : Option Ret) (params : List Param) (args : List Arg) (t : Target) (own : List Frame) (s : State)
    → IsAt c (answers ret params args t ∷ own) s → s.faulted ≡ false → EndsCall ret params args t s
unfolding FrameEnds
call_ends c o ret params args t own s at f = sound_ends s f (next_carries c o (answers ret params args t) own s at).1

pub main_end : (c : Setting) → Ownership c.program → (ret : Option Ret) (own : List Frame) (s : State) → IsAt c (answers_main ret ∷ own) s → s.faulted ≡ false → s.store.blocks ≡ []
unfolding FrameEnds
main_end c o ret own s at f = none_held s.store.blocks (sound_ends s f (next_carries c o (answers_main ret) own s at).1)

pub split_end : (c : Setting) → Ownership c.program → (b l r : Name) (own : List Frame) (s : State) → IsAt c (rejoins b l r ∷ own) s → s.faulted ≡ false
    → EndsSplit b l r s × ((more : ℕ) → block_words (length (block_of s.store.blocks l) + more) ≡ block_words (length (block_of s.store.blocks l)) + block_words more)
unfolding FrameEnds
split_end c o b l r own s at f =
    let k : EndsSplit b l r s = sound_ends s f (next_carries c o (rejoins b l r) own s at).1 in
    (k, λ more. whole_words (length (block_of s.store.blocks l)) more k.pieces k.whole)

-- ---- a Join

result_blocks : (a b : Bool) (assigned : Name → Bool) (d t : State) → a ≡ false → b ≡ false → (with_result a b assigned d t).store.blocks ≡ t.store.blocks ++ d.store.blocks
result_blocks true b assigned d t e f = let never : ⊥ = cc in absurd never
result_blocks false true assigned d t e f = let never : ⊥ = cc in absurd never
result_blocks false false assigned d t e f = refl

joined_blocks : (assigned : Name → Bool) (child : ℕ) (d s : State) → s.faulted ≡ false → d.faulted ≡ false → (joined assigned child d s).store.blocks ≡ s.store.blocks ++ d.store.blocks
unfolding joined with_action
joined_blocks assigned child d s e f =
    result_blocks s.faulted d.faulted assigned d (with_action (actions.joins child) (given_back s.faulted d.faulted d s) s) e f

pub join_meets_none : (c : Setting) → Ownership c.program → (assigned : Name → Bool) (child : ℕ) (d : State) (own : List Frame) (s : State) → IsAt c (joins assigned child d ∷ own) s
    → s.faulted ≡ false → d.faulted ≡ false → (x : Name) → count s.store.blocks x + count d.store.blocks x ≤ 1
join_meets_none c o assigned child d own s at f g x =
    let p = (next_carries c o (joins assigned child d) own s at).2 in
    let one = p.0.0 x in
    let is : count (joined assigned child d s).store.blocks x ≡ count (s.store.blocks ++ d.store.blocks) x = ap (λ hs. count hs x) (joined_blocks assigned child d s f g) in
    let a = count_append s.store.blocks d.store.blocks x in omega (arith, one, is, a)
