-- The target of each open call takes what its function hands back.
use Rattle.std.specs.Prelude.{◌≡◌, ℕ, zero, suc, nat_lt, nat_le, Bool, true, false, List, [], ◌∷◌, length, ℤ, Result, Ok, Err, Option, Some, None, refl}
use Rattle.std.proofs.Common.{sym, subst}
use Rattle.thread_points.specs.Passed.FaultKind.{FaultKind}
use Rattle.depth_first_run.specs.Passed.Shapes.{leaf, forked}
use Rattle.depth_first_run.specs.Passed.Tree.{Name, Expr, Target, Arg, Param, Stmt, let_stmt, assign_stmt, put_stmt, alloc_stmt, free_stmt, if_stmt, while_stmt, call_stmt, print_stmt, par_stmt, split_stmt, Body, done, step, Func, Ret}
use Rattle.depth_first_run.specs.Passed.Environment.{Environment}
use Rattle.depth_first_run.specs.Passed.Ownership.{Owns, Ownership, function_of, main_name, takes_answer, hands_back}
use Rattle.depth_first_run.specs.Stores.{block_of, block_words}
use Rattle.depth_first_run.specs.Values.{Outcome, value, is_true}
use Rattle.depth_first_run.specs.States
use Rattle.depth_first_run.specs.States.{Setting, State, with_item}
use Rattle.depth_first_run.specs.Calls.{Passing, all_passed}
use Rattle.depth_first_run.specs.Run.{cut_of, size_of}
use Rattle.depth_first_run.specs.Middle
use Rattle.depth_first_run.specs.Middle.{statements, tree, Frame, does, answers, rejoins, answers_main, allocates, awaits, joins, Middle, middle, step_with_number, step_alloc_within, step_alloc_words, step_alloc, before_all, step_branch, step_if, step_turn, step_round, step_while, step_body, step_open_call, step_call_with, step_call, step_par, step_cut, step_statement, step_first, step_frame, advance, run_start}
use Rattle.thread_points.specs.Points.{after_steps, Each, IsAt, step_of}
use Rattle.thread_points.proofs.Putting.{advance_put}
use Rattle.thread_points.proofs.Walking.{each_append}
use Rattle.ownership_laws.proofs.Fitting.{keeps_at}
use Rattle.ownership_laws.proofs.Reading.{same_function}

-- the target of an open call takes what the function hands back
abbrev Takes : Frame → Type 0
Takes (does part) = Unit {0}
Takes (answers ret params args t) = takes_answer t (hands_back ret) ≡ true
Takes (rejoins b l r) = Unit {0}
Takes (answers_main ret) = Unit {0}
Takes (allocates b n) = Unit {0}
Takes (awaits named assigned own parent) = Unit {0}
Takes (joins assigned child d) = Unit {0}

-- and that of a call that comes next
abbrev TakesNext : Setting → Stmt → Type 0
TakesNext c (let_stmt x e) = Unit {0}
TakesNext c (assign_stmt x e) = Unit {0}
TakesNext c (put_stmt b i e) = Unit {0}
TakesNext c (alloc_stmt b e) = Unit {0}
TakesNext c (free_stmt b) = Unit {0}
TakesNext c (if_stmt e a b) = Unit {0}
TakesNext c (while_stmt e a) = Unit {0}
TakesNext c (call_stmt t f args) = (g : Func) → function_of c.program f ≡ Some g → takes_answer t (hands_back g.ret) ≡ true
TakesNext c (print_stmt e) = Unit {0}
TakesNext c (par_stmt a b) = Unit {0}
TakesNext c (split_stmt b e l r a) = Unit {0}

-- ---- what a statement puts

settled_takes : (line : ℕ) (o : Outcome) (f : ℤ → List Frame → State → Middle) (fs : List Frame) (s : State) → Each Takes fs → ((v : ℤ) → Each Takes (f v fs s).frames) → Each Takes (step_with_number line o f fs s).frames
settled_takes line (Ok v) f fs s p k = k v
settled_takes line (Err kind) f fs s p k = p

allocated_takes : (b : Bool) (c : Setting) (x : Name) (n : ℕ) (fs : List Frame) (s : State) → Each Takes fs → Each Takes (step_alloc_within b c x n fs s).frames
allocated_takes true c x n fs s p = p
allocated_takes false c x n fs s p = (tt, (tt, p))

allocating_takes : (c : Setting) (line : ℕ) (x : Name) (o : Option ℕ) (fs : List Frame) (s : State) → Each Takes fs → Each Takes (step_alloc_words c line x o fs s).frames
allocating_takes c line x None fs s p = p
allocating_takes c line x (Some n) fs s p = allocated_takes (nat_le (block_words n) c.quota) c x n fs s p

before_takes : (b : Body) (fs : List Frame) → Each Takes fs → Each Takes (before_all b fs)
before_takes done fs p = p
before_takes (step line stmt rest) fs p = (tt, p)

branch_takes : (t : Bool) (a b : Body) (fs : List Frame) (s : State) → Each Takes fs → Each Takes (step_branch t a b fs s).frames
branch_takes true a b fs s p = before_takes a fs p
branch_takes false a b fs s p = before_takes b fs p

turning_takes : (n line : ℕ) (ahead fs : List Frame) (s : State) → Each Takes ahead → Each Takes fs → Each Takes (step_turn n line ahead fs s).frames
turning_takes zero line ahead fs s p q = q
turning_takes (suc left) line ahead fs s p q = p

round_takes : (b : Bool) (line : ℕ) (e : Expr) (a : Body) (fs : List Frame) (s : State) → Each Takes fs → Each Takes (step_round b line e a fs s).frames
round_takes true line e a fs s p =
    let again : Body = step line (while_stmt e a) done in
    turning_takes s.turns line (before_all a (before_all again fs)) fs s (before_takes a (before_all again fs) (before_takes again fs p)) p
round_takes false line e a fs s p = p

body_takes : (n line : ℕ) (t : Target) (args : List Arg) (g : Func) (h : Passing) (fs : List Frame) (s : State) → takes_answer t (hands_back g.ret) ≡ true → Each Takes fs → Each Takes (step_body n line t args g h fs s).frames
body_takes zero line t args g h fs s k p = p
body_takes (suc left) line t args g h fs s k p = before_takes g.body (answers g.ret g.params args t ∷ fs) (k, p)

opening_takes : (b : Bool) (line : ℕ) (t : Target) (args : List Arg) (g : Func) (h : Passing) (fs : List Frame) (s : State) → takes_answer t (hands_back g.ret) ≡ true → Each Takes fs → Each Takes (step_open_call b line t args g h fs s).frames
opening_takes true line t args g h fs s k p = body_takes s.turns line t args g h fs s k p
opening_takes false line t args g h fs s k p = p

calling_with_takes : (c : Setting) (line : ℕ) (t : Target) (args : List Arg) (g : Func) (r : Result Passing FaultKind) (fs : List Frame) (s : State) → takes_answer t (hands_back g.ret) ≡ true → Each Takes fs
    → Each Takes (step_call_with c line t args g r fs s).frames
calling_with_takes c line t args g (Ok h) fs s k p = opening_takes (nat_lt s.calls c.most_calls) line t args g h fs s k p
calling_with_takes c line t args g (Err kind) fs s k p = p

calling_takes : (c : Setting) (line : ℕ) (t : Target) (args : List Arg) (o : Option Func) (fs : List Frame) (s : State) → ((g : Func) → o ≡ Some g → takes_answer t (hands_back g.ret) ≡ true) → Each Takes fs
    → Each Takes (step_call c line t args o fs s).frames
calling_takes c line t args None fs s k p = p
calling_takes c line t args (Some g) fs s k p = calling_with_takes c line t args g (all_passed s.store g.params args) fs s (k g refl) p

both_takes : (v : Bool) (c : Setting) (line : ℕ) (a b : Body) (fs : List Frame) (s : State) → Each Takes fs → Each Takes (step_par v c line a b fs s).frames
both_takes true c line a b fs s p = (tt, (tt, p))
both_takes false c line a b fs s p = p

cut_takes : (line : ℕ) (b l r : Name) (a : Body) (o : Option ℕ) (fs : List Frame) (s : State) → Each Takes fs → Each Takes (step_cut line b l r a o fs s).frames
cut_takes line b l r a None fs s p = p
cut_takes line b l r a (Some at) fs s p = before_takes a (rejoins b l r ∷ fs) (tt, p)

statement_takes : (c : Setting) (line : ℕ) (stmt : Stmt) (fs : List Frame) (s : State) → TakesNext c stmt → Each Takes fs → Each Takes (step_statement c line stmt fs s).frames
statement_takes c line (let_stmt x e) fs s k p = p
statement_takes c line (assign_stmt x e) fs s k p = p
statement_takes c line (put_stmt b i e) fs s k p = p
statement_takes c line (alloc_stmt b e) fs s k p = settled_takes line (value s.store e) (step_alloc c line b) fs s p (λ v. allocating_takes c line b (size_of v) fs s p)
statement_takes c line (free_stmt b) fs s k p = p
statement_takes c line (if_stmt e a b) fs s k p = settled_takes line (value s.store e) (step_if a b) fs s p (λ v. branch_takes (is_true v) a b fs s p)
statement_takes c line (while_stmt e a) fs s k p = settled_takes line (value s.store e) (step_while line e a) fs s p (λ v. round_takes (is_true v) line e a fs s p)
statement_takes c line (call_stmt t f args) fs s k p = calling_takes c line t args (function_of c.program f) fs s k p
statement_takes c line (print_stmt e) fs s k p = p
statement_takes c line (par_stmt a b) fs s k p = both_takes (nat_lt (length s.label) c.most_forks) c line a b fs s p
statement_takes c line (split_stmt b e l r a) fs s k p =
    settled_takes line (value s.store e) (Middle.step_split line b l r a) fs s p (λ v. cut_takes line b l r a (cut_of (block_of s.store.blocks b) v) fs s p)

-- ---- a step

-- a statement that keeps the rules
rules_take : (c : Setting) (line : ℕ) (stmt : Stmt) (env after : Environment) → Owns c.program line stmt env after → TakesNext c stmt
rules_take c line (let_stmt x e) env after h = tt
rules_take c line (assign_stmt x e) env after h = tt
rules_take c line (put_stmt b i e) env after h = tt
rules_take c line (alloc_stmt b e) env after h = tt
rules_take c line (free_stmt b) env after h = tt
rules_take c line (if_stmt e a b) env after h = tt
rules_take c line (while_stmt e a) env after h = tt
rules_take c line (call_stmt t f args) env after h = λ g found. subst (λ (k : Func). takes_answer t (hands_back k.ret) ≡ true) (same_function h.1.0 g (function_of c.program f) h.1.1 found) h.1.2
rules_take c line (print_stmt e) env after h = tt
rules_take c line (par_stmt a b) env after h = tt
rules_take c line (split_stmt b e l r a) env after h = tt

first_takes : (v : Bool) (c : Setting) → Ownership c.program → (n line : ℕ) (stmt : Stmt) (rest : Body) (fs : List Frame) (s : State) → after_steps c n ≡ middle (does (statements (step line stmt rest)) ∷ fs) s
    → s.faulted ≡ v → Each Takes (step_first v c line stmt rest [] s).frames
first_takes true c o n line stmt rest fs s at e = tt
first_takes false c o n line stmt rest fs s at e =
    let h = keeps_at c o n line stmt rest fs s at e in
    statement_takes c line stmt (before_all rest []) (with_item (States.began line) s) (rules_take c line stmt h.0 h.1 h.2) (before_takes rest [] tt)

frame_takes : (c : Setting) → Ownership c.program → (n : ℕ) (f : Frame) (fs : List Frame) (s : State) → after_steps c n ≡ middle (f ∷ fs) s → Each Takes (step_of c f s).frames
frame_takes c o n (does (statements done)) fs s at = tt
frame_takes c o n (does (statements (step line stmt rest))) fs s at = first_takes s.faulted c o n line stmt rest fs s at refl
frame_takes c o n (does (tree leaf)) fs s at = tt
frame_takes c o n (does (tree (forked child own))) fs s at = (tt, (tt, tt))
frame_takes c o n (answers ret params args t) fs s at = tt
frame_takes c o n (rejoins b l r) fs s at = tt
frame_takes c o n (answers_main ret) fs s at = tt
frame_takes c o n (allocates b m) fs s at = tt
frame_takes c o n (awaits named assigned own parent) fs s at = (tt, (tt, tt))
frame_takes c o n (joins assigned child d) fs s at = tt

advance_takes : (c : Setting) → Ownership c.program → (n : ℕ) (fs : List Frame) (s : State) → after_steps c n ≡ middle fs s → Each Takes fs → Each Takes (advance c (middle fs s)).frames
unfolding advance
advance_takes c o n [] s at p = tt
advance_takes c o n (f ∷ fs) s at p =
    subst (λ (m : Middle). Each Takes m.frames) (sym (advance_put c f fs s)) (each_append Takes (step_of c f s).frames fs (frame_takes c o n f fs s at) p.1)

start_takes : (c : Setting) (o : Option Func) → Each Takes (run_start c o).frames
start_takes c None = tt
start_takes c (Some g) = before_takes g.body (answers_main g.ret ∷ []) (tt, tt)

takes_after : (c : Setting) → Ownership c.program → (n : ℕ) → Each Takes (after_steps c n).frames
unfolding after_steps
takes_after c o zero = start_takes c (function_of c.program main_name)
takes_after c o (suc n) = let m : Middle = after_steps c n in advance_takes c o n m.frames m.state refl (takes_after c o n)

pub calls_take : (c : Setting) → Ownership c.program → (ret : Option Ret) (params : List Param) (args : List Arg) (t : Target) (own : List Frame) (s : State)
    → IsAt c (answers ret params args t ∷ own) s → takes_answer t (hands_back ret) ≡ true
calls_take c o ret params args t own s at = (subst (λ (m : Middle). Each Takes m.frames) at.there (takes_after c o at.steps)).0
