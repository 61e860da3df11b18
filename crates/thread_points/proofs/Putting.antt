-- A step of a run puts its frames before those that are left, and changes none of them.
use Rattle.std.specs.Prelude.{◌≡◌, ℕ, zero, suc, nat_lt, nat_le, Bool, true, false, List, [], ◌∷◌, ◌++◌, length, ℤ, Result, Ok, Err, Option, Some, None, refl}
use Rattle.std.proofs.Common.{sym, ◌∙◌, ap, append_assoc}
use Rattle.dag_order.specs.declared.fault.FaultKind.{FaultKind}
use Rattle.depth_first_run.specs.Passed.Shapes.{leaf, forked}
use Rattle.depth_first_run.specs.Passed.Tree.{Name, Expr, Target, Arg, Stmt, let_stmt, assign_stmt, put_stmt, alloc_stmt, free_stmt, if_stmt, while_stmt, call_stmt, print_stmt, par_stmt, split_stmt, Body, done, step, Func}
use Rattle.depth_first_run.specs.Passed.Ownership.{function_of}
use Rattle.depth_first_run.specs.Stores.{block_of, block_words}
use Rattle.depth_first_run.specs.Values.{Outcome, value, is_true}
use Rattle.depth_first_run.specs.States
use Rattle.depth_first_run.specs.States.{Setting, State, with_item}
use Rattle.depth_first_run.specs.Calls.{Passing, all_passed, entered}
use Rattle.depth_first_run.specs.Run.{cut_of, size_of, on_store, cut_block, run}
use Rattle.depth_first_run.specs.Middle
use Rattle.depth_first_run.specs.Middle.{statements, tree, Frame, does, answers, rejoins, answers_main, allocates, awaits, joins, part_done, frame_done, finish, Middle, middle, finished, step_with_number, step_alloc_within, step_alloc_words, step_alloc, before_all, step_branch, step_if, step_turn, step_round, step_while, step_body, step_open_call, step_call_with, step_call, step_par, step_cut, step_statement, step_first, step_part, step_frame, advance}
use Rattle.depth_first_run.proofs.Stepping.{advance_comes}

-- what a point has left comes before other frames
abbrev pub ahead_of : Middle → List Frame → Middle
ahead_of m fs = middle (m.frames ++ fs) m.state

settled_put : (line : ℕ) (o : Outcome) (f : ℤ → List Frame → State → Middle) (fs : List Frame) (s : State) → ((v : ℤ) → f v fs s ≡ ahead_of (f v [] s) fs)
    → step_with_number line o f fs s ≡ ahead_of (step_with_number line o f [] s) fs
settled_put line (Ok v) f fs s e = e v
settled_put line (Err kind) f fs s e = refl

allocated_put : (b : Bool) (c : Setting) (x : Name) (n : ℕ) (fs : List Frame) (s : State) → step_alloc_within b c x n fs s ≡ ahead_of (step_alloc_within b c x n [] s) fs
allocated_put true c x n fs s = refl
allocated_put false c x n fs s = refl

allocating_words_put : (c : Setting) (line : ℕ) (x : Name) (o : Option ℕ) (fs : List Frame) (s : State) → step_alloc_words c line x o fs s ≡ ahead_of (step_alloc_words c line x o [] s) fs
allocating_words_put c line x None fs s = refl
allocating_words_put c line x (Some n) fs s = allocated_put (nat_le (block_words n) c.quota) c x n fs s

-- a list of statements comes before all that is left
before_put : (b : Body) (fs gs : List Frame) → before_all b (fs ++ gs) ≡ before_all b fs ++ gs
before_put done fs gs = refl
before_put (step line stmt rest) fs gs = refl

branch_put : (t : Bool) (a b : Body) (fs : List Frame) (s : State) → step_branch t a b fs s ≡ ahead_of (step_branch t a b [] s) fs
branch_put true a b fs s = ap (λ l. middle l s) (before_put a [] fs)
branch_put false a b fs s = ap (λ l. middle l s) (before_put b [] fs)

turning_put : (n line : ℕ) (ahead fs : List Frame) (s : State) → step_turn n line (ahead ++ fs) fs s ≡ ahead_of (step_turn n line ahead [] s) fs
turning_put zero line ahead fs s = refl
turning_put (suc left) line ahead fs s = refl

round_put : (b : Bool) (line : ℕ) (e : Expr) (a : Body) (fs : List Frame) (s : State) → step_round b line e a fs s ≡ ahead_of (step_round b line e a [] s) fs
round_put true line e a fs s =
    ap (λ l. step_turn s.turns line l fs s) (before_put a (before_all (step line (while_stmt e a) done) []) fs)
    ∙ turning_put s.turns line (before_all a (before_all (step line (while_stmt e a) done) [])) fs s
round_put false line e a fs s = refl

body_put : (n line : ℕ) (t : Target) (args : List Arg) (g : Func) (h : Passing) (fs : List Frame) (s : State) → step_body n line t args g h fs s ≡ ahead_of (step_body n line t args g h [] s) fs
body_put zero line t args g h fs s = refl
body_put (suc left) line t args g h fs s = ap (λ l. middle l (entered h (record s { turns = left }))) (before_put g.body (answers g.ret g.params args t ∷ []) fs)

opening_put : (b : Bool) (line : ℕ) (t : Target) (args : List Arg) (g : Func) (h : Passing) (fs : List Frame) (s : State) → step_open_call b line t args g h fs s ≡ ahead_of (step_open_call b line t args g h [] s) fs
opening_put true line t args g h fs s = body_put s.turns line t args g h fs s
opening_put false line t args g h fs s = refl

calling_with_put : (c : Setting) (line : ℕ) (t : Target) (args : List Arg) (g : Func) (r : Result Passing FaultKind) (fs : List Frame) (s : State)
    → step_call_with c line t args g r fs s ≡ ahead_of (step_call_with c line t args g r [] s) fs
calling_with_put c line t args g (Ok h) fs s = opening_put (nat_lt s.calls c.most_calls) line t args g h fs s
calling_with_put c line t args g (Err kind) fs s = refl

calling_put : (c : Setting) (line : ℕ) (t : Target) (args : List Arg) (o : Option Func) (fs : List Frame) (s : State) → step_call c line t args o fs s ≡ ahead_of (step_call c line t args o [] s) fs
calling_put c line t args None fs s = refl
calling_put c line t args (Some g) fs s = calling_with_put c line t args g (all_passed s.store g.params args) fs s

both_put : (t : Bool) (c : Setting) (line : ℕ) (a b : Body) (fs : List Frame) (s : State) → step_par t c line a b fs s ≡ ahead_of (step_par t c line a b [] s) fs
both_put true c line a b fs s = refl
both_put false c line a b fs s = refl

cut_put : (line : ℕ) (b l r : Name) (a : Body) (o : Option ℕ) (fs : List Frame) (s : State) → step_cut line b l r a o fs s ≡ ahead_of (step_cut line b l r a o [] s) fs
cut_put line b l r a None fs s = refl
cut_put line b l r a (Some at) fs s = ap (λ x. middle x (on_store (cut_block b l r at) s)) (before_put a (rejoins b l r ∷ []) fs)

pub statement_put : (c : Setting) (line : ℕ) (stmt : Stmt) (fs : List Frame) (s : State) → step_statement c line stmt fs s ≡ ahead_of (step_statement c line stmt [] s) fs
statement_put c line (let_stmt x e) fs s = refl
statement_put c line (assign_stmt x e) fs s = refl
statement_put c line (put_stmt b i e) fs s = refl
statement_put c line (alloc_stmt b e) fs s = settled_put line (value s.store e) (step_alloc c line b) fs s (λ v. allocating_words_put c line b (size_of v) fs s)
statement_put c line (free_stmt b) fs s = refl
statement_put c line (if_stmt e a b) fs s = settled_put line (value s.store e) (step_if a b) fs s (λ v. branch_put (is_true v) a b fs s)
statement_put c line (while_stmt e a) fs s = settled_put line (value s.store e) (step_while line e a) fs s (λ v. round_put (is_true v) line e a fs s)
statement_put c line (call_stmt t f args) fs s = calling_put c line t args (function_of c.program f) fs s
statement_put c line (print_stmt e) fs s = refl
statement_put c line (par_stmt a b) fs s = both_put (nat_lt (length s.label) c.most_forks) c line a b fs s
statement_put c line (split_stmt b e l r a) fs s =
    settled_put line (value s.store e) (Middle.step_split line b l r a) fs s (λ v. cut_put line b l r a (cut_of (block_of s.store.blocks b) v) fs s)

first_put : (v : Bool) (c : Setting) (line : ℕ) (stmt : Stmt) (rest : Body) (fs : List Frame) (s : State) → step_first v c line stmt rest fs s ≡ ahead_of (step_first v c line stmt rest [] s) fs
first_put true c line stmt rest fs s = refl
first_put false c line stmt rest fs s =
    let u : State = with_item (States.began line) s in
    let m : Middle = step_statement c line stmt [] u in
    statement_put c line stmt (before_all rest fs) u
    ∙ ap (λ l. middle (m.frames ++ l) m.state) (before_put rest [] fs)
    ∙ ap (λ l. middle l m.state) (sym (append_assoc m.frames (before_all rest []) fs))
    ∙ ap (λ k. ahead_of k fs) (sym (statement_put c line stmt (before_all rest []) u))

-- a frame that ends leaves what it puts before the frames behind it
pub frame_put : (c : Setting) (f : Frame) (fs : List Frame) (s : State) → step_frame c f fs s ≡ ahead_of (step_frame c f [] s) fs
frame_put c (does (statements done)) fs s = refl
frame_put c (does (statements (step line stmt rest))) fs s = first_put s.faulted c line stmt rest fs s
frame_put c (does (tree leaf)) fs s = refl
frame_put c (does (tree (forked child own))) fs s = refl
frame_put c (answers ret params args t) fs s = refl
frame_put c (rejoins b l r) fs s = refl
frame_put c (answers_main ret) fs s = refl
frame_put c (allocates b n) fs s = refl
frame_put c (awaits named assigned own parent) fs s = refl
frame_put c (joins assigned child d) fs s = refl

-- ---- what a step's frames come to

finish_append : (c : Setting) (fs gs : List Frame) (s : State) → finish c (fs ++ gs) s ≡ finish c gs (finish c fs s)
unfolding finish
finish_append c [] gs s = refl
finish_append c (f ∷ fs) gs s = finish_append c fs gs (frame_done c f s)

-- they come to what the frame comes to
pub frame_finishes : (c : Setting) (f : Frame) (s : State) → finished c (step_frame c f [] s) ≡ frame_done c f s
unfolding advance finish
frame_finishes c f s = advance_comes c (middle (f ∷ []) s)

-- those of a statement come to the statement alone
pub statement_finishes : (c : Setting) (line : ℕ) (stmt : Stmt) (s : State) → s.faulted ≡ false
    → finished c (step_statement c line stmt [] (with_item (States.began line) s)) ≡ run c (step line stmt done) s
unfolding finish
statement_finishes c line stmt s f =
    let u : State = with_item (States.began line) s in
    let m : Middle = step_statement c line stmt [] u in
    let first : step_first s.faulted c line stmt done [] s ≡ ahead_of m (before_all done []) = ap (λ v. step_first v c line stmt done [] s) f ∙ statement_put c line stmt (before_all done []) u in
    sym (finish_append c m.frames [] m.state)
    ∙ ap (finished c) (sym first) ∙ frame_finishes c (does (statements (step line stmt done))) s

-- a step is one of the frame that comes first
pub advance_put : (c : Setting) (f : Frame) (fs : List Frame) (s : State) → advance c (middle (f ∷ fs) s) ≡ ahead_of (step_frame c f [] s) fs
unfolding advance
advance_put c f fs s = frame_put c f fs s
