-- A step of a run in the middle leaves what the run comes to, and brings its end nearer.
use Rattle.std.specs.Prelude.{◌≡◌, ℕ, zero, suc, nat_lt, nat_le, Bool, true, false, List, [], ◌∷◌, length, ℤ, Result, Ok, Err, Option, Some, None, refl}
use Rattle.std.proofs.Common.{sym, ◌∙◌, ap}
use Rattle.depth_first_list.specs.Passed.FaultKind.{FaultKind}
use Rattle.depth_first_list.specs.Shapes.{leaf, forked}
use Rattle.par_tree.specs.Tree.{Name, Expr, Target, Arg, Stmt, let_stmt, assign_stmt, put_stmt, alloc_stmt, free_stmt, if_stmt, while_stmt, call_stmt, print_stmt, par_stmt, split_stmt, Body, done, step, Func}
use Rattle.par_ownership.specs.Ownership.{function_of, main_name}
use Rattle.depth_first_list.specs.Actions.{record_words}
use Rattle.depth_first_run.specs.Stores.{block_of, block_words}
use Rattle.depth_first_run.specs.Values.{Outcome, value, is_true}
use Rattle.depth_first_run.specs.States
use Rattle.depth_first_run.specs.States.{Setting, State, Item, with_item, with_action, with_fault, skip_if, unless_faulted, with_number, with_turns, with_turn, under_limit, with_depth, child_of, parent_of, ended, joined, own_part_then_join, fork_join}
use Rattle.depth_first_run.specs.Calls.{Passing, all_passed, entered}
use Rattle.depth_first_run.specs.Run.{on_store, branch, branch_on, unchanged, one_round, cut_of, cut_block, rejoin_block, split_in_place, split_block, run_callee, call_with, call_function, run_tree_unless, run_tree_before, size_of, alloc_words, alloc_block, begin_statement, names_in, assigns_in, run_tree, exec, exec_all, run, whole, main_run, root_start}
use Rattle.depth_first_run.specs.Middle
use Rattle.depth_first_run.specs.Middle.{Part, statements, tree, Frame, does, answers, rejoins, answers_main, allocates, awaits, joins, allocated, part_done, frame_done, finish, Middle, middle, finished, step_with_number, step_alloc_within, step_alloc_words, step_alloc, before_all, step_branch, step_if, step_turn, step_round, step_while, step_body, step_open_call, step_call_with, step_call, step_fork, step_par, step_cut, step_statement, step_first, step_part, step_awaited, step_frame, advance, run_start, to_come}
use Rattle.depth_first_run.proofs.Fixed.{run_fixed}

-- ---- a thread that a fault ended skips its statements

skipped : (f : State → State) (s : State) → s.faulted ≡ true → unless_faulted f s ≡ s
unfolding unless_faulted
skipped f s e = ap (λ b. skip_if b f s) e

all_skipped : (c : Setting) (more : Body → State → State) (b : Body) (s : State) → s.faulted ≡ true → exec_all c more b s ≡ s
unfolding exec_all
all_skipped c more done s e = refl
all_skipped c more (step line stmt rest) s e =
    ap (λ t. exec_all c more rest t) (skipped (begin_statement line (exec c more line stmt)) s e) ∙ all_skipped c more rest s e

run_skipped : (c : Setting) (b : Body) (s : State) → s.faulted ≡ true → run c b s ≡ s
run_skipped c b s e = run_fixed c b s ∙ all_skipped c (run c) b s e

going : (f : State → State) (s : State) → s.faulted ≡ false → unless_faulted f s ≡ f s
unfolding unless_faulted
going f s e = ap (λ b. skip_if b f s) e

run_unless : (c : Setting) (b : Body) (s : State) → run c b s ≡ unless_faulted (run c b) s
run_unless c b s = by s.faulted refl
  where
    by : (v : Bool) → s.faulted ≡ v → run c b s ≡ unless_faulted (run c b) s
    by true e = run_skipped c b s e ∙ sym (skipped (run c b) s e)
    by false e = sym (going (run c b) s e)

-- a list of statements runs its first one, and then the rest
run_first : (c : Setting) (line : ℕ) (stmt : Stmt) (rest : Body) (s : State)
    → run c (step line stmt rest) s ≡ run c rest (unless_faulted (begin_statement line (exec c (run c) line stmt)) s)
unfolding exec_all
run_first c line stmt rest s =
    run_fixed c (step line stmt rest) s ∙ sym (run_fixed c rest (unless_faulted (begin_statement line (exec c (run c) line stmt)) s))

-- ---- what a step comes to

settled_at_comes : (c : Setting) (line : ℕ) (o : Outcome) (f : ℤ → List Frame → State → Middle) (g : ℤ → State → State) (fs : List Frame) (s : State)
    → ((v : ℤ) → finished c (f v fs s) ≡ finish c fs (g v s)) → finished c (step_with_number line o f fs s) ≡ finish c fs (with_number line o g s)
unfolding with_number
settled_at_comes c line (Ok v) f g fs s e = e v
settled_at_comes c line (Err kind) f g fs s e = refl

allocated_at_comes : (b : Bool) (c : Setting) (x : Name) (n : ℕ) (fs : List Frame) (s : State)
    → finished c (step_alloc_within b c x n fs s) ≡ finish c fs (allocated x n (run_tree_unless b c (block_words n) s))
unfolding finish
allocated_at_comes true c x n fs s = refl
allocated_at_comes false c x n fs s = refl

allocating_words_at_comes : (c : Setting) (line : ℕ) (x : Name) (o : Option ℕ) (fs : List Frame) (s : State)
    → finished c (step_alloc_words c line x o fs s) ≡ finish c fs (alloc_words c line x o s)
unfolding run_tree_before
allocating_words_at_comes c line x None fs s = refl
allocating_words_at_comes c line x (Some n) fs s = allocated_at_comes (nat_le (block_words n) c.quota) c x n fs s

-- what a list of statements that comes first comes to, also where it is empty
pub run_nothing : (c : Setting) (s : State) → run c done s ≡ s
unfolding exec_all
run_nothing c s = run_fixed c done s

pub before_comes : (c : Setting) (b : Body) (fs : List Frame) (s : State) → finish c (before_all b fs) s ≡ finish c fs (run c b s)
unfolding finish
before_comes c done fs s = ap (λ t. finish c fs t) (sym (run_nothing c s))
before_comes c (step line stmt rest) fs s = refl

branch_at_comes : (t : Bool) (c : Setting) (a b : Body) (fs : List Frame) (s : State)
    → finished c (step_branch t a b fs s) ≡ finish c fs (branch (exec_all c (run c) a) (exec_all c (run c) b) t s)
unfolding finish
branch_at_comes true c a b fs s = before_comes c a fs s ∙ ap (λ t. finish c fs t) (run_fixed c a s)
branch_at_comes false c a b fs s = before_comes c b fs s ∙ ap (λ t. finish c fs t) (run_fixed c b s)

turning_at_comes : (c : Setting) (n line : ℕ) (ahead fs : List Frame) (f : State → State) (s : State)
    → ((t : State) → finish c ahead t ≡ finish c fs (f t)) → finished c (step_turn n line ahead fs s) ≡ finish c fs (with_turns n line f s)
turning_at_comes c zero line ahead fs f s e = refl
turning_at_comes c (suc left) line ahead fs f s e = e (record s { turns = left })

round_comes : (c : Setting) (a again : Body) (fs : List Frame) (t : State)
    → finish c (before_all a (before_all again fs)) t ≡ finish c fs (one_round (exec_all c (run c) a) (run c again) t)
unfolding finish
round_comes c a again fs t =
    before_comes c a (before_all again fs) t ∙ before_comes c again fs (run c a t)
    ∙ ap (λ u. finish c fs u) (run_unless c again (run c a t) ∙ ap (λ u. unless_faulted (run c again) u) (run_fixed c a t))

round_at_comes : (b : Bool) (c : Setting) (line : ℕ) (e : Expr) (a : Body) (fs : List Frame) (s : State)
    → finished c (step_round b line e a fs s)
    ≡ finish c fs (branch (with_turn line (one_round (exec_all c (run c) a) (run c (step line (while_stmt e a) done)))) unchanged b s)
unfolding with_turn
round_at_comes true c line e a fs s =
    let again : Body = step line (while_stmt e a) done in
    turning_at_comes c s.turns line (before_all a (before_all again fs)) fs (one_round (exec_all c (run c) a) (run c again)) s (round_comes c a again fs)
round_at_comes false c line e a fs s = refl

body_comes : (c : Setting) (t : Target) (args : List Arg) (g : Func) (h : Passing) (fs : List Frame) (s : State)
    → finish c (before_all g.body (answers g.ret g.params args t ∷ fs)) (entered h s) ≡ finish c fs (run_callee (run c) t args g h s)
unfolding finish
body_comes c t args g h fs s = before_comes c g.body (answers g.ret g.params args t ∷ fs) (entered h s)

body_at_comes : (c : Setting) (n line : ℕ) (t : Target) (args : List Arg) (g : Func) (h : Passing) (fs : List Frame) (s : State)
    → finished c (step_body n line t args g h fs s) ≡ finish c fs (with_turns n line (run_callee (run c) t args g h) s)
body_at_comes c zero line t args g h fs s = refl
body_at_comes c (suc left) line t args g h fs s = body_comes c t args g h fs (record s { turns = left })

opening_at_comes : (b : Bool) (c : Setting) (line : ℕ) (t : Target) (args : List Arg) (g : Func) (h : Passing) (fs : List Frame) (s : State)
    → finished c (step_open_call b line t args g h fs s) ≡ finish c fs (under_limit b line (with_turn line (run_callee (run c) t args g h)) s)
unfolding with_turn
opening_at_comes true c line t args g h fs s = body_at_comes c s.turns line t args g h fs s
opening_at_comes false c line t args g h fs s = refl

calling_with_at_comes : (c : Setting) (line : ℕ) (t : Target) (args : List Arg) (g : Func) (r : Result Passing FaultKind) (fs : List Frame) (s : State)
    → finished c (step_call_with c line t args g r fs s) ≡ finish c fs (call_with c (run c) line t args g r s)
unfolding with_depth
calling_with_at_comes c line t args g (Ok h) fs s = opening_at_comes (nat_lt s.calls c.most_calls) c line t args g h fs s
calling_with_at_comes c line t args g (Err kind) fs s = refl

calling_at_comes : (c : Setting) (line : ℕ) (t : Target) (args : List Arg) (o : Option Func) (fs : List Frame) (s : State)
    → finished c (step_call c line t args o fs s) ≡ finish c fs (call_function c (run c) line t args o s)
calling_at_comes c line t args None fs s = refl
calling_at_comes c line t args (Some g) fs s = calling_with_at_comes c line t args g (all_passed s.store g.params args) fs s

both_at_comes : (b : Bool) (c : Setting) (line : ℕ) (x y : Body) (fs : List Frame) (s : State)
    → finished c (step_par b c line x y fs s)
    ≡ finish c fs (under_limit b line (fork_join c (names_in x) (assigns_in x) (exec_all c (run c) x) (exec_all c (run c) y)) s)
unfolding finish fork_join own_part_then_join
both_at_comes true c line x y fs s =
    let k : State = child_of c (names_in x) s in
    ap (λ d. finish c fs (own_part_then_join (names_in x) (assigns_in x) (part_done c (statements y)) s (ended record_words d))) (run_fixed c x k)
    ∙ (let d : State = ended record_words (exec_all c (run c) x k) in
    ap (λ t. finish c fs (joined (assigns_in x) (suc s.forks) d t)) (run_fixed c y (parent_of (names_in x) d.items s)))
both_at_comes false c line x y fs s = refl

cut_at_comes : (c : Setting) (line : ℕ) (b l r : Name) (a : Body) (o : Option ℕ) (fs : List Frame) (s : State)
    → finished c (step_cut line b l r a o fs s) ≡ finish c fs (split_in_place line b l r (exec_all c (run c) a) o s)
unfolding finish
cut_at_comes c line b l r a None fs s = refl
cut_at_comes c line b l r a (Some at) fs s =
    before_comes c a (rejoins b l r ∷ fs) (on_store (cut_block b l r at) s)
    ∙ ap (λ t. finish c fs (unless_faulted (on_store (rejoin_block b l r)) t)) (run_fixed c a (on_store (cut_block b l r at) s))

statement_comes : (c : Setting) (line : ℕ) (stmt : Stmt) (fs : List Frame) (s : State)
    → finished c (step_statement c line stmt fs s) ≡ finish c fs (exec c (run c) line stmt s)
unfolding exec with_depth
statement_comes c line (let_stmt x e) fs s = refl
statement_comes c line (assign_stmt x e) fs s = refl
statement_comes c line (put_stmt b i e) fs s = refl
statement_comes c line (alloc_stmt b e) fs s =
    settled_at_comes c line (value s.store e) (step_alloc c line b) (alloc_block c line b) fs s
    (λ v. allocating_words_at_comes c line b (size_of v) fs s)
statement_comes c line (free_stmt b) fs s = refl
statement_comes c line (if_stmt e a b) fs s =
    settled_at_comes c line (value s.store e) (step_if a b) (branch_on (exec_all c (run c) a) (exec_all c (run c) b)) fs s
    (λ v. branch_at_comes (is_true v) c a b fs s)
statement_comes c line (while_stmt e a) fs s =
    settled_at_comes c line (value s.store e) (step_while line e a)
    (branch_on (with_turn line (one_round (exec_all c (run c) a) (run c (step line (while_stmt e a) done)))) unchanged) fs s
    (λ v. round_at_comes (is_true v) c line e a fs s)
statement_comes c line (call_stmt t f args) fs s = calling_at_comes c line t args (function_of c.program f) fs s
statement_comes c line (print_stmt e) fs s = refl
statement_comes c line (par_stmt a b) fs s = both_at_comes (nat_lt (length s.label) c.most_forks) c line a b fs s
statement_comes c line (split_stmt b e l r a) fs s =
    settled_at_comes c line (value s.store e) (Middle.step_split line b l r a) (split_block line b l r (exec_all c (run c) a)) fs s
    (λ v. cut_at_comes c line b l r a (cut_of (block_of s.store.blocks b) v) fs s)

first_comes : (v : Bool) (c : Setting) (line : ℕ) (stmt : Stmt) (rest : Body) (fs : List Frame) (s : State) → s.faulted ≡ v
    → finished c (step_first v c line stmt rest fs s) ≡ finish c fs (run c (step line stmt rest) s)
unfolding finish
first_comes true c line stmt rest fs s e = ap (λ t. finish c fs t) (sym (run_skipped c (step line stmt rest) s e))
first_comes false c line stmt rest fs s e =
    let u : State = with_item (States.began line) s in
    statement_comes c line stmt (before_all rest fs) u
    ∙ before_comes c rest fs (exec c (run c) line stmt u)
    ∙ ap (λ t. finish c fs t) (sym (run_first c line stmt rest s
    ∙ ap (λ t. run c rest t) (going (begin_statement line (exec c (run c) line stmt)) s e)))

part_comes : (c : Setting) (p : Part) (fs : List Frame) (s : State) → finished c (step_part c p fs s) ≡ finish c fs (part_done c p s)
unfolding finish run_tree fork_join exec_all
part_comes c (statements done) fs s = ap (λ t. finish c fs t) (sym (run_fixed c done s))
part_comes c (statements (step line stmt rest)) fs s = first_comes s.faulted c line stmt rest fs s refl
part_comes c (tree leaf) fs s = refl
part_comes c (tree (forked child own)) fs s = refl

frame_comes : (c : Setting) (f : Frame) (fs : List Frame) (s : State) → finished c (step_frame c f fs s) ≡ finish c (f ∷ fs) s
unfolding finish own_part_then_join
frame_comes c (does part) fs s = part_comes c part fs s
frame_comes c (answers ret params args t) fs s = refl
frame_comes c (rejoins b l r) fs s = refl
frame_comes c (answers_main ret) fs s = refl
frame_comes c (allocates b n) fs s = refl
frame_comes c (awaits named assigned own parent) fs s = refl
frame_comes c (joins assigned child d) fs s = refl

pub advance_comes : (c : Setting) (m : Middle) → finished c (advance c m) ≡ finished c m
unfolding advance
advance_comes c m = by m.frames refl
  where
    by : (fs : List Frame) → m.frames ≡ fs → finished c (advance c m) ≡ finished c m
    by [] e = ap (λ fs. finished c (advance c (middle fs m.state))) e ∙ sym (ap (λ fs. finish c fs m.state) e)
    by (f ∷ fs) e =
        ap (λ l. finished c (advance c (middle l m.state))) e ∙ frame_comes c f fs m.state ∙ sym (ap (λ l. finish c l m.state) e)

pub beginning_comes : (c : Setting) → whole c ≡ ended 0 (finished c (run_start c (function_of c.program main_name)))
unfolding whole finish
beginning_comes c = ap (ended 0) (by (function_of c.program main_name))
  where
    by : (o : Option Func) → main_run c o (root_start c) ≡ finished c (run_start c o)
    by None = refl
    by (Some g) = sym (before_comes c g.body (answers_main g.ret ∷ []) (root_start c))
