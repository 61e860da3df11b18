-- Items only grow, and each step in the middle of a run brings its end nearer.
use Rattle.std.specs.Prelude.{◌≡◌, ℕ, zero, suc, ◌+◌, ◌*◌, ◌-◌, ◌≤◌, ◌<◌, nat_lt, nat_le, Bool, true, false, List, [], ◌∷◌, ◌++◌, length, ℤ, Result, Ok, Err, Option, Some, None, refl}
use Rattle.std.proofs.Common.{sym, ◌∙◌, ap, arith, append_assoc, append-nil, length-append}
use Rattle.depth_first_list.specs.Passed.FaultKind.{FaultKind}
use Rattle.depth_first_list.specs.Shapes.{leaf, forked}
use Rattle.depth_first_list.specs.Actions as actions
use Rattle.par_tree.specs.Tree.{Name, Expr, Target, Arg, Stmt, let_stmt, assign_stmt, put_stmt, alloc_stmt, free_stmt, if_stmt, while_stmt, call_stmt, print_stmt, par_stmt, split_stmt, Body, done, step, Func}
use Rattle.par_ownership.specs.Ownership.{function_of}
use Rattle.depth_first_list.specs.Actions.{record_words}
use Rattle.depth_first_run.specs.Stores.{block_of, block_words}
use Rattle.depth_first_run.specs.Values.{Outcome, value, is_true}
use Rattle.depth_first_run.specs.States
use Rattle.depth_first_run.specs.States.{Setting, State, Item, with_item, with_action, with_fault, unless_faulted, with_number, child_of, parent_of, ended, joined, own_part_then_join}
use Rattle.depth_first_run.specs.Calls.{Passing, all_passed, entered, with_answer, returned}
use Rattle.depth_first_run.specs.Run
use Rattle.depth_first_run.specs.Run.{on_store, put_value, print_number, size_of, cut_of, cut_block, rejoin_block, names_in, assigns_in, no_name, run_tree, ignore_answer, run}
use Rattle.depth_first_run.specs.Middle
use Rattle.depth_first_run.specs.Middle.{Part, statements, tree, Frame, does, answers, rejoins, answers_main, allocates, awaits, joins, allocated, part_done, frame_done, finish, Middle, middle, finished, step_with_number, step_alloc_within, step_alloc_words, step_alloc, before_all, step_branch, step_if, step_turn, step_round, step_while, step_body, step_open_call, step_call_with, step_call, step_fork, step_par, step_cut, step_statement, step_first, step_part, step_awaited, step_frame, advance, to_come}
use Rattle.depth_first_run.proofs.Keeping.{Grows, Keeps, keeps_same, keeps_trans, acting_keeps, faulting_keeps, noting_keeps, storing_keeps, settled_keeps, unless_faulted_keeps, answering_keeps, returned_keeps, joined_keeps, running_tree_keeps, putting_value_keeps, freeing_keeps, ended_keeps, run_keeps, KeepsAll}
use Rattle.depth_first_run.proofs.Stepping.{advance_comes}

grows_same : (s : State) → Grows s s
unfolding Grows
grows_same s = ([], sym (append-nil s.items))

grows_trans : (s t u : State) → Grows s t → Grows t u → Grows s u
unfolding Grows
grows_trans s t u p q = (p.0 ++ q.0, q.1 ∙ ap (λ is. is ++ q.0) p.1 ∙ append_assoc s.items p.0 q.0)

kept_grows : (s t : State) → Keeps s t → Grows s t
unfolding Grows
kept_grows s t k = k.grows

-- only the items matter
grows_to : (s t : State) → t.items ≡ s.items → Grows s t
unfolding Grows
grows_to s t e = ([], e ∙ sym (append-nil s.items))

longer : (s t : State) → Grows s t → length s.items ≤ length t.items
unfolding Grows
longer s t g =
    let l : length t.items ≡ length s.items + length g.0 = ap length g.1 ∙ length-append s.items g.0 in omega (arith, l)

fork_grows : (c : Setting) (named : Name → Bool) (s : State) → Grows s (child_of c named s)
unfolding Grows
fork_grows c named s = (States.next_action (actions.forks (suc s.forks)) record_words s ∷ [], refl)

part_grows : (c : Setting) (p : Part) (s : State) → Keeps s (part_done c p s)
unfolding KeepsAll
part_grows c (statements b) s = run_keeps c b s
part_grows c (tree shape) s = running_tree_keeps c shape s

allocated_keeps : (b : Name) (n : ℕ) (s : State) → Keeps s (allocated b n s)
allocated_keeps b n s =
    let t : State = with_action actions.allocates (block_words n) s in
    keeps_trans s t (allocated b n s) (acting_keeps actions.allocates (block_words n) s) (storing_keeps _ t)

frame_grows : (c : Setting) (f : Frame) (s : State) → Grows s (frame_done c f s)
unfolding own_part_then_join
frame_grows c (does part) s = kept_grows s _ (part_grows c part s)
frame_grows c (answers ret params args t) s =
    kept_grows s _ (unless_faulted_keeps (with_answer ret (returned params args t)) s
    (answering_keeps ret (returned params args t) s (λ a st. returned_keeps params args t a (record s { store = st }))))
frame_grows c (rejoins b l r) s = kept_grows s _ (unless_faulted_keeps (on_store (rejoin_block b l r)) s (storing_keeps _ s))
frame_grows c (answers_main ret) s =
    kept_grows s _ (unless_faulted_keeps (with_answer ret ignore_answer) s (answering_keeps ret ignore_answer s (λ a st. keeps_same (record s { store = st }))))
frame_grows c (allocates b n) s = kept_grows s _ (allocated_keeps b n s)
frame_grows c (awaits named assigned own parent) s =
    let d : State = ended record_words s in let p : State = parent_of named d.items parent in
    let q : State = part_done c own p in
    grows_trans s d (joined assigned (suc parent.forks) d q) (kept_grows s d (ended_keeps record_words s))
    (grows_trans d p (joined assigned (suc parent.forks) d q) (grows_to d p refl)
    (grows_trans p q (joined assigned (suc parent.forks) d q) (kept_grows p q (part_grows c own p))
    (kept_grows q _ (joined_keeps assigned (suc parent.forks) d q))))
frame_grows c (joins assigned child d) s = kept_grows s _ (joined_keeps assigned child d s)

pub finish_grows : (c : Setting) (fs : List Frame) (s : State) → Grows s (finish c fs s)
unfolding finish
finish_grows c [] s = grows_same s
finish_grows c (f ∷ fs) s = grows_trans s (frame_done c f s) (finish c fs (frame_done c f s)) (frame_grows c f s) (finish_grows c fs (frame_done c f s))

-- ---- a step puts at most two frames in place of its own, and one more where an item marks it

record Puts (more : ℕ) (fs : List Frame) (s : State) (m : Middle) : Type 0 where
  few : length m.frames ≤ length fs + more
  grows : Grows s m.state

puts_kept : (more : ℕ) (fs : List Frame) (s t : State) → Keeps s t → Puts more fs s (middle fs t)
puts_kept more fs s t k = record { few = omega arith; grows = kept_grows s t k }

settled_at_puts : (line : ℕ) (o : Outcome) (f : ℤ → List Frame → State → Middle) (fs : List Frame) (s : State)
    → ((v : ℤ) → Puts 2 fs s (f v fs s)) → Puts 2 fs s (step_with_number line o f fs s)
settled_at_puts line (Ok v) f fs s p = p v
settled_at_puts line (Err kind) f fs s p = puts_kept 2 fs s _ (faulting_keeps kind line s)

allocated_at_puts : (b : Bool) (c : Setting) (x : Name) (n : ℕ) (fs : List Frame) (s : State) → Puts 2 fs s (step_alloc_within b c x n fs s)
allocated_at_puts true c x n fs s = puts_kept 2 fs s _ (allocated_keeps x n s)
allocated_at_puts false c x n fs s = record { few = omega arith; grows = grows_same s }

allocating_words_at_puts : (c : Setting) (line : ℕ) (x : Name) (o : Option ℕ) (fs : List Frame) (s : State) → Puts 2 fs s (step_alloc_words c line x o fs s)
allocating_words_at_puts c line x None fs s = puts_kept 2 fs s _ (faulting_keeps _ line s)
allocating_words_at_puts c line x (Some n) fs s = allocated_at_puts (nat_le (block_words n) c.quota) c x n fs s

-- a list of statements is one frame, or none where it is empty
before_few : (b : Body) (fs : List Frame) → length (before_all b fs) ≤ length fs + 1
before_few done fs = omega arith
before_few (step line stmt rest) fs = omega arith

branch_at_puts : (t : Bool) (a b : Body) (fs : List Frame) (s : State) → Puts 2 fs s (step_branch t a b fs s)
branch_at_puts true a b fs s = let l = before_few a fs in record { few = omega (arith, l); grows = grows_same s }
branch_at_puts false a b fs s = let l = before_few b fs in record { few = omega (arith, l); grows = grows_same s }

turning_at_puts : (n line : ℕ) (ahead fs : List Frame) (s : State) → length ahead ≤ length fs + 2 → Puts 2 fs s (step_turn n line ahead fs s)
turning_at_puts zero line ahead fs s l = puts_kept 2 fs s _ (faulting_keeps _ line s)
turning_at_puts (suc left) line ahead fs s l = record { few = l; grows = grows_to s (record s { turns = left }) refl }

round_at_puts : (b : Bool) (line : ℕ) (e : Expr) (a : Body) (fs : List Frame) (s : State) → Puts 2 fs s (step_round b line e a fs s)
round_at_puts true line e a fs s = turning_at_puts s.turns line (before_all a (before_all (step line (while_stmt e a) done) fs)) fs s
    (let l = before_few a (before_all (step line (while_stmt e a) done) fs) in omega (arith, l))
round_at_puts false line e a fs s = puts_kept 2 fs s s (keeps_same s)

body_at_puts : (n line : ℕ) (t : Target) (args : List Arg) (g : Func) (h : Passing) (fs : List Frame) (s : State) → Puts 2 fs s (step_body n line t args g h fs s)
body_at_puts zero line t args g h fs s = puts_kept 2 fs s _ (faulting_keeps _ line s)
body_at_puts (suc left) line t args g h fs s = let l = before_few g.body (answers g.ret g.params args t ∷ fs) in record { few = omega (arith, l); grows = grows_to s (entered h (record s { turns = left })) refl }

opening_at_puts : (b : Bool) (line : ℕ) (t : Target) (args : List Arg) (g : Func) (h : Passing) (fs : List Frame) (s : State) → Puts 2 fs s (step_open_call b line t args g h fs s)
opening_at_puts true line t args g h fs s = body_at_puts s.turns line t args g h fs s
opening_at_puts false line t args g h fs s = puts_kept 2 fs s _ (faulting_keeps _ line s)

calling_with_at_puts : (c : Setting) (line : ℕ) (t : Target) (args : List Arg) (g : Func) (r : Result Passing FaultKind) (fs : List Frame) (s : State)
    → Puts 2 fs s (step_call_with c line t args g r fs s)
calling_with_at_puts c line t args g (Ok h) fs s = opening_at_puts (nat_lt s.calls c.most_calls) line t args g h fs s
calling_with_at_puts c line t args g (Err kind) fs s = puts_kept 2 fs s _ (faulting_keeps kind line s)

calling_at_puts : (c : Setting) (line : ℕ) (t : Target) (args : List Arg) (o : Option Func) (fs : List Frame) (s : State)
    → Puts 2 fs s (step_call c line t args o fs s)
calling_at_puts c line t args None fs s = puts_kept 2 fs s s (keeps_same s)
calling_at_puts c line t args (Some g) fs s = calling_with_at_puts c line t args g (all_passed s.store g.params args) fs s

forking_at_puts : (c : Setting) (named assigned : Name → Bool) (work own : Part) (fs : List Frame) (s : State)
    → Puts 2 fs s (step_fork c named assigned work own fs s)
forking_at_puts c named assigned work own fs s = record { few = omega arith; grows = fork_grows c named s }

both_at_puts : (b : Bool) (c : Setting) (line : ℕ) (x y : Body) (fs : List Frame) (s : State) → Puts 2 fs s (step_par b c line x y fs s)
both_at_puts true c line x y fs s = forking_at_puts c (names_in x) (assigns_in x) (statements x) (statements y) fs s
both_at_puts false c line x y fs s = puts_kept 2 fs s _ (faulting_keeps _ line s)

cut_at_puts : (line : ℕ) (b l r : Name) (a : Body) (o : Option ℕ) (fs : List Frame) (s : State) → Puts 2 fs s (step_cut line b l r a o fs s)
cut_at_puts line b l r a None fs s = puts_kept 2 fs s _ (faulting_keeps _ line s)
cut_at_puts line b l r a (Some at) fs s = let l' = before_few a (rejoins b l r ∷ fs) in record { few = omega (arith, l'); grows = grows_to s (on_store (cut_block b l r at) s) refl }

statement_puts : (c : Setting) (line : ℕ) (stmt : Stmt) (fs : List Frame) (s : State) → Puts 2 fs s (step_statement c line stmt fs s)
statement_puts c line (let_stmt x e) fs s =
    puts_kept 2 fs s _ (settled_keeps line (value s.store e) (Run.set_integer x) s (λ v. storing_keeps _ s))
statement_puts c line (assign_stmt x e) fs s =
    puts_kept 2 fs s _ (settled_keeps line (value s.store e) (Run.set_integer x) s (λ v. storing_keeps _ s))
statement_puts c line (put_stmt b i e) fs s =
    puts_kept 2 fs s _ (settled_keeps line (value s.store i) (put_value line b e) s (λ v. putting_value_keeps line b e v s))
statement_puts c line (alloc_stmt b e) fs s =
    settled_at_puts line (value s.store e) (step_alloc c line b) fs s (λ v. allocating_words_at_puts c line b (size_of v) fs s)
statement_puts c line (free_stmt b) fs s = puts_kept 2 fs s _ (freeing_keeps b s)
statement_puts c line (if_stmt e a b) fs s =
    settled_at_puts line (value s.store e) (step_if a b) fs s (λ v. branch_at_puts (is_true v) a b fs s)
statement_puts c line (while_stmt e a) fs s =
    settled_at_puts line (value s.store e) (step_while line e a) fs s (λ v. round_at_puts (is_true v) line e a fs s)
statement_puts c line (call_stmt t f args) fs s = calling_at_puts c line t args (function_of c.program f) fs s
statement_puts c line (print_stmt e) fs s = puts_kept 2 fs s _ (settled_keeps line (value s.store e) print_number s (λ v. noting_keeps _ s))
statement_puts c line (par_stmt a b) fs s = both_at_puts (nat_lt (length s.label) c.most_forks) c line a b fs s
statement_puts c line (split_stmt b e l r a) fs s =
    settled_at_puts line (value s.store e) (Middle.step_split line b l r a) fs s
    (λ v. cut_at_puts line b l r a (cut_of (block_of s.store.blocks b) v) fs s)

-- a step ends its frame, or it leaves an item and puts at most three frames for it
data Steps (fs : List Frame) (s : State) (m : Middle) : Type 0 where
  pops : length m.frames ≤ length fs → Grows s m.state → Steps fs s m
  marks : length m.frames ≤ length fs + 3 → length s.items < length m.state.items → Steps fs s m

first_steps : (v : Bool) (c : Setting) (line : ℕ) (stmt : Stmt) (rest : Body) (fs : List Frame) (s : State) → Steps fs s (step_first v c line stmt rest fs s)
first_steps true c line stmt rest fs s = pops (omega arith) (grows_same s)
first_steps false c line stmt rest fs s =
    let u : State = with_item (States.began line) s in
    let p = statement_puts c line stmt (before_all rest fs) u in
    let few = p.few in let l = longer u _ p.grows in let ahead = before_few rest fs in
    let one : length u.items ≡ length s.items + 1 = length-append s.items (States.began line ∷ []) in
    marks (omega (arith, few, ahead)) (omega (arith, l, one))

-- an action is an item
acted_longer : (s t : State) (item : Item) (new : List Item) → t.items ≡ (s.items ++ item ∷ []) ++ new → length s.items < length t.items
acted_longer s t item new e =
    let a = ap length e in let b = length-append (s.items ++ item ∷ []) new in let d = length-append s.items (item ∷ []) in
    omega (arith, a, b, d)

part_steps : (c : Setting) (p : Part) (fs : List Frame) (s : State) → Steps fs s (step_part c p fs s)
part_steps c (statements done) fs s = pops (omega arith) (grows_same s)
part_steps c (statements (step line stmt rest)) fs s = first_steps s.faulted c line stmt rest fs s
part_steps c (tree leaf) fs s = pops (omega arith) (kept_grows s _ (acting_keeps actions.dummy 0 s))
part_steps c (tree (forked child own)) fs s =
    marks (omega arith) (acted_longer s (child_of c no_name s) (States.next_action (actions.forks (suc s.forks)) record_words s) [] (sym (append-nil _)))

ended_longer : (words : ℕ) (s : State) → length s.items < length (State.items (ended words s))
unfolding ended with_action
ended_longer words s = acted_longer s (ended words s) (States.next_action actions.ends words s) [] (sym (append-nil _))

frame_steps : (c : Setting) (f : Frame) (fs : List Frame) (s : State) → Steps fs s (step_frame c f fs s)
frame_steps c (does part) fs s = part_steps c part fs s
frame_steps c (answers ret params args t) fs s = pops (omega arith) (frame_grows c (answers ret params args t) s)
frame_steps c (rejoins b l r) fs s = pops (omega arith) (frame_grows c (rejoins b l r) s)
frame_steps c (answers_main ret) fs s = pops (omega arith) (frame_grows c (answers_main ret) s)
frame_steps c (allocates b n) fs s = pops (omega arith) (frame_grows c (allocates b n) s)
frame_steps c (awaits named assigned own parent) fs s = marks (omega arith) (ended_longer record_words s)
frame_steps c (joins assigned child d) fs s = pops (omega arith) (frame_grows c (joins assigned child d) s)

-- from what a step did to the end it is nearer
nearer : (c : Setting) (fs : List Frame) (s : State) (m : Middle) (end : State) → finished c m ≡ end → Steps fs s m
    → 4 * (length end.items - length m.state.items) + length m.frames < 4 * (length end.items - length s.items) + suc (length fs)
nearer c fs s m end e (pops few g) =
    let a = longer s m.state g in omega (arith, few, a)
nearer c fs s m end e (marks few l) =
    let b = longer m.state (finished c m) (finish_grows c m.frames m.state) in
    let same : length (State.items (finished c m)) ≡ length end.items = ap (λ t. length (State.items t)) e in
    omega (arith, few, l, b, same)

pub advance_nears : (c : Setting) (f : Frame) (fs : List Frame) (s : State) → to_come c (advance c (middle (f ∷ fs) s)) < to_come c (middle (f ∷ fs) s)
unfolding to_come advance
advance_nears c f fs s =
    let m : Middle = step_frame c f fs s in
    let here = advance_comes c (middle (f ∷ fs) s) in
    let near = nearer c fs s m (finished c (middle (f ∷ fs) s)) here (frame_steps c f fs s) in
    let same : length (State.items (finished c m)) ≡ length (State.items (finished c (middle (f ∷ fs) s))) = ap (λ t. length (State.items t)) here in
    omega (arith, near, same)

pub items_grow : (c : Setting) (m : Middle) → (new : List Item) × (State.items (finished c m) ≡ m.state.items ++ new)
unfolding Grows
items_grow c m = finish_grows c m.frames m.state
