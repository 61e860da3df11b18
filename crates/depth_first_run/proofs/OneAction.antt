-- A step leaves at most one action.
use Rattle.std.specs.Prelude.{◌≡◌, ℕ, zero, suc, ◌≤◌, nat_lt, nat_le, Bool, true, false, List, [], ◌∷◌, ◌++◌, length, ℤ, Result, Ok, Err, Option, Some, None, refl}
use Rattle.std.proofs.Common.{sym, ◌∙◌, ap, arith, append_assoc, append-nil}
use Rattle.depth_first_list.specs.Passed.FaultKind.{FaultKind}
use Rattle.depth_first_list.specs.Shapes.{leaf, forked}
use Rattle.depth_first_list.specs.Actions as actions
use Rattle.par_tree.specs.Tree.{Name, Expr, Target, Arg, Param, Stmt, let_stmt, assign_stmt, put_stmt, alloc_stmt, free_stmt, if_stmt, while_stmt, call_stmt, print_stmt, par_stmt, split_stmt, Body, done, step, Func, Ret, RetValue, gives, hands}
use Rattle.par_ownership.specs.Ownership.{function_of}
use Rattle.depth_first_list.specs.Actions.{record_words}
use Rattle.depth_first_run.specs.Stores as stores
use Rattle.depth_first_run.specs.Stores.{block_of, block_words, drop_block}
use Rattle.depth_first_run.specs.Values.{Outcome, value, is_true, place_in}
use Rattle.depth_first_run.specs.States.{Setting, State, Item, began, printed, failed, next_action, with_item, with_action, with_fault, unless_faulted, skip_if, with_number, child_of, ended, joined, with_result, given_back, holdings}
use Rattle.depth_first_run.specs.Calls.{Passing, all_passed, entered, Answer, number, items, with_answer, with_return, as_number, returned, end_call}
use Rattle.depth_first_run.specs.Run.{on_store, set_integer, put_number, put_in_place, put_value, print_number, size_of, free_block, cut_of, cut_block, rejoin_block, names_in, no_name, ignore_answer, actions_of}
use Rattle.depth_first_run.specs.Middle
use Rattle.depth_first_run.specs.Middle.{statements, tree, Part, Frame, does, answers, rejoins, answers_main, allocates, awaits, joins, allocated, Middle, middle, finished, step_with_number, step_alloc_within, step_alloc_words, step_alloc, before_all, step_branch, step_if, step_turn, step_round, step_while, step_body, step_open_call, step_call_with, step_call, step_fork, step_par, step_cut, step_statement, step_first, step_part, step_frame, advance}
use Rattle.depth_first_run.proofs.Stepping.{advance_comes}
use Rattle.depth_first_run.proofs.Nearing.{items_grow}

-- behind the items so far come new ones, with one action at most
record One (s t : State) : Type 0 where
  new : List Item
  few : length (actions_of new) ≤ 1
  behind : t.items ≡ s.items ++ new

-- the items stay
one_none : (s t : State) → t.items ≡ s.items → One s t
one_none s t same = record { new = []; few = omega arith; behind = same ∙ sym (append-nil s.items) }

-- an item, and what is changed behind it but the items
one_item : (s t : State) (item : Item) → length (actions_of (item ∷ [])) ≤ 1 → t.items ≡ s.items ++ item ∷ [] → One s t
one_item s t item few same = record { new = item ∷ []; few = few; behind = same }

one_acting : (deed : actions.Deed) (words : ℕ) (s t : State) → t.items ≡ State.items (with_action deed words s) → One s t
unfolding with_action
one_acting deed words s t same = one_item s t (next_action deed words s) (omega arith) same

one_faulting : (kind : FaultKind) (line : ℕ) (s : State) → One s (with_fault kind line s)
unfolding with_fault with_action
one_faulting kind line s =
    let a : Item = next_action actions.faults (holdings s) s in
    let f : Item = failed (record { kind = kind; line = line }) in
    record { new = a ∷ f ∷ []; few = omega arith; behind = append_assoc s.items (a ∷ []) (f ∷ []) }

one_settled : (line : ℕ) (o : Outcome) (f : ℤ → State → State) (s : State) → ((v : ℤ) → One s (f v s)) → One s (with_number line o f s)
unfolding with_number
one_settled line (Ok v) f s all = all v
one_settled line (Err kind) f s all = one_faulting kind line s

one_choosing : (b : Bool) (f : State → State) (s : State) → One s (f s) → One s (skip_if b f s)
one_choosing true f s one = one_none s s refl
one_choosing false f s one = one

one_unless : (f : State → State) (s : State) → One s (f s) → One s (unless_faulted f s)
unfolding unless_faulted
one_unless f s one = one_choosing s.faulted f s one

one_putting_at : (line : ℕ) (b : Name) (v : ℤ) (place : Option ℕ) (s : State) → One s (put_in_place line b v place s)
one_putting_at line b v None s = one_faulting _ line s
one_putting_at line b v (Some i) s = one_none s (put_in_place line b v (Some i) s) refl

one_putting_value : (line : ℕ) (b : Name) (e : Expr) (i : ℤ) (s : State) → One s (put_value line b e i s)
one_putting_value line b e i s = one_settled line (value s.store e) (put_number line b i) s (λ v. one_putting_at line b v (place_in (block_of s.store.blocks b) i) s)

-- the end of a call
one_closing : (callers : List stores.Store) (params : List Param) (args : List Arg) (t : Target) (answer : Answer) (s : State) → State.items (end_call callers params args t answer s) ≡ s.items
one_closing [] params args t answer s = refl
one_closing (caller ∷ callers) params args t answer s = refl

one_returned : (params : List Param) (args : List Arg) (t : Target) (answer : Answer) (s : State) → State.items (returned params args t answer s) ≡ s.items
unfolding returned
one_returned params args t answer s = one_closing s.callers params args t answer s

one_answering_value : (line : ℕ) (r : RetValue) (next : Answer → State → State) (s : State) → ((a : Answer) (t : State) → State.items (next a t) ≡ t.items) → One s (with_return line r next s)
one_answering_value line (gives e) next s same = one_settled line (value s.store e) (as_number next) s (λ v. one_none s (next (number v) s) (same (number v) s))
one_answering_value line (hands b) next s same =
    let t : State = record s { store = drop_block b s.store } in one_none s (next (items (block_of s.store.blocks b)) t) (same (items (block_of s.store.blocks b)) t)

one_answering : (ret : Option Ret) (next : Answer → State → State) (s : State) → ((a : Answer) (t : State) → State.items (next a t) ≡ t.items) → One s (with_answer ret next s)
unfolding with_answer
one_answering None next s same = one_none s (next (number _) s) (same (number _) s)
one_answering (Some r) next s same = one_answering_value r.line r.value next s same

-- a Join
one_taking : (a b : Bool) (assigned : Name → Bool) (d s : State) → State.items (with_result a b assigned d s) ≡ s.items
one_taking true b assigned d s = refl
one_taking false true assigned d s = refl
one_taking false false assigned d s = refl

one_joined : (assigned : Name → Bool) (child : ℕ) (d s : State) → One s (joined assigned child d s)
unfolding joined
one_joined assigned child d s =
    let words = given_back s.faulted d.faulted d s in
    one_acting (actions.joins child) words s (joined assigned child d s) (one_taking s.faulted d.faulted assigned d (with_action (actions.joins child) words s))

one_ended : (words : ℕ) (s : State) → One s (ended words s)
unfolding ended
one_ended words s = one_acting actions.ends words s (ended words s) refl

-- ---- the points behind a step

one_settled_at : (line : ℕ) (o : Outcome) (f : ℤ → List Frame → State → Middle) (fs : List Frame) (s : State) → ((v : ℤ) → One s (f v fs s).state) → One s (step_with_number line o f fs s).state
one_settled_at line (Ok v) f fs s all = all v
one_settled_at line (Err kind) f fs s all = one_faulting kind line s

one_allocated : (b : Name) (n : ℕ) (s : State) → One s (allocated b n s)
one_allocated b n s = one_acting actions.allocates (block_words n) s (allocated b n s) refl

one_allocated_at : (b : Bool) (c : Setting) (x : Name) (n : ℕ) (fs : List Frame) (s : State) → One s (step_alloc_within b c x n fs s).state
one_allocated_at true c x n fs s = one_allocated x n s
one_allocated_at false c x n fs s = one_none s s refl

one_allocating_words_at : (c : Setting) (line : ℕ) (x : Name) (o : Option ℕ) (fs : List Frame) (s : State) → One s (step_alloc_words c line x o fs s).state
one_allocating_words_at c line x None fs s = one_faulting _ line s
one_allocating_words_at c line x (Some n) fs s = one_allocated_at (nat_le (block_words n) c.quota) c x n fs s

one_branch_at : (b : Bool) (x y : Body) (fs : List Frame) (s : State) → One s (step_branch b x y fs s).state
one_branch_at true x y fs s = one_none s s refl
one_branch_at false x y fs s = one_none s s refl

one_turning_at : (n line : ℕ) (ahead fs : List Frame) (s : State) → One s (step_turn n line ahead fs s).state
one_turning_at zero line ahead fs s = one_faulting _ line s
one_turning_at (suc left) line ahead fs s = one_none s (record s { turns = left }) refl

one_round_at : (b : Bool) (line : ℕ) (e : Expr) (a : Body) (fs : List Frame) (s : State) → One s (step_round b line e a fs s).state
one_round_at true line e a fs s = one_turning_at s.turns line (before_all a (before_all (step line (while_stmt e a) done) fs)) fs s
one_round_at false line e a fs s = one_none s s refl

one_body_at : (n line : ℕ) (t : Target) (args : List Arg) (g : Func) (h : Passing) (fs : List Frame) (s : State) → One s (step_body n line t args g h fs s).state
one_body_at zero line t args g h fs s = one_faulting _ line s
one_body_at (suc left) line t args g h fs s = one_none s (entered h (record s { turns = left })) refl

one_opening_at : (b : Bool) (line : ℕ) (t : Target) (args : List Arg) (g : Func) (h : Passing) (fs : List Frame) (s : State) → One s (step_open_call b line t args g h fs s).state
one_opening_at true line t args g h fs s = one_body_at s.turns line t args g h fs s
one_opening_at false line t args g h fs s = one_faulting _ line s

one_calling_with_at : (c : Setting) (line : ℕ) (t : Target) (args : List Arg) (g : Func) (r : Result Passing FaultKind) (fs : List Frame) (s : State) → One s (step_call_with c line t args g r fs s).state
one_calling_with_at c line t args g (Ok h) fs s = one_opening_at (nat_lt s.calls c.most_calls) line t args g h fs s
one_calling_with_at c line t args g (Err kind) fs s = one_faulting kind line s

one_calling_at : (c : Setting) (line : ℕ) (t : Target) (args : List Arg) (o : Option Func) (fs : List Frame) (s : State) → One s (step_call c line t args o fs s).state
one_calling_at c line t args None fs s = one_none s s refl
one_calling_at c line t args (Some g) fs s = one_calling_with_at c line t args g (all_passed s.store g.params args) fs s

one_forking : (c : Setting) (named : Name → Bool) (s : State) → One s (child_of c named s)
one_forking c named s = one_item s (child_of c named s) (next_action (actions.forks (suc s.forks)) record_words s) (omega arith) refl

one_both_at : (b : Bool) (c : Setting) (line : ℕ) (x y : Body) (fs : List Frame) (s : State) → One s (step_par b c line x y fs s).state
one_both_at true c line x y fs s = one_forking c (names_in x) s
one_both_at false c line x y fs s = one_faulting _ line s

one_cut_at : (line : ℕ) (b l r : Name) (a : Body) (o : Option ℕ) (fs : List Frame) (s : State) → One s (step_cut line b l r a o fs s).state
one_cut_at line b l r a None fs s = one_faulting _ line s
one_cut_at line b l r a (Some at) fs s = one_none s (on_store (cut_block b l r at) s) refl

one_statement : (c : Setting) (line : ℕ) (stmt : Stmt) (fs : List Frame) (s : State) → One s (step_statement c line stmt fs s).state
one_statement c line (let_stmt x e) fs s = one_settled line (value s.store e) (set_integer x) s (λ v. one_none s (set_integer x v s) refl)
one_statement c line (assign_stmt x e) fs s = one_settled line (value s.store e) (set_integer x) s (λ v. one_none s (set_integer x v s) refl)
one_statement c line (put_stmt b i e) fs s = one_settled line (value s.store i) (put_value line b e) s (λ v. one_putting_value line b e v s)
one_statement c line (alloc_stmt b e) fs s = one_settled_at line (value s.store e) (step_alloc c line b) fs s (λ v. one_allocating_words_at c line b (size_of v) fs s)
one_statement c line (free_stmt b) fs s = one_acting actions.releases (block_words (length (block_of s.store.blocks b))) s (free_block b s) refl
one_statement c line (if_stmt e a b) fs s = one_settled_at line (value s.store e) (step_if a b) fs s (λ v. one_branch_at (is_true v) a b fs s)
one_statement c line (while_stmt e a) fs s = one_settled_at line (value s.store e) (step_while line e a) fs s (λ v. one_round_at (is_true v) line e a fs s)
one_statement c line (call_stmt t f args) fs s = one_calling_at c line t args (function_of c.program f) fs s
one_statement c line (print_stmt e) fs s = one_settled line (value s.store e) print_number s (λ v. one_item s (print_number v s) (printed v) (omega arith) refl)
one_statement c line (par_stmt a b) fs s = one_both_at (nat_lt (length s.label) c.most_forks) c line a b fs s
one_statement c line (split_stmt b e l r a) fs s =
    one_settled_at line (value s.store e) (Middle.step_split line b l r a) fs s (λ v. one_cut_at line b l r a (cut_of (block_of s.store.blocks b) v) fs s)

-- behind the mark of a statement
one_behind : (line : ℕ) (s t : State) → One (with_item (began line) s) t → One s t
one_behind line s t one = record { new = began line ∷ one.new; few = one.few; behind = one.behind ∙ append_assoc s.items (began line ∷ []) one.new }

one_first : (b : Bool) (c : Setting) (line : ℕ) (stmt : Stmt) (rest : Body) (fs : List Frame) (s : State) → One s (step_first b c line stmt rest fs s).state
one_first true c line stmt rest fs s = one_none s s refl
one_first false c line stmt rest fs s = one_behind line s _ (one_statement c line stmt (before_all rest fs) (with_item (began line) s))

one_part : (c : Setting) (p : Part) (fs : List Frame) (s : State) → One s (step_part c p fs s).state
one_part c (statements done) fs s = one_none s s refl
one_part c (statements (step line stmt rest)) fs s = one_first s.faulted c line stmt rest fs s
one_part c (tree leaf) fs s = one_acting actions.dummy 0 s (with_action actions.dummy 0 s) refl
one_part c (tree (forked child own)) fs s = one_forking c no_name s

one_frame : (c : Setting) (f : Frame) (fs : List Frame) (s : State) → One s (step_frame c f fs s).state
one_frame c (does part) fs s = one_part c part fs s
one_frame c (answers ret params args t) fs s =
    one_unless (with_answer ret (returned params args t)) s (one_answering ret (returned params args t) s (λ a u. one_returned params args t a u))
one_frame c (rejoins b l r) fs s = one_unless (on_store (rejoin_block b l r)) s (one_none s (on_store (rejoin_block b l r) s) refl)
one_frame c (answers_main ret) fs s = one_unless (with_answer ret ignore_answer) s (one_answering ret ignore_answer s (λ a u. refl))
one_frame c (allocates b n) fs s = one_allocated b n s
one_frame c (awaits named assigned own parent) fs s = let one = one_ended record_words s in record { new = one.new; few = one.few; behind = one.behind }
one_frame c (joins assigned child d) fs s = one_joined assigned child d s

one_advance : (c : Setting) (m : Middle) → One m.state (advance c m).state
unfolding advance
one_advance c m = go m.frames
  where
    go : (fs : List Frame) → One m.state (advance c (middle fs m.state)).state
    go [] = one_none m.state m.state refl
    go (f ∷ fs) = one_frame c f fs m.state

-- what a step leaves comes next
pub next_action_comes : (c : Setting) (m : Middle) → (new : List Item) × (later : List Item) × (length (actions_of new) ≤ 1) × ((advance c m).state.items ≡ m.state.items ++ new)
    × (State.items (finished c m) ≡ (m.state.items ++ new) ++ later)
next_action_comes c m =
    let one = one_advance c m in
    let later = items_grow c (advance c m) in
    (one.new, later.0, one.few, one.behind, ap (λ (s : State). s.items) (sym (advance_comes c m)) ∙ later.1 ∙ ap (λ xs. xs ++ later.0) one.behind)
