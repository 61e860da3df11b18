-- A step of a thread over slots leaves a mark of a line, or nothing.
use Rattle.std.proofs.Common.{◌≡◌, ℕ, zero, suc, ◌+◌, Bool, true, false, List, [], ◌∷◌, ◌++◌, ℤ, Option, Some, None, Ok, Err, refl, sym, ap, subst, append-nil}
use Rattle.thread_state.specs.Passed.FaultKind.{FaultKind}
use Rattle.par_tree.specs.Tree
use Rattle.par_tree.specs.Tree.{Name, Func, Stmt, let_stmt, assign_stmt, put_stmt, alloc_stmt, free_stmt, if_stmt, while_stmt}
use Rattle.par_tree.specs.Tree.{call_stmt, print_stmt, par_stmt, split_stmt, Body, done, step}
use Rattle.thread_state.specs.Passed.Stores.{block_of}
use Rattle.thread_state.specs.Passed.Values.{Outcome, value, is_true, place_in}
use Rattle.thread_state.specs.Passed.States.{Setting, State, Item, began, with_item, with_action, with_number, with_fault}
use Rattle.thread_state.specs.Passed.Run.{set_integer, put_in_place, put_number, put_value}
use Rattle.thread_state.specs.Passed.Middle as middles
use Rattle.thread_state.specs.Passed.Middle.{does, statements, Middle, before_all, step_with_number, step_branch, step_if, step_turn, step_round}
use Rattle.thread_state.specs.Passed.Middle.{step_while, step_statement, step_first, step_frame}
use Rattle.thread_state.specs.Passed.Table.{Kind, alloc_node, free_node, call_node, print_node}
use Rattle.thread_state.specs.Passed.Table.{both_node, split_node, Table}
use Rattle.thread_state.specs.Passed.Programs.{IsStmt, function_names}
use Rattle.thread_state.specs.Passed.Rows.{Entry}
use Rattle.flat_statements.specs.Passed.Frame.{Frame}
use Rattle.flat_statements.specs.Passed.FrameVariants.{Statements, Again, Tree as DummyTree, Answers, Rejoins, AnswersMain, Allocates, Joins}
use Rattle.flat_statements.specs.Passed.ListOf.{ListOf}
use Rattle.flat_statements.specs.Passed.Lists.{kind_at, kind_of_node, numbers_from}
use Rattle.flat_statements.specs.Passed.Frames.{AreStatements, AreFrames, names_now}
use Rattle.flat_statements.proofs.Passed.Lists.{FirstOf, no_statements, first_statement}
use Rattle.flat_statements.specs.Flat.{goes_to}
use Rattle.flat_statements.specs.Threads.{Standing, rest_of, kind_step, list_step, frame_step}
use Rattle.flat_threads.specs.Along.{AreMarks}

-- ---- statements

-- an assignment, a write, an `if` or a loop
abbrev IsInner : Stmt → Type 0
IsInner (let_stmt x e) = Unit {0}
IsInner (assign_stmt x e) = Unit {0}
IsInner (put_stmt b i e) = Unit {0}
IsInner (alloc_stmt b e) = ⊥
IsInner (free_stmt b) = ⊥
IsInner (if_stmt e a b) = Unit {0}
IsInner (while_stmt e a) = Unit {0}
IsInner (call_stmt to f args) = ⊥
IsInner (print_stmt e) = ⊥
IsInner (par_stmt a b) = ⊥
IsInner (split_stmt b e l r a) = ⊥

-- where no fault comes no item is left
abbrev Keeps : State → State → Type 0
Keeps s after = after.faulted ≡ false → after.items ≡ s.items

fault_keeps : (kind : FaultKind) (line : ℕ) (s : State) → Keeps s (with_fault kind line s)
unfolding with_fault with_action
fault_keeps kind line s e = let never : ⊥ = cc in absurd never

number_keeps : (line : ℕ) (o : Outcome) (f : ℤ → State → State) (s : State) → ((v : ℤ) → Keeps s (f v s)) → Keeps s (with_number line o f s)
unfolding with_number
number_keeps line (Ok v) f s h e = h v e
number_keeps line (Err kind) f s h e = fault_keeps kind line s e

place_keeps : (line : ℕ) (b : Name) (v : ℤ) (o : Option ℕ) (s : State) → Keeps s (put_in_place line b v o s)
place_keeps line b v None s e = fault_keeps _ line s e
place_keeps line b v (Some i) s e = refl

if_keeps : (line : ℕ) (a b : Body) (fs : List middles.Frame) (s : State) (o : Outcome) → Keeps s (step_with_number line o (step_if a b) fs s).state
if_keeps line a b fs s (Err kind) e = fault_keeps kind line s e
if_keeps line a b fs s (Ok v) e = arm (is_true v) e
  where
    arm : (holds : Bool) → Keeps s (step_branch holds a b fs s).state
    arm true e = refl
    arm false e = refl

turn_keeps : (turns line : ℕ) (ahead fs : List middles.Frame) (s : State) → Keeps s (step_turn turns line ahead fs s).state
turn_keeps zero line ahead fs s e = fault_keeps _ line s e
turn_keeps (suc left) line ahead fs s e = refl

while_keeps : (line : ℕ) (x : Tree.Expr) (a : Body) (fs : List middles.Frame) (s : State) (o : Outcome)
    → Keeps s (step_with_number line o (step_while line x a) fs s).state
while_keeps line x a fs s (Err kind) e = fault_keeps kind line s e
while_keeps line x a fs s (Ok v) e = round (is_true v) e
  where
    round : (holds : Bool) → Keeps s (step_round holds line x a fs s).state
    round true e = turn_keeps s.turns line (before_all a (before_all (step line (while_stmt x a) done) fs)) fs s e
    round false e = refl

statement_keeps : (c : Setting) (line : ℕ) (stmt : Stmt) (fs : List middles.Frame) (s : State) → IsInner stmt
    → Keeps s (step_statement c line stmt fs s).state
statement_keeps c line (let_stmt x y) fs s inner e = number_keeps line (value s.store y) (set_integer x) s (λ v h. refl) e
statement_keeps c line (assign_stmt x y) fs s inner e = number_keeps line (value s.store y) (set_integer x) s (λ v h. refl) e
statement_keeps c line (put_stmt b i y) fs s inner e =
    number_keeps line (value s.store i) (put_value line b y) s
    (λ v. number_keeps line (value s.store y) (put_number line b v) s (λ w. place_keeps line b w (place_in (block_of s.store.blocks b) v) s)) e
statement_keeps c line (alloc_stmt b y) fs s inner e = absurd inner
statement_keeps c line (free_stmt b) fs s inner e = absurd inner
statement_keeps c line (if_stmt y a b) fs s inner e = if_keeps line a b fs s (value s.store y) e
statement_keeps c line (while_stmt y a) fs s inner e = while_keeps line y a fs s (value s.store y) e
statement_keeps c line (call_stmt to f args) fs s inner e = absurd inner
statement_keeps c line (print_stmt y) fs s inner e = absurd inner
statement_keeps c line (par_stmt a b) fs s inner e = absurd inner
statement_keeps c line (split_stmt b y l r a) fs s inner e = absurd inner

-- a statement after which a thread over slots goes on
module _ (c : Setting) (t : Table) (names : List Name) (n low : ℕ) (xs : List Frame) (row : List Entry) (turns : ℕ) (v : Standing) where
  kind_inner : (stmt : Stmt) (kind : Kind) → IsStmt t.nodes (function_names c.program) names stmt low kind
      → kind_step n xs row turns (Some kind) ≡ goes_to v → IsInner stmt
  kind_inner (let_stmt x y) kind h e = tt
  kind_inner (assign_stmt x y) kind h e = tt
  kind_inner (put_stmt x y z) kind h e = tt
  kind_inner (if_stmt y p q) kind h e = tt
  kind_inner (while_stmt y p) kind h e = tt
  kind_inner (alloc_stmt x y) (alloc_node b i) h e = let never : ⊥ = cc in absurd never
  kind_inner (alloc_stmt x y) kind h e = absurd h
  kind_inner (free_stmt x) (free_node b) h e = let never : ⊥ = cc in absurd never
  kind_inner (free_stmt x) kind h e = absurd h
  kind_inner (call_stmt to x args) (call_node target func from) h e = let never : ⊥ = cc in absurd never
  kind_inner (call_stmt to x args) kind h e = absurd h
  kind_inner (print_stmt y) (print_node i) h e = let never : ⊥ = cc in absurd never
  kind_inner (print_stmt y) kind h e = absurd h
  kind_inner (par_stmt p q) (both_node a b blocks assigned) h e = let never : ⊥ = cc in absurd never
  kind_inner (par_stmt p q) kind h e = absurd h
  kind_inner (split_stmt x y l r p) (split_node b i j k a) h e = let never : ⊥ = cc in absurd never
  kind_inner (split_stmt x y l r p) kind h e = absurd h

-- ---- the next frame

-- where no fault comes marks alone are left
abbrev pub Marks : State → Middle → Type 0
Marks s m = m.state.faulted ≡ false → (new : List Item) × (m.state.items ≡ s.items ++ new) × AreMarks new

-- a frame that does statements
abbrev pub DoesStatements : middles.Frame → Type 0
DoesStatements f = (b : Body) × (f ≡ does (statements b))

module _ (c : Setting) (t : Table) (names : List Name) (fs : List middles.Frame) (row : List Entry) (turns : ℕ) (v : Standing) (s : State)
    (going : s.faulted ≡ false) where
  first_marks : (n : ℕ) (ns : List ℕ) (b : Body) (xs : List Frame) → FirstOf c.program t names n ns b
      → kind_step n xs row turns (kind_at t n) ≡ goes_to v → Marks s (step_frame c (does (statements b)) fs s)
  first_marks n ns b xs first e =
      let node = first.node in
      let is : kind_at t n ≡ Some node.node.kind = ap kind_of_node node.there in
      let known = subst (λ (kind : Option Kind). kind_step n xs row turns kind ≡ goes_to v) is e in
      let inner = kind_inner c t names n (n + 1) xs row turns v first.stmt node.node.kind node.is known in
      subst (λ (a : Body). Marks s (step_frame c (does (statements a)) fs s)) (sym first.is)
      (subst (λ (faulted : Bool). Marks s (step_first faulted c first.line first.stmt first.rest fs s)) (sym going)
      (λ goes. (began first.line ∷ [], statement_keeps c first.line first.stmt (before_all first.rest fs) (with_item (began first.line) s) inner goes, tt)))

  list_marks : (list : ListOf) (next : ℕ) (ns : List ℕ) (b : Body) (xs : List Frame) → AreStatements c.program t names ns b
      → list_step t ns list next xs row turns ≡ goes_to v → Marks s (step_frame c (does (statements b)) fs s)
  list_marks list next [] b xs h e =
      subst (λ (a : Body). Marks s (step_frame c (does (statements a)) fs s)) (sym (no_statements c.program t names b h))
      (λ goes. ([], sym (append-nil s.items), tt))
  list_marks list next (n ∷ ns) b xs h e = first_marks n ns b (rest_of ns list (next + 1) xs) (first_statement c.program t names n ns b h) e

-- a step of a thread over slots
pub frame_marks : (c : Setting) (t : Table) (gs : List Func) (x : Frame) (xs : List Frame) (f : middles.Frame) (fs : List middles.Frame) (row : List Entry)
    (turns : ℕ) (v : Standing) (s : State) → s.faulted ≡ false → AreFrames c.program t gs (x ∷ xs) (f ∷ fs) → frame_step t x xs row turns ≡ goes_to v
    → DoesStatements f × Marks s (step_frame c f fs s)
frame_marks c t gs (Statements list next) xs f fs row turns v s going h e = (
  (h.0.0, h.0.1),
  subst (λ (y : middles.Frame). Marks s (step_frame c y fs s)) (sym h.0.1)
      (list_marks c t (names_now gs) fs row turns v s going list next (numbers_from t list next) h.0.0 xs h.0.2 e),
)
frame_marks c t gs (Again n) xs f fs row turns v s going h e = (
  (h.0.0, h.0.1),
  subst (λ (y : middles.Frame). Marks s (step_frame c y fs s)) (sym h.0.1)
      (first_marks c t (names_now gs) fs row turns v s going n [] h.0.0 xs (first_statement c.program t (names_now gs) n [] h.0.0 h.0.2) e),
)
frame_marks c t gs (DummyTree shape) xs f fs row turns v s going h e = let never : ⊥ = cc in absurd never
frame_marks c t gs (Answers n caller) xs f fs row turns v s going h e = let never : ⊥ = cc in absurd never
frame_marks c t gs (Rejoins n) xs f fs row turns v s going h e = let never : ⊥ = cc in absurd never
frame_marks c t gs AnswersMain xs f fs row turns v s going h e = let never : ⊥ = cc in absurd never
frame_marks c t gs (Allocates slot len) xs f fs row turns v s going h e = let never : ⊥ = cc in absurd never
frame_marks c t gs (Joins branch) xs f fs row turns v s going h e = let never : ⊥ = cc in absurd never
