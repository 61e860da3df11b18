-- A run in the middle: what is left to do, as frames, the next one first, and the state of the thread that runs.
-- `finish` runs what is left; `advance` does one step of it.
use Rattle.std.specs.Prelude.{ℕ, zero, suc, ◌+◌, ◌*◌, ◌-◌, nat_le, nat_lt, Bool, true, false, List, [], ◌∷◌, length, replicate, ℤ, pos, Option, Some, None, Result, Ok, Err}
use Rattle.depth_first_list.specs.Passed.FaultKind.{FaultKind}
use Rattle.depth_first_list.specs.Passed.FaultKindVariants as faults
use Rattle.depth_first_list.specs.Shapes.{Shape, leaf, forked}
use Rattle.depth_first_list.specs.Actions as actions
use Rattle.depth_first_list.specs.Actions.{record_words}
use Rattle.depth_first_list.specs.Runs.{tree_for}
use Rattle.par_tree.specs.Tree.{Name, Expr, Target, Arg, Param, Stmt, let_stmt, assign_stmt, put_stmt, alloc_stmt, free_stmt, if_stmt, while_stmt, call_stmt, print_stmt, par_stmt, split_stmt, Body, done, step, Func, Ret}
use Rattle.par_ownership.specs.Ownership.{function_of}
use Rattle.depth_first_run.specs.Stores.{hold_block, block_of, block_words}
use Rattle.depth_first_run.specs.Values.{Outcome, value, is_true}
use Rattle.depth_first_run.specs.States.{Setting, State, began, with_item, with_action, with_fault, unless_faulted, with_number, child_of, parent_of, ended, joined, own_part_then_join}
use Rattle.depth_first_run.specs.Calls.{Passing, all_passed, entered, with_answer, returned}
use Rattle.depth_first_run.specs.Run.{on_store, set_integer, put_value, no_name, run_tree, size_of, free_block, print_number, cut_of, cut_block, rejoin_block, names_in, assigns_in, ignore_answer, root_start, run}

-- What is left to do. A list of statements; the end of a call, with what it was called with; the end of a `split`; the
-- end of `main`; a tree of dummies; an allocation behind its tree; what a parent does itself behind its child's
-- Fork, and then the Join; the Join of a child that has ended.
pub data Part : Type 0 where
  statements : Body → Part
  tree : Shape → Part

pub data Frame : Type 0 where
  does : Part → Frame
  answers : Option Ret → List Param → List Arg → Target → Frame
  rejoins : Name → Name → Name → Frame
  answers_main : Option Ret → Frame
  allocates : Name → ℕ → Frame
  awaits : (named assigned : Name → Bool) → Part → (parent : State) → Frame
  joins : (assigned : Name → Bool) → (child : ℕ) → (ended_child : State) → Frame

-- an allocation whose dummies are done
abbrev pub allocated : Name → ℕ → State → State
allocated b n s = on_store (hold_block b (replicate n (pos 0))) (with_action actions.allocates (block_words n) s)

-- what a part does, and what a frame does, to its end
abbrev pub part_done : Setting → Part → State → State
part_done c (statements b) s = run c b s
part_done c (tree shape) s = run_tree c shape s

abbrev pub frame_done : Setting → Frame → State → State
frame_done c (does part) s = part_done c part s
frame_done c (answers ret params args t) s = unless_faulted (with_answer ret (returned params args t)) s
frame_done c (rejoins b l r) s = unless_faulted (on_store (rejoin_block b l r)) s
frame_done c (answers_main ret) s = unless_faulted (with_answer ret ignore_answer) s
frame_done c (allocates b n) s = allocated b n s
frame_done c (awaits named assigned own parent) s = own_part_then_join named assigned (part_done c own) parent (ended record_words s)
frame_done c (joins assigned child d) s = joined assigned child d s

-- all that is left
unfoldable pub finish : Setting → List Frame → State → State
finish c [] s = s
finish c (f ∷ fs) s = finish c fs (frame_done c f s)

-- a run in the middle
pub record Middle : Type 0 where
  pub frames : List Frame
  pub state : State

abbrev pub middle : List Frame → State → Middle
middle frames s = record { frames = frames; state = s }

abbrev pub finished : Setting → Middle → State
finished c m = finish c m.frames m.state

-- what follows a number, or a fault at the line
abbrev pub step_with_number : ℕ → Outcome → (ℤ → List Frame → State → Middle) → List Frame → State → Middle
step_with_number line (Ok v) f fs s = f v fs s
step_with_number line (Err kind) f fs s = middle fs (with_fault kind line s)

-- an allocation that the quota covers is done; else its dummies come first
abbrev pub step_alloc_within : Bool → Setting → Name → ℕ → List Frame → State → Middle
step_alloc_within true c b n fs s = middle fs (allocated b n s)
step_alloc_within false c b n fs s = middle (does (tree (tree_for c.quota (block_words n))) ∷ allocates b n ∷ fs) s

abbrev pub step_alloc_words : Setting → ℕ → Name → Option ℕ → List Frame → State → Middle
step_alloc_words c line b None fs s = middle fs (with_fault faults.Size line s)
step_alloc_words c line b (Some n) fs s = step_alloc_within (nat_le (block_words n) c.quota) c b n fs s

abbrev pub step_alloc : Setting → ℕ → Name → ℤ → List Frame → State → Middle
step_alloc c line b n fs s = step_alloc_words c line b (size_of n) fs s

-- a list of statements comes first, where there are any, and then what is left
abbrev pub before_all : Body → List Frame → List Frame
before_all done fs = fs
before_all (step line stmt rest) fs = does (statements (step line stmt rest)) ∷ fs

abbrev pub step_branch : Bool → Body → Body → List Frame → State → Middle
step_branch true a b fs s = middle (before_all a fs) s
step_branch false a b fs s = middle (before_all b fs) s

abbrev pub step_if : Body → Body → ℤ → List Frame → State → Middle
step_if a b v fs s = step_branch (is_true v) a b fs s

-- a turn, where the thread has one left
abbrev pub step_turn : ℕ → ℕ → List Frame → List Frame → State → Middle
step_turn zero line ahead fs s = middle fs (with_fault faults.Turns line s)
step_turn (suc left) line ahead fs s = middle ahead (record s { turns = left })

-- a round of a loop, which comes again behind its body
abbrev pub step_round : Bool → ℕ → Expr → Body → List Frame → State → Middle
step_round true line e a fs s = step_turn s.turns line (before_all a (before_all (step line (while_stmt e a) done) fs)) fs s
step_round false line e a fs s = middle fs s

abbrev pub step_while : ℕ → Expr → Body → ℤ → List Frame → State → Middle
step_while line e a v fs s = step_round (is_true v) line e a fs s

-- a call whose arguments are passed
abbrev pub step_body : ℕ → ℕ → Target → List Arg → Func → Passing → List Frame → State → Middle
step_body zero line t args g h fs s = middle fs (with_fault faults.Turns line s)
step_body (suc left) line t args g h fs s =
    middle (before_all g.body (answers g.ret g.params args t ∷ fs)) (entered h (record s { turns = left }))

abbrev pub step_open_call : Bool → ℕ → Target → List Arg → Func → Passing → List Frame → State → Middle
step_open_call true line t args g h fs s = step_body s.turns line t args g h fs s
step_open_call false line t args g h fs s = middle fs (with_fault faults.Depth line s)

abbrev pub step_call_with : Setting → ℕ → Target → List Arg → Func → Result Passing FaultKind → List Frame → State → Middle
step_call_with c line t args g (Ok h) fs s = step_open_call (nat_lt s.calls c.most_calls) line t args g h fs s
step_call_with c line t args g (Err kind) fs s = middle fs (with_fault kind line s)

abbrev pub step_call : Setting → ℕ → Target → List Arg → Option Func → List Frame → State → Middle
step_call c line t args None fs s = middle fs s
step_call c line t args (Some g) fs s = step_call_with c line t args g (all_passed s.store g.params args) fs s

-- a Fork: the child comes first, then its parent's own part and the Join
abbrev pub step_fork : Setting → (named assigned : Name → Bool) → (work own : Part) → List Frame → State → Middle
step_fork c named assigned work own fs s = middle (does work ∷ awaits named assigned own s ∷ fs) (child_of c named s)

abbrev pub step_par : Bool → Setting → ℕ → Body → Body → List Frame → State → Middle
step_par true c line a b fs s = step_fork c (names_in a) (assigns_in a) (statements a) (statements b) fs s
step_par false c line a b fs s = middle fs (with_fault faults.Depth line s)

-- a cut, the body, and then the end of the `split`
abbrev pub step_cut : ℕ → Name → Name → Name → Body → Option ℕ → List Frame → State → Middle
step_cut line b l r a None fs s = middle fs (with_fault faults.Split line s)
step_cut line b l r a (Some at) fs s = middle (before_all a (rejoins b l r ∷ fs)) (on_store (cut_block b l r at) s)

abbrev pub step_split : ℕ → Name → Name → Name → Body → ℤ → List Frame → State → Middle
step_split line b l r a at fs s = step_cut line b l r a (cut_of (block_of s.store.blocks b) at) fs s

-- one statement
abbrev pub step_statement : Setting → ℕ → Stmt → List Frame → State → Middle
step_statement c line (let_stmt x e) fs s = middle fs (with_number line (value s.store e) (set_integer x) s)
step_statement c line (assign_stmt x e) fs s = middle fs (with_number line (value s.store e) (set_integer x) s)
step_statement c line (put_stmt b i e) fs s = middle fs (with_number line (value s.store i) (put_value line b e) s)
step_statement c line (alloc_stmt b e) fs s = step_with_number line (value s.store e) (step_alloc c line b) fs s
step_statement c line (free_stmt b) fs s = middle fs (free_block b s)
step_statement c line (if_stmt e a b) fs s = step_with_number line (value s.store e) (step_if a b) fs s
step_statement c line (while_stmt e a) fs s = step_with_number line (value s.store e) (step_while line e a) fs s
step_statement c line (call_stmt t f args) fs s = step_call c line t args (function_of c.program f) fs s
step_statement c line (print_stmt e) fs s = middle fs (with_number line (value s.store e) print_number s)
step_statement c line (par_stmt a b) fs s = step_par (nat_lt (length s.label) c.most_forks) c line a b fs s
step_statement c line (split_stmt b e l r a) fs s = step_with_number line (value s.store e) (step_split line b l r a) fs s

-- the first statement of a list, which a thread that a fault ended skips
abbrev pub step_first : Bool → Setting → ℕ → Stmt → Body → List Frame → State → Middle
step_first true c line stmt rest fs s = middle fs s
step_first false c line stmt rest fs s = step_statement c line stmt (before_all rest fs) (with_item (began line) s)

abbrev pub step_part : Setting → Part → List Frame → State → Middle
step_part c (statements done) fs s = middle fs s
step_part c (statements (step line stmt rest)) fs s = step_first s.faulted c line stmt rest fs s
step_part c (tree leaf) fs s = middle fs (with_action actions.dummy 0 s)
step_part c (tree (forked child own)) fs s = step_fork c no_name no_name (tree child) (tree own) fs s

-- behind the End of a child its parent does its own part, and then the Join
abbrev pub step_awaited : (named assigned : Name → Bool) → Part → State → List Frame → State → Middle
step_awaited named assigned own parent fs d =
    middle (does own ∷ joins assigned (suc parent.forks) d ∷ fs) (parent_of named d.items parent)

abbrev pub step_frame : Setting → Frame → List Frame → State → Middle
step_frame c (does part) fs s = step_part c part fs s
step_frame c (answers ret params args t) fs s = middle fs (frame_done c (answers ret params args t) s)
step_frame c (rejoins b l r) fs s = middle fs (frame_done c (rejoins b l r) s)
step_frame c (answers_main ret) fs s = middle fs (frame_done c (answers_main ret) s)
step_frame c (allocates b n) fs s = middle fs (frame_done c (allocates b n) s)
step_frame c (awaits named assigned own parent) fs s = step_awaited named assigned own parent fs (ended record_words s)
step_frame c (joins assigned child d) fs s = middle fs (frame_done c (joins assigned child d) s)

-- one step of what is left
unfoldable pub advance : Setting → Middle → Middle
advance c m = go m.frames m.state
  where
    go : List Frame → State → Middle
    go [] s = middle [] s
    go (f ∷ fs) s = step_frame c f fs s

-- the root in the middle of its run, before its first statement
abbrev pub run_start : Setting → Option Func → Middle
run_start c None = middle [] (root_start c)
run_start c (Some g) = middle (before_all g.body (answers_main g.ret ∷ [])) (root_start c)

-- how far a run in the middle is from its end: the items that are still to come, each of which puts at most three
-- frames more than the one that it ends, and the frames
unfoldable pub to_come : Setting → Middle → ℕ
to_come c m = 4 * (length (finished c m).items - length m.state.items) + length m.frames
