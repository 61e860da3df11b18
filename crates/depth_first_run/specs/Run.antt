-- The depth-first run of a program, by recursion over its statements, to the end of each branch.
use Rattle.std.specs.Prelude.{ℕ, zero, suc, ◌+◌, ◌*◌, ◌-◌, ◌%◌, ◌&&◌, Bool, true, false, nat_eq, nat_le, if◌then◌else◌, List, [], ◌∷◌, ◌++◌, length, take, drop, replicate, slice_set, ℤ, pos, negsuc, Result, Ok, Err, Option, Some, None}
use Rattle.depth_first_list.specs.Passed.Constants.{PIECE_WORDS}
use Rattle.depth_first_list.specs.Passed.FaultKind.{FaultKind}
use Rattle.depth_first_list.specs.Passed.FaultKindVariants as faults
use Rattle.depth_first_list.specs.Passed.FaultAt.{FaultAt}
use Rattle.depth_first_list.specs.Passed.Finish.{Finish}
use Rattle.depth_first_list.specs.Passed.FinishVariants.{Done, Faulted}
use Rattle.depth_first_list.specs.Shapes.{Shape, leaf, forked}
use Rattle.depth_first_list.specs.Actions as actions
use Rattle.depth_first_list.specs.Actions.{Action}
use Rattle.depth_first_list.specs.Runs.{tree_for}
use Rattle.depth_first_list.specs.Passed.Constants.{LONGEST_BLOCK}
use Rattle.par_tree.specs.Tree.{Name, Expr, Target, Arg, Stmt, let_stmt, assign_stmt, put_stmt, alloc_stmt, free_stmt, if_stmt, while_stmt, call_stmt, print_stmt, par_stmt, split_stmt, Body, done, step, Func}
use Rattle.par_tree.specs.Names.{names_in_body, assigns_in_body}
use Rattle.par_ownership.specs.Ownership.{function_of, main_name}
use Rattle.depth_first_run.specs.Stores.{Store, nothing, with_integer, block_of, drop_block, hold_block, write_block, block_words}
use Rattle.depth_first_run.specs.Values.{value, is_true, place_in}
use Rattle.depth_first_run.specs.States.{Setting, State, Item, began, acted, printed, failed, with_item, with_action, with_fault, unless_faulted, with_number, with_turn, with_depth, ended, fork_join}
use Rattle.depth_first_run.specs.Calls.{Passing, all_passed, entered, Answer, returned, with_answer}

-- the thread's store changes
abbrev pub on_store : (Store → Store) → State → State
on_store f s = record s { store = f s.store }

-- `let x = e` and `x = e`
abbrev pub set_integer : Name → ℤ → State → State
set_integer x v s = on_store (with_integer x v) s

-- `b[i] = e`: the place is tested when both are evaluated
abbrev pub put_in_place : ℕ → Name → ℤ → Option ℕ → State → State
put_in_place line b v None s = with_fault faults.Index line s
put_in_place line b v (Some i) s = on_store (write_block b (slice_set (block_of s.store.blocks b) i v)) s

abbrev pub put_number : ℕ → Name → ℤ → ℤ → State → State
put_number line b i v s = put_in_place line b v (place_in (block_of s.store.blocks b) i) s

abbrev pub put_value : ℕ → Name → Expr → ℤ → State → State
put_value line b e i s = with_number line (value s.store e) (put_number line b i) s

-- `print e`
abbrev pub print_number : ℤ → State → State
print_number v s = with_item (printed v) s

-- the names that a branch writes, and the integers that it assigns to
abbrev pub names_in : Body → Name → Bool
names_in a x = names_in_body x a

abbrev pub assigns_in : Body → Name → Bool
assigns_in a x = assigns_in_body x a

-- a child that runs dummies takes nothing and brings nothing
abbrev pub no_name : Name → Bool
no_name x = false

-- the tree of dummies before a large allocation: one Dummy; or a Fork of a child that runs a tree, a tree, and the Join
unfoldable pub run_tree : Setting → Shape → State → State
run_tree c leaf s = with_action actions.dummy 0 s
run_tree c (forked child own) s = fork_join c no_name no_name (run_tree c child) (run_tree c own) s

abbrev pub run_tree_unless : Bool → Setting → ℕ → State → State
run_tree_unless true c words s = s
run_tree_unless false c words s = run_tree c (tree_for c.quota words) s

-- the quota covers an allocation, or the tree of dummies stands directly before it
unfoldable pub run_tree_before : Setting → ℕ → State → State
run_tree_before c words s = run_tree_unless (nat_le words c.quota) c words s

-- the number of words that is asked for: 0 to 1,048,576
abbrev pub size_of : ℤ → Option ℕ
size_of (pos n) = if nat_le n LONGEST_BLOCK then Some n else None
size_of (negsuc n) = None

-- `alloc b = e`: zeros
abbrev pub alloc_words : Setting → ℕ → Name → Option ℕ → State → State
alloc_words c line b None s = with_fault faults.Size line s
alloc_words c line b (Some n) s =
    on_store (hold_block b (replicate n (pos 0))) (with_action actions.allocates (block_words n) (run_tree_before c (block_words n) s))

abbrev pub alloc_block : Setting → ℕ → Name → ℤ → State → State
alloc_block c line b n s = alloc_words c line b (size_of n) s

-- `free b`
abbrev pub free_block : Name → State → State
free_block b s = on_store (drop_block b) (with_action actions.releases (block_words (length (block_of s.store.blocks b))) s)

-- `if`, and `while`: where the condition holds the round is a turn, the body runs, and the loop goes on
abbrev pub branch : (on_true on_false : State → State) → Bool → State → State
branch on_true on_false true s = on_true s
branch on_true on_false false s = on_false s

abbrev pub branch_on : (on_true on_false : State → State) → ℤ → State → State
branch_on on_true on_false v s = branch on_true on_false (is_true v) s

abbrev pub unchanged : State → State
unchanged s = s

abbrev pub one_round : (body again : State → State) → State → State
one_round body again s = unless_faulted again (body s)

-- the place at which a block may be cut: between two pieces, within the block
abbrev pub cut_of : List ℤ → ℤ → Option ℕ
cut_of items (pos n) = if nat_le n (length items) && nat_eq (n % PIECE_WORDS) 0 then Some n else None
cut_of items (negsuc n) = None

-- inside a `split` its block is gone, and its two parts are held
abbrev pub cut_block : Name → Name → Name → ℕ → Store → Store
cut_block b l r at s =
    hold_block r (drop at (block_of s.blocks b)) (hold_block l (take at (block_of s.blocks b)) (drop_block b s))

-- and behind it the block is the one part followed by the other
abbrev pub rejoin_block : Name → Name → Name → Store → Store
rejoin_block b l r s = hold_block b (block_of s.blocks l ++ block_of (drop_block l s).blocks r) (drop_block r (drop_block l s))

abbrev pub split_in_place : ℕ → Name → Name → Name → (body : State → State) → Option ℕ → State → State
split_in_place line b l r body None s = with_fault faults.Split line s
split_in_place line b l r body (Some at) s = unless_faulted (on_store (rejoin_block b l r)) (body (on_store (cut_block b l r at) s))

abbrev pub split_block : ℕ → Name → Name → Name → (body : State → State) → ℤ → State → State
split_block line b l r body at s = split_in_place line b l r body (cut_of (block_of s.store.blocks b) at) s

-- a call whose arguments are passed: where one more may be open and the thread has a turn left, the body runs on its
-- parameters, and its end takes the caller's store up again
abbrev pub run_callee : (more : Body → State → State) → Target → List Arg → Func → Passing → State → State
run_callee more t args g h s =
    unless_faulted (with_answer g.ret (returned g.params args t)) (more g.body (entered h s))

abbrev pub open_call : Setting → (more : Body → State → State) → ℕ → Target → List Arg → Func → Passing → State → State
open_call c more line t args g h s =
    with_depth s.calls c.most_calls line (with_turn line (run_callee more t args g h)) s

abbrev pub call_with : Setting → (more : Body → State → State) → ℕ → Target → List Arg → Func → Result Passing FaultKind → State → State
call_with c more line t args g (Ok h) s = open_call c more line t args g h s
call_with c more line t args g (Err kind) s = with_fault kind line s

abbrev pub call_function : Setting → (more : Body → State → State) → ℕ → Target → List Arg → Option Func → State → State
call_function c more line t args None s = s
call_function c more line t args (Some g) s = call_with c more line t args g (all_passed s.store g.params args) s

-- a statement begins
abbrev pub begin_statement : ℕ → (State → State) → State → State
begin_statement line f s = f (with_item (began line) s)

-- A statement with its line, and a list of statements. `more` runs what is no part of the statement: the body of a
-- function that is called, and a loop again behind its round.
unfoldable mutual
  pub exec : Setting → (more : Body → State → State) → ℕ → Stmt → State → State
  exec c more line (let_stmt x e) s = with_number line (value s.store e) (set_integer x) s
  exec c more line (assign_stmt x e) s = with_number line (value s.store e) (set_integer x) s
  exec c more line (put_stmt b i e) s = with_number line (value s.store i) (put_value line b e) s
  exec c more line (alloc_stmt b e) s = with_number line (value s.store e) (alloc_block c line b) s
  exec c more line (free_stmt b) s = free_block b s
  exec c more line (if_stmt e a b) s = with_number line (value s.store e) (branch_on (exec_all c more a) (exec_all c more b)) s
  exec c more line (while_stmt e a) s =
      with_number line (value s.store e)
      (branch_on (with_turn line (one_round (exec_all c more a) (more (step line (while_stmt e a) done)))) unchanged) s
  exec c more line (call_stmt t f args) s = call_function c more line t args (function_of c.program f) s
  exec c more line (print_stmt e) s = with_number line (value s.store e) print_number s
  exec c more line (par_stmt a b) s =
      with_depth (length s.label) c.most_forks line
      (fork_join c (names_in a) (assigns_in a) (exec_all c more a) (exec_all c more b)) s
  exec c more line (split_stmt b e l r a) s = with_number line (value s.store e) (split_block line b l r (exec_all c more a)) s

  pub exec_all : Setting → (more : Body → State → State) → Body → State → State
  exec_all c more done s = s
  exec_all c more (step line stmt rest) s = exec_all c more rest (unless_faulted (begin_statement line (exec c more line stmt)) s)

-- What is run is found by turns: each use of `more` costs a turn of its thread, and a fork makes a label longer. So a
-- run with as many rounds as `room` says never ends for want of rounds.
unfoldable pub within : Setting → ℕ → Body → State → State
within c zero b s = s
within c (suc rounds) b s = exec_all c (within c rounds) b s

abbrev pub room : Setting → State → ℕ
room c s = (c.most_forks - length s.label) * suc c.most_turns + s.turns

-- a list of statements, run by a thread to its end
unfoldable pub run : Setting → Body → State → State
run c b s = within c (suc (room c s)) b s

-- the root before its first action: `main` is open
abbrev pub root_start : Setting → State
root_start c = record {
  label = [];
  done = 0;
  forks = 0;
  faulted = false;
  store = nothing;
  callers = [];
  calls = 1;
  turns = c.most_turns;
  items = [];
}

-- the value of the `return` of `main` is dropped
abbrev pub ignore_answer : Answer → State → State
ignore_answer answer s = s

abbrev pub main_run : Setting → Option Func → State → State
main_run c None s = s
main_run c (Some g) s = unless_faulted (with_answer g.ret ignore_answer) (run c g.body s)

-- the depth-first run of the program: what is left when the root has ended, which has no record block
unfoldable pub whole : Setting → State
whole c = ended 0 (main_run c (function_of c.program main_name) (root_start c))

-- the actions among the items of a run, in its order
abbrev pub actions_of : List Item → List Action
actions_of [] = []
actions_of (acted a ∷ items) = a ∷ actions_of items
actions_of (other ∷ items) = actions_of items

-- the first fault, where there is one
abbrev pub first_fault : List Item → Option FaultAt
first_fault [] = None
first_fault (failed fault ∷ items) = Some fault
first_fault (other ∷ items) = first_fault items

-- the numbers that are printed before the first fault
abbrev pub lines_of : List Item → List ℤ
lines_of [] = []
lines_of (printed v ∷ items) = v ∷ lines_of items
lines_of (failed fault ∷ items) = []
lines_of (other ∷ items) = lines_of items

-- L, the depth-first list of a program: the actions of its whole run
abbrev pub list_of : Setting → List Action
list_of c = actions_of (State.items (whole c))

-- the first fault is the finish
abbrev pub finish_of : Option FaultAt → Finish
finish_of None = Done
finish_of (Some fault) = Faulted fault

-- how the depth-first run of a program finishes
abbrev pub finish_of_run : Setting → Finish
finish_of_run c = finish_of (first_fault (State.items (whole c)))
