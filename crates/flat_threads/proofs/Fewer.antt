-- A way leaves no more turns than there were.
use Rattle.std.proofs.Common.{◌≡◌, ℕ, zero, suc, ◌+◌, ◌≤◌, Bool, true, false, List, [], ◌∷◌, Option, Some, None, Result, Ok, Err, subst, arith}
use Rattle.thread_state.specs.Passed.FaultKind.{FaultKind}
use Rattle.thread_state.specs.Passed.Values.{Outcome, is_true}
use Rattle.thread_state.specs.Passed.Table.{Table, Kind, let_node, assign_node, put_node, alloc_node, free_node, if_node, while_node, call_node}
use Rattle.thread_state.specs.Passed.Table.{print_node, both_node, split_node}
use Rattle.thread_state.specs.Passed.Rows.{Entry}
use Rattle.flat_statements.specs.Passed.Frame.{Frame}
use Rattle.flat_statements.specs.Passed.FrameVariants.{Statements, Again, Tree, Answers, Rejoins, AnswersMain, Allocates, Joins}
use Rattle.flat_statements.specs.Passed.ListOf.{ListOf}
use Rattle.flat_statements.specs.Passed.Lists.{kind_at, numbers_from}
use Rattle.flat_statements.specs.Passed.Values.{value_in, set_by, put_by}
use Rattle.flat_statements.specs.Flat.{Came, goes_to, meets, stops}
use Rattle.flat_statements.specs.Threads.{Standing, rest_of, row_step, arm_step, if_step, turn_step, round_step, while_step, kind_step}
use Rattle.flat_statements.specs.Threads.{list_step, frame_step, frames_step, thread_step}
use Rattle.flat_statements.specs.Follows.{Steps, stays, onward}

-- where it goes on, no more turns are left
abbrev LeavesTurns : ℕ → Came Standing → Type 0
LeavesTurns turns (goes_to after) = after.turns ≤ turns
LeavesTurns turns (meets kind) = Unit {0}
LeavesTurns turns stops = Unit {0}

same : (n : ℕ) → n ≤ n
same n = omega arith

module _ (t : Table) (row : List Entry) (turns : ℕ) where
  row_turns : (xs : List Frame) (r : Result (List Entry) FaultKind) → LeavesTurns turns (row_step xs turns r)
  row_turns xs (Ok new) = same turns
  row_turns xs (Err kind) = tt

  arm_turns : (n : ℕ) (a b : List ℕ) (xs : List Frame) (holds : Bool) → LeavesTurns turns (arm_step n a b xs row turns holds)
  arm_turns n a b xs true = same turns
  arm_turns n a b xs false = same turns

  if_turns : (n : ℕ) (a b : List ℕ) (xs : List Frame) (o : Outcome) → LeavesTurns turns (if_step n a b xs row turns o)
  if_turns n a b xs (Ok v) = arm_turns n a b xs (is_true v)
  if_turns n a b xs (Err kind) = tt

  turn_turns : (n : ℕ) (a : List ℕ) (xs : List Frame) (left : ℕ) → LeavesTurns left (turn_step n a xs row left)
  turn_turns n a xs zero = tt
  turn_turns n a xs (suc left) = let less : left ≤ suc left = omega arith in less

  round_turns : (n : ℕ) (a : List ℕ) (xs : List Frame) (holds : Bool) → LeavesTurns turns (round_step n a xs row turns holds)
  round_turns n a xs true = turn_turns n a xs turns
  round_turns n a xs false = same turns

  while_turns : (n : ℕ) (a : List ℕ) (xs : List Frame) (o : Outcome) → LeavesTurns turns (while_step n a xs row turns o)
  while_turns n a xs (Ok v) = round_turns n a xs (is_true v)
  while_turns n a xs (Err kind) = tt

  kind_turns : (n : ℕ) (xs : List Frame) (kind : Option Kind) → LeavesTurns turns (kind_step n xs row turns kind)
  kind_turns n xs None = tt
  kind_turns n xs (Some (let_node s e)) = row_turns xs (set_by s e row)
  kind_turns n xs (Some (assign_node s e)) = row_turns xs (set_by s e row)
  kind_turns n xs (Some (put_node b i e)) = row_turns xs (put_by b i e row)
  kind_turns n xs (Some (alloc_node s e)) = tt
  kind_turns n xs (Some (free_node s)) = tt
  kind_turns n xs (Some (if_node e a b)) = if_turns n a b xs (value_in row e)
  kind_turns n xs (Some (while_node e a)) = while_turns n a xs (value_in row e)
  kind_turns n xs (Some (call_node to func from)) = tt
  kind_turns n xs (Some (print_node e)) = tt
  kind_turns n xs (Some (both_node a b blocks assigned)) = tt
  kind_turns n xs (Some (split_node s e l r a)) = tt

  list_turns : (ns : List ℕ) (list : ListOf) (next : ℕ) (xs : List Frame) → LeavesTurns turns (list_step t ns list next xs row turns)
  list_turns [] list next xs = same turns
  list_turns (n ∷ ns) list next xs = kind_turns n (rest_of ns list (next + 1) xs) (kind_at t n)

  frame_turns : (x : Frame) (xs : List Frame) → LeavesTurns turns (frame_step t x xs row turns)
  frame_turns (Statements list next) xs = list_turns (numbers_from t list next) list next xs
  frame_turns (Again n) xs = kind_turns n xs (kind_at t n)
  frame_turns (Tree shape) xs = tt
  frame_turns (Answers n caller) xs = tt
  frame_turns (Rejoins n) xs = tt
  frame_turns AnswersMain xs = tt
  frame_turns (Allocates slot len) xs = tt
  frame_turns (Joins branch) xs = tt

  frames_turns : (xs : List Frame) → LeavesTurns turns (frames_step t xs row turns)
  frames_turns [] = tt
  frames_turns (x ∷ xs) = frame_turns x xs

way_turns : (t : Table) {s u : Standing} → Steps t s u → u.turns ≤ s.turns
way_turns t {s} {u} stays = same s.turns
way_turns t {s} {u} (onward v first rest) =
    let one : v.turns ≤ s.turns = subst (λ (come : Came Standing). LeavesTurns s.turns come) first (frames_turns t s.row s.turns s.frames) in
    let others = way_turns t rest in
    omega (arith, one, others)

pub ways_take_turns : (t : Table) (s u : Standing) → Steps t s u → u.turns ≤ s.turns
ways_take_turns t s u way = way_turns t way
