-- A step of a thread with more turns.
use Rattle.std.proofs.Common.{◌≡◌, ℕ, zero, suc, ◌+◌, Bool, true, false, List, [], ◌∷◌, Option, Some, None, Result, Ok, Err, refl, ap, arith}
use Rattle.flat_expressions.specs.Passed.FaultKind.{FaultKind}
use Rattle.thread_stack.specs.Passed.Values.{Outcome, is_true}
use Rattle.thread_stack.specs.Passed.Table.{Kind, let_node, assign_node, put_node, alloc_node, free_node, if_node, while_node, call_node, print_node, both_node, split_node, Table}
use Rattle.flat_expressions.specs.Passed.Rows.{Entry}
use Rattle.thread_stack.specs.declared.frame.Frame.{Frame}
use Rattle.thread_stack.specs.declared.frame.Frame.TheVariants.{Statements, Again, Tree, Answers, Rejoins, AnswersMain, Allocates, Joins}
use Rattle.thread_stack.specs.declared.list_of.ListOf.{ListOf}
use Rattle.thread_stack.specs.Lists.{kind_at, numbers_from}
use Rattle.flat_expressions.specs.Values.{value_in, set_by, put_by}
use Rattle.flat_statements.specs.Threads.{Standing, rest_of, row_step, arm_step, if_step, turn_step, round_step, while_step, kind_step}
use Rattle.flat_statements.specs.Threads.{list_step, frame_step, frames_step, thread_step, with_turns, IsStepWithMore}

module _ (t : Table) (more : ℕ) (row : List Entry) (turns : ℕ) where
  row_more : (xs : List Frame) (r : Result (List Entry) FaultKind) → IsStepWithMore more (row_step xs turns r) (row_step xs (turns + more) r)
  row_more xs (Ok new) = refl
  row_more xs (Err kind) = λ other. refl

  arm_more : (n : ℕ) (a b : List ℕ) (xs : List Frame) (holds : Bool)
      → IsStepWithMore more (arm_step n a b xs row turns holds) (arm_step n a b xs row (turns + more) holds)
  arm_more n a b xs true = refl
  arm_more n a b xs false = refl

  if_more : (n : ℕ) (a b : List ℕ) (xs : List Frame) (o : Outcome) → IsStepWithMore more (if_step n a b xs row turns o) (if_step n a b xs row (turns + more) o)
  if_more n a b xs (Ok v) = arm_more n a b xs (is_true v)
  if_more n a b xs (Err kind) = λ other. refl

  turn_more : (n : ℕ) (a : List ℕ) (xs : List Frame) (left : ℕ) → IsStepWithMore more (turn_step n a xs row left) (turn_step n a xs row (left + more))
  turn_more n a xs zero = λ other. absurd (other refl)
  turn_more n a xs (suc left) = ap (turn_step n a xs row) (let e : suc left + more ≡ suc (left + more) = omega arith in e)

  round_more : (n : ℕ) (a : List ℕ) (xs : List Frame) (holds : Bool)
      → IsStepWithMore more (round_step n a xs row turns holds) (round_step n a xs row (turns + more) holds)
  round_more n a xs true = turn_more n a xs turns
  round_more n a xs false = refl

  while_more : (n : ℕ) (a : List ℕ) (xs : List Frame) (o : Outcome)
      → IsStepWithMore more (while_step n a xs row turns o) (while_step n a xs row (turns + more) o)
  while_more n a xs (Ok v) = round_more n a xs (is_true v)
  while_more n a xs (Err kind) = λ other. refl

  kind_more : (n : ℕ) (xs : List Frame) (kind : Option Kind)
      → IsStepWithMore more (kind_step n xs row turns kind) (kind_step n xs row (turns + more) kind)
  kind_more n xs None = refl
  kind_more n xs (Some (let_node s e)) = row_more xs (set_by s e row)
  kind_more n xs (Some (assign_node s e)) = row_more xs (set_by s e row)
  kind_more n xs (Some (put_node b i e)) = row_more xs (put_by b i e row)
  kind_more n xs (Some (alloc_node s e)) = refl
  kind_more n xs (Some (free_node s)) = refl
  kind_more n xs (Some (if_node e a b)) = if_more n a b xs (value_in row e)
  kind_more n xs (Some (while_node e a)) = while_more n a xs (value_in row e)
  kind_more n xs (Some (call_node to func from)) = refl
  kind_more n xs (Some (print_node e)) = refl
  kind_more n xs (Some (both_node a b blocks assigned)) = refl
  kind_more n xs (Some (split_node s e l r a)) = refl

  list_more : (ns : List ℕ) (list : ListOf) (next : ℕ) (xs : List Frame)
      → IsStepWithMore more (list_step t ns list next xs row turns) (list_step t ns list next xs row (turns + more))
  list_more [] list next xs = refl
  list_more (n ∷ ns) list next xs = kind_more n (rest_of ns list (next + 1) xs) (kind_at t n)

  frame_more : (x : Frame) (xs : List Frame) → IsStepWithMore more (frame_step t x xs row turns) (frame_step t x xs row (turns + more))
  frame_more (Statements list next) xs = list_more (numbers_from t list next) list next xs
  frame_more (Again n) xs = kind_more n xs (kind_at t n)
  frame_more (Tree shape) xs = refl
  frame_more (Answers n caller) xs = refl
  frame_more (Rejoins n) xs = refl
  frame_more AnswersMain xs = refl
  frame_more (Allocates slot len) xs = refl
  frame_more (Joins branch) xs = refl

  pub frames_more : (xs : List Frame) → IsStepWithMore more (frames_step t xs row turns) (frames_step t xs row (turns + more))
  frames_more [] = refl
  frames_more (x ∷ xs) = frame_more x xs

pub turns_stay : (t : Table) (more : ℕ) (s : Standing) → IsStepWithMore more (thread_step t s) (thread_step t (with_turns more s))
turns_stay t more s = frames_more t more s.row s.turns s.frames
