-- One step of a thread over slots, by its next frame: the frames that it has after the step, its row and its turns. Statements that act,
-- call, print or split are not done here.
use Rattle.std.specs.Prelude.{◌≡◌, ℕ, zero, suc, ◌+◌, Bool, true, false, List, [], ◌∷◌, ◌++◌, Option, Some, None, Result, Ok, Err}
use Rattle.flat_expressions.specs.Passed.FaultKind.{FaultKind}
use Rattle.flat_expressions.specs.Passed.FaultKindVariants as faults
use Rattle.thread_stack.specs.Passed.Values.{Outcome, is_true}
use Rattle.thread_stack.specs.Passed.Table.{Kind, let_node, assign_node, put_node, alloc_node, free_node, if_node, while_node, call_node, print_node, both_node, split_node, Table}
use Rattle.flat_expressions.specs.Passed.Rows.{Entry}
use Rattle.thread_stack.specs.declared.frame.Frame.{Frame}
use Rattle.thread_stack.specs.declared.frame.Frame.TheVariants.{Statements, Again, Tree, Answers, Rejoins, AnswersMain, Allocates, Joins}
use Rattle.thread_stack.specs.declared.list_of.ListOf.{ListOf}
use Rattle.thread_stack.specs.declared.list_of.ListOf.TheVariants.{Then, Other, Round}
use Rattle.thread_stack.specs.Lists.{kind_at, numbers_from}
use Rattle.flat_expressions.specs.Values.{value_in, set_by, put_by}
use Rattle.flat_statements.specs.Flat.{Came, goes_to, meets, stops}

-- A thread inside a function: the frames of this function, the next one first, the function's slots, and the turns that are left.
pub record Standing : Type 0 where
  pub frames : List Frame
  pub row : List Entry
  pub turns : ℕ

abbrev pub standing : List Frame → List Entry → ℕ → Standing
standing xs row turns = record { frames = xs; row = row; turns = turns }

-- the frame of what is left of a list, by its numbers, where any are left
abbrev pub rest_of : List ℕ → ListOf → ℕ → List Frame → List Frame
rest_of [] list next xs = xs
rest_of (n ∷ ns) list next xs = Statements list next ∷ xs

-- The steps of statements, with the frames xs after them: an assignment or a write; an `if`, by the number of its condition; a round of a
-- loop, which comes again after its body, and takes a turn.
abbrev pub row_step : List Frame → ℕ → Result (List Entry) FaultKind → Came Standing
row_step xs turns (Ok row) = goes_to (standing xs row turns)
row_step xs turns (Err kind) = meets kind

abbrev pub arm_step : ℕ → List ℕ → List ℕ → List Frame → List Entry → ℕ → Bool → Came Standing
arm_step n a b xs row turns true = goes_to (standing (rest_of a (Then n) 0 xs) row turns)
arm_step n a b xs row turns false = goes_to (standing (rest_of b (Other n) 0 xs) row turns)

abbrev pub if_step : ℕ → List ℕ → List ℕ → List Frame → List Entry → ℕ → Outcome → Came Standing
if_step n a b xs row turns (Ok v) = arm_step n a b xs row turns (is_true v)
if_step n a b xs row turns (Err kind) = meets kind

abbrev pub turn_step : ℕ → List ℕ → List Frame → List Entry → ℕ → Came Standing
turn_step n a xs row zero = meets faults.Turns
turn_step n a xs row (suc left) = goes_to (standing (rest_of a (Round n) 0 (Again n ∷ xs)) row left)

abbrev pub round_step : ℕ → List ℕ → List Frame → List Entry → ℕ → Bool → Came Standing
round_step n a xs row turns true = turn_step n a xs row turns
round_step n a xs row turns false = goes_to (standing xs row turns)

abbrev pub while_step : ℕ → List ℕ → List Frame → List Entry → ℕ → Outcome → Came Standing
while_step n a xs row turns (Ok v) = round_step n a xs row turns (is_true v)
while_step n a xs row turns (Err kind) = meets kind

-- the statement of the node n, with the frames xs after it
abbrev pub kind_step : ℕ → List Frame → List Entry → ℕ → Option Kind → Came Standing
kind_step n xs row turns None = stops
kind_step n xs row turns (Some (let_node s e)) = row_step xs turns (set_by s e row)
kind_step n xs row turns (Some (assign_node s e)) = row_step xs turns (set_by s e row)
kind_step n xs row turns (Some (put_node b i e)) = row_step xs turns (put_by b i e row)
kind_step n xs row turns (Some (alloc_node s e)) = stops
kind_step n xs row turns (Some (free_node s)) = stops
kind_step n xs row turns (Some (if_node e a b)) = if_step n a b xs row turns (value_in row e)
kind_step n xs row turns (Some (while_node e a)) = while_step n a xs row turns (value_in row e)
kind_step n xs row turns (Some (call_node to func from)) = stops
kind_step n xs row turns (Some (print_node e)) = stops
kind_step n xs row turns (Some (both_node a b blocks assigned)) = stops
kind_step n xs row turns (Some (split_node s e l r a)) = stops

-- the first statement of a list, with what is left of it after this
abbrev pub list_step : Table → List ℕ → ListOf → ℕ → List Frame → List Entry → ℕ → Came Standing
list_step t [] list next xs row turns = goes_to (standing xs row turns)
list_step t (n ∷ ns) list next xs row turns = kind_step n (rest_of ns list (next + 1) xs) row turns (kind_at t n)

abbrev pub frame_step : Table → Frame → List Frame → List Entry → ℕ → Came Standing
frame_step t (Statements list next) xs row turns = list_step t (numbers_from t list next) list next xs row turns
frame_step t (Again n) xs row turns = kind_step n xs row turns (kind_at t n)
frame_step t (Tree shape) xs row turns = stops
frame_step t (Answers n caller) xs row turns = stops
frame_step t (Rejoins n) xs row turns = stops
frame_step t AnswersMain xs row turns = stops
frame_step t (Allocates slot len) xs row turns = stops
frame_step t (Joins branch) xs row turns = stops

abbrev pub frames_step : Table → List Frame → List Entry → ℕ → Came Standing
frames_step t [] row turns = stops
frames_step t (x ∷ xs) row turns = frame_step t x xs row turns

abbrev pub thread_step : Table → Standing → Came Standing
thread_step t s = frames_step t s.frames s.row s.turns

-- with the frames zs of what is after the function
abbrev pub with_behind : List Frame → Came Standing → Came Standing
with_behind zs (goes_to s) = goes_to (standing (s.frames ++ zs) s.row s.turns)
with_behind zs (meets kind) = meets kind
with_behind zs stops = stops

-- with more turns
abbrev pub with_turns : ℕ → Standing → Standing
with_turns more s = standing s.frames s.row (s.turns + more)

-- what a step gives with more turns, by what it gives without: the same with more turns; the same fault, unless it is that no turn is left
abbrev pub IsStepWithMore : ℕ → Came Standing → Came Standing → Type 0
IsStepWithMore more (goes_to after) c = c ≡ goes_to (with_turns more after)
IsStepWithMore more (meets kind) c = (kind ≡ faults.Turns → ⊥) → c ≡ meets kind
IsStepWithMore more stops c = c ≡ stops
