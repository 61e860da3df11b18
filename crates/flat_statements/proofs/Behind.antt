-- A step of a thread leaves the frames after its function as they are.
use Rattle.std.proofs.Common.{◌≡◌, ℕ, zero, suc, ◌+◌, Bool, true, false, List, [], ◌∷◌, ◌++◌, Option, Some, None, Result, Ok, Err, refl, ap, ◌∙◌}
use Rattle.flat_expressions.specs.Passed.FaultKind.{FaultKind}
use Rattle.thread_stack.specs.Passed.Values.{Outcome, is_true}
use Rattle.thread_stack.specs.Passed.Table.{Kind, let_node, assign_node, put_node, alloc_node, free_node, if_node, while_node, call_node, print_node, both_node, split_node, Table}
use Rattle.flat_expressions.specs.Passed.Rows.{Entry}
use Rattle.thread_stack.specs.declared.frame.Frame.{Frame}
use Rattle.thread_stack.specs.declared.frame.Frame.TheVariants.{Statements, Again, Tree, Answers, Rejoins, AnswersMain, Allocates, Joins}
use Rattle.thread_stack.specs.declared.list_of.ListOf.{ListOf}
use Rattle.thread_stack.specs.declared.list_of.ListOf.TheVariants.{Then, Other, Round}
use Rattle.thread_stack.specs.Lists.{kind_at, numbers_from}
use Rattle.flat_expressions.specs.Values.{value_in, set_by, put_by}
use Rattle.flat_statements.specs.Flat.{goes_to}
use Rattle.flat_statements.specs.Threads.{standing, rest_of, row_step, arm_step, if_step, turn_step, round_step, while_step, kind_step, list_step, frame_step, with_behind}

rest_behind : (ns : List ℕ) (list : ListOf) (next : ℕ) (xs zs : List Frame) → rest_of ns list next (xs ++ zs) ≡ rest_of ns list next xs ++ zs
rest_behind [] list next xs zs = refl
rest_behind (n ∷ ns) list next xs zs = refl

module _ (t : Table) (zs : List Frame) (row : List Entry) where
  row_behind : (xs : List Frame) (turns : ℕ) (r : Result (List Entry) FaultKind) → row_step (xs ++ zs) turns r ≡ with_behind zs (row_step xs turns r)
  row_behind xs turns (Ok new) = refl
  row_behind xs turns (Err kind) = refl

  arm_behind : (n : ℕ) (a b : List ℕ) (xs : List Frame) (turns : ℕ) (holds : Bool)
      → arm_step n a b (xs ++ zs) row turns holds ≡ with_behind zs (arm_step n a b xs row turns holds)
  arm_behind n a b xs turns true = ap (λ (ys : List Frame). goes_to (standing ys row turns)) (rest_behind a (Then n) 0 xs zs)
  arm_behind n a b xs turns false = ap (λ (ys : List Frame). goes_to (standing ys row turns)) (rest_behind b (Other n) 0 xs zs)

  if_behind : (n : ℕ) (a b : List ℕ) (xs : List Frame) (turns : ℕ) (o : Outcome)
      → if_step n a b (xs ++ zs) row turns o ≡ with_behind zs (if_step n a b xs row turns o)
  if_behind n a b xs turns (Ok v) = arm_behind n a b xs turns (is_true v)
  if_behind n a b xs turns (Err kind) = refl

  turn_behind : (n : ℕ) (a : List ℕ) (xs : List Frame) (turns : ℕ) → turn_step n a (xs ++ zs) row turns ≡ with_behind zs (turn_step n a xs row turns)
  turn_behind n a xs zero = refl
  turn_behind n a xs (suc left) = ap (λ (ys : List Frame). goes_to (standing ys row left)) (rest_behind a (Round n) 0 (Again n ∷ xs) zs)

  round_behind : (n : ℕ) (a : List ℕ) (xs : List Frame) (turns : ℕ) (holds : Bool)
      → round_step n a (xs ++ zs) row turns holds ≡ with_behind zs (round_step n a xs row turns holds)
  round_behind n a xs turns true = turn_behind n a xs turns
  round_behind n a xs turns false = refl

  while_behind : (n : ℕ) (a : List ℕ) (xs : List Frame) (turns : ℕ) (o : Outcome)
      → while_step n a (xs ++ zs) row turns o ≡ with_behind zs (while_step n a xs row turns o)
  while_behind n a xs turns (Ok v) = round_behind n a xs turns (is_true v)
  while_behind n a xs turns (Err kind) = refl

  kind_behind : (n : ℕ) (xs : List Frame) (turns : ℕ) (kind : Option Kind)
      → kind_step n (xs ++ zs) row turns kind ≡ with_behind zs (kind_step n xs row turns kind)
  kind_behind n xs turns None = refl
  kind_behind n xs turns (Some (let_node s e)) = row_behind xs turns (set_by s e row)
  kind_behind n xs turns (Some (assign_node s e)) = row_behind xs turns (set_by s e row)
  kind_behind n xs turns (Some (put_node b i e)) = row_behind xs turns (put_by b i e row)
  kind_behind n xs turns (Some (alloc_node s e)) = refl
  kind_behind n xs turns (Some (free_node s)) = refl
  kind_behind n xs turns (Some (if_node e a b)) = if_behind n a b xs turns (value_in row e)
  kind_behind n xs turns (Some (while_node e a)) = while_behind n a xs turns (value_in row e)
  kind_behind n xs turns (Some (call_node to func from)) = refl
  kind_behind n xs turns (Some (print_node e)) = refl
  kind_behind n xs turns (Some (both_node a b blocks assigned)) = refl
  kind_behind n xs turns (Some (split_node s e l r a)) = refl

  list_behind : (ns : List ℕ) (list : ListOf) (next : ℕ) (xs : List Frame) (turns : ℕ)
      → list_step t ns list next (xs ++ zs) row turns ≡ with_behind zs (list_step t ns list next xs row turns)
  list_behind [] list next xs turns = refl
  list_behind (n ∷ ns) list next xs turns =
      ap (λ (ys : List Frame). kind_step n ys row turns (kind_at t n)) (rest_behind ns list (next + 1) xs zs)
      ∙ kind_behind n (rest_of ns list (next + 1) xs) turns (kind_at t n)

  pub frame_behind : (x : Frame) (xs : List Frame) (turns : ℕ) → frame_step t x (xs ++ zs) row turns ≡ with_behind zs (frame_step t x xs row turns)
  frame_behind (Statements list next) xs turns = list_behind (numbers_from t list next) list next xs turns
  frame_behind (Again n) xs turns = kind_behind n xs turns (kind_at t n)
  frame_behind (Tree shape) xs turns = refl
  frame_behind (Answers n caller) xs turns = refl
  frame_behind (Rejoins n) xs turns = refl
  frame_behind AnswersMain xs turns = refl
  frame_behind (Allocates slot len) xs turns = refl
  frame_behind (Joins branch) xs turns = refl
