-- A way leaves the frames that are no statements as they are.
use Rattle.std.proofs.Common.{ℕ, zero, suc, ◌+◌, Bool, true, false, List, [], ◌∷◌, ◌++◌, ◌≡◌, Option, Some, None, Result, Ok, Err, refl, ap, ◌∙◌, subst}
use Rattle.thread_state.specs.Passed.FaultKind.{FaultKind}
use Rattle.thread_state.specs.Passed.Values.{Outcome, is_true}
use Rattle.thread_state.specs.Passed.Table.{Kind, let_node, assign_node, put_node, alloc_node, free_node, if_node, while_node, call_node, print_node}
use Rattle.thread_state.specs.Passed.Table.{both_node, split_node, Table}
use Rattle.thread_state.specs.Passed.Rows.{Entry}
use Rattle.flat_statements.specs.Passed.Frame.{Frame}
use Rattle.flat_statements.specs.Passed.FrameVariants.{Statements, Again, Tree, Answers, Rejoins, AnswersMain, Allocates, Joins}
use Rattle.flat_statements.specs.Passed.ListOf.{ListOf}
use Rattle.flat_statements.specs.Passed.ListOfVariants.{Then, Other, Round}
use Rattle.flat_statements.specs.Passed.Lists.{kind_at, numbers_from}
use Rattle.flat_statements.specs.Passed.Values.{value_in, set_by, put_by}
use Rattle.flat_statements.specs.Flat.{Came, goes_to, meets, stops}
use Rattle.flat_statements.specs.Threads.{Standing, standing, rest_of, row_step, arm_step, if_step, turn_step, round_step, while_step, kind_step}
use Rattle.flat_statements.specs.Threads.{list_step, frame_step, thread_step, with_behind}
use Rattle.flat_statements.specs.Follows.{Steps, stays, onward}
use Rattle.flat_statements.proofs.Behind.{frame_behind}
use Rattle.flat_threads.specs.Along.{other_frames}

-- where a step goes on, the others are as they were
abbrev Keeps : (before : List Frame) → Came Standing → Type 0
Keeps before (goes_to v) = other_frames v.frames ≡ other_frames before
Keeps before (meets kind) = Unit {0}
Keeps before stops = Unit {0}

rest_keeps : (ns : List ℕ) (list : ListOf) (next : ℕ) (xs : List Frame) → other_frames (rest_of ns list next xs) ≡ other_frames xs
rest_keeps [] list next xs = refl
rest_keeps (n ∷ ns) list next xs = refl

module _ (row : List Entry) (turns : ℕ) (n : ℕ) (xs : List Frame) where
  row_keeps : (r : Result (List Entry) FaultKind) → Keeps xs (row_step xs turns r)
  row_keeps (Ok new) = refl
  row_keeps (Err kind) = tt

  arm_keeps : (a b : List ℕ) (holds : Bool) → Keeps xs (arm_step n a b xs row turns holds)
  arm_keeps a b true = rest_keeps a (Then n) 0 xs
  arm_keeps a b false = rest_keeps b (Other n) 0 xs

  if_keeps : (a b : List ℕ) (o : Outcome) → Keeps xs (if_step n a b xs row turns o)
  if_keeps a b (Ok v) = arm_keeps a b (is_true v)
  if_keeps a b (Err kind) = tt

  turn_keeps : (a : List ℕ) (left : ℕ) → Keeps xs (turn_step n a xs row left)
  turn_keeps a zero = tt
  turn_keeps a (suc left) = rest_keeps a (Round n) 0 (Again n ∷ xs)

  round_keeps : (a : List ℕ) (holds : Bool) → Keeps xs (round_step n a xs row turns holds)
  round_keeps a true = turn_keeps a turns
  round_keeps a false = refl

  while_keeps : (a : List ℕ) (o : Outcome) → Keeps xs (while_step n a xs row turns o)
  while_keeps a (Ok v) = round_keeps a (is_true v)
  while_keeps a (Err kind) = tt

  kind_keeps : (kind : Option Kind) → Keeps xs (kind_step n xs row turns kind)
  kind_keeps None = tt
  kind_keeps (Some (let_node s e)) = row_keeps (set_by s e row)
  kind_keeps (Some (assign_node s e)) = row_keeps (set_by s e row)
  kind_keeps (Some (put_node b i e)) = row_keeps (put_by b i e row)
  kind_keeps (Some (alloc_node s e)) = tt
  kind_keeps (Some (free_node s)) = tt
  kind_keeps (Some (if_node e a b)) = if_keeps a b (value_in row e)
  kind_keeps (Some (while_node e a)) = while_keeps a (value_in row e)
  kind_keeps (Some (call_node to func from)) = tt
  kind_keeps (Some (print_node e)) = tt
  kind_keeps (Some (both_node a b blocks assigned)) = tt
  kind_keeps (Some (split_node s e l r a)) = tt

module _ (t : Table) (row : List Entry) (turns : ℕ) where
  same_before : (one other : List Frame) (come : Came Standing) → other_frames one ≡ other_frames other → Keeps one come → Keeps other come
  same_before one other (goes_to v) same h = h ∙ same
  same_before one other (meets kind) same h = tt
  same_before one other stops same h = tt

  list_keeps : (ns : List ℕ) (list : ListOf) (next : ℕ) (xs : List Frame) → Keeps xs (list_step t ns list next xs row turns)
  list_keeps [] list next xs = refl
  list_keeps (n ∷ ns) list next xs =
      let rest = rest_of ns list (next + 1) xs in
      same_before rest xs (kind_step n rest row turns (kind_at t n)) (rest_keeps ns list (next + 1) xs) (kind_keeps row turns n rest (kind_at t n))

  frame_keeps : (x : Frame) (xs : List Frame) → Keeps (x ∷ xs) (frame_step t x xs row turns)
  frame_keeps (Statements list next) xs = list_keeps (numbers_from t list next) list next xs
  frame_keeps (Again n) xs = kind_keeps row turns n xs (kind_at t n)
  frame_keeps (Tree shape) xs = tt
  frame_keeps (Answers n caller) xs = tt
  frame_keeps (Rejoins n) xs = tt
  frame_keeps AnswersMain xs = tt
  frame_keeps (Allocates slot len) xs = tt
  frame_keeps (Joins branch) xs = tt

-- a step, with frames after those of the function
step_keeps : (t : Table) (zs xs : List Frame) (row : List Entry) (turns : ℕ) (v : Standing) → thread_step t (standing xs row turns) ≡ goes_to v
    → other_frames (v.frames ++ zs) ≡ other_frames (xs ++ zs)
step_keeps t zs [] row turns v e = let never : ⊥ = cc in absurd never
step_keeps t zs (x ∷ xs) row turns v e =
    let step = frame_behind t zs row x xs turns ∙ ap (with_behind zs) e in
    subst (λ (come : Came Standing). Keeps (x ∷ (xs ++ zs)) come) step (frame_keeps t row turns x (xs ++ zs))

way_keeps : (t : Table) (zs : List Frame) {s u : Standing} → Steps t s u → other_frames (u.frames ++ zs) ≡ other_frames (s.frames ++ zs)
way_keeps t zs stays = refl
way_keeps t zs {s} {u} (onward v first rest) = way_keeps t zs rest ∙ step_keeps t zs s.frames s.row s.turns v first

pub other_frames_stay : (t : Table) (zs : List Frame) (s u : Standing) → Steps t s u → other_frames (u.frames ++ zs) ≡ other_frames (s.frames ++ zs)
other_frames_stay t zs s u way = way_keeps t zs way
