-- Each step of a thread leaves less to do.
use Rattle.std.proofs.Common.{◌≡◌, ℕ, zero, suc, ◌+◌, ◌*◌, ◌≤◌, Bool, true, false, List, [], ◌∷◌}
use Rattle.std.proofs.Common.{◌++◌, Option, Some, None, Result, Ok, Err, refl, sym, ap, ◌∙◌, subst, arith}
use Rattle.thread_state.specs.Passed.FaultKind.{FaultKind}
use Rattle.par_tree.specs.Tree
use Rattle.par_tree.specs.Tree.{Name, Func, Program}
use Rattle.thread_state.specs.Passed.States.{Setting, State}
use Rattle.thread_state.specs.Passed.Values.{Outcome, is_true}
use Rattle.thread_state.specs.Passed.Middle as middles
use Rattle.thread_state.specs.Passed.Middle.{Middle, step_frame}
use Rattle.thread_state.specs.Passed.Names.{slot_names}
use Rattle.thread_state.specs.Passed.Table as tables
use Rattle.thread_state.specs.Passed.Table.{Kind, let_node, assign_node, put_node, alloc_node, free_node, if_node, while_node, call_node, print_node}
use Rattle.thread_state.specs.Passed.Table.{both_node, split_node, Table}
use Rattle.thread_state.specs.Passed.Rows.{Entry}
use Rattle.flat_statements.specs.Passed.Frame.{Frame}
use Rattle.flat_statements.specs.Passed.FrameVariants.{Statements, Again, Tree as DummyTree, Answers, Rejoins, AnswersMain, Allocates, Joins}
use Rattle.flat_statements.specs.Passed.ListOf.{ListOf}
use Rattle.flat_statements.specs.Passed.ListOfVariants.{Then, Other, Round}
use Rattle.flat_statements.specs.Passed.Lists.{kind_at, kind_of_node, numbers_from}
use Rattle.flat_statements.specs.Passed.Frames.{AreStatements, AreFrames, names_now}
use Rattle.flat_statements.specs.Passed.Measure.{list_cost, kind_cost, node_cost, turn_cost, frames_cost, left_to_do}
use Rattle.flat_statements.proofs.Passed.Lists.{first_statement}
use Rattle.flat_statements.proofs.Passed.Costs.{node_covers, turn_covers_node}
use Rattle.flat_statements.specs.Passed.Values.{value_in, set_by, put_by}
use Rattle.flat_statements.specs.Flat.{Came, goes_to, meets, stops}
use Rattle.flat_statements.specs.Threads.{Standing, standing, rest_of, row_step, arm_step, if_step, turn_step, round_step, while_step, kind_step}
use Rattle.flat_statements.specs.Threads.{list_step, frame_step, thread_step, with_behind}
use Rattle.flat_statements.specs.Runs.{IsInState, IsStepOf}
use Rattle.flat_statements.specs.Follows.{Steps, stays, onward}
use Rattle.flat_statements.proofs.Behind.{frame_behind}
use Rattle.flat_statements.proofs.Reaching.{next_numbers, then_numbers, other_numbers, round_numbers}
use Rattle.flat_statements.proofs.Stepping.{steps_of_the_run}
use Rattle.flat_threads.specs.Ways.{how_many}

-- where a step goes on, less is left than before
abbrev LeavesLess : Table → (before : ℕ) → Came Standing → Type 0
LeavesLess t before (goes_to v) = left_to_do t v.turns v.frames + 1 ≤ before
LeavesLess t before (meets kind) = Unit {0}
LeavesLess t before stops = Unit {0}

less_more : (t : Table) (low high : ℕ) (come : Came Standing) → low ≤ high → LeavesLess t low come → LeavesLess t high come
less_more t low high (goes_to v) more h = omega (arith, more, h)
less_more t low high (meets kind) more h = tt
less_more t low high stops more h = tt

-- the frame of what is left of a list counts no more than the list
rest_cost : (t : Table) (ns : List ℕ) (list : ListOf) (next : ℕ) (xs : List Frame) → numbers_from t list next ≡ ns
    → frames_cost t (rest_of ns list next xs) ≤ list_cost (node_cost t) ns + frames_cost t xs
rest_cost t [] list next xs e = omega arith
rest_cost t (n ∷ ns) list next xs e =
    let same : list_cost (node_cost t) (numbers_from t list next) ≡ list_cost (node_cost t) (n ∷ ns) = ap (λ (ms : List ℕ). list_cost (node_cost t) ms) e in
    omega (arith, same)

-- what is left before the statement of a node
abbrev before_it : Table → ℕ → List Frame → ℕ → ℕ
before_it t n xs turns = turns * turn_cost t + (node_cost t n + frames_cost t xs)

module _ (t : Table) (n : ℕ) (turn : 4 + node_cost t n ≤ turn_cost t) (xs : List Frame) (row : List Entry) where
  row_less : (turns : ℕ) (r : Result (List Entry) FaultKind) → 2 ≤ node_cost t n → LeavesLess t (before_it t n xs turns) (row_step xs turns r)
  row_less turns (Ok new) covers = omega (arith, covers)
  row_less turns (Err kind) covers = tt

  arm_less : (turns : ℕ) (e : tables.Expr) (a b : List ℕ) → kind_at t n ≡ Some (if_node e a b)
      → 2 + (list_cost (node_cost t) a + list_cost (node_cost t) b) ≤ node_cost t n → (holds : Bool)
      → LeavesLess t (before_it t n xs turns) (arm_step n a b xs row turns holds)
  arm_less turns e a b is covers true = let rest = rest_cost t a (Then n) 0 xs (then_numbers t n e a b is) in omega (arith, rest, covers)
  arm_less turns e a b is covers false = let rest = rest_cost t b (Other n) 0 xs (other_numbers t n e a b is) in omega (arith, rest, covers)

  if_less : (turns : ℕ) (e : tables.Expr) (a b : List ℕ) → kind_at t n ≡ Some (if_node e a b)
      → 2 + (list_cost (node_cost t) a + list_cost (node_cost t) b) ≤ node_cost t n → (o : Outcome)
      → LeavesLess t (before_it t n xs turns) (if_step n a b xs row turns o)
  if_less turns e a b is covers (Ok v) = arm_less turns e a b is covers (is_true v)
  if_less turns e a b is covers (Err kind) = tt

  turn_less : (turns : ℕ) (e : tables.Expr) (a : List ℕ) → kind_at t n ≡ Some (while_node e a) → 2 + list_cost (node_cost t) a ≤ node_cost t n
      → LeavesLess t (before_it t n xs turns) (turn_step n a xs row turns)
  turn_less zero e a is covers = tt
  turn_less (suc left) e a is covers =
      let rest = rest_cost t a (Round n) 0 (Again n ∷ xs) (round_numbers t n e a is) in
      let grown : suc left * turn_cost t ≡ left * turn_cost t + turn_cost t = one_more left (turn_cost t) in
      omega (arith, rest, covers, turn, grown)
    where
      one_more : (m k : ℕ) → suc m * k ≡ m * k + k
      one_more m k = omega arith

  round_less : (turns : ℕ) (e : tables.Expr) (a : List ℕ) → kind_at t n ≡ Some (while_node e a) → 2 + list_cost (node_cost t) a ≤ node_cost t n
      → (holds : Bool) → LeavesLess t (before_it t n xs turns) (round_step n a xs row turns holds)
  round_less turns e a is covers true = turn_less turns e a is covers
  round_less turns e a is covers false = omega (arith, covers)

  while_less : (turns : ℕ) (e : tables.Expr) (a : List ℕ) → kind_at t n ≡ Some (while_node e a) → 2 + list_cost (node_cost t) a ≤ node_cost t n
      → (o : Outcome) → LeavesLess t (before_it t n xs turns) (while_step n a xs row turns o)
  while_less turns e a is covers (Ok v) = round_less turns e a is covers (is_true v)
  while_less turns e a is covers (Err kind) = tt

  kind_less : (turns : ℕ) (kind : Option Kind) → kind_at t n ≡ kind → 2 + kind_cost (node_cost t) kind ≤ node_cost t n
      → LeavesLess t (before_it t n xs turns) (kind_step n xs row turns kind)
  kind_less turns None is covers = tt
  kind_less turns (Some (let_node s e)) is covers = row_less turns (set_by s e row) covers
  kind_less turns (Some (assign_node s e)) is covers = row_less turns (set_by s e row) covers
  kind_less turns (Some (put_node b i e)) is covers = row_less turns (put_by b i e row) covers
  kind_less turns (Some (alloc_node s e)) is covers = tt
  kind_less turns (Some (free_node s)) is covers = tt
  kind_less turns (Some (if_node e a b)) is covers = if_less turns e a b is covers (value_in row e)
  kind_less turns (Some (while_node e a)) is covers = while_less turns e a is covers (value_in row e)
  kind_less turns (Some (call_node to func from)) is covers = tt
  kind_less turns (Some (print_node e)) is covers = tt
  kind_less turns (Some (both_node a b blocks assigned)) is covers = tt
  kind_less turns (Some (split_node s e l r a)) is covers = tt

module _ (p : Program) (t : Table) (row : List Entry) (turns : ℕ) where
  -- the first of some statements
  first_less : (names : List Name) (n : ℕ) (ns : List ℕ) (b : Tree.Body) (xs : List Frame) → AreStatements p t names (n ∷ ns) b
      → LeavesLess t (before_it t n xs turns) (kind_step n xs row turns (kind_at t n))
  first_less names n ns b xs are =
      let first = first_statement p t names n ns b are in
      let node = first.node in
      let covers = subst (λ (o : Option Kind). 2 + kind_cost (node_cost t) o ≤ node_cost t n) (sym (ap kind_of_node node.there))
      (node_covers p t names n first.line first.stmt node) in
      kind_less t n (turn_covers_node t n node.node node.there) xs row turns (kind_at t n) refl covers

  list_less : (names : List Name) (list : ListOf) (next : ℕ) (ns : List ℕ) (b : Tree.Body) (xs : List Frame) → numbers_from t list next ≡ ns
      → AreStatements p t names ns b
      → LeavesLess t (turns * turn_cost t + (list_cost (node_cost t) ns + frames_cost t xs)) (list_step t ns list next xs row turns)
  list_less names list next [] b xs is are = omega arith
  list_less names list next (n ∷ ns) b xs is are =
      let rest = rest_cost t ns list (next + 1) xs (next_numbers t list next n ns is) in
      less_more t (before_it t n (rest_of ns list (next + 1) xs) turns) (turns * turn_cost t + (list_cost (node_cost t) (n ∷ ns) + frames_cost t xs))
      (kind_step n (rest_of ns list (next + 1) xs) row turns (kind_at t n)) (omega (arith, rest))
      (first_less names n ns b (rest_of ns list (next + 1) xs) are)

  frame_less : (gs : List Func) (x : Frame) (xs : List Frame) (own : List middles.Frame) → AreFrames p t gs (x ∷ xs) own
      → LeavesLess t (left_to_do t turns (x ∷ xs)) (frame_step t x xs row turns)
  frame_less gs x xs [] h = absurd h
  frame_less gs (Statements list next) xs (f ∷ fs) h = list_less (names_now gs) list next (numbers_from t list next) h.0.0 xs refl h.0.2
  frame_less gs (Again n) xs (f ∷ fs) h =
      less_more t (before_it t n xs turns) (left_to_do t turns (Again n ∷ xs)) (kind_step n xs row turns (kind_at t n)) (omega arith)
      (first_less (names_now gs) n [] h.0.0 xs h.0.2)
  frame_less gs (DummyTree shape) xs (f ∷ fs) h = tt
  frame_less gs (Answers n caller) xs (f ∷ fs) h = tt
  frame_less gs (Rejoins n) xs (f ∷ fs) h = tt
  frame_less gs AnswersMain xs (f ∷ fs) h = tt
  frame_less gs (Allocates slot len) xs (f ∷ fs) h = tt
  frame_less gs (Joins branch) xs (f ∷ fs) h = tt

-- and with frames after those of the function
step_less : (p : Program) (t : Table) (gs : List Func) (zs xs : List Frame) (row : List Entry) (turns : ℕ) (v : Standing) (own : List middles.Frame)
    → AreFrames p t gs (xs ++ zs) own → thread_step t (standing xs row turns) ≡ goes_to v
    → left_to_do t v.turns (v.frames ++ zs) + 1 ≤ left_to_do t turns (xs ++ zs)
step_less p t gs zs [] row turns v own frames e = let never : ⊥ = cc in absurd never
step_less p t gs zs (x ∷ xs) row turns v own frames e =
    let step = frame_behind t zs row x xs turns ∙ ap (with_behind zs) e in
    subst (λ (come : Came Standing). LeavesLess t (left_to_do t turns (x ∷ (xs ++ zs))) come) step (frame_less p t row turns gs x (xs ++ zs) own frames)

pub steps_leave_less : (p : Program) (t : Table) (gs : List Func) (zs : List Frame) (s v : Standing) (own : List middles.Frame)
    → AreFrames p t gs (s.frames ++ zs) own → thread_step t s ≡ goes_to v
    → left_to_do t v.turns (v.frames ++ zs) + 1 ≤ left_to_do t s.turns (s.frames ++ zs)
steps_leave_less p t gs zs s v own frames e = step_less p t gs zs s.frames s.row s.turns v own frames e

module _ (c : Setting) (t : Table) (g : Func) (gs : List Func) (zs : List Frame) where
  -- the first step, and the way from there
  first_way : (xs : List Frame) (row : List Entry) (turns : ℕ) (v u : Standing) (many : ℕ) → thread_step t (standing xs row turns) ≡ goes_to v
      → ((m : Middle) → AreFrames c.program t (g ∷ gs) (v.frames ++ zs) m.frames → IsInState (slot_names g) v.row v.turns m.state
      → left_to_do t u.turns (u.frames ++ zs) + many ≤ left_to_do t v.turns (v.frames ++ zs))
      → (own : List middles.Frame) (at : State) → AreFrames c.program t (g ∷ gs) (xs ++ zs) own → IsInState (slot_names g) row turns at
      → left_to_do t u.turns (u.frames ++ zs) + suc many ≤ left_to_do t turns (xs ++ zs)
  first_way [] row turns v u many e more own at frames here = let never : ⊥ = cc in absurd never
  first_way (x ∷ xs) row turns v u many e more [] at frames here = absurd frames
  first_way (x ∷ xs) row turns v u many e more (f ∷ fs) at frames here =
      let m = step_frame c f fs at in
      let one = steps_of_the_run c t g gs (standing (x ∷ (xs ++ zs)) row turns) f fs at frames here in
      let step = frame_behind t zs row x xs turns ∙ ap (with_behind zs) e in
      let w = subst (λ (come : Came Standing). IsStepOf c t (g ∷ gs) at m come) step one in
      let rest = more m w.1 w.2 in
      let first = step_less c.program t (g ∷ gs) zs (x ∷ xs) row turns v (f ∷ fs) frames e in
      omega (arith, rest, first)

  way_less : {s u : Standing} → (way : Steps t s u) → (m : Middle) → AreFrames c.program t (g ∷ gs) (s.frames ++ zs) m.frames
      → IsInState (slot_names g) s.row s.turns m.state
      → left_to_do t u.turns (u.frames ++ zs) + how_many way ≤ left_to_do t s.turns (s.frames ++ zs)
  way_less stays m frames here = omega arith
  way_less {s} {u} (onward v e rest) m frames here =
      first_way s.frames s.row s.turns v u (how_many rest) e (way_less rest) m.frames m.state frames here

pub ways_leave_less : (c : Setting) (t : Table) (g : Func) (gs : List Func) (zs : List Frame) (s u : Standing) (way : Steps t s u) (m : Middle)
    → AreFrames c.program t (g ∷ gs) (s.frames ++ zs) m.frames → IsInState (slot_names g) s.row s.turns m.state
    → left_to_do t u.turns (u.frames ++ zs) + how_many way ≤ left_to_do t s.turns (s.frames ++ zs)
ways_leave_less c t g gs zs s u way m frames here = way_less c t g gs zs way m frames here
