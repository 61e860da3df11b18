-- The frames of a thread over a node table, and which frames of the depth-first run they are.
use Rattle.std.specs.Prelude.{◌≡◌, ℕ, ◌+◌, Bool, List, [], ◌∷◌, Option, Some, None, slice_get}
use Rattle.std.specs.List.{filter}
use Rattle.depth_first_list.specs.Shapes.{shape_of}
use Rattle.depth_first_list.specs.TreeLeaves.{tree_leaves}
use Rattle.depth_first_run.specs.Passed.Tree
use Rattle.depth_first_run.specs.Passed.Tree.{Name, Func, Program, Target, Arg, Stmt, step}
use Rattle.depth_first_run.specs.States.{State}
use Rattle.depth_first_run.specs.Run.{assigns_in, no_name}
use Rattle.depth_first_run.specs.Middle as middles
use Rattle.depth_first_run.specs.Middle.{does, statements, tree, answers, rejoins, answers_main, allocates, joins}
use Rattle.node_table.specs.Names.{slot_names, IsSlot}
use Rattle.node_table.specs.Reading.{IsTarget, AreArgs, AreSlots}
use Rattle.node_table.specs.Table.{Kind, call_node, both_node, split_node, Node, Function, Table}
use Rattle.node_table.specs.Table as tables
use Rattle.node_table.specs.Programs.{IsStmt, IsBody, IsFunc, function_names, is_named_in, is_assigned_in}
use Rattle.thread_stack.specs.declared.branch.Branch.{Branch}
use Rattle.thread_stack.specs.declared.branch.Branch.TheVariants.{Par, Dummies}
use Rattle.thread_stack.specs.declared.frame.Frame.{Frame}
use Rattle.thread_stack.specs.declared.frame.Frame.TheVariants.{Statements, Again, Tree as DummyTree, Answers, Rejoins, AnswersMain, Allocates, Joins}
use Rattle.thread_stack.specs.Lists.{kind_at, numbers_from}

-- the function that a number of the table is
pub record IsFunctionOf (p : Program) (t : Table) (n : ℕ) (g : Func) : Type 0 where
  pub of_program : slice_get p n ≡ Some g
  pub code : Function
  pub there : slice_get t.funcs n ≡ Some code
  pub is : IsFunc t.nodes (function_names p) g code

-- the function of a thread that runs a tree of dummies: it has no names, and so no slots
abbrev pub no_function : Func
no_function = record { name = []; params = []; body = Tree.done; ret = None; line = 0 }

-- the first of the functions whose calls are open is the one of this number, or that of a thread of dummies
abbrev pub RunsIn : Program → Table → Option ℕ → List Func → Type 0
RunsIn p t func [] = ⊥
RunsIn p t None (g ∷ gs) = g ≡ no_function
RunsIn p t (Some n) (g ∷ gs) = IsFunctionOf p t n g

-- The functions whose calls are open in a thread, the innermost first: the first one has the names of the slots, and the next one
-- those of its caller.
abbrev pub names_now : List Func → List Name
names_now [] = []
names_now (g ∷ gs) = slot_names g

-- the first of the statements of these numbers begin with one, of this line
pub record IsNode (p : Program) (t : Table) (names : List Name) (n line : ℕ) (stmt : Stmt) : Type 0 where
  pub node : Node
  pub there : slice_get t.nodes n ≡ Some node
  pub on_line : node.line ≡ line
  pub is : IsStmt t.nodes (function_names p) names stmt (n + 1) node.kind

-- the numbers are these statements
abbrev pub AreStatements : Program → Table → List Name → List ℕ → Tree.Body → Type 0
AreStatements p t names ns b = (low : ℕ) × IsBody t.nodes (function_names p) names b low ns

-- The end of a call: of the function that runs, with what the caller's node has passed.
pub record IsAnswer (p : Program) (t : Table) (callee caller : Func) (n : ℕ) (args : List Arg) (target : Target) : Type 0 where
  pub to : tables.Target
  pub func : ℕ
  pub from : List tables.Arg
  pub there : kind_at t n ≡ Some (call_node to func from)
  pub function : IsFunctionOf p t func callee
  pub to_target : IsTarget (slot_names caller) to target
  pub passed : AreArgs (slot_names caller) from args

abbrev pub IsAnswerOf : Program → Table → List Func → (node : ℕ) → (caller : Option ℕ) → middles.Frame → Type 0
IsAnswerOf p t [] n caller f = ⊥
IsAnswerOf p t (g ∷ []) n caller f = ⊥
IsAnswerOf p t (g ∷ h ∷ gs) n caller f =
    (args : List Arg) × (target : Target) × (f ≡ answers g.ret g.params args target) × IsAnswer p t g h n args target
    × RunsIn p t caller (h ∷ gs)

-- the end of `main`
abbrev pub IsAnswerOfMain : Program → Table → List Func → middles.Frame → Type 0
IsAnswerOfMain p t [] f = ⊥
IsAnswerOfMain p t (g ∷ gs) f = (f ≡ answers_main g.ret) × IsFunctionOf p t t.main g

-- the end of a `split`
pub record IsSplitNode (t : Table) (names : List Name) (n : ℕ) (b l r : Name) : Type 0 where
  pub block : ℕ
  pub at : tables.Expr
  pub left : ℕ
  pub right : ℕ
  pub body : List ℕ
  pub there : kind_at t n ≡ Some (split_node block at left right body)
  pub whole : IsSlot names block b
  pub first : IsSlot names left l
  pub rest : IsSlot names right r

-- what the first branch of a `par` takes with it and assigns to, in the slots of the function; a dummy takes nothing and assigns to nothing
pub record IsParNode (p : Program) (t : Table) (names : List Name) (n : ℕ) (a b : Tree.Body) : Type 0 where
  pub left : List ℕ
  pub right : List ℕ
  pub blocks : List ℕ
  pub assigned : List ℕ
  pub there : kind_at t n ≡ Some (both_node left right blocks assigned)
  pub first : AreStatements p t names left a
  pub second : AreStatements p t names right b
  pub takes : AreSlots names blocks (filter (is_named_in a) names)
  pub assigns : AreSlots names assigned (filter (is_assigned_in a) names)

abbrev pub IsJoinOf : Program → Table → List Name → Branch → (Name → Bool) → Type 0
IsJoinOf p t names (Par n) assigned = (a : Tree.Body) × (b : Tree.Body) × (assigned ≡ assigns_in a) × IsParNode p t names n a b
IsJoinOf p t names Dummies assigned = assigned ≡ no_name

-- Which frame of a run a frame is, where these functions have open calls.
abbrev pub IsFrame : Program → Table → List Func → Frame → middles.Frame → Type 0
IsFrame p t gs (Statements list next) f =
    (b : Tree.Body) × (f ≡ does (statements b)) × AreStatements p t (names_now gs) (numbers_from t list next) b
IsFrame p t gs (Again n) f = (b : Tree.Body) × (f ≡ does (statements b)) × AreStatements p t (names_now gs) (n ∷ []) b
IsFrame p t gs (DummyTree shape) f = f ≡ does (tree (shape_of (tree_leaves shape)))
IsFrame p t gs (Answers n caller) f = IsAnswerOf p t gs n caller f
IsFrame p t gs (Rejoins n) f = (b : Name) × (l : Name) × (r : Name) × (f ≡ rejoins b l r) × IsSplitNode t (names_now gs) n b l r
IsFrame p t gs AnswersMain f = IsAnswerOfMain p t gs f
IsFrame p t gs (Allocates slot len) f = (b : Name) × (f ≡ allocates b len) × IsSlot (names_now gs) slot b
IsFrame p t gs (Joins branch) f =
    (assigned : Name → Bool) × (child : ℕ) × (d : State) × (f ≡ joins assigned child d) × IsJoinOf p t (names_now gs) branch assigned

-- the functions behind a frame: the end of a call closes the innermost one
abbrev pub behind_call : List Func → List Func
behind_call [] = []
behind_call (g ∷ gs) = gs

abbrev pub functions_behind : Frame → List Func → List Func
functions_behind (Statements list next) gs = gs
functions_behind (Again n) gs = gs
functions_behind (DummyTree shape) gs = gs
functions_behind (Answers n caller) gs = behind_call gs
functions_behind (Rejoins n) gs = gs
functions_behind AnswersMain gs = gs
functions_behind (Allocates slot len) gs = gs
functions_behind (Joins branch) gs = gs

-- The frames, the next one first, are those of a run. Behind the last one a single function is left.
abbrev pub IsOne : List Func → Type 0
IsOne [] = ⊥
IsOne (g ∷ []) = Unit {0}
IsOne (g ∷ h ∷ gs) = ⊥

abbrev pub AreFrames : Program → Table → List Func → List Frame → List middles.Frame → Type 0
AreFrames p t gs [] [] = IsOne gs
AreFrames p t gs [] (f ∷ fs) = ⊥
AreFrames p t gs (x ∷ xs) [] = ⊥
AreFrames p t gs (x ∷ xs) (f ∷ fs) = IsFrame p t gs x f × AreFrames p t (functions_behind x gs) xs fs

-- one frame more, or none
abbrev pub frames_shown : Option Frame → List Frame
frames_shown None = []
frames_shown (Some x) = x ∷ []
