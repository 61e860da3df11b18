-- What a caller may use of the points of threads.
use Rattle.std.specs.Prelude.{◌≡◌, ℕ, suc, ◌<◌, ◌⊎◌, Bool, false, List, [], ◌∷◌, ◌++◌, length, ℤ, Option, Some, None}
use Rattle.depth_first_run.specs.Passed.Actions as actions
use Rattle.depth_first_run.specs.Passed.Actions.{Action, Deed, record_words}
use Rattle.depth_first_run.specs.Passed.Facts.{label_at, index_at}
use Rattle.dag_order.specs.LabelOrder.{fork_of}
use Rattle.dag_order.specs.declared.fault.FaultAt.{FaultAt}
use Rattle.depth_first_run.specs.Passed.Tree.{Name, par_stmt, Body, step}
use Rattle.depth_first_run.specs.Passed.Shapes.{Shape, forked}
use Rattle.depth_first_run.specs.Passed.Ownership.{function_of, main_name}
use Rattle.depth_first_run.specs.States.{Setting, State, Item, next_action, given_back, joined, ended}
use Rattle.depth_first_run.specs.Run.{whole, actions_of, first_fault, lines_of, names_in, assigns_in, no_name, root_start, list_of}
use Rattle.depth_first_run.specs.Middle.{Frame, does, statements, tree, joins, finish, middle, before_all, step_fork, run_start}
use Rattle.thread_points.specs.Points.{after_steps, Each, IsOwn, IsPlain, IsAt, step_of, StepsAlone, StepForks, child_start, parent_start, parent_frames, place_of, ActsNext, end_of, mark_of, marked}
use Rattle.thread_points.specs.Threads.{Begins, OpenChild, open_children, IsThread}

-- ---- points

-- the points of a run are those on the way to its end: after some steps nothing is left, and the whole run is the End of
-- what the thread is then
abbrev pub PointsReachTheEnd : Type 0
PointsReachTheEnd = (c : Setting) → (n : ℕ) × (s : State) × (after_steps c n ≡ middle [] s) × (whole c ≡ ended 0 s)

-- the root begins at a point
abbrev pub TheRootIsAtItsPoint : Type 0
TheRootIsAtItsPoint = (c : Setting) → IsAt c (run_start c (function_of c.program main_name)).frames (root_start c)

-- a step of an own frame changes the thread alone, or forks a child
abbrev pub StepsAreAloneOrFork : Type 0
StepsAreAloneOrFork = (c : Setting) (f : Frame) (s : State) → IsOwn f → StepsAlone c f s ⊎ StepForks c f s

-- a list of statements is a plain frame, where it is any
abbrev pub ListsArePlain : Type 0
ListsArePlain = (b : Body) (fs : List Frame) → Each IsPlain fs → Each IsPlain (before_all b fs)

-- a step that puts plain frames changes the thread alone
abbrev pub PlainStepsAreAlone : Type 0
PlainStepsAreAlone = (c : Setting) (f : Frame) (s : State) → IsOwn f → Each IsPlain (step_of c f s).frames → StepsAlone c f s

-- and leaves it at a point
abbrev pub PlainStepsStayAtPoints : Type 0
PlainStepsStayAtPoints = (c : Setting) (f : Frame) (own : List Frame) (s : State)
    → IsAt c (f ∷ own) s → Each IsPlain (step_of c f s).frames
    → IsAt c ((step_of c f s).frames ++ own) (step_of c f s).state

-- a `par` forks where the thread is not faulted and its label has room: the child does the first branch
abbrev pub ParsFork : Type 0
ParsFork = (c : Setting) (line : ℕ) (a b rest : Body) (s : State) → s.faulted ≡ false → length s.label < c.most_forks
    → step_of c (does (statements (step line (par_stmt a b) rest))) s
    ≡ step_fork c (names_in a) (assigns_in a) (statements a) (statements b) (before_all rest [])
    (marked (does (statements (step line (par_stmt a b) rest))) s)

-- a tree of dummies forks where it has two halves
abbrev pub TreesFork : Type 0
TreesFork = (c : Setting) (child own : Shape) (s : State)
    → step_of c (does (tree (forked child own))) s
    ≡ step_fork c no_name no_name (tree child) (tree own) [] (marked (does (tree (forked child own))) s)

-- a step that forks gives the points of the child and of its parent, and the parent has what the child comes to, whether
-- the child has run or not
abbrev pub ForksGiveTwoPoints : Type 0
ForksGiveTwoPoints = (c : Setting) (f : Frame) (own : List Frame) (s : State) → IsAt c (f ∷ own) s → (k : StepForks c f s)
    → IsAt c (does k.work ∷ []) (child_start c f s k) × IsAt c (parent_frames c f s k ++ own) (parent_start c f s k)

-- the action that the next step gives is the action of L at the place of the point, with the label of the thread and its
-- next index
abbrev pub StepsGiveTheActionOfTheList : Type 0
StepsGiveTheActionOfTheList = (c : Setting) (f : Frame) (own : List Frame) (s : State) → IsAt c (f ∷ own) s → (new : List Item) (a : Action)
    → (step_of c f s).state.items ≡ s.items ++ new → actions_of new ≡ a ∷ [] → ActsNext c s a

-- where a thread has no frame left, its End is the action of L
abbrev pub EndsAreOfTheList : Type 0
EndsAreOfTheList = (c : Setting) (s : State) → IsAt c [] s → ActsNext c s (end_of s)

-- at each point, also at one whose next step does no action, the next action of L is the next one of the thread
abbrev pub NextActionIsOfTheThread : Type 0
NextActionIsOfTheThread = (c : Setting) (own : List Frame) (s : State) → IsAt c own s
    → (place_of s < length (list_of c)) × (label_at (list_of c) (place_of s) ≡ s.label) × (index_at (list_of c) (place_of s) ≡ s.done)

-- of each label there is one beginning
abbrev pub OneBeginningOfALabel : Type 0
OneBeginningOfALabel = (c : Setting) (own other : List Frame) (s t : State) → Begins c own s → Begins c other t → s.label ≡ t.label
    → (own ≡ other) × (s ≡ t)

-- and one end
abbrev pub OneEndOfALabel : Type 0
OneEndOfALabel = (c : Setting) (s t : State) → IsAt c [] s → IsAt c [] t → s.label ≡ t.label → s ≡ t

-- running out the own frames of a thread gives the end of its label
abbrev pub FinishingGivesTheEnd : Type 0
FinishingGivesTheEnd = (c : Setting) (own : List Frame) (s : State) → IsAt c own s
    → IsAt c [] (finish c own s) × (State.label (finish c own s) ≡ s.label)

-- ---- threads

-- what begins is a thread that has left nothing
abbrev pub ThreadsBegin : Type 0
ThreadsBegin = (c : Setting) (own : List Frame) (s : State) → Begins c own s → IsThread c own s ([] ∷ [])

-- a step of a plain frame that puts plain frames adds its items to the newest part
abbrev pub ThreadsStep : Type 0
ThreadsStep = (c : Setting) (f : Frame) (own : List Frame) (s : State) (part : List Item) (older : List (List Item)) (new : List Item)
    → IsThread c (f ∷ own) s (part ∷ older) → IsPlain f → Each IsPlain (step_of c f s).frames
    → (step_of c f s).state.items ≡ s.items ++ new
    → IsThread c ((step_of c f s).frames ++ own) (step_of c f s).state ((part ++ new) ∷ older)

-- the items that a Fork adds to the newest part of its thread
abbrev pub fork_items : Frame → State → List Item
fork_items f s = mark_of f ++ next_action (actions.forks (suc s.forks)) record_words s ∷ []

-- a step that forks gives a child that has left nothing, and its parent with a new part that is empty
abbrev pub ThreadsFork : Type 0
ThreadsFork = (c : Setting) (f : Frame) (own : List Frame) (s : State) (part : List Item) (older : List (List Item))
    → IsThread c (f ∷ own) s (part ∷ older) → IsPlain f → (k : StepForks c f s)
    → IsThread c (does k.work ∷ []) (child_start c f s k) ([] ∷ [])
    × IsThread c (parent_frames c f s k ++ own) (parent_start c f s k) ([] ∷ (part ++ fork_items f s) ∷ older)

-- each open child of a thread has the label of its fork, and its outcome is what a child with this label comes to
abbrev pub IsOutcome : Setting → List ℕ → OpenChild → Type 0
IsOutcome c label o = (last : State) × IsAt c [] last × (last.label ≡ fork_of label o.ordinal) × (o.outcome ≡ ended record_words last)

abbrev pub OutcomesAreOfTheirChildren : Type 0
OutcomesAreOfTheirChildren = (c : Setting) (own : List Frame) (s : State) (parts : List (List Item)) → IsThread c own s parts
    → Each (IsOutcome c s.label) (open_children own)

-- where a thread joins a child that ended as d, its next action is the Join of this child
abbrev pub join_words : State → State → ℕ
join_words d s = given_back s.faulted d.faulted d s

abbrev pub JoinsAreOfTheList : Type 0
JoinsAreOfTheList = (c : Setting) (assigned : Name → Bool) (child : ℕ) (d : State) (own : List Frame) (s : State)
    → IsAt c (joins assigned child d ∷ own) s
    → ActsNext c s (record { label = s.label; index = s.done; deed = actions.joins child; words = join_words d s })

-- the parts close up: what stood before the Fork with the Fork, what the child left with its End, and the newest part with
-- the Join
abbrev pub joined_part : (front of_child : List Item) → (end : Item) → (part : List Item) → (join : Item) → List Item
joined_part front of_child end part join = front ++ (of_child ++ end ∷ (part ++ join ∷ []))

-- a thread that ended anywhere with the label of the child is the one that is joined, and behind the Join the parts close up
abbrev pub ThreadsJoin : Type 0
ThreadsJoin = (c : Setting) (assigned : Name → Bool) (child : ℕ) (d : State) (own : List Frame) (s t : State)
    (part front of_child : List Item) (older : List (List Item))
    → IsThread c (joins assigned child d ∷ own) s (part ∷ front ∷ older) → IsThread c [] t (of_child ∷ [])
    → t.label ≡ fork_of s.label child
    → (d ≡ ended record_words t)
    × IsThread c own (joined assigned child d s) (
    joined_part front of_child (next_action actions.ends record_words t) part (next_action (actions.joins child) (join_words d s) s) ∷ older
    )

-- a thread has one part more than it has open children
abbrev pub OnePartMore : Type 0
OnePartMore = (c : Setting) (own : List Frame) (s : State) (parts : List (List Item)) → IsThread c own s parts
    → length parts ≡ suc (length (open_children own))

-- the root's end tells the whole run: what the root left, and its End
abbrev pub TheRootTellsTheWhole : Type 0
TheRootTellsTheWhole = (c : Setting) (s : State) (part : List Item) → IsThread c [] s (part ∷ []) → s.label ≡ []
    → (whole c ≡ ended 0 s) × (State.items (whole c) ≡ part ++ next_action actions.ends 0 s ∷ [])

-- two lists of items tell the first fault of the first one that has any, and the lines before it
abbrev pub earlier_fault : Option FaultAt → Option FaultAt → Option FaultAt
earlier_fault None later = later
earlier_fault (Some fault) later = Some fault

abbrev pub unless_fault : Option FaultAt → List ℤ → List ℤ
unless_fault None lines = lines
unless_fault (Some fault) lines = []

abbrev pub PartsTellTogether : Type 0
PartsTellTogether = (xs ys : List Item)
    → (first_fault (xs ++ ys) ≡ earlier_fault (first_fault xs) (first_fault ys))
    × (lines_of (xs ++ ys) ≡ lines_of xs ++ unless_fault (first_fault xs) (lines_of ys))
