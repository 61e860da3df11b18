-- Where a thread is in the one depth-first run. A point of the run has the frames of the thread that runs, then the frame
-- in which its parent awaits its End, with the parent's frames, and so on to the root. A thread that runs alone has its
-- own frames only, and a child that it does not wait for yet may be anywhere. Its point is the one at which the
-- depth-first run has these frames and this state: there the child has ended already.
use Rattle.std.specs.Prelude.{◌≡◌, ℕ, zero, suc, ◌+◌, ◌<◌, Bool, List, [], ◌∷◌, ◌++◌, length}
use Rattle.depth_first_run.specs.Passed.Actions.{Action, ends, record_words}
use Rattle.depth_first_run.specs.Passed.Facts.{action_at}
use Rattle.depth_first_run.specs.Passed.Tree.{Name, done, step}
use Rattle.depth_first_run.specs.Passed.Ownership.{function_of, main_name}
use Rattle.depth_first_run.specs.States.{Setting, State, Item, began, child_of, parent_of, ended}
use Rattle.depth_first_run.specs.Run.{whole, actions_of, list_of}
use Rattle.depth_first_run.specs.Middle.{Part, statements, tree, Frame, does, answers, rejoins, answers_main, allocates, awaits, joins, part_done, Middle, middle, step_fork, step_frame, advance, run_start}

-- the point of a run after n steps
unfoldable pub after_steps : Setting → ℕ → Middle
after_steps c zero = run_start c (function_of c.program main_name)
after_steps c (suc n) = advance c (after_steps c n)

-- a fact of each element of a list
abbrev pub Each : {A : Type 0} → (A → Type 0) → List A → Type 0
Each P [] = Unit {0}
Each P (x ∷ xs) = P x × Each P xs

-- a frame of the thread that runs, and not one in which a parent awaits the End of its child
abbrev pub IsOwn : Frame → Type 0
IsOwn (does part) = Unit {0}
IsOwn (answers ret params args t) = Unit {0}
IsOwn (rejoins b l r) = Unit {0}
IsOwn (answers_main ret) = Unit {0}
IsOwn (allocates b n) = Unit {0}
IsOwn (awaits named assigned own parent) = ⊥
IsOwn (joins assigned child d) = Unit {0}

-- an own frame that joins no child
abbrev pub IsPlain : Frame → Type 0
IsPlain (does part) = Unit {0}
IsPlain (answers ret params args t) = Unit {0}
IsPlain (rejoins b l r) = Unit {0}
IsPlain (answers_main ret) = Unit {0}
IsPlain (allocates b n) = Unit {0}
IsPlain (awaits named assigned own parent) = ⊥
IsPlain (joins assigned child d) = ⊥

-- the frames of a thread's parents: the first of them is the one in which its parent awaits its End; the root has none
abbrev pub AreParents : List Frame → Type 0
AreParents [] = Unit {0}
AreParents (f ∷ fs) = IsOwn f → ⊥

-- a thread with these frames and this state is at a point of the run
pub record IsAt (c : Setting) (own : List Frame) (s : State) : Type 0 where
  pub steps : ℕ
  pub parents : List Frame
  pub there : after_steps c steps ≡ middle (own ++ parents) s
  pub all_own : Each IsOwn own
  pub are_parents : AreParents parents

-- what the next frame of a thread leaves by one step, before the frames behind it
abbrev pub step_of : Setting → Frame → State → Middle
step_of c f s = step_frame c f [] s

-- no action, or one, with the label of the thread and its next index
abbrev pub IsNextOf : State → List Action → Type 0
IsNextOf s [] = Unit {0}
IsNextOf s (a ∷ []) = (a.label ≡ s.label) × (a.index ≡ s.done)
IsNextOf s (a ∷ b ∷ more) = ⊥

-- From the state s a step leaves m and changes its thread alone: it puts plain frames and leaves new items, at most one
-- action among them, which is counted.
pub record IsAlone (s : State) (m : Middle) : Type 0 where
  pub plain : Each IsPlain m.frames
  pub new : List Item
  pub grown : m.state.items ≡ s.items ++ new
  pub next : IsNextOf s (actions_of new)
  pub same_label : m.state.label ≡ s.label
  pub counted : m.state.done ≡ s.done + length (actions_of new)
  pub same_forks : m.state.forks ≡ s.forks

-- From the state s a step leaves m and forks a child: the child does `work`, its parent does `mine`, joins the child, and
-- has `later` behind it.
pub record Forks (c : Setting) (s : State) (m : Middle) : Type 0 where
  pub named : Name → Bool
  pub assigned : Name → Bool
  pub work : Part
  pub mine : Part
  pub later : List Frame
  pub forked : m ≡ step_fork c named assigned work mine later s
  pub plain : Each IsPlain later

-- a step that forks does so behind the mark of its statement; a tree of dummies has none
abbrev pub mark_of : Frame → List Item
mark_of (does (statements done)) = []
mark_of (does (statements (step line stmt rest))) = began line ∷ []
mark_of (does (tree shape)) = []
mark_of (answers ret params args t) = []
mark_of (rejoins b l r) = []
mark_of (answers_main ret) = []
mark_of (allocates b n) = []
mark_of (awaits named assigned own parent) = []
mark_of (joins assigned child d) = []

abbrev pub marked : Frame → State → State
marked f s = record s { items = s.items ++ mark_of f }

-- the next step of a thread changes it alone; or forks a child
abbrev pub StepsAlone : Setting → Frame → State → Type 0
StepsAlone c f s = IsAlone s (step_of c f s)

abbrev pub StepForks : Setting → Frame → State → Type 0
StepForks c f s = Forks c (marked f s) (step_of c f s)

-- where a step forks: the child before its first step, what it comes to with its End, and its parent behind the Fork
abbrev pub child_start : (c : Setting) (f : Frame) (s : State) → StepForks c f s → State
child_start c f s k = child_of c k.named (marked f s)

abbrev pub child_end : (c : Setting) (f : Frame) (s : State) → StepForks c f s → State
child_end c f s k = ended record_words (part_done c k.work (child_start c f s k))

abbrev pub parent_start : (c : Setting) (f : Frame) (s : State) → StepForks c f s → State
parent_start c f s k = parent_of k.named (child_end c f s k).items (marked f s)

-- and the frames that the parent has then before those behind the step
abbrev pub parent_frames : (c : Setting) (f : Frame) (s : State) → StepForks c f s → List Frame
parent_frames c f s k = does k.mine ∷ joins k.assigned (suc s.forks) (child_end c f s k) ∷ k.later

-- how many actions of L are done at a point, so that the next one has this place
abbrev pub place_of : State → ℕ
place_of s = length (actions_of s.items)

-- the next action of L is this one, and it is the next one of the thread
abbrev pub ActsNext : Setting → State → Action → Type 0
ActsNext c s a = (place_of s < length (list_of c)) × (action_at (list_of c) (place_of s) ≡ a) × (a.label ≡ s.label) × (a.index ≡ s.done)

-- the End of a thread, which gives back a record block where the thread is not the root
abbrev pub words_at_end : (label : List ℕ) → ℕ
words_at_end [] = 0
words_at_end (ordinal ∷ label) = record_words

abbrev pub end_of : State → Action
end_of s = record { label = s.label; index = s.done; deed = ends; words = words_at_end s.label }
