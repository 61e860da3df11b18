-- A thread from its beginning on: how it began, and what it has left since then.
use Rattle.std.specs.Prelude.{◌≡◌, ℕ, List, [], ◌∷◌, ◌++◌}
use Rattle.dag_order.specs.LabelOrder.{fork_of}
use Rattle.depth_first_run.specs.Passed.Actions.{record_words}
use Rattle.depth_first_run.specs.Passed.Ownership.{function_of, main_name}
use Rattle.depth_first_run.specs.States.{Setting, State, Item, ended}
use Rattle.depth_first_run.specs.Run.{root_start}
use Rattle.depth_first_run.specs.Middle.{Frame, does, answers, rejoins, answers_main, allocates, awaits, joins, run_start}
use Rattle.thread_points.specs.Points.{IsAt, StepForks, child_start}

-- a thread begins: the root at the beginning of the run, a child behind its Fork
pub data Begins (c : Setting) : List Frame → State → Type 0 where
  of_root : Begins c (run_start c (function_of c.program main_name)).frames (root_start c)
  of_child : (f : Frame) (own : List Frame) (s : State) → IsAt c (f ∷ own) s → (k : StepForks c f s)
      → Begins c (does k.work ∷ []) (child_start c f s k)

-- a thread with this label began at `start`, and its last point is `last`
pub record HasRun (c : Setting) (label : List ℕ) (start last : State) : Type 0 where
  pub first : List Frame
  pub begins : Begins c first start
  pub starts_labelled : start.label ≡ label
  pub at_end : IsAt c [] last
  pub ends_labelled : last.label ≡ label

-- the open children of a thread, the newest first: the ordinal of each, and what it comes to with its End
pub record OpenChild : Type 0 where
  pub ordinal : ℕ
  pub outcome : State

abbrev pub open_children : List Frame → List OpenChild
open_children [] = []
open_children (does part ∷ fs) = open_children fs
open_children (answers ret params args t ∷ fs) = open_children fs
open_children (rejoins b l r ∷ fs) = open_children fs
open_children (answers_main ret ∷ fs) = open_children fs
open_children (allocates b n ∷ fs) = open_children fs
open_children (awaits named assigned own parent ∷ fs) = open_children fs
open_children (joins assigned child d ∷ fs) = record { ordinal = child; outcome = d } ∷ open_children fs

-- The items of a thread with this label, which began behind the items `begun`, are told by the parts, the newest first.
-- With no open child they are one part. Else the newest part stands behind the outcome of the newest open child, and the
-- other parts tell what stands before the child.
abbrev pub Told : Setting → (label : List ℕ) → (begun : List Item) → List OpenChild → (items : List Item) → List (List Item) → Type 0
Told c label begun [] items [] = ⊥
Told c label begun [] items (part ∷ parts) = (parts ≡ []) × (items ≡ begun ++ part)
Told c label begun (o ∷ older) items [] = ⊥
Told c label begun (o ∷ older) items (part ∷ parts) =
    (items ≡ o.outcome.items ++ part)
    × (start : State) × (last : State) × HasRun c (fork_of label o.ordinal) start last × (o.outcome ≡ ended record_words last)
    × Told c label begun older start.items parts

-- A thread with these frames and this state is at a point of the run, began at `start`, and has left these parts since.
pub record IsThread (c : Setting) (own : List Frame) (s : State) (parts : List (List Item)) : Type 0 where
  pub at_point : IsAt c own s
  pub first : List Frame
  pub start : State
  pub begins : Begins c first start
  pub labelled : start.label ≡ s.label
  pub told : Told c s.label start.items (open_children own) s.items parts
