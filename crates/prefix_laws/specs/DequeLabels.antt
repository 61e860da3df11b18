-- The labels of threads in deques.
use Rattle.std.specs.Prelude.{ℕ, List, [], ◌∷◌, ◌++◌, map}
use Rattle.dag_order.specs.declared.birth.Birth.{Birth}
use Rattle.dag_order.specs.Births.{HasLabel}
use Rattle.deque_list.specs.Deques.{Deque}
use Rattle.depth_first_run.specs.States.{Setting}
use Rattle.deque_machine.specs.Moments.{Moment}
use Rattle.deque_machine.specs.Runs.{Pair}
use Rattle.deque_machine.specs.Terms.{Terms}
use Rattle.deque_machine.specs.Lists.{Each}
use Rattle.thread_frames.specs.declared.thread.Thread.{Thread}
use Rattle.thread_frames.specs.Views.{label_of}
use Rattle.scheduler_state.specs.declared.scheduler.Scheduler.{Scheduler}
use Rattle.scheduler_state.specs.Held.{held}
use Rattle.scheduler_state.specs.Moments.{HasRun}

-- what a scheduler holds is at some moment of a program
abbrev pub HasSomeRun : Scheduler → Type 0
HasSomeRun s = ∥ ((c : Setting) × (terms : Terms) × (run : List Pair) × (m : Moment) × HasRun c terms (held s) run m) ∥₁

-- by these births each of the threads has its own label
abbrev pub AreLabelled : List (List Birth) → List Thread → Type 0
AreLabelled births threads = Each (λ x. ∥ HasLabel births (Thread.id x) (label_of x) ∥₁) threads

-- the labels of the threads of deques, from left to right and from top to bottom
abbrev pub labels_in : List (Deque Thread) → List (List ℕ)
labels_in [] = []
labels_in (deque ∷ right) = map label_of deque.items ++ labels_in right
