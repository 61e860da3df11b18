-- What is written down of a depth-first run, and where the run is in the depth-first list.
use Rattle.std.specs.Prelude.{◌≡◌, ℕ, suc, ◌<◌, List, [], ◌∷◌, take, Option, None, Some, Result, MatchResult}
use Rattle.dag_order.specs.LabelOrder.{fork_of}
use Rattle.depth_first_list.specs.Actions.{Action, forks}
use Rattle.depth_first_list.specs.Facts.{label_at, index_at, deed_at}
use Rattle.depth_first_list.specs.Laws.{HasAction}
use Rattle.depth_first_run.specs.States.{Setting}
use Rattle.depth_first_run.specs.Run.{list_of}
use Rattle.node_table.specs.Table.{Table}
use Rattle.thread_frames.specs.declared.ended.Ended.{Ended}
use Rattle.thread_frames.specs.declared.thread.Thread.{Thread}
use Rattle.thread_frames.specs.Points.{IsResult}
use Rattle.thread_frames.specs.Views.{label_of, done_of, ended_label}
use Rattle.serial_journal.specs.Journals.{KeepsUp}
use Rattle.serial_journal.specs.Stops.{OnStop}
use Rattle.serial_journal.specs.declared.serial_stop.SerialStop.{SerialStop}
use Rattle.serial_meaning.specs.Stacks.{Stand, below}
use Rattle.serial_meaning.specs.declared.run.Run.{Run}

-- before place n stands the Fork of the thread above by x, which has done it and nothing since
pub record Forked (l : List Action) (n : ℕ) (above x : Thread) : Type 0 where
  pub place : ℕ
  pub child : ℕ
  pub before : place < n
  pub by : label_at l place ≡ label_of x
  pub deed : deed_at l place ≡ forks child
  pub child_is : label_of above ≡ fork_of (label_of x) child
  pub since : done_of x ≡ suc (index_at l place)

abbrev pub AreForked : List Action → ℕ → (above : Thread) → (below : List Thread) → Type 0
AreForked l n above [] = Unit {0}
AreForked l n above (x ∷ xs) = Forked l n above x × AreForked l n x xs

-- The first actions of the list are done and written down, as many as the run says; the thread that runs does the next one, and those that
-- wait go on behind the Ends of their children.
pub record Write (c : Setting) (limit : ℕ) (run : Run) : Type 0 where
  pub keeps : KeepsUp limit (take run.done (list_of c)) run.journal
  pub next : HasAction (list_of c) run.done (label_of run.top) (done_of run.top)
  pub forked : AreForked (list_of c) run.done run.top (below run)

-- behind an action the run goes on, or it has ended, with the result of the root
abbrev pub GoesOrEnds : Table → ℕ → Run → Option Ended → Type 0
GoesOrEnds t k run None = Stand t k run
GoesOrEnds t k run (Some root) = IsResult t k root × (ended_label root ≡ [])

abbrev pub WritesOrEnds : Setting → ℕ → Run → Option Ended → Type 0
WritesOrEnds c limit run None = Write c limit run
WritesOrEnds c limit run (Some root) = KeepsUp limit (list_of c) run.journal

-- the limit does not stop the call
abbrev pub NeverSpent : {A : Type 0} → Result A SerialStop → Type 0
NeverSpent {A} result = MatchResult result (λ _. Unit {0}) (λ stop. OnStop stop ⊥)
