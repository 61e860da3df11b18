-- The threads of a depth-first run: the one that runs, and those that wait for it.
use Rattle.std.specs.Prelude.{◌≡◌, ℕ, ◌+◌, ◌≤◌, ◌<◌, true, false, List, [], ◌∷◌, ◌++◌, length, reverse}
use Rattle.dag_order.specs.Births.{HasLabel}
use Rattle.dag_order.specs.LabelOrder.{fork_of}
use Rattle.dag_order.specs.declared.birth.Birth.{Birth}
use Rattle.node_table.specs.Table.{Table}
use Rattle.thread_points.specs.Points.{Each}
use Rattle.thread_frames.specs.declared.thread.Thread.{Thread}
use Rattle.thread_frames.specs.Points.{IsAtPoint}
use Rattle.thread_frames.specs.Views.{Child, children_of, label_of, done_of, thread_words}
use Rattle.serial_journal.specs.Journals.{births_of}
use Rattle.serial_meaning.specs.declared.run.Run.{Run}

abbrev pub IsDelivered : Child → Type 0
IsDelivered child = child.delivered ≡ true

-- a child has one of the first so many births
abbrev pub IsBornWithin : ℕ → Child → Type 0
IsBornWithin count child = child.id.nth < count

-- A thread of a run that has done n actions: it is at its point, has its label by the births so far, has done no more actions than the
-- run, and its open children are among those born.
pub record IsMember (t : Table) (k n : ℕ) (births : List Birth) (x : Thread) : Type 0 where
  pub point : IsAtPoint t k x
  pub named : HasLabel (births ∷ []) x.id (label_of x)
  pub few : done_of x ≤ n
  pub born : Each (IsBornWithin (length births)) (children_of x)

-- x waits for the thread above it, its newest open child: the older ones are delivered, and were born before
pub record WaitsFor (above x : Thread) : Type 0 where
  pub older : List Child
  pub ordinal : ℕ
  pub children : children_of x ≡ older ++ record { id = above.id; ordinal = ordinal; func = above.func; delivered = false } ∷ []
  pub labelled : label_of above ≡ fork_of (label_of x) ordinal
  pub delivered : Each IsDelivered older
  pub earlier : Each (IsBornWithin above.id.nth) older

-- below a thread wait its parent, the parent of this, and so on up to the root
abbrev pub AreWaiting : Table → ℕ → ℕ → List Birth → (above : Thread) → (below : List Thread) → Type 0
AreWaiting t k n births above [] = label_of above ≡ []
AreWaiting t k n births above (x ∷ xs) = IsMember t k n births x × WaitsFor above x × AreWaiting t k n births x xs

abbrev pub all_words : List Thread → ℕ
all_words [] = 0
all_words (x ∷ xs) = thread_words x + all_words xs

-- the threads that wait, the parent of the one that runs first
abbrev pub below : Run → List Thread
below run = reverse run.parents.items

-- The thread that runs waits for no child, below it its parents wait, and the words that are out of the pool are theirs.
pub record Stand (t : Table) (k : ℕ) (run : Run) : Type 0 where
  pub top : IsMember t k run.done (births_of run.journal) run.top
  pub delivered : Each IsDelivered (children_of run.top)
  pub stack : AreWaiting t k run.done (births_of run.journal) run.top (below run)
  pub live : run.pool.live ≡ thread_words run.top + all_words (below run)
