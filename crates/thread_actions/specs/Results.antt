-- How the result of a child comes to its parent.
use Rattle.std.specs.Prelude.{◌≡◌, ◌⊎◌, ◌≤◌, ◌+◌, ℕ, true, false, Some, List, [], ◌∷◌}
use Rattle.std.specs.List.Sorted.{IsPermutation}
use Rattle.dag_order.specs.declared.thread_id.ThreadId.{ThreadId}
use Rattle.node_table.specs.Table.{Table}
use Rattle.thread_map.specs.Kept.{Kept, kept_under}
use Rattle.thread_frames.specs.Actions.{IsSame}
use Rattle.thread_frames.specs.Children.{IsAwaited, is_delivered, with_delivered}
use Rattle.thread_frames.specs.Points.{IsAtPoint, IsResult}
use Rattle.thread_frames.specs.Views.{children_of, done_of, forks_of, label_of, next_of, thread_words, ended_words, ended_label}
use Rattle.thread_frames.specs.declared.ended.Ended.{Ended}
use Rattle.thread_frames.specs.declared.next.Next.{Next}
use Rattle.thread_frames.specs.declared.next.Next.TheVariants.{Fork, Join, Alloc, Release, Dummy, Fault, End}
use Rattle.thread_frames.specs.declared.thread.Thread.{Thread}

-- a result is kept under the id of a child, and a thread waits for it
pub record IsToCome (results : Kept Ended) (top : Thread) (child : ThreadId) : Type 0 where
  pub ended : Ended
  pub kept : kept_under results child ≡ Some ended
  pub awaited : IsAwaited (label_of top) ended (children_of top)

-- a result came to a thread, which stays at its point
pub record IsGiven (ended : Ended) (top now : Thread) : Type 0 where
  pub same : IsSame top now
  pub done : done_of now ≡ done_of top
  pub forks : forks_of now ≡ forks_of top
  pub children : children_of now ≡ with_delivered ended.id (children_of top)
  pub next : next_of now ≡ next_of top
  pub words : thread_words now ≡ thread_words top + ended_words ended
  pub point : (t : Table) (k : ℕ) → IsAtPoint t k top → IsResult t k ended → IsAtPoint t k now

-- it was kept, and came to the thread that joins its child
pub record HasCome (before after : Kept Ended) (top now : Thread) (child : ThreadId) : Type 0 where
  pub ended : Ended
  pub kept : kept_under before child ≡ Some ended
  pub results : IsPermutation before.entries ((child, ended) ∷ after.entries)
  pub room : before.spare ≤ after.spare
  pub given : IsGiven ended top now

-- whatever the result of this thread is, the first of these threads waits for it
abbrev pub FirstAwaits : Thread → List Thread → Type 0
FirstAwaits top [] = Unit {0}
FirstAwaits top (parent ∷ below) = (ended : Ended) → ended.id ≡ Thread.id top → ended_label ended ≡ label_of top → ended.func ≡ Thread.func top
    → IsAwaited (label_of parent) ended (children_of parent)

-- nothing has come
abbrev pub NoneComes : Kept Ended → Kept Ended → Thread → Thread → Type 0
NoneComes before after top now = (after ≡ before) × (now ≡ top)

-- the result of the child that is joined was delivered before, or has come now
abbrev pub TakesResult : Next → (before after : Kept Ended) → (top now : Thread) → Type 0
TakesResult Fork before after top now = NoneComes before after top now
TakesResult (Join child) before after top now =
    ((is_delivered child (children_of top) ≡ true) × NoneComes before after top now)
    ⊎ ((is_delivered child (children_of top) ≡ false) × HasCome before after top now child)
TakesResult (Alloc words) before after top now = NoneComes before after top now
TakesResult (Release words) before after top now = NoneComes before after top now
TakesResult Dummy before after top now = NoneComes before after top now
TakesResult (Fault fault) before after top now = NoneComes before after top now
TakesResult End before after top now = NoneComes before after top now
