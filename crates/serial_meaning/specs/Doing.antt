-- What an action that a thread does by itself changes of it and of the pool.
use Rattle.std.specs.Prelude.{◌≡◌, ℕ, ◌+◌, List, ◌++◌, IsTrue}
use Rattle.dag_order.specs.declared.kind.Kind.{Kind}
use Rattle.dag_order.specs.declared.kind.Kind.TheVariants as kinds
use Rattle.node_table.specs.Table.{Table}
use Rattle.thread_frames.specs.declared.next.Next.{Next}
use Rattle.thread_frames.specs.declared.next.Next.TheVariants.{Fork, Join, Alloc, Release, Dummy, End, Fault}
use Rattle.thread_frames.specs.declared.thread.Thread.{Thread}
use Rattle.thread_frames.specs.Actions.{IsSame, is_there}
use Rattle.thread_frames.specs.Points.{IsAtPoint}
use Rattle.thread_frames.specs.Views.{Child, children_of, newest, done_of, thread_words}

abbrev pub kind_of_next : Next → Kind
kind_of_next Fork = kinds.Fork
kind_of_next (Join child) = kinds.Join
kind_of_next (Alloc words) = kinds.Alloc
kind_of_next (Release words) = kinds.Release
kind_of_next Dummy = kinds.Dummy
kind_of_next (Fault fault) = kinds.Fault
kind_of_next End = kinds.End

-- all but a Fork and an End
abbrev pub DoesAlone : Next → Type 0
DoesAlone Fork = ⊥
DoesAlone (Join child) = Unit {0}
DoesAlone (Alloc words) = Unit {0}
DoesAlone (Release words) = Unit {0}
DoesAlone Dummy = Unit {0}
DoesAlone (Fault fault) = Unit {0}
DoesAlone End = ⊥

-- the child that a Join takes in is delivered
abbrev pub JoinsDelivered : Next → List Child → Type 0
JoinsDelivered (Join child) children = IsTrue (is_there (newest children))
JoinsDelivered other children = Unit {0}

-- The thread has done one action more, and has the same open children but for one that it joined. The words that it has more are those that
-- went out of the pool, and it is at its next point.
pub record ActsAlone (before after : Thread) (live_before live_after : ℕ) : Type 0 where
  pub same : IsSame before after
  pub done : done_of after ≡ done_of before + 1
  pub joined : List Child
  pub children : children_of before ≡ children_of after ++ joined
  pub words : thread_words after + live_before ≡ thread_words before + live_after
  pub point : (t : Table) (k : ℕ) → IsAtPoint t k before → IsAtPoint t k after
