-- What the End of a thread does to the parts that its worker took.
use Rattle.std.specs.Prelude.{◌≡◌, ℕ, List, ◌∷◌, []}
use Rattle.hall_parts.specs.HallNames.{ActionId, Setting, IsOfTheList, IsAtPoint, IsResult, label_of, ended_label, Ended, Thread, thread_shown}
use Rattle.hall_parts.specs.HallNames.{result_shown}
use Rattle.hall_slots.specs.Passed.Run.{list_of}
use Rattle.hall_slots.specs.Passed.Table.{Table}
use Rattle.open_periods.specs.Periods.{open_shown}
use Rattle.open_periods.specs.Tables.{noted}
use Rattle.open_periods.specs.declared.period.Period.{Period as OpenPeriod}
use Rattle.thread_frames.specs.declared.next.Next.TheVariants as nexts
use Rattle.hall_slots.specs.Passed.ListChangesEvents.{DidEnd}
use Rattle.thread_actions.specs.Results.{IsGiven}
use Rattle.hall_slots.specs.Passed.Writing.{IsHanded}

-- The thread ended under this name, and left this result; the period has the name.
pub record EndsHere (top : Thread) (before after : OpenPeriod) (name : ActionId) (ended : Ended) : Type 0 where
  pub did : (c : Setting) (is : IsOfTheList c top nexts.End)
      → DidEnd (list_of c) (thread_shown top) name (IsOfTheList.place is) (result_shown ended)
  pub period : (worker : ℕ) → open_shown worker after ≡ noted (open_shown worker before) name 0 []
  pub id : ended.id ≡ Thread.id top
  pub label : ended_label ended ≡ label_of top
  pub func : ended.func ≡ Thread.func top
  pub result : (t : Table) (k : ℕ) → IsAtPoint t k top → IsResult t k ended

-- It ended so above its parent, which was given the result and runs next.
pub record EndsAbove (top : Thread) (under : List Thread) (before : OpenPeriod) (threads : List Thread) (after : OpenPeriod) (name : ActionId)
    : Type 0 where
  pub ended : Ended
  pub ends : EndsHere top before after name ended
  pub given : (parent : Thread) (below : List Thread) → under ≡ parent ∷ below → (now : Thread) × (threads ≡ now ∷ below) × IsGiven ended parent now
      × IsHanded (thread_shown parent) (result_shown ended) (thread_shown now)
