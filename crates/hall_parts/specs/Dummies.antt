-- What a Dummy does to the parts that its worker took.
use Rattle.std.specs.Prelude.{◌≡◌, ℕ, List, ◌∷◌, []}
use Rattle.hall_parts.specs.HallNames.{ActionId, Setting, IsOfTheList, Thread, thread_shown}
use Rattle.hall_slots.specs.Passed.Run.{list_of}
use Rattle.open_periods.specs.Periods.{open_shown}
use Rattle.open_periods.specs.Tables.{noted}
use Rattle.open_periods.specs.declared.period.Period.{Period as OpenPeriod}
use Rattle.thread_frames.specs.declared.next.Next.TheVariants as nexts
use Rattle.thread_actions.specs.Acts.{StaysAtPoint}
use Rattle.hall_slots.specs.Passed.ListChangesEvents.{DidDummy}

-- the thread did a Dummy of this name, and is on top of the others at its next point; the period has the name
pub record DummyHere (top : Thread) (under : List Thread) (before : OpenPeriod) (threads : List Thread) (after : OpenPeriod) (name : ActionId)
    : Type 0 where
  pub now : Thread
  pub threads_are : threads ≡ now ∷ under
  pub did : (c : Setting) (k : ℕ) (is : IsOfTheList c top nexts.Dummy)
      → DidDummy k (list_of c) (thread_shown top) (thread_shown now) name 0 (IsOfTheList.place is)
  pub period : (worker : ℕ) → open_shown worker after ≡ noted (open_shown worker before) name 0 []
  pub point : StaysAtPoint top now
