-- What a Join does to the parts that its worker took.
use Rattle.std.specs.Prelude.{◌≡◌, ℕ, List, ◌∷◌, []}
use Rattle.hall_parts.specs.HallNames.{ActionId, ThreadId, Setting, IsOfTheList, Thread}
use Rattle.hall_slots.specs.Passed.Facts.{words_at}
use Rattle.hall_slots.specs.Passed.Run.{list_of}
use Rattle.open_periods.specs.Periods.{open_shown}
use Rattle.open_periods.specs.Tables.{noted}
use Rattle.open_periods.specs.declared.period.Period.{Period as OpenPeriod}
use Rattle.thread_frames.specs.declared.next.Next.TheVariants as nexts
use Rattle.thread_actions.specs.Acts.{ActedJoin, StaysAtPoint}

-- the thread joined its newest open child under this name, and is on top of the others at its next point; the period has the name
pub record JoinsHere (top : Thread) (under : List Thread) (before : OpenPeriod) (threads : List Thread) (after : OpenPeriod) (name : ActionId)
    : Type 0 where
  pub now : Thread
  pub threads_are : threads ≡ now ∷ under
  pub did : ActedJoin top now name
  pub period : (worker : ℕ) → open_shown worker after ≡ noted (open_shown worker before) name 0 []
  pub point : StaysAtPoint top now

-- and the Join releases no words, by the list
abbrev pub ReleasesNothing : Thread → Type 0
ReleasesNothing top = (c : Setting) (child : ThreadId) (is : IsOfTheList c top (nexts.Join child)) → words_at (list_of c) (IsOfTheList.place is) ≡ 0
