-- Sequences of steps of the seats of a hall, in whatever order they come, and the run that they make.
use Rattle.std.specs.Prelude.{◌≡◌, ℕ, ◌<◌, None, Some, List, [], ◌∷◌}
use Rattle.dag_order.specs.Births.{root}
use Rattle.deque_machine.specs.Lists.{Each}
use Rattle.deque_machine.specs.Moments.{Moment}
use Rattle.deque_machine.specs.Machine.{Setting}
use Rattle.deque_machine.specs.Play.{Limits}
use Rattle.moment_laws.specs.Passed.Parts.{Thread}
use Rattle.hall_machine.specs.Values.{Value, End, hall_of}
use Rattle.hall_machine.specs.Steps.{Step, Leads}
use Rattle.hall_machine.specs.Rows.{IsFirst}
use Rattle.hall_machine.specs.Views.{fresh}
use Rattle.hall_machine.specs.State.{RunningState, GoesOn, HallLaw}
use Rattle.hall_machine.specs.Closing.{IsBounded, GivesOneRun}
use Rattle.hall_interleavings.specs.Events.{Snapshot, IsEvent}
use Rattle.hall_interleavings.specs.Others.{IsOther}

-- A hall that begins: the root is alone in it and has done nothing, and one seat, of this worker, has all places.
pub record IsBeginning (s : Setting) (b : Snapshot) : Type 0 where
  pub thread : Thread
  pub first : IsFirst b.hall thread
  pub is_root : thread.id ≡ root
  pub label : thread.label ≡ []
  pub done : thread.done ≡ 0
  pub children : thread.children ≡ []
  pub words : thread.words ≡ 0
  pub worker : ℕ
  pub is_worker : worker < s.workers
  pub crew : b.hall.list.crew ≡ worker ∷ []
  pub no_end : b.hall.list.kept ≡ None
  pub counted : b.count ≡ 0
  pub views : b.views ≡ fresh worker s.workers ∷ []

-- `Sequence s limits first events now`: from the first snapshot steps of seats, one after another, lead to this one. These events are among
-- them, the newest first. Which seat does the next step, nobody says.
pub data Sequence (s : Setting) (limits : Limits) (first : Snapshot) : List Step → Snapshot → Type 0 where
  begins : Sequence s limits first [] first
  then_event : (events : List Step) (before after : Snapshot) (step : Step) → Sequence s limits first events before
      → IsEvent s before step after
      → Sequence s limits first (step ∷ events) after
  then_other : (events : List Step) (before after : Snapshot) → Sequence s limits first events before → IsOther s limits before after
      → Sequence s limits first events after

-- A snapshot shows the moment to which these events lead. The hall is in a running state, so its law holds of each list of slots that shows
-- it. A run of the machine reaches the moment, which is lawful, and the words in use are within the bound; and if it is closed now, it
-- gives the books and the moves of this run.
pub record ShowsMoment (s : Setting) (limits : Limits) (b : Snapshot) (events : List Step) (m : Moment) (leads : Leads s events m)
    : Type 0 where
  pub state : RunningState s limits b.hall events m leads b.count b.views
  pub law : (shown : List Value) → hall_of shown ≡ b.hall → HallLaw s limits shown b.count b.views
  pub bounded : IsBounded s b.hall events m
  pub closed : (end : End) → Each (λ place. place.owner ≡ None) b.hall.list.places → b.hall.list.kept ≡ Some end
      → GivesOneRun s limits b.hall events m leads b.views end

-- Each snapshot of a sequence shows a moment of one run: the last one that to which all events lead, and each earlier one that to which
-- those lead that had come by then.
abbrev pub EachShows : {s : Setting} {limits : Limits} {first : Snapshot} {events : List Step} {now : Snapshot}
    → Sequence s limits first events now
    → (m : Moment) → Leads s events m → Type 0
EachShows {s} {limits} {first} {events} {now} begins m leads = ShowsMoment s limits first [] m leads
EachShows {s} {limits} {first} {events} {now} (then_event earlier before after step sequence is) m leads =
    ShowsMoment s limits after (step ∷ earlier) m leads × EachShows sequence leads.0 leads.1
EachShows {s} {limits} {first} {events} {now} (then_other earlier before after sequence is) m leads =
    ShowsMoment s limits after earlier m leads × EachShows sequence m leads

-- However the steps of the seats are interleaved, the hall shows at each time a moment of one run, whose events are theirs.
abbrev pub SeatsMakeOneRun : Setting → Type 0
SeatsMakeOneRun s = (limits : Limits) (first now : Snapshot) (events : List Step) → IsBeginning s first
    → (sequence : Sequence s limits first events now) → (m : Moment) × (leads : Leads s events m) × EachShows sequence m leads

-- one event leads from a running state to a running state, at the moment after it
abbrev pub EventsGoOn : Setting → Type 0
EventsGoOn s = (limits : Limits) (b after : Snapshot) (step : Step) (events : List Step) (m : Moment) (leads : Leads s events m)
    → RunningState s limits b.hall events m leads b.count b.views → IsEvent s b step after
    → GoesOn s limits after.hall events m leads step after.count after.views

-- and any other step to a running state at the same moment
abbrev pub OthersStay : Setting → Type 0
OthersStay s = (limits : Limits) (b after : Snapshot) (events : List Step) (m : Moment) (leads : Leads s events m)
    → RunningState s limits b.hall events m leads b.count b.views → IsOther s limits b after
    → RunningState s limits after.hall events m leads after.count after.views
