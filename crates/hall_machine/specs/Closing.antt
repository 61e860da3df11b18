-- What a hall gives that is closed, and what its law says of it as a whole.
use Rattle.std.specs.Prelude.{◌≡◌, ◌≢◌, ℕ, ◌<◌, false, None, Some, List, [], ◌∷◌, length, pos, ◌≤ℤ◌, slice_get}
use Rattle.depth_first_list.specs.Passed.Births.{root}
use Rattle.deque_machine.specs.Lists.{Each}
use Rattle.deque_machine.specs.Books.{IsPrefix, periods_ahead, periods_marked, bound}
use Rattle.deque_machine.specs.Moments.{Moment, opening, done_at}
use Rattle.deque_machine.specs.Machine.{Setting}
use Rattle.deque_machine.specs.LawfulOrder.{IsLawful}
use Rattle.deque_machine.specs.Play as play
use Rattle.deque_machine.specs.Play.{Limits}
use Rattle.deque_machine.specs.Runs.{Reaches, moves, high_water_mark}
use Rattle.moment_laws.specs.Passed.Telling.{Tell}
use Rattle.moment_laws.specs.Passed.Parts.{IsKept}
use Rattle.moment_laws.specs.Moves.{AreMovesOf}
use Rattle.moment_laws.specs.Passed.Parts.{Thread}
use Rattle.hall_machine.specs.Values.{ListShown, Hall, End, finished, stopped, Stop, Value, hall_of}
use Rattle.hall_machine.specs.Steps.{Step, Leads, run_of}
use Rattle.hall_machine.specs.Rows.{IsFirst}
use Rattle.hall_machine.specs.Views.{View, fresh, joined}
use Rattle.hall_machine.specs.Crew.{HasCauseAmong}
use Rattle.hall_machine.specs.State.{RunningState, IsIn, HallLaw}

-- the law holds where a hall begins, with one seat that has all places
abbrev pub FirstHallStands : Setting → Type 0
FirstHallStands s = (limits : Limits) (shown : List Value) (x : Thread) (worker : ℕ) → IsFirst (hall_of shown) x → x.id ≡ root → x.label ≡ []
    → x.done ≡ 0 → x.children ≡ [] → x.words ≡ 0 → ListShown.crew (Hall.list (hall_of shown)) ≡ worker ∷ [] → ListShown.kept (Hall.list (hall_of shown)) ≡ None
    → worker < s.workers → HallLaw s limits shown 0 (fresh worker s.workers ∷ [])

-- and of slots that hold a hall in its running state, as an event or another step leaves it
abbrev pub StatesMeetTheLaw : Setting → Type 0
StatesMeetTheLaw s = (limits : Limits) (h : Hall) (shown : List Value) (steps : List Step) (m : Moment) (leads : Leads s steps m) (count : ℕ)
    (views : List View) → RunningState s limits h steps m leads count views → hall_of shown ≡ h → HallLaw s limits shown count views

-- A run reaches the moment, which is lawful, and the words in use are within the bound, as is the high-water mark.
pub record IsBounded (s : Setting) (h : Hall) (steps : List Step) (m : Moment) : Type 0 where
  pub reaches : Reaches s opening (run_of steps) m
  pub lawful : IsLawful s m
  pub words : (n : ℕ) → IsPrefix s.list (done_at m) n → pos h.pool.live ≤ℤ bound s.quota s.list (periods_ahead n m.books)
  pub high : high_water_mark s.list (run_of steps) ≤ℤ bound s.quota s.list (periods_marked m.books)

abbrev pub HallsAreBounded : Setting → Type 0
HallsAreBounded s = (limits : Limits) (h : Hall) (steps : List Step) (m : Moment) (leads : Leads s steps m) (count : ℕ) (views : List View)
    → RunningState s limits h steps m leads count views → IsBounded s h steps m

-- A seat with all places is the only one: each other was joined, and where it owns no deque nobody does.
pub record IsAlone (h : Hall) (views : List View) (seat : ℕ) (v : View) : Type 0 where
  pub others : (other : ℕ) (u : View) → other ≢ seat → slice_get views other ≡ Some u → u ≡ joined
  pub unowned : v.deque ≡ None → Each (λ place. place.owner ≡ None) h.list.places

abbrev pub SeatsWithAllAreAlone : Setting → Type 0
SeatsWithAllAreAlone s = (limits : Limits) (h : Hall) (steps : List Step) (m : Moment) (leads : Leads s steps m) (count : ℕ) (views : List View)
    (seat : ℕ) (v : View) → RunningState s limits h steps m leads count views → IsIn views seat v → v.places ≡ s.workers → v.enters ≡ None
    → IsAlone h views seat v

-- A hall that is closed gives the kept end, and the books and the moves of one run: the end has its cause at a moment of it, no give up of it
-- is free where no seat has yielded, and if it has finished, each action was done once and the root's result is kept.
pub record GivesOneRun (s : Setting) (limits : Limits) (h : Hall) (steps : List Step) (m : Moment) (leads : Leads s steps m) (views : List View)
    (end : End) : Type 0 where
  pub reaches : Reaches s opening (run_of steps) m
  pub books : Tell s.quota s.list h.list.closed m.books
  pub moved : AreMovesOf h.list.closed h.pool.moves (moves s.list (run_of steps))
  pub stopped_by : (stop : Stop) → end ≡ stopped stop → HasCauseAmong s limits steps m leads stop
  pub all_done : end ≡ finished → (place : ℕ) → place < length s.list → done_at m place ≡ 1
  pub root_kept : end ≡ finished → IsKept h.list.results root
  pub none_left : end ≡ finished → h.list.places ≡ []
  pub none_free : Each (λ v. v.yielded ≡ false) views → (all : Reaches s opening (run_of steps) m) × play.NoneFree s opening (run_of steps) m all

abbrev pub ClosedGiveOneRun : Setting → Type 0
ClosedGiveOneRun s = (limits : Limits) (h : Hall) (steps : List Step) (m : Moment) (leads : Leads s steps m) (count : ℕ) (views : List View)
    (end : End) → RunningState s limits h steps m leads count views → Each (λ place. place.owner ≡ None) h.list.places → h.list.kept ≡ Some end
    → GivesOneRun s limits h steps m leads views end
