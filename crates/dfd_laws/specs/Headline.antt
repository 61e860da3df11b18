-- What holds of each play of a command. What is the same for plays with deques and with a ready list has the kind of play as an argument.
use Rattle.std.specs.Prelude.{◌≡◌, ◌≢◌, ◌⊎◌, ℕ, ◌+◌, ◌*◌, ◌<◌, ◌≤◌, List, ◌++◌, length, ℤ, pos, ◌≤ℤ◌}
use Rattle.command_line.specs.declared.command.Command.{Command}
use Rattle.depth_first_list.specs.Actions.{Action}
use Rattle.depth_first_list.specs.Facts.{words_at}
use Rattle.depth_first_run.specs.Run.{whole, lines_of, list_of, finish_of_run}
use Rattle.deque_machine.specs.Machine.{Setting, Event, does, May}
use Rattle.deque_machine.specs.Moments.{Moment, opening, done_at, live_at, threads_in, Rises}
use Rattle.deque_machine.specs.Completeness.{CoversNext}
use Rattle.deque_machine.specs.Fronts.{PlaysOn}
use Rattle.deque_machine.specs.Play.{Ending, finished, stopped, arena_full, steps_spent, deques_full, Fills, Turn, words_taken, one_if_fork}
use Rattle.deque_machine.specs.Runs.{Pair, Reaches}
use Rattle.deque_machine.specs.Books.{IsPrefix, periods_ahead, periods_marked, bound}
use Rattle.deque_machine.specs.Lists.{total}
use Rattle.par_ownership.specs.Accepted.{IsAccepted}
use Rattle.par_tree.specs.Tree.{Program}
use Rattle.run_report.specs.Shown.{ReportShown}
use Rattle.run_report.specs.Texts.{report_text, summary_text}
use Rattle.run_report.specs.declared.summary.Summary.{Summary}
use Rattle.dfd_plays.specs.Answer.{HasRanges}
use Rattle.dfd_plays.specs.Make.{MakeMakes}
use Rattle.dfd_plays.specs.Peak.{finish_status}
use Rattle.dfd_plays.specs.Play.{IsPlay, play_terms, play_setting, play_machine, seeded_words}
use Rattle.dfd_plays.specs.declared.status.Status.{Status}
use Rattle.dfd_plays.specs.declared.status.Status.TheVariants.{Done, UserFault, DequesFull}

-- the actions of the depth-first run of a program with the quota of a command
abbrev pub play_list : Command → Program → List Action
play_list command p = list_of (play_setting command p)

-- The words in use are at most the depth-first peak, and two quotas for each period that by then ran an action ahead of the prefix; the
-- threads in the deques stand in depth-first order, from left to right and from top to bottom; and no action was done twice.
pub record BoundHolds (command : Command) (p : Program) (m : Moment) : Type 0 where
  pub bounded : (n : ℕ) → IsPrefix (play_list command p) (done_at m) n
      → live_at (play_list command p) m ≤ℤ bound command.k (play_list command p) (periods_ahead n m.books)
  pub in_order : Rises (threads_in m.deques)
  pub once : (place : ℕ) → done_at m place ≤ 1

-- So it is at each moment of each play, whatever events came up to there, and whatever comes then. There is a moment after each front of
-- the events; and the periods that are marked at the end of the play are at least those ahead there.
pub record BoundStays (Reached : List Pair → Moment → Type 0) (command : Command) (p : Program) (front : List Pair) (last : Moment) : Type 0 where
  pub moment : Moment
  pub reached : Reached front moment
  pub each : (m : Moment) → Reached front m → BoundHolds command p m
  pub told : (m : Moment) (n : ℕ) → Reached front m → IsPrefix (play_list command p) (done_at m) n
      → periods_ahead n m.books ≤ periods_marked last.books

abbrev pub MomentsAreBounded : Type 0
MomentsAreBounded = (command : Command) (p : Program) → HasRanges command → IsAccepted p
    → (run : List Pair) (last : Moment) (ending : Ending) → IsPlay command p run last ending
    → (front rest : List Pair) → run ≡ front ++ rest → BoundStays (Reaches (play_machine command p) opening) command p front last

-- The text is a report with the lines and the finish of the depth-first run, and with a high-water mark of at most the peak and two quotas
-- for each marked period.
pub record IsBoundedReport (command : Command) (p : Program) (text : List ℕ) (shown : ReportShown) : Type 0 where
  pub is : text ≡ report_text shown
  pub lines : shown.lines ≡ lines_of (whole (play_setting command p)).items
  pub finish : shown.finish ≡ finish_of_run (play_setting command p)
  pub bounded : pos shown.high ≤ℤ bound command.k (play_list command p) shown.ahead

-- What is made of a program whose play came to the end of its root is such a report, with a status by the fault of the depth-first run.
abbrev pub ReportsAreBounded : (makes : Command → Program → Status → List ℕ → Type 0) → Type 0
ReportsAreBounded makes = (command : Command) (p : Program) → HasRanges command → IsAccepted p
    → (status : Status) (text : List ℕ) → makes command p status text → (status ≡ Done) ⊎ (status ≡ UserFault)
    → (status ≡ finish_status (finish_of_run (play_setting command p))) × ∥ ((shown : ReportShown) × IsBoundedReport command p text shown) ∥₁

-- The text is a summary with a high-water mark of at most the peak and two quotas for each marked period.
pub record IsBoundedSummary (command : Command) (p : Program) (text : List ℕ) (shown : Summary) : Type 0 where
  pub is : text ≡ summary_text shown
  pub bounded : pos shown.high ≤ℤ bound command.k (play_list command p) shown.ahead

-- and a play of `make` that came to the end of its root is summed up so
abbrev pub SummariesAreBounded : Type 0
SummariesAreBounded = (command : Command) (bytes : List ℕ) (p : Program) → HasRanges command → IsAccepted p
    → (status : Status) (text : List ℕ) → MakeMakes command bytes p status text → (status ≡ Done) ⊎ (status ≡ UserFault)
    → ∥ ((shown : Summary) × IsBoundedSummary command p text shown) ∥₁

-- a play of a command begins with these events, and its turns have drawn so many words by then
abbrev pub HasDrawn : Command → Program → List Pair → (drawn : ℕ) → Moment → Type 0
HasDrawn command p run drawn last =
    PlaysOn (play_machine command p) (play_terms command).limits (seeded_words command.seed) 0 opening run drawn last

-- At a moment of a run an action of a worker asks for so many words beside so many in use, which the arena has no room for. It might come. After
-- each action that might come there and for which the arena has no room, more than so many periods would be ahead. Which may come is by the rules
-- of the kind of run.
pub record FillsLate (MayDo : Setting → Moment → ℕ → Event → Moment → Type 0) (command : Command) (p : Program) (m : Moment) (worker place : ℕ)
    (live : ℤ) (asked periods : ℕ) : Type 0 where
  pub live_is : live ≡ live_at (play_list command p) m
  pub asked_is : asked ≡ words_at (play_list command p) place
  pub fills : Fills (play_machine command p) (play_terms command).limits m place
  pub after : Moment
  pub may : MayDo (play_machine command p) m worker (does place) after
  pub more_ahead : (other next : ℕ) (later : Moment) → Fills (play_machine command p) (play_terms command).limits m next
      → MayDo (play_machine command p) m other (does next) later
      → (n : ℕ) → IsPrefix (play_list command p) (done_at later) n → periods < periods_ahead n later.books

-- So it is at the last moment of a play with the action of the turn, after the words that its turns drew. How many words are drawn, which event
-- a turn is and which may come is by the rules of the kind of play.
pub record StopsLate (Drew : Command → Program → List Pair → ℕ → Moment → Type 0)
    (IsTurn : Setting → (ℕ → ℕ) → ℕ → Moment → Pair → Type 0) (MayDo : Setting → Moment → ℕ → Event → Moment → Type 0)
    (command : Command) (p : Program) (run : List Pair) (last : Moment) (live : ℤ) (asked periods : ℕ) : Type 0 where
  pub drawn : ℕ
  pub drew : Drew command p run drawn last
  pub worker : ℕ
  pub place : ℕ
  pub turn : IsTurn (play_machine command p) (seeded_words command.seed) drawn last (record { worker = worker; event = does place })
  pub late : FillsLate MayDo command p last worker place live asked periods

-- So an arena with room for the peak and two quotas for each of so many periods stops a play.
abbrev pub ArenasStopLate : Type 0
ArenasStopLate = (command : Command) (p : Program) → HasRanges command → IsAccepted p
    → (run : List Pair) (last : Moment) (live : ℤ) (asked : ℕ) → IsPlay command p run last (stopped (arena_full live asked))
    → (periods : ℕ) → bound command.k (play_list command p) periods ≤ℤ pos command.arena
    → StopsLate HasDrawn Turn May command p run last live asked periods

-- a fact of each play of each command, of this kind of play, by its last moment and its ending
abbrev pub OfEach : (IsRun : Command → Program → List Pair → Moment → Ending → Type 0) → (Command → Program → Moment → Ending → Type 0) → Type 0
OfEach IsRun Fact = (command : Command) (p : Program) → HasRanges command → IsAccepted p
    → (run : List Pair) (last : Moment) (ending : Ending) → IsRun command p run last ending → Fact command p last ending

-- Each command has a play of this kind, and it ends: a play has at most three events for each action of the depth-first run, and one for each
-- worker.
pub record HasShortPlays (IsRun : Command → Program → List Pair → Moment → Ending → Type 0) (command : Command) (p : Program) : Type 0 where
  pub there_is_one : (run : List Pair) × (last : Moment) × (ending : Ending) × IsRun command p run last ending
  pub each_is_short : (run : List Pair) (last : Moment) (ending : Ending) → IsRun command p run last ending
      → length run ≤ 3 * length (play_list command p) + command.p

abbrev pub AllEnd : (IsRun : Command → Program → List Pair → Moment → Ending → Type 0) → Type 0
AllEnd IsRun = (command : Command) (p : Program) → HasRanges command → IsAccepted p → HasShortPlays IsRun command p

abbrev pub AllPlaysEnd : Type 0
AllPlaysEnd = AllEnd IsPlay

-- The arena stops no play where it has room for all words that the depth-first list takes, or where at the last moment it has room for the
-- peak and two quotas for each period ahead, with the next Alloc or Fork counted, as `Covers` says.
abbrev pub LastsInArena : (Covers : Setting → (capacity : ℕ) → Moment → Type 0) → Command → Program → Moment → Ending → Type 0
LastsInArena Covers command p last ending =
    (total words_taken (play_list command p) ≤ command.arena) ⊎ Covers (play_machine command p) command.arena last
    → (live : ℤ) (asked : ℕ) → ending ≢ stopped (arena_full live asked)

abbrev pub ArenasSuffice : Type 0
ArenasSuffice = OfEach IsPlay (LastsInArena CoversNext)

-- with as many actions as the list has, their limit stops no play
abbrev pub LastsInActions : Command → Program → Moment → Ending → Type 0
LastsInActions command p last ending =
    length (play_list command p) ≤ command.steps → (limit : ℕ) → ending ≢ stopped (steps_spent limit)

abbrev pub PlayActionsSuffice : Type 0
PlayActionsSuffice = OfEach IsPlay LastsInActions

-- and with more deques than the list has Forks, their limit stops none
abbrev pub LastsInDeques : Command → Program → Moment → Ending → Type 0
LastsInDeques command p last ending =
    total one_if_fork (play_list command p) < command.deques → (deques : ℕ) → ending ≢ stopped (deques_full deques)

abbrev pub PlayDequesSuffice : Type 0
PlayDequesSuffice = OfEach IsPlay LastsInDeques

-- With room for all words and all actions, what is made of a program is that it ended well, or with its fault, or at the limit of deques.
abbrev pub StatusesWithRoom : (makes : Command → Program → Status → List ℕ → Type 0) → Type 0
StatusesWithRoom makes = (command : Command) (p : Program) → HasRanges command → IsAccepted p
    → (status : Status) (text : List ℕ) → makes command p status text
    → total words_taken (play_list command p) ≤ command.arena → length (play_list command p) ≤ command.steps
    → (status ≡ Done) ⊎ ((status ≡ UserFault) ⊎ (status ≡ DequesFull))

-- With room for all words that the depth-first list takes, as many actions as it has, and more deques than it has Forks, a play finishes.
abbrev pub PlaysWithRoomFinish : Type 0
PlaysWithRoomFinish = (command : Command) (p : Program) → HasRanges command → IsAccepted p
    → (run : List Pair) (last : Moment) (ending : Ending) → IsPlay command p run last ending
    → total words_taken (play_list command p) ≤ command.arena → length (play_list command p) ≤ command.steps
    → total one_if_fork (play_list command p) < command.deques → ending ≡ finished
