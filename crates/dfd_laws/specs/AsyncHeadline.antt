-- What holds of each play of `async`. Its machine has the list, the quota, the workers and the arena of that of `play`.
use Rattle.std.specs.Prelude.{◌≡◌, ◌≢◌, ◌⊎◌, ℕ, ◌≤◌, List, ◌++◌, map, length, ℤ, pos, ◌≤ℤ◌}
use Rattle.command_line.specs.declared.command.Command.{Command}
use Rattle.depth_first_list.specs.Actions.{Action, peak}
use Rattle.depth_first_list.specs.Facts.{action_at}
use Rattle.depth_first_run.specs.Run.{finish_of_run}
use Rattle.deque_machine.specs.Moments.{Moment, opening, done_at, live_at}
use Rattle.deque_machine.specs.Play.{Ending, finished, stopped, arena_full, words_taken}
use Rattle.deque_machine.specs.Runs.{Pair, places_of}
use Rattle.deque_machine.specs.Books.{IsPrefix, periods_ahead, periods_marked, bound}
use Rattle.deque_machine.specs.Lists.{total}
use Rattle.par_ownership.specs.Accepted.{IsAccepted}
use Rattle.par_tree.specs.Tree.{Program}
use Rattle.ready_machine.specs.PlayLaws.{ReadyCoversNext}
use Rattle.ready_machine.specs.ReadyFronts.{ReadyPlaysOn}
use Rattle.ready_machine.specs.ReadyMachine.{MayReady, ReadyReaches}
use Rattle.ready_machine.specs.ReadyPlay.{ReadyTurn}
use Rattle.run_report.specs.Shown.{ReportShown}
use Rattle.dfd_plays.specs.Answer.{HasRanges}
use Rattle.dfd_plays.specs.Async.{IsAsyncPlay, AsyncMakes, async_terms, async_machine}
use Rattle.dfd_plays.specs.Peak.{finish_status}
use Rattle.dfd_plays.specs.Play.{play_setting, seeded_words}
use Rattle.dfd_plays.specs.declared.status.Status.{Status}
use Rattle.dfd_plays.specs.declared.status.Status.TheVariants.{Done, UserFault, DequesFull}
use Rattle.dfd_laws.specs.Headline.{play_list, BoundStays, IsBoundedReport, StopsLate, OfEach, AllEnd, LastsInArena, LastsInActions}

-- at each moment of each play the words in use are within the bound, the threads are in depth-first order, and no action was done twice
abbrev pub AsyncMomentsAreBounded : Type 0
AsyncMomentsAreBounded = (command : Command) (p : Program) → HasRanges command → IsAccepted p
    → (run : List Pair) (last : Moment) (ending : Ending) → IsAsyncPlay command p run last ending
    → (front rest : List Pair) → run ≡ front ++ rest → BoundStays (ReadyReaches (async_machine command p) opening) command p front last

-- no play ends for want of a place in the list
abbrev pub AsyncListsNeverFill : Type 0
AsyncListsNeverFill = (command : Command) (p : Program) → HasRanges command → IsAccepted p
    → (status : Status) (text : List ℕ) → AsyncMakes command p status text → status ≢ DequesFull

-- each play ends
abbrev pub AsyncPlaysEnd : Type 0
AsyncPlaysEnd = AllEnd IsAsyncPlay

-- a play begins with these events, and its turns have drawn so many words by then
abbrev pub AsyncHasDrawn : Command → Program → List Pair → (drawn : ℕ) → Moment → Type 0
AsyncHasDrawn command p run drawn last =
    ReadyPlaysOn (async_machine command p) (async_terms command).limits (seeded_words command.seed) 0 opening run drawn last

-- an arena with room for the peak and two quotas for each of so many periods stops a play only where more periods would be ahead
abbrev pub AsyncArenasStopLate : Type 0
AsyncArenasStopLate = (command : Command) (p : Program) → HasRanges command → IsAccepted p
    → (run : List Pair) (last : Moment) (live : ℤ) (asked : ℕ) → IsAsyncPlay command p run last (stopped (arena_full live asked))
    → (periods : ℕ) → bound command.k (play_list command p) periods ≤ℤ pos command.arena
    → StopsLate AsyncHasDrawn ReadyTurn MayReady command p run last live asked periods

-- and one with room for all words, or for the bound after the next action, stops none
abbrev pub AsyncArenasSuffice : Type 0
AsyncArenasSuffice = OfEach IsAsyncPlay (LastsInArena ReadyCoversNext)

-- with as many actions as the list has, their limit stops no play
abbrev pub AsyncActionsSuffice : Type 0
AsyncActionsSuffice = OfEach IsAsyncPlay LastsInActions

-- with room for all words that the depth-first list takes and as many actions as it has, a play finishes
abbrev pub AsyncPlaysWithRoomFinish : Type 0
AsyncPlaysWithRoomFinish = (command : Command) (p : Program) → HasRanges command → IsAccepted p
    → (run : List Pair) (last : Moment) (ending : Ending) → IsAsyncPlay command p run last ending
    → total words_taken (play_list command p) ≤ command.arena → length (play_list command p) ≤ command.steps → ending ≡ finished

-- and then it ends well, or with the fault of the program
abbrev pub AsyncStatusesWithRoom : Type 0
AsyncStatusesWithRoom = (command : Command) (p : Program) → HasRanges command → IsAccepted p
    → (status : Status) (text : List ℕ) → AsyncMakes command p status text
    → total words_taken (play_list command p) ≤ command.arena → length (play_list command p) ≤ command.steps
    → status ≡ finish_status (finish_of_run (play_setting command p))

-- What these events did is the first part of the depth-first list, in its order. No period is marked, so none is ahead, and the words in use
-- are at most the depth-first peak.
pub record StaysLow (command : Command) (p : Program) (run : List Pair) (m : Moment) : Type 0 where
  pub as_listed : (rest : List Action) × (play_list command p ≡ map (action_at (play_list command p)) (places_of run) ++ rest)
  pub none_marked : periods_marked m.books ≡ 0
  pub none_ahead : (n : ℕ) → IsPrefix (play_list command p) (done_at m) n → periods_ahead n m.books ≡ 0
  pub low : live_at (play_list command p) m ≤ℤ peak (play_list command p)

-- So it is with one worker at each moment of each play. There is a moment after each first part of its events, by `AsyncMomentsAreBounded`.
abbrev pub AsyncOfOneStaysLow : Type 0
AsyncOfOneStaysLow = (command : Command) (p : Program) → HasRanges command → IsAccepted p → command.p ≡ 1
    → (run : List Pair) (last : Moment) (ending : Ending) → IsAsyncPlay command p run last ending
    → (front rest : List Pair) → run ≡ front ++ rest → (m : Moment) → ReadyReaches (async_machine command p) opening front m
    → StaysLow command p front m

-- The text is a report with the lines and the finish of the depth-first run, no period counted as ahead, and the depth-first peak as the
-- high-water mark.
pub record IsLowReport (command : Command) (p : Program) (text : List ℕ) (shown : ReportShown) : Type 0 where
  pub report : IsBoundedReport command p text shown
  pub none_ahead : shown.ahead ≡ 0
  pub high : pos shown.high ≡ peak (play_list command p)

-- With one worker `async` writes such a report, if no limit stopped the play.
abbrev pub AsyncOfOneReportsThePeak : Type 0
AsyncOfOneReportsThePeak = (command : Command) (p : Program) → HasRanges command → IsAccepted p → command.p ≡ 1
    → (status : Status) (text : List ℕ) → AsyncMakes command p status text → (status ≡ Done) ⊎ (status ≡ UserFault)
    → ∥ ((shown : ReportShown) × IsLowReport command p text shown) ∥₁

-- And an arena with room for the depth-first peak stops no play of one worker.
abbrev pub AsyncOfOneLastsAtThePeak : Type 0
AsyncOfOneLastsAtThePeak = (command : Command) (p : Program) → HasRanges command → IsAccepted p → command.p ≡ 1
    → (run : List Pair) (last : Moment) (ending : Ending) → IsAsyncPlay command p run last ending
    → peak (play_list command p) ≤ℤ pos command.arena → (live : ℤ) (asked : ℕ) → ending ≢ stopped (arena_full live asked)
