-- What holds of each run by threads. Its machine is that of `play`, and which of its events comes next is left open.
use Rattle.std.specs.Prelude.{◌≡◌, ◌≢◌, ◌⊎◌, ℕ, ℤ, pos, ◌<◌, ◌≤◌, ◌≤ℤ◌, List, ◌++◌}
use Rattle.command_line.specs.declared.command.Command.{Command}
use Rattle.deque_machine.specs.Books.{bound}
use Rattle.deque_machine.specs.Machine.{does, May}
use Rattle.deque_machine.specs.Moments.{Moment, opening}
use Rattle.deque_machine.specs.Lists.{total}
use Rattle.deque_machine.specs.Completeness.{CoversNext}
use Rattle.deque_machine.specs.Play.{Ending, stopped, arena_full, Wants, words_taken}
use Rattle.deque_machine.specs.Runs.{Pair, Reaches}
use Rattle.par_ownership.specs.Accepted.{IsAccepted}
use Rattle.par_tree.specs.Tree.{Program}
use Rattle.dfd_plays.specs.Answer.{HasRanges}
use Rattle.dfd_plays.specs.Play.{play_machine}
use Rattle.dfd_plays.specs.Threads.{IsRunByThreads}
use Rattle.dfd_laws.specs.Headline.{play_list, BoundStays, FillsLate, LastsInDeques, OfEach}

-- At some moment on the way of a run the arena has no room for an action that the rules want of a worker, and more than so many periods would be
-- ahead after it. Other workers may do events after it.
pub record RunStopsLate (command : Command) (p : Program) (run : List Pair) (live : ℤ) (asked periods : ℕ) : Type 0 where
  pub front : List Pair
  pub rest : List Pair
  pub is : run ≡ front ++ rest
  pub moment : Moment
  pub reached : Reaches (play_machine command p) opening front moment
  pub worker : ℕ
  pub below : worker < command.p
  pub word : ℕ
  pub place : ℕ
  pub wants : Wants (play_machine command p) moment worker word (does place)
  pub late : FillsLate May command p moment worker place live asked periods

-- So an arena with room for the peak and two quotas for each of so many periods stops a run.
abbrev pub RunArenasStopLate : Type 0
RunArenasStopLate = (command : Command) (p : Program) → HasRanges command → IsAccepted p
    → (run : List Pair) (last : Moment) (live : ℤ) (asked : ℕ) → IsRunByThreads command p run last (stopped (arena_full live asked))
    → (periods : ℕ) → bound command.k (play_list command p) periods ≤ℤ pos command.arena → RunStopsLate command p run live asked periods

-- the arena has room for the bound after each action that may come next, at each moment on the way of a run
abbrev pub CoversOnTheWay : Command → Program → List Pair → Type 0
CoversOnTheWay command p run = (front rest : List Pair) → run ≡ front ++ rest → (m : Moment) → Reaches (play_machine command p) opening front m
    → CoversNext (play_machine command p) command.arena m

-- With room for all words that the depth-first list takes, or for the bound at each moment on the way, the arena stops no run.
abbrev pub RunArenasSuffice : Type 0
RunArenasSuffice = (command : Command) (p : Program) → HasRanges command → IsAccepted p
    → (run : List Pair) (last : Moment) (ending : Ending) → IsRunByThreads command p run last ending
    → (total words_taken (play_list command p) ≤ command.arena) ⊎ CoversOnTheWay command p run
    → (live : ℤ) (asked : ℕ) → ending ≢ stopped (arena_full live asked)

-- and with more deques than the list has Forks, their limit stops none
abbrev pub RunDequesSuffice : Type 0
RunDequesSuffice = OfEach IsRunByThreads LastsInDeques

-- after each first part of its events the words in use are within the bound, the threads are in depth-first order, and no action was done twice
abbrev pub RunMomentsAreBounded : Type 0
RunMomentsAreBounded = (command : Command) (p : Program) → HasRanges command → IsAccepted p
    → (run : List Pair) (last : Moment) (ending : Ending) → IsRunByThreads command p run last ending
    → (front rest : List Pair) → run ≡ front ++ rest → BoundStays (Reaches (play_machine command p) opening) command p front last
