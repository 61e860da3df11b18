-- What the command `play` makes of a program.
use Rattle.std.specs.Prelude.{◌≡◌, ℕ, List, length, pos}
use Rattle.rand_core.specs.Pcg32Seed.{pcg32_seed}
use Rattle.rand_pcg.specs.Pcg.{pcg32_of_seed}
use Rattle.command_line.specs.declared.command.Command.{Command}
use Rattle.deque_machine.specs.Terms.{Terms, machine_of, given_terms}
use Rattle.depth_first_run.specs.States.{Setting}
use Rattle.depth_first_run.specs.Run.{whole, lines_of, list_of, finish_of_run}
use Rattle.deque_machine.specs.Machine as machine
use Rattle.deque_machine.specs.Moments.{Moment, opening}
use Rattle.deque_machine.specs.Play.{Stop, arena_full, steps_spent, deques_full, Ending, finished, stopped, Plays}
use Rattle.deque_machine.specs.Runs.{Pair, high_water_mark}
use Rattle.deque_machine.specs.Books.{periods_marked}
use Rattle.par_tree.specs.Tree.{Program}
use Rattle.run_report.specs.Texts.{report_text}
use Rattle.serial_meaning.specs.Settings.{setting_of}
use Rattle.dfd_plays.specs.Messages.{spent_text, arena_text, deques_text}
use Rattle.dfd_plays.specs.Peak.{finish_status}
use Rattle.dfd_plays.specs.PcgChoices.{coming_output}
use Rattle.dfd_plays.specs.declared.status.Status.{Status}
use Rattle.dfd_plays.specs.declared.status.Status.TheVariants.{StepsSpent, ArenaFull, DequesFull}

-- the words that pick who moves and whom a thief robs: the outputs of the generator that a number seeds
abbrev pub seeded_words : (seed : ℕ) → ℕ → ℕ
seeded_words seed = coming_output (record { generator = pcg32_of_seed (pcg32_seed 16 seed) })

-- the workers of a command, and its limits of words, actions and deques
abbrev pub play_terms : Command → Terms
play_terms command = given_terms command.p command.arena command.steps command.deques

-- a program with the quota of a command
abbrev pub play_setting : Command → Program → Setting
play_setting command p = setting_of p command.k

-- the machine that plays it: its depth-first list, the quota and the workers
abbrev pub play_machine : Command → Program → machine.Setting
play_machine command p = machine_of (play_setting command p) (play_terms command)

-- The play of a program by these workers, with these words: from the opening on the events of the run come, one after the other, up to a
-- last moment and an ending.
abbrev pub IsPlay : Command → Program → List Pair → Moment → Ending → Type 0
IsPlay command p run last ending =
    Plays (play_machine command p) (play_terms command).limits (seeded_words command.seed) 0 opening run last ending

-- The report of a run with this last moment: the lines and the finish of the depth-first run, how many periods were begun and how many of
-- them were marked ahead, and the high-water mark of the run.
abbrev pub Reports : Setting → List Pair → Moment → List ℕ → Type 0
Reports c run last text =
    (high : ℕ) × ((pos high ≡ high_water_mark (list_of c) run) ×
    (text ≡ report_text (record {
      lines = lines_of (whole c).items;
      finish = finish_of_run c;
      periods = length last.books;
      ahead = periods_marked last.books;
      high = high;
    })))

-- the status of a play that was stopped, and its line
abbrev pub stop_status : Stop → Status
stop_status (arena_full live asked) = ArenaFull
stop_status (steps_spent limit) = StepsSpent
stop_status (deques_full deques) = DequesFull

abbrev pub stop_text : Stop → List ℕ
stop_text (arena_full live asked) = arena_text live asked
stop_text (steps_spent limit) = spent_text limit
stop_text (deques_full deques) = deques_text deques

-- What is told of a play with this ending: of one that ended what is to be told of its run, with a status by the fault of the depth-first
-- run; and of one that was stopped the line of the stop.
abbrev pub TellsEnding : (tells : List Pair → Moment → List ℕ → Type 0) → Setting → List Pair → Moment → Ending → Status → List ℕ → Type 0
TellsEnding tells c run last finished status text = (status ≡ finish_status (finish_of_run c)) × tells run last text
TellsEnding tells c run last (stopped stop) status text = (status ≡ stop_status stop) × (text ≡ stop_text stop)

-- a run of a program, of this kind, comes to some ending, and this is told of it
abbrev pub TellsRun : (IsRun : Command → Program → List Pair → Moment → Ending → Type 0)
    → (tells : Setting → List Pair → Moment → List ℕ → Type 0) → Command → Program → Status → List ℕ → Type 0
TellsRun IsRun tells command p status text =
    ∥ ((run : List Pair) × (last : Moment) × (ending : Ending) × IsRun command p run last ending
    × TellsEnding (tells (play_setting command p)) (play_setting command p) run last ending status text) ∥₁

-- so it is told of the play of a program
abbrev pub TellsPlay : (tells : Setting → List Pair → Moment → List ℕ → Type 0) → Command → Program → Status → List ℕ → Type 0
TellsPlay = TellsRun IsPlay

-- what `play` makes of a program: a report of its play
abbrev pub PlayMakes : Command → Program → Status → List ℕ → Type 0
PlayMakes = TellsPlay Reports
