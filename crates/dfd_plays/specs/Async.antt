-- What the command `async` makes of a program.
use Rattle.std.specs.Prelude.{ℕ, ◌+◌, ◌/◌, List, []}
use Rattle.language_limits.specs.declared.TheConstants.{RECORD_WORDS}
use Rattle.command_line.specs.declared.command.Command.{Command}
use Rattle.depth_first_run.specs.States.{Setting}
use Rattle.deque_machine.specs.Machine as machine
use Rattle.deque_machine.specs.Moments.{Moment, opening}
use Rattle.deque_machine.specs.Play.{Ending}
use Rattle.deque_machine.specs.Runs.{Pair}
use Rattle.deque_machine.specs.Terms.{Terms, machine_of, given_terms}
use Rattle.par_tree.specs.Tree.{Program}
use Rattle.async_core.specs.Plays.{PlaysTo}
use Rattle.async_core.specs.declared.run.AsyncCore.{AsyncCore}
use Rattle.ready_machine.specs.ReadyPlay.{ReadyPlays}
use Rattle.play_rules.specs.declared.ends.RunEnd.{RunEnd}
use Rattle.dfd_plays.specs.Play.{play_setting, seeded_words, TellsRun, Reports}
use Rattle.dfd_plays.specs.declared.status.Status.{Status}

-- The workers of a command, and its limits of words and actions. The list has a place for one thread, and for each record of 16 words that
-- the arena has room for.
abbrev pub async_terms : Command → Terms
async_terms command = given_terms command.p command.arena command.steps (1 + command.arena / RECORD_WORDS)

abbrev pub async_machine : Command → Program → machine.Setting
async_machine command p = machine_of (play_setting command p) (async_terms command)

-- The play of a program by these workers with one ready list, with these words: from the opening on the events of the run come, one after
-- the other, up to a last moment and an ending.
abbrev pub IsAsyncPlay : Command → Program → List Pair → Moment → Ending → Type 0
IsAsyncPlay command p run last ending =
    ReadyPlays (async_machine command p) (async_terms command).limits (seeded_words command.seed) 0 opening run last ending

-- what `async` makes of a program: a report of its play
abbrev pub AsyncMakes : Command → Program → Status → List ℕ → Type 0
AsyncMakes = TellsRun IsAsyncPlay Reports

-- what a core has played for a command, from the opening on, with these words, whatever words come after it
abbrev pub AsyncPlayed : Setting → Terms → (words : ℕ → ℕ) → (after : AsyncCore) → RunEnd → Type 0
AsyncPlayed c terms words after end = (coming : ℕ → ℕ) × PlaysTo c terms words coming after [] opening end
