-- What the command `run` makes of a program.
use Rattle.std.specs.Prelude.{ℕ, List}
use Rattle.command_line.specs.declared.command.Command.{Command}
use Rattle.deque_machine.specs.Moments.{Moment}
use Rattle.deque_machine.specs.Play.{Ending}
use Rattle.deque_machine.specs.Runs.{Pair}
use Rattle.deque_machine.specs.Terms.{Terms}
use Rattle.hall_machine.specs.Runs.{IsThreadRun}
use Rattle.par_tree.specs.Tree.{Program}
use Rattle.dfd_plays.specs.Play.{play_machine, play_terms, TellsRun, Reports}
use Rattle.dfd_plays.specs.declared.status.Status.{Status}

-- A run that the workers of a command, in threads, may come to with a program: the machine of `play` takes these events from its opening
-- moment to this last moment, in an order that no word picks, and the run ends so.
abbrev pub IsRunByThreads : Command → Program → List Pair → Moment → Ending → Type 0
IsRunByThreads command p run last ending = IsThreadRun (play_machine command p) (Terms.limits (play_terms command)) run last ending

-- what `run` makes of a program: a report of such a run
abbrev pub RunMakes : Command → Program → Status → List ℕ → Type 0
RunMakes = TellsRun IsRunByThreads Reports
