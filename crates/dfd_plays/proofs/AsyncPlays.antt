-- What the play of a core with one ready list comes to is told as the play of the program.
use Rattle.std.proofs.Common.{◌≡◌, ℕ, List, Some, pos, ap, ◌∙◌}
use Rattle.std.proofs.Math.Logic.{∥∥₁_map}
use Rattle.command_line.specs.declared.command.Command.{Command}
use Rattle.dag_order.specs.declared.finish.Finish.{Finish}
use Rattle.depth_first_run.specs.States.{Setting}
use Rattle.deque_machine.specs.Moments.{Moment}
use Rattle.deque_machine.specs.Play.{finished, stopped, arena_full, steps_spent}
use Rattle.deque_machine.specs.Runs.{Pair}
use Rattle.par_tree.specs.Tree.{Program}
use Rattle.async_core.specs.Cores.{IsAt, end_of}
use Rattle.async_core.specs.declared.run.AsyncCore.{AsyncCore}
use Rattle.play_rules.specs.declared.ends.RunEnd.TheVariants.{Finished, Stopped}
use Rattle.play_rules.specs.declared.stop.Stop.{Stop}
use Rattle.play_rules.specs.declared.stop.Stop.TheVariants.{ArenaFull, DequesFull, StepsSpent, OutOfMemory}
use Rattle.dfd_plays.specs.Async.{AsyncMakes, AsyncPlayed, async_terms}
use Rattle.dfd_plays.specs.Peak.{finish_status}
use Rattle.dfd_plays.specs.Play.{Reports, play_setting, seeded_words}
use Rattle.dfd_plays.specs.Stops.{TellsStop}
use Rattle.dfd_plays.specs.declared.status.Status.{Status}

pub finished_makes : (command : Command) (p : Program) (after : AsyncCore) (finish : Finish) (status : Status) (text : List ℕ) →
    AsyncPlayed (play_setting command p) (async_terms command) (seeded_words command.seed) after (Finished finish) →
    end_of after ≡ Some (Finished finish) → status ≡ finish_status finish →
    ((c : Setting) (run : List Pair) (m : Moment) → IsAt c after run m → Reports c run m text) → AsyncMakes command p status text
finished_makes command p after finish status text plays end is reports =
    ∥∥₁_map plays.1 (λ w. (w.later, w.last, finished, w.plays, (is ∙ ap finish_status (w.is_at.finished finish end).1, reports _ w.later w.last w.is_at)))

pub stopped_makes : (command : Command) (p : Program) (after : AsyncCore) (stop : Stop) (status : Status) (text : List ℕ) →
    AsyncPlayed (play_setting command p) (async_terms command) (seeded_words command.seed) after (Stopped stop) →
    TellsStop stop status text → AsyncMakes command p status text
stopped_makes command p after (ArenaFull live asked) status text plays told =
    ∥∥₁_map plays.1 (λ w. (w.later, w.last, stopped (arena_full (pos live) asked), w.plays, told))
stopped_makes command p after (DequesFull deques) status text plays told = absurd plays.1
stopped_makes command p after (StepsSpent limit) status text plays told =
    ∥∥₁_map plays.1 (λ w. (w.later, w.last, stopped (steps_spent limit), w.plays, told))
stopped_makes command p after OutOfMemory status text plays told = absurd told
