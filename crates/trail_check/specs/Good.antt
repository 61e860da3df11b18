-- Good trails.
use Rattle.std.specs.Prelude.{List, []}
use Rattle.deque_machine.specs.Machine.{Setting, HasEnded}
use Rattle.deque_machine.specs.Moments.{Moment, opening}
use Rattle.deque_machine.specs.Play.{Limits}
use Rattle.deque_machine.specs.Runs.{Pair}
use Rattle.trail_meaning.specs.declared.trail_event.TrailEvent.{TrailEvent}
use Rattle.trail_check.specs.Following.{Follows}

-- Good events: from the opening moment they lead, by this run, to a last moment at which the root has ended.
pub record IsGood (s : Setting) (limits : Limits) (events : List TrailEvent) (run : List Pair) (last : Moment) : Type 0 where
  pub follows : Follows s limits opening events run last
  pub ended : HasEnded s last []
