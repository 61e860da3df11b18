use Rattle.std.proofs.Common.{[], take}
use Rattle.containers.specs.BoundedList.{entries}
use Rattle.deque_machine.specs.Machine.{Setting}
use Rattle.deque_machine.specs.Play.{Limits}
use Rattle.trail_check.specs.Judging.{HasFollowed}
use Rattle.trail_check.proofs.following.follow_all.Given as goal

-- the first events were followed
abbrev pub invariant-events : goal.invariant-events
invariant-events l = (s : Setting) (limits : Limits) → HasFollowed s limits [] l.initial.checker → HasFollowed s limits (take l.at (entries l.events)) l.checker
