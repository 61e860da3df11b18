use Rattle.std.proofs.Common.{◌≡◌, ◌++◌, length, map}
use Rattle.std.specs.List.{concat}
use Rattle.containers.specs.BoundedList.{entries}
use Rattle.trail_meaning.specs.Ranges.{FitEvents}
use Rattle.trail_text.specs.TrailText.{event_line}
use Rattle.trail_text.proofs.reading.read_events.Given as goal

-- the bytes are the lines of the events so far, and the rest
abbrev pub invariant-events : goal.invariant-events
invariant-events l =
    (l.bytes ≡ concat (map event_line (entries l.events)) ++ l.rest) × FitEvents l.p (entries l.events)

abbrev pub decreases-events : goal.decreases-events
decreases-events l = length l.rest
