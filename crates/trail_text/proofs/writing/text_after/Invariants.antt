use Rattle.std.proofs.Common.{◌≡◌, ◌++◌, ◌∷◌, map, drop, string_bytes}
use Rattle.std.specs.List.{concat}
use Rattle.trail_text.specs.TrailText.{event_line}
use Rattle.trail_text.proofs.writing.text_after.Given as goal

-- what is written, and the lines of the events to come, are the lines of all events
abbrev pub invariant-loop-event : goal.invariant-loop-event
invariant-loop-event l =
    string_bytes l.text ++ concat (map event_line (drop l.event-index l.event-items)) ≡ 10 ∷ concat (map event_line l.event-items)
