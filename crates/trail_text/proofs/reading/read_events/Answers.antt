use Rattle.std.proofs.Common.{◌++◌, ◌∷◌, [], ◌∙◌, ap, List}
use Rattle.containers.specs.BoundedList.{entries}
use Rattle.trail_meaning.specs.declared.trail_event.TrailEvent.{TrailEvent}
use Rattle.trail_text.proofs.Phases.{one_event_more}
use Rattle.trail_text.proofs.reading.read_events.Goals as goal

pub events-preserved : goal.events-preserved
events-preserved c =
    one_event_more c.args.p _ _ _ (entries c.events.events) _ c.in-Some.event c.events.invariant.0 c.events.invariant.1 c.in-Some.ensures.0 c.in-Some.ensures.1
    (c.add.ensures.entries ∙ ap (λ (l : List TrailEvent). l ++ c.in-Some.event ∷ []) c.in_ok-reserve.ensures.entries)
