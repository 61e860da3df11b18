-- What a trail says of a run.
use Rattle.std.specs.Prelude.{List, map}
use Rattle.deque_machine.specs.Machine.{Event, steals, does, suspends, gives_up}
use Rattle.deque_machine.specs.Runs.{Pair}
use Rattle.trail_meaning.specs.declared.trail_event.TrailEvent.{TrailEvent}
use Rattle.trail_meaning.specs.declared.trail_kind.TrailKind.{TrailKind}
use Rattle.trail_meaning.specs.declared.trail_kind.TrailKind.TheVariants.{Steal, Act, Suspend, GiveUp}

-- an event without its id or its action
abbrev pub kind_told : Event → TrailKind
kind_told (steals place id) = Steal place
kind_told (does place) = Act
kind_told suspends = Suspend
kind_told gives_up = GiveUp

abbrev pub event_in_trail : Pair → TrailEvent
event_in_trail pair = record { worker = pair.worker; kind = kind_told pair.event }

-- the events of a run, as a trail has them
abbrev pub events_in_trail : List Pair → List TrailEvent
events_in_trail run = map event_in_trail run
