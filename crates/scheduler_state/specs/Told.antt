-- What a step answers.
use Rattle.std.specs.Prelude.{◌≡◌, Option, None, Some, Result, Ok, Err}
use Rattle.thread_frames.specs.declared.ended.Ended.{Ended}
use Rattle.scheduler_state.specs.declared.event.Event.{Event}
use Rattle.scheduler_state.specs.declared.event.Event.TheVariants as events
use Rattle.play_rules.specs.declared.stop.Stop.{Stop}
use Rattle.play_rules.specs.declared.ends.RunEnd.{RunEnd}
use Rattle.play_rules.specs.declared.ends.RunEnd.TheVariants.{Finished, Stopped}
use Rattle.scheduler_state.specs.declared.stepped.Stepped.{Stepped}
use Rattle.scheduler_state.specs.declared.stepped.Stepped.TheVariants.{Stole, Acted, Suspended, GaveUp, Nothing, Over}
use Rattle.scheduler_state.specs.Ends.{end_behind_event}

-- the event, nothing or the stop that an answer tells; a step does not answer that the run has finished
abbrev pub IsTold : Stepped → Result (Option Event) Stop → Type 0
IsTold (Stole deque period) result = result ≡ Ok (Some (events.Stole deque period))
IsTold (Acted id) result = result ≡ Ok (Some (events.Acted id))
IsTold (Suspended id) result = result ≡ Ok (Some (events.Suspended id))
IsTold (GaveUp deque) result = result ≡ Ok (Some (events.GaveUp deque))
IsTold Nothing result = result ≡ Ok None
IsTold (Over (Finished finish)) result = ⊥
IsTold (Over (Stopped stop)) result = result ≡ Err stop

-- the end that is kept behind a step: that of the root, where it has ended, or the stop
abbrev pub end_behind : Result (Option Event) Stop → Option Ended → Option RunEnd
end_behind (Ok None) ended = None
end_behind (Ok (Some event)) ended = end_behind_event event ended
end_behind (Err stop) ended = Some (Stopped stop)
