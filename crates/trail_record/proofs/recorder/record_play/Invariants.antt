use Rattle.containers.specs.BoundedList.{entries}
use Rattle.trail_record.proofs.Recording.{IsRecording}
use Rattle.trail_record.proofs.recorder.record_play.Given as goal

abbrev pub invariant-loop : goal.invariant-loop
invariant-loop g l = IsRecording (g.C.Choices.coming l.fn.choices) (g.C.Choices.coming l.choices) l.fn.core l.core l.counter (entries l.events)
