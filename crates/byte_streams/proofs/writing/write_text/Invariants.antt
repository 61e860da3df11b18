use Rattle.std.proofs.Common.{◌≡◌, ◌≤◌, ◌-◌, length, take}
use Rattle.byte_streams.specs.Sink.{Takes}
use Rattle.byte_streams.proofs.writing.write_text.Given as goal

abbrev pub invariant-pushes : goal.invariant-pushes
invariant-pushes g l = record {
  within : l.written ≤ length l.text;
  took : Takes (g.W.Sink.taken l.initial.sink) (g.W.Sink.taken l.sink) (take l.written l.text);
  quiet : g.W.Sink.faults l.sink ≡ g.W.Sink.faults l.initial.sink;
}

abbrev pub decreases-pushes : goal.decreases-pushes
decreases-pushes g l = length l.text - l.written
