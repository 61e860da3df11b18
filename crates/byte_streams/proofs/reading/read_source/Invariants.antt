use Rattle.std.proofs.Common.{◌≡◌, ◌≤◌, ◌-◌, vec_len}
use Rattle.byte_streams.specs.Source.{Gives}
use Rattle.byte_streams.proofs.reading.read_source.Given as goal

abbrev pub invariant-pulls : goal.invariant-pulls
invariant-pulls g l = record {
  gave : Gives (g.S.Source.left l.initial.source) (g.S.Source.left l.source) l.text.items;
  short : vec_len l.text ≤ l.fn.most;
  quiet : g.S.Source.faults l.source ≡ g.S.Source.faults l.initial.source;
}

abbrev pub decreases-pulls : goal.decreases-pulls
decreases-pulls g l = l.fn.most - vec_len l.text
