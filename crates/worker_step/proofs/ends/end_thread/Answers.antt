use Rattle.std.proofs.Common.{length, ap, arith}
use Rattle.std.proofs.lemmas.List.{nil_from_length}
use Rattle.list_changes.proofs.Putting.{live, at_rank, here}
use Rattle.worker_step.proofs.ends.end_thread.Goals as goal

pub lane-requires : goal.lane-requires
lane-requires c = live c.requires.can.stands.1

pub end_above-requires-clause-above : goal.end_above-requires-clause-above
end_above-requires-clause-above c items stands =
    let some = c.if-len-gt0.true in let many = c.len.ensures in let same = ap length (c.lane.ensures.items _ (here stands) (at_rank stands)) in omega (arith, some, many, same)

pub end_alone-requires-clause-alone : goal.end_alone-requires-clause-alone
end_alone-requires-clause-alone c items stands =
    let few = c.if-len-gt0.false in let many = c.len.ensures in let same = ap length (c.lane.ensures.items _ (here stands) (at_rank stands)) in
    nil_from_length items (omega (arith, few, many, same))
