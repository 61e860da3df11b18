use Rattle.std.proofs.Common.{refl}
use Rattle.std.proofs.lemmas.List.Sorted.{IsPermutation-refl}
use Rattle.worker_step.proofs.tops.reserve.Goals as goal

pub returns-in_err-reserve-4-clause-same : goal.returns-in_err-reserve-4-clause-same
returns-in_err-reserve-4-clause-same c = record {
  deques = c.reserve.ensures.deques;
  waiting = c.reserve-4.ensures.same.0;
  results = IsPermutation-refl c.args.scheduler.now.results.entries;
  periods = c.reserve-2.ensures.periods;
  seats = c.reserve-2.ensures.deques;
  begun = c.reserve-2.ensures.begun;
  live = refl;
  moves = c.reserve-3.ensures.moves;
  done = refl;
}
