use Rattle.std.proofs.Common.{ap, ◌∙◌}
use Rattle.thread_map.specs.Kept.{kept_under}
use Rattle.thread_map.proofs.KeptLemmas.{others_differ}
use Rattle.thread_map.proofs.thread_map.ThreadMap.put.Goals as goal

pub returns-clause-kept : goal.returns-clause-kept
returns-clause-kept g c = (
  c.in-Ok.ensures.updates.1,
  λ other differs. c.in-Ok.ensures.updates.2 other (others_differ c.args.id other differs) ∙ ap (λ kept. kept_under kept other) c.self.view_is,
)
