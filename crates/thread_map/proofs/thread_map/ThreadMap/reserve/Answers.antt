use Rattle.std.proofs.Common.{ap, ◌∙◌, subst, List}
use Rattle.std.specs.List.Sorted.{IsPermutation}
use Rattle.dag_order.specs.declared.thread_id.ThreadId.{ThreadId}
use Rattle.thread_map.specs.Kept.{kept_under}
use Rattle.thread_map.proofs.thread_map.ThreadMap.reserve.Goals as goal

pub returns-clause-same : goal.returns-clause-same
returns-clause-same g c =
    let P : List (ThreadId × g.row.T.Denot) → Type 0 = λ es. IsPermutation es c.reserve.new.self.entries in (
      subst P (ap (λ kept. kept.entries) c.self.view_is) c.reserve.ensures.entries.0,
      λ id. c.reserve.ensures.entries.2 id ∙ ap (λ kept. kept_under kept id) c.self.view_is,
    )
