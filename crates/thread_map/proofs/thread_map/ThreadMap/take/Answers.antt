use Rattle.std.proofs.Common.{ap, ◌∙◌, subst, List}
use Rattle.std.specs.Prelude.{IfSome, ◌∷◌}
use Rattle.std.specs.List.Sorted.{IsPermutation}
use Rattle.dag_order.specs.declared.thread_id.ThreadId.{ThreadId}
use Rattle.thread_map.specs.Kept.{kept_under}
use Rattle.thread_map.proofs.KeptLemmas.{others_differ, taken_entries}
use Rattle.thread_map.proofs.thread_map.ThreadMap.take.Goals as goal

pub returns-clause-kept : goal.returns-clause-kept
returns-clause-kept g c = (
  c.remove.ensures.updates.1,
  λ other differs. c.remove.ensures.updates.2 other (others_differ c.args.id other differs) ∙ ap (λ kept. kept_under kept other) c.self.view_is,
)

pub returns-clause-entries : goal.returns-clause-entries
returns-clause-entries g c =
    let P : List (ThreadId × g.row.T.Denot) → Type 0 = λ es. IfSome c.remove.result (λ value. IsPermutation es ((c.args.id, value) ∷ c.remove.new.self.entries)) in
    subst P (ap (λ kept. kept.entries) c.self.view_is)
    (taken_entries c.self.inside.map.entries c.remove.new.self.entries c.args.id c.remove.result c.remove.ensures.value c.remove.ensures.entries)
