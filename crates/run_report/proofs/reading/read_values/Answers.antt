use Rattle.std.proofs.Common.{◌++◌, ◌∷◌, [], ◌∙◌, ap, List, ℤ, w64}
use Rattle.std.proofs.lemmas.Int.{to_z-of_z}
use Rattle.containers.specs.BoundedList.{entries}
use Rattle.run_report.proofs.Phases.{one_value_more}
use Rattle.run_report.proofs.reading.read_values.Goals as goal

pub values-preserved : goal.values-preserved
values-preserved c =
    one_value_more _ _ _ (entries c.values.lines) _ c.in-Some.value c.values.invariant.0 c.values.invariant.1 c.in-Some.ensures.0 c.in-Some.ensures.1
    (c.add.ensures.entries
    ∙ ap (λ (n : ℤ). entries c.reserve.new.self ++ n ∷ []) (to_z-of_z w64 c.in-Some.value (record { sfits = c.in-Some.ensures.1 }))
    ∙ ap (λ (l : List ℤ). l ++ c.in-Some.value ∷ []) c.in_ok-reserve.ensures.entries)
