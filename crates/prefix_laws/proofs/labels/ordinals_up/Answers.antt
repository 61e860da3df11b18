use Rattle.std.proofs.Common.{sym}
use Rattle.std.proofs.Math.Logic.{∥∥₁_elim}
use Rattle.containers.specs.BoundedList.{entries}
use Rattle.dag_order.proofs.BirthLaws.{leads_on, label_or_stop}
use Rattle.prefix_laws.specs.Listing.{births_behind}
use Rattle.prefix_laws.proofs.Places.{not_the_root}
use Rattle.prefix_laws.proofs.labels.ordinals_up.Goals as goal

pub unreachable-requires : goal.unreachable-requires
unreachable-requires c = ∥∥₁_elim c.requires (λ x y. absurd x) (λ known.
    label_or_stop (births_behind c.args.births.now) c.args.id c.way.at known.0 known.1
    (entries c.way.ordinals, c.way.invariant, sym c.in_default.ensures, not_the_root c.way.at c.way-test.ensures))

pub way-preserved : goal.way-preserved
way-preserved c =
    let on = leads_on (births_behind c.args.births.now) c.args.id (entries c.way.ordinals) c.way.at c.in-Some.birth c.way.invariant (sym c.in-Some.ensures) in
    rw (c.add.ensures.entries, c.in_ok-reserve.ensures.entries) on
