use Rattle.made_source.specs.MadeSource.{group_line}
use Rattle.made_source.proofs.Growing.{one_line_to}
use Rattle.made_source.proofs.function.push_groups.Goals as goal

pub groups-preserved : goal.groups-preserved
groups-preserved c =
    one_line_to group_line _ _ _ c.args.first c.groups.group c.groups.auto.group c.groups.invariant c.in_ok-push_group.ensures
