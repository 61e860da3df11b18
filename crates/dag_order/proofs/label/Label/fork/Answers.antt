-- The new list is the fork's label, which stands directly before its parent's.
use Rattle.std.proofs.Common.{◌≡◌, rules}
use Rattle.dag_order.specs.LabelOrder.{fork_of}
use Rattle.dag_order.specs.LabelLaws.{fork_stands_directly_before}
use Rattle.dag_order.proofs.label.Label.fork.Goals as goal

pub returns-clause-place : goal.returns-clause-place
returns-clause-place c =
    let e : c.add.new.self.items.items ≡ fork_of c.args.self.now c.args.ordinal = search rules in
    fork_stands_directly_before _ _ c.args.ordinal e
