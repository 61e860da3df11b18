use Rattle.std.proofs.Common.{[], sym, ◌∙◌}
use Rattle.par_names.proofs.Inserted.{one_more, left_out}
use Rattle.par_names.proofs.name_set.NameSet.of.Goals as goal

pub loop-name-preserved : goal.loop-name-preserved
loop-name-preserved c =
    one_more c.args.asked.now c.args.list.now c.loop-name.name-index (record { ref_ptr = (0, 0); now = [] }) c.loop-name.names c.insert.new.self c.loop-name-test.true c.in_ok-insert.ensures.updates c.loop-name.invariant

pub loop-name-preserved-then-not-is_asked : goal.loop-name-preserved-then-not-is_asked
loop-name-preserved-then-not-is_asked c =
    left_out c.args.asked.now c.args.list.now c.loop-name.name-index (record { ref_ptr = (0, 0); now = [] }) c.loop-name.names c.loop-name-test.true (sym c.is_asked.ensures ∙ c.if-not-is_asked.true) c.loop-name.invariant
