use Rattle.std.proofs.Common.{rules, slice_index_or, subst}
use Rattle.work_loop.proofs.crew.work_all.Goals as goal

pub returns : goal.returns
returns g c i d small =
    let ch = (c.for_each_mut.ensures i d small).1 in
    let worked : g.M.WorksToEnd.has_worked c.args.table.now c.args.code.now ch.argument.now ch.after_call.now = search rules in
    subst (λ m. g.M.WorksToEnd.has_worked c.args.table.now c.args.code.now m (slice_index_or c.for_each_mut.new.s i d)) ch.argument_is
    (subst (λ m. g.M.WorksToEnd.has_worked c.args.table.now c.args.code.now ch.argument.now m) ch.left worked)
