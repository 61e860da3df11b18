use Rattle.std.proofs.Common.{◌∙◌, ap, rules}
use Rattle.scheduler_state.specs.Marks.{ahead_in}
use Rattle.scheduler_state.proofs.Marked.{seat_counted, byte_is}
use Rattle.scheduler_state.proofs.marks.open_ahead.Goals as goal

pub seats-preserved : goal.seats-preserved
seats-preserved c =
    seat_counted c.args.table.now.seats.items c.seats.ahead c.seats.worker c.from-ahead.result _ c.ahead_in.result (search rules)
    (c.from-ahead.ensures ∙ byte_is c.ahead_in.result) (c.ahead_in.ensures ∙ ap ahead_in c.seat.ensures) c.seats.invariant
