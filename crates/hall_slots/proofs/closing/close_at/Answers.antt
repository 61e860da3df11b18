use Rattle.turn_table.specs.Tables.{key_of}
use Rattle.hall_slots.proofs.OneRun.{closed_at}
use Rattle.hall_slots.proofs.closing.close_at.Goals as goal

pub returns-clause-closed : goal.returns-clause-closed
returns-clause-closed c = closed_at (key_of c.args.row) c.args.seat c.args.end c.requires.may c.requires.answered c.close_row-list.result.0
    c.close_row-list.result.1 c.close_row-list.ensures
