use Rattle.turn_table.specs.Tables.{key_of}
use Rattle.hall_slots.proofs.Left.{gone_of}
use Rattle.hall_slots.proofs.Joined.{joined_of}
use Rattle.hall_slots.proofs.leaving.leave.Goals as goal

pub join-requires-clause-gone : goal.join-requires-clause-gone
join-requires-clause-gone c = gone_of c.args.seat c.leave_list.new.seat c.requires.may.is_idle c.in-Ok.ensures.seat

pub returns-in-Ok-clause-seat : goal.returns-in-Ok-clause-seat
returns-in-Ok-clause-seat c = joined_of (key_of c.args.row.now) c.args.seat c.leave_list.new.seat c.args.into.now c.join.new.into c.in-Ok.ensures.seat c.join.ensures
