use Rattle.turn_table.specs.Tables.{key_of}
use Rattle.turn_table.proofs.Standing.{has_as}
use Rattle.hall_slots.proofs.Keeping.{put_keeps}
use Rattle.hall_slots.proofs.backs.give_slot_back.Goals as goal

pub put_back-requires-clause-keeps : goal.put_back-requires-clause-keeps
put_back-requires-clause-keeps c = put_keeps (key_of c.args.row.now) c.args.seat.now c.requires.placed c.args.slot c.args.found c.requires.held

pub put_back-requires-clause-slot : goal.put_back-requires-clause-slot
put_back-requires-clause-slot c = has_as c.args.slot c.args.found c.args.seat.now.hand.holds c.requires.held
