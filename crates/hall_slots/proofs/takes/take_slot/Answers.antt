use Rattle.turn_table.specs.Tables.{key_of}
use Rattle.hall_slots.proofs.Keeping.{take_keeps, held_keeps}
use Rattle.hall_slots.proofs.Lone.{lone_takes}
use Rattle.hall_slots.proofs.takes.take_slot.Goals as goal

pub take-requires-clause-keeps : goal.take-requires-clause-keeps
take-requires-clause-keeps c = (take_keeps (key_of c.args.row.now) c.args.seat.now c.requires.placed c.args.slot, held_keeps (key_of c.args.row.now) c.args.seat.now c.requires.placed c.args.slot)

pub returns-clause-lone : goal.returns-clause-lone
returns-clause-lone c = lone_takes (key_of c.args.row.now) c.args.seat.now c.take.new.seat c.args.slot c.take.result c.requires.placed c.requires.slot.1 c.take.ensures.seat c.take.ensures.meets
