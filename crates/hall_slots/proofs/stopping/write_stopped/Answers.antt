use Rattle.std.proofs.Common.{refl}
use Rattle.turn_table.specs.Tables.{key_of}
use Rattle.turn_table.proofs.Standing.{has_as}
use Rattle.hall_slots.specs.declared.slot.Slot.TheVariants as slots
use Rattle.hall_slots.proofs.Stopped.{held_keeps}
use Rattle.hall_slots.proofs.stopping.write_stopped.Goals as goal

pub put_back-requires-clause-slot : goal.put_back-requires-clause-slot
put_back-requires-clause-slot g c = has_as 0 (slots.List c.requires.1.before) c.args.seat.now.hand.holds c.requires.1.may.holds

pub put_back-requires-clause-keeps : goal.put_back-requires-clause-keeps
put_back-requires-clause-keeps g c = held_keeps (key_of c.args.row.now) c.args.seat.now c.args.list g.note c.requires.1 (λ hand. g.note) refl
