use Rattle.turn_table.specs.Tables.{key_of}
use Rattle.turn_table.proofs.Standing.{has_as}
use Rattle.hall_slots.specs.declared.slot.Slot.TheVariants as slots
use Rattle.hall_actions.proofs.Answered.{answer_keeps}
use Rattle.hall_actions.proofs.answers.answer.Goals as goal

pub put_back-requires-clause-keeps : goal.put_back-requires-clause-keeps
put_back-requires-clause-keeps c = answer_keeps (key_of c.args.row.now) c.args.seat.now c.args.list c.requires.holds

pub put_back-requires-clause-slot : goal.put_back-requires-clause-slot
put_back-requires-clause-slot c = has_as 0 (slots.List c.args.list) c.args.seat.now.hand.holds c.requires.holds.holds
