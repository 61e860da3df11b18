use Rattle.std.proofs.Common.{◌+◌}
use Rattle.turn_table.specs.Tables.{key_of}
use Rattle.turn_table.proofs.Standing.{has_as}
use Rattle.hall_slots.specs.declared.slot.Slot.TheVariants as slots
use Rattle.hall_thief.proofs.SameLanes.{same_keeps}
use Rattle.hall_thief.proofs.puts.give_same_lane_back.Goals as goal

pub put_back-requires-clause-slot : goal.put_back-requires-clause-slot
put_back-requires-clause-slot c = has_as (c.args.deque.0 + 2) (slots.Lane c.requires.same.before) c.args.seat.now.hand.holds c.requires.same.held

pub put_back-requires-clause-keeps : goal.put_back-requires-clause-keeps
put_back-requires-clause-keeps c = same_keeps (key_of c.args.row.now) c.args.seat.now c.requires.placed c.args.deque c.args.lane c.requires.same
