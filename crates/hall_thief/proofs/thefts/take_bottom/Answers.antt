use Rattle.std.proofs.Common.{◌∷◌, ◌++◌}
use Rattle.std.specs.Prelude.{Some}
use Rattle.turn_table.specs.Tables.{key_of}
use Rattle.hall_slots.specs.Passed.Parts.{Has, place_with}
use Rattle.hall_thief.proofs.Stolen.{bottom_of, stolen_in}
use Rattle.hall_thief.proofs.thefts.take_bottom.Goals as goal

pub put_beside-requires-clause-stolen : goal.put_beside-requires-clause-stolen
put_beside-requires-clause-stolen c = let may = c.requires.may in
    bottom_of (key_of c.args.row.now) c.args.seat.now c.args.list c.insert_in.new.list c.args.victim c.args.lane c.move_bottom.new.lane c.args.id c.args.new c.move_bottom.new.new c.begin_in.new.lane
    c.args.worker c.args.period may (c.insert_in.ensures may.owner may.has) (c.move_bottom.ensures.items may.first may.others may.bottom may.more) c.move_bottom.ensures.running c.begin_in.ensures.lane
    c.begin_in.ensures.running

pub returns-clause-seat : goal.returns-clause-seat
returns-clause-seat c = let may = c.requires.may in
    stolen_in c.args.seat.now c.put_beside.new.seat c.args.id c.args.list c.insert_in.new.list c.args.period.number
    (Has.left may.has ++ place_with c.args.victim may.owner ∷ place_with c.args.id (Some c.args.worker) ∷ Has.right may.has) (c.insert_in.ensures may.owner may.has) may.period_new.number_is
    c.put_beside.ensures.seat
