use Rattle.std.proofs.Common.{◌∷◌, ◌++◌}
use Rattle.std.specs.Prelude.{Some}
use Rattle.turn_table.specs.Tables.{key_of}
use Rattle.hall_slots.specs.Passed.Parts.{Has, place_with}
use Rattle.hall_thief.proofs.Stolen.{over_of, stolen_in}
use Rattle.hall_thief.proofs.thefts.take_over.Goals as goal

pub put_over-requires-clause-stolen : goal.put_over-requires-clause-stolen
put_over-requires-clause-stolen c = over_of (key_of c.args.row.now) c.args.seat.now c.args.list c.own_in.new.list c.args.id c.args.lane c.begin_in.new.lane c.args.worker c.args.period c.requires.may
    (c.own_in.ensures c.requires.may.has) c.begin_in.ensures.lane c.begin_in.ensures.running

pub returns-clause-seat : goal.returns-clause-seat
returns-clause-seat c = stolen_in c.args.seat.now c.put_over.new.seat c.args.id c.args.list c.own_in.new.list c.args.period.number
    (Has.left c.requires.may.has ++ place_with c.args.id (Some c.args.worker) ∷ Has.right c.requires.may.has) (c.own_in.ensures c.requires.may.has) c.requires.may.new.number_is c.put_over.ensures.seat
