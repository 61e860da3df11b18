use Rattle.std.proofs.Common.{sym, ◌∙◌, subst}
use Rattle.turn_table.specs.Tables.{key_of}
use Rattle.hall_slots.specs.Closing.{BeginWithTwo}
use Rattle.hall_slots.proofs.Parts.{none_held, first_two, are_last}
use Rattle.hall_slots.proofs.closing.close_row.Goals as goal

pub parts_of-requires : goal.parts_of-requires
parts_of-requires c = let last = c.in-Ok.ensures in subst BeginWithTwo (sym last.4.1)
    (first_two (key_of c.args.row) c.args.seat c.requires.some c.requires.lone c.requires.free last.0 last.1 last.2 last.3)

pub unreachable-requires : goal.unreachable-requires
unreachable-requires c = let last = c.in-Err.ensures in
    none_held (key_of c.args.row) c.args.seat c.requires.some c.requires.lone c.requires.free last.0 last.1 last.2 last.3 c.in-Err.field-0.slot last.4.0

pub returns : goal.returns
returns c = let last = c.in-Ok.ensures in
    are_last (key_of c.args.row) c.args.seat c.requires.some c.requires.lone c.requires.free last.0 last.1 last.2 last.3 c.parts_of.result.0 c.parts_of.result.1 c.parts_of.ensures.0
    (sym last.4.1 ∙ c.parts_of.ensures.1)
