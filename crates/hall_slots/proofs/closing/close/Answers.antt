use Rattle.std.proofs.Common.{subst}
use Rattle.std.specs.Prelude.{Option}
use Rattle.play_rules.specs.declared.ends.RunEnd.{RunEnd}
use Rattle.turn_table.specs.Tables.{key_of}
use Rattle.hall_slots.specs.Closing.{HasSeen}
use Rattle.hall_slots.proofs.Seen.{all_still, placed_still}
use Rattle.hall_slots.proofs.OneRun.{closed_of}
use Rattle.hall_slots.proofs.closing.close.Goals as goal

pub returns-in-Ok-Some-clause-closed : goal.returns-in-Ok-Some-clause-closed
returns-in-Ok-Some-clause-closed c =
    let seen = subst (λ (end : Option RunEnd). HasSeen c.args.seat end c.see_end.new.seat) c.in-Ok-Some.field-0-is c.in-Ok-Some.ensures.seat in
    closed_of (key_of c.args.row) c.args.seat c.see_end.new.seat c.in-Ok-Some.end c.requires.may seen
    (placed_still (key_of c.args.row) c.args.seat c.see_end.new.seat c.in-Ok-Some.end c.requires.may seen)
    (all_still (key_of c.args.row) c.args.seat c.see_end.new.seat c.in-Ok-Some.end c.requires.may seen) c.close_row-list.result.0 c.close_row-list.result.1 c.close_row-list.ensures

pub returns-in-Ok-None-clause-open : goal.returns-in-Ok-None-clause-open
returns-in-Ok-None-clause-open c = subst (λ (end : Option RunEnd). HasSeen c.args.seat end c.see_end.new.seat) c.in-Ok-None.field-0-is c.in-Ok-None.ensures.seat
