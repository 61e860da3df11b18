use Rattle.std.proofs.Common.{sym, ◌∙◌, subst}
use Rattle.std.specs.Prelude.{Option}
use Rattle.play_rules.specs.declared.ends.RunEnd.{RunEnd}
use Rattle.hall_slots.specs.Closing.{HasSeen}
use Rattle.hall_slots.proofs.Seen.{seen_some, seen_none}
use Rattle.turn_table.specs.Tables.{key_of}
use Rattle.hall_slots.proofs.Told.{told_of}
use Rattle.hall_slots.proofs.seeing.see_end.Goals as goal

pub returns-in-Some-clause-seat : goal.returns-in-Some-clause-seat
returns-in-Some-clause-seat c = subst (λ (end : Option RunEnd). HasSeen c.args.seat.now end c.put_answered.new.seat) (sym c.in-Some.is)
    (seen_some c.args.seat.now c.take_list.new.seat c.in_ok-list.list c.in_ok-list.ensures.seat c.requires.free c.put_answered.new.seat c.in-Some.field-0 (sym c.end_of-end.ensures ∙ c.in-Some.is)
    c.put_answered.ensures.seat)

pub returns-in-None-clause-seat : goal.returns-in-None-clause-seat
returns-in-None-clause-seat c = subst (λ (end : Option RunEnd). HasSeen c.args.seat.now end c.give_list_back.new.seat) (sym c.in-None.is)
    (seen_none c.args.seat.now c.take_list.new.seat c.in_ok-list.list c.in_ok-list.ensures.seat c.requires.free c.give_list_back.new.seat (sym c.end_of-end.ensures ∙ c.in-None.is)
    c.give_list_back.ensures.seat)

pub returns-in-Some-clause-told : goal.returns-in-Some-clause-told
returns-in-Some-clause-told c end is = c.end_of-end.ensures
    ∙ told_of (key_of c.args.row.now) c.args.seat.now c.take_list.new.seat c.in_ok-list.list c.in_ok-list.ensures.seat c.requires.free c.in_ok-list.ensures.meets end is

pub returns-in-None-clause-told : goal.returns-in-None-clause-told
returns-in-None-clause-told c end is = c.end_of-end.ensures
    ∙ told_of (key_of c.args.row.now) c.args.seat.now c.take_list.new.seat c.in_ok-list.list c.in_ok-list.ensures.seat c.requires.free c.in_ok-list.ensures.meets end is
