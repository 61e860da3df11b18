use Rattle.std.proofs.Common.{sym, ◌∙◌}
use Rattle.core.specs.Mem.Slots.{slots_items, slots_len, slots_counts}
use Rattle.turn_table.proofs.Closing.{closes, all_free, first_held}
use Rattle.turn_table.proofs.Sits.{placed_is}
use Rattle.turn_table.proofs.turns.Turns.close.Goals as goal

pub returns-in-Some : goal.returns-in-Some
returns-in-Some g c = let about = c.args.self.table.shared.key in let table = c.args.self.table.shared.table_id in let seat = c.seat.inside.seat in let slots = c.close_with-closed.result.slots in
    let words = slots_items c.close_with-closed.result.words in let long = c.close_with-closed.ensures.counts.1 in
    let last = closes g.L.TurnLaw.fact g.L.TurnLaw.blank about table seat.id seat.me.0 words (slots_items slots) c.seat.invariant.1 (sym (slots_counts slots).0 ∙ long) c.close_with-closed.ensures.values.2 in
    first_held g.L.TurnLaw.fact g.L.TurnLaw.blank about table seat.id seat.me.0 words (slots_items slots) c.args.seat (slots_len slots) c.in-Some.slot last (placed_is table seat c.args.seat c.seat.view_is c.requires.here.0) long c.in-Some.ensures

pub returns-in-None : goal.returns-in-None
returns-in-None g c = let about = c.args.self.table.shared.key in let table = c.args.self.table.shared.table_id in let seat = c.seat.inside.seat in let slots = c.close_with-closed.result.slots in
    let words = slots_items c.close_with-closed.result.words in let long = c.close_with-closed.ensures.counts.1 in
    let last = closes g.L.TurnLaw.fact g.L.TurnLaw.blank about table seat.id seat.me.0 words (slots_items slots) c.seat.invariant.1 (sym (slots_counts slots).0 ∙ long) c.close_with-closed.ensures.values.2 in
    all_free g.L.TurnLaw.fact g.L.TurnLaw.blank about table seat.id seat.me.0 words (slots_items slots) c.args.seat (slots_len slots) c.empty.new.values.items last (placed_is table seat c.args.seat c.seat.view_is c.requires.here.0) long c.in-None.ensures c.empty.ensures.values
