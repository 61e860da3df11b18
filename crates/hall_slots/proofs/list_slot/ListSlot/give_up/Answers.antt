use Rattle.std.proofs.Common.{refl}
use Rattle.hall_slots.proofs.ClosedLists.{shows_unowned}
use Rattle.hall_slots.proofs.list_slot.ListSlot.give_up.Goals as goal

pub returns-clause-shown : goal.returns-clause-shown
returns-clause-shown c = shows_unowned c.args.self.now (record { part = c.give_up.new.self; crew = c.args.self.now.crew; end = c.args.self.now.end }) c.args.running refl refl c.args.id c.give_up.ensures

pub returns-clause-places : goal.returns-clause-places
returns-clause-places c owner has = let closes = c.give_up.ensures owner has in closes.places_are

pub returns-clause-rest : goal.returns-clause-rest
returns-clause-rest c = let closes = c.give_up.ensures c.requires.has.0 c.requires.has.1 in
    record { crew = refl; end = refl; waiting = closes.waiting; results = closes.results; most = closes.most }
