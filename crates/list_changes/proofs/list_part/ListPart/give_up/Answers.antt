use Rattle.std.proofs.Common.{◌∙◌}
use Rattle.list_changes.proofs.Middles.{live, unowned}
use Rattle.list_changes.proofs.list_part.ListPart.give_up.Goals as goal

pub give_up-requires : goal.give_up-requires
give_up-requires g c = live c.requires.has.1

pub returns : goal.returns
returns g c owner has = record {
  places_are = c.close.ensures.places_are ∙ unowned has c.give_up.new.self.places c.give_up.ensures.place;
  most = c.close.ensures.most ∙ c.give_up.ensures.most;
  closed = c.close.ensures.closed;
  waiting = c.close.ensures.waiting;
  results = c.close.ensures.results;
  begun = c.close.ensures.begun;
}
