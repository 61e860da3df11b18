use Rattle.std.proofs.Common.{◌∙◌}
use Rattle.list_changes.proofs.Middles.{live, gone}
use Rattle.list_changes.proofs.list_part.ListPart.remove.Goals as goal

pub remove-requires : goal.remove-requires
remove-requires g c = live c.requires.has.1

pub returns : goal.returns
returns g c owner has = record {
  places_are = c.close.ensures.places_are ∙ gone has c.remove.new.self.places c.remove.ensures.place;
  most = c.close.ensures.most ∙ c.remove.ensures.most;
  closed = c.close.ensures.closed;
  waiting = c.close.ensures.waiting;
  results = c.close.ensures.results;
  begun = c.close.ensures.begun;
}
