use Rattle.std.proofs.Common.{sym, ◌∙◌}
use Rattle.thread_actions.proofs.results.hand_over.Goals as goal

pub returns : goal.returns
returns c = record {
  ended = c.in-Some.ended;
  kept = sym c.take.ensures.value ∙ c.in-Some.is;
  results = c.in-Some.ensures.entries;
  room = c.take.ensures.keeps_room;
  given = c.give.ensures;
}
