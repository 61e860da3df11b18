use Rattle.std.proofs.Common.{◌∙◌}
use Rattle.hall_slots.specs.Passed.Facts.{words_at}
use Rattle.hall_slots.specs.Passed.Run.{list_of}
use Rattle.hall_parts.proofs.Taking.{join_tells}
use Rattle.hall_parts.proofs.actions.do_join.Goals as goal

pub returns-clause-acts : goal.returns-clause-acts
returns-clause-acts c = record {
  now = c.join_done-joined.new.top;
  threads_are = c.put_back.ensures.lane;
  did = c.join_done-joined.ensures.did;
  period = c.put_back.ensures.period;
  point = c.join_done-joined.ensures.point;
}

pub returns-clause-words : goal.returns-clause-words
returns-clause-words c setting child is =
    join_tells c.args.top c.requires.delivered (words_at (list_of setting) is.place) is.words ∙ c.requires.words
