use Rattle.hall_parts.proofs.actions.do_dummy.Goals as goal

pub returns-clause-acts : goal.returns-clause-acts
returns-clause-acts c = record {
  now = c.dummy_done-name.new.top;
  threads_are = c.put_back.ensures.lane;
  did = c.dummy_done-name.ensures.did;
  period = c.put_back.ensures.period;
  point = c.dummy_done-name.ensures.point;
}
