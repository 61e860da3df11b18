use Rattle.thread_actions.proofs.Seen.{placed_seen, end_seen}
use Rattle.thread_actions.proofs.done.end_done.Goals as goal

pub end-ended-requires-clause-placed : goal.end-ended-requires-clause-placed
end-ended-requires-clause-placed c = placed_seen c.get_mut.result.now c.args.top.now c.get_mut.ensures.value c.requires.placed

pub returns-clause-did : goal.returns-clause-did
returns-clause-did c setting is =
    end_seen setting c.get_mut.result.now c.args.top.now c.get_mut.ensures.value c.end-ended.result.0 c.name_of-name.result c.name_of-name.ensures.by c.name_of-name.ensures.index
    c.end-ended.ensures.id c.end-ended.ensures.func c.end-ended.ensures.label c.end-ended.ensures.words is
