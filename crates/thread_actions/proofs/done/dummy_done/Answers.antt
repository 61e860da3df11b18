use Rattle.std.proofs.Common.{◌≡◌, subst}
use Rattle.thread_frames.specs.Actions.{HasActed}
use Rattle.thread_frames.specs.Views.{thread_words}
use Rattle.thread_frames.specs.declared.thread.Thread.{Thread}
use Rattle.thread_actions.proofs.Acting.{dummy_did}
use Rattle.thread_actions.proofs.Seen.{placed_seen, stays_seen}
use Rattle.thread_actions.proofs.done.dummy_done.Goals as goal

pub do_dummy-requires-clause-placed : goal.do_dummy-requires-clause-placed
do_dummy-requires-clause-placed c = placed_seen c.get_mut.result.now c.args.top.now c.get_mut.ensures.value c.requires.placed

pub returns-clause-did : goal.returns-clause-did
returns-clause-did c setting k is =
    let acted = subst (λ (x : Thread). HasActed x c.do_dummy.new.self) c.get_mut.ensures.value c.do_dummy.ensures.acted in
    let words = subst (λ (x : Thread). thread_words c.do_dummy.new.self ≡ thread_words x) c.get_mut.ensures.value c.do_dummy.ensures.words in
    dummy_did setting k c.args.top.now c.do_dummy.new.self c.name_of-name.result c.name_of-name.ensures.by c.name_of-name.ensures.index acted is words

pub returns-clause-point : goal.returns-clause-point
returns-clause-point c = stays_seen c.get_mut.result.now c.args.top.now c.do_dummy.new.self c.get_mut.ensures.value c.do_dummy.ensures.point
