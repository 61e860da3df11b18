use Rattle.std.proofs.Common.{◌≡◌, subst}
use Rattle.thread_frames.specs.Actions.{HasJoined}
use Rattle.thread_frames.specs.Views.{join_words_of}
use Rattle.thread_frames.specs.declared.thread.Thread.{Thread}
use Rattle.thread_actions.proofs.Acting.{join_did}
use Rattle.thread_actions.proofs.Seen.{placed_seen, stays_seen}
use Rattle.thread_actions.proofs.done.join_done.Goals as goal

pub do_join-words-requires-clause-placed : goal.do_join-words-requires-clause-placed
do_join-words-requires-clause-placed c = placed_seen c.get_mut.result.now c.args.top.now c.get_mut.ensures.value c.requires.placed

pub returns-clause-did : goal.returns-clause-did
returns-clause-did c setting k child is =
    let joined = subst (λ (x : Thread). HasJoined c.do_join-words.result.0 x c.do_join-words.new.self) c.get_mut.ensures.value c.do_join-words.ensures.joined in
    let words = subst (λ (x : Thread). c.do_join-words.result.0 ≡ join_words_of x) c.get_mut.ensures.value c.do_join-words.ensures.words in
    join_did setting k c.args.top.now c.do_join-words.new.self c.name_of-name.result c.name_of-name.ensures.by c.name_of-name.ensures.index _ joined
    c.requires.delivered words child is

pub returns-clause-point : goal.returns-clause-point
returns-clause-point c = stays_seen c.get_mut.result.now c.args.top.now c.do_join-words.new.self c.get_mut.ensures.value c.do_join-words.ensures.point
