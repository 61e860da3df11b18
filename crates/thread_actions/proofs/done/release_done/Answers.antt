use Rattle.std.proofs.Common.{◌≡◌, ◌+◌, subst}
use Rattle.thread_frames.specs.Actions.{HasActed}
use Rattle.thread_frames.specs.Views.{next_of, words_asked, thread_words}
use Rattle.thread_frames.specs.declared.thread.Thread.{Thread}
use Rattle.thread_actions.proofs.Acting.{release_did}
use Rattle.thread_actions.proofs.Seen.{placed_seen, stays_seen}
use Rattle.thread_actions.proofs.done.release_done.Goals as goal

pub do_release-requires-clause-placed : goal.do_release-requires-clause-placed
do_release-requires-clause-placed c = placed_seen c.get_mut.result.now c.args.top.now c.get_mut.ensures.value c.requires.placed

pub returns-clause-did : goal.returns-clause-did
returns-clause-did c setting k is period given =
    let acted = subst (λ (x : Thread). HasActed x c.do_release.new.self) c.get_mut.ensures.value c.do_release.ensures.acted in
    let words = subst (λ (x : Thread). thread_words c.do_release.new.self + words_asked (next_of x) ≡ thread_words x) c.get_mut.ensures.value c.do_release.ensures.words in
    release_did setting k c.args.top.now c.do_release.new.self c.name_of-name.result c.name_of-name.ensures.by c.name_of-name.ensures.index acted period _ is words

pub returns-clause-point : goal.returns-clause-point
returns-clause-point c = stays_seen c.get_mut.result.now c.args.top.now c.do_release.new.self c.get_mut.ensures.value c.do_release.ensures.point
