use Rattle.std.proofs.Common.{◌+◌, ◌∙◌, ap, subst}
use Rattle.thread_frames.specs.Actions.{HasForked}
use Rattle.thread_frames.specs.Views.{forks_of}
use Rattle.thread_frames.specs.declared.thread.Thread.{Thread}
use Rattle.thread_actions.proofs.Acting.{fork_did}
use Rattle.thread_actions.proofs.Seen.{placed_seen, stays_seen}
use Rattle.thread_actions.proofs.done.fork_done.Goals as goal

pub do_fork-requires-clause-placed : goal.do_fork-requires-clause-placed
do_fork-requires-clause-placed c = placed_seen c.get_mut.result.now c.args.top.now c.get_mut.ensures.value c.requires.placed

pub returns-clause-did : goal.returns-clause-did
returns-clause-did c setting k is period its_id fits =
    let child : Thread = c.in_ok-child.child in
    let forked = subst (λ (x : Thread). HasForked c.args.id x c.do_fork.new.self child) c.get_mut.ensures.value c.in_ok-child.ensures.forked in
    fork_did setting k period c.args.top.now c.do_fork.new.self child c.name_of-name.result c.name_of-name.ensures.by c.name_of-name.ensures.index _ forked
    its_id _ (ap (λ n. n + 1) (c.forks-ordinal.ensures.value ∙ ap forks_of c.get.ensures)) is fits

pub returns-clause-point : goal.returns-clause-point
returns-clause-point c = stays_seen c.get_mut.result.now c.args.top.now c.do_fork.new.self c.get_mut.ensures.value c.do_fork.ensures.point

pub returns-clause-child : goal.returns-clause-child
returns-clause-child c = stays_seen c.get_mut.result.now c.args.top.now c.in_ok-child.child c.get_mut.ensures.value c.in_ok-child.ensures.child
