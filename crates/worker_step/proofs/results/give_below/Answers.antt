use Rattle.std.proofs.Common.{sym, subst}
use Rattle.std.proofs.lemmas.Option.{none-some, same_Some}
use Rattle.deque_list.specs.Ids.{IsLive}
use Rattle.list_changes.proofs.Putting.{live, here, at_rank}
use Rattle.thread_frames.specs.Children.{IsAwaited}
use Rattle.thread_frames.specs.Views.{children_of, label_of}
use Rattle.thread_frames.specs.declared.thread.Thread.{Thread}
use Rattle.worker_step.proofs.Giving.{comes_below}
use Rattle.worker_step.proofs.results.give_below.Goals as goal

pub pop_top-requires : goal.pop_top-requires
pop_top-requires c = live c.requires.2

pub unreachable-requires : goal.unreachable-requires
unreachable-requires c = absurd (none-some c.requires.0 (c.in_default.ensures.item _ (here c.requires.2) (at_rank c.requires.2)))

pub give-requires : goal.give-requires
give-requires c =
    let first = same_Some c.in-Some.parent c.requires.0 (c.in-Some.ensures.item _ (here c.requires.2) (at_rank c.requires.2)) in
    subst (λ (x : Thread). IsAwaited (label_of x) c.args.ended (children_of x)) (sym first) c.requires.3

pub push_top-requires-clause-live : goal.push_top-requires-clause-live
push_top-requires-clause-live c = subst (λ ids. IsLive ids c.args.deque) (sym c.pop_top.ensures.ids) (live c.requires.2)

pub returns : goal.returns
returns c =
    comes_below c.args.worker c.args.deque c.args.ended c.args.list.now c.pop_top.new.self c.push_top.new.self c.in-Some.parent c.give.new.parent
    c.in-Some.ensures.item c.pop_top.ensures.deque c.push_top.ensures.deque c.pop_top.ensures.rest c.push_top.ensures.rest c.requires
    c.give.ensures
