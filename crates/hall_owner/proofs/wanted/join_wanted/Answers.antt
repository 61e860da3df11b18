use Rattle.std.proofs.Common.{refl, rules}
use Rattle.hall_owner.proofs.Deciding.{with_pool}
use Rattle.thread_frames.specs.declared.next.Next.TheVariants as nexts
use Rattle.hall_owner.proofs.wanted.join_wanted.Goals as goal

pub returns-then-join_releases-gt0 : goal.returns-then-join_releases-gt0
returns-then-join_releases-gt0 c key seat deque ready r is =
    with_pool key seat deque c.args.at.now ready (nexts.Join c.args.child) r c.args.charge is (c.requires, search rules)

pub returns : goal.returns
returns c key seat deque ready r is = (refl, c.requires, is.0, search rules)
