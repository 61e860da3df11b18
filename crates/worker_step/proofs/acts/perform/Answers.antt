use Rattle.std.proofs.Common.{sym, subst}
use Rattle.thread_frames.specs.declared.next.Next.{Next}
use Rattle.worker_step.specs.Acts.{Performs}
use Rattle.thread_actions.specs.Acts.{IsCharged}
use Rattle.worker_step.proofs.acts.perform.Goals as goal

pub returns-in-Fork : goal.returns-in-Fork
returns-in-Fork c =
    subst (λ (n : Next). Performs n (IsCharged c.args.charge n) c.args.worker c.args.deque c.args.top c.args.scheduler.now c.fork.new.scheduler c.fork.result) (sym c.in-Fork.is) c.fork.ensures

pub returns-in-Join : goal.returns-in-Join
returns-in-Join c =
    subst (λ (n : Next). Performs n (IsCharged c.args.charge n) c.args.worker c.args.deque c.args.top c.args.scheduler.now c.join.new.scheduler c.join.result) (sym c.in-Join.is) c.join.ensures

pub returns-in-Alloc : goal.returns-in-Alloc
returns-in-Alloc c =
    subst (λ (n : Next). Performs n (IsCharged c.args.charge n) c.args.worker c.args.deque c.args.top c.args.scheduler.now c.allocate.new.scheduler c.allocate.result) (sym c.in-Alloc.is) c.allocate.ensures

pub returns-in-Release : goal.returns-in-Release
returns-in-Release c =
    subst (λ (n : Next). Performs n (IsCharged c.args.charge n) c.args.worker c.args.deque c.args.top c.args.scheduler.now c.release.new.scheduler c.release.result) (sym c.in-Release.is) c.release.ensures

pub returns-in-Dummy : goal.returns-in-Dummy
returns-in-Dummy c =
    subst (λ (n : Next). Performs n (IsCharged c.args.charge n) c.args.worker c.args.deque c.args.top c.args.scheduler.now c.dummy.new.scheduler c.dummy.result) (sym c.in-Dummy.is) c.dummy.ensures

pub returns-in-Fault : goal.returns-in-Fault
returns-in-Fault c =
    subst (λ (n : Next). Performs n (IsCharged c.args.charge n) c.args.worker c.args.deque c.args.top c.args.scheduler.now c.fault.new.scheduler c.fault.result) (sym c.in-Fault.is) c.fault.ensures

pub returns-in-End : goal.returns-in-End
returns-in-End c =
    subst (λ (n : Next). Performs n (IsCharged c.args.charge n) c.args.worker c.args.deque c.args.top c.args.scheduler.now c.end.new.scheduler c.end.result) (sym c.in-End.is) c.end.ensures
