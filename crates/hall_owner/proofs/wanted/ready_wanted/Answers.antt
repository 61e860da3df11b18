use Rattle.std.proofs.Common.{sym, subst}
use Rattle.hall_slots.specs.Keys.{quota_of}
use Rattle.hall_actions.specs.WithPool.{IsWithPool}
use Rattle.hall_owner.proofs.Deciding.{there_by, with_pool}
use Rattle.hall_owner.specs.Asked.{IsWanted}
use Rattle.hall_owner.specs.Ready.{IsReadyTo}
use Rattle.thread_actions.specs.Readiness.{IsReadiness}
use Rattle.thread_actions.specs.declared.readiness.Readiness.TheVariants.{Ready}
use Rattle.hall_owner.proofs.wanted.ready_wanted.Goals as goal

pub returns-in-Fork : goal.returns-in-Fork
returns-in-Fork c key seat deque ready r is = with_pool key seat deque c.args.at.now ready c.args.next r c.args.charge is
    (subst (λ n. IsWithPool n c.args.at.now.top c.args.at.now.lane.items) (sym c.in-Fork.is) tt)

pub returns-in-Alloc : goal.returns-in-Alloc
returns-in-Alloc c key seat deque ready r is = with_pool key seat deque c.args.at.now ready c.args.next r c.args.charge is
    (subst (λ n. IsWithPool n c.args.at.now.top c.args.at.now.lane.items) (sym c.in-Alloc.is) tt)

pub returns-in-Release : goal.returns-in-Release
returns-in-Release c key seat deque ready r is = with_pool key seat deque c.args.at.now ready c.args.next r c.args.charge is
    (subst (λ n. IsWithPool n c.args.at.now.top c.args.at.now.lane.items) (sym c.in-Release.is) tt)

pub returns-in-Fault : goal.returns-in-Fault
returns-in-Fault c key seat deque ready r is = with_pool key seat deque c.args.at.now ready c.args.next r c.args.charge is
    (subst (λ n. IsWithPool n c.args.at.now.top c.args.at.now.lane.items) (sym c.in-Fault.is) tt)

pub returns-in-Join : goal.returns-in-Join
returns-in-Join c key seat deque ready r is = subst (λ n. IsWanted key seat.hand.note.worker c.args.at.now n c.join_wanted.result) (sym c.in-Join.is)
    (c.join_wanted.ensures key seat deque ready (subst (λ n. IsReadyTo key seat deque c.args.at.now n ready) c.in-Join.is r)
    (subst (λ n. IsReadiness c.args.at.now.running.period.used (quota_of key) c.args.at.now.top n (Ready c.args.charge)) c.in-Join.is is))

pub returns-in-End : goal.returns-in-End
returns-in-End c key seat deque ready r is = subst (λ n. IsWanted key seat.hand.note.worker c.args.at.now n c.end_wanted.result) (sym c.in-End.is)
    (c.end_wanted.ensures key seat deque ready (subst (λ n. IsReadyTo key seat deque c.args.at.now n ready) c.in-End.is r)
    (subst (λ n. IsReadiness c.args.at.now.running.period.used (quota_of key) c.args.at.now.top n (Ready c.args.charge)) c.in-End.is is))

pub join_wanted-requires : goal.join_wanted-requires
join_wanted-requires c = let r = c.requires in
    there_by r.0 r.1 r.2 c.args.at.now r.3 c.in-Join.child (subst (λ n. IsReadyTo r.0 r.1 r.2 c.args.at.now n r.3) c.in-Join.is r.4)
    (subst (λ n. IsReadiness c.args.at.now.running.period.used (quota_of r.0) c.args.at.now.top n (Ready c.args.charge)) c.in-Join.is r.5).0
