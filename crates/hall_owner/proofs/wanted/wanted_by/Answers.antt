use Rattle.std.proofs.Common.{subst}
use Rattle.hall_slots.specs.Keys.{quota_of}
use Rattle.hall_owner.proofs.Deciding.{missing_is}
use Rattle.hall_owner.proofs.Showing.{is_spent}
use Rattle.thread_actions.specs.Readiness.{IsReadiness}
use Rattle.hall_owner.proofs.wanted.wanted_by.Goals as goal

pub returns-in-Ready : goal.returns-in-Ready
returns-in-Ready c key seat deque ready r is = c.ready_wanted.ensures key seat deque ready r
    (subst (λ x. IsReadiness c.args.at.now.running.period.used (quota_of key) c.args.at.now.top c.args.next x) c.in-Ready.is is)

pub returns-in-Spent : goal.returns-in-Spent
returns-in-Spent c key seat deque ready r is = is_spent key c.args.at.now c.args.next
    (subst (λ x. IsReadiness c.args.at.now.running.period.used (quota_of key) c.args.at.now.top c.args.next x) c.in-Spent.is is)

pub returns-in-Missing : goal.returns-in-Missing
returns-in-Missing c key seat deque ready r is =
    missing_is c.args.at.now.running.period.used (quota_of key) c.args.at.now.top c.args.next c.in-Missing.child
    (subst (λ x. IsReadiness c.args.at.now.running.period.used (quota_of key) c.args.at.now.top c.args.next x) c.in-Missing.is is)

pub ready_wanted-requires : goal.ready_wanted-requires
ready_wanted-requires c = let r = c.requires in (
  r.0,
  r.1,
  r.2,
  r.3,
  r.4,
  subst (λ x. IsReadiness c.args.at.now.running.period.used (quota_of r.0) c.args.at.now.top c.args.next x) c.in-Ready.is r.5,
)
