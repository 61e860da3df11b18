use Rattle.depth_first_list.specs.QuotaWords.{quota_words}
use Rattle.worker_step.proofs.Readying.{used_by_seat, ready_decides, spent_decides, missing_decides}
use Rattle.worker_step.proofs.decisions.decide.Goals as goal

pub returns-in-Ready-clause-decides : goal.returns-in-Ready-clause-decides
returns-in-Ready-clause-decides c =
    ready_decides c.args.scheduler.now c.args.worker (quota_words c.args.k) c.in-Some.seat.now.period.used c.args.top.now
    (used_by_seat c.args.scheduler.now.table c.args.worker c.in-Some.seat.now c.in-Some.ensures) c.args.next c.in-Ready.charge c.in-Ready.ensures

pub returns-in-Spent-clause-decides : goal.returns-in-Spent-clause-decides
returns-in-Spent-clause-decides c =
    spent_decides c.args.scheduler.now c.args.worker (quota_words c.args.k) c.in-Some.seat.now.period.used c.args.top.now
    (used_by_seat c.args.scheduler.now.table c.args.worker c.in-Some.seat.now c.in-Some.ensures) c.args.next c.in-Spent.ensures

pub returns-in-Missing-clause-decides : goal.returns-in-Missing-clause-decides
returns-in-Missing-clause-decides c =
    missing_decides c.args.scheduler.now c.args.worker (quota_words c.args.k) c.in-Some.seat.now.period.used c.args.top.now
    (used_by_seat c.args.scheduler.now.table c.args.worker c.in-Some.seat.now c.in-Some.ensures) c.args.next c.in-Missing.child c.in-Missing.ensures
    c.by_kept.result c.by_kept.ensures
