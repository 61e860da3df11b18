use Rattle.std.proofs.Common.{sym, subst}
use Rattle.std.specs.Prelude.{Ok}
use Rattle.depth_first_list.specs.QuotaWords.{quota_words}
use Rattle.scheduler_state.specs.declared.scheduler.Scheduler.{Scheduler}
use Rattle.scheduler_state.specs.Held.{held_under}
use Rattle.list_changes.specs.Shown.{Stands}
use Rattle.worker_step.specs.Decisions.{Decides}
use Rattle.worker_step.specs.Steps.{IsBeforeAction, Comes}
use Rattle.worker_step.proofs.Owning.{alone, nobody_waits, waited_comes, gave_up_comes, only_empty}
use Rattle.worker_step.proofs.Deciding.{over_quota, waits_for}
use Rattle.worker_step.proofs.owner.go_on.Goals as goal

pub returns-in-GiveUp : goal.returns-in-GiveUp
returns-in-GiveUp c t b items stands =
    let before : Scheduler = c.args.scheduler.now in
    subst (λ told. Comes t (quota_words c.args.k) c.args.limit c.args.worker (held_under before stands c.args.top) before c.give_up.new.scheduler (Ok told)) (sym c.give_up.ensures.told)
    (gave_up_comes t (quota_words c.args.k) c.args.limit before stands c.args.top c.args.next b c.give_up.new.scheduler c.give_up.ensures.leaves
    (over_quota t (quota_words c.args.k) c.args.limit before stands c.args.top c.args.next b
    (subst (λ d. Decides before c.args.worker (quota_words c.args.k) c.args.top c.args.next d) c.in-GiveUp.is c.decide.ensures.decides)))

pub suspend-requires-clause-stands : goal.suspend-requires-clause-stands
suspend-requires-clause-stands c =
    let r = c.requires.ready in
    let before : Scheduler = c.args.scheduler.now in
    let waits = waits_for r.0 (quota_words c.args.k) c.args.limit before r.1.can.stands.1 c.args.top c.args.next c.in-Wait.child r.1.can.period
    (subst (λ d. Decides before c.args.worker (quota_words c.args.k) c.args.top c.args.next d) c.in-Wait.is c.decide.ensures.decides) in
    let b = subst (λ n. IsBeforeAction r.0 (quota_words c.args.k) c.args.limit before c.args.worker c.args.deque c.args.top n) waits.0 r.1 in
    subst (Stands before.list c.args.worker c.args.deque)
    (alone r.0 (quota_words c.args.k) c.args.limit before c.args.top c.in-Wait.child b waits.1 waits.2 r.1.can.stands.0 r.1.can.stands.1) r.1.can.stands.1

pub suspend-requires-clause-none : goal.suspend-requires-clause-none
suspend-requires-clause-none c =
    let r = c.requires.ready in
    let before : Scheduler = c.args.scheduler.now in
    let waits = waits_for r.0 (quota_words c.args.k) c.args.limit before r.1.can.stands.1 c.args.top c.args.next c.in-Wait.child r.1.can.period
    (subst (λ d. Decides before c.args.worker (quota_words c.args.k) c.args.top c.args.next d) c.in-Wait.is c.decide.ensures.decides) in
    let b = subst (λ n. IsBeforeAction r.0 (quota_words c.args.k) c.args.limit before c.args.worker c.args.deque c.args.top n) waits.0 r.1 in
    nobody_waits r.0 (quota_words c.args.k) c.args.limit before c.args.top c.in-Wait.child b waits.1 waits.2 r.1.can.stands.0 r.1.can.stands.1

pub returns-in-Wait : goal.returns-in-Wait
returns-in-Wait c t own items stands =
    let before : Scheduler = c.args.scheduler.now in
    let waits = waits_for t (quota_words c.args.k) c.args.limit before stands c.args.top c.args.next c.in-Wait.child own.can.period
    (subst (λ d. Decides before c.args.worker (quota_words c.args.k) c.args.top c.args.next d) c.in-Wait.is c.decide.ensures.decides) in
    let b = subst (λ n. IsBeforeAction t (quota_words c.args.k) c.args.limit before c.args.worker c.args.deque c.args.top n) waits.0 own in
    only_empty before (λ xs its. Comes t (quota_words c.args.k) c.args.limit c.args.worker (held_under before its c.args.top) before c.suspend.new.scheduler (Ok c.suspend.result))
    (λ its. subst (λ told. Comes t (quota_words c.args.k) c.args.limit c.args.worker (held_under before its c.args.top) before c.suspend.new.scheduler (Ok told)) (sym c.suspend.ensures.told)
    (waited_comes t (quota_words c.args.k) c.args.limit before c.args.top c.in-Wait.child b waits.1 waits.2 its c.suspend.new.scheduler c.suspend.ensures.leaves))
    items stands (alone t (quota_words c.args.k) c.args.limit before c.args.top c.in-Wait.child b waits.1 waits.2 items stands)
