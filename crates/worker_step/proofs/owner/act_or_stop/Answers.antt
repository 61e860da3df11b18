use Rattle.std.proofs.Common.{subst, ◌∙◌, ◌≤◌}
use Rattle.std.specs.Prelude.{◌+◌}
use Rattle.depth_first_list.specs.QuotaWords.{quota_words}
use Rattle.scheduler_state.specs.declared.event.Event.TheVariants.{Acted}
use Rattle.scheduler_state.specs.declared.scheduler.Scheduler.{Scheduler}
use Rattle.thread_actions.specs.Acts.{IsCharged}
use Rattle.worker_step.specs.Memory.{words_taken_by}
use Rattle.worker_step.specs.Refusals.{Refuses}
use Rattle.worker_step.proofs.Owning.{refused_comes, acted_comes}
use Rattle.worker_step.proofs.Deciding.{asked_is, charged_within, is_charged, ended_before, may_act, may_come, alloc_charged, fork_charged, before_taken, there_taken, comes_taken}
use Rattle.worker_step.proofs.owner.act_or_stop.Goals as goal

pub returns-in-Err : goal.returns-in-Err
returns-in-Err c t b items stands =
    let before : Scheduler = c.args.scheduler.now in
    let k = quota_words c.args.k in
    refused_comes t k c.args.limit before stands c.args.top c.args.next b (words_taken_by c.args.next) (asked_is c.args.top c.args.next)
    (charged_within t k c.args.limit before stands c.args.top c.args.next b c.args.charge c.requires.decides)
    (ended_before t k c.args.limit before stands c.args.top c.args.next b c.args.charge c.requires.decides)
    c.in-Err.stop c.put_back.new.scheduler (subst (λ n. Refuses before c.args.limit n c.in-Err.stop) (c.from.ensures ∙ c.words_taken.ensures) c.in-Err.ensures.refused)
    (c.put_back.ensures.held items stands) c.put_back.ensures.keeps

pub take_result-requires : goal.take_result-requires
take_result-requires c child is missing =
    let r = c.requires.ready in
    may_come r.0 (quota_words c.args.k) c.args.limit c.args.scheduler.now r.1.can.stands.1 c.args.top c.args.next r.1 c.args.charge c.requires.decides child is missing

pub act-requires-clause-can : goal.act-requires-clause-can
act-requires-clause-can c =
    let r = c.requires.ready in
    (before_taken r.0 (quota_words c.args.k) c.args.limit c.args.scheduler.now c.args.worker c.args.deque c.args.top c.args.next r.1
    c.take_result.new.results c.take_result.new.top c.take_result.ensures).can

pub act-requires-clause-may : goal.act-requires-clause-may
act-requires-clause-may c =
    let r = c.requires.ready in
    let before : Scheduler = c.args.scheduler.now in
    let later : Scheduler = record before { results = c.take_result.new.results } in
    let k = quota_words c.args.k in
    may_act r.0 k c.args.limit later r.1.can.stands.1 c.take_result.new.top c.args.next
    (before_taken r.0 k c.args.limit before c.args.worker c.args.deque c.args.top c.args.next r.1 c.take_result.new.results c.take_result.new.top c.take_result.ensures) c.args.charge
    (alloc_charged r.0 k c.args.limit before r.1.can.stands.1 c.args.top c.args.next c.args.charge c.requires.decides)
    (fork_charged r.0 k c.args.limit before r.1.can.stands.1 c.args.top c.args.next c.args.charge c.requires.decides (r.1.sound r.1.can.stands.0 r.1.can.stands.1).quota)
    c.requires.bounded
    (subst (λ n. before.pool.live + n ≤ before.pool.capacity) (c.from.ensures ∙ c.words_taken.ensures) c.in_default.ensures.fits)
    (there_taken r.0 k c.args.limit before r.1.can.stands.1 c.args.top c.args.next r.1 c.take_result.new.results c.take_result.new.top c.take_result.ensures)

pub returns : goal.returns
returns c t b items stands =
    let before : Scheduler = c.args.scheduler.now in
    let later : Scheduler = record before { results = c.take_result.new.results } in
    let k = quota_words c.args.k in
    let now = before_taken t k c.args.limit before c.args.worker c.args.deque c.args.top c.args.next b c.take_result.new.results c.take_result.new.top c.take_result.ensures in
    comes_taken t k c.args.limit before stands c.args.top c.args.next b c.take_result.new.results c.take_result.new.top c.take_result.ensures c.act.new.scheduler (Acted c.act.result)
    (acted_comes t k c.args.limit later stands c.take_result.new.top c.args.next now (words_taken_by c.args.next) (asked_is c.take_result.new.top c.args.next)
    (IsCharged c.args.charge c.args.next) c.act.new.scheduler c.act.result c.act.ensures
    (is_charged t k c.args.limit later stands c.take_result.new.top c.args.next now c.args.charge
    (alloc_charged t k c.args.limit before stands c.args.top c.args.next c.args.charge c.requires.decides)
    (fork_charged t k c.args.limit before stands c.args.top c.args.next c.args.charge c.requires.decides (b.sound items stands).quota))
    (subst (λ n. before.pool.live + n ≤ before.pool.capacity) (c.from.ensures ∙ c.words_taken.ensures) c.in_default.ensures.fits) c.in_default.ensures.few)
