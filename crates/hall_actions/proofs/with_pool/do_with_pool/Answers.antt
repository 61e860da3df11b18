use Rattle.std.proofs.Common.{[], sym, ap, ◌∙◌, subst}
use Rattle.std.specs.Prelude.{Some}
use Rattle.hall_parts.specs.Here.{ActsHere, MayDo, TakesWords}
use Rattle.hall_parts.specs.Passed.Acts.{AllocIsCharged, Always}
use Rattle.hall_parts.specs.HallNames.{pool_shown, words_asked}
use Rattle.hall_actions.specs.WithPool.{DoesWithPool, IsWithPool}
use Rattle.hall_actions.proofs.Pooled.{its_parent}
use Rattle.hall_actions.proofs.Readied.{fewer, free, may_end}
use Rattle.thread_frames.specs.declared.next.Next.TheVariants as nexts
use Rattle.hall_actions.proofs.with_pool.do_with_pool.Goals as goal

pub end_above-name-requires-clause-above : goal.end_above-name-requires-clause-above
end_above-name-requires-clause-above c =
    let suits = subst (λ n. IsWithPool n c.args.top c.args.lane.now.items) c.in-End.is c.requires.suits in
    its_parent c.args.top c.args.lane.now.items suits.1 suits.2

pub returns-in-Some-clause-words : goal.returns-in-Some-clause-words
returns-in-Some-clause-words c =
    subst (λ n. TakesWords n c.args.top c.do_fork.result (pool_shown c.args.pool.now) (pool_shown c.do_fork.new.pool))
    (sym c.in-Fork.is) c.do_fork.ensures.words

pub returns-in-Join-clause-words : goal.returns-in-Join-clause-words
returns-in-Join-clause-words c =
    subst (λ n. TakesWords n c.args.top c.do_join_giving.result (pool_shown c.args.pool.now) (pool_shown c.do_join_giving.new.pool))
    (sym c.in-Join.is) (c.do_join_giving.ensures.words c.in-Join._child)

pub returns-in-End-clause-words : goal.returns-in-End-clause-words
returns-in-End-clause-words c =
    subst (λ n. TakesWords n c.args.top c.end_above-name.result (pool_shown c.args.pool.now) (pool_shown c.end_above-name.new.pool))
    (sym c.in-End.is) c.end_above-name.ensures.words

pub returns-in-Fault-clause-words : goal.returns-in-Fault-clause-words
returns-in-Fault-clause-words c =
    subst (λ n. TakesWords n c.args.top c.do_fault.result (pool_shown c.args.pool.now) (pool_shown c.do_fault.new.pool))
    (sym c.in-Fault.is) (c.do_fault.ensures.words c.in-Fault._found)

pub returns-in-Alloc-clause-words : goal.returns-in-Alloc-clause-words
returns-in-Alloc-clause-words c =
    subst (λ n. TakesWords n c.args.top c.do_alloc.result (pool_shown c.args.pool.now) (pool_shown c.do_alloc.new.pool))
    (ap nexts.Alloc (ap words_asked (c.requires.next ∙ ap Some c.in-Alloc.is)) ∙ sym c.in-Alloc.is) c.do_alloc.ensures.words

pub returns-in-Release-clause-words : goal.returns-in-Release-clause-words
returns-in-Release-clause-words c =
    subst (λ n. TakesWords n c.args.top c.do_release.result (pool_shown c.args.pool.now) (pool_shown c.do_release.new.pool))
    (ap nexts.Release (ap words_asked (c.requires.next ∙ ap Some c.in-Release.is)) ∙ sym c.in-Release.is) c.do_release.ensures.words

pub returns-in-Alloc-clause-does : goal.returns-in-Alloc-clause-does
returns-in-Alloc-clause-does c =
    subst (λ n. DoesWithPool n c.args.charge c.args.top c.args.lane.now.items c.args.period.now c.do_alloc.new.lane.items c.do_alloc.new.period c.do_alloc.result)
    (sym c.in-Alloc.is)
    (subst (λ w. ActsHere (nexts.Alloc w) (AllocIsCharged c.args.charge) c.args.top c.args.lane.now.items c.args.period.now c.do_alloc.new.lane.items
    c.do_alloc.new.period c.do_alloc.result c.args.charge []) (ap words_asked (c.requires.next ∙ ap Some c.in-Alloc.is)) c.do_alloc.ensures.acts)

pub returns-in-Release-clause-does : goal.returns-in-Release-clause-does
returns-in-Release-clause-does c =
    subst (λ n. DoesWithPool n c.args.charge c.args.top c.args.lane.now.items c.args.period.now c.do_release.new.lane.items c.do_release.new.period c.do_release.result)
    (sym c.in-Release.is)
    (subst (λ w. ActsHere (nexts.Release w) Always c.args.top c.args.lane.now.items c.args.period.now c.do_release.new.lane.items
    c.do_release.new.period c.do_release.result 0 []) (ap words_asked (c.requires.next ∙ ap Some c.in-Release.is)) c.do_release.ensures.acts)

pub returns-in-Fault-clause-does : goal.returns-in-Fault-clause-does
returns-in-Fault-clause-does c =
    subst (λ n. DoesWithPool n c.args.charge c.args.top c.args.lane.now.items c.args.period.now c.do_fault.new.lane.items c.do_fault.new.period c.do_fault.result)
    (sym c.in-Fault.is)
    (c.do_fault.ensures.acts c.in-Fault._found)

pub do_fork-requires-clause-may : goal.do_fork-requires-clause-may
do_fork-requires-clause-may c = subst (λ n. MayDo 2 n c.args.top c.args.lane.now c.args.period.now c.args.memory.now.births) (c.requires.forks c.in-Fork.is) c.requires.may

pub do_alloc-requires-clause-may : goal.do_alloc-requires-clause-may
do_alloc-requires-clause-may c = fewer c.requires.may

pub do_join_giving-requires-clause-may : goal.do_join_giving-requires-clause-may
do_join_giving-requires-clause-may c = free c.requires.may

pub do_release-requires-clause-may : goal.do_release-requires-clause-may
do_release-requires-clause-may c = free c.requires.may

pub do_fault-requires-clause-may : goal.do_fault-requires-clause-may
do_fault-requires-clause-may c = free c.requires.may

pub end_above-name-requires-clause-may : goal.end_above-name-requires-clause-may
end_above-name-requires-clause-may c = may_end c.requires.may
