use Rattle.work_loop.proofs.loops.work.Given as goal

-- the rounds are not used up; the worker may try, and is the same as at first
abbrev pub invariant-tries : goal.invariant-tries
invariant-tries g l = (goal.iterator-tries g).can_next l.iterator' × (goal.iterator-tries g).is_finite l.iterator'
    × g.W.Works.may_try l.table l.code l.worker × g.W.Works.is_same l.initial.worker l.worker
