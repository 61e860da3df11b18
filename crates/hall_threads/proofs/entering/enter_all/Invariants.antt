use Rattle.hall_threads.specs.Crews.{IsCrew}
use Rattle.hall_threads.proofs.entering.enter_all.Given as goal

-- the members so far and the first seat have the places of all workers
abbrev pub invariant-loop-its : goal.invariant-loop-its
invariant-loop-its g l = (goal.iterator-loop-its g).can_next l.its-iterator × (goal.iterator-loop-its g).is_finite l.its-iterator
    × IsCrew l.hall l.first l.crew.items
