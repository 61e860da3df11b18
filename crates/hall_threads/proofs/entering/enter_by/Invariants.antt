use Rattle.std.proofs.Common.{◌≡◌}
use Rattle.hall_threads.specs.Crews.{IsFreshIn}
use Rattle.hall_threads.proofs.entering.enter_by.Given as goal

-- the rounds are not used up, and the seat has the places that it had
abbrev pub invariant-tries : goal.invariant-tries
invariant-tries g l = (goal.iterator-tries g).can_next l.iterator' × (goal.iterator-tries g).is_finite l.iterator'
    × IsFreshIn l.hall l.by × (l.by.places ≡ l.initial.by.places)
