use Rattle.std.proofs.Common.{◌≡◌}
use Rattle.worker_entry.specs.Seated.{IsIn}
use Rattle.hall_threads.proofs.leaving.leave_into.Given as goal

-- The rounds are not used up. The seat that leaves has the places that it had, and notes what it noted. The other is what it was.
abbrev pub invariant-tries : goal.invariant-tries
invariant-tries g l = (goal.iterator-tries g).can_next l.iterator' × (goal.iterator-tries g).is_finite l.iterator'
    × IsIn l.hall l.leaving × (l.leaving.places ≡ l.initial.leaving.places)
    × (l.leaving.place.hand.note ≡ l.initial.leaving.place.hand.note) × (l.into ≡ l.initial.into)
