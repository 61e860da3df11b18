use Rattle.std.specs.Prelude.{All}
use Rattle.hall_threads.specs.Passed.Seated.{IsIn, IsProgramOf}
use Rattle.hall_tests.proofs.scripts.do_calls.Given as goal

-- all seats are in
abbrev pub invariant-loop-line : goal.invariant-loop-line
invariant-loop-line g l =
    (goal.iterator-loop-line g).can_next l.line-iterator ×
    (goal.iterator-loop-line g).is_finite l.line-iterator ×
    IsProgramOf l.hall l.code × All (IsIn l.hall) l.seats.items
