use Rattle.hall_threads.specs.Passed.Seated.{IsIn, IsProgramOf}
use Rattle.hall_tests.proofs.lanes.go_on_often.Given as goal

-- the seat is in
abbrev pub invariant-loop : goal.invariant-loop
invariant-loop g l = IsProgramOf l.hall l.code × IsIn l.hall l.seat
