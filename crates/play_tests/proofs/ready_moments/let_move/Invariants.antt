use Rattle.prefix_laws.specs.Prefixes.{IsSerialOfList}
use Rattle.play_tests.proofs.ready_moments.let_move.Given as goal

-- it is still the depth-first run of the core's program
abbrev pub invariant-digits : goal.invariant-digits
invariant-digits l = IsSerialOfList l.core l.serial
