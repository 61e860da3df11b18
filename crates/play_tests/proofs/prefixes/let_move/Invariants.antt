use Rattle.prefix_laws.specs.Prefixes.{IsSerialOf}
use Rattle.play_tests.proofs.prefixes.let_move.Given as goal

-- it is still the depth-first run of the core's program
abbrev pub invariant-digits : goal.invariant-digits
invariant-digits l = IsSerialOf l.core l.serial
