use Rattle.std.proofs.Common.{◌≡◌, drop}
use Rattle.std.specs.Prelude.{max}
use Rattle.flat_program.specs.Programs.{deepest_mark}
use Rattle.flat_program.proofs.marking.deepest_of.Given as goal

abbrev pub invariant-loop-place : goal.invariant-loop-place
invariant-loop-place l = max l.deepest (deepest_mark (drop l.place-index l.places)) ≡ deepest_mark l.places
