use Rattle.scheduler_tests.proofs.Tallies.{take_keeps, held_keeps}
use Rattle.scheduler_tests.proofs.turn_tallies.refuses_what_is_held.Goals as goal

pub take-taken-requires-clause-keeps : goal.take-taken-requires-clause-keeps
take-taken-requires-clause-keeps g c = (take_keeps tt _ 0, held_keeps tt _ 0)

pub take-tried-requires-clause-keeps : goal.take-tried-requires-clause-keeps
take-tried-requires-clause-keeps g c = (take_keeps tt _ 0, held_keeps tt _ 0)
