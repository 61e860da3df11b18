use Rattle.loop_laws.proofs.Plain.{numbers_loops}
use Rattle.loop_laws.proofs.number_loop_laws.numbers_loops_are_plain.Goals as goal

pub returns : goal.returns
returns c = numbers_loops
