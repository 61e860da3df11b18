use Rattle.flat_threads.proofs.Bridge.{marks_say_nothing}
use Rattle.flat_threads.proofs.laws.marks_say_nothing.Goals as goal

pub returns : goal.returns
returns c = marks_say_nothing
