use Rattle.depth_first_run.specs.States.{State}
use Rattle.depth_first_run.specs.Run.{whole}
use Rattle.serial_meaning.proofs.running.close.Goals as goal

pub returns : goal.returns
returns c = λ limit t k setting of result label keeps.
    c.close.ensures limit (State.items (whole setting)) keeps (c.finish_of.ensures t k setting of result label) (c.in_ok-output.ensures t k result label setting of)
