use Rattle.hall_threads.proofs.Ending.{closed_by}
use Rattle.hall_threads.specs.Crews.{seat_of}
use Rattle.hall_threads.proofs.running.close_by.Goals as goal

pub returns-in-Ok : goal.returns-in-Ok
returns-in-Ok g c = (seat_of c.args.last, closed_by c.args.hall c.args.last c.in-Ok.closing c.requires.end c.in-Ok.ensures.closed c.in-Ok.ensures.told)
