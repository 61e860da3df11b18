use Rattle.std.proofs.Common.{arith, ◌<◌, length}
use Rattle.hall_slots.proofs.Crews.{none_times}
use Rattle.hall_slots.proofs.list_calls.place_in.Goals as goal

pub returns : goal.returns
returns c = none_times c.args.worker c.args.crew.now (λ place below. c.places.invariant place (let b : place < length c.args.crew.now = below in omega (arith, b)))
