use Rattle.std.proofs.Common.{refl}
use Rattle.worker_entry.proofs.hall.Hall.hold_list.Goals as goal

pub returns-in-Ok-clause-held : goal.returns-in-Ok-clause-held
returns-in-Ok-clause-held c = (
  c.args.seat,
  record {
    was = c.requires.here;
    idle = c.requires.idle;
    taken = c.in-Ok.ensures.seat;
    same = record { worker = refl; places = refl; owned = refl; stop = refl };
    births = c.requires.here.births;
    meets = c.in-Ok.ensures.meets;
  },
)
