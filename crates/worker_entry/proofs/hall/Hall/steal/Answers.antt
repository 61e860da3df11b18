use Rattle.std.proofs.Common.{refl}
use Rattle.worker_entry.proofs.hall.Hall.steal.Goals as goal

pub steal_with-requires-clause-held : goal.steal_with-requires-clause-held
steal_with-requires-clause-held c = (
  c.args.seat.now,
  record {
    was = c.requires.here;
    idle = c.requires.idle;
    taken = c.in-Ok.ensures.seat;
    same = record { worker = refl; places = refl; owned = refl; stop = refl };
    births = c.requires.here.births;
    meets = c.in-Ok.ensures.meets;
  },
)
