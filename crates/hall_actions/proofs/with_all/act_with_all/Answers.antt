use Rattle.std.proofs.Common.{sym, subst}
use Rattle.containers.specs.BoundedList.{spare}
use Rattle.hall_parts.specs.HallNames.{key_of, ListSlot}
use Rattle.hall_actions.specs.WithAll.{IsReadyForAll, IsWithAll}
use Rattle.hall_actions.proofs.Readied.{may_do}
use Rattle.hall_actions.proofs.with_all.act_with_all.Goals as goal

pub do_with_all-lane-requires-clause-may : goal.do_with_all-lane-requires-clause-may
do_with_all-lane-requires-clause-may c = may_do _ _ _ _ _ _ _ _ c.requires.ready.is c.requires.none

pub do_with_all-lane-requires-clause-can : goal.do_with_all-lane-requires-clause-can
do_with_all-lane-requires-clause-can c = let key = key_of c.args.row.now in (
  key,
  c.requires.ready.is.point,
  subst (λ (l : ListSlot). IsWithAll key c.args.deque l c.args.pool c.args.at c.args.event) (sym c.get_mut.ensures.value) c.requires.ready.can,
)

pub put_all-requires-clause-may : goal.put_all-requires-clause-may
put_all-requires-clause-may c = let key = key_of c.args.row.now in let seat = c.args.seat.now in
    c.do_with_all-lane.ensures.writes key seat (subst (λ (l : ListSlot). IsReadyForAll key seat c.args.deque l c.args.pool c.args.at (spare c.args.memory.now.births)
    c.args.event) (sym c.get_mut.ensures.value) c.requires.ready)
