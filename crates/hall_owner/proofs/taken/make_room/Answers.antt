use Rattle.std.proofs.Common.{refl, sym, subst}
use Rattle.hall_actions.specs.WithList.{HasMoreFor}
use Rattle.hall_slots.specs.declared.list_slot.ListSlot.{ListSlot}
use Rattle.hall_owner.specs.Taken.{HasMoreOf}
use Rattle.hall_owner.specs.declared.taken.Taken.TheVariants.{WithPool, WithList, WithAll}
use Rattle.hall_owner.proofs.Ending.{either}
use Rattle.hall_owner.proofs.taken.make_room.Goals as goal

pub returns-in-OnLane-clause-same : goal.returns-in-OnLane-clause-same
returns-in-OnLane-clause-same c = subst (λ t. HasMoreOf t t) (sym c.in-OnLane.is) refl

pub returns-in-WithPool-clause-same : goal.returns-in-WithPool-clause-same
returns-in-WithPool-clause-same c = subst (λ t. HasMoreOf t (WithPool c.make_room_for_move.new.pool c.in-WithPool.next c.in-WithPool.charge)) (sym c.in-WithPool.is)
    (c.make_room_for_move.new.pool, refl, c.make_room_for_move.ensures.same)

pub returns-in-WithPool-clause-room : goal.returns-in-WithPool-clause-room
returns-in-WithPool-clause-room c = either _ _ c.make_room_for_move.result c.make_room_for_move.ensures.room tt

pub returns-in-WithList-clause-same : goal.returns-in-WithList-clause-same
returns-in-WithList-clause-same c = subst (λ t. HasMoreOf t (WithList c.make_room_for.new.list c.in-WithList.event)) (sym c.in-WithList.is) (
  c.make_room_for.new.list,
  refl,
  subst (λ (l : ListSlot). HasMoreFor c.in-WithList.event l c.make_room_for.new.list) c.get_mut.ensures.value c.make_room_for.ensures.same,
)

pub returns-in-WithList-clause-room : goal.returns-in-WithList-clause-room
returns-in-WithList-clause-room c = either _ _ c.make_room_for.result c.make_room_for.ensures.room tt

pub returns-in-WithAll-clause-same : goal.returns-in-WithAll-clause-same
returns-in-WithAll-clause-same c = subst (λ t. HasMoreOf t (WithAll c.make_room_in_both.new.list c.make_room_in_both.new.pool c.in-WithAll.event)) (sym c.in-WithAll.is)
    (c.make_room_in_both.new.list, c.make_room_in_both.new.pool, refl, c.make_room_in_both.ensures.list, c.make_room_in_both.ensures.pool)

pub returns-in-WithAll-clause-room : goal.returns-in-WithAll-clause-room
returns-in-WithAll-clause-room c = either _ _ c.make_room_in_both.result c.make_room_in_both.ensures.room tt
