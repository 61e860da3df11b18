use Rattle.std.proofs.Common.{refl, sym, subst}
use Rattle.deque_list.specs.Orders.{OrderView}
use Rattle.hall_slots.specs.Passed.Parts.{Has}
use Rattle.hall_actions.specs.Passed.Rooms.{HasMoreBooks}
use Rattle.hall_slots.specs.declared.list_slot.ListSlot.{ListSlot}
use Rattle.hall_owner.proofs.yields.give_up_in.Goals as goal

pub unreachable-requires : goal.unreachable-requires
unreachable-requires c = c.in_default.not-Some _ c.requires.runs.1

pub give_up-requires-clause-has : goal.give_up-requires-clause-has
give_up-requires-clause-has c = let has = c.requires.has in (
  has.0,
  subst (λ (o : OrderView). Has o.places c.args.deque has.0) (sym c.make_room_to_close.ensures.same.deques.order)
      (subst (λ (l : ListSlot). Has l.part.order.places c.args.deque has.0) (sym c.get_mut-list.ensures.value) has.1),
)

pub returns : goal.returns
returns c = record {
  roomy = c.make_room_to_close.new.list;
  more = subst (λ (l : ListSlot). HasMoreBooks l c.make_room_to_close.new.list) c.get_mut-list.ensures.value c.make_room_to_close.ensures.same;
  room = c.in-Ok.ensures.room;
  running = c.in-Some.running;
  its_period = c.in-Some.is;
  shown = c.give_up.ensures.shown;
  places = c.give_up.ensures.places;
  rest = c.give_up.ensures.rest;
  lane_is = refl;
}
