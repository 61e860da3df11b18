use Rattle.std.proofs.Common.{◌+◌, ◌<◌, [], ◌∷◌, ◌++◌, sym, ap, ◌∙◌, subst, arith}
use Rattle.std.proofs.lemmas.Result.{err_from_is_err_and}
use Rattle.std.specs.Prelude.{Option, min, length, slice_get}
use Rattle.hall_thief.specs.HallNames.{key_of, LaneSlot, ListSlot, HallSeat}
use Rattle.turn_table.proofs.Standing.{slots_of_seat}
use Rattle.hall_thief.specs.Choosing.{took_lane, HasTried}
use Rattle.hall_thief.proofs.Inside.{slot_inside}
use Rattle.hall_thief.proofs.Chosen.{held_off, told_twice, tried_all, try_more, victim_of}
use Rattle.hall_thief.proofs.choosing.choose.Goals as goal

pub try_place-requires-clause-holds : goal.try_place-requires-clause-holds
try_place-requires-clause-holds c = (c.args.list.now, ap (λ (s : HallSeat). s.hand.holds) c.tries.invariant.1 ∙ c.requires.holds)

pub try_place-requires-clause-slot : goal.try_place-requires-clause-slot
try_place-requires-clause-slot c =
    let there = ap (λ (l : ListSlot). slice_get l.part.order.places c.picked-at.result) (sym c.get.ensures) ∙ sym c.place.ensures ∙ c.in-Some.is in
    subst (λ n. c.in-Some.place.id.0 + 2 < n) (ap (λ (s : HallSeat). s.table.slots) c.tries.invariant.1 ∙ slots_of_seat c.args.row.now c.args.seat.now c.requires.here)
    (slot_inside (key_of c.args.row.now) c.tries.seat c.args.list.now (ap (λ (s : HallSeat). s.hand.holds) c.tries.invariant.1 ∙ c.requires.holds) c.tries.invariant.3
    c.picked-at.result c.in-Some.place there)

pub returns-in-Some-2-clause-seat : goal.returns-in-Some-2-clause-seat
returns-in-Some-2-clause-seat c =
    let there = ap (λ (l : ListSlot). slice_get l.part.order.places c.picked-at.result) (sym c.get.ensures) ∙ sym c.place.ensures ∙ c.in-Some.is in
    let reach = c.leftmost-reach.ensures ∙ ap (λ (l : ListSlot). min c.args.workers (length l.part.order.places)) c.get.ensures in
    victim_of c.args.workers c.args.word c.args.list.now c.tries.invariant.0 c.leftmost-reach.result c.tries.turn c.picked-at.result c.in-Some.place reach c.tries-test.true c.picked-at.ensures.value there
    c.tries.invariant.2 c.args.seat.now c.tries.seat c.try_place.new.seat c.tries.invariant.1 c.in-Some-2.lane
    (subst (λ (found : Option LaneSlot). HasTried c.in-Some.place c.tries.seat found c.try_place.new.seat) c.in-Some-2.is c.in_ok-lane.ensures.seat)

pub returns-in_err-lane-clause-seat : goal.returns-in_err-lane-clause-seat
returns-in_err-lane-clause-seat c =
    let there = ap (λ (l : ListSlot). slice_get l.part.order.places c.picked-at.result) (sym c.get.ensures) ∙ sym c.place.ensures ∙ c.in-Some.is in
    let reach = c.leftmost-reach.ensures ∙ ap (λ (l : ListSlot). min c.args.workers (length l.part.order.places)) c.get.ensures in
    let p = err_from_is_err_and c.from_residual.result c.from_residual.ensures.1 in
    rw (p.1, p.2) (held_off c.args.workers c.args.word c.args.list.now c.tries.invariant.0 c.leftmost-reach.result c.tries.turn c.picked-at.result c.in-Some.place reach c.tries-test.true c.picked-at.ensures.value there
    c.tries.invariant.2 c.args.seat.now c.tries.seat c.try_place.new.seat c.tries.invariant.1 c.in_err-lane.field-0.0 c.in_err-lane.ensures.seat)

pub tries-preserved : goal.tries-preserved
tries-preserved c =
    let there = ap (λ (l : ListSlot). slice_get l.part.order.places c.picked-at.result) (sym c.get.ensures) ∙ sym c.place.ensures ∙ c.in-Some.is in
    let tried = subst (λ (found : Option LaneSlot). HasTried c.in-Some.place c.tries.seat found c.try_place.new.seat) c.in_default-2.is c.in_ok-lane.ensures.seat in
    let below = c.tries-test.true in (
      c.tries.invariant.0 ++ took_lane c.in-Some.place tried.0 ∷ [],
      told_twice c.args.seat.now c.tries.seat c.try_place.new.seat c.tries.invariant.0 (took_lane c.in-Some.place tried.0 ∷ []) c.tries.invariant.1 tried.2,
      try_more c.args.word c.leftmost-reach.result c.args.list.now.part.order.places c.tries.turn c.picked-at.result c.in-Some.place tried.0 c.tries.invariant.0 c.picked-at.ensures.value there tried.1
          c.tries.invariant.2,
      c.in_ok-lane.ensures.meets,
      omega (arith, below),
    )

pub returns-clause-seat : goal.returns-clause-seat
returns-clause-seat c =
    let last = c.tries-test.false in let most = c.tries.invariant.4 in
    let reach = c.leftmost-reach.ensures ∙ ap (λ (l : ListSlot). min c.args.workers (length l.part.order.places)) c.get.ensures in (
      c.tries.invariant.0,
      c.tries.invariant.1,
      tried_all c.args.workers c.args.word c.args.list.now c.tries.invariant.0 c.leftmost-reach.result c.tries.turn reach (omega (arith, last, most)) c.tries.invariant.2,
    )
