-- A seat that took a lane, and put it back.
use Rattle.std.proofs.Common.{◌+◌, inl, refl, sym, ap, subst}
use Rattle.deque_list.specs.declared.place.Place.{Place}
use Rattle.hall_thief.specs.HallNames.{HasAs, LaneSlot, HallSeat, IsTaken}
use Rattle.hall_slots.specs.declared.slot.Slot.TheVariants as slots
use Rattle.hall_thief.specs.Choosing.{HoldsTheList}

module _ (before middle after : HallSeat) (place : Place) (lane : LaneSlot) (list : HoldsTheList before) (taken : IsTaken before (place.id.0 + 2) (slots.Lane lane) middle) where
  pub lane_held : HasAs (place.id.0 + 2) (slots.Lane lane) middle.hand.holds
  lane_held = subst (HasAs (place.id.0 + 2) (slots.Lane lane)) (sym (ap (λ (s : HallSeat). s.hand.holds) taken)) (inl (refl, refl))
