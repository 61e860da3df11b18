-- A lane that shows what it showed leaves a hall whose law holds.
use Rattle.std.proofs.Common.{◌≡◌, ◌≢◌, ℕ, suc, ◌+◌, List, map, set, inl, inr, refl, sym, ap, ◌∙◌, subst, arith, length-set}
use Rattle.std.specs.Prelude.{None, Some, slice_get}
use Rattle.std.specs.Option.{option_map}
use Rattle.std.proofs.lemmas.Bool.{cases_eq}
use Rattle.std.proofs.lemmas.Option.{same_Some}
use mathlib.Core.Option.{some}
use lib.ListN.{get_elem?}
use lib.Seq.{map-set}
use Rattle.atomic_table.proofs.Lists.{at_map, set_again}
use Rattle.hall_thief.specs.HallNames.{DequeId, Terms, machine_of, Value, of_lane, PutMay, HallKey, LaneSlot, ListSlot, SeatNote, Slot, table_of, quota_of}
use Rattle.hall_thief.specs.HallNames.{terms_of, running_shown, value_of, view_of, end_shown, threads_in, threads_of, IsLaneOf, thread_that_waits}
use Rattle.hall_thief.specs.HallNames.{ThreadsAreAtPoints, LanesAreInUse, HallSeat, IsPlaced}
use Rattle.deque_list.specs.declared.place.Place.{Place}
use Rattle.hall_slots.specs.Passed.State.{HallLaw}
use Rattle.hall_slots.specs.Passed.HallMachinePoints.{AreAtPoints}
use Rattle.hall_slots.specs.Passed.Writing.{lane_slot}
use Rattle.hall_slots.proofs.Passed.DequeMachineLists.{each_map}
use Rattle.open_periods.proofs.Lists.{set_same, set_other}
use Rattle.hall_slots.specs.Passed.Thread.{Thread}
use Rattle.hall_slots.specs.Passed.ThreadFramesPoints.{IsAtPoint}
use Rattle.hall_slots.specs.Passed.Shown.{thread_shown}
use Rattle.turn_table.specs.Law.{PutKeeps}
use Rattle.turn_table.proofs.NoteLaws.{put_writes}
use Rattle.turn_table.proofs.Standing.{shown_as}
use Rattle.turn_table.specs.Backs.{still, unchanged}
use Rattle.turn_table.proofs.Resting.{put_rests}
use Rattle.hall_slots.specs.declared.slot.Slot.TheVariants as slots
use Rattle.hall_slots.specs.Law.{HallHolds, places_of, joined_note}
use Rattle.hall_slots.proofs.Keeping.{Whole}
use Rattle.hall_slots.proofs.Putting.{shaped_set}
use Rattle.hall_slots.proofs.Reading.{IfLane, get_of_at}
use Rattle.hall_thief.proofs.Slots.{lane_kind, slot_is}
use Rattle.hall_slots.proofs.Stopped.{written_alone}
use Rattle.hall_thief.specs.Lanes.{HoldsTheSameLane}

module _ (key : HallKey) (shown : List Slot) (count : ℕ) (notes : List SeatNote) (holds : HallHolds key shown count notes) (id : DequeId) (was now : LaneSlot)
    (at : get_elem? shown (lane_slot id) ≡ some (slots.Lane was)) (items : now.lane.items ≡ was.lane.items) (running : now.running ≡ was.running) where
  abbrev slots_now : List Slot
  slots_now = set shown (lane_slot id) (slots.Lane now)

  shows_same : value_of (slots.Lane was) ≡ value_of (slots.Lane now)
  shows_same = λ k. of_lane (record { threads = map thread_shown (sym items k); period = option_map running_shown (sym running k) })

  values_same : map value_of slots_now ≡ map value_of shown
  values_same = map-set value_of shown (lane_slot id) (slots.Lane now)
      ∙ set_again (map value_of shown) (lane_slot id) (value_of (slots.Lane now)) (at_map value_of shown (lane_slot id) (slots.Lane was) at ∙ ap (λ (v : Value). some v) shows_same)

  lane_was : slice_get shown (lane_slot id) ≡ Some (slots.Lane was)
  lane_was = get_of_at shown (lane_slot id) (slots.Lane was) at

  lane_now : slice_get slots_now (lane_slot id) ≡ Some (slots.Lane now)
  lane_now = set_same shown (lane_slot id) (slots.Lane now) (slots.Lane was) lane_was

  first_same : slice_get slots_now 0 ≡ slice_get shown 0
  first_same = set_other shown (lane_slot id) 0 (slots.Lane now) (λ e. omega (arith, e))

  pool_same : slice_get slots_now 1 ≡ slice_get shown 1
  pool_same = set_other shown (lane_slot id) 1 (slots.Lane now) (λ e. omega (arith, e))

  other_same : (other : DequeId) → other.0 ≢ id.0 → slice_get slots_now (lane_slot other) ≡ slice_get shown (lane_slot other)
  other_same other apart = set_other shown (lane_slot id) (lane_slot other) (slots.Lane now) (λ e. apart (omega (arith, e)))

  threads_same : (other : DequeId) → threads_of slots_now other ≡ threads_of shown other
  threads_same other = elim (cases_eq other.0 id.0) [
    | inr apart ↦ ap threads_in (other_same other apart)
    | inl same ↦ ap (λ n. threads_in (slice_get slots_now (suc (suc n)))) same ∙ ap threads_in lane_now ∙ items ∙ sym (ap threads_in lane_was)
        ∙ sym (ap (λ n. threads_in (slice_get shown (suc (suc n)))) same)
  ]

  -- each lane shows what one showed
  lane_from : (other : DequeId) (l : LaneSlot) → IsLaneOf slots_now other l → (m : LaneSlot) × IsLaneOf shown other m × (l.lane.items ≡ m.lane.items) × (l.running ≡ m.running)
  lane_from other l is = elim (cases_eq other.0 id.0) [
    | inr apart ↦ (l, sym (other_same other apart) ∙ is, refl, refl)
    | inl same ↦
        let this : slots.Lane now ≡ slots.Lane l = same_Some (slots.Lane now) (slots.Lane l) (sym lane_now ∙ sym (ap (λ n. slice_get slots_now (suc (suc n))) same) ∙ is) in (
          was,
          ap (λ n. slice_get shown (suc (suc n))) same ∙ lane_was,
          subst (IfLane (λ (m : LaneSlot). m.lane.items ≡ was.lane.items)) this items,
          subst (IfLane (λ (m : LaneSlot). m.running ≡ was.running)) this running,
        )
  ]

  lanes_now : (list : ListSlot) → LanesAreInUse shown list → LanesAreInUse slots_now list
  lanes_now list use_of = record {
    spare = λ other l apart is. let from = lane_from other l is in let was_spare = use_of.spare other from.0 apart from.1 in (from.2 ∙ was_spare.0, from.3 ∙ was_spare.1);
    unowned = each_map (λ (place : Place). (m : LaneSlot) → place.owner ≡ None → IsLaneOf shown place.id m → m.running ≡ None)
        (λ (place : Place). (m : LaneSlot) → place.owner ≡ None → IsLaneOf slots_now place.id m → m.running ≡ None) list.part.order.places
        (λ place there idle m none is. let from = lane_from place.id m is in from.3 ∙ idle from.0 none from.1) use_of.unowned;
  }

  points_now : (list : ListSlot) → ThreadsAreAtPoints key shown notes list → ThreadsAreAtPoints key slots_now notes list
  points_now list points = subst (λ (f : DequeId → List Thread). AreAtPoints (IsAtPoint (table_of key) (quota_of key)) (map view_of notes) (option_map end_shown list.end) list.part.order.places f
      (map thread_that_waits list.part.waiting.entries)) (λ k other. sym (threads_same other) k) points

  pub again : HallHolds key slots_now count notes
  again = record {
    key_is = holds.key_is;
    sized = length-set shown (lane_slot id) (slots.Lane now) ∙ holds.sized;
    shaped = shaped_set shown (lane_slot id) (slots.Lane now) holds.shaped (lane_kind id.0);
    state = λ c of. subst (λ (vs : List Value). ∥ HallLaw (machine_of c (terms_of key)) (Terms.limits (terms_of key)) vs count (map view_of notes) ∥₁) (sym values_same) (holds.state c of);
    parts = record {
      pool = λ pool is. holds.parts.pool pool (sym pool_same ∙ is);
      list = λ list is. holds.parts.list list (sym first_same ∙ is);
      points = λ list is. points_now list (holds.parts.points list (sym first_same ∙ is));
      lanes = λ list is. lanes_now list (holds.parts.lanes list (sym first_same ∙ is));
      end = λ list is. holds.parts.end list (sym first_same ∙ is);
    };
  }

-- so a put back of it is what the row asks for
module _ (key : HallKey) (seat : HallSeat) (placed : IsPlaced seat) (id : DequeId) (lane : LaneSlot) (has : HoldsTheSameLane seat id lane) where
  same_may : PutMay HallHolds key seat (id.0 + 2) (slots.Lane lane) unchanged seat.hand.note
  same_may shown count notes holds long shows mine =
      let at : get_elem? shown (lane_slot id) ≡ some (slots.Lane has.before) = ap (get_elem? shown) (sym (slot_is id.0)) ∙ shown_as shown (id.0 + 2) (slots.Lane has.before) seat.hand.holds shows has.held in
      subst (λ (z : List Slot × List SeatNote). HallHolds key z.0 count z.1)
      (λ k. (sym (written_alone shown (id.0 + 2) (slots.Lane lane) seat.hand.holds shows) k, sym (set_again notes seat.number seat.hand.note mine) k))
      (subst (λ n. HallHolds key (set shown n (slots.Lane lane)) count notes) (sym (slot_is id.0)) (again key shown count notes holds id has.before lane at has.items has.running))

  pub same_keeps : PutKeeps Whole joined_note key seat (id.0 + 2) (slots.Lane lane) still unchanged
  same_keeps = put_rests places_of HallHolds joined_note key seat (id.0 + 2) (slots.Lane lane) still unchanged placed
      (put_writes HallHolds joined_note key seat (id.0 + 2) (slots.Lane lane) still unchanged same_may)
