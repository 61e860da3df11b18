-- The stops of a thief have their causes.
use Rattle.std.proofs.Common.{◌≡◌, ℕ, ◌+◌, ◌%◌, ◌<◌, ◌≤◌, min, List, length, inr, refl, sym, ap, ◌∙◌, subst, arith}
use Rattle.std.proofs.Math.Nat.{mod-eq_of_lt}
use Rattle.std.proofs.lemmas.List.{length-map}
use Rattle.std.proofs.lemmas.Option.{slice_get-map}
use Rattle.std.specs.Prelude.{None, Some, slice_get, slice_set}
use Rattle.std.specs.Option.{option_map}
use lib.ListN.{get_elem?}
use Rattle.depth_first_list.specs.Actions.{record_words}
use Rattle.depth_first_run.specs.States.{Setting}
use Rattle.depth_first_run.proofs.Built.{whole_is_depth_first}
use Rattle.deque_list.specs.declared.place.Place.{Place}
use Rattle.deque_list.specs.Deques.{Deque}
use Rattle.hall_slots.specs.Passed.Moments.{Moment}
use Rattle.hall_slots.specs.Passed.Play as play
use Rattle.hall_slots.specs.Passed.Play.{IsFirst}
use Rattle.hall_thief.specs.HallNames.{Terms, machine_of, HasAs, Hall, LaneShown, ListShown, by_rule, deque_of, deques_of, lane_at, HallKey, LaneSlot}
use Rattle.hall_thief.specs.HallNames.{ListSlot, Slot, table_of, quota_of, terms_of, lane_shown, stop_shown, view_of, HallSeat}
use Rattle.moment_shown.specs.Parts as parts
use Rattle.open_periods.proofs.Lists.{set_same}
use Rattle.play_rules.specs.declared.stop.Stop.{Stop as AnyStop}
use Rattle.play_rules.specs.declared.stop.Stop.TheVariants.{DequesFull}
use Rattle.hall_slots.specs.Passed.Shown.{thread_shown}
use Rattle.thread_state.specs.Settings.{IsSettingOf}
use Rattle.turn_table.specs.Hands.{Shows}
use Rattle.turn_table.proofs.Standing.{shown_as}
use Rattle.play_rules.specs.Choices.{IsReadyAt, reach_of}
use Rattle.hall_slots.specs.Passed.Crew.{HasCauseAmong, SeatStands, Crew}
use Rattle.hall_slots.specs.Passed.Seats.{finding}
use Rattle.hall_slots.specs.Passed.State.{RunningState}
use Rattle.hall_slots.specs.Passed.Steps.{Step, Leads}
use Rattle.hall_slots.specs.Passed.HallMachineViews.{View}
use Rattle.hall_slots.proofs.Passed.Stops.{full_lists_go_on}
use Rattle.hall_slots.specs.declared.slot.Slot.TheVariants as slots
use Rattle.hall_slots.specs.Steps.{hall_shown}
use Rattle.hall_slots.proofs.Written.{list_at, lane_shown_at}
use Rattle.hall_thief.proofs.Slots.{slot_is}
use Rattle.hall_slots.specs.Stopping.{IsCaused, MayStop}
use Rattle.hall_thief.specs.Prey.{MaySteal}

-- a seat that may steal may keep a stop that has its cause
pub may_stop : (key : HallKey) (seat : HallSeat) (worker : ℕ) (list : ListSlot) (stop : AnyStop) → MaySteal seat worker → HasAs 0 (slots.List list) seat.hand.holds → list.end ≡ None → IsCaused key seat stop → MayStop key seat list stop
may_stop key seat worker list stop may held no_end cause = record {
  placed = may.thief.placed;
  stays = may.thief.stays;
  free = may.settled;
  none = may.none;
  holds = held;
  no_end = no_end;
  cause = cause;
}

-- ---- as many deques as may be are there, and the seat holds the lane of one that keeps other threads

module _ (key : HallKey) (seat : HallSeat) (worker : ℕ) (may : MaySteal seat worker) (quota : record_words ≤ quota_of key) (list : ListSlot) (place : ℕ) (victim : Place) (lane : LaneSlot)
    (held : HasAs 0 (slots.List list) seat.hand.holds) (its : HasAs (victim.id.0 + 2) (slots.Lane lane) seat.hand.holds) (there : slice_get list.part.order.places place ≡ Some victim)
    (near : place < min key.workers (length list.part.order.places)) (two : 2 ≤ length lane.lane.items) (full : length list.part.order.places ≡ list.part.order.most) (most : list.part.order.most ≡ key.deques) where
  abbrev view : View
  view = view_of seat.hand.note

  module _ (c : Setting) (of : IsSettingOf (table_of key) (quota_of key) c) (shown : List Slot) (shows : Shows shown seat.hand.holds) (steps : List Step) (m : Moment)
      (leads : Leads (machine_of c (terms_of key)) steps m) (count : ℕ) (views : List View)
      (state : RunningState (machine_of c (terms_of key)) (Terms.limits (terms_of key)) (hall_shown shown) steps m leads count views) (noted : slice_get views seat.number ≡ Some view) where
    abbrev h : Hall
    h = hall_shown shown

    abbrev deque : Deque parts.Thread
    deque = deque_of h.lanes victim

    places_are : ListShown.places h.list ≡ list.part.order.places
    places_are = ap (λ (l : ListShown). l.places) (list_at shown list (shown_as shown 0 (slots.List list) seat.hand.holds shows held))

    lane_is : lane_at h.lanes victim.id ≡ lane_shown lane
    lane_is = lane_shown_at shown victim.id lane (ap (get_elem? shown) (sym (slot_is victim.id.0)) ∙ shown_as shown (victim.id.0 + 2) (slots.Lane lane) seat.hand.holds shows its)

    deque_there : slice_get (deques_of h) place ≡ Some deque
    deque_there = slice_get-map (deque_of h.lanes) (ListShown.places h.list) place ∙ ap (option_map (deque_of h.lanes)) (ap (λ ps. slice_get ps place) places_are ∙ there)

    many : 2 ≤ length (Deque.items deque)
    many = let same = ap (λ (l : LaneShown). length l.threads) lane_is in let all = length-map lane.lane.items thread_shown in let t = two in omega (arith, same, all, t)

    reach_is : reach_of key.workers (deques_of h) ≡ min key.workers (length list.part.order.places)
    reach_is = ap (min key.workers) (length-map (ListShown.places h.list) (deque_of h.lanes) ∙ ap length places_are)

    -- a word picks it
    first : IsFirst (reach_of key.workers (deques_of h)) place (IsReadyAt (deques_of h)) place
    first = let low : place < reach_of key.workers (deques_of h) = subst (λ n. place < n) (sym reach_is) near in record {
      turns = 0;
      few = omega (arith, low);
      is = sym (ap (λ n. n % reach_of key.workers (deques_of h)) (zero_more place) ∙ mod-eq_of_lt low);
      passes = (deque, deque_there, inr many);
      none_before = λ e before. absurd (omega (arith, before));
    }
      where
        zero_more : (n : ℕ) → n + 0 ≡ n
        zero_more n = omega arith

    some_quota : 0 < c.quota
    some_quota = let same = IsSettingOf.quota of in let least = quota in omega (arith, same, least)

    found_now : Crew (machine_of c (terms_of key)) (Terms.limits (terms_of key)) h steps m leads count (slice_set views seat.number (finding view (by_rule (play.deques_full key.deques))))
    found_now = full_lists_go_on (machine_of c (terms_of key)) some_quota (whole_is_depth_first c) (Terms.limits (terms_of key)) h steps m leads count views seat.number view place place deque state
        (record { noted = noted; placed = may.thief.placed; stays = may.thief.stays }) may.thief.idle (ap (option_map stop_shown) may.none) first deque_there (inr many)
        (let same = ap length places_are in let f = full in let d = most in omega (arith, same, f, d))

    its_cause : HasCauseAmong (machine_of c (terms_of key)) (Terms.limits (terms_of key)) steps m leads (by_rule (play.deques_full key.deques))
    its_cause = SeatStands.found (found_now.seats seat.number (finding view (by_rule (play.deques_full key.deques))) (set_same views seat.number (finding view (by_rule (play.deques_full key.deques))) view noted) may.thief.placed)
        (by_rule (play.deques_full key.deques)) refl

  pub full_is_caused : IsCaused key seat (DequesFull list.part.order.most)
  full_is_caused c of shown shows steps m leads count views state noted = subst (λ n. HasCauseAmong (machine_of c (terms_of key)) (Terms.limits (terms_of key)) steps m leads (by_rule (play.deques_full n))) (sym most)
      (its_cause c of shown shows steps m leads count views state noted)
