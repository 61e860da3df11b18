-- The list after a theft, and the lane in which a period begins.
use Rattle.std.proofs.Common.{◌≡◌, ℕ, Bool, List, [], ◌∷◌, ◌++◌, map, sym, ap, ◌∙◌, subst}
use Rattle.std.specs.Prelude.{None, Some, false}
use Rattle.std.specs.Option.{option_map}
use Rattle.std.proofs.Math.Logic.{∥∥₁_elim}
use mathlib.Core.Option.{some}
use mathlib.Core.List.{map-append}
use lib.ListN.{get_elem?}
use Rattle.depth_first_run.specs.States.{Setting}
use Rattle.hall_thief.specs.HallNames.{DequeId, Terms, machine_of, ListShown, LaneSlot, ListSlot, SeatNote, Slot, list_shown, lane_shown, running_shown}
use Rattle.hall_thief.specs.HallNames.{end_shown, told_shown, value_of, view_of, HallKey, table_of, quota_of, terms_of, ListIsSound}
use Rattle.deque_list.specs.declared.place.Place.{Place}
use Rattle.hall_slots.specs.Passed.Lists.{Among, Each}
use Rattle.hall_slots.proofs.Passed.DequeMachineLists.{each_from, each_among}
use Rattle.open_periods.specs.Periods.{Period, closed_shown}
use Rattle.hall_slots.specs.Passed.Thread.{Thread}
use Rattle.hall_slots.specs.Passed.ThreadFramesPoints.{IsResult}
use Rattle.hall_slots.specs.Passed.ThreadFramesKept.{WaitsUnder, IsUnderItsId, waiting_shown, result_kept}
use Rattle.hall_slots.specs.Passed.Shown.{thread_shown}
use Rattle.hall_slots.specs.Passed.Rows.{list_stolen}
use Rattle.hall_slots.specs.Passed.Steps.{stole}
use Rattle.hall_slots.specs.Passed.Writing.{lane_with, new_period}
use Rattle.hall_slots.proofs.Passed.Lanes.{IsElsewhere, apart}
use Rattle.hall_slots.specs.Passed.Changes.{after_event}
use Rattle.hall_slots.specs.Passed.State.{HallLaw}
use Rattle.hall_slots.specs.declared.event.Event.TheVariants.{Stole}
use Rattle.hall_slots.specs.declared.slot.Slot.TheVariants as slots
use Rattle.hall_slots.specs.Law.{HallHolds}
use Rattle.hall_slots.specs.Steps.{hall_shown}
use Rattle.hall_slots.proofs.Written.{list_at}
use Rattle.hall_thief.specs.Thefts.{stolen_note, IsRobbed, Begins}

module _ (was now : ListSlot) (places : List Place) (robbed : IsRobbed was now places) where
  -- the list shows the places and one period more
  pub shows_robbed : list_shown now ≡ list_stolen (list_shown was) places
  shows_robbed = λ k. record { places = robbed.places_are k; crew = robbed.crew k; waiting = map waiting_shown (robbed.waiting k).entries; results = map result_kept (robbed.results k).entries; closed = map closed_shown (robbed.books k); begun = robbed.begun k; kept = option_map end_shown (robbed.end k) }

  pub same_waiting : now.part.waiting.entries ≡ was.part.waiting.entries
  same_waiting = λ k. (robbed.waiting k).entries

  same_results : now.part.results.entries ≡ was.part.results.entries
  same_results = λ k. (robbed.results k).entries

  -- and is sound
  pub list_robbed : (key : HallKey) → ListIsSound key was → ListIsSound key now
  list_robbed key sound = record {
    most = robbed.most ∙ sound.most;
    waiting = subst (Each WaitsUnder) (sym same_waiting) sound.waiting;
    under_ids = subst (Each IsUnderItsId) (sym same_results) sound.under_ids;
    results = subst (Each (λ entry. IsResult (table_of key) (quota_of key) entry.1)) (sym same_results) sound.results;
  }

  pub none_kept : now.end ≡ None
  none_kept = robbed.end ∙ robbed.no_end

-- the lane shows its thread and the period
pub shows_begun : (lane : LaneSlot) (thread : Thread) (worker : ℕ) (ahead : Bool) (number : ℕ) → Begins lane thread worker ahead number
    → lane_shown lane ≡ lane_with (thread_shown thread ∷ []) (Some (new_period worker ahead number))
shows_begun lane thread worker ahead number begins = (λ k. lane_with (map thread_shown (begins.items k)) (option_map running_shown (begins.running k)))
    ∙ ap (λ (p : Period). lane_with (thread_shown thread ∷ []) (Some p)) begins.shown

-- the note of a thief, as it is viewed
pub viewed : (note : SeatNote) (deque : DequeId) (period : ℕ) → view_of (stolen_note note deque period) ≡ after_event (view_of note) (Some deque) (stole deque.0 period) note.yielded
viewed note deque period = ap (λ mine. record (view_of note) { deque = Some deque; counting = false; mine = mine }) (map-append told_shown note.mine (Stole deque period ∷ []))

-- beside a deque of the list no place is of its id
pub alone : (key : HallKey) (shown : List Slot) (count : ℕ) (notes : List SeatNote) → HallHolds key shown count notes → (list : ListSlot) → get_elem? shown 0 ≡ some (slots.List list)
    → (left : List Place) (place : Place) (right : List Place) → list.part.order.places ≡ left ++ place ∷ right → Each (IsElsewhere place.id.0) (left ++ right)
alone key shown count notes holds list first left place right are = each_from (IsElsewhere place.id.0) (left ++ right) (λ p there same.
    ∥∥₁_elim holds.key_is.of_program (λ x y. absurd x) (λ program. ∥∥₁_elim (holds.state program.0 program.1) (λ x y. absurd x) (λ law. elsewhere program.0 law p there same)))
  where
    elsewhere : (c : Setting) → HallLaw (machine_of c (terms_of key)) (Terms.limits (terms_of key)) (map value_of shown) count (map view_of notes) → (p : Place) → Among p (left ++ right) → p.id.0 ≡ place.id.0 → ⊥
    elsewhere c law p there same = each_among (IsElsewhere place.id.0) p (left ++ right)
        (apart (machine_of c (terms_of key)) (hall_shown shown) law.moment law.state.stands.standing.lawful law.state.stands.standing.shows left place right (ap (λ (l : ListShown). l.places) (list_at shown list first) ∙ are))
        there same
