-- A seat may be answered the end that is kept in the list, whatever it holds besides.
use Rattle.std.proofs.Common.{◌≡◌, ℕ, ◌+◌, ◌<◌, List, [], ◌∷◌, set, inl, refl, sym, ap, ◌∙◌, subst}
use mathlib.Core.Option.{some}
use lib.ListN.{get_elem?}
use Rattle.hall_parts.specs.HallNames.{DequeId, HallSeat, HallKey, LaneSlot, ListSlot, SeatNote, Slot, HasAs, NoteMay, with_hand}
use Rattle.turn_table.specs.Hands.{renewed, without_slot}
use Rattle.turn_table.specs.Law.{PutKeeps}
use Rattle.turn_table.proofs.Left.{first_of_two}
use Rattle.turn_table.proofs.NoteLaws.{put_noted, quiet_shown}
use Rattle.turn_table.proofs.Standing.{shown_as}
use Rattle.turn_table.specs.Backs.{unchanged}
use Rattle.turn_table.proofs.Resting.{put_rests}
use Rattle.hall_parts.specs.Puts.{HasPut}
use Rattle.hall_slots.specs.Lists.{answered_note, HoldsTheEnd}
use Rattle.hall_slots.proofs.Ends.{parts_sound}
use Rattle.hall_slots.proofs.Listed.{answered_may}
use Rattle.hall_slots.specs.Law.{HallHolds, places_of, joined_note}
use Rattle.hall_slots.specs.declared.slot.Slot.TheVariants as slots
use Rattle.hall_slots.proofs.Keeping.{Whole}
use Rattle.hall_slots.proofs.Putting.{list_may}
use Rattle.hall_parts.specs.Own.{IsStillThere}
use Rattle.hall_actions.specs.Answers.{GivesAnswered, HoldsAnEnd, ReturnsEnded}

module _ (key : HallKey) (seat : HallSeat) (list : ListSlot) (has : HoldsAnEnd seat list) where
  abbrev told : SeatNote
  told = answered_note seat.hand.note list

  -- the same seat, had it taken the list alone
  abbrev alone : HallSeat
  alone = with_hand seat (record { seated = seat.hand.seated; holds = (0, slots.List list) ∷ []; note = seat.hand.note; looks = seat.hand.looks })

  abbrev ends_alone : HoldsTheEnd alone list
  ends_alone = record { holds = refl; some = (has.end, has.kept) }

  note_may : NoteMay HallHolds key seat told
  note_may shown count ns holds long shows mine =
      let at : get_elem? shown 0 ≡ some (slots.List list) = shown_as shown 0 (slots.List list) seat.hand.holds shows has.holds in
      subst (λ (xs : List Slot). HallHolds key xs count (set ns seat.number told))
      (quiet_shown shown 0 (slots.List list) unchanged ((0, slots.List list) ∷ []) (at, tt) (inl (refl, refl)) (λ k v. refl))
      (list_may key alone list list told refl (answered_may key alone has.placed list ends_alone)
      (λ shown notes two sound first its. parts_sound key alone list list told refl (λ e is. is) refl (λ left memory. (left, memory)) (λ e is. is) (λ f is. is) shown notes sound first its)
      shown count ns holds long (at, tt) mine)

  pub answer_keeps : PutKeeps Whole joined_note key seat 0 (slots.List list) (λ hand. answered_note hand.note list) unchanged
  answer_keeps = put_rests places_of HallHolds joined_note key seat 0 (slots.List list) (λ hand. answered_note hand.note list) unchanged has.placed
      (put_noted HallHolds joined_note key seat 0 (slots.List list) seat.hand.holds (λ hand. answered_note hand.note list) unchanged refl has.holds (λ k v. refl) note_may)

module _ (key : HallKey) (before : HallSeat) (deque : DequeId) (list : ListSlot) (lane : LaneSlot) (r : ReturnsEnded key before deque list lane) where
  pub holds_it : HoldsAnEnd before list
  holds_it = record {
    placed = r.lane_same.goes.placed;
    holds = subst (HasAs 0 (slots.List list)) (sym r.holds) (inl (refl, refl));
    end = r.end;
    kept = r.kept;
  }

  module _ (after : HallSeat) (gives : GivesAnswered before list after) where
    left : after ≡ with_hand before (record { seated = before.hand.seated; holds = (deque.0 + 2, slots.Lane r.lane_was) ∷ []; note = answered_note before.hand.note list; looks = before.hand.looks })
    left = gives ∙ ap (λ (xs : List (ℕ × Slot)). with_hand before (record { seated = before.hand.seated; holds = xs; note = answered_note before.hand.note list; looks = before.hand.looks }))
        (ap (λ (xs : List (ℕ × Slot)). renewed unchanged (without_slot 0 xs)) r.holds ∙ first_of_two unchanged 0 (deque.0 + 2) (slots.List list) (slots.Lane r.lane_was))

    pub still : IsStillThere key after deque lane
    still = record {
      placed = subst (λ (s : HallSeat). 0 < s.hand.note.places) (sym gives) r.lane_same.goes.placed;
      owns = ap (λ (s : HallSeat). s.hand.note.deque) gives ∙ r.lane_same.goes.owns;
      lane_was = r.lane_was;
      holds = ap (λ (s : HallSeat). s.hand.holds) left;
      same = r.lane_same.same;
      points = r.lane_same.points;
    }

    pub returned : (last : HallSeat) → HasPut after after.hand.note [] last → HasPut before (answered_note before.hand.note list) [] last
    returned last put = put ∙ ap (λ (s : HallSeat). with_hand s (record { seated = s.hand.seated; holds = []; note = s.hand.note; looks = s.hand.looks })) left
