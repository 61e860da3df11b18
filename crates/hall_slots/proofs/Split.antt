-- A seat gives a place to the seat of a worker who enters.
use Rattle.std.proofs.Common.{◌≡◌, ℕ, List, [], ◌∷◌, ◌++◌, map, set, inl, inr, refl, sym, ap, ◌∙◌, subst, arith}
use Rattle.std.proofs.Math.Logic.{∥∥₁_map}
use Rattle.std.specs.Prelude.{Option, None, Some, slice_get, slice_set}
use Rattle.std.specs.Option.{option_map}
use Rattle.std.proofs.lemmas.Option.{none-some}
use mathlib.Core.Option.{some}
use mathlib.Core.List.{map-append}
use lib.ListN.{get_elem?}
use lib.Seq.{map-set}
use Rattle.depth_first_run.specs.States.{Setting}
use Rattle.deque_list.specs.declared.place.Place.{Place}
use Rattle.deque_machine.specs.Terms.{Terms, machine_of}
use Rattle.play_rules.specs.declared.ends.RunEnd.{RunEnd}
use Rattle.deque_machine.specs.Lists.{Among}
use Rattle.open_periods.proofs.Sorting.{get_before, get_of_more}
use Rattle.turn_table.specs.Law.{SplitKeeps}
use Rattle.turn_table.specs.Notes.{SplitMay}
use Rattle.turn_table.proofs.NoteLaws.{split_noted}
use Rattle.turn_table.proofs.Resting.{split_rests}
use Rattle.hall_machine.specs.Values.{End}
use Rattle.hall_machine.specs.Views.{View, fresh}
use Rattle.hall_machine.specs.Seats.{giving}
use Rattle.hall_machine.specs.State.{RunningState, HallLaw}
use Rattle.hall_machine.specs.Points.{IsExcused}
use Rattle.hall_machine.proofs.Quiet.{splitting_goes_on}
use Rattle.hall_slots.specs.declared.list_slot.ListSlot.{ListSlot}
use Rattle.hall_slots.specs.declared.seat_note.SeatNote.{SeatNote}
use Rattle.hall_slots.specs.declared.slot.Slot.{Slot}
use Rattle.hall_slots.specs.declared.slot.Slot.TheVariants as slots
use Rattle.hall_slots.specs.Shown.{view_of, value_of, end_shown}
use Rattle.hall_slots.specs.declared.key.HallKey.{HallKey}
use Rattle.hall_slots.specs.Keys.{terms_of}
use Rattle.hall_slots.specs.Law.{HallHolds, places_of, joined_note}
use Rattle.hall_slots.specs.Sound.{EndIsSound, PartsAreSound}
use Rattle.hall_slots.specs.Steps.{hall_shown}
use Rattle.hall_slots.specs.Takes.{HallSeat}
use Rattle.hall_slots.proofs.Keeping.{Whole}
use Rattle.hall_slots.proofs.Lone.{noted_at}
use Rattle.hall_slots.proofs.Noting.{excused_set, answered_set, notes_sound}
use Rattle.hall_slots.proofs.Reading.{get_of_at}
use Rattle.hall_slots.specs.Entering.{giving_note, worker_note, GivesAPlace}

-- who is excused is so beside one seat more
excused_longer : (views : List View) (new : View) (kept : Option End) (owner : Option ℕ) → IsExcused views kept owner → IsExcused (views ++ new ∷ []) kept owner
excused_longer views new kept None excused = excused
excused_longer views new kept (Some worker) excused = (excused.0, excused.1, get_before views new excused.1 excused.0 excused.2, excused.3, excused.4, excused.5)

module _ (key : HallKey) (seat : HallSeat) (gives : GivesAPlace seat) where
  abbrev left : SeatNote
  left = giving_note seat.hand.note

  abbrev right : SeatNote
  right = worker_note seat.hand.note.enters

  views_are : (notes : List SeatNote) → map view_of (set notes seat.number left ++ right ∷ []) ≡ slice_set (map view_of notes) seat.number (giving (view_of seat.hand.note)) ++ fresh gives.worker 1 ∷ []
  views_are notes = map-append view_of (set notes seat.number left) (right ∷ []) ∙ ap (λ (vs : List View). vs ++ view_of right ∷ []) (map-set view_of notes seat.number left)
      ∙ ap (λ (o : Option ℕ). slice_set (map view_of notes) seat.number (giving (view_of seat.hand.note)) ++ view_of (worker_note o) ∷ []) gives.enters

  moved : (c : Setting) (shown : List Slot) (count : ℕ) (notes : List SeatNote) → get_elem? notes seat.number ≡ some seat.hand.note
      → HallLaw (machine_of c (terms_of key)) (Terms.limits (terms_of key)) (map value_of shown) count (map view_of notes)
      → HallLaw (machine_of c (terms_of key)) (Terms.limits (terms_of key)) (map value_of shown) count (map view_of (set notes seat.number left ++ right ∷ []))
  moved c shown count notes mine law = record {
    steps = law.steps;
    moment = law.moment;
    leads = law.leads;
    state = subst (λ (vs : List View). RunningState (machine_of c (terms_of key)) (Terms.limits (terms_of key)) (hall_shown shown) law.steps law.moment law.leads count vs) (sym (views_are notes))
        (splitting_goes_on (machine_of c (terms_of key)) (Terms.limits (terms_of key)) (hall_shown shown) law.steps law.moment law.leads count (map view_of notes) seat.number (view_of seat.hand.note) gives.worker law.state
        (noted_at notes seat.number seat.hand.note mine) gives.enters);
  }

  module _ (shown : List Slot) (notes : List SeatNote) (sound : PartsAreSound key shown notes) (mine : get_elem? notes seat.number ≡ some seat.hand.note) where
    abbrev notes_now : List SeatNote
    notes_now = set notes seat.number left ++ right ∷ []

    excused_now : (list : ListSlot) → slice_get shown 0 ≡ Some (slots.List list) → (place : Place) → Among place list.part.order.places
        → IsExcused (map view_of notes) (option_map end_shown list.end) place.owner → IsExcused (map view_of notes_now) (option_map end_shown list.end) place.owner
    excused_now list first place there excused = let kept = option_map end_shown list.end in
        subst (λ (vs : List View). IsExcused vs kept place.owner) (sym (map-append view_of (set notes seat.number left) (right ∷ [])))
        (excused_longer (map view_of (set notes seat.number left)) (view_of right) kept place.owner
        (excused_set notes seat.number seat.hand.note left mine kept place.owner refl (λ stays memory. (stays, memory)) excused))

    answered_now : (list : ListSlot) → slice_get shown 0 ≡ Some (slots.List list) → (i : ℕ) (m : SeatNote) (end : RunEnd) → slice_get notes_now i ≡ Some m → m.answered ≡ Some end → list.end ≡ Some end
    answered_now list first i m end there is = let was = EndIsSound.answered (sound.end list first) in
        let its = get_of_at notes seat.number seat.hand.note mine in
        elim (get_of_more (set notes seat.number left) right m i there) [
          | inl before ↦ answered_set notes seat.number seat.hand.note left list.end its (λ e answers. was seat.number seat.hand.note e its answers) was i m end before is
          | inr last ↦ absurd (none-some end (sym (ap (λ (n : SeatNote). n.answered) last.1) ∙ is))
        ]

  split_may : SplitMay HallHolds key seat left right
  split_may shown count notes holds long shows mine = record {
    key_is = holds.key_is;
    sized = holds.sized;
    shaped = holds.shaped;
    state = λ c of. ∥∥₁_map (holds.state c of) (moved c shown count notes mine);
    parts = notes_sound key shown notes (notes_now shown notes holds.parts mine) (excused_now shown notes holds.parts mine) (answered_now shown notes holds.parts mine) holds.parts;
  }

  pub split_keeps : SplitKeeps Whole joined_note key seat left right
  split_keeps = split_rests places_of HallHolds joined_note key seat left right (let many = gives.many in omega (arith, many)) (split_noted HallHolds joined_note key seat left right split_may)
