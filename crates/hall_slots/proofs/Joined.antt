-- A seat that has left is joined into another.
use Rattle.std.proofs.Common.{◌≡◌, ◌≢◌, ℕ, ◌+◌, ◌≤◌, List, map, set, refl, sym, ap, ◌∙◌, subst, arith, true≢false}
use Rattle.std.proofs.Math.Logic.{∥∥₁_elim, ∥∥₁_map}
use Rattle.std.specs.Prelude.{Option, Some, slice_get, slice_set}
use Rattle.std.specs.Option.{option_map}
use Rattle.std.proofs.lemmas.Option.{none-some}
use mathlib.Core.Option.{some}
use lib.ListN.{get_elem?}
use lib.Seq.{map-set}
use denote.Struct.Props.{props}
use Rattle.depth_first_run.specs.States.{Setting}
use Rattle.deque_machine.specs.Terms.{Terms, machine_of}
use Rattle.open_periods.proofs.Lists.{set_other}
use Rattle.play_rules.specs.declared.ends.RunEnd.{RunEnd}
use Rattle.turn_table.specs.Hands.{noted}
use Rattle.turn_table.specs.Law.{JoinKeeps}
use Rattle.turn_table.specs.Notes.{JoinMay}
use Rattle.turn_table.specs.Seats.{with_hand}
use Rattle.turn_table.proofs.NoteLaws.{join_noted}
use Rattle.turn_table.proofs.Resting.{join_rests}
use Rattle.hall_machine.specs.Values.{End}
use Rattle.hall_machine.specs.Views.{View, joined, places_held}
use Rattle.hall_machine.specs.Seats.{or_else, with_places_of}
use Rattle.hall_machine.specs.State.{RunningState, HallLaw}
use Rattle.hall_machine.specs.Points.{IsExcused}
use Rattle.hall_machine.proofs.Notes.{total_two}
use Rattle.hall_machine.proofs.Quiet.{joining_goes_on}
use Rattle.hall_slots.specs.declared.list_slot.ListSlot.{ListSlot}
use Rattle.hall_slots.specs.declared.seat_note.SeatNote.{SeatNote}
use Rattle.hall_slots.specs.declared.slot.Slot.{Slot}
use Rattle.hall_slots.specs.declared.slot.Slot.TheVariants as slots
use Rattle.hall_slots.specs.Shown.{view_of, value_of, end_shown}
use Rattle.hall_slots.specs.declared.key.HallKey.{HallKey}
use Rattle.hall_slots.specs.Keys.{terms_of}
use Rattle.hall_slots.specs.Law.{HallHolds, places_of, joined_note}
use Rattle.hall_slots.specs.Sound.{EndIsSound, PartsAreSound}
use Rattle.hall_slots.specs.Steps.{hall_shown}
use Rattle.hall_slots.specs.Takes.{HallSeat, IsPlaced}
use Rattle.hall_slots.proofs.Keeping.{Whole}
use Rattle.hall_slots.proofs.Lone.{noted_at}
use Rattle.hall_slots.proofs.Noting.{excused_by_others, excused_set, answered_set, notes_sound}
use Rattle.hall_slots.proofs.Reading.{get_of_at}
use Rattle.hall_slots.specs.Leaving.{HasGone, HasJoined, HasLeft, places_with, with_places}

-- so they are those of both
all_places : (workers into gone : ℕ) → into + gone ≤ workers → places_with workers into gone ≡ into + gone
all_places workers into gone few = omega (arith, few)

module _ (key : HallKey) (into gone : HallSeat) (placed : IsPlaced into) (has : HasGone gone) where
  -- the places of both, whether or not there are so many
  abbrev now : SeatNote
  now = record into.hand.note { places = into.hand.note.places + gone.hand.note.places; yielded = or_else into.hand.note.yielded gone.hand.note.yielded }

  abbrev notes_now : List SeatNote → List SeatNote
  notes_now notes = set (set notes into.number now) gone.number joined_note

  views_are : (notes : List SeatNote) → map view_of (notes_now notes)
      ≡ slice_set (slice_set (map view_of notes) into.number (with_places_of (view_of into.hand.note) (view_of gone.hand.note))) gone.number joined
  views_are notes = map-set view_of (set notes into.number now) gone.number joined_note
      ∙ ap (λ (vs : List View). slice_set vs gone.number joined) (map-set view_of notes into.number now)

  module _ (shown : List Slot) (notes : List SeatNote) (mine : get_elem? notes into.number ≡ some into.hand.note) (apart : gone.number ≢ into.number) (its : get_elem? notes gone.number ≡ some gone.hand.note) where
    moved : (c : Setting) (count : ℕ) → HallLaw (machine_of c (terms_of key)) (Terms.limits (terms_of key)) (map value_of shown) count (map view_of notes)
        → HallLaw (machine_of c (terms_of key)) (Terms.limits (terms_of key)) (map value_of shown) count (map view_of (notes_now notes))
    moved c count law = record {
      steps = law.steps;
      moment = law.moment;
      leads = law.leads;
      state = subst (λ (vs : List View). RunningState (machine_of c (terms_of key)) (Terms.limits (terms_of key)) (hall_shown shown) law.steps law.moment law.leads count vs) (sym (views_are notes))
          (joining_goes_on (machine_of c (terms_of key)) (Terms.limits (terms_of key)) (hall_shown shown) law.steps law.moment law.leads count (map view_of notes) into.number gone.number
          (view_of into.hand.note) (view_of gone.hand.note) law.state (λ e. apart (sym e)) (noted_at notes into.number into.hand.note mine) (noted_at notes gone.number gone.hand.note its) placed has.placed has.left has.nobody);
    }

    -- the seat that has left is seen as before once the other notes its places
    gone_at : slice_get (map view_of (set notes into.number now)) gone.number ≡ Some (view_of gone.hand.note)
    gone_at = ap (λ (vs : List View). slice_get vs gone.number) (map-set view_of notes into.number now)
        ∙ set_other (map view_of notes) into.number gone.number (view_of now) apart ∙ noted_at notes gone.number gone.hand.note its

    excused_now : (kept : Option End) (owner : Option ℕ) → IsExcused (map view_of notes) kept owner → IsExcused (map view_of (notes_now notes)) kept owner
    excused_now kept owner excused = subst (λ (vs : List View). IsExcused vs kept owner) (sym (map-set view_of (set notes into.number now) gone.number joined_note))
        (excused_by_others (map view_of (set notes into.number now)) gone.number (view_of gone.hand.note) joined kept kept owner gone_at
        (λ worker owned same stays. true≢false (sym has.left ∙ stays)) (λ e is. is)
        (excused_set notes into.number into.hand.note now mine kept owner refl (λ stays memory. (stays, memory)) excused))

    answered_now : PartsAreSound key shown notes → (list : ListSlot) → slice_get shown 0 ≡ Some (slots.List list) → (i : ℕ) (m : SeatNote) (end : RunEnd)
        → slice_get (notes_now notes) i ≡ Some m → m.answered ≡ Some end → list.end ≡ Some end
    answered_now sound list first = let was = EndIsSound.answered (sound.end list first) in
        let here = get_of_at notes into.number into.hand.note mine in
        answered_set (set notes into.number now) gone.number gone.hand.note joined_note list.end
        (set_other notes into.number gone.number now apart ∙ get_of_at notes gone.number gone.hand.note its) (λ e is. absurd (none-some e is))
        (answered_set notes into.number into.hand.note now list.end here (λ e is. was into.number into.hand.note e here is) was)

  join_may : JoinMay HallHolds key joined_note into gone now
  join_may shown count notes holds long shows mine apart its = record {
    key_is = holds.key_is;
    sized = holds.sized;
    shaped = holds.shaped;
    state = λ c of. ∥∥₁_map (holds.state c of) (moved shown notes mine apart its c count);
    parts = notes_sound key shown notes (notes_now notes) (λ list first place there. excused_now shown notes mine apart its (option_map end_shown list.end) place.owner)
        (answered_now shown notes mine apart its holds.parts) holds.parts;
  }

  -- both have no more than all
  few_places : (shown : List Slot) (count : ℕ) (notes : List SeatNote) → HallHolds key shown count notes → get_elem? notes into.number ≡ some into.hand.note
      → gone.number ≢ into.number → get_elem? notes gone.number ≡ some gone.hand.note → into.hand.note.places + gone.hand.note.places ≤ key.workers
  few_places shown count notes holds mine apart its = ∥∥₁_elim holds.key_is.of_program (search props) (λ p. ∥∥₁_elim (holds.state p.0 p.1) (search props)
      (λ law. let two = total_two places_held (map view_of notes) into.number gone.number (view_of into.hand.note) (view_of gone.hand.note) (λ e. apart (sym e))
      (noted_at notes into.number into.hand.note mine) (noted_at notes gone.number gone.hand.note its) in let all = law.state.crew.places in omega (arith, two, all)))

  abbrev noted_now : SeatNote
  noted_now = with_places key.workers into.hand.note gone.hand.note

  same_note : into.hand.note.places + gone.hand.note.places ≤ key.workers → now ≡ noted_now
  same_note few = ap (λ (n : ℕ). record now { places = n }) (sym (all_places key.workers into.hand.note.places gone.hand.note.places few))

  few_join : JoinMay HallHolds key joined_note into gone noted_now
  few_join shown count notes holds long shows mine apart its = subst (λ (n : SeatNote). HallHolds key shown count (set (set notes into.number n) gone.number joined_note))
      (same_note (few_places shown count notes holds mine apart its)) (join_may shown count notes holds long shows mine apart its)

  pub join_keeps : JoinKeeps Whole joined_note key into gone noted_now
  join_keeps = join_rests places_of HallHolds joined_note key into gone noted_now (let p = placed in omega (arith, p)) (join_noted HallHolds joined_note key into gone noted_now few_join)

-- the places of a seat that left are those that it had
pub joined_of : (key : HallKey) (before left into after : HallSeat) → HasLeft before left → HasJoined key into left.hand.note after
    → HasJoined key into before.hand.note after
joined_of key before left into after has joins =
    joins ∙ ap (λ (s : HallSeat). with_hand into (noted into.hand (with_places key.workers into.hand.note s.hand.note))) has.1
