-- A put back of the list alone keeps the law of a hall.
use Rattle.std.proofs.Common.{◌≡◌, ℕ, ◌<◌, ◌≤◌, List, [], ◌∷◌, map, length, set, inl, inr, refl, sym, ap, ◌∙◌, subst, arith, length-set}
use Rattle.std.proofs.Math.Logic.{∥∥₁_elim, ∥∥₁_map, ∥∥₁_prop}
use Rattle.std.specs.Prelude.{slice_set}
use mathlib.Core.Option.{some}
use lib.ListN.{get_elem?}
use lib.Seq.{map-set}
use Rattle.atomic_table.proofs.Lists.{at_set}
use Rattle.depth_first_run.specs.States.{Setting}
use Rattle.deque_machine.specs.Terms.{Terms, machine_of}
use Rattle.thread_frames.specs.Passed.Settings.{IsSettingOf}
use Rattle.turn_table.specs.Hands.{Shows, showing, without_slot, renewed}
use Rattle.turn_table.specs.Notes.{PutMay}
use Rattle.turn_table.specs.Law.{PutKeeps}
use Rattle.turn_table.specs.declared.hand.Hand.{Hand}
use Rattle.turn_table.proofs.NoteLaws.{put_writes}
use Rattle.turn_table.proofs.Left.{left_of_one}
use Rattle.turn_table.specs.Backs.{unchanged}
use Rattle.turn_table.proofs.Resting.{put_rests}
use Rattle.hall_machine.specs.Values.{Hall}
use Rattle.hall_machine.specs.Views.{View}
use Rattle.hall_machine.specs.State.{RunningState, HallLaw}
use Rattle.hall_slots.specs.declared.slot.Slot.{Slot}
use Rattle.hall_slots.specs.declared.slot.Slot.TheVariants as slots
use Rattle.hall_slots.specs.declared.list_slot.ListSlot.{ListSlot}
use Rattle.hall_slots.specs.declared.seat_note.SeatNote.{SeatNote}
use Rattle.hall_slots.specs.Shown.{list_shown, value_of, view_of}
use Rattle.hall_slots.specs.declared.key.HallKey.{HallKey}
use Rattle.hall_slots.specs.Keys.{table_of, quota_of, terms_of}
use Rattle.hall_slots.specs.Sound.{PartsAreSound}
use Rattle.hall_slots.specs.Law.{HallHolds, IsShaped, places_of, joined_note}
use Rattle.hall_slots.specs.Steps.{hall_shown, IsRunning, ListMayBecome}
use Rattle.hall_slots.specs.Takes.{HallSeat}
use Rattle.hall_slots.proofs.Keeping.{Whole}
use Rattle.hall_slots.proofs.Lone.{noted_at}
use Rattle.hall_slots.proofs.Written.{list_written, list_at}

-- what is shown of a hall in a running state keeps the law
pub law_of : (key : HallKey) (c : Setting) (shown : List Slot) (h : Hall) (count : ℕ) (notes : List SeatNote) (views : List View) → hall_shown shown ≡ h → map view_of notes ≡ views
    → IsRunning (machine_of c (terms_of key)) (Terms.limits (terms_of key)) h count views → HallLaw (machine_of c (terms_of key)) (Terms.limits (terms_of key)) (map value_of shown) count (map view_of notes)
law_of key c shown h count notes views is_h is_views run = record {
  steps = run.0;
  moment = run.1;
  leads = run.2;
  state = subst (λ (z : Hall × List View). RunningState (machine_of c (terms_of key)) (Terms.limits (terms_of key)) z.0 run.0 run.1 run.2 count z.1) (λ k. (sym is_h k, sym is_views k)) run.3;
}

-- a slot is of its kind when it was written with its kind
pub shaped_set : (shown : List Slot) (slot : ℕ) (new : Slot) → ((i : ℕ) (found : Slot) → get_elem? shown i ≡ some found → IsShaped i found) → IsShaped slot new
    → (i : ℕ) (found : Slot) → get_elem? (set shown slot new) i ≡ some found → IsShaped i found
shaped_set shown slot new shaped fits i found at = elim (at_set shown slot i new found at) [
  | inl here ↦ subst (λ (s : Slot). IsShaped i s) here.1 (subst (λ n. IsShaped n new) (sym here.0) fits)
  | inr there ↦ shaped i found there.1
]

module _ (key : HallKey) (seat : HallSeat) (before after : ListSlot) (note : SeatNote) (held : seat.hand.holds ≡ (0, slots.List before) ∷ []) where
  shown_after : (shown : List Slot) → showing shown ((0, slots.List after) ∷ renewed unchanged (without_slot 0 seat.hand.holds)) ≡ set shown 0 (slots.List after)
  shown_after shown = ap (λ (xs : List (ℕ × Slot)). showing shown ((0, slots.List after) ∷ xs))
      (ap (λ (xs : List (ℕ × Slot)). renewed unchanged (without_slot 0 xs)) held ∙ left_of_one unchanged 0 0 (slots.List before) refl)

  -- where the parts stay sound, too
  abbrev pub PartsStay : Type 0
  PartsStay = (shown : List Slot) (notes : List SeatNote) → 2 ≤ length shown → PartsAreSound key shown notes → get_elem? shown 0 ≡ some (slots.List before)
      → get_elem? notes seat.number ≡ some seat.hand.note → PartsAreSound key (set shown 0 (slots.List after)) (set notes seat.number note)

  moved : ListMayBecome key seat before after note → (shown : List Slot) (count : ℕ) (ns : List SeatNote) → 2 ≤ length shown → get_elem? shown 0 ≡ some (slots.List before) → get_elem? ns seat.number ≡ some seat.hand.note
      → (c : Setting) → IsSettingOf (table_of key) (quota_of key) c → HallLaw (machine_of c (terms_of key)) (Terms.limits (terms_of key)) (map value_of shown) count (map view_of ns)
      → ∥ HallLaw (machine_of c (terms_of key)) (Terms.limits (terms_of key)) (map value_of (set shown 0 (slots.List after))) count (map view_of (set ns seat.number note)) ∥₁
  moved step shown count ns two at mine c of law = ∥∥₁_map
      (step c of (hall_shown shown) count (map view_of ns) (law.steps, law.moment, law.leads, law.state) (list_at shown before at) (noted_at ns seat.number seat.hand.note mine))
      (law_of key c (set shown 0 (slots.List after)) (record (hall_shown shown) { list = list_shown after }) count (set ns seat.number note) (slice_set (map view_of ns) seat.number (view_of note))
      (list_written shown after two) (map-set view_of ns seat.number note))

  pub list_may : ListMayBecome key seat before after note → PartsStay → PutMay HallHolds key seat 0 (slots.List after) unchanged note
  list_may step stay shown count ns holds long shows mine = subst (λ (xs : List Slot). HallHolds key xs count (set ns seat.number note)) (sym (shown_after shown)) (record {
    key_is = holds.key_is;
    sized = length-set shown 0 (slots.List after) ∙ holds.sized;
    shaped = shaped_set shown 0 (slots.List after) holds.shaped refl;
    state = λ c of. ∥∥₁_elim (holds.state c of) ∥∥₁_prop (λ law. moved step shown count ns two at mine c of law);
    parts = stay shown ns two holds.parts at mine;
  })
    where
      at : get_elem? shown 0 ≡ some (slots.List before)
      at = (subst (λ (xs : List (ℕ × Slot)). Shows shown xs) held shows).0

      two : 2 ≤ length shown
      two = let sized = holds.sized in omega (arith, sized)

  -- so a put back of the list that the seat alone holds is what the row asks for
  pub list_keeps : (pick : Hand Slot SeatNote → SeatNote) → pick seat.hand ≡ note → 0 < note.places → ListMayBecome key seat before after note → PartsStay
      → PutKeeps Whole joined_note key seat 0 (slots.List after) pick unchanged
  list_keeps pick is placed step stay = put_rests places_of HallHolds joined_note key seat 0 (slots.List after) pick unchanged (subst (λ (n : SeatNote). 0 < n.places) (sym is) placed)
      (put_writes HallHolds joined_note key seat 0 (slots.List after) pick unchanged (subst (λ (n : SeatNote). PutMay HallHolds key seat 0 (slots.List after) unchanged n) (sym is) (list_may step stay)))
