-- What a seat is that saw whether an end is kept.
use Rattle.std.proofs.Common.{◌≡◌, ℕ, ◌<◌, List, [], ◌∷◌, ◌++◌, sym, ap, ◌∙◌, subst}
use Rattle.std.specs.Prelude.{Option, None, Some}
use Rattle.play_rules.specs.declared.ends.RunEnd.{RunEnd}
use Rattle.turn_table.specs.Seats.{with_hand}
use Rattle.turn_table.specs.Backs.{still}
use Rattle.hall_slots.specs.declared.list_slot.ListSlot.{ListSlot}
use Rattle.hall_slots.specs.declared.seat_note.SeatNote.{SeatNote}
use Rattle.hall_slots.specs.declared.slot.Slot.{Slot}
use Rattle.hall_slots.specs.declared.slot.Slot.TheVariants as slots
use Rattle.hall_slots.specs.declared.key.HallKey.{HallKey}
use Rattle.hall_slots.specs.Takes.{HallSeat, HasAllPlaces, IsTaken, IsGiven}
use Rattle.hall_slots.specs.Lists.{answered_note, HoldsTheEnd, PutsAnswered}
use Rattle.hall_slots.proofs.Listed.{leaves_of}
use Rattle.hall_slots.specs.Closing.{HasSeen, MayClose}

module _ (before middle : HallSeat) (list : ListSlot) (taken : IsTaken before 0 (slots.List list) middle) (free : before.hand.holds ≡ []) where
  holds_alone : middle.hand.holds ≡ (0, slots.List list) ∷ []
  holds_alone = ap (λ (s : HallSeat). s.hand.holds) taken ∙ ap (λ (xs : List (ℕ × Slot)). (0, slots.List list) ∷ xs) free

  pub end_held : (end : RunEnd) → list.end ≡ Some end → HoldsTheEnd middle list
  end_held end is = record { holds = holds_alone; some = (end, is) }

  noted : (after : HallSeat) (note : SeatNote → SeatNote) → after ≡ with_hand middle (record { seated = middle.hand.seated; holds = []; note = note middle.hand.note; looks = middle.hand.looks })
      → after ≡ with_hand before (record { seated = before.hand.seated; holds = []; note = note before.hand.note; looks = before.hand.looks ++ Rattle.turn_table.specs.declared.look.Look.TheVariants.Took 0 (slots.List list) ∷ [] })
  noted after note is = is ∙ ap (λ (s : HallSeat). with_hand s (record { seated = s.hand.seated; holds = []; note = note s.hand.note; looks = s.hand.looks })) taken

  pub seen_some : (after : HallSeat) (end : RunEnd) → list.end ≡ Some end → PutsAnswered middle list after → HasSeen before (Some end) after
  seen_some after end is puts = (
    list,
    is,
    noted after (λ note. record note { answered = Some end })
        (leaves_of middle after list (λ hand. answered_note hand.note list) holds_alone puts
        ∙ ap (λ (o : Option RunEnd). with_hand middle (record { seated = middle.hand.seated; holds = []; note = record middle.hand.note { answered = o }; looks = middle.hand.looks })) is),
  )

  pub seen_none : (after : HallSeat) → list.end ≡ None → IsGiven middle 0 after → HasSeen before None after
  seen_none after is gives = (list, is, noted after (λ note. note) (leaves_of middle after list still holds_alone gives))

-- a seat that saw the end has all places still, if it had them
module _ (key : HallKey) (before after : HallSeat) (end : RunEnd) (may : MayClose key before) (seen : HasSeen before (Some end) after) where
  pub all_still : HasAllPlaces key after
  all_still = record {
    all = ap (λ (s : HallSeat). s.hand.note.places) seen.2 ∙ may.all.all;
    stays = ap (λ (s : HallSeat). s.hand.note.left) seen.2 ∙ may.all.stays;
    alone = ap (λ (s : HallSeat). s.hand.note.enters) seen.2 ∙ may.all.alone;
  }

  pub placed_still : 0 < after.hand.note.places
  placed_still = subst (λ n. 0 < n) (sym (ap (λ (s : HallSeat). s.hand.note.places) seen.2)) may.placed
