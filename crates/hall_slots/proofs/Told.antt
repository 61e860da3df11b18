-- A seat that holds the list was answered no other end than the one that is kept there.
use Rattle.std.proofs.Common.{◌≡◌, [], inl, refl, sym, ap, ◌∙◌, subst}
use Rattle.std.specs.Prelude.{Some}
use Rattle.play_rules.specs.declared.ends.RunEnd.{RunEnd}
use Rattle.turn_table.specs.Notes.{HasAs, notes}
use Rattle.turn_table.proofs.NoteLaws.{notes_at}
use Rattle.turn_table.proofs.Standing.{shown_as}
use Rattle.hall_slots.specs.declared.key.HallKey.{HallKey}
use Rattle.hall_slots.specs.declared.list_slot.ListSlot.{ListSlot}
use Rattle.hall_slots.specs.declared.seat_note.SeatNote.{SeatNote}
use Rattle.hall_slots.specs.declared.slot.Slot.TheVariants as slots
use Rattle.hall_slots.specs.Sound.{EndIsSound}
use Rattle.hall_slots.specs.Takes.{HallSeat, IsTaken, MeetsLaw}
use Rattle.hall_slots.proofs.Reading.{get_of_at}

pub answers_kept : (key : HallKey) (seat : HallSeat) (list : ListSlot) → HasAs 0 (slots.List list) seat.hand.holds → MeetsLaw key seat
    → (end : RunEnd) → seat.hand.note.answered ≡ Some end → list.end ≡ Some end
answers_kept key seat list has meets end is = let st = meets.3 in
    EndIsSound.answered (st.kept.0.parts.end list (get_of_at meets.0 0 (slots.List list)
    (shown_as meets.0 0 (slots.List list) seat.hand.holds (st.fits.shows seat.number seat.hand st.mine) has)))
    seat.number seat.hand.note end (get_of_at (notes meets.2) seat.number seat.hand.note (notes_at meets.2 seat.number seat.hand st.mine)) is

-- so it is with the list that it took
pub told_of : (key : HallKey) (before middle : HallSeat) (list : ListSlot) → IsTaken before 0 (slots.List list) middle → before.hand.holds ≡ []
    → MeetsLaw key middle → (end : RunEnd) → before.hand.note.answered ≡ Some end → list.end ≡ Some end
told_of key before middle list taken free meets end is = answers_kept key middle list
    (subst (HasAs 0 (slots.List list)) (sym (ap (λ (s : HallSeat). s.hand.holds) taken)) (inl (refl, refl))) meets end
    (ap (λ (n : SeatNote). n.answered) (ap (λ (s : HallSeat). s.hand.note) taken) ∙ is)
