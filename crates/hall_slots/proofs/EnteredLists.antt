-- A list that is put back by a seat by which a worker enters.
use Rattle.std.proofs.Common.{◌≡◌, ℕ, List, [], ◌∷◌, ◌++◌, refl, sym, ap, ◌∙◌, subst, append-nil}
use Rattle.std.specs.Prelude.{Option, None, Some, slice_set}
use Rattle.std.specs.Option.{option_map}
use Rattle.deque_machine.specs.Terms.{Terms, machine_of}
use Rattle.deque_machine.specs.Lists.{times}
use Rattle.turn_table.specs.Law.{PutKeeps}
use Rattle.turn_table.specs.Backs.{unchanged}
use Rattle.hall_machine.specs.Values.{ListShown}
use Rattle.hall_machine.specs.Views.{View}
use Rattle.hall_machine.specs.Seats.{entering}
use Rattle.hall_machine.specs.State.{RunningState}
use Rattle.hall_machine.proofs.Quiet.{entering_goes_on}
use Rattle.hall_slots.specs.declared.list_slot.ListSlot.{ListSlot}
use Rattle.hall_slots.specs.declared.seat_note.SeatNote.{SeatNote}
use Rattle.hall_slots.specs.declared.slot.Slot.TheVariants as slots
use Rattle.hall_slots.specs.Shown.{list_shown, view_of, end_shown}
use Rattle.hall_slots.specs.declared.key.HallKey.{HallKey}
use Rattle.hall_slots.specs.Keys.{terms_of}
use Rattle.hall_slots.specs.Law.{joined_note}
use Rattle.hall_slots.specs.Sound.{EndIsSound}
use Rattle.hall_slots.specs.Steps.{ListMayBecome}
use Rattle.hall_slots.specs.Takes.{HallSeat, IsPlaced}
use Rattle.hall_slots.proofs.Keeping.{Whole}
use Rattle.hall_slots.proofs.Putting.{list_keeps}
use Rattle.hall_slots.proofs.Reading.{get_of_at}
use Rattle.hall_slots.proofs.Ends.{parts_sound}
use Rattle.hall_slots.proofs.Listed.{shows_crew}
use Rattle.hall_slots.specs.Entering.{entering_note, last_of, HoldsTheNamed}

pub last_snoc : (crew : List ℕ) (worker : ℕ) → last_of (crew ++ worker ∷ []) ≡ Some worker
last_snoc [] worker = refl
last_snoc (x ∷ []) worker = refl
last_snoc (x ∷ y ∷ crew) worker = last_snoc (y ∷ crew) worker

module _ (key : HallKey) (seat : HallSeat) (placed : IsPlaced seat) (list : ListSlot) where
  -- it names one worker more
  module _ (has : HoldsTheNamed key seat list) where
    abbrev named : SeatNote
    named = entering_note seat.hand.note (last_of list.crew.items)

    last_is : last_of list.crew.items ≡ Some has.worker
    last_is = ap last_of has.crew ∙ last_snoc has.before.crew.items has.worker

    named_may : ListMayBecome key seat has.before list named
    named_may c of h count views run is its =
        let crew_is : h.list.crew ≡ has.before.crew.items ++ [] = ap (λ (l : ListShown). l.crew) is ∙ sym (append-nil has.before.crew.items) in
        let none_kept : h.list.kept ≡ None = ap (λ (l : ListShown). l.kept) is ∙ ap (option_map end_shown) has.no_end in
        let none_named : times has.worker h.list.crew ≡ 0 = ap (λ (l : ListShown). times has.worker l.crew) is ∙ has.new in
        let list_now : record h.list { crew = has.before.crew.items ++ has.worker ∷ [] } ≡ list_shown list =
        ap (λ (l : ListShown). record l { crew = has.before.crew.items ++ has.worker ∷ [] }) is ∙ sym (shows_crew has.before list (has.before.crew.items ++ has.worker ∷ []) (option_map end_shown has.before.end) has.part has.crew (ap (option_map end_shown) has.end)) in
        let viewed : entering (view_of seat.hand.note) has.worker ≡ view_of named = ap (λ (o : Option ℕ). record (view_of seat.hand.note) { enters = o }) (sym last_is) in
        ∣ (
          run.0,
          run.1,
          run.2,
          subst (λ (z : ListShown × View). RunningState (machine_of c (terms_of key)) (Terms.limits (terms_of key)) (record h { list = z.0 }) run.0 run.1 run.2 count (slice_set views seat.number z.1))
              (λ k. (list_now k, viewed k))
              (entering_goes_on (machine_of c (terms_of key)) (Terms.limits (terms_of key)) h run.0 run.1 run.2 count views seat.number (view_of seat.hand.note) has.worker has.before.crew.items [] run.3 its has.many has.nobody none_kept crew_is has.low none_named),
        ) ∣₁

    pub named_keeps : PutKeeps Whole joined_note key seat 0 (slots.List list) (λ hand. entering_note hand.note (last_of list.crew.items)) unchanged
    named_keeps = list_keeps key seat has.before list named has.holds (λ hand. entering_note hand.note (last_of list.crew.items)) refl placed named_may
        (λ shown notes two sound at mine. parts_sound key seat has.before list named has.part (λ e is. has.end ∙ is) refl (λ left memory. (left, memory))
        (λ e is. has.end ∙ EndIsSound.answered (sound.end has.before (get_of_at shown 0 (slots.List has.before) at)) seat.number seat.hand.note e (get_of_at notes seat.number seat.hand.note mine) is)
        (λ f is. sym has.end ∙ is) shown notes sound at mine)
