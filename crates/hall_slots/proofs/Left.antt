-- A list that does not name the worker of a seat any more, which has left, leaves a hall in a running state.
use Rattle.std.proofs.Common.{◌≡◌, ◌≢◌, ℕ, ◌<◌, List, [], ◌∷◌, ◌++◌, map, set, refl, sym, ap, ◌∙◌, subst}
use Rattle.std.specs.Prelude.{Option, None, Some, slice_set}
use Rattle.std.specs.Option.{option_map}
use lib.Seq.{map-set}
use mathlib.Core.Option.{some}
use lib.ListN.{get_elem?}
use Rattle.dag_order.specs.declared.finish.Finish.{Finish}
use Rattle.deque_list.specs.declared.place.Place.{Place}
use Rattle.deque_machine.specs.Terms.{Terms, machine_of}
use Rattle.deque_machine.specs.Lists.{Among}
use Rattle.deque_machine.proofs.Lists.{each_among}
use Rattle.play_rules.specs.declared.stop.Stop.{Stop}
use Rattle.play_rules.specs.declared.ends.RunEnd.{RunEnd}
use Rattle.play_rules.specs.declared.ends.RunEnd.TheVariants.{Finished}
use Rattle.turn_table.specs.Law.{PutKeeps}
use Rattle.turn_table.specs.Seats.{with_hand}
use Rattle.turn_table.specs.Backs.{unchanged}
use Rattle.hall_machine.specs.Values.{ListShown, End}
use Rattle.hall_machine.specs.Views.{View}
use Rattle.hall_machine.specs.State.{RunningState}
use Rattle.hall_machine.specs.Points.{IsExcused}
use Rattle.hall_machine.specs.Quiet.{kept_with}
use Rattle.hall_machine.proofs.Quiet.{leaving_goes_on}
use Rattle.hall_slots.specs.declared.list_slot.ListSlot.{ListSlot}
use Rattle.hall_slots.specs.declared.seat_note.SeatNote.{SeatNote}
use Rattle.hall_slots.specs.declared.slot.Slot.{Slot}
use Rattle.hall_slots.specs.declared.slot.Slot.TheVariants as slots
use Rattle.hall_slots.specs.ListCalls.{IsOutOf}
use Rattle.hall_slots.specs.Shown.{list_shown, view_of, stop_shown, end_shown}
use Rattle.hall_slots.specs.declared.key.HallKey.{HallKey}
use Rattle.hall_slots.specs.Keys.{terms_of}
use Rattle.hall_slots.specs.Law.{joined_note}
use Rattle.hall_slots.specs.Sound.{EndIsSound, PartsAreSound}
use Rattle.hall_slots.specs.Steps.{ListMayBecome}
use Rattle.hall_slots.specs.Takes.{HallSeat, IsTaken, MeetsLaw}
use Rattle.hall_slots.proofs.Keeping.{Whole}
use Rattle.hall_slots.proofs.Lone.{noted_at}
use Rattle.hall_slots.proofs.Noting.{excused_by_others}
use Rattle.hall_slots.proofs.Putting.{list_keeps}
use Rattle.hall_slots.proofs.Reading.{get_of_at}
use Rattle.hall_slots.proofs.Ends.{kept_more, sound_by_excuses}
use Rattle.hall_slots.proofs.Halts.{shown_end, kept_before, finished_before}
use Rattle.hall_slots.proofs.Listed.{shows_crew, leaves_of}
use Rattle.hall_slots.specs.Leaving.{end_left, left_note, IsIdle, MayLeave, HoldsTheLeft, PutsLeft, HasLeft, HasGone}
use Rattle.hall_slots.proofs.Named.{unowned_of}

-- the end that is kept then, as it is shown
pub shown_left : (end : Option RunEnd) (found : Option Stop) → option_map end_shown (end_left end found) ≡ kept_with (option_map stop_shown found) (option_map end_shown end)
shown_left end None = refl
shown_left end (Some stop) = ap (λ (e : End). Some e) (shown_end end stop)

-- an end that was kept is the one that is kept, and a finish was kept before
pub kept_left : (o : Option RunEnd) (found : Option Stop) (end : RunEnd) → o ≡ Some end → end_left o found ≡ Some end
kept_left o None end is = is
kept_left o (Some stop) end is = kept_before o stop end is

pub finished_left : (o : Option RunEnd) (found : Option Stop) (finish : Finish) → end_left o found ≡ Some (Finished finish) → o ≡ Some (Finished finish)
finished_left o None finish is = is
finished_left o (Some stop) finish is = finished_before o stop finish is

module _ (key : HallKey) (seat : HallSeat) (list : ListSlot) (has : HoldsTheLeft seat list) where
  abbrev note : SeatNote
  note = left_note seat.hand.note

  kept_now : option_map end_shown list.end ≡ kept_with (View.found (view_of seat.hand.note)) (option_map end_shown has.before.end)
  kept_now = ap (option_map end_shown) has.end ∙ shown_left has.before.end seat.hand.note.found

  may_become : ListMayBecome key seat has.before list note
  may_become c of h count views run is its =
      let crew = has.crew.front ++ has.crew.back in
      let found = View.found (view_of seat.hand.note) in
      let named : h.list.crew ≡ has.crew.front ++ seat.hand.note.worker ∷ has.crew.back = ap (λ (l : ListShown). l.crew) is ∙ has.crew.before_is in
      let list_now : record h.list { crew = crew; kept = kept_with found h.list.kept } ≡ list_shown list =
      ap (λ (l : ListShown). record l { crew = crew; kept = kept_with found l.kept }) is ∙ sym (shows_crew has.before list crew (kept_with found (option_map end_shown has.before.end)) has.part has.crew.after_is kept_now) in
      ∣ (
        run.0,
        run.1,
        run.2,
        subst (λ (l : ListShown). RunningState (machine_of c (terms_of key)) (Terms.limits (terms_of key)) (record h { list = l }) run.0 run.1 run.2 count (slice_set views seat.number (view_of note))) list_now
            (leaving_goes_on (machine_of c (terms_of key)) (Terms.limits (terms_of key)) h run.0 run.1 run.2 count views seat.number (view_of seat.hand.note) has.crew.front has.crew.back run.3
            (record { noted = its; placed = has.is_idle.placed; stays = has.is_idle.stays }) has.is_idle.idle has.is_idle.nobody named),
      ) ∣₁

  keeps : (end : RunEnd) → has.before.end ≡ Some end → list.end ≡ Some end
  keeps end is = has.end ∙ kept_left has.before.end seat.hand.note.found end is

  module _ (shown : List Slot) (notes : List SeatNote) (sound : PartsAreSound key shown notes) (at : get_elem? shown 0 ≡ some (slots.List has.before)) (mine : get_elem? notes seat.number ≡ some seat.hand.note) where
    -- it excuses none of the owners, since it owns nothing
    excused_now : (place : Place) → Among place has.before.part.order.places → IsExcused (map view_of notes) (option_map end_shown has.before.end) place.owner
        → IsExcused (map view_of (set notes seat.number note)) (option_map end_shown list.end) place.owner
    excused_now place there excused = subst (λ (vs : List View). IsExcused vs (option_map end_shown list.end) place.owner) (sym (map-set view_of notes seat.number note))
        (excused_by_others (map view_of notes) seat.number (view_of seat.hand.note) (view_of note) (option_map end_shown has.before.end) (option_map end_shown list.end) place.owner
        (noted_at notes seat.number seat.hand.note mine)
        (λ worker owner its stays. each_among (λ (p : Place). p.owner ≢ Some seat.hand.note.worker) place has.before.part.order.places has.unowned there (owner ∙ ap (λ (w : ℕ). Some w) (sym its)))
        (kept_more has.before.end list.end keeps) excused)

    parts_now : PartsAreSound key (set shown 0 (slots.List list)) (set notes seat.number note)
    parts_now = sound_by_excuses key seat has.before list note has.part keeps
        (λ e is. keeps e (EndIsSound.answered (sound.end has.before (get_of_at shown 0 (slots.List has.before) at)) seat.number seat.hand.note e (get_of_at notes seat.number seat.hand.note mine) is))
        (λ f is. finished_left has.before.end seat.hand.note.found f (sym has.end ∙ is)) shown notes sound at mine excused_now

  pub left_keeps : PutKeeps Whole joined_note key seat 0 (slots.List list) (λ hand. left_note hand.note) unchanged
  left_keeps = list_keeps key seat has.before list note has.holds (λ hand. left_note hand.note) refl has.is_idle.placed may_become (λ shown notes two sound at mine. parts_now shown notes sound at mine)

module _ (before middle : HallSeat) (list : ListSlot) (taken : IsTaken before 0 (slots.List list) middle) where
  note_is : middle.hand.note ≡ before.hand.note
  note_is = ap (λ (s : HallSeat). s.hand.note) taken

  -- a seat that took the list is still idle, and holds it alone
  pub idle_after : IsIdle before → IsIdle middle
  idle_after idle = record {
    placed = subst (λ (n : SeatNote). 0 < n.places) (sym note_is) idle.placed;
    stays = ap (λ (n : SeatNote). n.left) note_is ∙ idle.stays;
    idle = ap (λ (n : SeatNote). n.deque) note_is ∙ idle.idle;
    nobody = ap (λ (n : SeatNote). n.enters) note_is ∙ idle.nobody;
  }

  pub holds_alone : before.hand.holds ≡ [] → middle.hand.holds ≡ (0, slots.List list) ∷ []
  holds_alone free = ap (λ (s : HallSeat). s.hand.holds) taken ∙ ap (λ (xs : List (ℕ × Slot)). (0, slots.List list) ∷ xs) free

  -- what it holds once its worker is out of the list
  pub left_held : (key : HallKey) (now : ListSlot) (worker : ℕ) (found : Option Stop) → MayLeave before worker found → before.hand.holds ≡ [] → MeetsLaw key middle
      → now.part ≡ list.part → IsOutOf worker list.crew.items now.crew.items → now.end ≡ end_left list.end found → HoldsTheLeft middle now
  left_held key now worker found may free meets part crew end = record {
    before = list;
    holds = holds_alone free;
    is_idle = idle_after may.is_idle;
    part = part;
    crew = subst (λ w. IsOutOf w list.crew.items now.crew.items) (sym (ap (λ (n : SeatNote). n.worker) note_is ∙ may.its_worker)) crew;
    end = end ∙ ap (end_left list.end) (sym (ap (λ (n : SeatNote). n.found) note_is ∙ may.its_stop));
    unowned = unowned_of key middle list (idle_after may.is_idle) (holds_alone free) meets;
  }

  -- and once it has put the list back it has left
  pub has_left : (after : HallSeat) → before.hand.holds ≡ [] → PutsLeft middle after → HasLeft before after
  has_left after free puts = (
    list,
    leaves_of middle after list (λ hand. left_note hand.note) (holds_alone free) puts
        ∙ ap (λ (s : HallSeat). with_hand s (record { seated = s.hand.seated; holds = []; note = left_note s.hand.note; looks = s.hand.looks })) taken,
  )

-- then it has gone
pub gone_of : (before after : HallSeat) → IsIdle before → HasLeft before after → HasGone after
gone_of before after idle left = record {
  placed = subst (λ (s : HallSeat). 0 < s.hand.note.places) (sym left.1) idle.placed;
  left = ap (λ (s : HallSeat). s.hand.note.left) left.1;
  nobody = ap (λ (s : HallSeat). s.hand.note.enters) left.1 ∙ idle.nobody;
  free = ap (λ (s : HallSeat). s.hand.holds) left.1;
}
