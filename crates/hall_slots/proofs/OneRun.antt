-- What comes out of a hall that is closed is of one run.
use Rattle.std.proofs.Common.{◌≡◌, ℕ, ◌<◌, List, ◌∷◌, map, inl, inr, refl, sym, ap, ◌∙◌, subst, arith}
use Rattle.std.proofs.Math.Logic.{∥∥₁_map}
use Rattle.std.specs.Prelude.{Option, None, Some, false, slice_get}
use Rattle.std.specs.Option.{option_map}
use Rattle.std.proofs.lemmas.Bool.{cases_eq}
use Rattle.std.proofs.lemmas.Option.{same_Some}
use Rattle.depth_first_run.specs.States.{Setting}
use Rattle.depth_first_run.proofs.Built.{whole_is_depth_first}
use Rattle.deque_machine.specs.Terms.{Terms, machine_of}
use Rattle.play_rules.specs.declared.ends.RunEnd.{RunEnd}
use Rattle.thread_frames.specs.Passed.Settings.{IsSettingOf}
use Rattle.hall_machine.specs.Views.{View}
use Rattle.hall_machine.proofs.Notes.{each_by_place}
use Rattle.hall_machine.specs.State.{HallLaw}
use Rattle.hall_machine.specs.Closing.{IsAlone}
use Rattle.hall_machine.proofs.Closed.{seats_with_all_are_alone, closed_give_one_run}
use Rattle.hall_slots.specs.declared.list_slot.ListSlot.{ListSlot}
use Rattle.hall_slots.specs.declared.pool_slot.PoolSlot.{PoolSlot}
use Rattle.hall_slots.specs.declared.seat_note.SeatNote.{SeatNote}
use Rattle.hall_slots.specs.declared.slot.Slot.{Slot}
use Rattle.hall_slots.specs.declared.slot.Slot.TheVariants as slots
use Rattle.hall_slots.specs.Shown.{view_of, value_of, end_shown}
use Rattle.hall_slots.specs.declared.key.HallKey.{HallKey}
use Rattle.hall_slots.specs.Keys.{table_of, quota_of, terms_of}
use Rattle.hall_slots.specs.Sound.{EndIsSound}
use Rattle.hall_slots.specs.Steps.{hall_shown}
use Rattle.hall_slots.specs.Takes.{HallSeat, HasAllPlaces}
use Rattle.hall_slots.proofs.Lone.{noted_at}
use Rattle.hall_slots.proofs.Reading.{get_of_at}
use Rattle.hall_slots.proofs.Written.{list_at, pool_at}
use Rattle.hall_slots.specs.Closing.{seen_note, HasSeen, MayClose, AreLast, IsOfOneRun, IsClosed}

module _ (key : HallKey) (seat : HallSeat) (list : ListSlot) (pool : PoolSlot) (last : AreLast key seat list pool) (placed : 0 < seat.hand.note.places) (has : HasAllPlaces key seat)
    (idle : seat.hand.note.deque ≡ None) (end : RunEnd) (answered : seat.hand.note.answered ≡ Some end) where
  abbrev shown : List Slot
  shown = slots.List list ∷ slots.Pool pool ∷ last.lanes

  abbrev views : List View
  views = map view_of last.notes

  abbrev view : View
  view = view_of seat.hand.note

  its_note : slice_get last.notes seat.number ≡ Some seat.hand.note
  its_note = get_of_at last.notes seat.number seat.hand.note last.mine

  end_kept : list.end ≡ Some end
  end_kept = EndIsSound.answered (last.holds.parts.end list refl) seat.number seat.hand.note end its_note answered

  module _ (c : Setting) (of : IsSettingOf (table_of key) (quota_of key) c) (law : HallLaw (machine_of c (terms_of key)) (Terms.limits (terms_of key)) (map value_of shown) last.count views) where
    some_quota : 0 < c.quota
    some_quota = let same = IsSettingOf.quota of in let least = last.holds.key_is.quota in omega (arith, same, least)

    alone : IsAlone (hall_shown shown) views seat.number view
    alone = seats_with_all_are_alone (machine_of c (terms_of key)) (Terms.limits (terms_of key)) (hall_shown shown) law.steps law.moment law.leads last.count views seat.number view law.state
        (record { noted = noted_at last.notes seat.number seat.hand.note last.mine; placed = placed; stays = has.stays }) has.all has.alone

    its_yield : seat.hand.note.yielded ≡ false → (i : ℕ) (v : View) → slice_get views i ≡ Some v → v.yielded ≡ false
    its_yield none i v is = elim (cases_eq i seat.number) [
      | inl same ↦ ap (λ (u : View). u.yielded) (same_Some v view (sym is ∙ ap (slice_get views) same ∙ noted_at last.notes seat.number seat.hand.note last.mine)) ∙ none
      | inr other ↦ ap (λ (u : View). u.yielded) (alone.others i v other is)
    ]

    one_run : IsOfOneRun c key seat.number seat.hand.note list pool end
    one_run = record {
      h = hall_shown shown;
      count = last.count;
      views = views;
      steps = law.steps;
      moment = law.moment;
      leads = law.leads;
      state = law.state;
      noted = noted_at last.notes seat.number seat.hand.note last.mine;
      list_is = list_at shown list refl;
      pool_is = pool_at shown pool refl;
      gives = closed_give_one_run (machine_of c (terms_of key)) some_quota (whole_is_depth_first c) (Terms.limits (terms_of key)) (hall_shown shown) law.steps law.moment law.leads last.count views (end_shown end)
          law.state (alone.unowned idle) (ap (option_map end_shown) end_kept);
      unyielded = λ none. each_by_place (λ (v : View). v.yielded ≡ false) views (its_yield none);
    }

  closed_with : (before : HallSeat) → before.number ≡ seat.number → seen_note before.hand.note (Some end) ≡ seat.hand.note → IsClosed key before list pool end
  closed_with before number note = record {
    kept = end_kept;
    list_sound = last.holds.parts.list list refl;
    pool_sound = last.holds.parts.pool pool refl;
    finished = λ finish is. EndIsSound.finished (last.holds.parts.end list refl) finish (end_kept ∙ ap (λ (e : RunEnd). Some e) is);
    run = λ c of. ∥∥₁_map (last.holds.state c of) (λ law. subst (λ (z : ℕ × SeatNote). IsOfOneRun c key z.0 z.1 list pool end) (λ k. (sym number k, sym note k)) (one_run c of law));
  }

-- the seat that saw the end closes the hall with it
pub closed_of : (key : HallKey) (before seat : HallSeat) (end : RunEnd) → MayClose key before → HasSeen before (Some end) seat → (placed : 0 < seat.hand.note.places) → HasAllPlaces key seat
    → (list : ListSlot) (pool : PoolSlot) → AreLast key seat list pool → IsClosed key before list pool end
closed_of key before seat end may seen placed has list pool last =
    closed_with key seat list pool last placed has (ap (λ (s : HallSeat). s.hand.note.deque) seen.2 ∙ may.idle) end (ap (λ (s : HallSeat). s.hand.note.answered) seen.2) before
    (sym (ap (λ (s : HallSeat). s.number) seen.2)) (sym (ap (λ (s : HallSeat). s.hand.note) seen.2))

-- so does one that was answered it before
pub closed_at : (key : HallKey) (seat : HallSeat) (end : RunEnd) → MayClose key seat → seat.hand.note.answered ≡ Some end
    → (list : ListSlot) (pool : PoolSlot) → AreLast key seat list pool → IsClosed key seat list pool end
closed_at key seat end may answered list pool last =
    closed_with key seat list pool last may.placed may.all may.idle end answered seat refl
    (ap (λ (o : Option RunEnd). record seat.hand.note { answered = o }) (sym answered))
