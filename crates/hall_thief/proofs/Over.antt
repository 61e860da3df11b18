-- A deque that is taken over leaves a hall whose law holds.
use Rattle.std.proofs.Common.{◌≡◌, ◌≢◌, ℕ, suc, ◌<◌, ◌≤◌, List, [], ◌∷◌, ◌++◌, map, length, set, inl, inr, refl, sym, ap, ◌∙◌, subst, arith, length-set}
use Rattle.std.specs.Prelude.{None, Some, min, nat_lt, slice_get, slice_set}
use Rattle.std.specs.Option.{option_map}
use Rattle.std.proofs.Math.Logic.{∥∥₁_map}
use Rattle.std.proofs.lemmas.Bool.{cases_eq}
use Rattle.std.proofs.lemmas.Option.{same_Some, none-some}
use mathlib.Core.Option.{some}
use lib.ListN.{get_elem?}
use lib.Seq.{map-set}
use Rattle.depth_first_run.specs.States.{Setting}
use Rattle.depth_first_run.proofs.Built.{whole_is_depth_first}
use Rattle.hall_thief.specs.HallNames.{DequeId, Terms, machine_of, Hall, LaneShown, ListShown, lane_at, LaneSlot, ListSlot, SeatNote, Slot, list_shown}
use Rattle.hall_thief.specs.HallNames.{end_shown, value_of, view_of, HallKey, table_of, quota_of, terms_of, threads_in, threads_of, IsLaneOf}
use Rattle.hall_thief.specs.HallNames.{thread_that_waits, ThreadsAreAtPoints, LanesAreInUse, ListIsSound, EndIsSound, PartsAreSound, HallSeat}
use Rattle.deque_list.specs.declared.place.Place.{Place}
use Rattle.deque_list.specs.Ids.{deque_id}
use Rattle.hall_slots.specs.Passed.Lists.{Among, Each}
use Rattle.hall_slots.proofs.Passed.DequeMachineLists.{each_from, each_among, among_middle, among_wider, among_here}
use Rattle.open_periods.proofs.Lists.{set_same, set_other}
use Rattle.play_rules.specs.declared.ends.RunEnd.{RunEnd}
use Rattle.hall_slots.specs.Passed.Thread.{Thread}
use Rattle.hall_slots.specs.Passed.ThreadFramesPoints.{IsAtPoint}
use Rattle.hall_slots.specs.Passed.Shown.{thread_shown}
use Rattle.thread_state.specs.Settings.{IsSettingOf}
use Rattle.hall_slots.specs.Passed.Rows.{list_stolen}
use Rattle.hall_slots.specs.Passed.Machine.{steals}
use Rattle.hall_slots.specs.Passed.Steps.{Step, stole}
use Rattle.hall_slots.specs.Passed.Writing.{lane_slot, lane_with, place_of, new_period}
use Rattle.hall_slots.proofs.Passed.Lanes.{IsElsewhere}
use Rattle.hall_slots.specs.Passed.HallMachineViews.{View}
use Rattle.hall_slots.specs.Passed.Changes.{after_event}
use Rattle.hall_slots.specs.Passed.State.{HallLaw}
use Rattle.hall_slots.specs.Passed.HallMachinePoints.{AreAtPoints, LaneAtPoints, IsExcused}
use Rattle.hall_slots.proofs.Passed.Thieves.{taking_over_goes_on}
use Rattle.hall_interleavings.proofs.Stealing.{taken_over}
use Rattle.hall_slots.specs.declared.slot.Slot.TheVariants as slots
use Rattle.hall_slots.specs.Law.{HallHolds}
use Rattle.hall_slots.specs.Steps.{hall_shown, IsRunning}
use Rattle.hall_slots.proofs.Lone.{noted_at}
use Rattle.hall_slots.proofs.Noting.{answered_set}
use Rattle.hall_slots.proofs.Putting.{law_of, shaped_set}
use Rattle.hall_slots.proofs.Reading.{IfList, get_of_at}
use Rattle.hall_slots.proofs.Written.{list_written, lane_written, list_at, lane_shown_at}
use Rattle.hall_thief.specs.Thefts.{stolen_note, HasTakenOver}
use Rattle.hall_thief.proofs.RobbedLists.{shows_robbed, list_robbed, none_kept, same_waiting, shows_begun, viewed, alone}

-- the kind of a slot of a lane
pub lane_kind : (n : ℕ) → 2 ≡ min (suc (suc n)) 2
lane_kind n = omega arith

module _ (key : HallKey) (seat : HallSeat) (list : ListSlot) (id : DequeId) (lane : LaneSlot) (has : HasTakenOver key seat list id lane) (shown : List Slot) (count : ℕ) (notes : List SeatNote)
    (holds : HallHolds key shown count notes) (first_at : get_elem? shown 0 ≡ some (slots.List has.list_was)) (own_at : get_elem? shown (lane_slot id) ≡ some (slots.Lane has.lane_was))
    (mine : get_elem? notes seat.number ≡ some seat.hand.note) where
  abbrev worker : ℕ
  worker = seat.hand.note.worker

  abbrev note : SeatNote
  note = stolen_note seat.hand.note id list.part.begun

  abbrev view : View
  view = view_of seat.hand.note

  abbrev places_now : List Place
  places_now = has.left ++ place_of id (Some worker) ∷ has.right

  abbrev between : List Slot
  between = set shown (lane_slot id) (slots.Lane lane)

  abbrev pub slots_over : List Slot
  slots_over = set between 0 (slots.List list)

  abbrev notes_now : List SeatNote
  notes_now = set notes seat.number note

  first_was : slice_get shown 0 ≡ Some (slots.List has.list_was)
  first_was = get_of_at shown 0 (slots.List has.list_was) first_at

  own_was : slice_get shown (lane_slot id) ≡ Some (slots.Lane has.lane_was)
  own_was = get_of_at shown (lane_slot id) (slots.Lane has.lane_was) own_at

  first_now : slice_get slots_over 0 ≡ Some (slots.List list)
  first_now = set_same between 0 (slots.List list) (slots.List has.list_was) (set_other shown (lane_slot id) 0 (slots.Lane lane) (λ e. omega (arith, e)) ∙ first_was)

  pool_same : slice_get slots_over 1 ≡ slice_get shown 1
  pool_same = set_other between 0 1 (slots.List list) (λ e. omega (arith, e)) ∙ set_other shown (lane_slot id) 1 (slots.Lane lane) (λ e. omega (arith, e))

  own_now : slice_get slots_over (lane_slot id) ≡ Some (slots.Lane lane)
  own_now = set_other between 0 (lane_slot id) (slots.List list) (λ e. omega (arith, e)) ∙ set_same shown (lane_slot id) (slots.Lane lane) (slots.Lane has.lane_was) own_was

  lane_same : (other : DequeId) → other.0 ≢ id.0 → slice_get slots_over (lane_slot other) ≡ slice_get shown (lane_slot other)
  lane_same other apart = set_other between 0 (lane_slot other) (slots.List list) (λ e. omega (arith, e))
      ∙ set_other shown (lane_slot id) (lane_slot other) (slots.Lane lane) (λ e. apart (omega (arith, e)))

  -- no thread moves
  threads_same : (other : DequeId) → threads_of slots_over other ≡ threads_of shown other
  threads_same other = elim (cases_eq other.0 id.0) [
    | inr apart ↦ ap threads_in (lane_same other apart)
    | inl same ↦ ap (λ n. threads_in (slice_get slots_over (suc (suc n)))) same ∙ ap threads_in own_now ∙ has.begins.items ∙ sym has.one ∙ sym (ap threads_in own_was)
        ∙ sym (ap (λ n. threads_in (slice_get shown (suc (suc n)))) same)
  ]

  places_are : list.part.order.places ≡ places_now
  places_are = has.robbed.places_are

  points_now : ThreadsAreAtPoints key slots_over notes_now list
  points_now = let was = holds.parts.points has.list_was first_was in
      let kept : option_map end_shown list.end ≡ option_map end_shown has.list_was.end = ap (option_map end_shown) has.robbed.end in
      let none : option_map end_shown has.list_was.end ≡ None = ap (option_map end_shown) has.robbed.no_end in
      let all = taken_over (IsAtPoint (table_of key) (quota_of key)) (map view_of notes) (option_map end_shown has.list_was.end) has.list_was.part.order.places (threads_of shown) (AreAtPoints.in_lanes was)
      seat.number view (view_of note) (noted_at notes seat.number seat.hand.note mine) refl refl refl (option_map end_shown list.end) kept has.left has.right id (Some worker) has.places_were none in
      record {
        in_lanes = subst (λ (z : List View × List Place). Each (λ (place : Place). LaneAtPoints (IsAtPoint (table_of key) (quota_of key)) (IsExcused z.0 (option_map end_shown list.end) place.owner) (threads_of slots_over place.id)) z.1)
            (λ k. (sym (map-set view_of notes seat.number note) k, sym places_are k))
            (subst (λ (f : DequeId → List Thread). Each (λ (place : Place). LaneAtPoints (IsAtPoint (table_of key) (quota_of key)) (IsExcused (slice_set (map view_of notes) seat.number (view_of note)) (option_map end_shown list.end) place.owner) (f place.id)) places_now)
            (λ k other. sym (threads_same other) k) all);
        that_wait = subst (λ xs. Each (IsAtPoint (table_of key) (quota_of key)) (map thread_that_waits xs)) (sym (same_waiting has.list_was list places_now has.robbed)) (AreAtPoints.that_wait was);
      }

  same_id : (other : DequeId) → other.0 ≡ id.0 → other ≡ id
  same_id other e = ap deque_id e

  its_place : Among (place_of id (Some worker)) list.part.order.places
  its_place = subst (λ (ps : List Place). Among (place_of id (Some worker)) ps) (sym places_are) (among_here (place_of id (Some worker)) has.left has.right)

  beside : (p : Place) → Among p (has.left ++ has.right) → Among p has.list_was.part.order.places
  beside p there = subst (λ (ps : List Place). Among p ps) (sym has.places_were) (among_wider p has.left (place_of id None) has.right there)

  spare_now : (other : DequeId) (l : LaneSlot) → Each (λ (place : Place). place.id ≢ other) list.part.order.places → IsLaneOf slots_over other l → (l.lane.items ≡ []) × (l.running ≡ None)
  spare_now other l apart is = elim (cases_eq other.0 id.0) [
    | inl same ↦ absurd (each_among (λ (place : Place). place.id ≢ other) (place_of id (Some worker)) list.part.order.places apart its_place (sym (same_id other same)))
    | inr away ↦ LanesAreInUse.spare (holds.parts.lanes has.list_was first_was) other l
        (each_from (λ (place : Place). place.id ≢ other) has.list_was.part.order.places (λ p there e.
        elim (among_middle p has.left (place_of id None) has.right (subst (λ (ps : List Place). Among p ps) has.places_were there)) [
          | inl this ↦ away (sym (ap (λ (d : DequeId). d.0) e) ∙ ap (λ (q : Place). q.id.0) this)
          | inr others ↦ each_among (λ (place : Place). place.id ≢ other) p list.part.order.places apart
              (subst (λ (ps : List Place). Among p ps) (sym places_are) (among_wider p has.left (place_of id (Some worker)) has.right others)) e
        ]))
        (sym (lane_same other away) ∙ is)
  ]

  unowned_now : (p : Place) → Among p list.part.order.places → (l : LaneSlot) → p.owner ≡ None → IsLaneOf slots_over p.id l → l.running ≡ None
  unowned_now p there l none is = elim (among_middle p has.left (place_of id (Some worker)) has.right (subst (λ (ps : List Place). Among p ps) places_are there)) [
    | inl this ↦ absurd (none-some worker (sym none ∙ ap (λ (q : Place). q.owner) this))
    | inr others ↦ each_among (λ (q : Place). (m : LaneSlot) → q.owner ≡ None → IsLaneOf shown q.id m → m.running ≡ None) p has.list_was.part.order.places
        (LanesAreInUse.unowned (holds.parts.lanes has.list_was first_was)) (beside p others) l none
        (sym (lane_same p.id (each_among (IsElsewhere id.0) p (has.left ++ has.right) (alone key shown count notes holds has.list_was first_at has.left (place_of id None) has.right has.places_were) others)) ∙ is)
  ]

  parts_now : PartsAreSound key slots_over notes_now
  parts_now = record {
    pool = λ pool is. holds.parts.pool pool (sym pool_same ∙ is);
    list = λ l is. subst (IfList (ListIsSound key)) (same_Some (slots.List list) (slots.List l) (sym first_now ∙ is)) (list_robbed has.list_was list places_now has.robbed key (holds.parts.list has.list_was first_was));
    points = λ l is. subst (IfList (ThreadsAreAtPoints key slots_over notes_now)) (same_Some (slots.List list) (slots.List l) (sym first_now ∙ is)) points_now;
    lanes = λ l is. subst (IfList (LanesAreInUse slots_over)) (same_Some (slots.List list) (slots.List l) (sym first_now ∙ is)) (record {
      spare = spare_now;
      unowned = each_from (λ (p : Place). (m : LaneSlot) → p.owner ≡ None → IsLaneOf slots_over p.id m → m.running ≡ None) list.part.order.places unowned_now;
    });
    end = λ l is. subst (IfList (EndIsSound notes_now)) (same_Some (slots.List list) (slots.List l) (sym first_now ∙ is)) (record {
      answered = let was = EndIsSound.answered (holds.parts.end has.list_was first_was) in let here = get_of_at notes seat.number seat.hand.note mine in
          answered_set notes seat.number seat.hand.note note list.end here (λ e answers. has.robbed.end ∙ was seat.number seat.hand.note e here answers) (λ i m e there answers. has.robbed.end ∙ was i m e there answers);
      finished = λ finish ends. absurd (none-some (Rattle.play_rules.specs.declared.ends.RunEnd.TheVariants.Finished finish) (sym (none_kept has.list_was list places_now has.robbed) ∙ ends));
    });
  }

  -- ---- what is shown

  two : 2 ≤ length shown
  two = let sized = holds.sized in omega (arith, sized)

  shown_is : hall_shown slots_over ≡ record {
    list = list_stolen (list_shown has.list_was) places_now;
    pool = Hall.pool (hall_shown shown);
    lanes = slice_set (Hall.lanes (hall_shown shown)) id.0 (lane_with (thread_shown has.thread ∷ []) (Some (new_period worker (nat_lt 0 (length has.left)) (suc has.list_was.part.begun))));
  }
  shown_is = list_written between list (let long = length-set shown (lane_slot id) (slots.Lane lane) in let t = two in omega (arith, long, t))
      ∙ ap (λ (h : Hall). record h { list = list_shown list }) (lane_written shown id lane two)
      ∙ (λ k. record { list = shows_robbed has.list_was list places_now has.robbed k; pool = Hall.pool (hall_shown shown); lanes = slice_set (Hall.lanes (hall_shown shown)) id.0 (shows_begun lane has.thread worker (nat_lt 0 (length has.left)) (suc has.list_was.part.begun) has.begins k) })

  some_quota : (c : Setting) → IsSettingOf (table_of key) (quota_of key) c → 0 < c.quota
  some_quota c of = let same = IsSettingOf.quota of in let least = holds.key_is.quota in omega (arith, same, least)

  module _ (c : Setting) (of : IsSettingOf (table_of key) (quota_of key) c) (law : HallLaw (machine_of c (terms_of key)) (Terms.limits (terms_of key)) (map value_of shown) count (map view_of notes)) where
    list_is : Hall.list (hall_shown shown) ≡ list_shown has.list_was
    list_is = list_at shown has.list_was first_at

    threads_are : LaneShown.threads (lane_at (Hall.lanes (hall_shown shown)) id) ≡ thread_shown has.thread ∷ []
    threads_are = ap (λ (l : LaneShown). l.threads) (lane_shown_at shown id has.lane_was own_at) ∙ ap (map thread_shown) has.one

    begun_is : list.part.begun ≡ suc (ListShown.begun (Hall.list (hall_shown shown)))
    begun_is = let more = has.robbed.begun in let same : ListShown.begun (Hall.list (hall_shown shown)) ≡ has.list_was.part.begun = ap (λ (l : ListShown). l.begun) list_is in omega (arith, more, same)

    -- the hall once a period begins for a list
    abbrev hall_after : ListShown → Hall
    hall_after l = record {
      list = list_stolen l places_now;
      pool = Hall.pool (hall_shown shown);
      lanes = slice_set (Hall.lanes (hall_shown shown)) id.0 (lane_with (thread_shown has.thread ∷ []) (Some (new_period worker (nat_lt 0 (length has.left)) (suc l.begun))));
    }

    abbrev step : Step
    step = record {
      seat = seat.number;
      worker = worker;
      period = suc (ListShown.begun (Hall.list (hall_shown shown)));
      event = steals (length has.left) id.0;
      told = stole id.0 (suc (ListShown.begun (Hall.list (hall_shown shown))));
    }

    abbrev view_after : View
    view_after = after_event view (Some id) (stole id.0 (suc (ListShown.begun (Hall.list (hall_shown shown))))) seat.hand.note.yielded

    running : IsRunning (machine_of c (terms_of key)) (Terms.limits (terms_of key)) (hall_after (Hall.list (hall_shown shown))) count (slice_set (map view_of notes) seat.number view_after)
    running = let went = taking_over_goes_on (machine_of c (terms_of key)) (some_quota c of) (whole_is_depth_first c) (Terms.limits (terms_of key)) (hall_shown shown) law.steps law.moment law.leads count (map view_of notes)
        seat.number view has.left has.right id (thread_shown has.thread) law.state (record { noted = noted_at notes seat.number seat.hand.note mine; placed = has.thief.placed; stays = has.thief.stays }) has.thief.idle has.near
        (ap (λ (l : ListShown). l.places) list_is ∙ has.places_were) threads_are in
        (step ∷ law.steps, went.0, (law.moment, law.leads, went.1, went.2), went.3)

    law_now : HallLaw (machine_of c (terms_of key)) (Terms.limits (terms_of key)) (map value_of slots_over) count (map view_of notes_now)
    law_now = law_of key c slots_over (hall_after (Hall.list (hall_shown shown))) count notes_now (slice_set (map view_of notes) seat.number view_after)
        (shown_is ∙ ap hall_after (sym list_is))
        (map-set view_of notes seat.number note ∙ ap (λ (v : View). slice_set (map view_of notes) seat.number v)
        (viewed seat.hand.note id list.part.begun ∙ ap (λ n. after_event view (Some id) (stole id.0 n) seat.hand.note.yielded) begun_is))
        running

  pub over_holds : HallHolds key slots_over count notes_now
  over_holds = record {
    key_is = holds.key_is;
    sized = length-set between 0 (slots.List list) ∙ length-set shown (lane_slot id) (slots.Lane lane) ∙ holds.sized;
    shaped = shaped_set between 0 (slots.List list) (shaped_set shown (lane_slot id) (slots.Lane lane) holds.shaped (lane_kind id.0)) refl;
    state = λ c of. ∥∥₁_map (holds.state c of) (law_now c of);
    parts = parts_now;
  }
