-- A theft of the bottom thread of a deque that keeps others leaves a hall whose law holds.
use Rattle.std.proofs.Common.{◌≡◌, ◌≢◌, ℕ, suc, ◌<◌, ◌≤◌, List, [], ◌∷◌, ◌++◌, map, length, set, inl, inr, refl, sym, ap, ◌∙◌, subst, arith, length-set}
use Rattle.std.specs.Prelude.{Option, None, Some, true, slice_get, slice_set}
use Rattle.std.specs.Option.{option_map}
use Rattle.std.proofs.Math.Logic.{∥∥₁_map}
use Rattle.std.proofs.lemmas.Bool.{cases_eq}
use Rattle.std.proofs.lemmas.List.{length-map}
use Rattle.std.proofs.lemmas.Option.{same_Some, none-some}
use mathlib.Core.Option.{some}
use mathlib.Core.List.{map-append}
use lib.ListN.{get_elem?}
use lib.Seq.{map-set}
use Rattle.depth_first_run.specs.States.{Setting}
use Rattle.depth_first_run.proofs.Built.{whole_is_depth_first}
use Rattle.hall_thief.specs.HallNames.{DequeId, Terms, machine_of, Hall, ListShown, lane_at, lane_in, LaneSlot, ListSlot, SeatNote, Slot, list_shown}
use Rattle.hall_thief.specs.HallNames.{lane_shown, running_shown, end_shown, value_of, view_of, HallKey, table_of, quota_of, terms_of, threads_in}
use Rattle.hall_thief.specs.HallNames.{threads_of, IsLaneOf, thread_that_waits, ThreadsAreAtPoints, LanesAreInUse, ListIsSound, EndIsSound, PartsAreSound}
use Rattle.hall_thief.specs.HallNames.{HallSeat}
use Rattle.deque_list.specs.declared.place.Place.{Place}
use Rattle.deque_list.specs.Ids.{deque_id}
use Rattle.hall_slots.specs.Passed.Lists.{Among, Each}
use Rattle.open_periods.specs.Periods.{Period}
use Rattle.hall_slots.proofs.Passed.DequeMachineLists.{each_from, each_among, among_middle, among_wider, among_here}
use Rattle.open_periods.proofs.Lists.{set_same, set_other}
use Rattle.play_rules.specs.declared.ends.RunEnd.{RunEnd}
use Rattle.hall_slots.specs.Passed.ThreadFramesPoints.{IsAtPoint}
use Rattle.hall_slots.specs.Passed.Shown.{thread_shown}
use Rattle.thread_state.specs.Settings.{IsSettingOf}
use Rattle.hall_slots.specs.Passed.Rows.{list_stolen}
use Rattle.hall_slots.specs.Passed.Machine.{steals}
use Rattle.hall_slots.specs.Passed.Steps.{Step, stole}
use Rattle.hall_slots.specs.Passed.Writing.{lane_slot, lane_with, place_of, new_period}
use Rattle.hall_slots.proofs.Passed.Lanes.{IsElsewhere}
use Rattle.hall_slots.specs.Passed.HallMachineViews.{View}
use Rattle.hall_slots.specs.Passed.Changes.{after_event}
use Rattle.hall_slots.proofs.Passed.Notes.{get_inside}
use Rattle.hall_slots.specs.Passed.State.{HallLaw}
use Rattle.hall_slots.specs.Passed.HallMachinePoints.{AreAtPoints, LaneAtPoints, IsExcused}
use Rattle.hall_slots.proofs.Passed.Thieves.{thefts_beside_go_on}
use Rattle.hall_interleavings.proofs.Stealing.{stolen_beside}
use Rattle.hall_slots.specs.declared.slot.Slot.TheVariants as slots
use Rattle.hall_slots.specs.Law.{HallHolds}
use Rattle.hall_slots.specs.Steps.{hall_shown, IsRunning}
use Rattle.hall_slots.proofs.Lone.{noted_at}
use Rattle.hall_slots.proofs.Noting.{answered_set}
use Rattle.hall_slots.proofs.Putting.{law_of, shaped_set}
use Rattle.hall_slots.proofs.Reading.{IfList, IfLane, get_of_at}
use Rattle.hall_slots.proofs.Written.{list_written, lane_written, list_at, lane_shown_at}
use Rattle.hall_thief.specs.Thefts.{stolen_note, HasTakenBottom}
use Rattle.hall_thief.proofs.Over.{lane_kind}
use Rattle.hall_thief.proofs.RobbedLists.{shows_robbed, list_robbed, none_kept, same_waiting, shows_begun, viewed, alone}

-- a slot of a lane is one of the lanes
lane_inside : (shown : List Slot) (n : ℕ) (s : Slot) → slice_get shown (suc (suc n)) ≡ Some s → n < length (Hall.lanes (hall_shown shown))
lane_inside [] n s at = absurd (none-some s at)
lane_inside (a ∷ []) n s at = absurd (none-some s at)
lane_inside (a ∷ b ∷ lanes) n s at = let low = get_inside lanes n s at in let one = length-map (map value_of lanes) lane_in in let two = length-map lanes value_of in omega (arith, low, one, two)

-- the new deque is not its victim
pub ids_apart : (key : HallKey) (seat : HallSeat) (list : ListSlot) (victim : DequeId) (lane : LaneSlot) (id : DequeId) (new : LaneSlot) → HasTakenBottom key seat list victim lane id new → victim.0 ≢ id.0
ids_apart key seat list victim lane id new has = each_among (λ (place : Place). place.id.0 ≢ id.0) (place_of victim has.owner) has.list_was.part.order.places has.free
    (subst (λ (ps : List Place). Among (place_of victim has.owner) ps) (sym has.places_were) (among_here (place_of victim has.owner) has.left has.right))

module _ (key : HallKey) (seat : HallSeat) (list : ListSlot) (victim : DequeId) (lane : LaneSlot) (id : DequeId) (new : LaneSlot) (has : HasTakenBottom key seat list victim lane id new) (shown : List Slot) (count : ℕ) (notes : List SeatNote)
    (holds : HallHolds key shown count notes) (first_at : get_elem? shown 0 ≡ some (slots.List has.list_was)) (own_at : get_elem? shown (lane_slot victim) ≡ some (slots.Lane has.lane_was))
    (new_at : get_elem? shown (lane_slot id) ≡ some (slots.Lane has.new_was))
    (mine : get_elem? notes seat.number ≡ some seat.hand.note) where
  abbrev worker : ℕ
  worker = seat.hand.note.worker

  abbrev note : SeatNote
  note = stolen_note seat.hand.note id list.part.begun

  abbrev view : View
  view = view_of seat.hand.note

  abbrev robbed_place : Place
  robbed_place = place_of victim has.owner

  abbrev new_place : Place
  new_place = place_of id (Some worker)

  abbrev places_now : List Place
  places_now = has.left ++ robbed_place ∷ new_place ∷ has.right

  abbrev one : List Slot
  one = set shown (lane_slot victim) (slots.Lane lane)

  abbrev between : List Slot
  between = set one (lane_slot id) (slots.Lane new)

  abbrev pub slots_beside : List Slot
  slots_beside = set between 0 (slots.List list)

  abbrev notes_now : List SeatNote
  notes_now = set notes seat.number note

  robbed_there : Among robbed_place has.list_was.part.order.places
  robbed_there = subst (λ (ps : List Place). Among robbed_place ps) (sym has.places_were) (among_here robbed_place has.left has.right)

  apart_ids : victim.0 ≢ id.0
  apart_ids = ids_apart key seat list victim lane id new has

  first_was : slice_get shown 0 ≡ Some (slots.List has.list_was)
  first_was = get_of_at shown 0 (slots.List has.list_was) first_at

  own_was : slice_get shown (lane_slot victim) ≡ Some (slots.Lane has.lane_was)
  own_was = get_of_at shown (lane_slot victim) (slots.Lane has.lane_was) own_at

  new_was_at : slice_get shown (lane_slot id) ≡ Some (slots.Lane has.new_was)
  new_was_at = get_of_at shown (lane_slot id) (slots.Lane has.new_was) new_at

  first_now : slice_get slots_beside 0 ≡ Some (slots.List list)
  first_now = set_same between 0 (slots.List list) (slots.List has.list_was) (set_other one (lane_slot id) 0 (slots.Lane new) (λ e. omega (arith, e))
      ∙ set_other shown (lane_slot victim) 0 (slots.Lane lane) (λ e. omega (arith, e)) ∙ first_was)

  pool_same : slice_get slots_beside 1 ≡ slice_get shown 1
  pool_same = set_other between 0 1 (slots.List list) (λ e. omega (arith, e)) ∙ set_other one (lane_slot id) 1 (slots.Lane new) (λ e. omega (arith, e))
      ∙ set_other shown (lane_slot victim) 1 (slots.Lane lane) (λ e. omega (arith, e))

  own_now : slice_get slots_beside (lane_slot victim) ≡ Some (slots.Lane lane)
  own_now = set_other between 0 (lane_slot victim) (slots.List list) (λ e. omega (arith, e))
      ∙ set_other one (lane_slot id) (lane_slot victim) (slots.Lane new) (λ e. apart_ids (omega (arith, e))) ∙ set_same shown (lane_slot victim) (slots.Lane lane) (slots.Lane has.lane_was) own_was

  new_now : slice_get slots_beside (lane_slot id) ≡ Some (slots.Lane new)
  new_now = set_other between 0 (lane_slot id) (slots.List list) (λ e. omega (arith, e))
      ∙ set_same one (lane_slot id) (slots.Lane new) (slots.Lane has.new_was) (set_other shown (lane_slot victim) (lane_slot id) (slots.Lane lane) (λ e. apart_ids (omega (arith, e))) ∙ new_was_at)

  lane_same : (other : DequeId) → other.0 ≢ victim.0 → other.0 ≢ id.0 → slice_get slots_beside (lane_slot other) ≡ slice_get shown (lane_slot other)
  lane_same other apart away = set_other between 0 (lane_slot other) (slots.List list) (λ e. omega (arith, e))
      ∙ set_other one (lane_slot id) (lane_slot other) (slots.Lane new) (λ e. away (omega (arith, e)))
      ∙ set_other shown (lane_slot victim) (lane_slot other) (slots.Lane lane) (λ e. apart (omega (arith, e)))

  places_are : list.part.order.places ≡ places_now
  places_are = has.robbed.places_are

  elsewhere : Each (IsElsewhere victim.0) (has.left ++ has.right)
  elsewhere = alone key shown count notes holds has.list_was first_at has.left robbed_place has.right has.places_were

  points_now : ThreadsAreAtPoints key slots_beside notes_now list
  points_now = let was = holds.parts.points has.list_was first_was in
      let kept : option_map end_shown list.end ≡ option_map end_shown has.list_was.end = ap (option_map end_shown) has.robbed.end in
      let all = stolen_beside (IsAtPoint (table_of key) (quota_of key)) (map view_of notes) (option_map end_shown has.list_was.end) has.list_was.part.order.places (threads_of shown) (AreAtPoints.in_lanes was)
      seat.number view (view_of note) (noted_at notes seat.number seat.hand.note mine) refl refl refl (option_map end_shown list.end) kept has.left has.right robbed_place has.places_were elsewhere id
      (threads_of slots_beside) has.free has.first has.bottom has.others (ap threads_in own_was ∙ has.more) (ap threads_in own_now ∙ has.stay) (ap threads_in new_now ∙ has.begins.items)
      (λ other apart away. ap threads_in (lane_same other apart away)) (Some worker) in
      record {
        in_lanes = subst (λ (z : List View × List Place). Each (λ (place : Place). LaneAtPoints (IsAtPoint (table_of key) (quota_of key)) (IsExcused z.0 (option_map end_shown list.end) place.owner) (threads_of slots_beside place.id)) z.1)
            (λ k. (sym (map-set view_of notes seat.number note) k, sym places_are k)) all;
        that_wait = subst (λ xs. Each (IsAtPoint (table_of key) (quota_of key)) (map thread_that_waits xs)) (sym (same_waiting has.list_was list places_now has.robbed)) (AreAtPoints.that_wait was);
      }

  now_there : (p : Place) → Among p places_now → Among p list.part.order.places
  now_there p there = subst (λ (ps : List Place). Among p ps) (sym places_are) there

  robbed_now : Among robbed_place list.part.order.places
  robbed_now = now_there robbed_place (among_here robbed_place has.left (new_place ∷ has.right))

  new_there : Among new_place list.part.order.places
  new_there = now_there new_place (among_wider new_place has.left robbed_place (new_place ∷ has.right) (among_here new_place has.left has.right))

  beside : (p : Place) → Among p (has.left ++ has.right) → Among p has.list_was.part.order.places
  beside p there = subst (λ (ps : List Place). Among p ps) (sym has.places_were) (among_wider p has.left robbed_place has.right there)

  beside_now : (p : Place) → Among p (has.left ++ has.right) → Among p list.part.order.places
  beside_now p there = now_there p (among_wider p has.left robbed_place (new_place ∷ has.right) (among_wider p has.left new_place has.right there))

  spare_now : (other : DequeId) (l : LaneSlot) → Each (λ (place : Place). place.id ≢ other) list.part.order.places → IsLaneOf slots_beside other l → (l.lane.items ≡ []) × (l.running ≡ None)
  spare_now other l apart is = elim (cases_eq other.0 id.0) [
    | inl same ↦ absurd (each_among (λ (place : Place). place.id ≢ other) new_place list.part.order.places apart new_there (sym (ap deque_id same)))
    | inr away ↦ elim (cases_eq other.0 victim.0) [
      | inl same ↦ absurd (each_among (λ (place : Place). place.id ≢ other) robbed_place list.part.order.places apart robbed_now (sym (ap deque_id same)))
      | inr far ↦ LanesAreInUse.spare (holds.parts.lanes has.list_was first_was) other l
          (each_from (λ (place : Place). place.id ≢ other) has.list_was.part.order.places (λ p there e.
          elim (among_middle p has.left robbed_place has.right (subst (λ (ps : List Place). Among p ps) has.places_were there)) [
            | inl this ↦ far (sym (ap (λ (d : DequeId). d.0) e) ∙ ap (λ (q : Place). q.id.0) this)
            | inr others ↦ each_among (λ (place : Place). place.id ≢ other) p list.part.order.places apart (beside_now p others) e
          ]))
          (sym (lane_same other far away) ∙ is)
    ]
  ]

  unowned_was : (p : Place) → Among p has.list_was.part.order.places → (l : LaneSlot) → p.owner ≡ None → IsLaneOf shown p.id l → l.running ≡ None
  unowned_was p there = each_among (λ (q : Place). (m : LaneSlot) → q.owner ≡ None → IsLaneOf shown q.id m → m.running ≡ None) p has.list_was.part.order.places
      (LanesAreInUse.unowned (holds.parts.lanes has.list_was first_was)) there

  unowned_now : (p : Place) → Among p list.part.order.places → (l : LaneSlot) → p.owner ≡ None → IsLaneOf slots_beside p.id l → l.running ≡ None
  unowned_now p there l none is = elim (among_middle p has.left robbed_place (new_place ∷ has.right) (subst (λ (ps : List Place). Among p ps) places_are there)) [
    | inl this ↦ subst (IfLane (λ (m : LaneSlot). m.running ≡ None))
        (same_Some (slots.Lane lane) (slots.Lane l) (sym own_now ∙ ap (λ (q : Place). slice_get slots_beside (lane_slot q.id)) (sym this) ∙ is))
        (has.running ∙ unowned_was robbed_place robbed_there has.lane_was (ap (λ (q : Place). q.owner) (sym this) ∙ none) own_was)
    | inr rest ↦ elim (among_middle p has.left new_place has.right rest) [
      | inl this ↦ absurd (none-some worker (sym none ∙ ap (λ (q : Place). q.owner) this))
      | inr others ↦ unowned_was p (beside p others) l none
          (sym (lane_same p.id (each_among (IsElsewhere victim.0) p (has.left ++ has.right) elsewhere others)
          (each_among (λ (place : Place). place.id.0 ≢ id.0) p has.list_was.part.order.places has.free (beside p others))) ∙ is)
    ]
  ]

  parts_now : PartsAreSound key slots_beside notes_now
  parts_now = record {
    pool = λ pool is. holds.parts.pool pool (sym pool_same ∙ is);
    list = λ l is. subst (IfList (ListIsSound key)) (same_Some (slots.List list) (slots.List l) (sym first_now ∙ is)) (list_robbed has.list_was list places_now has.robbed key (holds.parts.list has.list_was first_was));
    points = λ l is. subst (IfList (ThreadsAreAtPoints key slots_beside notes_now)) (same_Some (slots.List list) (slots.List l) (sym first_now ∙ is)) points_now;
    lanes = λ l is. subst (IfList (LanesAreInUse slots_beside)) (same_Some (slots.List list) (slots.List l) (sym first_now ∙ is)) (record {
      spare = spare_now;
      unowned = each_from (λ (p : Place). (m : LaneSlot) → p.owner ≡ None → IsLaneOf slots_beside p.id m → m.running ≡ None) list.part.order.places unowned_now;
    });
    end = λ l is. subst (IfList (EndIsSound notes_now)) (same_Some (slots.List list) (slots.List l) (sym first_now ∙ is)) (record {
      answered = let was = EndIsSound.answered (holds.parts.end has.list_was first_was) in let here = get_of_at notes seat.number seat.hand.note mine in
          answered_set notes seat.number seat.hand.note note list.end here (λ e answers. has.robbed.end ∙ was seat.number seat.hand.note e here answers) (λ i m e there answers. has.robbed.end ∙ was i m e there answers);
      finished = λ finish ends. absurd (none-some (Rattle.play_rules.specs.declared.ends.RunEnd.TheVariants.Finished finish) (sym (none_kept has.list_was list places_now has.robbed) ∙ ends));
    });
  }

  -- ---- what is shown

  two : 2 ≤ length shown
  two = let sized = holds.sized in omega (arith, sized)

  abbrev running_was : Option Period
  running_was = option_map running_shown has.lane_was.running

  -- the hall once a period begins for a list
  abbrev hall_after : ListShown → Hall
  hall_after l = record {
    list = list_stolen l places_now;
    pool = Hall.pool (hall_shown shown);
    lanes = slice_set (slice_set (Hall.lanes (hall_shown shown)) victim.0 (lane_with (thread_shown has.first ∷ map thread_shown has.others) running_was)) id.0
        (lane_with (thread_shown has.bottom ∷ []) (Some (new_period worker true (suc l.begun))));
  }

  robbed_lane : lane_shown lane ≡ lane_with (thread_shown has.first ∷ map thread_shown has.others) running_was
  robbed_lane = λ k. lane_with (map thread_shown (has.stay k)) (option_map running_shown (has.running k))

  shown_is : hall_shown slots_beside ≡ hall_after (list_shown has.list_was)
  shown_is = list_written between list (let long = length-set one (lane_slot id) (slots.Lane new) in let longer = length-set shown (lane_slot victim) (slots.Lane lane) in let t = two in omega (arith, long, longer, t))
      ∙ ap (λ (h : Hall). record h { list = list_shown list })
      (lane_written one id new (let longer = length-set shown (lane_slot victim) (slots.Lane lane) in let t = two in omega (arith, longer, t))
      ∙ ap (λ (h : Hall). record h { lanes = slice_set h.lanes id.0 (lane_shown new) }) (lane_written shown victim lane two))
      ∙ (λ k. record {
        list = shows_robbed has.list_was list places_now has.robbed k;
        pool = Hall.pool (hall_shown shown);
        lanes = slice_set (slice_set (Hall.lanes (hall_shown shown)) victim.0 (robbed_lane k)) id.0 (shows_begun new has.bottom worker true (suc has.list_was.part.begun) has.begins k);
      })

  some_quota : (c : Setting) → IsSettingOf (table_of key) (quota_of key) c → 0 < c.quota
  some_quota c of = let same = IsSettingOf.quota of in let least = holds.key_is.quota in omega (arith, same, least)

  module _ (c : Setting) (of : IsSettingOf (table_of key) (quota_of key) c) (law : HallLaw (machine_of c (terms_of key)) (Terms.limits (terms_of key)) (map value_of shown) count (map view_of notes)) where
    list_is : Hall.list (hall_shown shown) ≡ list_shown has.list_was
    list_is = list_at shown has.list_was first_at

    lane_is : lane_at (Hall.lanes (hall_shown shown)) victim ≡ lane_with (thread_shown has.first ∷ (map thread_shown has.others ++ thread_shown has.bottom ∷ [])) running_was
    lane_is = lane_shown_at shown victim has.lane_was own_at ∙ (λ k. lane_with (map thread_shown (has.more k)) running_was)
        ∙ ap (λ xs. lane_with (thread_shown has.first ∷ xs) running_was) (map-append thread_shown has.others (has.bottom ∷ []))

    begun_is : list.part.begun ≡ suc (ListShown.begun (Hall.list (hall_shown shown)))
    begun_is = let more = has.robbed.begun in let same : ListShown.begun (Hall.list (hall_shown shown)) ≡ has.list_was.part.begun = ap (λ (l : ListShown). l.begun) list_is in omega (arith, more, same)

    abbrev step : Step
    step = record {
      seat = seat.number;
      worker = worker;
      period = suc (ListShown.begun (Hall.list (hall_shown shown)));
      event = steals (length has.left) id.0;
      told = stole id.0 (suc (ListShown.begun (Hall.list (hall_shown shown))));
    }

    abbrev view_after : View
    view_after = after_event view (Some id) (stole id.0 (suc (ListShown.begun (Hall.list (hall_shown shown))))) seat.hand.note.yielded

    running : IsRunning (machine_of c (terms_of key)) (Terms.limits (terms_of key)) (hall_after (Hall.list (hall_shown shown))) count (slice_set (map view_of notes) seat.number view_after)
    running = let went = thefts_beside_go_on (machine_of c (terms_of key)) (some_quota c of) (whole_is_depth_first c) (Terms.limits (terms_of key)) (hall_shown shown) law.steps law.moment law.leads count (map view_of notes)
        seat.number view has.left has.right robbed_place id (thread_shown has.first) (thread_shown has.bottom) (map thread_shown has.others) running_was law.state
        (record { noted = noted_at notes seat.number seat.hand.note mine; placed = has.thief.placed; stays = has.thief.stays }) has.thief.idle has.near
        (ap (λ (l : ListShown). l.places) list_is ∙ has.places_were) lane_is
        (subst (λ (l : ListShown). Each (λ (place : Place). place.id.0 ≢ id.0) l.places) (sym list_is) has.free) (lane_inside shown id.0 (slots.Lane has.new_was) new_was_at) in
        (step ∷ law.steps, went.0, (law.moment, law.leads, went.1, went.2), went.3)

    law_now : HallLaw (machine_of c (terms_of key)) (Terms.limits (terms_of key)) (map value_of slots_beside) count (map view_of notes_now)
    law_now = law_of key c slots_beside (hall_after (Hall.list (hall_shown shown))) count notes_now (slice_set (map view_of notes) seat.number view_after)
        (shown_is ∙ ap hall_after (sym list_is))
        (map-set view_of notes seat.number note ∙ ap (λ (v : View). slice_set (map view_of notes) seat.number v)
        (viewed seat.hand.note id list.part.begun ∙ ap (λ n. after_event view (Some id) (stole id.0 n) seat.hand.note.yielded) begun_is))
        running

  pub beside_holds : HallHolds key slots_beside count notes_now
  beside_holds = record {
    key_is = holds.key_is;
    sized = length-set between 0 (slots.List list) ∙ length-set one (lane_slot id) (slots.Lane new) ∙ length-set shown (lane_slot victim) (slots.Lane lane) ∙ holds.sized;
    shaped = shaped_set between 0 (slots.List list) (shaped_set one (lane_slot id) (slots.Lane new) (shaped_set shown (lane_slot victim) (slots.Lane lane) holds.shaped (lane_kind victim.0)) (lane_kind id.0)) refl;
    state = λ c of. ∥∥₁_map (holds.state c of) (law_now c of);
    parts = parts_now;
  }
