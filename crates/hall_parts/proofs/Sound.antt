-- Parts in the slots of a hall stay sound where a seat has written the list, the pool and the lane of its deque.
use Rattle.std.proofs.Common.{◌≡◌, ◌≢◌, ℕ, suc, false, List, [], ◌∷◌, map, set, inl, inr, refl, sym, ap, ◌∙◌, subst, arith}
use Rattle.std.proofs.lemmas.Bool.{cases_eq}
use Rattle.std.proofs.lemmas.Option.{same_Some, none-some}
use Rattle.std.specs.Option.{option_map}
use Rattle.std.specs.Prelude.{Option, None, Some, slice_get}
use mathlib.Core.Option.{some}
use lib.ListN.{get_elem?}
use lib.Seq.{map-set}
use Rattle.dag_order.specs.Births.{root}
use Rattle.dag_order.specs.declared.finish.Finish.{Finish}
use Rattle.hall_parts.specs.HallNames.{DequeId, LaneSlot, SeatNote, Slot, view_of, end_shown, stop_shown, HallKey, table_of, quota_of, HallSeat, kept_under}
use Rattle.hall_parts.specs.HallNames.{Stop as HallStop, by_rule, no_memory, threads_in, threads_of, IsLaneOf, PoolIsSound, ListIsSound, ThreadsAreAtPoints}
use Rattle.hall_parts.specs.HallNames.{LanesAreInUse, EndIsSound, PartsAreSound}
use Rattle.deque_list.specs.declared.place.Place.{Place}
use Rattle.deque_list.specs.Ids.{deque_id}
use Rattle.hall_slots.specs.Passed.Roots.{end_of_root}
use Rattle.play_rules.specs.declared.ends.RunEnd.{RunEnd}
use Rattle.play_rules.specs.declared.ends.RunEnd.TheVariants.{Finished}
use Rattle.play_rules.specs.declared.stop.Stop.{Stop}
use Rattle.play_rules.specs.declared.stop.Stop.TheVariants.{ArenaFull, DequesFull, StepsSpent, OutOfMemory}
use Rattle.hall_slots.specs.Passed.Lists.{Among, Each}
use Rattle.hall_slots.proofs.Passed.DequeMachineLists.{each_from, each_among, each_at, among_middle, among_wider}
use Rattle.hall_slots.proofs.Passed.OpenPeriodsLists.{set_same, set_other}
use Rattle.hall_slots.specs.Passed.ThreadFramesPoints.{IsAtPoint}
use Rattle.hall_slots.specs.Passed.Thread.{Thread}
use Rattle.hall_slots.specs.Passed.HallMachineViews.{View}
use Rattle.hall_slots.specs.Passed.Writing.{lane_slot, place_of}
use Rattle.hall_slots.specs.Passed.HallMachinePoints.{IsExcused, LaneAtPoints, AreAtPoints}
use Rattle.hall_slots.proofs.Passed.Points.{excuses_stay}
use Rattle.hall_slots.specs.declared.slot.Slot.TheVariants as slots
use Rattle.hall_slots.specs.Law.{HallHolds}
use Rattle.hall_slots.proofs.Lone.{noted_at}
use Rattle.hall_slots.proofs.Reading.{at_of_get, get_of_at, IfList, IfPool, IfLane}
use Rattle.hall_parts.specs.Writes.{Parts, slots_with, AreIn, IsOwner, IsShort, BecomesOf, stays, loses_owner, goes, StaySound}
use Rattle.hall_parts.proofs.Owned.{is_listed, is_its, is_open}

-- who shows lack of memory found it
abbrev is_no_memory : HallStop → Type 0
is_no_memory (by_rule stop) = ⊥
is_no_memory no_memory = Unit {0}

pub shown_memory : (found : Option Stop) → option_map stop_shown found ≡ Some no_memory → found ≡ Some OutOfMemory
shown_memory None is = absurd (none-some no_memory is)
shown_memory (Some (ArenaFull live asked)) is = absurd (subst is_no_memory (sym (same_Some (stop_shown (ArenaFull live asked)) no_memory is)) tt)
shown_memory (Some (DequesFull deques)) is = absurd (subst is_no_memory (sym (same_Some (stop_shown (DequesFull deques)) no_memory is)) tt)
shown_memory (Some (StepsSpent limit)) is = absurd (subst is_no_memory (sym (same_Some (stop_shown (StepsSpent limit)) no_memory is)) tt)
shown_memory (Some OutOfMemory) is = refl

-- what is kept stays shown
kept_shown : {A B : Type 0} (f : A → B) (o now : Option A) → ((x : A) → o ≡ Some x → now ≡ Some x) → (y : B) → option_map f o ≡ Some y → option_map f now ≡ Some y
kept_shown f None now keeps y is = absurd (none-some y is)
kept_shown f (Some x) now keeps y is = ap (option_map f) (keeps x refl) ∙ is

module _ {T : Type 0} (At : T → Type 0) where
  pub lane_excused : (Before Now : Type 0) → (Before → Now) → (threads : List T) → LaneAtPoints At Before threads → LaneAtPoints At Now threads
  lane_excused Before Now f [] at = tt
  lane_excused Before Now f (top ∷ under) at = (elim at.0 [ inl here ↦ inl here | inr excused ↦ inr (f excused) ], at.1)

-- Of the places those with other ids are the same, whatever becomes of the deque.
module _ (deque : DequeId) (lane : LaneSlot) (was now : List Place) where
  were_there : BecomesOf deque lane was now → (place : Place) → place.id.0 ≢ deque.0 → Among place now → Among place was
  were_there (stays same) place other there = subst (λ places. Among place places) same there
  were_there (loses_owner left right owner before after idle) place other there =
      elim (among_middle place left (place_of deque None) right (subst (λ places. Among place places) after there)) [
        | inl is ↦ absurd (other (ap (λ p. DequeId.0 (Place.id p)) is))
        | inr beside ↦ subst (λ places. Among place places) (sym before) (among_wider place left (place_of deque owner) right beside)
      ]
  were_there (goes left right owner before after empty idle) place other there =
      subst (λ places. Among place places) (sym before) (among_wider place left (place_of deque owner) right (subst (λ places. Among place places) after there))

  are_there : BecomesOf deque lane was now → (place : Place) → place.id.0 ≢ deque.0 → Among place was → Among place now
  are_there (stays same) place other there = subst (λ places. Among place places) (sym same) there
  are_there (loses_owner left right owner before after idle) place other there =
      elim (among_middle place left (place_of deque owner) right (subst (λ places. Among place places) before there)) [
        | inl is ↦ absurd (other (ap (λ p. DequeId.0 (Place.id p)) is))
        | inr beside ↦ subst (λ places. Among place places) (sym after) (among_wider place left (place_of deque None) right beside)
      ]
  are_there (goes left right owner before after empty idle) place other there =
      elim (among_middle place left (place_of deque owner) right (subst (λ places. Among place places) before there)) [
        | inl is ↦ absurd (other (ap (λ p. DequeId.0 (Place.id p)) is))
        | inr beside ↦ subst (λ places. Among place places) (sym after) beside
      ]

  -- its lane is empty where the deque is gone
  its_lane_is_spare : BecomesOf deque lane was now → (Each (λ place. place.id ≢ deque) was → ⊥) → Each (λ place. place.id ≢ deque) now
      → (lane.lane.items ≡ []) × (lane.running ≡ None)
  its_lane_is_spare (stays same) listed apart = absurd (listed (subst (λ places. Each (λ place. place.id ≢ deque) places) same apart))
  its_lane_is_spare (loses_owner left right owner before after idle) listed apart =
      absurd (each_at (λ place. place.id ≢ deque) left (place_of deque None) right (subst (λ places. Each (λ place. place.id ≢ deque) places) after apart) refl)
  its_lane_is_spare (goes left right owner before after empty idle) listed apart = (empty, idle)

  -- and no period runs there where nobody owns it
  its_lane_is_idle : BecomesOf deque lane was now → ((place : Place) → Among place was → place.id.0 ≡ deque.0 → place.owner ≡ None → ⊥)
      → (place : Place) → Among place now → place.id.0 ≡ deque.0 → place.owner ≡ None → lane.running ≡ None
  its_lane_is_idle (stays same) owned place there its none = absurd (owned place (subst (λ places. Among place places) same there) its none)
  its_lane_is_idle (loses_owner left right owner before after idle) owned place there its none = idle
  its_lane_is_idle (goes left right owner before after empty idle) owned place there its none = idle

module _ (key : HallKey) (shown : List Slot) (count : ℕ) (notes : List SeatNote) (holds : HallHolds key shown count notes) (seat : HallSeat)
    (mine : get_elem? notes seat.number ≡ some seat.hand.note) (deque : DequeId) (its : IsOwner seat deque) (was now : Parts) (at : AreIn shown deque was)
    (note : SeatNote) (stay : StaySound key seat deque was now note) where
  abbrev one : List Slot
  one = set shown (lane_slot deque) (slots.Lane now.lane)

  abbrev two : List Slot
  two = set one 1 (slots.Pool now.pool)

  abbrev shown_now : List Slot
  shown_now = slots_with shown deque now

  abbrev notes_now : List SeatNote
  notes_now = set notes seat.number note

  abbrev At : Thread → Type 0
  At = IsAtPoint (table_of key) (quota_of key)

  abbrev were : List Place
  were = was.list.part.order.places

  abbrev are : List Place
  are = now.list.part.order.places

  first : slice_get shown 0 ≡ Some (slots.List was.list)
  first = get_of_at shown 0 (slots.List was.list) at.list

  list_now : slice_get shown_now 0 ≡ Some (slots.List now.list)
  list_now = set_same two 0 (slots.List now.list) (slots.List was.list)
      (set_other one 1 0 (slots.Pool now.pool) (λ e. omega (arith, e)) ∙ set_other shown (lane_slot deque) 0 (slots.Lane now.lane) (λ e. omega (arith, e)) ∙ first)

  pool_now : slice_get shown_now 1 ≡ Some (slots.Pool now.pool)
  pool_now = set_other two 0 1 (slots.List now.list) (λ e. omega (arith, e)) ∙ set_same one 1 (slots.Pool now.pool) (slots.Pool was.pool)
      (set_other shown (lane_slot deque) 1 (slots.Lane now.lane) (λ e. omega (arith, e)) ∙ get_of_at shown 1 (slots.Pool was.pool) at.pool)

  lane_now : slice_get shown_now (lane_slot deque) ≡ Some (slots.Lane now.lane)
  lane_now = set_other two 0 (lane_slot deque) (slots.List now.list) (λ e. omega (arith, e)) ∙ set_other one 1 (lane_slot deque) (slots.Pool now.pool) (λ e. omega (arith, e))
      ∙ set_same shown (lane_slot deque) (slots.Lane now.lane) (slots.Lane was.lane) (get_of_at shown (lane_slot deque) (slots.Lane was.lane) at.lane)

  lane_same : (id : DequeId) → id.0 ≢ deque.0 → slice_get shown_now (lane_slot id) ≡ slice_get shown (lane_slot id)
  lane_same id other = set_other two 0 (lane_slot id) (slots.List now.list) (λ e. omega (arith, e)) ∙ set_other one 1 (lane_slot id) (slots.Pool now.pool) (λ e. omega (arith, e))
      ∙ set_other shown (lane_slot deque) (lane_slot id) (slots.Lane now.lane) (λ e. other (omega (arith, e)))

  same_id : (id : DequeId) → id.0 ≡ deque.0 → id ≡ deque
  same_id id e = ap deque_id e

  -- its place is its worker's
  its_owner : (place : Place) → Among place were → place.id.0 ≡ deque.0 → place.owner ≡ Some seat.hand.note.worker
  its_owner place there same = is_its key shown count notes holds seat.number seat.hand.note mine its.placed deque its.owns was.list at.list place there same

  -- a seat that found lack of memory is in still
  still_in : seat.hand.note.left ≡ false → seat.hand.note.found ≡ Some OutOfMemory → note.left ≡ false
  still_in left memory = elim stay.left [ inl same ↦ same ∙ left | inr calm ↦ absurd (calm memory) ]

  excused_now : (owner : Option ℕ) → IsExcused (map view_of notes) (option_map end_shown was.list.end) owner
      → IsExcused (map view_of notes_now) (option_map end_shown now.list.end) owner
  excused_now owner excused = subst (λ (vs : List View). IsExcused vs (option_map end_shown now.list.end) owner) (sym (map-set view_of notes seat.number note))
      (excuses_stay (map view_of notes) seat.number (view_of seat.hand.note) (view_of note) (option_map end_shown was.list.end) (option_map end_shown now.list.end) owner
      (noted_at notes seat.number seat.hand.note mine) stay.worker
      (λ left memory. (still_in left (shown_memory seat.hand.note.found memory), kept_shown stop_shown seat.hand.note.found note.found stay.found no_memory memory))
      (kept_shown end_shown was.list.end now.list.end stay.ends) excused)

  its_note : get_elem? notes_now seat.number ≡ some note
  its_note = at_of_get notes_now seat.number note (set_same notes seat.number note seat.hand.note (get_of_at notes seat.number seat.hand.note mine))

  -- where the seat found want of memory its own top thread is excused
  excused_by_it : IsShort note were are → (place : Place) → Among place are → place.id.0 ≡ deque.0 → IsExcused (map view_of notes_now) (option_map end_shown now.list.end) place.owner
  excused_by_it short place there same =
      subst (IsExcused (map view_of notes_now) (option_map end_shown now.list.end)) (sym (its_owner place (subst (λ places. Among place places) short.2 there) same))
      (seat.number, view_of note, noted_at notes_now seat.number note its_note, stay.worker, short.0, ap (option_map stop_shown) short.1)

  at_points : (place : Place) → Among place are → LaneAtPoints At (IsExcused (map view_of notes_now) (option_map end_shown now.list.end) place.owner) (threads_of shown_now place.id)
  at_points place there = elim (cases_eq place.id.0 deque.0) [
    | inl same ↦ subst (LaneAtPoints At (IsExcused (map view_of notes_now) (option_map end_shown now.list.end) place.owner))
        (sym (ap threads_in (ap (λ n. slice_get shown_now (suc (suc n))) same ∙ lane_now)))
        (lane_excused At (IsShort note were are) (IsExcused (map view_of notes_now) (option_map end_shown now.list.end) place.owner)
        (λ short. excused_by_it short place there same) now.lane.lane.items stay.points)
    | inr other ↦ subst (LaneAtPoints At (IsExcused (map view_of notes_now) (option_map end_shown now.list.end) place.owner)) (sym (ap threads_in (lane_same place.id other)))
        (lane_excused At (IsExcused (map view_of notes) (option_map end_shown was.list.end) place.owner)
        (IsExcused (map view_of notes_now) (option_map end_shown now.list.end) place.owner) (excused_now place.owner) (threads_of shown place.id)
        (each_among (λ (p : Place). LaneAtPoints At (IsExcused (map view_of notes) (option_map end_shown was.list.end) p.owner) (threads_of shown p.id)) place were
        (AreAtPoints.in_lanes (holds.parts.points was.list first)) (were_there deque now.lane were are stay.becomes place other there)))
  ]

  points_now : ThreadsAreAtPoints key shown_now notes_now now.list
  points_now = record {
    in_lanes = each_from (λ (place : Place). LaneAtPoints At (IsExcused (map view_of notes_now) (option_map end_shown now.list.end) place.owner) (threads_of shown_now place.id)) are at_points;
    that_wait = stay.waiting (AreAtPoints.that_wait (holds.parts.points was.list first));
  }

  spare_now : (id : DequeId) (other_lane : LaneSlot) → Each (λ (place : Place). place.id ≢ id) are → IsLaneOf shown_now id other_lane
      → (other_lane.lane.items ≡ []) × (other_lane.running ≡ None)
  spare_now id other_lane apart is = elim (cases_eq id.0 deque.0) [
    | inl same ↦ subst (IfLane (λ l. (l.lane.items ≡ []) × (l.running ≡ None)))
        (same_Some (slots.Lane now.lane) (slots.Lane other_lane) (sym lane_now ∙ sym (ap (λ n. slice_get shown_now (suc (suc n))) same) ∙ is))
        (its_lane_is_spare deque now.lane were are stay.becomes
        (is_listed key shown count notes holds seat.number seat.hand.note mine its.placed deque its.owns was.list at.list)
        (subst (λ (i : DequeId). Each (λ (place : Place). place.id ≢ i) are) (same_id id same) apart))
    | inr other ↦ LanesAreInUse.spare (holds.parts.lanes was.list first) id other_lane
        (each_from (λ (place : Place). place.id ≢ id) were (λ place there e. each_among (λ (p : Place). p.id ≢ id) place are apart
        (are_there deque now.lane were are stay.becomes place (λ s. other (sym (ap (λ (d : DequeId). d.0) e) ∙ s)) there) e))
        (sym (lane_same id other) ∙ is)
  ]

  unowned_now : (place : Place) → Among place are → (other_lane : LaneSlot) → place.owner ≡ None → IsLaneOf shown_now place.id other_lane → other_lane.running ≡ None
  unowned_now place there other_lane none is = elim (cases_eq place.id.0 deque.0) [
    | inl same ↦ subst (IfLane (λ l. l.running ≡ None))
        (same_Some (slots.Lane now.lane) (slots.Lane other_lane) (sym lane_now ∙ sym (ap (λ n. slice_get shown_now (suc (suc n))) same) ∙ is))
        (its_lane_is_idle deque now.lane were are stay.becomes
        (λ p among its_id nobody. none-some seat.hand.note.worker (sym nobody ∙ its_owner p among its_id)) place there same none)
    | inr other ↦ each_among (λ (p : Place). (l : LaneSlot) → p.owner ≡ None → IsLaneOf shown p.id l → l.running ≡ None) place were
        (LanesAreInUse.unowned (holds.parts.lanes was.list first)) (were_there deque now.lane were are stay.becomes place other there) other_lane none
        (sym (lane_same place.id other) ∙ is)
  ]

  lanes_now : LanesAreInUse shown_now now.list
  lanes_now = record {
    spare = spare_now;
    unowned = each_from (λ (p : Place). (l : LaneSlot) → p.owner ≡ None → IsLaneOf shown_now p.id l → l.running ≡ None) are unowned_now;
  }

  answered_now : (i : ℕ) (m : SeatNote) (end : RunEnd) → slice_get notes_now i ≡ Some m → m.answered ≡ Some end → now.list.end ≡ Some end
  answered_now i m end there is = elim (cases_eq i seat.number) [
    | inl same ↦ elim (stay.answered end (ap (λ (n : SeatNote). n.answered) (same_Some note m
        (sym (set_same notes seat.number note seat.hand.note (get_of_at notes seat.number seat.hand.note mine)) ∙ ap (slice_get notes_now) (sym same) ∙ there)) ∙ is)) [
          | inl before ↦ stay.ends end (EndIsSound.answered (holds.parts.end was.list first) seat.number seat.hand.note end
              (get_of_at notes seat.number seat.hand.note mine) before)
          | inr kept ↦ kept
        ]
    | inr other ↦ stay.ends end (EndIsSound.answered (holds.parts.end was.list first) i m end (sym (set_other notes seat.number i note other) ∙ there) is)
  ]

  finished_now : (finish : Finish) → now.list.end ≡ Some (Finished finish) → end_of_root (kept_under now.list.part.results root) ≡ Some (Finished finish)
  finished_now finish is = elim (stay.finished finish is) [
    | inl before ↦ absurd (is_open key shown count notes holds seat.number seat.hand.note mine its.placed deque its.owns was.list at.list finish before)
    | inr ends ↦ ends
  ]

  end_now : EndIsSound notes_now now.list
  end_now = record { answered = answered_now; finished = finished_now }

  pub parts_now : PartsAreSound key shown_now notes_now
  parts_now = record {
    pool = λ pool is. subst (IfPool (PoolIsSound key)) (same_Some (slots.Pool now.pool) (slots.Pool pool) (sym pool_now ∙ is))
        (stay.pool (holds.parts.pool was.pool (get_of_at shown 1 (slots.Pool was.pool) at.pool)));
    list = λ list is. subst (IfList (ListIsSound key)) (same_Some (slots.List now.list) (slots.List list) (sym list_now ∙ is)) (stay.list (holds.parts.list was.list first));
    points = λ list is. subst (IfList (ThreadsAreAtPoints key shown_now notes_now)) (same_Some (slots.List now.list) (slots.List list) (sym list_now ∙ is)) points_now;
    lanes = λ list is. subst (IfList (LanesAreInUse shown_now)) (same_Some (slots.List now.list) (slots.List list) (sym list_now ∙ is)) lanes_now;
    end = λ list is. subst (IfList (EndIsSound notes_now)) (same_Some (slots.List now.list) (slots.List list) (sym list_now ∙ is)) end_now;
  }
