-- The law holds of the first slots of a hall.
use Rattle.std.proofs.Common.{◌≡◌, ◌≢◌, ℕ, zero, suc, ◌+◌, ◌<◌, ◌≤◌, min, List, [], ◌∷◌, map, length, inl, inr, refl, sym, ap, ◌∙◌, subst, arith}
use Rattle.std.proofs.Math.Logic.{∥∥₁_elim}
use Rattle.std.specs.Prelude.{Option, None, Some, slice_get, reverse, pos}
use Rattle.std.specs.Option.{option_map}
use Rattle.std.proofs.lemmas.Option.{same_Some, none-some}
use mathlib.Core.Option.{some, some-injective, some-ne-none}
use lib.ListN.{get_elem?}
use Rattle.block_arena.specs.Region.{Region}
use Rattle.thread_frames.specs.Kept.{waiting_shown, result_kept, WaitsUnder, IsUnderItsId}
use Rattle.thread_frames.proofs.Points.{point_one}
use Rattle.depth_first_run.specs.States.{Setting}
use Rattle.depth_first_run.proofs.Built.{whole_is_depth_first}
use Rattle.deque_list.specs.declared.deque_id.DequeId.{DequeId}
use Rattle.deque_list.specs.declared.place.Place.{Place}
use Rattle.deque_list.specs.Ids.{deque_id, first_place}
use Rattle.deque_list.specs.Lanes.{LaneView}
use Rattle.deque_list.specs.Orders.{OrderView}
use Rattle.deque_machine.specs.Terms.{Terms, machine_of}
use Rattle.play_rules.specs.declared.ends.RunEnd.{RunEnd}
use Rattle.play_rules.specs.declared.ends.RunEnd.TheVariants.{Finished}
use Rattle.thread_frames.specs.Roots.{HasDoneNothing, IsRootAlone}
use Rattle.hall_machine.specs.Views.{View}
use Rattle.hall_machine.specs.Rows.{IsFirst}
use Rattle.hall_machine.specs.Values.{End}
use Rattle.hall_slots.specs.Shown.{view_of, value_of, kind_of, end_shown}
use Rattle.hall_slots.specs.declared.lane_slot.LaneSlot.{LaneSlot}
use Rattle.hall_slots.specs.declared.list_slot.ListSlot.{ListSlot}
use Rattle.hall_slots.specs.declared.pool_slot.PoolSlot.{PoolSlot}
use Rattle.hall_slots.specs.declared.seat_note.SeatNote.{SeatNote}
use Rattle.hall_slots.specs.declared.slot.Slot.TheVariants as slots
use Rattle.hall_slots.specs.declared.slot.Slot.{Slot}
use Rattle.hall_machine.proofs.Closed.{first_hall_stands}
use Rattle.hall_machine.specs.Points.{IsExcused, LaneAtPoints, AreAtPoints}
use Rattle.hall_slots.proofs.Keeping.{Whole}
use Rattle.hall_slots.proofs.Reading.{IfList, IfPool, IfLane}
use Rattle.hall_slots.specs.First.{IsFirstList, IsEmptyLane, AreFirst, first_note}
use Rattle.hall_slots.specs.Keys.{table_of, quota_of, terms_of, IsKey}
use Rattle.hall_slots.specs.Law.{HallHolds, IsShaped, KeepsHallLaw, places_of}
use Rattle.hall_slots.specs.Sound.{threads_of, IsLaneOf, thread_that_waits, PoolIsSound, ListIsSound, ThreadsAreAtPoints, LanesAreInUse, EndIsSound, PartsAreSound}
use Rattle.hall_slots.specs.Steps.{hall_shown}
use Rattle.hall_slots.specs.declared.key.HallKey.{HallKey}
use Rattle.deque_machine.specs.Lists.{Each}
use Rattle.space_ledger.specs.MovesList.{moves_list}
use Rattle.space_ledger.specs.Sums.{total_change}
use Rattle.open_periods.specs.Periods.{closed_shown}
use Rattle.thread_frames.specs.Points.{IsAtPoint, IsResult}
use Rattle.thread_frames.specs.declared.thread.Thread.{Thread}
use Rattle.thread_frames.specs.Shown.{thread_shown, child_shown}
use Rattle.thread_frames.specs.Passed.Settings.{IsSettingOf}
use Rattle.turn_table.specs.Places.{Rests}
use Rattle.turn_table.specs.Hands.{fresh}
use Rattle.turn_table.specs.declared.hand.Hand.{Hand}

-- an empty lane is a lane
lanes_kind : (others : List Slot) → Each IsEmptyLane others → (n : ℕ) (slot : Slot) → get_elem? others n ≡ some slot → kind_of slot ≡ 2
lanes_kind [] empty n slot at = absurd (some-ne-none slot (sym at))
lanes_kind (x ∷ others) empty zero slot at = ap kind_of (sym (some-injective x slot at)) ∙ ap kind_of (IsEmptyLane.is empty.0)
lanes_kind (x ∷ others) empty (suc n) slot at = lanes_kind others empty.1 n slot at

-- and it is empty
lanes_empty : (others : List Slot) → Each IsEmptyLane others → (n : ℕ) (lane : LaneSlot) → slice_get others n ≡ Some (slots.Lane lane) → (lane.lane.items ≡ []) × (lane.running ≡ None)
lanes_empty [] empty n lane at = absurd (none-some (slots.Lane lane) at)
lanes_empty (x ∷ others) empty zero lane at = subst (IfLane (λ l. (l.lane.items ≡ []) × (l.running ≡ None))) (sym (IsEmptyLane.is empty.0) ∙ same_Some x (slots.Lane lane) at) (IsEmptyLane.no_threads empty.0, IsEmptyLane.no_period empty.0)
lanes_empty (x ∷ others) empty (suc n) lane at = lanes_empty others empty.1 n lane at

module _ (key : HallKey) (is_key : IsKey key) (order : OrderView) (lane : LaneView Thread) (pool : Region) (places : order.places ≡ first_place ∷ []) (most : order.most ≡ key.deques)
    (root : IsRootAlone (table_of key) (quota_of key) lane.items) (unused : pool.live ≡ 0) (capacity : pool.capacity ≡ key.capacity)
    (list : ListSlot) (words : PoolSlot) (first : LaneSlot) (others : List Slot) (is_list : IsFirstList order list) (same_pool : words.pool ≡ pool) (no_moves : moves_list words.moves ≡ [])
    (same_lane : first.lane ≡ lane) (no_period : first.running ≡ None) (as_many : length others + 1 ≡ key.deques) (are_empty : Each IsEmptyLane others) where
  abbrev all : List Slot
  all = slots.List list ∷ slots.Pool words ∷ slots.Lane first ∷ others

  abbrev note : SeatNote
  note = first_note key.workers

  abbrev thread : Thread
  thread = root.0

  items_are : first.lane.items ≡ thread ∷ []
  items_are = ap (λ (l : LaneView Thread). l.items) same_lane ∙ root.1

  places_are : list.part.order.places ≡ first_place ∷ []
  places_are = ap (λ (o : OrderView). o.places) is_list.same_order ∙ places

  at_point : IsAtPoint (table_of key) (quota_of key) thread
  at_point = ∥∥₁_elim root.5 (point_one (table_of key) (quota_of key) thread) (λ p. p)

  is_first : IsFirst (hall_shown all) (thread_shown thread)
  is_first = record {
    places = places_are;
    inside = omega arith;
    threads = ap (map thread_shown) items_are;
    none_wait = ap (map waiting_shown) is_list.none_wait;
    no_results = ap (map result_kept) is_list.no_results;
    none_closed = ap (map closed_shown) is_list.none_closed;
    none_begun = is_list.none_begun;
    unused = ap (λ (r : Region). r.live) same_pool ∙ unused;
    no_moves = no_moves;
  }

  stands : KeepsHallLaw key all 0 (note ∷ [])
  stands c of = ∣ first_hall_stands (machine_of c (terms_of key)) some_quota (whole_is_depth_first c) (Terms.limits (terms_of key)) (map value_of all) (thread_shown thread) 0 is_first
      root.2 root.3 (HasDoneNothing.done root.4) (ap (λ cs. map child_shown (reverse cs)) (HasDoneNothing.children root.4)) (HasDoneNothing.words root.4) is_list.crew (ap (option_map end_shown) is_list.no_end) some_workers ∣₁
    where
      some_quota : 0 < c.quota
      some_quota = let same = IsSettingOf.quota of in let least = is_key.quota in omega (arith, same, least)

      some_workers : 0 < key.workers
      some_workers = let least = is_key.some_worker in omega (arith, least)

  shaped_all : (i : ℕ) (slot : Slot) → get_elem? all i ≡ some slot → IsShaped i slot
  shaped_all zero slot at = subst (IsShaped 0) (some-injective (slots.List list) slot at) refl
  shaped_all (suc zero) slot at = subst (IsShaped 1) (some-injective (slots.Pool words) slot at) refl
  shaped_all (suc (suc zero)) slot at = subst (IsShaped 2) (some-injective (slots.Lane first) slot at) refl
  shaped_all (suc (suc (suc n))) slot at = lanes_kind others are_empty n slot at ∙ (omega arith)

  pool_is : PoolIsSound key words
  pool_is = let live : words.pool.live ≡ 0 = ap (λ (r : Region). r.live) same_pool ∙ unused in record {
    capacity = ap (λ (r : Region). r.capacity) same_pool ∙ capacity;
    within = omega (arith, live);
    sum = ap total_change no_moves ∙ ap pos (sym live);
  }

  list_is : ListIsSound key list
  list_is = record {
    most = ap (λ (o : OrderView). o.most) is_list.same_order ∙ most;
    waiting = subst (Each WaitsUnder) (sym is_list.none_wait) tt;
    under_ids = subst (Each IsUnderItsId) (sym is_list.no_results) tt;
    results = subst (Each (λ entry. IsResult (table_of key) (quota_of key) entry.1)) (sym is_list.no_results) tt;
  }

  points_are : ThreadsAreAtPoints key all (note ∷ []) list
  points_are = record {
    in_lanes = subst (Each (λ place. LaneAtPoints At (IsExcused views kept place.owner) (threads_of all place.id))) (sym places_are)
        (subst (LaneAtPoints At (IsExcused views kept None)) (sym items_are) (inl at_point, tt), tt);
    that_wait = subst (Each At) (sym (ap (map thread_that_waits) is_list.none_wait)) tt;
  }
    where
      At : Thread → Type 0
      At = IsAtPoint (table_of key) (quota_of key)

      views : List View
      views = map view_of (note ∷ [])

      kept : Option End
      kept = option_map end_shown list.end

  spare_lanes : (n : ℕ) (l : LaneSlot) → deque_id 0 ≢ deque_id n → slice_get (slots.Lane first ∷ others) n ≡ Some (slots.Lane l) → (l.lane.items ≡ []) × (l.running ≡ None)
  spare_lanes zero l apart at = absurd (apart refl)
  spare_lanes (suc n) l apart at = lanes_empty others are_empty n l at

  lanes_are : LanesAreInUse all list
  lanes_are = record {
    spare = λ id l apart at. spare_lanes id.0 l (subst (Each (λ (p : Place). p.id ≢ id)) places_are apart).0 at;
    unowned = subst (Each (λ (p : Place). (l : LaneSlot) → p.owner ≡ None → IsLaneOf all p.id l → l.running ≡ None)) (sym places_are)
        ((λ l owner at. subst (IfLane (λ x. x.running ≡ None)) (same_Some (slots.Lane first) (slots.Lane l) at) no_period), tt);
  }

  end_is : EndIsSound (note ∷ []) list
  end_is = record {
    answered = answered_one;
    finished = λ finish is. absurd (none-some (Finished finish) (sym is_list.no_end ∙ is));
  }
    where
      answered_one : (seat : ℕ) (n : SeatNote) (end : RunEnd) → slice_get (note ∷ []) seat ≡ Some n → n.answered ≡ Some end → list.end ≡ Some end
      answered_one zero n end at is = absurd (none-some end (ap (λ (x : SeatNote). x.answered) (same_Some note n at) ∙ is))
      answered_one (suc seat) n end at is = absurd (none-some n at)

  holds_first : HallHolds key all 0 (note ∷ [])
  holds_first = record {
    key_is = is_key;
    sized = omega (arith, as_many);
    shaped = shaped_all;
    state = stands;
    parts = record {
      pool = λ p at. subst (IfPool (PoolIsSound key)) (same_Some (slots.Pool words) (slots.Pool p) at) pool_is;
      list = λ l at. subst (IfList (ListIsSound key)) (same_Some (slots.List list) (slots.List l) at) list_is;
      points = λ l at. subst (IfList (ThreadsAreAtPoints key all (note ∷ []))) (same_Some (slots.List list) (slots.List l) at) points_are;
      lanes = λ l at. subst (IfList (LanesAreInUse all)) (same_Some (slots.List list) (slots.List l) at) lanes_are;
      end = λ l at. subst (IfList (EndIsSound (note ∷ []))) (same_Some (slots.List list) (slots.List l) at) end_is;
    };
  }

-- a seat that was just made holds nothing
fresh_rests : (n : SeatNote) → Rests {V = Slot} places_of (fresh n ∷ [])
fresh_rests n zero h at none = ap (λ (x : Hand Slot SeatNote). x.holds) (sym (some-injective (fresh n) h at))
fresh_rests n (suc j) h at none = absurd (some-ne-none h (sym at))

pub first_keeps : (key : HallKey) → IsKey key → (order : OrderView) (lane : LaneView Thread) (pool : Region) (shown : List Slot) → order.places ≡ first_place ∷ [] → order.most ≡ key.deques
    → IsRootAlone (table_of key) (quota_of key) lane.items → pool.live ≡ 0 → pool.capacity ≡ key.capacity → AreFirst order lane pool key.deques shown
    → Whole key shown 0 (fresh (first_note key.workers) ∷ [])
first_keeps key is_key order lane pool shown places most root unused capacity first = subst (λ (xs : List Slot). Whole key xs 0 (fresh (first_note key.workers) ∷ [])) (sym first.are) (
  holds_first key is_key order lane pool places most root unused capacity first.list first.words first.first first.others first.is_list first.same_pool first.no_moves first.same_lane first.no_period first.as_many first.are_empty,
  fresh_rests (first_note key.workers),
)
