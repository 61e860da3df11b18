-- What an owner knows of its lane and of the pool by the law of its hall.
use Rattle.std.proofs.Common.{◌≡◌, ◌≢◌, ℕ, ◌+◌, ◌≤◌, ◌<◌, List, [], ◌∷◌, map, length, refl, sym, ap, ◌∙◌, subst, arith}
use Rattle.std.proofs.Math.Logic.{∥∥₁_elim}
use Rattle.std.proofs.lemmas.Option.{same_Some, none-some}
use Rattle.std.specs.Option.{option_map}
use Rattle.std.specs.Prelude.{Option, None, Some, slice_get}
use denote.Struct.Props.{props}
use mathlib.Core.Option.{some}
use lib.ListN.{get_elem?}
use Rattle.hall_parts.specs.HallNames.{DequeId, Each, LaneSlot, Running, ListSlot, PoolSlot, Slot, value_of, view_of, lane_shown, running_shown, HallKey}
use Rattle.hall_parts.specs.HallNames.{table_of, quota_of, terms_of, IsKey, HallSeat, MeetsLaw, Terms, machine_of, Setting, IsAtPoint, done_of}
use Rattle.hall_parts.specs.HallNames.{thread_words, Thread, thread_shown, HasAs, notes, threads_in, threads_of, PoolIsSound}
use Rattle.hall_slots.proofs.Passed.Built.{whole_is_depth_first}
use Rattle.hall_slots.proofs.Passed.DequeMachineLists.{cons_is_not_nil, same_head}
use Rattle.moment_shown.specs.Parts as parts
use Rattle.node_table.specs.Table.{Table}
use Rattle.open_periods.specs.Periods.{Period}
use Rattle.hall_parts.specs.Passed.StopVariants.{OutOfMemory}
use Rattle.thread_frames.proofs.Points.{point_one}
use Rattle.hall_parts.specs.Passed.Settings.{IsSettingOf}
use Rattle.turn_table.specs.Hands.{Shows}
use Rattle.turn_table.specs.Law.{Stands}
use Rattle.turn_table.proofs.NoteLaws.{notes_at}
use Rattle.turn_table.proofs.Standing.{shown_as}
use Rattle.hall_machine.specs.Values.{Hall, ListShown, LaneShown, PoolShown, lane_at}
use Rattle.hall_machine.specs.Writing.{IsAtWork, lane_slot, lane_with, place_of}
use Rattle.hall_machine.proofs.Closing.{owners_are_at_work}
use Rattle.hall_machine.specs.Crew.{SeatStands}
use Rattle.hall_machine.specs.Points.{IsExcused, LaneAtPoints, AreAtPoints}
use Rattle.hall_machine.specs.State.{HallLaw}
use Rattle.hall_interleavings.proofs.Owning.{all_in_lane}
use Rattle.hall_slots.specs.declared.slot.Slot.TheVariants as slots
use Rattle.hall_slots.specs.Law.{HallHolds, joined_note}
use Rattle.hall_slots.specs.Steps.{hall_shown}
use Rattle.hall_slots.proofs.Keeping.{Whole}
use Rattle.hall_slots.proofs.Lone.{noted_at}
use Rattle.hall_slots.proofs.Reading.{get_of_at}
use Rattle.hall_slots.proofs.Written.{list_at, pool_at, lane_shown_at}
use Rattle.hall_parts.proofs.Owned.{split}
use Rattle.hall_parts.proofs.Sound.{shown_memory}
use Rattle.hall_parts.proofs.There.{slot_is, list_there, pool_there}
use Rattle.hall_actions.specs.Within.{AreWithin}
use Rattle.hall_actions.specs.Reads.{ReadsLane, HoldsItsLane, OwnersRead, OwnersReadPools, PoolsAreSound, KeysAreSound}
use Rattle.hall_actions.proofs.Within.{owners_are_within}

-- that all of some threads are at their points is a proposition
each_point_one : (t : Table) (k : ℕ) (xs : List Thread) → IsProp (Each (IsAtPoint t k) xs)
each_point_one t k [] a b = refl
each_point_one t k (x ∷ xs) a b = λ i. (point_one t k x a.0 b.0 i, each_point_one t k xs a.1 b.1 i)

-- a list and an option that are not empty
not_empty : {X : Type 0} (xs : List X) → (xs ≡ [] → ⊥) → (x : X) × (rest : List X) × (xs ≡ x ∷ rest)
not_empty [] never = absurd (never refl)
not_empty (x ∷ xs) never = (x, xs, refl)

not_none : {X : Type 0} (o : Option X) → (o ≡ None → ⊥) → (x : X) × (o ≡ Some x)
not_none None never = absurd (never refl)
not_none (Some x) never = (x, refl)

module _ (key : HallKey) (seat : HallSeat) (deque : DequeId) (lane : LaneSlot) (has : HoldsItsLane seat deque lane) (meets : MeetsLaw key seat) where
  pub st : Stands Whole joined_note key seat meets.0 meets.1 meets.2
  st = meets.3

  abbrev pub shown : List Slot
  shown = meets.0

  pub holds : HallHolds key shown meets.1 (notes meets.2)
  holds = st.kept.0

  pub shows : Shows shown seat.hand.holds
  shows = st.fits.shows seat.number seat.hand st.mine

  mine : slice_get (map view_of (notes meets.2)) seat.number ≡ Some (view_of seat.hand.note)
  mine = noted_at (notes meets.2) seat.number seat.hand.note (notes_at meets.2 seat.number seat.hand st.mine)

  own : get_elem? shown (lane_slot deque) ≡ some (slots.Lane lane)
  own = ap (get_elem? shown) (sym (slot_is deque.0)) ∙ shown_as shown (deque.0 + 2) (slots.Lane lane) seat.hand.holds shows has.holds

  module _ (c : Setting) (law : HallLaw (machine_of c (terms_of key)) (Terms.limits (terms_of key)) (map value_of shown) meets.1 (map view_of (notes meets.2))) where
    pub at_work : (w : IsAtWork (hall_shown shown) seat.hand.note.worker) × (w.id ≡ deque)
    at_work = let cut = split (place_of deque (Some seat.hand.note.worker)) (ListShown.places (Hall.list (hall_shown shown)))
        (SeatStands.owns (law.state.crew.seats seat.number (view_of seat.hand.note) mine has.placed) deque has.owns) in
        owners_are_at_work (machine_of c (terms_of key)) (hall_shown shown) law.steps law.moment law.state.stands cut.left cut.right deque seat.hand.note.worker cut.is

    pub lane_is : (w : IsAtWork (hall_shown shown) seat.hand.note.worker) → w.id ≡ deque → lane_with (w.top ∷ w.under) (Some w.period) ≡ lane_shown lane
    lane_is w id_is = sym w.lane_is ∙ ap (lane_at (Hall.lanes (hall_shown shown))) id_is ∙ lane_shown_at shown deque lane own

    some_thread : lane.lane.items ≡ [] → ⊥
    some_thread empty = let w = at_work in
        cons_is_not_nil (IsAtWork.top w.0) (IsAtWork.under w.0) (ap (λ (l : LaneShown). l.threads) (lane_is w.0 w.1) ∙ ap (map thread_shown) empty)

    some_period : lane.running ≡ None → ⊥
    some_period idle = let w = at_work in
        none-some (IsAtWork.period w.0) (sym (ap (λ (l : LaneShown). l.period) (lane_is w.0 w.1) ∙ ap (option_map running_shown) idle))

    first_is : (list : ListSlot) → get_elem? shown 0 ≡ some (slots.List list) → Each (λ place. LaneAtPoints (IsAtPoint (table_of key) (quota_of key))
        (IsExcused (map view_of (notes meets.2)) (ListShown.kept (Hall.list (hall_shown shown))) place.owner) (threads_of shown place.id)) (ListShown.places (Hall.list (hall_shown shown)))
    first_is list first = subst (λ (l : ListShown). Each (λ place. LaneAtPoints (IsAtPoint (table_of key) (quota_of key))
        (IsExcused (map view_of (notes meets.2)) l.kept place.owner) (threads_of shown place.id)) l.places) (sym (list_at shown list first))
        (AreAtPoints.in_lanes (holds.parts.points list (get_of_at shown 0 (slots.List list) first)))

    all_at_points : (list : ListSlot) → get_elem? shown 0 ≡ some (slots.List list) → seat.hand.note.found ≢ Some OutOfMemory → Each (IsAtPoint (table_of key) (quota_of key)) lane.lane.items
    all_at_points list first short = let w = at_work in
        subst (Each (IsAtPoint (table_of key) (quota_of key))) (ap (threads_of shown) w.1 ∙ ap threads_in (get_of_at shown (lane_slot deque) (slots.Lane lane) own))
        (all_in_lane (IsAtPoint (table_of key) (quota_of key)) (machine_of c (terms_of key)) (Terms.limits (terms_of key)) (hall_shown shown) law.steps law.moment law.leads meets.1
        (map view_of (notes meets.2)) seat.number (view_of seat.hand.note) law.state (record { noted = mine; placed = has.placed; stays = has.stays }) w.0 (threads_of shown) (first_is list first)
        (λ is. short (shown_memory seat.hand.note.found is)))

    pub some_quota : IsSettingOf (table_of key) (quota_of key) c → 0 < c.quota
    some_quota of = let least = holds.key_is.quota in let same = IsSettingOf.quota of in omega (arith, least, same)

    within : IsSettingOf (table_of key) (quota_of key) c → AreWithin (machine_of c (terms_of key)) (Terms.limits (terms_of key)) (hall_shown shown) at_work.0
    within of = owners_are_within (machine_of c (terms_of key)) (some_quota of) (whole_is_depth_first c) (Terms.limits (terms_of key)) (hall_shown shown) law.steps law.moment law.leads meets.1
        (map view_of (notes meets.2)) seat.hand.note.worker at_work.0 law.state

    module _ (top : Thread) (under : List Thread) (items : lane.lane.items ≡ top ∷ under) where
      top_is : IsAtWork.top at_work.0 ≡ thread_shown top
      top_is = same_head (IsAtWork.top at_work.0) (thread_shown top) (IsAtWork.under at_work.0) (map thread_shown under)
          (ap (λ (l : LaneShown). l.threads) (lane_is at_work.0 at_work.1) ∙ ap (map thread_shown) items)

      done_is : IsSettingOf (table_of key) (quota_of key) c → done_of top ≤ key.actions
      done_is of = subst (λ (t : parts.Thread). t.done ≤ key.actions) top_is (within of).done

      words_are : IsSettingOf (table_of key) (quota_of key) c → (pool : PoolSlot) → get_elem? shown 1 ≡ some (slots.Pool pool) → thread_words top ≤ pool.pool.live
      words_are of pool second = subst (λ (t : parts.Thread). t.words ≤ pool.pool.live) top_is
          (subst (λ n. parts.Thread.words (IsAtWork.top at_work.0) ≤ n) (ap (λ (p : PoolShown). p.live) (pool_at shown pool second)) (within of).words)

    used_is : IsSettingOf (table_of key) (quota_of key) c → (running : Running) → lane.running ≡ Some running → running.period.used ≤ quota_of key
    used_is of running is =
        let period : IsAtWork.period at_work.0 ≡ running_shown running = same_Some (IsAtWork.period at_work.0) (running_shown running)
        (ap (λ (l : LaneShown). l.period) (lane_is at_work.0 at_work.1) ∙ ap (option_map running_shown) is) in
        subst (λ n. running.period.used ≤ n) (IsSettingOf.quota of) (subst (λ (p : Period). p.used ≤ c.quota) period (within of).used)

  long : 2 ≤ length shown
  long = let sized = holds.sized in omega (arith, sized)

  list : (list : ListSlot) × (get_elem? shown 0 ≡ some (slots.List list))
  list = list_there shown long holds.shaped

  never : ((c : Setting) (law : HallLaw (machine_of c (terms_of key)) (Terms.limits (terms_of key)) (map value_of shown) meets.1 (map view_of (notes meets.2))) → ⊥) → ⊥
  never refuse = ∥∥₁_elim holds.key_is.of_program (λ a b. absurd a) (λ p. ∥∥₁_elim (holds.state p.0 p.1) (λ a b. absurd a) (λ law. refuse p.0 law))

  pool : (pool : PoolSlot) × (get_elem? shown 1 ≡ some (slots.Pool pool))
  pool = pool_there shown long holds.shaped

  words_in_use : (pool : PoolSlot) → get_elem? shown 1 ≡ some (slots.Pool pool) → (top : Thread) (under : List Thread) → lane.lane.items ≡ top ∷ under → thread_words top ≤ pool.pool.live
  words_in_use pool second top under items = ∥∥₁_elim holds.key_is.of_program (search props) (λ p. ∥∥₁_elim (holds.state p.0 p.1) (search props)
      (λ law. words_are p.0 law top under items p.1 pool second))

  reads : ReadsLane key seat lane
  reads =
      let cut = not_empty lane.lane.items (λ empty. never (λ c law. some_thread c law empty)) in
      let runs = not_none lane.running (λ idle. never (λ c law. some_period c law idle)) in record {
        quota = holds.key_is.quota;
        top = cut.0;
        under = cut.1;
        items = cut.2;
        holder = runs.0.worker;
        period = runs.0.period;
        running = runs.1;
        points = λ short. ∥∥₁_elim holds.key_is.of_program (each_point_one (table_of key) (quota_of key) lane.lane.items) (λ p.
            ∥∥₁_elim (holds.state p.0 p.1) (each_point_one (table_of key) (quota_of key) lane.lane.items) (λ law. all_at_points p.0 law list.0 list.1 short));
        words = let sound : PoolIsSound key pool.0 = holds.parts.pool pool.0 (get_of_at shown 1 (slots.Pool pool.0) pool.1) in
            let within = sound.within in let capacity = sound.capacity in
            let words : thread_words cut.0 ≤ pool.0.pool.live = words_in_use pool.0 pool.1 cut.0 cut.1 cut.2 in omega (arith, within, capacity, words);
        done = ∥∥₁_elim holds.key_is.of_program (search props) (λ p. ∥∥₁_elim (holds.state p.0 p.1) (search props) (λ law. done_is p.0 law cut.0 cut.1 cut.2 p.1));
        used = ∥∥₁_elim holds.key_is.of_program (search props) (λ p. ∥∥₁_elim (holds.state p.0 p.1) (search props) (λ law. used_is p.0 law p.1 runs.0 runs.1));
      }

  reads_pool : (pool : PoolSlot) (top : Thread) (under : List Thread) → HasAs 1 (slots.Pool pool) seat.hand.holds → lane.lane.items ≡ top ∷ under → thread_words top ≤ pool.pool.live
  reads_pool pool top under second items = words_in_use pool (shown_as shown 1 (slots.Pool pool) seat.hand.holds shows second) top under items

pub owners_read : OwnersRead
owners_read = reads

pub owners_read_pools : OwnersReadPools
owners_read_pools key seat deque lane pool top under has second meets items = reads_pool key seat deque lane has meets pool top under second items

-- without a lane
module _ (key : HallKey) (seat : HallSeat) (meets : MeetsLaw key seat) where
  stood : Stands Whole joined_note key seat meets.0 meets.1 meets.2
  stood = meets.3

  held_by_seat : Shows meets.0 seat.hand.holds
  held_by_seat = stood.fits.shows seat.number seat.hand stood.mine

  key_is : IsKey key
  key_is = stood.kept.0.key_is

  pool_is : (pool : PoolSlot) → HasAs 1 (slots.Pool pool) seat.hand.holds → PoolIsSound key pool
  pool_is pool second = stood.kept.0.parts.pool pool (get_of_at meets.0 1 (slots.Pool pool) (shown_as meets.0 1 (slots.Pool pool) seat.hand.holds held_by_seat second))

pub pools_are_sound : PoolsAreSound
pools_are_sound key seat pool second meets = pool_is key seat meets pool second

pub keys_are_sound : KeysAreSound
keys_are_sound key seat meets = key_is key seat meets
