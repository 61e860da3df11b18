-- A hall keeps its law where a seat has written the list, the pool and the lane of its deque.
use Rattle.std.proofs.Common.{◌≡◌, ℕ, suc, ◌≤◌, min, List, map, length, set, refl, ap, ◌∙◌, arith, length-set}
use Rattle.std.proofs.Math.Logic.{∥∥₁_elim, ∥∥₁_map, ∥∥₁_prop}
use Rattle.std.specs.Prelude.{slice_set}
use mathlib.Core.Option.{some}
use lib.ListN.{get_elem?}
use lib.Seq.{map-set}
use Rattle.hall_parts.specs.HallNames.{DequeId, SeatNote, Slot, value_of, view_of, list_shown, pool_shown, HallKey, table_of, quota_of, terms_of, HallSeat}
use Rattle.hall_parts.specs.HallNames.{Terms, machine_of, Setting, Hall}
use Rattle.thread_state.specs.Settings.{IsSettingOf}
use Rattle.hall_slots.specs.Passed.Writing.{lane_slot}
use Rattle.hall_slots.specs.Passed.State.{HallLaw}
use Rattle.hall_slots.specs.declared.slot.Slot.TheVariants as slots
use Rattle.hall_slots.specs.Law.{HallHolds, IsShaped}
use Rattle.hall_slots.specs.Steps.{hall_shown}
use Rattle.hall_slots.proofs.Lone.{noted_at}
use Rattle.hall_slots.proofs.Putting.{law_of, shaped_set}
use Rattle.hall_slots.proofs.Written.{list_at, pool_at, lane_shown_at, list_written, pool_written, lane_written}
use Rattle.hall_parts.specs.Writes.{Parts, hall_with, slots_with, AreIn, IsOwner, MayBecome, StaySound, WrittenHallsHold}
use Rattle.hall_parts.proofs.Sound.{parts_now}

-- three slots that are written are three parts of the hall
all_written : (shown : List Slot) (deque : DequeId) (now : Parts) → 2 ≤ length shown → hall_shown (slots_with shown deque now) ≡ hall_with (hall_shown shown) deque now
all_written shown deque now long =
    let one : List Slot = set shown (lane_slot deque) (slots.Lane now.lane) in
    let two : List Slot = set one 1 (slots.Pool now.pool) in
    let long_one : length one ≡ length shown = length-set shown (lane_slot deque) (slots.Lane now.lane) in
    let long_two : length two ≡ length one = length-set one 1 (slots.Pool now.pool) in
    list_written two now.list (omega (arith, long, long_one, long_two))
    ∙ ap (λ (h : Hall). record h { list = list_shown now.list }) (pool_written one now.pool (omega (arith, long, long_one))
    ∙ ap (λ (h : Hall). record h { pool = pool_shown now.pool }) (lane_written shown deque now.lane long))

lane_kind : (n : ℕ) → 2 ≡ min (suc (suc n)) 2
lane_kind n = omega arith

module _ (key : HallKey) (seat : HallSeat) (deque : DequeId) (was now : Parts) (note : SeatNote) (its : IsOwner seat deque) (may : MayBecome key seat deque was now note)
    (sound : StaySound key seat deque was now note) (shown : List Slot) (count : ℕ) (ns : List SeatNote) (holds : HallHolds key shown count ns) (at : AreIn shown deque was)
    (mine : get_elem? ns seat.number ≡ some seat.hand.note) where
  long : 2 ≤ length shown
  long = let sized = holds.sized in omega (arith, sized)

  kept_law : (c : Setting) → IsSettingOf (table_of key) (quota_of key) c → HallLaw (machine_of c (terms_of key)) (Terms.limits (terms_of key)) (map value_of shown) count (map view_of ns)
      → ∥ HallLaw (machine_of c (terms_of key)) (Terms.limits (terms_of key)) (map value_of (slots_with shown deque now)) count (map view_of (set ns seat.number note)) ∥₁
  kept_law c of law = ∥∥₁_map
      (may c of (hall_shown shown) count (map view_of ns) (law.steps, law.moment, law.leads, law.state) (list_at shown was.list at.list) (pool_at shown was.pool at.pool)
      (lane_shown_at shown deque was.lane at.lane) (noted_at ns seat.number seat.hand.note mine))
      (law_of key c (slots_with shown deque now) (hall_with (hall_shown shown) deque now) count (set ns seat.number note) (slice_set (map view_of ns) seat.number (view_of note))
      (all_written shown deque now long) (map-set view_of ns seat.number note))

  shaped_now : (i : ℕ) (found : Slot) → get_elem? (slots_with shown deque now) i ≡ some found → IsShaped i found
  shaped_now = shaped_set (set (set shown (lane_slot deque) (slots.Lane now.lane)) 1 (slots.Pool now.pool)) 0 (slots.List now.list)
      (shaped_set (set shown (lane_slot deque) (slots.Lane now.lane)) 1 (slots.Pool now.pool) (shaped_set shown (lane_slot deque) (slots.Lane now.lane) holds.shaped (lane_kind deque.0)) refl) refl

  holds_now : HallHolds key (slots_with shown deque now) count (set ns seat.number note)
  holds_now = record {
    key_is = holds.key_is;
    sized = length-set (set (set shown (lane_slot deque) (slots.Lane now.lane)) 1 (slots.Pool now.pool)) 0 (slots.List now.list)
        ∙ length-set (set shown (lane_slot deque) (slots.Lane now.lane)) 1 (slots.Pool now.pool) ∙ length-set shown (lane_slot deque) (slots.Lane now.lane) ∙ holds.sized;
    shaped = shaped_now;
    state = λ c of. ∥∥₁_elim (holds.state c of) ∥∥₁_prop (λ law. kept_law c of law);
    parts = parts_now key shown count ns holds seat mine deque its was now at note sound;
  }

pub written_halls_hold : WrittenHallsHold
written_halls_hold key seat deque was now note its may sound shown count ns holds at mine = holds_now key seat deque was now note its may sound shown count ns holds at mine
