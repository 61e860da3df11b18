-- What an owner's call that is ready knows.
use Rattle.std.proofs.Common.{◌≡◌, ℕ, ◌+◌, ◌-◌, ◌≤◌, ◌<◌, List, sym, ap, ◌∙◌, subst, arith}
use Rattle.std.specs.Prelude.{[], pos}
use Rattle.containers.specs.BoundedList.{entries, spare}
use Rattle.containers.specs.declared.bounded_list.BoundedList.{BoundedList}
use Rattle.dag_order.specs.declared.birth.Birth.{Birth}
use Rattle.hall_slots.specs.Passed.Period.{Period}
use Rattle.language_limits.specs.declared.TheConstants.{GREATEST_COUNT}
use Rattle.block_arena.specs.Region.{Region, with_taken, with_given}
use Rattle.deque_list.specs.Lanes.{LaneView}
use Rattle.hall_parts.specs.HallNames.{Each, LaneSlot, Running, PoolSlot, Slot, HallKey, table_of, quota_of, HallSeat, IsAtPoint, IsPlaced, done_of, Thread}
use Rattle.hall_parts.specs.HallNames.{PoolIsSound}
use Rattle.space_ledger.specs.MovesList.{moves_list}
use Rattle.space_ledger.specs.Sums.{total_change}
use Rattle.hall_parts.specs.Here.{GoesOnTop, MayDo, MayEnd}
use Rattle.hall_parts.specs.Forks.{GoBothOnTop}
use Rattle.hall_actions.specs.Ready.{IsReady}

module _ (key : HallKey) (seat : HallSeat) (taken : LaneSlot → List (ℕ × Slot)) (threads : LaneView Thread) (running : Running) (top : Thread) (more ready : ℕ)
    (is : IsReady key seat taken threads running top more ready) where
  placed : IsPlaced top
  placed = ∣ (table_of key, quota_of key, is.point) ∣₁

  count : done_of top < GREATEST_COUNT
  count = let few = is.few in let done = is.done in omega (arith, few, done)

-- it may do an action without words of the quota
pub may_do : (key : HallKey) (seat : HallSeat) (taken : LaneSlot → List (ℕ × Slot)) (threads : LaneView Thread) (running : Running) (top : Thread) (more : ℕ)
    (first : BoundedList Birth) → IsReady key seat taken threads running top more (spare first) → entries first ≡ [] → MayDo more 0 top threads running.period first
may_do key seat taken threads running top more first is none = record {
  placed = placed key seat taken threads running top more (spare first) is;
  count = count key seat taken threads running top more (spare first) is;
  room = is.room;
  none = none;
  fits = let used = is.used in let small = is.small in omega (arith, used, small);
}

-- an action for which there is room for two threads may add one, use no words, or be an End
pub fewer : {words : ℕ} {top : Thread} {under : LaneView Thread} {running : Period} {first : BoundedList Birth} → MayDo 2 words top under running first
    → MayDo 1 words top under running first
fewer {words} {top} {under} {running} {first} may = record {
  placed = may.placed;
  count = may.count;
  room = record { lane = let two = may.room.lane in omega (arith, two); period = may.room.period };
  none = may.none;
  fits = may.fits;
}

pub free : {words : ℕ} {top : Thread} {under : LaneView Thread} {running : Period} {first : BoundedList Birth} → MayDo 2 words top under running first
    → MayDo 1 0 top under running first
free {words} {top} {under} {running} {first} may = let less = fewer may in record {
  placed = less.placed;
  count = less.count;
  room = less.room;
  none = less.none;
  fits = let some = less.fits in omega (arith, some);
}

pub may_end : {more words : ℕ} {top : Thread} {under : LaneView Thread} {running : Period} {first : BoundedList Birth} → MayDo more words top under running first
    → MayEnd top running first
may_end {more} {words} {top} {under} {running} {first} may = record {
  placed = may.placed;
  count = may.count;
  room = may.room.period;
  none = may.none;
  fits = let some = may.fits in omega (arith, some);
}

-- the pool stays sound where words went out of it, or came back
module _ (key : HallKey) (was now : PoolSlot) (words : ℕ) (sum : total_change (moves_list now.moves) ≡ pos now.pool.live) (sound : PoolIsSound key was) where
  pub taken_sound : now.pool ≡ with_taken was.pool words → was.pool.live + words ≤ was.pool.capacity → PoolIsSound key now
  taken_sound is arena = record {
    capacity = ap (λ (p : Region). p.capacity) is ∙ sound.capacity;
    within = let live : now.pool.live ≡ was.pool.live + words = ap (λ (p : Region). p.live) is in
        let capacity : now.pool.capacity ≡ was.pool.capacity = ap (λ (p : Region). p.capacity) is in omega (arith, live, capacity, arena);
    sum = sum;
  }

  pub given_sound : now.pool ≡ with_given was.pool words → PoolIsSound key now
  given_sound is = record {
    capacity = ap (λ (p : Region). p.capacity) is ∙ sound.capacity;
    within = let live : now.pool.live ≡ was.pool.live - words = ap (λ (p : Region). p.live) is in
        let capacity : now.pool.capacity ≡ was.pool.capacity = ap (λ (p : Region). p.capacity) is in let within = sound.within in omega (arith, live, capacity, within);
    sum = sum;
  }

-- the threads of a lane stay at their points with a thread that does
module _ (key : HallKey) (top : Thread) (under threads : List Thread) (point : IsAtPoint (table_of key) (quota_of key) top)
    (others : Each (IsAtPoint (table_of key) (quota_of key)) under) where
  pub on_top : GoesOnTop top under threads → Each (IsAtPoint (table_of key) (quota_of key)) threads
  on_top goes = subst (Each (IsAtPoint (table_of key) (quota_of key))) (sym goes.1) (goes.2 (table_of key) (quota_of key) point, others)

  pub both_on_top : GoBothOnTop top under threads → Each (IsAtPoint (table_of key) (quota_of key)) threads
  both_on_top goes = subst (Each (IsAtPoint (table_of key) (quota_of key))) (sym goes.2)
      (goes.4 (table_of key) (quota_of key) point, (goes.3 (table_of key) (quota_of key) point, others))
