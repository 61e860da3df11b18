-- What shows what it showed may be put back.
use Rattle.std.proofs.Common.{◌≡◌, ℕ, ◌+◌, ◌<◌, ◌≤◌, List, map, inl, refl, sym, ap, ◌∙◌, subst, arith}
use Rattle.std.proofs.Math.Logic.{∥∥₁_map}
use Rattle.std.proofs.lemmas.List.Sorted.{IsPermutation-map, IsPermutation-refl}
use Rattle.std.specs.Prelude.{pos, slice_set}
use Rattle.block_arena.specs.Region.{Region}
use Rattle.hall_parts.specs.HallNames.{DequeId, table_of, quota_of, terms_of, lane_shown, list_shown, view_of, HallSeat, HallKey, LaneSlot, ListSlot}
use Rattle.hall_parts.specs.HallNames.{PoolSlot, SeatNote, Terms, machine_of, Setting, IsAtPoint, IsResult, thread_that_waits, PoolIsSound}
use Rattle.deque_list.specs.Orders.{OrderView}
use Rattle.moment_shown.specs.Parts as shown
use Rattle.space_ledger.specs.Sums.{total_change}
use Rattle.thread_frames.specs.Kept.{WaitsUnder, IsUnderItsId, waiting_shown, result_kept}
use Rattle.hall_machine.specs.State.{RunningState}
use Rattle.hall_machine.specs.Values.{Hall}
use Rattle.hall_machine.specs.Views.{View}
use Rattle.hall_machine.proofs.Quiet.{quiet_puts_go_on}
use Rattle.hall_parts.specs.Rooms.{HasMoreRoom, IsSamePool}
use Rattle.hall_parts.proofs.Rooms.{pool_same, shown_with}
use Rattle.hall_parts.proofs.Staying.{all_at, each_moved}
use Rattle.hall_parts.specs.Puts.{note_of, MayPutPoolAndLane, MayPutListAndLane, MayPutAll}
use Rattle.hall_parts.specs.declared.noting.Noting.{Noting}
use Rattle.hall_parts.specs.declared.noting.Noting.TheVariants.{Same, Found, Does, Yields, Leaves, Closes, Halts}
use Rattle.hall_slots.specs.Steps.{IsRunning}
use Rattle.hall_parts.specs.Writes.{Parts, parts, hall_with, IsShort, MayBecome, StaySound, stays}
use Rattle.hall_actions.specs.Returning.{MayNote, ReturnsLane, ReturnsPool, ReturnsList, ReturnsAll}

-- parts that are as they were have no less room than they had
pub same_list : (list : ListSlot) → HasMoreRoom list list
same_list list = record {
  deques = record { order = refl; closed = refl; begun = refl; crew = refl; end = refl };
  waiting = (IsPermutation-refl list.part.waiting.entries, λ id. refl);
  results = (IsPermutation-refl list.part.results.entries, λ id. refl);
}

pub same_pool : (pool : PoolSlot) → IsSamePool pool pool
same_pool pool = record { pool = refl; moves = refl }

-- a pool that is what it was, perhaps with more room, is as sound
pub same_sound : (key : HallKey) (was now : PoolSlot) → IsSamePool was now → PoolIsSound key was → PoolIsSound key now
same_sound key was now same sound = record {
  capacity = ap (λ (r : Region). r.capacity) same.pool ∙ sound.capacity;
  within = subst (λ (r : Region). r.live ≤ r.capacity) (sym same.pool) sound.within;
  sum = ap total_change same.moves ∙ sound.sum ∙ ap (λ (r : Region). pos r.live) (sym same.pool);
}

-- a seat keeps its places, whatever it notes
places_stay : (note : SeatNote) (noting : Noting) → (note_of note noting).places ≡ note.places
places_stay note Same = refl
places_stay note (Found stop) = refl
places_stay note (Does event owns) = refl
places_stay note (Yields deque) = refl
places_stay note (Leaves deque) = refl
places_stay note (Closes deque end) = refl
places_stay note (Halts stop end) = refl

plus_zero : (n : ℕ) → n + 0 ≡ n
plus_zero n = omega arith

-- parts that a seat may put back so may be put back with more room
module _ (key : HallKey) (seat : HallSeat) (deque : DequeId) (first was now : Parts) (more : HasMoreRoom was.list now.list) (pool : IsSamePool was.pool now.pool)
    (same : lane_shown now.lane ≡ lane_shown was.lane) where
  abbrev waiting_now : List shown.Thread
  waiting_now = map waiting_shown now.list.part.waiting.entries

  abbrev results_now : List shown.Result
  results_now = map result_kept now.list.part.results.entries

  -- the hall in which what the list keeps is in another order
  abbrev reordered : Hall → Hall
  reordered h = record (hall_with h deque was) { list = record (list_shown was.list) { waiting = waiting_now; results = results_now } }

  is_now : (h : Hall) → reordered h ≡ hall_with h deque now
  is_now h = λ i. record {
    list = sym (shown_with was.list now.list more.deques waiting_now results_now refl refl) i;
    pool = sym (pool_same was.pool now.pool pool) i;
    lanes = slice_set h.lanes deque.0 (sym same i);
  }

  module _ (c : Setting) (h : Hall) (count : ℕ) (views : List View) where
    still : IsRunning (machine_of c (terms_of key)) (Terms.limits (terms_of key)) (hall_with h deque was) count views
        → IsRunning (machine_of c (terms_of key)) (Terms.limits (terms_of key)) (hall_with h deque now) count views
    still run = (
      run.0,
      run.1,
      run.2,
      subst (λ (x : Hall). RunningState (machine_of c (terms_of key)) (Terms.limits (terms_of key)) x run.0 run.1 run.2 count views) (is_now h)
          (quiet_puts_go_on (machine_of c (terms_of key)) (Terms.limits (terms_of key)) (hall_with h deque was) (reordered h) run.0 run.1 run.2 count views run.3
          (record {
            deques = refl;
            waiting = IsPermutation-map waiting_shown was.list.part.waiting.entries now.list.part.waiting.entries more.waiting.0;
            results = IsPermutation-map result_kept was.list.part.results.entries now.list.part.results.entries more.results.0;
            periods = refl;
          })
          (record { live = refl; begun = sym (plus_zero was.list.part.begun); moves = refl }) run.3.stands.shape.lanes
          (record { places = refl; crew = refl; kept = refl; periods = λ id worker owned. refl })),
    )

  pub goes_more : (note : SeatNote) → MayBecome key seat deque first was note → MayBecome key seat deque first now note
  goes_more note may c of h count views run list_is pool_is lane_is its =
      ∥∥₁_map (may c of h count views run list_is pool_is lane_is its) (still c h count (slice_set views seat.number (view_of note)))

module _ (key : HallKey) (seat : HallSeat) (deque : DequeId) (was now : Parts) (noting : Noting) (more : HasMoreRoom was.list now.list) (pool : IsSamePool was.pool now.pool)
    (lane : ReturnsLane key seat deque was.lane now.lane) (may : MayNote key seat deque was noting) where
  abbrev note : SeatNote
  note = note_of seat.hand.note noting

  pub goes_on : MayBecome key seat deque was now note
  goes_on = goes_more key seat deque was was now more pool lane.same note may.goes_on

  pub stay : StaySound key seat deque was now note
  stay = record {
    pool = same_sound key was.pool now.pool pool;
    list = λ sound. record {
      most = ap (λ (o : OrderView). o.most) more.deques.order ∙ sound.most;
      waiting = each_moved WaitsUnder was.list.part.waiting.entries now.list.part.waiting.entries more.waiting.0 sound.waiting;
      under_ids = each_moved IsUnderItsId was.list.part.results.entries now.list.part.results.entries more.results.0 sound.under_ids;
      results = each_moved (λ entry. IsResult (table_of key) (quota_of key) entry.1) was.list.part.results.entries now.list.part.results.entries more.results.0 sound.results;
    };
    waiting = each_moved (IsAtPoint (table_of key) (quota_of key)) (map thread_that_waits was.list.part.waiting.entries) (map thread_that_waits now.list.part.waiting.entries)
        (IsPermutation-map thread_that_waits was.list.part.waiting.entries now.list.part.waiting.entries more.waiting.0);
    becomes = stays (ap (λ (o : OrderView). o.places) more.deques.order);
    points = all_at (IsAtPoint (table_of key) (quota_of key)) (IsShort note was.list.part.order.places now.list.part.order.places) now.lane.lane.items lane.points;
    ends = λ end is. more.deques.end ∙ is;
    finished = λ finish is. inl (sym more.deques.end ∙ is);
    worker = may.on.worker;
    left = inl may.on.left;
    answered = λ e is. inl (sym may.on.answered ∙ is);
    found = may.on.found;
  }

module _ (key : HallKey) (seat : HallSeat) (deque : DequeId) (noting : Noting) where
  placed_now : 0 < seat.hand.note.places → 0 < (note_of seat.hand.note noting).places
  placed_now = subst (λ n. 0 < n) (sym (places_stay seat.hand.note noting))

  pub pool_back : (pool : PoolSlot) (lane : LaneSlot) → ReturnsPool key seat deque pool lane noting → MayPutPoolAndLane key seat deque pool lane (note_of seat.hand.note noting)
  pool_back pool lane r = record {
    pool_was = r.pool_was;
    lane_was = r.lane_was;
    holds = r.holds;
    owner = record { placed = r.lane_same.goes.placed; owns = r.lane_same.goes.owns };
    placed = placed_now r.lane_same.goes.placed;
    may = λ list. record {
      goes_on = goes_on key seat deque (parts list r.pool_was r.lane_was) (parts list pool lane) noting (same_list list) r.pool_same r.lane_same (r.may list);
      sound = stay key seat deque (parts list r.pool_was r.lane_was) (parts list pool lane) noting (same_list list) r.pool_same r.lane_same (r.may list);
    };
  }

  pub list_back : (list : ListSlot) (lane : LaneSlot) → ReturnsList key seat deque list lane noting → MayPutListAndLane key seat deque list lane (note_of seat.hand.note noting)
  list_back list lane r = record {
    list_was = r.list_was;
    lane_was = r.lane_was;
    holds = r.holds;
    owner = record { placed = r.lane_same.goes.placed; owns = r.lane_same.goes.owns };
    placed = placed_now r.lane_same.goes.placed;
    may = λ pool. record {
      goes_on = goes_on key seat deque (parts r.list_was pool r.lane_was) (parts list pool lane) noting r.list_same (same_pool pool) r.lane_same (r.may pool);
      sound = stay key seat deque (parts r.list_was pool r.lane_was) (parts list pool lane) noting r.list_same (same_pool pool) r.lane_same (r.may pool);
    };
  }

  pub all_back : (list : ListSlot) (pool : PoolSlot) (lane : LaneSlot) → ReturnsAll key seat deque list pool lane noting → MayPutAll key seat deque list pool lane (note_of seat.hand.note noting)
  all_back list pool lane r = record {
    list_was = r.list_was;
    pool_was = r.pool_was;
    lane_was = r.lane_was;
    holds = r.holds;
    owner = record { placed = r.lane_same.goes.placed; owns = r.lane_same.goes.owns };
    placed = placed_now r.lane_same.goes.placed;
    may = record {
      goes_on = goes_on key seat deque (parts r.list_was r.pool_was r.lane_was) (parts list pool lane) noting r.list_same r.pool_same r.lane_same r.may;
      sound = stay key seat deque (parts r.list_was r.pool_was r.lane_was) (parts list pool lane) noting r.list_same r.pool_same r.lane_same r.may;
    };
  }
