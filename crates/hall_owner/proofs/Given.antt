-- A lane whose top thread came to its next action may go back.
use Rattle.std.proofs.Common.{◌≡◌, ℕ, List, ◌∷◌, sym, subst}
use Rattle.std.specs.Prelude.{Some}
use Rattle.hall_actions.specs.Passed.HallNames.{DequeId, Each, table_of, quota_of, HallSeat, HallKey, LaneSlot, ListSlot, PoolSlot, Slot, IsAtPoint, Next}
use Rattle.hall_actions.specs.Passed.Own.{IsStillThere}
use Rattle.hall_actions.specs.Passed.Rooms.{HasMoreRoom, IsSamePool}
use Rattle.hall_actions.specs.Passed.Writes.{Parts, parts}
use Rattle.hall_actions.specs.Passed.Taken.{its_lane, pool_and_lane, list_and_lane, all_three}
use Rattle.hall_actions.specs.Passed.Noting.{Noting}
use Rattle.hall_actions.proofs.Readable.{shows_the_same}
use Rattle.hall_actions.specs.declared.at_next.AtNext.{AtNext}
use Rattle.hall_actions.specs.Returning.{MayNote, ReturnsLane, ReturnsPool, ReturnsList, ReturnsAll}
use Rattle.hall_actions.proofs.Returned.{same_list}
use Rattle.hall_actions.specs.WithAll.{HasMoreWith}
use Rattle.hall_actions.specs.WithList.{HasMoreFor}
use Rattle.hall_actions.specs.declared.with_all.WholeEvent.{WholeEvent}
use Rattle.hall_actions.specs.declared.with_all.WholeEvent.TheVariants as whole
use Rattle.hall_actions.specs.declared.with_list.ListEvent.{ListEvent}
use Rattle.hall_actions.specs.declared.with_list.ListEvent.TheVariants.{GiveUp, Wait, Dummy, Join, RootEnd}
use Rattle.hall_owner.proofs.WithList as with
use Rattle.hall_owner.specs.Holding.{IsHolding}
use Rattle.hall_owner.specs.Taken.{slots_of, HasMoreOf}
use Rattle.hall_owner.specs.declared.taken.Taken.{Taken}
use Rattle.hall_owner.specs.declared.taken.Taken.TheVariants.{OnLane, WithPool, WithList, WithAll}

-- room for one event is room of any kind
more_for : (event : ListEvent) (was now : ListSlot) → HasMoreFor event was now → HasMoreRoom was now
more_for GiveUp was now more = with.more_books was now more
more_for (Wait child) was now more = with.more_to_wait was now more
more_for Dummy was now more = with.more_books was now more
more_for (Join child) was now more = subst (HasMoreRoom was) (sym more) (same_list was)
more_for RootEnd was now more = with.more_to_leave was now more

more_with : (event : WholeEvent) (was now : ListSlot) → HasMoreWith event was now → HasMoreRoom was now
more_with (whole.Join child) was now more = subst (HasMoreRoom was) (sym more) (same_list was)
more_with whole.Wake was now more = subst (HasMoreRoom was) (sym more) (same_list was)
more_with whole.Leave was now more = with.more_to_leave was now more

module _ (key : HallKey) (seat : HallSeat) (deque : DequeId) (taken : LaneSlot → List (ℕ × Slot)) (at : AtNext) (next : Next) (ready : ℕ)
    (is : IsHolding key seat deque taken at next ready) (lane : LaneSlot) (items : lane.lane.items ≡ at.top ∷ at.lane.items) (running : lane.running ≡ Some at.running) where
  pub lane_back : ReturnsLane key seat deque is.lane lane
  lane_back = record {
    goes = is.goes;
    same = shows_the_same is.lane lane at.top at.lane.items at.running is.is_next.at_action items running;
    points = subst (Each (IsAtPoint (table_of key) (quota_of key))) (sym items) (is.is_next.point, is.is_next.under);
  }

module _ (key : HallKey) (seat : HallSeat) (deque : DequeId) (at : AtNext) (next : Next) (ready : ℕ) (lane : LaneSlot) (items : lane.lane.items ≡ at.top ∷ at.lane.items)
    (running : lane.running ≡ Some at.running) where
  pub still_there : IsHolding key seat deque (its_lane deque) at next ready → IsStillThere key seat deque lane
  still_there is = let back = lane_back key seat deque (its_lane deque) at next ready is lane items running in record {
    placed = is.goes.placed;
    owns = is.goes.owns;
    lane_was = is.lane;
    holds = is.holds;
    same = back.same;
    points = back.points;
  }

  module _ (noting : Noting) (note : (was : Parts) → MayNote key seat deque was noting) where
    pub pool_back : (was pool : PoolSlot) → IsSamePool was pool → IsHolding key seat deque (pool_and_lane deque was) at next ready → ReturnsPool key seat deque pool lane noting
    pool_back was pool same is = record {
      pool_was = was;
      lane_was = is.lane;
      holds = is.holds;
      pool_same = same;
      lane_same = lane_back key seat deque (pool_and_lane deque was) at next ready is lane items running;
      may = λ list. note (parts list was is.lane);
    }

    pub list_back : (was list : ListSlot) → HasMoreRoom was list → IsHolding key seat deque (list_and_lane deque was) at next ready → ReturnsList key seat deque list lane noting
    list_back was list same is = record {
      list_was = was;
      lane_was = is.lane;
      holds = is.holds;
      list_same = same;
      lane_same = lane_back key seat deque (list_and_lane deque was) at next ready is lane items running;
      may = λ pool. note (parts was pool is.lane);
    }

    pub all_back : (was list : ListSlot) → HasMoreRoom was list → (pool_was pool : PoolSlot) → IsSamePool pool_was pool → IsHolding key seat deque (all_three deque was pool_was) at next ready
        → ReturnsAll key seat deque list pool lane noting
    all_back was list same pool_was pool pool_same is = record {
      list_was = was;
      pool_was = pool_was;
      lane_was = is.lane;
      holds = is.holds;
      list_same = same;
      pool_same = pool_same;
      lane_same = lane_back key seat deque (all_three deque was pool_was) at next ready is lane items running;
      may = note (parts was pool_was is.lane);
    }

    -- whatever it took
    abbrev pub IsBack : Taken → Type 0
    IsBack (OnLane child) = IsStillThere key seat deque lane
    IsBack (WithPool pool action charge) = ReturnsPool key seat deque pool lane noting
    IsBack (WithList list event) = ReturnsList key seat deque list lane noting
    IsBack (WithAll list pool event) = ReturnsAll key seat deque list pool lane noting

    pub back : (was now : Taken) → HasMoreOf was now → IsHolding key seat deque (slots_of deque was) at next ready → IsBack now
    back (OnLane child) now more is = subst IsBack (sym more) (still_there is)
    back (WithPool pool action charge) now more is = subst IsBack (sym more.1) (pool_back pool more.0 more.2 is)
    back (WithList list event) now more is = subst IsBack (sym more.1) (list_back list more.0 (more_for event list more.0 more.2) is)
    back (WithAll list pool event) now more is = subst IsBack (sym more.2)
        (all_back list more.0 (more_with event list more.0 more.3) pool more.1 more.4 is)
