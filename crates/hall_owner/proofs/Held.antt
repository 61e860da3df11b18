-- What an owner has in its hands, in the words of the events and of what it may read.
use Rattle.std.proofs.Common.{ℕ, ◌+◌, ◌≤◌, List, inl, inr, refl, sym, subst, arith}
use Rattle.hall_actions.specs.Passed.HallNames.{DequeId, HallSeat, HallKey, LaneSlot, ListSlot, PoolSlot, Slot, Next, HasAs}
use Rattle.hall_actions.specs.Passed.Taken.{its_lane, pool_and_lane, list_and_lane, all_three}
use Rattle.hall_actions.specs.Lists.{ComesTo}
use Rattle.hall_actions.specs.Reads.{HoldsItsLane}
use Rattle.hall_slots.specs.declared.slot.Slot.TheVariants as slots
use Rattle.hall_actions.specs.Ready.{IsReady}
use Rattle.hall_actions.specs.declared.at_next.AtNext.{AtNext}
use Rattle.hall_owner.specs.Holding.{IsHolding}

module _ (key : HallKey) (seat : HallSeat) (deque : DequeId) (taken : LaneSlot → List (ℕ × Slot)) (at : AtNext) (next : Next) (ready : ℕ)
    (h : IsHolding key seat deque taken at next ready) where
  -- it is ready for an event,
  pub is_ready : (more : ℕ) → more ≤ 2 → IsReady key seat taken at.lane at.running at.top more ready
  is_ready more few = let room = h.is_next.room.lane in record {
    quota = h.is_next.within.quota;
    small = h.is_next.within.small;
    few = h.is_next.within.few;
    lane = h.lane;
    at = h.is_next.at_action;
    holds = h.holds;
    used = h.is_next.within.used;
    done = h.is_next.within.done;
    point = h.is_next.point;
    under = h.is_next.under;
    room = record { lane = omega (arith, few, room); period = h.is_next.room.period };
  }

  -- its top thread has come to its action,
  pub comes : ComesTo key h.lane at.top at.lane.items next
  comes = record {
    top_was = h.is_next.at_action.top_was;
    items = h.is_next.at_action.items;
    still = h.is_next.at_action.still;
    listed = h.is_next.listed;
    newest = h.is_next.newest;
  }

  -- and it may read what its lane says.
  pub owning : HasAs (deque.0 + 2) (slots.Lane h.lane) (taken h.lane) → HoldsItsLane seat deque h.lane
  owning has = record {
    placed = h.goes.placed;
    stays = h.goes.stays;
    owns = h.goes.owns;
    holds = subst (HasAs (deque.0 + 2) (slots.Lane h.lane)) (sym h.holds) has;
  }

-- by the slots that it holds
module _ (key : HallKey) (seat : HallSeat) (deque : DequeId) (at : AtNext) (next : Next) (ready : ℕ) where
  pub with_lane : (h : IsHolding key seat deque (its_lane deque) at next ready) → HoldsItsLane seat deque h.lane
  with_lane h = owning key seat deque (its_lane deque) at next ready h (inl (refl, refl))

  pub with_pool : (pool : PoolSlot) (h : IsHolding key seat deque (pool_and_lane deque pool) at next ready) → HoldsItsLane seat deque h.lane
  with_pool pool h = owning key seat deque (pool_and_lane deque pool) at next ready h (inr (inl (refl, refl)))

  pub pool_held : (pool : PoolSlot) (h : IsHolding key seat deque (pool_and_lane deque pool) at next ready) → HasAs 1 (slots.Pool pool) seat.hand.holds
  pool_held pool h = subst (HasAs 1 (slots.Pool pool)) (sym h.holds) (inl (refl, refl))

  pub with_list : (list : ListSlot) (h : IsHolding key seat deque (list_and_lane deque list) at next ready) → HoldsItsLane seat deque h.lane
  with_list list h = owning key seat deque (list_and_lane deque list) at next ready h (inr (inl (refl, refl)))

  pub list_held : (list : ListSlot) (h : IsHolding key seat deque (list_and_lane deque list) at next ready) → HasAs 0 (slots.List list) seat.hand.holds
  list_held list h = subst (HasAs 0 (slots.List list)) (sym h.holds) (inl (refl, refl))

  pub with_all : (list : ListSlot) (pool : PoolSlot) (h : IsHolding key seat deque (all_three deque list pool) at next ready) → HoldsItsLane seat deque h.lane
  with_all list pool h = owning key seat deque (all_three deque list pool) at next ready h (inr (inr (inl (refl, refl))))

  pub all_list : (list : ListSlot) (pool : PoolSlot) (h : IsHolding key seat deque (all_three deque list pool) at next ready) → HasAs 0 (slots.List list) seat.hand.holds
  all_list list pool h = subst (HasAs 0 (slots.List list)) (sym h.holds) (inr (inl (refl, refl)))

  pub all_pool : (list : ListSlot) (pool : PoolSlot) (h : IsHolding key seat deque (all_three deque list pool) at next ready) → HasAs 1 (slots.Pool pool) seat.hand.holds
  all_pool list pool h = subst (HasAs 1 (slots.Pool pool)) (sym h.holds) (inl (refl, refl))
