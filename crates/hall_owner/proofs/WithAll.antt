-- An owner that took the list and the pool may do the event for which its next action asks.
use Rattle.std.proofs.Common.{◌≡◌, ℕ, ◌≤◌, ◌<◌, [], length, sym, ap, ◌∙◌, subst}
use Rattle.std.specs.Prelude.{Some}
use Rattle.hall_actions.specs.Passed.HallNames.{DequeId, HallSeat, MeetsLaw, HallKey, ListSlot, PoolSlot, IsEnd, label_of, next_of, Next, kept_under, HasAs}
use Rattle.hall_actions.specs.Passed.EventParts.{IsNext}
use Rattle.hall_actions.specs.Passed.Taken.{all_three}
use Rattle.hall_actions.proofs.InUse.{words_are_in_use, kept_words_are_in_use}
use Rattle.hall_actions.specs.Lists.{words_back, ComesTo}
use Rattle.hall_actions.specs.Reads.{HoldsItsLane}
use Rattle.hall_slots.specs.declared.slot.Slot.TheVariants as slots
use Rattle.hall_actions.specs.declared.at_next.AtNext.{AtNext}
use Rattle.hall_actions.specs.Passed.Rooms.{IsSamePool}
use Rattle.hall_actions.specs.WithAll.{EndsForked, HasMoreWith, HasRoomWith, IsWithAll}
use Rattle.hall_actions.specs.declared.with_all.WholeEvent.{WholeEvent}
use Rattle.hall_actions.specs.declared.with_all.WholeEvent.TheVariants.{Join, Wake, Leave}
use Rattle.hall_owner.specs.Asked.{IsAskedByAll}
use Rattle.hall_owner.specs.Holding.{IsBefore}
use Rattle.hall_owner.proofs.FromList as from
use Rattle.hall_owner.proofs.Held.{all_list, all_pool, comes, with_all}
use Rattle.hall_owner.proofs.WithList.{only_kept, some_of}
use Rattle.thread_points.specs.Points.{words_at_end}
use Rattle.thread_frames.specs.Passed.Joins.{released}
use Rattle.thread_frames.specs.declared.next.Next.TheVariants as nexts

module _ (key : HallKey) (seat : HallSeat) (deque : DequeId) (at : AtNext) (next : Next) (ready : ℕ) (list : ListSlot) (pool : PoolSlot)
    (b : IsBefore key seat deque (all_three deque list pool) at next ready) (meets : MeetsLaw key seat) where
  -- what it may read
  pub lane_held : HoldsItsLane seat deque b.holding.lane
  lane_held = with_all key seat deque at next ready list pool b.holding

  pub list_held : HasAs 0 (slots.List list) seat.hand.holds
  list_held = all_list key seat deque at next ready list pool b.holding

  pub pool_held : HasAs 1 (slots.Pool pool) seat.hand.holds
  pool_held = all_pool key seat deque at next ready list pool b.holding

  pub come : ComesTo key b.holding.lane at.top at.lane.items next
  come = comes key seat deque (all_three deque list pool) at next ready b.holding

  pub in_use : words_back at.top next ≤ pool.pool.live
  in_use = words_are_in_use key seat deque b.holding.lane pool at.top at.lane.items next lane_held pool_held meets come
      b.holding.is_next.next_is b.holding.is_next.point

  -- what it has in its hands for the event, once memory was asked for
  next_is_now : next_of at.top ≡ Some next
  next_is_now = b.holding.is_next.next_is

  module _ (kept : PoolSlot) (same : IsSamePool pool kept) where
    live : (n : ℕ) → n ≤ pool.pool.live → n ≤ kept.pool.live
    live n = subst (λ p. n ≤ p.live) (sym same.pool)

    ends : next ≡ nexts.End → 0 < length (label_of at.top) → at.lane.items ≡ [] → EndsForked key kept at
    ends is forked alone = record {
      alone = alone;
      forked = forked;
      live = live (words_at_end (label_of at.top)) (subst (λ n. words_back at.top n ≤ pool.pool.live) is in_use);
      next = subst IsEnd (sym (next_is_now ∙ ap Some is)) tt;
      listed = subst (IsNext key at.top) is b.holding.is_next.listed;
    }

    pub can : (event : WholeEvent) → IsAskedByAll list at next event → (roomy : ListSlot) → HasMoreWith event list roomy → HasRoomWith event roomy
        → IsWithAll key deque roomy kept at event
    can (Join child) asked roomy more room =
        let comes = subst (ComesTo key b.holding.lane at.top at.lane.items) asked.0 come in
        subst (λ (l : ListSlot). IsWithAll key deque l kept at (Join child)) (sym more) (
          from.joins_kept key seat deque b.holding.lane list lane_held list_held meets at.top at.lane.items child comes asked.1
              asked.4.0 asked.4.1 (next_is_now ∙ ap Some asked.0),
          λ ended is. subst (λ n. 0 < n) (only_kept list at.top child asked.2 asked.4 ended is) asked.3,
          λ ended is. live (released at.top.run.state ended.state) (kept_words_are_in_use key seat deque b.holding.lane list pool
              at.top at.lane.items child ended lane_held list_held pool_held meets comes is),
        )
    can Wake asked roomy more room =
        let comes = subst (ComesTo key b.holding.lane at.top at.lane.items) asked.0 come in
        let waits = some_of (kept_under list.part.waiting at.top.id) asked.3 in
        subst (λ (l : ListSlot). IsWithAll key deque l kept at Wake) (sym more) (
          ends asked.0 asked.1 asked.2,
          from.wakes key seat deque b.holding.lane list lane_held list_held meets at.top at.lane.items comes waits.0 waits.1,
        )
    can Leave asked roomy more room =
        let comes = subst (ComesTo key b.holding.lane at.top at.lane.items) asked.0 come in (
          ends asked.0 asked.1 asked.2,
          from.closes key seat deque b.holding.lane list lane_held list_held meets roomy more.deques room.0,
          from.leaves key seat deque b.holding.lane list lane_held list_held meets at.top at.lane.items comes roomy more room.1 asked.3,
        )
