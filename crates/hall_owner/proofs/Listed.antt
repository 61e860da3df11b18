-- An owner that took the list may do the event for which its next action asks, by what is kept there.
use Rattle.std.proofs.Common.{◌≡◌, ℕ, sym, ap, ◌∙◌, subst}
use Rattle.std.specs.Prelude.{None, Some}
use Rattle.hall_actions.specs.Passed.HallNames.{DequeId, HallSeat, MeetsLaw, HallKey, ListSlot, IsDummy, IsEnd, next_of, Next}
use Rattle.hall_actions.specs.declared.at_next.AtNext.{AtNext}
use Rattle.hall_actions.specs.Passed.EventParts.{IsNext}
use Rattle.hall_actions.proofs.Charging.{spent_is_too_much}
use Rattle.hall_actions.specs.Lists.{ComesTo}
use Rattle.hall_actions.specs.Passed.Taken.{list_and_lane}
use Rattle.hall_actions.specs.WithList.{HasMoreFor, HasRoomFor, IsWithList}
use Rattle.hall_actions.specs.declared.with_list.ListEvent.{ListEvent}
use Rattle.hall_actions.specs.declared.with_list.ListEvent.TheVariants.{GiveUp, Wait, Dummy, Join, RootEnd}
use Rattle.hall_owner.specs.Asked.{IsAskedByList}
use Rattle.hall_owner.specs.Holding.{IsBefore}
use Rattle.hall_owner.proofs.Showing.{LeavesNobody, spent_again}
use Rattle.hall_owner.proofs.FromList as from
use Rattle.hall_owner.proofs.WithList as with
use Rattle.thread_frames.specs.declared.next.Next.TheVariants as nexts

module _ (key : HallKey) (before : HallSeat) (deque : DequeId) (at : AtNext) (next : Next) (ready : ℕ) (was : ListSlot)
    (b : IsBefore key before deque (list_and_lane deque was) at next ready) where
  -- what it has in its hands for the event, once memory was asked for
  module _ (meets : MeetsLaw key before) (no_end : was.end ≡ None) where
    come : ComesTo key b.holding.lane at.top at.lane.items next
    come = with.come key before deque at next ready was b meets

    next_is : next_of at.top ≡ Some next
    next_is = b.holding.is_next.next_is

    come_to : (n : Next) → next ≡ n → ComesTo key b.holding.lane at.top at.lane.items n
    come_to n is = subst (ComesTo key b.holding.lane at.top at.lane.items) is come

    pub can : (event : ListEvent) → IsAskedByList key was at next event → (list : ListSlot) → HasMoreFor event was list → HasRoomFor event list
        → IsWithList key deque list at event
    can GiveUp asked list more room = (
      next,
      spent_is_too_much key next at.top at.running.period b.holding.is_next.listed (spent_again key at next asked),
      with.closes key before deque at next ready was b meets list more.deques room,
    )
    can (Wait child) asked list more room =
        let lane = with.lane_held key before deque at next ready was b meets in
        let has = with.has_list key before deque at next ready was b meets in
        let comes = come_to (nexts.Join child) asked.0 in (
          from.alone key before deque b.holding.lane was lane has meets at.top at.lane.items child comes asked.1 asked.2,
          with.closes key before deque at next ready was b meets list more.deques room.0,
          from.waits key before deque b.holding.lane was lane has meets at.top at.lane.items child comes asked.1 asked.2 list more room.1,
        )
    can Dummy asked list more room = (
      with.closes key before deque at next ready was b meets list more.deques room,
      subst IsDummy (sym (next_is ∙ ap Some asked)) tt,
      subst (IsNext key at.top) asked b.holding.is_next.listed,
    )
    can (Join child) asked list more room =
        let lane = with.lane_held key before deque at next ready was b meets in
        let has = with.has_list key before deque at next ready was b meets in
        let comes = come_to (nexts.Join child) asked.0 in
        subst (λ (l : ListSlot). IsWithList key deque l at (Join child)) (sym more) (
          from.joins_kept key before deque b.holding.lane was lane has meets at.top at.lane.items child comes asked.1 asked.4.0 asked.4.1
              (next_is ∙ ap Some asked.0),
          λ ended kept. sym (with.only_kept was at.top child asked.2 asked.4 ended kept) ∙ asked.3,
        )
    can RootEnd asked list more room =
        let lane = with.lane_held key before deque at next ready was b meets in
        let has = with.has_list key before deque at next ready was b meets in
        let comes = come_to nexts.End asked.0 in record {
          alone = asked.2;
          closes = with.closes key before deque at next ready was b meets list more.deques room.0;
          leaves = from.leaves key before deque b.holding.lane was lane has meets at.top at.lane.items comes list more room.1
              (from.nobody key before deque b.holding.lane was lane has meets at.top at.lane.items comes asked.1);
          no_end = more.deques.end ∙ no_end;
          root_id = from.root_id key before deque b.holding.lane was lane has meets at.top at.lane.items comes asked.1;
          root_label = asked.1;
          next = subst IsEnd (sym (next_is ∙ ap Some asked.0)) tt;
          listed = subst (IsNext key at.top) asked.0 b.holding.is_next.listed;
        }

    -- nobody waits for the root
    pub leaves_nobody : (event : ListEvent) → IsAskedByList key was at next event → LeavesNobody was at event
    leaves_nobody GiveUp asked = tt
    leaves_nobody (Wait child) asked = tt
    leaves_nobody Dummy asked = tt
    leaves_nobody (Join child) asked = tt
    leaves_nobody RootEnd asked = from.nobody key before deque b.holding.lane was
        (with.lane_held key before deque at next ready was b meets) (with.has_list key before deque at next ready was b meets) meets
        at.top at.lane.items (come_to nexts.End asked.0) asked.1
