-- What the next action of an owner asks for, by what it may do.
use Rattle.std.proofs.Common.{◌≡◌, ◌≢◌, ℕ, ◌+◌, ◌<◌, true, false, [], ◌∷◌, sym, ap, ◌∙◌, subst}
use Rattle.std.specs.Prelude.{IsTrue}
use Rattle.hall_actions.specs.Passed.HallNames.{DequeId, quota_of, HallSeat, IsTaken, MeetsLaw, HallKey, LaneSlot, ThreadId, is_there, is_delivered, children_of}
use Rattle.hall_actions.specs.Passed.HallNames.{newest, Next, Thread}
use Rattle.hall_actions.specs.Passed.Taken.{its_lane}
use Rattle.hall_actions.proofs.Joining.{joins_are_read}
use Rattle.hall_slots.specs.declared.slot.Slot.TheVariants as slots
use Rattle.hall_actions.proofs.Charging.{ready_may_be_done}
use Rattle.hall_actions.specs.Quotas.{MayUse}
use Rattle.hall_actions.specs.Advancing.{IsAtNext, MayCome, took_lane}
use Rattle.hall_actions.specs.declared.at_next.AtNext.{AtNext}
use Rattle.hall_actions.specs.WithPool.{IsWithPool}
use Rattle.hall_actions.proofs.Ending.{ends_are_read}
use Rattle.hall_owner.proofs.Showing.{ready_is_due}
use Rattle.hall_owner.specs.Asked.{AsksWithPool}
use Rattle.hall_owner.proofs.Held.{comes, with_lane}
use Rattle.hall_owner.specs.Ready.{IsReadyTo}
use Rattle.hall_owner.proofs.Following.{note}
use Rattle.thread_actions.specs.Readiness.{IsReadiness}
use Rattle.thread_actions.specs.declared.readiness.Readiness.TheVariants.{Ready, Missing}
use Rattle.thread_frames.specs.declared.next.Next.TheVariants.{Fork, Join, Alloc, Release, Dummy, Fault, End}

-- a Join whose result is missing
pub missing_is : (used k : ℕ) (top : Thread) (next : Next) (child : ThreadId) → IsReadiness used k top next (Missing child)
    → (next ≡ Join child) × (is_delivered child (children_of top) ≡ false)
missing_is used k top Fork child is = absurd is
missing_is used k top (Join its) child is = (λ i. Join (sym is.0 i), subst (λ id. is_delivered id (children_of top) ≡ false) (sym is.0) is.1)
missing_is used k top (Alloc words) child is = absurd is
missing_is used k top (Release words) child is = absurd is
missing_is used k top Dummy child is = absurd is
missing_is used k top (Fault fault) child is = absurd is
missing_is used k top End child is = absurd is

module _ (key : HallKey) (seat : HallSeat) (deque : DequeId) (at : AtNext) (ready : ℕ) where
  -- its action may be done, if it is ready
  pub may_use : (next : Next) → IsReadyTo key seat deque at next ready → (charge : ℕ)
      → IsReadiness at.running.period.used (quota_of key) at.top next (Ready charge) → MayUse key seat.hand.note.worker next charge at.top at.running.period
  may_use next r charge is = let w = r.before.holding.is_next.within in
      ready_may_be_done key seat.hand.note.worker charge next at.top at.running.period w.quota w.small w.used r.before.holding.is_next.listed is

  -- for an action that needs the pool
  pub with_pool : (next : Next) → IsReadyTo key seat deque at next ready → (charge : ℕ)
      → IsReadiness at.running.period.used (quota_of key) at.top next (Ready charge) → IsWithPool next at.top at.lane.items
      → AsksWithPool key seat.hand.note.worker at next charge
  with_pool next r charge is suits = record { suits = suits; due = ready_is_due key at charge next is; uses = may_use next r charge is }

  -- a Join whose result was handed over
  pub there_by : (child : ThreadId) → IsReadyTo key seat deque at (Join child) ready → is_delivered child (children_of at.top) ≡ true
      → IsTrue (is_there (newest (children_of at.top)))
  there_by child r is = let h = r.before.holding in
      let reads = joins_are_read key seat deque h.lane at.top at.lane.items child (with_lane key seat deque at (Join child) ready h) r.meets
      (comes key seat deque (its_lane deque) at (Join child) ready h) in
      reads.there ∙ sym reads.delivered ∙ is

  -- an End above its parent
  pub ends_above : (r : IsReadyTo key seat deque at End ready) → at.lane.items ≢ [] → IsWithPool End at.top at.lane.items
  ends_above r above = let h = r.before.holding in
      let reads = ends_are_read key seat deque h.lane at.top at.lane.items (with_lane key seat deque at End ready h) r.meets
      (comes key seat deque (its_lane deque) at End ready h) in
      (reads.forked above, above, reads.below)

-- a seat whose top thread has come to its next action
pub ready_to : (key : HallKey) (before middle : HallSeat) (deque : DequeId) (lane : LaneSlot) (at : AtNext) (next : Next) (ready : ℕ)
    → MayCome before deque → IsTaken before (deque.0 + 2) (slots.Lane lane) middle → IsAtNext key lane at next ready → MeetsLaw key middle
    → IsReadyTo key middle deque at next ready
ready_to key before middle deque lane at next ready may taken is_next meets =
    let same = note before middle ((deque.0 + 2, slots.Lane lane) ∷ before.hand.holds) (took_lane deque lane ∷ []) taken in record {
      before = record {
        holding = record {
          goes = record {
            placed = subst (λ n. 0 < n) (sym (ap (λ s. s.places) same)) may.may.goes.placed;
            stays = ap (λ s. s.left) same ∙ may.may.goes.stays;
            owns = ap (λ s. s.deque) same ∙ may.may.goes.owns;
          };
          lane = lane;
          holds = ap (λ (s : HallSeat). s.hand.holds) taken ∙ ap (λ xs. (deque.0 + 2, slots.Lane lane) ∷ xs) may.free;
          is_next = is_next;
        };
        free = ap (λ s. s.counting) same ∙ may.may.counting;
        none = ap (λ s. s.found) same ∙ may.none;
      };
      meets = meets;
    }
