-- What an owner has in its hands when it does its next action.
use Rattle.std.specs.Prelude.{◌≡◌, ℕ, ◌+◌, ◌≤◌, Some, IsTrue}
use Rattle.hall_actions.specs.Passed.HallNames.{DequeId, quota_of, HallSeat, MeetsLaw, HallKey, PoolSlot, ThreadId, IsJoin, is_there, children_of, join_words_of}
use Rattle.hall_actions.specs.Passed.HallNames.{newest, next_of, Next}
use Rattle.hall_actions.specs.declared.at_next.AtNext.{AtNext}
use Rattle.hall_actions.specs.Passed.EventParts.{IsNext, MayAct}
use Rattle.hall_actions.specs.Lists.{words_back}
use Rattle.hall_actions.specs.Passed.Taken.{its_lane}
use Rattle.hall_actions.specs.Quotas.{MayUse}
use Rattle.hall_actions.specs.Ready.{IsReady, IsReadyWithPool, PoolIsReady}
use Rattle.hall_actions.specs.WithAll.{IsReadyForAll}
use Rattle.hall_actions.specs.WithList.{IsReadyForList}
use Rattle.hall_actions.specs.WithPool.{IsWithPool, words_asked_by}
use Rattle.hall_owner.specs.Asked.{IsAskedFor, IsWanted}
use Rattle.hall_owner.specs.Holding.{IsBefore}
use Rattle.hall_owner.specs.Taken.{slots_of}
use Rattle.hall_owner.specs.declared.taken.Taken.{Taken}
use Rattle.hall_owner.specs.declared.wanted.Wanted.{Wanted}
use Rattle.thread_actions.specs.Readiness.{IsReadiness}
use Rattle.thread_actions.specs.declared.readiness.Readiness.{Readiness}
use Rattle.hall_owner.specs.declared.taken.Taken.TheVariants.{OnLane, WithPool, WithList, WithAll}
use Rattle.thread_frames.specs.declared.next.Next.TheVariants as nexts

-- The seat holds its lane, whose top thread has come to this action, and meets the law.
pub record IsReadyTo (key : HallKey) (seat : HallSeat) (deque : DequeId) (at : AtNext) (next : Next) (ready : ℕ) : Type 0 where
  pub before : IsBefore key seat deque (its_lane deque) at next ready
  pub meets : MeetsLaw key seat

-- Such a seat may be there, whose period says this of the action; and for each such seat this is what it asks for.
abbrev pub MayWant : AtNext → Next → Readiness → Type 0
MayWant at next readiness = (key : HallKey) × (seat : HallSeat) × (deque : DequeId) × (ready : ℕ) × IsReadyTo key seat deque at next ready
    × IsReadiness at.running.period.used (quota_of key) at.top next readiness

abbrev pub Wants : AtNext → Next → Readiness → Wanted → Type 0
Wants at next readiness wanted = (key : HallKey) (seat : HallSeat) (deque : DequeId) (ready : ℕ) → IsReadyTo key seat deque at next ready
    → IsReadiness at.running.period.used (quota_of key) at.top next readiness → IsWanted key seat.hand.note.worker at next wanted

-- It took what the event needs for which the action asks.
pub record IsReadyFor (key : HallKey) (seat : HallSeat) (deque : DequeId) (at : AtNext) (next : Next) (ready : ℕ) (taken : Taken) : Type 0 where
  pub before : IsBefore key seat deque (slots_of deque taken) at next ready
  pub meets : MeetsLaw key seat
  pub asked : IsAskedFor key seat.hand.note.worker at next taken

-- The seat holds a count, and its lane alone, for the Join of a child whose result was handed over and releases no words.
pub record JoinsAlone (key : HallKey) (seat : HallSeat) (deque : DequeId) (at : AtNext) (ready : ℕ) (child : ThreadId) : Type 0 where
  pub may : MayAct seat deque
  pub is : IsReady key seat (its_lane deque) at.lane at.running at.top 1 ready
  pub next : IsJoin (next_of at.top)
  pub delivered : IsTrue (is_there (newest (children_of at.top)))
  pub words : join_words_of at.top ≡ 0
  pub listed : IsNext key at.top (nexts.Join child)

-- It holds a count and the pool, where the words of the action fit, and those that it gives back are in use.
pub record ActsWithPool (key : HallKey) (seat : HallSeat) (deque : DequeId) (at : AtNext) (ready : ℕ) (pool : PoolSlot) (next : Next) (charge : ℕ)
    : Type 0 where
  pub may : MayAct seat deque
  pub is : IsReadyWithPool key seat deque pool at.lane at.running at.top 2 ready
  pub pool_ready : PoolIsReady key pool
  pub next_is : next_of at.top ≡ Some next
  pub uses : MayUse key seat.hand.note.worker next charge at.top at.running.period
  pub fits : pool.pool.live + words_asked_by next ≤ pool.pool.capacity
  pub back : words_back at.top next ≤ pool.pool.live
  pub suits : IsWithPool next at.top at.lane.items

-- so, whatever it took
abbrev pub IsReadyOn : HallKey → HallSeat → DequeId → AtNext → (ready : ℕ) → Taken → Type 0
IsReadyOn key seat deque at ready (OnLane child) = JoinsAlone key seat deque at ready child
IsReadyOn key seat deque at ready (WithPool pool next charge) = ActsWithPool key seat deque at ready pool next charge
IsReadyOn key seat deque at ready (WithList list event) = IsReadyForList key seat deque list at ready event
IsReadyOn key seat deque at ready (WithAll list pool event) = IsReadyForAll key seat deque list pool at ready event
