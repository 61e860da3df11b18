-- What is asked for before an event, and what an action of a top thread needs.
use Rattle.std.specs.Prelude.{◌≡◌, ◌≤◌, ◌<◌, ◌+◌, ℕ, Some, None, List, pos, IsTrue, IsSome}
use Rattle.language_limits.specs.declared.TheConstants.{GREATEST_COUNT, GREATEST_QUOTA}
use Rattle.deque_list.specs.declared.deque_id.DequeId.{DequeId}
use Rattle.deque_list.specs.DequeLists.{lane_room}
use Rattle.depth_first_list.specs.Actions.{record_words}
use Rattle.space_ledger.specs.MovesList.{moves_list, moves_spare}
use Rattle.space_ledger.specs.Sums.{total_change}
use Rattle.open_periods.specs.Periods.{Period}
use Rattle.open_periods.specs.Tables.{HasRoom, period_at}
use Rattle.scheduler_state.specs.Passed.Points.{words_at_end}
use Rattle.thread_map.specs.Kept.{kept_under}
use Rattle.thread_frames.specs.Actions.{is_there}
use Rattle.thread_frames.specs.declared.next.Next.{Next}
use Rattle.thread_frames.specs.declared.next.Next.TheVariants.{Fork, Join, Alloc, Release, Dummy, Fault, End}
use Rattle.thread_frames.specs.declared.thread.Thread.{Thread}
use Rattle.thread_frames.specs.Points.{IsPlaced}
use Rattle.thread_frames.specs.Views.{next_of, done_of, held_by, label_of, children_of, newest, join_words_of}
use Rattle.list_changes.specs.Shown.{Stands}
use Rattle.thread_actions.specs.Results.{FirstAwaits}
use Rattle.scheduler_state.specs.declared.scheduler.Scheduler.{Scheduler}

-- the memory that an event of a worker may take: room for so many threads in its lane, for an action and a birth in its period and for
-- closing it, for a move, for a waiting thread and for a result, and a place for a child
pub record HasMemory (threads : ℕ) (s : Scheduler) (worker : ℕ) (id : DequeId) : Type 0 where
  pub lane : threads ≤ lane_room s.list id
  pub table : HasRoom s.table worker
  pub moves : 1 ≤ moves_spare s.moves
  pub waiting : 1 ≤ s.waiting.spare
  pub results : 1 ≤ s.results.spare
  pub place : IsSome s.place

-- A thread that was taken from the top of a worker's deque may do its next action: this is `next`, it is at its point, there is memory for
-- two threads more in the lane, and its count of actions is not at its end.
pub record CanAct (s : Scheduler) (worker : ℕ) (id : DequeId) (top : Thread) (next : Next) : Type 0 where
  pub placed : IsPlaced top
  pub is_next : next_of top ≡ Some next
  pub few : done_of top < GREATEST_COUNT
  pub stands : (items : List Thread) × Stands s.list worker id items
  pub memory : HasMemory 2 s worker id
  pub sum : total_change (moves_list s.moves) ≡ pos s.pool.live
  pub period : (p : Period) × (period_at s.table worker ≡ Some p)
  pub used : (p : Period) → period_at s.table worker ≡ Some p → p.used ≤ GREATEST_QUOTA

-- What the action asks for besides: its words fit the arena, or are out; an Alloc, which uses so many words of the quota, and a Fork leave
-- the period with what may be counted; the result of the child that is joined was delivered; and no result is kept of a thread that ends,
-- for which its parent waits, where it is directly below.
abbrev pub MayAct : (charge : ℕ) → Scheduler → ℕ → DequeId → Thread → Next → Type 0
MayAct charge s worker id top Fork =
    ((p : Period) → period_at s.table worker ≡ Some p → p.used + record_words ≤ GREATEST_QUOTA) × (s.pool.live + record_words ≤ s.pool.capacity)
MayAct charge s worker id top (Join child) = IsTrue (is_there (newest (children_of top))) × (join_words_of top ≤ s.pool.live)
MayAct charge s worker id top (Alloc words) =
    ((p : Period) → period_at s.table worker ≡ Some p → p.used + charge ≤ GREATEST_QUOTA) × (s.pool.live + words ≤ s.pool.capacity)
MayAct charge s worker id top (Release words) = words ≤ s.pool.live
MayAct charge s worker id top Dummy = Unit {0}
MayAct charge s worker id top (Fault fault) = held_by top ≤ s.pool.live
MayAct charge s worker id top End = (words_at_end (label_of top) ≤ s.pool.live) × (kept_under s.results (Thread.id top) ≡ None)
    × ((items : List Thread) → Stands s.list worker id items → FirstAwaits top items)

-- the words that an action takes
abbrev pub words_taken_by : Next → ℕ
words_taken_by Fork = record_words
words_taken_by (Join child) = 0
words_taken_by (Alloc words) = words
words_taken_by (Release words) = 0
words_taken_by Dummy = 0
words_taken_by (Fault fault) = 0
words_taken_by End = 0
