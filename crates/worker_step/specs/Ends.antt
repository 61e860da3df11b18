-- How the End of a top thread leaves its place.
use Rattle.std.specs.Prelude.{◌≡◌, ℕ, ◌∷◌}
use Rattle.deque_list.specs.declared.deque_id.DequeId.{DequeId}
use Rattle.scheduler_state.specs.Passed.Points.{words_at_end}
use Rattle.block_arena.specs.Region.{with_given}
use Rattle.thread_frames.specs.declared.ended.Ended.{Ended}
use Rattle.thread_frames.specs.declared.thread.Thread.{Thread}
use Rattle.thread_frames.specs.declared.next.Next.TheVariants as nexts
use Rattle.thread_frames.specs.Views.{label_of}
use Rattle.thread_actions.specs.Acts.{Always}
use Rattle.scheduler_state.specs.declared.scheduler.Scheduler.{Scheduler}
use Rattle.scheduler_state.specs.Held.{held}
use Rattle.worker_step.specs.Keeping.{KeepsRoom}
use Rattle.worker_step.specs.Acts.{Acted}

-- a top thread ended with this result: once it is kept, the thread has done its End
pub record LeavesBy (worker : ℕ) (id : DequeId) (top : Thread) (before after : Scheduler) (ended : Ended) : Type 0 where
  pub acted : Acted nexts.End Always worker id top before (record (held after) { results = (Thread.id top, ended) ∷ after.results.entries })
  pub same_results : after.results ≡ before.results
  pub same_moves : after.moves ≡ before.moves
  pub same_done : after.done ≡ before.done
  pub pool : after.pool ≡ with_given before.pool (words_at_end (label_of top))
  pub keeps : KeepsRoom before after

-- a top thread has done its End, with the words of its record; it is not counted or noted yet
pub record EndsBy (worker : ℕ) (id : DequeId) (top : Thread) (before after : Scheduler) : Type 0 where
  pub acted : Acted nexts.End Always worker id top before (held after)
  pub same_moves : after.moves ≡ before.moves
  pub same_done : after.done ≡ before.done
  pub pool : after.pool ≡ with_given before.pool (words_at_end (label_of top))
  pub keeps : KeepsRoom before after
