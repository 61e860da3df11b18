-- A run whose top thread has ended, and whose result has not yet gone to its parent.
use Rattle.std.specs.Prelude.{◌≡◌, ℕ, ◌+◌, ◌<◌, List, [], ◌∷◌, ◌++◌, vec_len, vec_capacity}
use Rattle.depth_first_list.specs.Actions.{Action, ends}
use Rattle.node_table.specs.Table.{Table}
use Rattle.thread_run.specs.Passed.Points.{words_at_end}
use Rattle.thread_frames.specs.declared.ended.Ended.{Ended}
use Rattle.thread_frames.specs.Points.{IsResult}
use Rattle.thread_frames.specs.Views.{label_of, done_of, ended_label, ended_words}
use Rattle.serial_journal.specs.Journals.{KeepsUp, births_of, action_named}
use Rattle.serial_meaning.specs.Stacks.{all_words, below}
use Rattle.serial_meaning.specs.declared.run.Run.{Run}

-- the End is done and written down, the other threads are as they were, and there is room for one more of those that have ended
pub record HasEnded (t : Table) (k : ℕ) (before after : Run) (ended : Ended) : Type 0 where
  pub result : IsResult t k ended
  pub id : ended.id ≡ before.top.id
  pub func : ended.func ≡ before.top.func
  pub labelled : ended_label ended ≡ label_of before.top
  pub parents : after.parents.items ≡ before.parents.items
  pub births : births_of after.journal ≡ births_of before.journal
  pub done : after.done ≡ before.done + 1
  pub room : vec_len after.used < vec_capacity after.used
  pub live : after.pool.live ≡ ended_words ended + all_words (below before)
  pub written : (limit : ℕ) (actions : List Action) → KeepsUp limit actions before.journal
      → KeepsUp limit (actions ++ action_named (label_of before.top) (done_of before.top) ends (words_at_end (label_of before.top)) ∷ []) after.journal
