-- What is fixed for a hall, as definitions speak of it.
use Rattle.std.specs.Prelude.{ℕ, ◌≤◌, ◌<◌}
use Rattle.depth_first_list.specs.Passed.Constants.{GREATEST_COUNT, MOST_WORKERS}
use Rattle.block_arena.specs.declared.size.TheConstants.{MOST_COUNTED}
use Rattle.depth_first_list.specs.Actions.{record_words}
use Rattle.deque_machine.specs.Terms.{Terms, given_terms}
use Rattle.depth_first_list.specs.QuotaWords.{quota_words}
use Rattle.node_table.specs.Codes.{code_shown}
use Rattle.node_table.specs.Table.{Table}
use Rattle.thread_frames.specs.Points.{IsOfProgram}
use Rattle.hall_slots.specs.declared.key.HallKey.{HallKey}

-- the table of its program, its quota, and its terms
abbrev pub table_of : HallKey → Table
table_of key = code_shown key.code.value

abbrev pub quota_of : HallKey → ℕ
quota_of key = quota_words key.quota

abbrev pub terms_of : HallKey → Terms
terms_of key = given_terms key.workers key.capacity key.actions key.deques

-- The table is that of some program; the quota covers a record block; there is a worker and are at most `MOST_WORKERS`; and no number is too
-- large for the words of the pool and for the count of actions.
pub record IsKey (key : HallKey) : Type 0 where
  pub of_program : IsOfProgram (table_of key) (quota_of key)
  pub quota : record_words ≤ quota_of key
  pub some_worker : 1 ≤ key.workers
  pub few_workers : key.workers ≤ MOST_WORKERS
  pub few_words : key.capacity ≤ MOST_COUNTED
  pub few_actions : key.actions < GREATEST_COUNT
