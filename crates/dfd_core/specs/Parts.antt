-- What is left of a core that is taken apart.
use Rattle.std.specs.Prelude.{◌≡◌, ℕ, Option, None, List, [], map}
use Rattle.dag_order.specs.Births.{root}
use Rattle.scheduler_state.specs.Passed.Moves.{AreMovesOf}
use Rattle.open_periods.specs.Passed.Moments.{Moment, opening}
use Rattle.open_periods.specs.Passed.DequeMachineRuns.{Pair, moves}
use Rattle.depth_first_run.specs.States.{Setting}
use Rattle.depth_first_run.specs.Run.{list_of}
use Rattle.depth_first_list.specs.QuotaWords.{quota_words}
use Rattle.node_table.specs.Codes.{code_shown}
use Rattle.node_table.specs.Table.{Table}
use Rattle.open_periods.specs.Periods.{closed_shown}
use Rattle.open_periods.specs.Telling.{Tell}
use Rattle.open_periods.specs.Tables.{seat_at}
use Rattle.space_ledger.specs.BooksList.{books_list}
use Rattle.space_ledger.specs.MovesList.{moves_list}
use Rattle.space_ledger.specs.declared.books.Books.{Books}
use Rattle.space_ledger.specs.declared.moves.Moves.{Moves}
use Rattle.scheduler_state.specs.Passed.Kept.{kept_under}
use Rattle.scheduler_state.specs.Passed.Settings.{IsSettingOf}
use Rattle.thread_frames.specs.declared.ended.Ended.{Ended}
use Rattle.thread_frames.specs.Points.{IsResult}
use Rattle.thread_frames.specs.Views.{ended_label}
use Rattle.dfd_core.specs.declared.run.Core.{Core}
use Rattle.play_rules.specs.declared.ends.RunEnd.{RunEnd}
use Rattle.play_rules.specs.declared.ends.RunEnd.TheVariants.{Finished, Stopped}
use Rattle.dfd_core.specs.Cores.{IsAt, end_of}

-- no worker owns a deque
abbrev pub AreAllIdle : Core → Type 0
AreAllIdle core = (worker : ℕ) → seat_at core.scheduler.table worker ≡ None

-- the result of the root, where a run came to its end; a stopped run has none
abbrev pub root_behind : RunEnd → Option Ended → Option Ended
root_behind (Finished finish) kept = kept
root_behind (Stopped stop) kept = None

abbrev pub root_result : Core → RunEnd → Option Ended
root_result core end = root_behind end (kept_under core.scheduler.results root)

-- a result of the root of the whole run of a program
abbrev pub IsOfWholeRun : Table → ℕ → Ended → Type 0
IsOfWholeRun t k ended = ∥ IsResult t k ended ∥₁ × (ended_label ended ≡ [])

-- These periods and moves are those of a run with this last moment: the periods, all of them closed, are its books, and the moves, by the
-- births in these periods, are its moves.
pub record AreOfRun (c : Setting) (run : List Pair) (m : Moment) (books : Books) (moved : Moves) : Type 0 where
  pub books_are : Tell c.quota (list_of c) (map closed_shown (books_list books)) m.books
  pub moves_are : AreMovesOf (map closed_shown (books_list books)) (moves_list moved) (moves (list_of c) run)

-- whatever its program, the core has done no step, and its run has not ended
abbrev pub IsFresh : Core → Type 0
IsFresh core = (end_of core ≡ None)
    × ((c : Setting) → IsSettingOf (code_shown core.code) (quota_words core.k) c → IsAt c core [] opening)
