-- At which moment, with the moves of which events, a scheduler stands.
use Rattle.std.specs.Prelude.{◌≡◌, ◌≤◌, ℕ, List, length, pos}
use Rattle.open_periods.specs.Passed.Actions.{live_words, record_words}
use Rattle.thread_points.specs.Passed.States.{Setting}
use Rattle.open_periods.specs.Passed.Books.{booked}
use Rattle.open_periods.specs.Passed.Moments.{Moment, live_at}
use Rattle.open_periods.specs.Passed.DequeMachineRuns.{Pair, moves}
use Rattle.space_ledger.specs.Sums.{total_change}
use Rattle.node_table.specs.Table.{Table}
use Rattle.thread_points.specs.Passed.Run.{list_of}
use Rattle.thread_state.specs.Settings.{IsSettingOf}
use Rattle.thread_frames.specs.Points.{IsOfProgram}
use Rattle.scheduler_state.specs.declared.scheduler.Scheduler.{Scheduler}
use Rattle.scheduler_state.specs.Held.{Held, parts_in, IsInOrder, AreAtPoints, AreResults}
use Rattle.moment_laws.specs.Standing.{Showing, StandsAt}
use Rattle.open_periods.specs.Passed.Terms.{Terms, machine_of}

-- those of a scheduler, with so many actions at most
abbrev pub terms_of : Scheduler → (actions : ℕ) → Terms
terms_of s actions = record {
  workers = length s.table.seats.items;
  limits = record { capacity = s.pool.capacity; actions = actions; deques = s.list.most };
}

-- they stay
abbrev pub SameTerms : Scheduler → Scheduler → Type 0
SameTerms before after = (actions : ℕ) → terms_of after actions ≡ terms_of before actions

-- what a scheduler shows of itself
abbrev pub shown : Held → Showing
shown h = record { parts = parts_in h; live = h.live; begun = h.table.begun; moves = h.moves }

-- What is held is at this moment with the moves of these events, which sum up to the words in use, and as many actions are done. Whether the
-- events are a run of a machine to this moment is not asked.
pub record HasRun (c : Setting) (terms : Terms) (h : Held) (run : List Pair) (m : Moment) : Type 0 where
  pub sum : live_words (moves (list_of c) run) ≡ live_at (list_of c) m
  pub standing : StandsAt (machine_of c terms) (shown h) (moves (list_of c) run) m
  pub done : h.done ≡ length (booked m.books)

-- whichever program it is that the table is of, it is so at some moment with some events
abbrev pub StandsSomewhere : Table → ℕ → Terms → Held → Type 0
StandsSomewhere t k terms h = (c : Setting) → IsSettingOf t k c → ∥ ((run : List Pair) × (m : Moment) × HasRun c terms h run m) ∥₁

-- What is held is sound: it is at a moment of a program of this table, with a quota that covers a record block.
pub record IsSound (t : Table) (k : ℕ) (terms : Terms) (h : Held) : Type 0 where
  pub of_program : IsOfProgram t k
  pub quota : record_words ≤ k
  pub in_order : ∥ IsInOrder h ∥₁
  pub sum : total_change h.moves ≡ pos h.live
  pub results : ∥ AreResults t k h ∥₁
  pub somewhere : StandsSomewhere t k terms h

-- each thread is at its point, so that it can go on
abbrev pub CanGoOn : Table → ℕ → Held → Type 0
CanGoOn t k h = ∥ AreAtPoints t k h ∥₁
