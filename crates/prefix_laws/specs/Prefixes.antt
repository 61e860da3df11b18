-- What is asked of a depth-first run beside a core, and the books by the places of what they ran.
use Rattle.std.specs.Prelude.{◌≡◌, ◌≤ℤ◌, ℕ, cond, List, [], ◌∷◌, ◌++◌, map, pos}
use Rattle.containers.specs.declared.bounded_list.BoundedList.{BoundedList}
use Rattle.containers.specs.BoundedList.{entries}
use Rattle.depth_first_run.specs.States.{Setting, State}
use Rattle.depth_first_run.specs.Run.{whole, list_of}
use Rattle.depth_first_list.specs.QuotaWords.{quota_words}
use Rattle.deque_machine.specs.Books.{Book, IsPrefix, bound, done_in, goes_past, periods_ahead, words_in_use}
use Rattle.deque_machine.specs.Lists.{total}
use Rattle.node_table.specs.Codes.{code_shown}
use Rattle.node_table.specs.Table.{Table}
use Rattle.open_periods.specs.declared.table.PeriodTable.{PeriodTable}
use Rattle.serial_journal.specs.declared.serial.Serial.{Serial}
use Rattle.serial_journal.specs.Telling.{Tells}
use Rattle.scheduler_state.specs.Passed.Settings.{IsSettingOf}
use Rattle.dfd_core.specs.declared.run.Core.{Core}
use Rattle.async_core.specs.declared.run.AsyncCore.{AsyncCore}
use Rattle.prefix_laws.specs.Listing.{AreBooked}

-- it tells the depth-first run of a program
abbrev pub TellsDepthFirst : Setting → Serial → Type 0
TellsDepthFirst c serial = Tells (State.items (whole c)) serial

-- it tells that of the program of a table, with this quota
abbrev pub TellsTable : Table → ℕ → Serial → Type 0
TellsTable t k serial = ∥ ((c : Setting) × IsSettingOf t k c × TellsDepthFirst c serial) ∥₁

-- it tells that of the core's program, with the core's quota
abbrev pub IsSerialOf : Core → Serial → Type 0
IsSerialOf core serial = TellsTable (code_shown core.code) (quota_words core.k) serial

abbrev pub IsSerialOfList : AsyncCore → Serial → Type 0
IsSerialOfList core serial = TellsTable (code_shown core.code) (quota_words core.k) serial

-- it tells that of a program whose books the table has
abbrev pub StandsBeside : PeriodTable → Serial → Type 0
StandsBeside table serial = ∥ ((c : Setting) × (books : List Book) × AreBooked c table books × TellsDepthFirst c serial) ∥₁

-- The table has these books of a program with this quota, and so many words are in use with them, which are within the bound.
pub record IsWithin (c : Setting) (k words : ℕ) (table : PeriodTable) (books : List Book) : Type 0 where
  pub booked : AreBooked c table books
  pub quota : c.quota ≡ k
  pub live : pos words ≡ words_in_use (list_of c) books
  pub within : (n : ℕ) → IsPrefix (list_of c) (done_in books) n
      → words_in_use (list_of c) books ≤ℤ bound c.quota (list_of c) (periods_ahead n books)

-- so it is for a program whose run is told
abbrev pub IsWithinBeside : (k words : ℕ) → PeriodTable → Serial → Type 0
IsWithinBeside k words table serial = ∥ ((c : Setting) × (books : List Book) × IsWithin c k words table books × TellsDepthFirst c serial) ∥₁

-- what a period ran
abbrev pub ran_of : Book → List ℕ
ran_of book = book.ran

abbrev pub places_behind : List (BoundedList ℕ) → List (List ℕ)
places_behind books = map entries books

-- all that was run
abbrev pub all_ran : List (List ℕ) → List ℕ
all_ran [] = []
all_ran (ran ∷ later) = ran ++ all_ran later

-- how many of these periods go past the first n actions
abbrev pub one_if_past : ℕ → List ℕ → ℕ
one_if_past n ran = cond (goes_past n ran) 1 0

abbrev pub many_past : ℕ → List (List ℕ) → ℕ
many_past n books = total (one_if_past n) books
