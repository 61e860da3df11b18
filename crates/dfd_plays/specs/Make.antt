-- What the command `make` makes: a summary of the play of a made source.
use Rattle.std.specs.Prelude.{◌≡◌, ℕ, ℤ, List, [], ◌∷◌, length, pos}
use Rattle.std.specs.Int.{w64, int_wrapping_add}
use Rattle.command_line.specs.declared.command.Command.{Command}
use Rattle.depth_first_run.specs.States.{Setting}
use Rattle.depth_first_run.specs.Run.{whole, lines_of, list_of}
use Rattle.deque_machine.specs.Moments.{Moment}
use Rattle.deque_machine.specs.Runs.{Pair, high_water_mark}
use Rattle.deque_machine.specs.Books.{booked, periods_marked}
use Rattle.made_source.specs.MadeSource.{made_source}
use Rattle.par_tree.specs.Tree.{Program}
use Rattle.run_report.specs.Texts.{summary_text}
use Rattle.dfd_plays.specs.Play.{TellsPlay}
use Rattle.dfd_plays.specs.declared.status.Status.{Status}

-- numbers sum_with up, one after the other, to a sum that wraps at 64 bits, as `+` does in the language
abbrev pub sum_with : (sum : ℤ) → List ℤ → ℤ
sum_with sum [] = sum
sum_with sum (n ∷ later) = sum_with (int_wrapping_add w64 sum n) later

abbrev pub sum_of : List ℤ → ℤ
sum_of numbers = sum_with (pos 0) numbers

-- The summary of a run with this last moment, of a program in so many bytes: how many numbers the depth-first run prints and their sum, which
-- wraps at 64 bits, how many actions were done, how many periods were begun and how many of them were marked ahead, and the high-water
-- mark of the run.
abbrev pub Summarizes : (bytes : ℕ) → Setting → List Pair → Moment → List ℕ → Type 0
Summarizes bytes c run last text =
    (high : ℕ) × ((pos high ≡ high_water_mark (list_of c) run) ×
    (text ≡ summary_text (record {
      bytes = bytes;
      lines = length (lines_of (whole c).items);
      total = sum_of (lines_of (whole c).items);
      actions = length (booked last.books);
      periods = length last.books;
      ahead = periods_marked last.books;
      high = high;
    })))

-- the source that `make` plays, of the number of groups of its command
abbrev pub source_of : Command → List ℕ
source_of command = made_source command.groups

-- what `make` makes of the program of these bytes: a summary of its play
abbrev pub MakeMakes : Command → (bytes : List ℕ) → Program → Status → List ℕ → Type 0
MakeMakes command bytes = TellsPlay (Summarizes (length bytes)) command
