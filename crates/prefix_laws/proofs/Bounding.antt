-- That the words in use are within the bound, and how far below it they are.
use Rattle.std.proofs.Common.{List, ◌≡◌, ℕ, ◌+◌, ◌-◌, ◌*◌, ◌≤◌, sym, ap, ◌∙◌, arith, pos, ℤ, ◌≤ℤ◌}
use Rattle.std.specs.Prelude.{◌+ℤ◌}
use Rattle.std.proofs.Math.Logic.{∥∥₁_elim, ∥∥₁_map}
use Rattle.std.proofs.lemmas.Int.{ints}
use denote.Struct.Props.{props}
use Rattle.depth_first_list.specs.Actions.{peak}
use Rattle.depth_first_run.specs.States.{Setting}
use Rattle.deque_machine.specs.Books.{Book, IsPrefix, bound, done_in, periods_ahead, words_in_use}
use Rattle.deque_machine.proofs.Keeping.{one_prefix}
use Rattle.open_periods.specs.declared.table.PeriodTable.{PeriodTable}
use Rattle.serial_journal.specs.declared.serial.Serial.{Serial}
use Rattle.depth_first_run.specs.Run.{list_of}
use Rattle.prefix_laws.specs.Listing.{AreBooked}
use Rattle.prefix_laws.specs.Prefixes.{IsWithin, IsWithinBeside, StandsBeside, TellsDepthFirst}

below_it : (live high two most : ℕ) (l p : ℤ) → pos live ≡ l → pos high ≡ p → most ≡ high + two → l ≤ℤ (p +ℤ pos two) → live ≤ most
below_it live high two most l p live_is high_is sum below = omega (arith, ints, live_is, high_is, sum, below)

rest_of_it : (live high two most : ℕ) (l p : ℤ) → pos live ≡ l → pos high ≡ p → most ≡ high + two → live ≤ most → pos (most - live) +ℤ l ≡ p +ℤ pos two
rest_of_it live high two most l p live_is high_is sum below = omega (arith, ints, live_is, high_is, sum, below)

module _ (k live : ℕ) (table : PeriodTable) (serial : Serial) where
  -- the books are beside the run
  pub beside_of : IsWithinBeside k live table serial → StandsBeside table serial
  beside_of beside = ∥∥₁_map beside (λ w. (w.0, w.1, w.2.booked, w.3))

  module _ (ahead two most : ℕ)
      (ahead_is : (c : Setting) (books : List Book) (n : ℕ) → AreBooked c table books → TellsDepthFirst c serial → IsPrefix (list_of c) (done_in books) n
      → ahead ≡ periods_ahead n books)
      (two_is : two ≡ 2 * k * ahead) (sum : most ≡ serial.peak + two) where
    module _ (c : Setting) (books : List Book) (n : ℕ) (w : IsWithin c k live table books) (tells : TellsDepthFirst c serial)
        (prefix : IsPrefix (list_of c) (done_in books) n) where
      two_there : two ≡ 2 * c.quota * periods_ahead n books
      two_there = two_is ∙ ap (λ q. 2 * q * ahead) (sym w.quota) ∙ ap (λ a. 2 * c.quota * a) (ahead_is c books n w.booked tells prefix)

      most_is : most ≡ serial.peak + 2 * c.quota * periods_ahead n books
      most_is = sum ∙ ap (λ t. serial.peak + t) two_there

      below_at : live ≤ most
      below_at = below_it live serial.peak (2 * c.quota * periods_ahead n books) most (words_in_use (list_of c) books) (peak (list_of c)) w.live
          tells.peak_is most_is (w.within n prefix)

      -- what is left is what the bound is above the words in use
      pub margin_at : pos (most - live) +ℤ words_in_use (list_of c) books ≡ bound c.quota (list_of c) (periods_ahead n books)
      margin_at = rest_of_it live serial.peak (2 * c.quota * periods_ahead n books) most (words_in_use (list_of c) books) (peak (list_of c)) w.live
          tells.peak_is most_is below_at

    -- the words in use are within it
    pub live_within : IsWithinBeside k live table serial → live ≤ most
    live_within beside = ∥∥₁_elim beside (search props) (λ w.
        let prefix = one_prefix (list_of w.0) w.1 in below_at w.0 w.1 prefix.0 w.2 w.3 prefix.1)
