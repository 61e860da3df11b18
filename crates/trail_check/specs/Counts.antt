-- What a checker has counted of a run.
use Rattle.std.specs.Prelude.{◌≡◌, ◌↔◌, ℕ, ◌<◌, true, false, List, length, get_or}
use Rattle.deque_machine.specs.Books.{booked}
use Rattle.deque_machine.specs.Moments.{Moment, done_at, live_at}
use Rattle.deque_machine.specs.Machine.{Setting}
use Rattle.deque_machine.specs.Runs.{Pair}
use Rattle.trail_check.specs.Verdicts.{AreNumbers}
use Rattle.trail_check.specs.declared.tally.Tally.{Tally}

-- The tally is that of a run up to a moment: what is done, how many actions are, the words in use, and the numbers.
pub record TallyIs (s : Setting) (run : List Pair) (m : Moment) (tally : Tally) : Type 0 where
  pub done_size : length tally.done.items ≡ length s.list
  pub done_is : (place : ℕ) → place < length s.list → (get_or tally.done.items place false ≡ true) ↔ (0 < done_at m place)
  pub actions : tally.actions ≡ length (booked m.books)
  pub live : tally.live ≡ live_at s.list m
  pub numbers : AreNumbers s run m tally.numbers
