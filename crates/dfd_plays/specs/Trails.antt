-- What the commands `trail` and `verify` make.
use Rattle.std.specs.Prelude.{◌≡◌, ◌⊎◌, ℕ, List, length, pos, Result, Ok, Err}
use Rattle.command_line.specs.declared.command.Command.{Command}
use Rattle.depth_first_run.specs.States.{Setting}
use Rattle.depth_first_run.specs.Run.{list_of}
use Rattle.deque_machine.specs.Moments.{Moment}
use Rattle.deque_machine.specs.Runs.{Pair, high_water_mark}
use Rattle.trail_check.specs.Told.{events_in_trail}
use Rattle.deque_machine.specs.Books.{periods_marked}
use Rattle.par_tree.specs.Tree.{Program}
use Rattle.serial_meaning.specs.Settings.{setting_of}
use Rattle.trail_meaning.specs.Shown.{TrailShown}
use Rattle.trail_text.specs.Reading.{IsRefused}
use Rattle.trail_text.specs.TrailText.{IsTrail, trail_text}
use Rattle.trail_check.specs.Checking.{ChecksTrail}
use Rattle.trail_check.specs.declared.verify_fail.VerifyFail.{VerifyFail}
use Rattle.trail_check.specs.declared.verify_fail.VerifyFail.TheVariants.{LongRun, BadEvent, NotEnded, WrongNumbers, OutOfMemory}
use Rattle.dfd_plays.specs.Play.{TellsPlay}
use Rattle.dfd_plays.specs.Sources.{SourceGives}
use Rattle.dfd_plays.specs.TrailMessages.{not_trail_text, long_run_text, bad_event_text, not_ended_text, wrong_numbers_text, trail_ok_text}
use Rattle.dfd_plays.specs.declared.status.Status.{Status}
use Rattle.dfd_plays.specs.declared.status.Status.TheVariants.{Done, TrailRefused}

-- The trail of a run with this last moment, of the program in these bytes: the numbers of the command, the bytes, the events of the run, how
-- many periods were begun and how many of them were marked ahead, and the high-water mark.
abbrev pub trail_of : Command → (bytes : List ℕ) → List Pair → Moment → (high : ℕ) → TrailShown
trail_of command bytes run last high = record {
  k = command.k;
  p = command.p;
  arena = command.arena;
  steps = command.steps;
  deques = command.deques;
  source = bytes;
  events = events_in_trail run;
  numbers = record { periods = length last.books; ahead = periods_marked last.books; high = high };
}

abbrev pub Records : Command → (bytes : List ℕ) → Setting → List Pair → Moment → List ℕ → Type 0
Records command bytes c run last text =
    (high : ℕ) × ((pos high ≡ high_water_mark (list_of c) run) × (text ≡ trail_text (trail_of command bytes run last high)))

-- what `trail` makes of the program of these bytes: the trail of its play
abbrev pub TrailMakes : Command → (bytes : List ℕ) → Program → Status → List ℕ → Type 0
TrailMakes command bytes = TellsPlay (Records command bytes) command

-- what is told of the answer to a trail: that it is accepted, or why it is refused; want of memory is no answer
abbrev pub TellsCheck : TrailShown → Result ℕ VerifyFail → Status → List ℕ → Type 0
TellsCheck t (Ok actions) status text = (status ≡ Done) × (text ≡ trail_ok_text t.numbers actions)
TellsCheck t (Err (LongRun limit)) status text = (status ≡ TrailRefused) × (text ≡ long_run_text limit)
TellsCheck t (Err (BadEvent event)) status text = (status ≡ TrailRefused) × (text ≡ bad_event_text event)
TellsCheck t (Err (NotEnded events)) status text = (status ≡ TrailRefused) × (text ≡ not_ended_text events)
TellsCheck t (Err (WrongNumbers numbers)) status text = (status ≡ TrailRefused) × (text ≡ wrong_numbers_text numbers)
TellsCheck t (Err OutOfMemory) status text = ⊥

-- what `verify` makes of a trail and the program of its source
abbrev pub VerifyMakes : TrailShown → Program → Status → List ℕ → Type 0
VerifyMakes t p status text = (answer : Result ℕ VerifyFail) × (ChecksTrail (setting_of p t.k) t answer × TellsCheck t answer status text)

-- the bytes are no trail, and the line says where
abbrev pub NoTrailGives : List ℕ → Status → List ℕ → Type 0
NoTrailGives bytes status text = (at : ℕ) × (IsRefused bytes at × ((status ≡ TrailRefused) × (text ≡ not_trail_text at)))

-- the bytes are a trail, and this is what `verify` makes of it, or the refusal of its source
abbrev pub OfTrail : List ℕ → Status → List ℕ → Type 0
OfTrail bytes status text = (t : TrailShown) × (IsTrail bytes t × SourceGives (VerifyMakes t) t.source status text)

-- what `verify` makes of bytes
abbrev pub VerifyGives : List ℕ → Status → List ℕ → Type 0
VerifyGives bytes status text = NoTrailGives bytes status text ⊎ OfTrail bytes status text
