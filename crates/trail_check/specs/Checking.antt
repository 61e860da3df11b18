-- What the check of a trail answers.
use Rattle.std.specs.Prelude.{◌≡◌, ℕ, ◌<◌, ◌≤◌, length, Result, Ok, Err}
use Rattle.depth_first_run.specs.States as program
use Rattle.depth_first_run.specs.Run.{list_of}
use Rattle.deque_machine.specs.Machine.{Setting}
use Rattle.deque_machine.specs.Terms.{Terms, given_terms, machine_of}
use Rattle.serial_journal.specs.declared.serial_stop.SerialStop.{SerialStop}
use Rattle.serial_journal.specs.declared.serial_stop.SerialStop.TheVariants as stops
use Rattle.trail_check.specs.Verdicts.{TrailVerdict, accepted, bad_event, not_ended, wrong_numbers, IsVerdict}
use Rattle.trail_meaning.specs.Shown.{TrailShown}
use Rattle.trail_check.specs.declared.verify_fail.VerifyFail.{VerifyFail}
use Rattle.trail_check.specs.declared.verify_fail.VerifyFail.TheVariants.{LongRun, BadEvent, NotEnded, WrongNumbers, OutOfMemory}

-- the workers of a trail, and its limits of words, actions and deques
abbrev pub trail_terms : TrailShown → Terms
trail_terms t = given_terms t.p t.arena t.steps t.deques

-- the machine over the depth-first list of a program, with its quota and the workers of a trail
abbrev pub trail_machine : program.Setting → TrailShown → Setting
trail_machine c t = machine_of c (trail_terms t)

-- The depth-first list of the program has no more actions than the trail allows, and this is the verdict on the trail.
abbrev pub HasVerdict : program.Setting → TrailShown → TrailVerdict → Type 0
HasVerdict c t verdict = (length (list_of c) ≤ t.steps) × IsVerdict (trail_machine c t) (trail_terms t).limits t.events t.numbers verdict

-- what is answered where the depth-first run was stopped
abbrev pub fail_of : (steps : ℕ) → SerialStop → VerifyFail
fail_of steps stops.StepsSpent = LongRun steps
fail_of steps stops.OutOfMemory = OutOfMemory

-- The answer to a trail, checked against a program: a run that is longer than the trail allows is refused; any other trail is answered with
-- the verdict on it; and want of memory is free.
abbrev pub ChecksTrail : program.Setting → TrailShown → Result ℕ VerifyFail → Type 0
ChecksTrail c t (Ok actions) = HasVerdict c t (accepted actions)
ChecksTrail c t (Err (LongRun limit)) = (limit ≡ t.steps) × (t.steps < length (list_of c))
ChecksTrail c t (Err (BadEvent event)) = HasVerdict c t (bad_event event)
ChecksTrail c t (Err (NotEnded events)) = HasVerdict c t (not_ended events)
ChecksTrail c t (Err (WrongNumbers numbers)) = HasVerdict c t (wrong_numbers numbers)
ChecksTrail c t (Err OutOfMemory) = Unit {0}
