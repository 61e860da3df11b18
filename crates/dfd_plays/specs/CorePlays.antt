-- What a core has played for a command.
use Rattle.std.specs.Prelude.{ℕ, List, []}
use Rattle.depth_first_run.specs.States.{Setting}
use Rattle.deque_machine.specs.Moments.{opening}
use Rattle.deque_machine.specs.Terms.{Terms}
use Rattle.trail_record.specs.Passed.Plays.{PlaysTo}
use Rattle.trail_record.specs.Passed.Core.{Core}
use Rattle.play_rules.specs.declared.ends.RunEnd.{RunEnd}
use Rattle.trail_meaning.specs.declared.trail_event.TrailEvent.{TrailEvent}
use Rattle.trail_record.specs.Recorded.{PlaysRecorded}

-- the play from the opening on, with these words, whatever words come after it
abbrev pub Played : Setting → Terms → (words : ℕ → ℕ) → (after : Core) → RunEnd → Type 0
Played c terms words after end = (coming : ℕ → ℕ) × PlaysTo c terms words coming after [] opening end

-- so, with these events
abbrev pub PlayedAs : Setting → Terms → (words : ℕ → ℕ) → (after : Core) → RunEnd → List TrailEvent → Type 0
PlayedAs c terms words after end events = (coming : ℕ → ℕ) × PlaysRecorded c terms words coming after [] opening end events
