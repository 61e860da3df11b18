-- What a run gives.
use Rattle.std.specs.Prelude.{◌<◌, ◌≤◌, ℕ, List, length, Result, MatchResult}
use Rattle.depth_first_run.specs.States.{Item}
use Rattle.depth_first_run.specs.Run.{actions_of}
use Rattle.serial_journal.specs.Stops.{OnStop}
use Rattle.serial_journal.specs.Telling.{Tells}
use Rattle.serial_journal.specs.declared.serial.Serial.{Serial}
use Rattle.serial_journal.specs.declared.serial_stop.SerialStop.{SerialStop}

-- the result for a run that left these items: it tells them, where their actions are within the limit; the limit stops
-- it where they are more
abbrev pub TellsOrStops : ℕ → List Item → Result Serial SerialStop → Type 0
TellsOrStops limit items result =
    MatchResult result (λ serial. Tells items serial
    × (length (actions_of items) ≤ limit)) (λ stop. OnStop stop (limit < length (actions_of items)))
