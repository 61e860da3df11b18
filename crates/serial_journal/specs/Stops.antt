-- Why a run is stopped.
use Rattle.serial_journal.specs.declared.serial_stop.SerialStop.{SerialStop}
use Rattle.serial_journal.specs.declared.serial_stop.SerialStop.TheVariants.{StepsSpent, OutOfMemory}

-- a fact where the limit of actions stopped a run; want of memory is free
abbrev pub OnStop : SerialStop → Type 0 → Type 0
OnStop StepsSpent P = P
OnStop OutOfMemory P = Unit {0}
