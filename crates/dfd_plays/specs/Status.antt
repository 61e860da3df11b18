-- The numbers of the ways in which a call of the program ends.
use Rattle.std.specs.Prelude.{ℕ}
use Rattle.dfd_plays.specs.declared.status.Status.{Status}
use Rattle.dfd_plays.specs.declared.status.Status.TheVariants.{Done, Usage, ReadFault, WriteFault, Syntax, Check, UserFault, StepsSpent, ArenaFull, DequesFull, OutOfMemory, TrailRefused}

abbrev pub code_of : Status → ℕ
code_of Done = 0
code_of Usage = 1
code_of ReadFault = 2
code_of WriteFault = 3
code_of Syntax = 4
code_of Check = 5
code_of UserFault = 6
code_of StepsSpent = 7
code_of ArenaFull = 8
code_of DequesFull = 9
code_of OutOfMemory = 10
code_of TrailRefused = 11
