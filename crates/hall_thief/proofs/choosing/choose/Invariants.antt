-- The seat was told of the lanes that it tried, those of the turns so far.
use Rattle.std.proofs.Common.{◌≤◌, List}
use Rattle.hall_thief.specs.HallNames.{key_of, Slot, MeetsLaw}
use Rattle.turn_table.specs.declared.look.Look.{Look}
use Rattle.hall_thief.specs.Choosing.{IsToldMore, Tried}
use Rattle.hall_thief.proofs.choosing.choose.Given as goal

abbrev pub invariant-tries : goal.invariant-tries
invariant-tries l = (more : List (Look Slot)) × IsToldMore l.initial.seat more l.seat × Tried l.word l.reach l.turn l.list.part.order.places more × MeetsLaw (key_of l.row) l.seat × (l.turn ≤ l.reach)
