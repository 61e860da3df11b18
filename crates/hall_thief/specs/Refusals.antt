-- A refusal of the choice, as one of the steal.
use Rattle.hall_thief.specs.declared.prey.SeekRefused.{SeekRefused}
use Rattle.hall_thief.specs.declared.prey.SeekRefused.TheVariants as sought
use Rattle.hall_thief.specs.declared.refused.StealRefused.{StealRefused}
use Rattle.hall_thief.specs.declared.refused.StealRefused.TheVariants.{Busy, Nothing, Over}

abbrev pub refusal_of : SeekRefused → StealRefused
refusal_of (sought.Busy held) = Busy held
refusal_of sought.Nothing = Nothing
refusal_of (sought.Over end) = Over end
