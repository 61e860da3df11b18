-- A period that changes twice has changed once.
use Rattle.std.specs.Prelude.{List}
use Rattle.open_periods.specs.Periods.{Period, Replaces}

abbrev pub ReplacedTwice : Type 0
ReplacedTwice = (first second third : List Period) (a b c : Period) → Replaces first a b second → Replaces second b c third → Replaces first a c third
