use Rattle.std.proofs.Common.{◌≡◌, ◌++◌, map, length}
use Rattle.std.specs.Fmt.{signed_decimal}
use Rattle.containers.specs.BoundedList.{entries}
use Rattle.run_report.specs.Shown.{AreWords}
use Rattle.run_report.specs.Texts.{text_of}
use Rattle.run_report.proofs.reading.read_values.Given as goal

abbrev pub invariant-values : goal.invariant-values
invariant-values l =
    (l.text ≡ text_of (map signed_decimal (entries l.lines)) ++ l.rest) × AreWords (entries l.lines)

abbrev pub decreases-values : goal.decreases-values
decreases-values l = length l.rest
