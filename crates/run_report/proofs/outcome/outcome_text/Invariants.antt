use Rattle.std.proofs.Common.{◌≡◌, take, map}
use Rattle.std.specs.Fmt.{signed_decimal}
use Rattle.std.specs.String.{string_bytes}
use Rattle.run_report.specs.Texts.{text_of}
use Rattle.run_report.proofs.outcome.outcome_text.Given as goal

abbrev pub invariant-loop-number : goal.invariant-loop-number
invariant-loop-number l = string_bytes l.text ≡ text_of (map signed_decimal (take l.number-index l.number-items))
