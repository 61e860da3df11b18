use Rattle.std.proofs.lemmas.Fmt.{IsAscii-from_digits}
use Rattle.std.proofs.lemmas.Str.{IsUtf8-from_ascii}
use Rattle.command_line.proofs.value.number.Goals as goal

pub returns-in_default : goal.returns-in_default
returns-in_default c is = c.in_default.ensures.cases.0 (IsUtf8-from_ascii c.args.value.now (IsAscii-from_digits c.args.value.now is.0.0.1))
