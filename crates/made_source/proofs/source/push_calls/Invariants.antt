use Rattle.std.proofs.Common.{◌≡◌, ◌++◌, map, string_bytes}
use Rattle.std.specs.List.{range_with_len}
use Rattle.made_source.specs.MadeSource.{text_of, call_line}
use Rattle.made_source.proofs.source.push_calls.Given as goal

abbrev pub invariant-calls : goal.invariant-calls
invariant-calls l = string_bytes l.text ≡ string_bytes l.initial.text ++ text_of (map call_line (range_with_len 0 l.function))
