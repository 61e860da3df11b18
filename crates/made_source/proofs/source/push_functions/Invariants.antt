use Rattle.std.proofs.Common.{◌≡◌, ◌++◌, string_bytes}
use Rattle.std.specs.List.{flat_map, range_with_len}
use Rattle.made_source.specs.MadeSource.{text_of, function_lines}
use Rattle.made_source.proofs.source.push_functions.Given as goal

abbrev pub invariant-functions : goal.invariant-functions
invariant-functions l =
    string_bytes l.text ≡ string_bytes l.initial.text ++ text_of (flat_map (function_lines l.groups) (range_with_len 0 l.function))
