use Rattle.std.proofs.Common.{◌≡◌, ◌++◌, ◌-◌, map, string_bytes}
use Rattle.std.specs.List.{range_with_len}
use Rattle.made_source.specs.MadeSource.{text_of, group_line}
use Rattle.made_source.proofs.function.push_groups.Given as goal

abbrev pub invariant-groups : goal.invariant-groups
invariant-groups l =
    string_bytes l.text ≡ string_bytes l.initial.text ++ text_of (map group_line (range_with_len l.first (l.group - l.first)))
