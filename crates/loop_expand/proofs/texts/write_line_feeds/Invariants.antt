use Rattle.std.proofs.Common.{◌≡◌, ◌++◌, drop}
use Rattle.std.specs.List.{filter}
use Rattle.loop_expand.specs.Texts.{is_line_feed}
use Rattle.loop_expand.proofs.texts.write_line_feeds.Given as goal

abbrev pub invariant-bytes : goal.invariant-bytes
invariant-bytes l = l.out.items ++ filter is_line_feed (drop l.byte-index l.bytes) ≡ l.initial.out.items ++ filter is_line_feed l.bytes
