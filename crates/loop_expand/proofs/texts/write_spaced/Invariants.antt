use Rattle.std.proofs.Common.{◌≡◌, ◌++◌, drop}
use Rattle.std.specs.List.{flat_map}
use Rattle.loop_expand.specs.Texts.{spaced}
use Rattle.loop_expand.proofs.texts.write_spaced.Given as goal

abbrev pub invariant-tokens : goal.invariant-tokens
invariant-tokens l = l.out.items ++ flat_map (spaced l.text) (drop l.token-index l.tokens) ≡ l.initial.out.items ++ flat_map (spaced l.text) l.tokens
