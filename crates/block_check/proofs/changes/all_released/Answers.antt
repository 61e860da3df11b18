use Rattle.std.proofs.Common.{sym, ap}
use Rattle.std.proofs.lemmas.List.{drop-map}
use Rattle.par_ownership.specs.Walk.{end_refusal}
use Rattle.block_check.specs.Shown.{entry_shown}
use Rattle.block_check.proofs.changes.all_released.Goals as goal

pub loop-i-init : goal.loop-i-init
loop-i-init c = ap end_refusal (sym (drop-map entry_shown c.args.visible c.args.env.now))
