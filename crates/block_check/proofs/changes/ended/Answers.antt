use Rattle.std.proofs.Common.{◌∙◌, ap, sym, drop}
use Rattle.par_ownership.specs.Walk.{end_refusal}
use Rattle.block_check.specs.Shown.{entries_shown}
use Rattle.block_check.proofs.Entries.{ended_shown}
use Rattle.block_check.proofs.changes.ended.Goals as goal

pub returns : goal.returns
returns c =
    let released = ap (λ es. end_refusal (drop c.args.visible (entries_shown es))) (sym c.deref.ensures.value) ∙ c.in_ok-all_released.ensures in
    ended_shown c.args.visible c.args.env.items c.truncate.new.self.items released c.truncate.ensures.items
