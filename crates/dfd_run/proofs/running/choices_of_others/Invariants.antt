-- There are choices for each worker before this one but the first.
use Rattle.std.proofs.Common.{◌≡◌, ◌+◌, length}
use Rattle.dfd_run.specs.Seeds.{AreSeeded}
use Rattle.dfd_run.proofs.running.choices_of_others.Given as goal

abbrev pub invariant-workers : goal.invariant-workers
invariant-workers l = (length l.others.items + 1 ≡ l.worker) × AreSeeded l.command.seed 1 l.others.items
