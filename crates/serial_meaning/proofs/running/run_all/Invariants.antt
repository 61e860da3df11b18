use Rattle.std.proofs.Common.{◌-◌}
use Rattle.depth_first_list.specs.QuotaWords.{quota_words}
use Rattle.node_table.specs.Codes.{code_shown}
use Rattle.serial_meaning.specs.Underway.{IsUnderWay}
use Rattle.serial_meaning.proofs.running.run_all.Given as goal

abbrev pub invariant-actions : goal.invariant-actions
invariant-actions l = IsUnderWay (code_shown l.code) (quota_words l.k) l.limit l.run

abbrev pub decreases-actions : goal.decreases-actions
decreases-actions l = l.limit - l.run.done
