use Rattle.std.proofs.Common.{sym, subst}
use Rattle.scheduler_state.specs.declared.scheduler.Scheduler.{Scheduler}
use Rattle.scheduler_state.specs.Held.{held}
use Rattle.scheduler_state.specs.Moments.{HasRun}
use Rattle.node_table.specs.Codes.{code_shown}
use Rattle.depth_first_list.specs.QuotaWords.{quota_words}
use Rattle.async_core.specs.Cores.{terms_at}
use Rattle.prefix_laws.specs.DequeLabels.{HasSomeRun}
use Rattle.prefix_laws.proofs.Cores.{some_run}
use Rattle.prefix_laws.proofs.ready.entries.Goals as goal

pub labels_of-requires : goal.labels_of-requires
labels_of-requires c = subst HasSomeRun (sym c.scheduler.ensures)
    (some_run (code_shown c.args.core.now.code) (quota_words c.args.core.now.k) (terms_at c.args.core.now) c.args.core.now.scheduler c.args.core.now.sound)

pub returns-clause-moment : goal.returns-clause-moment
returns-clause-moment c = λ s run m at. c.labels_of.ensures.moment s (terms_at c.args.core.now) run m
    (subst (λ (q : Scheduler). HasRun s (terms_at c.args.core.now) (held q) run m) (sym c.scheduler.ensures) at.stands)
