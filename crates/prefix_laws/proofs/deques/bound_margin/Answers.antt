use Rattle.std.proofs.Common.{sym, subst}
use Rattle.scheduler_state.specs.declared.scheduler.Scheduler.{Scheduler}
use Rattle.node_table.specs.Codes.{code_shown}
use Rattle.depth_first_list.specs.QuotaWords.{quota_words}
use Rattle.dfd_core.specs.Cores.{terms_at}
use Rattle.prefix_laws.specs.Prefixes.{IsWithin, IsWithinBeside}
use Rattle.prefix_laws.proofs.Cores.{within_at, within_it}
use Rattle.prefix_laws.proofs.deques.bound_margin.Goals as goal

pub margin_of-requires : goal.margin_of-requires
margin_of-requires c =
    subst (λ q. IsWithinBeside (quota_words q) c.live.result c.scheduler.result.now.table c.args.serial.now) (sym c.quota.ensures)
    (subst (λ live. IsWithinBeside (quota_words c.args.core.now.k) live c.scheduler.result.now.table c.args.serial.now) (sym c.live.ensures.value)
    (subst (λ (q : Scheduler). IsWithinBeside (quota_words c.args.core.now.k) c.args.core.now.scheduler.pool.live q.table c.args.serial.now) (sym c.scheduler.ensures)
    (within_it (code_shown c.args.core.now.code) (quota_words c.args.core.now.k) (terms_at c.args.core.now) c.args.core.now.scheduler c.args.core.now.sound c.args.serial.now c.requires)))

pub returns : goal.returns
returns c = λ s run m n at told prefix. c.margin_of.ensures s m.books n
    (subst (λ q. IsWithin s (quota_words q) c.live.result c.scheduler.result.now.table m.books) (sym c.quota.ensures)
    (subst (λ live. IsWithin s (quota_words c.args.core.now.k) live c.scheduler.result.now.table m.books) (sym c.live.ensures.value)
    (subst (λ (q : Scheduler). IsWithin s (quota_words c.args.core.now.k) c.args.core.now.scheduler.pool.live q.table m.books) (sym c.scheduler.ensures)
    (within_at (code_shown c.args.core.now.code) (quota_words c.args.core.now.k) (terms_at c.args.core.now) c.args.core.now.scheduler c.args.core.now.sound s at.setting run m at.stands)))) told prefix
