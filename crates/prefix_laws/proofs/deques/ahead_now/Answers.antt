use Rattle.std.proofs.Common.{sym, subst}
use Rattle.scheduler_state.specs.declared.scheduler.Scheduler.{Scheduler}
use Rattle.scheduler_state.specs.Held.{held}
use Rattle.node_table.specs.Codes.{code_shown}
use Rattle.depth_first_list.specs.QuotaWords.{quota_words}
use Rattle.dfd_core.specs.Cores.{terms_at}
use Rattle.prefix_laws.specs.Listing.{AreBooked}
use Rattle.prefix_laws.specs.Prefixes.{StandsBeside}
use Rattle.prefix_laws.proofs.Cores.{beside_it}
use Rattle.prefix_laws.proofs.Sorting.{booked_at}
use Rattle.prefix_laws.proofs.deques.ahead_now.Goals as goal

pub ahead_of-requires : goal.ahead_of-requires
ahead_of-requires c = subst (λ (q : Scheduler). StandsBeside q.table c.args.serial.now) (sym c.scheduler.ensures)
    (beside_it (code_shown c.args.core.now.code) (quota_words c.args.core.now.k) (terms_at c.args.core.now) c.args.core.now.scheduler c.args.core.now.sound c.args.serial.now c.requires)

pub returns : goal.returns
returns c = λ s run m n at told prefix. c.ahead_of.ensures s m.books n
    (subst (λ (q : Scheduler). AreBooked s q.table m.books) (sym c.scheduler.ensures)
    (booked_at s (terms_at c.args.core.now) (held c.args.core.now.scheduler) run m at.stands)) told prefix
