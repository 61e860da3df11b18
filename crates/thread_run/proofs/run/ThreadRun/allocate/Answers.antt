use Rattle.std.proofs.Common.{refl, sym, subst}
use Rattle.depth_first_list.specs.QuotaWords.{quota_words}
use Rattle.node_table.specs.Codes.{code_shown}
use Rattle.thread_points.specs.Points.{IsPlain}
use Rattle.thread_stack.specs.declared.frame.Frame.TheVariants.{Allocates}
use Rattle.thread_run.proofs.Following.{acts_meaning, stays_meaning}
use Rattle.thread_run.proofs.Kept.{acts_functions}
use Rattle.thread_run.proofs.Knowing.{alloc_none}
use Rattle.thread_run.proofs.run.ThreadRun.allocate.Goals as goal

pub allocates-requires : goal.allocates-requires
allocates-requires c = alloc_none (code_shown c.args.code.now) (quota_words c.args.k) c.args.self.now c.args.slot c.args.len c.requires

pub returns-in-Ok-clause-meaning : goal.returns-in-Ok-clause-meaning
returns-in-Ok-clause-meaning c =
    acts_meaning (code_shown c.args.code.now) (quota_words c.args.k) c.args.self.now (Allocates c.args.slot c.args.len) c.in-Ok.ready (λ p gs f frame. subst IsPlain (sym frame.1) tt) (λ gs. refl) (c.in-Ok.ensures (code_shown c.args.code.now) (quota_words c.args.k))

pub returns-in-Ok-clause-functions : goal.returns-in-Ok-clause-functions
returns-in-Ok-clause-functions c =
    acts_functions (code_shown c.args.code.now) (quota_words c.args.k) c.args.self.now (Allocates c.args.slot c.args.len) c.in-Ok.ready c.requires (λ func xs. refl) (c.in-Ok.ensures (code_shown c.args.code.now) (quota_words c.args.k))

pub returns-in-Err-clause-meaning : goal.returns-in-Err-clause-meaning
returns-in-Err-clause-meaning c = stays_meaning (code_shown c.args.code.now) (quota_words c.args.k) c.args.self.now (Allocates c.args.slot c.args.len) c.in-Err.error
