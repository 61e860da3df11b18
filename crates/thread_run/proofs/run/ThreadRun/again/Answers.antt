use Rattle.std.proofs.Common.{◌∙◌, sym}
use Rattle.depth_first_list.specs.QuotaWords.{quota_words}
use Rattle.node_table.specs.Codes.{code_shown}
use Rattle.thread_run.proofs.Meetings.{again_does, again_met, again_skipped, again_cost}
use Rattle.thread_run.proofs.run.ThreadRun.again.Goals as goal

pub returns-then-is_faulted-clause-meaning : goal.returns-then-is_faulted-clause-meaning
returns-then-is_faulted-clause-meaning c = again_skipped (code_shown c.args.code.now) (quota_words c.args.k) c.args.number c.args.self.now (sym c.is_faulted.ensures ∙ c.if-is_faulted.true)

pub statement-requires : goal.statement-requires
statement-requires c = again_met (code_shown c.args.code.now) (quota_words c.args.k) c.args.number c.args.self.now (sym c.is_faulted.ensures ∙ c.if-is_faulted.false) c.requires

pub returns-clause-meaning : goal.returns-clause-meaning
returns-clause-meaning c = again_does (code_shown c.args.code.now) (quota_words c.args.k) c.args.number c.args.self.now c.statement.new.self c.statement.result (sym c.is_faulted.ensures ∙ c.if-is_faulted.false) c.statement.ensures.meaning

pub returns-clause-cost : goal.returns-clause-cost
returns-clause-cost c = again_cost (code_shown c.args.code.now) c.args.number c.args.self.now c.statement.new.self c.statement.result c.statement.ensures.cost
