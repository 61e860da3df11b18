use Rattle.std.proofs.Common.{Ok, Some, refl, sym, subst}
use Rattle.depth_first_list.specs.QuotaWords.{quota_words}
use Rattle.node_table.specs.Codes.{code_shown}
use Rattle.thread_points.specs.Points.{IsPlain}
use Rattle.thread_stack.specs.declared.frame.Frame.{Frame}
use Rattle.thread_stack.specs.declared.frame.Frame.TheVariants.{Tree}
use Rattle.thread_run.specs.Stepping.{IsKnownAt, StepsRun, KeepsFunctions}
use Rattle.thread_run.proofs.CanEnds.{can_end_at, main_there, main_can_end}
use Rattle.thread_run.proofs.Following.{acts_meaning, joins_meaning}
use Rattle.thread_run.proofs.Kept.{acts_functions}
use Rattle.thread_run.proofs.Outcomes.{comes_by, knows_again, keeps_counts}
use Rattle.thread_run.specs.declared.ready.Ready.TheVariants.{Join}
use Rattle.thread_run.proofs.run.ThreadRun.go_on.Goals as goal

pub end_call-requires-clause-can : goal.end_call-requires-clause-can
end_call-requires-clause-can c =
    can_end_at (code_shown c.args.code.now) (quota_words c.args.k) c.args.self.now c.in-Answers.node c.in-Answers.caller
    (subst (λ (x : Frame). IsKnownAt (code_shown c.args.code.now) (quota_words c.args.k) c.args.self.now x) c.in-Answers.is c.requires.known)

pub end_main-requires-clause-there : goal.end_main-requires-clause-there
end_main-requires-clause-there c =
    main_there (code_shown c.args.code.now) (quota_words c.args.k) c.args.self.now
    (subst (λ (x : Frame). IsKnownAt (code_shown c.args.code.now) (quota_words c.args.k) c.args.self.now x) c.in-AnswersMain.is c.requires.known)

pub end_main-requires-clause-can : goal.end_main-requires-clause-can
end_main-requires-clause-can c =
    main_can_end (code_shown c.args.code.now) (quota_words c.args.k) c.args.self.now
    (subst (λ (x : Frame). IsKnownAt (code_shown c.args.code.now) (quota_words c.args.k) c.args.self.now x) c.in-AnswersMain.is c.requires.known)

pub returns-in-Statements-clause-meaning : goal.returns-in-Statements-clause-meaning
returns-in-Statements-clause-meaning c =
    subst (λ (x : Frame). StepsRun (code_shown c.args.code.now) (quota_words c.args.k) c.args.self.now x c.statements.result c.statements.new.self) (sym c.in-Statements.is) c.statements.ensures.meaning

pub returns-in-Again-clause-meaning : goal.returns-in-Again-clause-meaning
returns-in-Again-clause-meaning c =
    subst (λ (x : Frame). StepsRun (code_shown c.args.code.now) (quota_words c.args.k) c.args.self.now x c.again.result c.again.new.self) (sym c.in-Again.is) c.again.ensures.meaning

pub returns-in-Tree-clause-meaning : goal.returns-in-Tree-clause-meaning
returns-in-Tree-clause-meaning c =
    subst (λ (x : Frame). StepsRun (code_shown c.args.code.now) (quota_words c.args.k) c.args.self.now x (Ok (Some c.dummies.result)) c.args.self.now) (sym c.in-Tree.is)
    (acts_meaning (code_shown c.args.code.now) (quota_words c.args.k) c.args.self.now (Tree c.in-Tree.tree) c.dummies.result (λ p gs f frame. subst IsPlain (sym frame) tt) (λ gs. refl)
    (c.dummies.ensures (code_shown c.args.code.now) (quota_words c.args.k) c.args.self.now.state))

pub returns-in-Tree-clause-functions : goal.returns-in-Tree-clause-functions
returns-in-Tree-clause-functions c =
    subst (λ (x : Frame). KeepsFunctions c.args.self.now x (Ok (Some c.dummies.result)) c.args.self.now) (sym c.in-Tree.is)
    (acts_functions (code_shown c.args.code.now) (quota_words c.args.k) c.args.self.now (Tree c.in-Tree.tree) c.dummies.result
    (subst (λ (x : Frame). IsKnownAt (code_shown c.args.code.now) (quota_words c.args.k) c.args.self.now x) c.in-Tree.is c.requires.known) (λ func xs. refl) (c.dummies.ensures (code_shown c.args.code.now) (quota_words c.args.k) c.args.self.now.state))

pub returns-in-Answers-clause-meaning : goal.returns-in-Answers-clause-meaning
returns-in-Answers-clause-meaning c =
    subst (λ (x : Frame). StepsRun (code_shown c.args.code.now) (quota_words c.args.k) c.args.self.now x (Ok c.end_call.result) c.end_call.new.self) (sym c.in-Answers.is)
    (c.end_call.ensures.meaning (quota_words c.args.k))

pub returns-in-Rejoins-clause-meaning : goal.returns-in-Rejoins-clause-meaning
returns-in-Rejoins-clause-meaning c =
    subst (λ (x : Frame). StepsRun (code_shown c.args.code.now) (quota_words c.args.k) c.args.self.now x c.rejoin.result c.rejoin.new.self) (sym c.in-Rejoins.is) c.rejoin.ensures.meaning

pub returns-in-AnswersMain-clause-meaning : goal.returns-in-AnswersMain-clause-meaning
returns-in-AnswersMain-clause-meaning c =
    subst (λ (x : Frame). StepsRun (code_shown c.args.code.now) (quota_words c.args.k) c.args.self.now x (Ok c.end_main.result) c.end_main.new.self) (sym c.in-AnswersMain.is)
    (c.end_main.ensures.meaning (quota_words c.args.k))

pub returns-in-Allocates-clause-meaning : goal.returns-in-Allocates-clause-meaning
returns-in-Allocates-clause-meaning c =
    subst (λ (x : Frame). StepsRun (code_shown c.args.code.now) (quota_words c.args.k) c.args.self.now x c.allocate.result c.args.self.now) (sym c.in-Allocates.is) c.allocate.ensures.meaning

pub returns-in-Joins-clause-meaning : goal.returns-in-Joins-clause-meaning
returns-in-Joins-clause-meaning c =
    subst (λ (x : Frame). StepsRun (code_shown c.args.code.now) (quota_words c.args.k) c.args.self.now x (Ok (Some (Join c.in-Joins.branch))) c.args.self.now) (sym c.in-Joins.is)
    (joins_meaning (code_shown c.args.code.now) (quota_words c.args.k) c.args.self.now c.in-Joins.branch)

pub returns-in-Statements-clause-comes : goal.returns-in-Statements-clause-comes
returns-in-Statements-clause-comes c = comes_by (code_shown c.args.code.now) (quota_words c.args.k) c.args.self.now c.statements.new.self c.args.frame c.statements.result (returns-in-Statements-clause-meaning c)

pub returns-in-Statements-clause-known : goal.returns-in-Statements-clause-known
returns-in-Statements-clause-known c = knows_again (code_shown c.args.code.now) (quota_words c.args.k) c.args.self.now c.statements.new.self c.args.frame c.statements.result c.requires.known (returns-in-Statements-clause-meaning c)

pub returns-in-Statements-clause-counts : goal.returns-in-Statements-clause-counts
returns-in-Statements-clause-counts c = keeps_counts (code_shown c.args.code.now) (quota_words c.args.k) c.args.self.now c.statements.new.self c.args.frame c.statements.result c.requires.known (returns-in-Statements-clause-meaning c)

pub returns-in-Again-clause-comes : goal.returns-in-Again-clause-comes
returns-in-Again-clause-comes c = comes_by (code_shown c.args.code.now) (quota_words c.args.k) c.args.self.now c.again.new.self c.args.frame c.again.result (returns-in-Again-clause-meaning c)

pub returns-in-Again-clause-known : goal.returns-in-Again-clause-known
returns-in-Again-clause-known c = knows_again (code_shown c.args.code.now) (quota_words c.args.k) c.args.self.now c.again.new.self c.args.frame c.again.result c.requires.known (returns-in-Again-clause-meaning c)

pub returns-in-Again-clause-counts : goal.returns-in-Again-clause-counts
returns-in-Again-clause-counts c = keeps_counts (code_shown c.args.code.now) (quota_words c.args.k) c.args.self.now c.again.new.self c.args.frame c.again.result c.requires.known (returns-in-Again-clause-meaning c)

pub returns-in-Tree-clause-comes : goal.returns-in-Tree-clause-comes
returns-in-Tree-clause-comes c = comes_by (code_shown c.args.code.now) (quota_words c.args.k) c.args.self.now c.args.self.now c.args.frame (Ok (Some c.dummies.result)) (returns-in-Tree-clause-meaning c)

pub returns-in-Tree-clause-known : goal.returns-in-Tree-clause-known
returns-in-Tree-clause-known c = knows_again (code_shown c.args.code.now) (quota_words c.args.k) c.args.self.now c.args.self.now c.args.frame (Ok (Some c.dummies.result)) c.requires.known (returns-in-Tree-clause-meaning c)

pub returns-in-Tree-clause-counts : goal.returns-in-Tree-clause-counts
returns-in-Tree-clause-counts c = keeps_counts (code_shown c.args.code.now) (quota_words c.args.k) c.args.self.now c.args.self.now c.args.frame (Ok (Some c.dummies.result)) c.requires.known (returns-in-Tree-clause-meaning c)

pub returns-in-Answers-clause-comes : goal.returns-in-Answers-clause-comes
returns-in-Answers-clause-comes c = comes_by (code_shown c.args.code.now) (quota_words c.args.k) c.args.self.now c.end_call.new.self c.args.frame (Ok c.end_call.result) (returns-in-Answers-clause-meaning c)

pub returns-in-Answers-clause-known : goal.returns-in-Answers-clause-known
returns-in-Answers-clause-known c = knows_again (code_shown c.args.code.now) (quota_words c.args.k) c.args.self.now c.end_call.new.self c.args.frame (Ok c.end_call.result) c.requires.known (returns-in-Answers-clause-meaning c)

pub returns-in-Answers-clause-counts : goal.returns-in-Answers-clause-counts
returns-in-Answers-clause-counts c = keeps_counts (code_shown c.args.code.now) (quota_words c.args.k) c.args.self.now c.end_call.new.self c.args.frame (Ok c.end_call.result) c.requires.known (returns-in-Answers-clause-meaning c)

pub returns-in-Rejoins-clause-comes : goal.returns-in-Rejoins-clause-comes
returns-in-Rejoins-clause-comes c = comes_by (code_shown c.args.code.now) (quota_words c.args.k) c.args.self.now c.rejoin.new.self c.args.frame c.rejoin.result (returns-in-Rejoins-clause-meaning c)

pub returns-in-Rejoins-clause-known : goal.returns-in-Rejoins-clause-known
returns-in-Rejoins-clause-known c = knows_again (code_shown c.args.code.now) (quota_words c.args.k) c.args.self.now c.rejoin.new.self c.args.frame c.rejoin.result c.requires.known (returns-in-Rejoins-clause-meaning c)

pub returns-in-Rejoins-clause-counts : goal.returns-in-Rejoins-clause-counts
returns-in-Rejoins-clause-counts c = keeps_counts (code_shown c.args.code.now) (quota_words c.args.k) c.args.self.now c.rejoin.new.self c.args.frame c.rejoin.result c.requires.known (returns-in-Rejoins-clause-meaning c)

pub returns-in-AnswersMain-clause-comes : goal.returns-in-AnswersMain-clause-comes
returns-in-AnswersMain-clause-comes c = comes_by (code_shown c.args.code.now) (quota_words c.args.k) c.args.self.now c.end_main.new.self c.args.frame (Ok c.end_main.result) (returns-in-AnswersMain-clause-meaning c)

pub returns-in-AnswersMain-clause-known : goal.returns-in-AnswersMain-clause-known
returns-in-AnswersMain-clause-known c = knows_again (code_shown c.args.code.now) (quota_words c.args.k) c.args.self.now c.end_main.new.self c.args.frame (Ok c.end_main.result) c.requires.known (returns-in-AnswersMain-clause-meaning c)

pub returns-in-AnswersMain-clause-counts : goal.returns-in-AnswersMain-clause-counts
returns-in-AnswersMain-clause-counts c = keeps_counts (code_shown c.args.code.now) (quota_words c.args.k) c.args.self.now c.end_main.new.self c.args.frame (Ok c.end_main.result) c.requires.known (returns-in-AnswersMain-clause-meaning c)

pub returns-in-Allocates-clause-comes : goal.returns-in-Allocates-clause-comes
returns-in-Allocates-clause-comes c = comes_by (code_shown c.args.code.now) (quota_words c.args.k) c.args.self.now c.args.self.now c.args.frame c.allocate.result (returns-in-Allocates-clause-meaning c)

pub returns-in-Allocates-clause-known : goal.returns-in-Allocates-clause-known
returns-in-Allocates-clause-known c = knows_again (code_shown c.args.code.now) (quota_words c.args.k) c.args.self.now c.args.self.now c.args.frame c.allocate.result c.requires.known (returns-in-Allocates-clause-meaning c)

pub returns-in-Allocates-clause-counts : goal.returns-in-Allocates-clause-counts
returns-in-Allocates-clause-counts c = keeps_counts (code_shown c.args.code.now) (quota_words c.args.k) c.args.self.now c.args.self.now c.args.frame c.allocate.result c.requires.known (returns-in-Allocates-clause-meaning c)

pub returns-in-Joins-clause-comes : goal.returns-in-Joins-clause-comes
returns-in-Joins-clause-comes c = comes_by (code_shown c.args.code.now) (quota_words c.args.k) c.args.self.now c.args.self.now c.args.frame (Ok (Some (Join c.in-Joins.branch))) (returns-in-Joins-clause-meaning c)

pub returns-in-Joins-clause-known : goal.returns-in-Joins-clause-known
returns-in-Joins-clause-known c = knows_again (code_shown c.args.code.now) (quota_words c.args.k) c.args.self.now c.args.self.now c.args.frame (Ok (Some (Join c.in-Joins.branch))) c.requires.known (returns-in-Joins-clause-meaning c)

pub returns-in-Joins-clause-counts : goal.returns-in-Joins-clause-counts
returns-in-Joins-clause-counts c = keeps_counts (code_shown c.args.code.now) (quota_words c.args.k) c.args.self.now c.args.self.now c.args.frame (Ok (Some (Join c.in-Joins.branch))) c.requires.known (returns-in-Joins-clause-meaning c)
