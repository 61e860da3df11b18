use Rattle.std.proofs.Common.{◌≤◌, ◌<◌, length, subst}
use Rattle.std.specs.Prelude.{Option}
use Rattle.depth_first_list.specs.QuotaWords.{quota_words}
use Rattle.depth_first_run.specs.States.{State}
use Rattle.depth_first_run.specs.Run.{whole, actions_of}
use Rattle.node_table.specs.Codes.{code_shown}
use Rattle.serial_journal.specs.Telling.{Tells}
use Rattle.thread_frames.specs.declared.ended.Ended.{Ended}
use Rattle.serial_meaning.specs.Writing.{GoesOrEnds, WritesOrEnds}
use Rattle.serial_meaning.proofs.Next.{stops_never}
use Rattle.serial_meaning.proofs.running.run_all.Goals as goal

pub actions-init : goal.actions-init
actions-init c = record {
  stand = c.in_ok-run.ensures.stand (quota_words c.args.k);
  write = λ setting of. c.in_ok-run.ensures.write (quota_words c.args.k) setting of;
}

pub returns-in_err-root : goal.returns-in_err-root
returns-in_err-root c = λ setting of.
    stops_never (λ serial. Tells (State.items (whole setting)) serial × (length (actions_of (State.items (whole setting))) ≤ c.args.limit)) (c.args.limit < length (actions_of (State.items (whole setting))))
    c.from_residual-in_err-root.result c.in_err-root.field-0.0 c.from_residual-in_err-root.ensures.1
    (c.in_err-root.ensures.never c.args.limit setting of (c.actions.invariant.write setting of) c.actions-test.true)

pub returns-in-Some : goal.returns-in-Some
returns-in-Some c = λ setting of.
    let stand = subst (λ (o : Option Ended). GoesOrEnds (code_shown c.args.code.now) (quota_words c.args.k) c.act.new.self o) c.in-Some.is c.in_ok-root.ensures.stand in
    let keeps = subst (λ (o : Option Ended). WritesOrEnds setting c.args.limit c.act.new.self o) c.in-Some.is
    (c.in_ok-root.ensures.write c.args.limit setting of (c.actions.invariant.write setting of) c.actions-test.true) in
    c.in_ok-close.ensures c.args.limit (code_shown c.args.code.now) (quota_words c.args.k) setting of stand.0 stand.1 keeps

pub actions-preserved : goal.actions-preserved
actions-preserved c = record {
  stand = subst (λ (o : Option Ended). GoesOrEnds (code_shown c.args.code.now) (quota_words c.args.k) c.act.new.self o) c.in_default.is c.in_ok-root.ensures.stand;
  write = λ setting of. subst (λ (o : Option Ended). WritesOrEnds setting c.args.limit c.act.new.self o) c.in_default.is
      (c.in_ok-root.ensures.write c.args.limit setting of (c.actions.invariant.write setting of) c.actions-test.true);
}
