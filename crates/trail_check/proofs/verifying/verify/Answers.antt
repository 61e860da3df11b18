use Rattle.std.proofs.Common.{Err, sym, subst}
use Rattle.serial_journal.proofs.Keeping.{stopping}
use Rattle.block_check.specs.Checked.{program_of}
use Rattle.depth_first_list.specs.QuotaWords.{quota_words}
use Rattle.par_tree.specs.View.{program_tree}
use Rattle.serial_meaning.specs.Settings.{setting_of}
use Rattle.trail_meaning.specs.Shown.{shown_by_trail}
use Rattle.trail_check.specs.Checking.{ChecksTrail}
use Rattle.trail_check.proofs.WrittenLists.{written_at, list_written, long_at}
use Rattle.trail_check.proofs.Verdicts.{checked, stopped}
use Rattle.trail_check.proofs.verifying.verify.Goals as goal

pub judge-requires-clause-listed : goal.judge-requires-clause-listed
judge-requires-clause-listed c =
    let p = program_tree (program_of c.args.program.now) in let k = c.args.trail.now.k in (
      setting_of p k,
      list_written c.in-Ok.serial c.args.trail.now.steps p k
          (written_at c.in-Ok.serial c.args.trail.now.steps p (quota_words c.in-Some.quota) k c.in-Some.ensures.words c.in-Ok.ensures),
    )

pub returns-in-Ok : goal.returns-in-Ok
returns-in-Ok c =
    let p = program_tree (program_of c.args.program.now) in let k = c.args.trail.now.k in
    let written = written_at c.in-Ok.serial c.args.trail.now.steps p (quota_words c.in-Some.quota) k c.in-Some.ensures.words c.in-Ok.ensures in
    checked (setting_of p k) (shown_by_trail c.args.trail.now) c.judge.result written.1
    (c.judge.ensures (setting_of p k) (list_written c.in-Ok.serial c.args.trail.now.steps p k written))

pub returns-in-Err : goal.returns-in-Err
returns-in-Err c =
    let p = program_tree (program_of c.args.program.now) in let k = c.args.trail.now.k in let t = shown_by_trail c.args.trail.now in
    subst (λ fail. ChecksTrail (setting_of p k) t (Err fail)) (sym c.fail_of.ensures)
    (stopped (setting_of p k) t c.in-Err.stop
    (stopping _ _ c.in-Err.stop (long_at c.args.trail.now.steps p (quota_words c.in-Some.quota) k c.in-Some.ensures.words) c.in-Err.ensures))
