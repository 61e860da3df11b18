use Rattle.std.proofs.Common.{refl, subst}
use Rattle.block_check.specs.Checked.{program_of}
use Rattle.depth_first_list.specs.QuotaWords.{quota_words}
use Rattle.depth_first_run.specs.Passed.Ownership.{Ownership}
use Rattle.par_tree.specs.View.{program_tree}
use Rattle.par_tree.specs.declared.program.Program.{Program}
use Rattle.serial_meaning.specs.Settings.{setting_of}
use Rattle.serial_meaning.proofs.running.depth_first.Goals as goal

pub returns : goal.returns
returns c =
    c.run_all.ensures (setting_of (program_tree (program_of c.args.program.now)) (quota_words c.args.k))
    (record {
      owned = subst (λ (p : Program). Ownership (program_tree p)) c.program.ensures.value c.program.ensures.owns;
      table = c.in_ok-code.ensures;
      quota = refl;
      calls = refl;
      turns = refl;
      forks = refl;
    })
