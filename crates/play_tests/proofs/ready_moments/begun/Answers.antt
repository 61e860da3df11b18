use Rattle.std.proofs.Common.{sym, ap, subst, refl}
use Rattle.block_check.specs.Checked.{program_of}
use Rattle.depth_first_list.specs.QuotaWords.{quota_words}
use Rattle.node_table.specs.Codes.{code_shown}
use Rattle.node_table.specs.Programs.{IsTableOf}
use Rattle.par_tree.specs.View.{program_tree}
use Rattle.serial_meaning.specs.Settings.{setting_of}
use Rattle.play_tests.proofs.ready_moments.begun.Goals as goal

pub returns : goal.returns
returns c =
    let p = program_tree (program_of c.in-Ok.program) in
    let table = subst (λ code. IsTableOf p (code_shown code)) (sym c.in_ok-core.ensures.code) c.in_ok-code.ensures in
    ∣ (
      setting_of p (quota_words c.in-Some.k),
      record {
        owned = c.in-Ok.ensures.1;
        table = table;
        quota = ap quota_words (sym c.in_ok-core.ensures.quota);
        calls = refl;
        turns = refl;
        forks = refl;
      },
      c.in-Ok-depth_first.ensures.0,
    ) ∣₁
