use Rattle.std.proofs.Common.{subst}
use Rattle.std.proofs.lemmas.Result.{IfOk-weaker}
use Rattle.block_check.specs.Checked.{program_of}
use Rattle.command_line.specs.declared.setting.Setting.TheVariants.{Workers}
use Rattle.dfd_core.specs.Cores.{terms_at}
use Rattle.hall_threads.specs.Reports.{ComesTo}
use Rattle.hall_threads.specs.declared.ran.Ran.TheVariants.{Finished, Stopped}
use Rattle.par_tree.specs.View.{program_tree}
use Rattle.dfd_plays.specs.Play.{play_setting}
use Rattle.dfd_plays.proofs.Plays.{both_ok}
use Rattle.dfd_run.proofs.Threads.{finished_run, stopped_run}
use Rattle.dfd_run.proofs.running.run_program.Goals as goal

pub choices_of_others-requires : goal.choices_of_others-requires
choices_of_others-requires g c = (c.requires.ranges.numbers Workers).0

pub returns-in-Finished : goal.returns-in-Finished
returns-in-Finished g c =
    let command = c.args.command.now in
    let p = program_tree (program_of c.args.program) in
    let setting = play_setting command p in
    both_ok c.report_answer.result _ _ _ c.report_answer.ensures.status c.report_answer.ensures.text
    (λ answer status text. finished_run command p c.in-Finished.report answer.status answer.text.items
    (subst (λ t. ComesTo setting t (Finished c.in-Finished.report)) c.in_ok-core.ensures.terms
    (subst (ComesTo setting (terms_at c.in_ok-core.core)) c.in-Finished.is (c.in_ok-report.ensures setting (c.in_ok-core.ensures.opening).setting)))
    status text)

pub returns-in-Stopped : goal.returns-in-Stopped
returns-in-Stopped g c =
    let command = c.args.command.now in
    let p = program_tree (program_of c.args.program) in
    let setting = play_setting command p in
    IfOk-weaker c.stop_answer.result _ _
    (λ answer told. stopped_run command p c.in-Stopped.stop answer.status answer.text.items
    (subst (λ t. ComesTo setting t (Stopped c.in-Stopped.stop)) c.in_ok-core.ensures.terms
    (subst (ComesTo setting (terms_at c.in_ok-core.core)) c.in-Stopped.is (c.in_ok-report.ensures setting (c.in_ok-core.ensures.opening).setting)))
    told) c.stop_answer.ensures
