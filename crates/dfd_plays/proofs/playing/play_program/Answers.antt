use Rattle.std.proofs.Common.{Some, subst, sym, ap, ◌∙◌}
use Rattle.std.proofs.lemmas.Result.{IfOk-weaker}
use Rattle.block_check.specs.Checked.{program_of}
use Rattle.par_tree.specs.View.{program_tree}
use Rattle.dfd_plays.specs.CorePlays.{Played}
use Rattle.dfd_plays.specs.Peak.{finish_status}
use Rattle.dfd_plays.specs.Play.{Reports, play_setting, play_terms, seeded_words}
use Rattle.dfd_plays.proofs.Plays.{finished_makes, stopped_makes, both_ok}
use Rattle.dfd_plays.proofs.playing.play_program.Goals as goal

pub returns-in-Finished : goal.returns-in-Finished
returns-in-Finished c =
    let command = c.args.command.now in
    let p = program_tree (program_of c.args.program) in
    both_ok c.report_answer.result _ _ _ c.report_answer.ensures.status c.report_answer.ensures.text
    (λ answer status text. finished_makes Reports command p c.in_ok-core.core c.in-Finished.finish answer.status answer.text.items
    (subst (λ e. Played (play_setting command p) (play_terms command) (seeded_words command.seed) c.in_ok-core.core e)
    c.in-Finished.is c.in_ok-core.ensures.plays)
    (c.in_ok-core.ensures.end ∙ ap Some c.in-Finished.is) (status ∙ ap finish_status c.in_ok-report_of-in-Finished.ensures.finish)
    (λ s run m at. subst (Reports s run m) (sym text) (c.in_ok-report_of-in-Finished.ensures.reports s run m at)))

pub returns : goal.returns
returns c =
    let command = c.args.command.now in
    let p = program_tree (program_of c.args.program) in
    IfOk-weaker c.stop_answer.result _ _
    (λ answer told. stopped_makes Reports command p c.in_ok-core.core c.in-Stopped.stop answer.status answer.text.items
    (subst (λ e. Played (play_setting command p) (play_terms command) (seeded_words command.seed) c.in_ok-core.core e)
    c.in-Stopped.is c.in_ok-core.ensures.plays) told) c.stop_answer.ensures
