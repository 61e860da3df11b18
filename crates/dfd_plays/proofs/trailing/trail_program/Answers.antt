use Rattle.std.proofs.Common.{Some, subst, ap, ◌∙◌}
use Rattle.std.proofs.lemmas.Result.{IfOk-weaker}
use Rattle.block_check.specs.Checked.{program_of}
use Rattle.containers.specs.BoundedList.{entries}
use Rattle.par_tree.specs.View.{program_tree}
use Rattle.dfd_plays.specs.CorePlays.{PlayedAs}
use Rattle.dfd_plays.specs.Play.{play_setting, play_terms, seeded_words}
use Rattle.dfd_plays.specs.Trails.{Records}
use Rattle.dfd_plays.proofs.Plays.{stopped_makes, both_ok}
use Rattle.dfd_plays.proofs.Trails.{recorded_makes, played_by}
use Rattle.dfd_plays.proofs.trailing.trail_program.Goals as goal

pub returns-in-Finished : goal.returns-in-Finished
returns-in-Finished c =
    let command = c.args.command.now in
    let p = program_tree (program_of c.args.program) in
    both_ok c.trail_answer.result _ _ _ c.trail_answer.ensures.status c.trail_answer.ensures.text
    (λ answer status text. recorded_makes command c.args.bytes.now p c.in_ok-core.core c.in-Finished.finish (entries c.in_ok-core.recorded.events) answer.status answer.text.items
    (subst (λ e. PlayedAs (play_setting command p) (play_terms command) (seeded_words command.seed) c.in_ok-core.core e (entries c.in_ok-core.recorded.events))
    c.in-Finished.is c.in_ok-core.ensures.plays)
    (c.in_ok-core.ensures.end ∙ ap Some c.in-Finished.is) status text)

pub returns : goal.returns
returns c =
    let command = c.args.command.now in
    let p = program_tree (program_of c.args.program) in
    IfOk-weaker c.stop_answer.result _ _
    (λ answer told. stopped_makes (Records command c.args.bytes.now) command p c.in_ok-core.core c.in-Stopped.stop answer.status answer.text.items
    (played_by (play_setting command p) (play_terms command) (seeded_words command.seed) c.in_ok-core.core c.in-Stopped.stop (entries c.in_ok-core.recorded.events)
    (subst (λ e. PlayedAs (play_setting command p) (play_terms command) (seeded_words command.seed) c.in_ok-core.core e (entries c.in_ok-core.recorded.events))
    c.in-Stopped.is c.in_ok-core.ensures.plays)) told) c.stop_answer.ensures
