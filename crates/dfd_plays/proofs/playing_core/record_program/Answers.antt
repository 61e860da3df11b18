use Rattle.std.proofs.Common.{[], subst, ap}
use Rattle.block_check.specs.Checked.{program_of}
use Rattle.containers.specs.BoundedList.{entries}
use Rattle.deque_machine.specs.Moments.{opening}
use Rattle.trail_record.specs.Passed.Cores.{terms_at}
use Rattle.par_tree.specs.View.{program_tree}
use Rattle.dfd_plays.specs.CorePlays.{PlayedAs}
use Rattle.dfd_plays.specs.PcgChoices.{coming_output}
use Rattle.dfd_plays.specs.Play.{play_setting, seeded_words}
use Rattle.dfd_plays.proofs.playing_core.record_program.Goals as goal

pub returns-clause-plays : goal.returns-clause-plays
returns-clause-plays c =
    let setting = play_setting c.args.command.now (program_tree (program_of c.args.program)) in
    let r = c.in_ok-recorded.recorded in let core = c.record_play.new.core in
    subst (λ t. PlayedAs setting t (seeded_words c.args.command.now.seed) core r.end (entries r.events)) c.in_ok-core.ensures.terms
    (subst (λ w. PlayedAs setting (terms_at c.in_ok-core.core) w core r.end (entries r.events))
    (ap (λ g. coming_output (record { generator = g })) c.new-choices.ensures)
    (coming_output c.record_play.new.choices, c.in_ok-recorded.ensures.played c.in_ok-core.ensures.going setting [] opening c.in_ok-core.ensures.opening))
