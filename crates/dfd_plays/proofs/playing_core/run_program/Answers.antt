use Rattle.std.proofs.Common.{[], subst, ap}
use Rattle.block_check.specs.Checked.{program_of}
use Rattle.deque_machine.specs.Moments.{opening}
use Rattle.trail_record.specs.Passed.Cores.{terms_at}
use Rattle.par_tree.specs.View.{program_tree}
use Rattle.dfd_plays.specs.CorePlays.{Played}
use Rattle.dfd_plays.specs.PcgChoices.{coming_output}
use Rattle.dfd_plays.specs.Play.{play_setting, seeded_words}
use Rattle.dfd_plays.proofs.playing_core.run_program.Goals as goal

pub returns-clause-plays : goal.returns-clause-plays
returns-clause-plays c =
    let setting = play_setting c.args.command.now (program_tree (program_of c.args.program)) in
    subst (λ t. Played setting t (seeded_words c.args.command.now.seed) c.play-end.new.core c.play-end.result) c.in_ok-core.ensures.terms
    (subst (λ w. Played setting (terms_at c.in_ok-core.core) w c.play-end.new.core c.play-end.result)
    (ap (λ g. coming_output (record { generator = g })) c.new-choices.ensures)
    (coming_output c.play-end.new.choices, c.play-end.ensures.played c.in_ok-core.ensures.going setting [] opening c.in_ok-core.ensures.opening))
