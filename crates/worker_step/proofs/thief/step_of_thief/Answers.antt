use Rattle.worker_step.proofs.Stepping.{sound_behind, points_behind, steps_behind, stopped}
use Rattle.worker_step.proofs.thief.step_of_thief.Goals as goal

pub returns-in-Ok-clause-sound : goal.returns-in-Ok-clause-sound
returns-in-Ok-clause-sound c =
    sound_behind c.args.workers c.args.worker c.args.scheduler.now c.requires.workers c.requires.within c.requires.idle c.args.word c.in-Some.place c.in-Some.ensures
    c.steal_at.new.scheduler c.in-Ok.event c.in-Ok.ensures

pub returns-in-Ok-clause-points : goal.returns-in-Ok-clause-points
returns-in-Ok-clause-points c =
    points_behind c.args.workers c.args.worker c.args.scheduler.now c.requires.workers c.requires.within c.requires.idle c.args.word c.in-Some.place c.in-Some.ensures
    c.steal_at.new.scheduler c.in-Ok.event c.in-Ok.ensures

pub returns-in-Ok-clause-steps : goal.returns-in-Ok-clause-steps
returns-in-Ok-clause-steps c =
    steps_behind c.args.workers c.args.worker c.args.scheduler.now c.requires.workers c.requires.within c.requires.idle c.args.word c.in-Some.place c.in-Some.ensures
    c.steal_at.new.scheduler c.in-Ok.event c.in-Ok.ensures

pub returns-in-Err-clause-steps : goal.returns-in-Err-clause-steps
returns-in-Err-clause-steps c t k limit sound setting of run m at =
    stopped c.args.workers c.args.worker c.args.scheduler.now c.requires.workers c.requires.within c.requires.idle c.args.word c.in-Some.place c.in-Some.ensures
    t k limit sound setting of c.steal_at.new.scheduler c.in-Err.ensures.0 c.in-Err.stop c.in-Err.ensures.1 run m at
