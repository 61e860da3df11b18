use Rattle.play_tests.proofs.Kept.{listed_stays}
use Rattle.play_tests.proofs.ready_moments.let_move.Goals as goal

pub digits-preserved-then-worker-workers : goal.digits-preserved-then-worker-workers
digits-preserved-then-worker-workers c = listed_stays c.digits.core c.step.new.self c.args.serial.now c.step.ensures.setting c.digits.invariant
