use Rattle.std.proofs.Common.{refl, subst}
use Rattle.thread_frames.specs.declared.thread.Thread.{Thread}
use Rattle.thread_frames.specs.Actions.{IsStill}
use Rattle.serial_meaning.proofs.Lists.{on_ok}
use Rattle.serial_meaning.proofs.Acting.{stand_still, write_still}
use Rattle.serial_meaning.proofs.run.Run.go_on.Goals as goal

pub returns-clause-stand : goal.returns-clause-stand
returns-clause-stand c =
    on_ok c.advance.result (λ point. stand_still _ _ c.args.self.now _ c.requires.stand (subst (λ (x : Thread). IsStill x c.advance.new.self) c.get_mut.ensures.value c.advance.ensures.still) point refl refl refl refl) c.advance.ensures.point

pub returns-clause-write : goal.returns-clause-write
returns-clause-write c = λ limit setting w.
    on_ok c.advance.result (λ point. write_still setting limit c.args.self.now _ w (subst (λ (x : Thread). IsStill x c.advance.new.self) c.get_mut.ensures.value c.advance.ensures.still) refl refl refl) c.advance.ensures.point
