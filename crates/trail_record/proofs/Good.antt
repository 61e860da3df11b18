-- What is recorded of a play that finishes is good.
use Rattle.std.proofs.Common.{sym, subst, arith}
use Rattle.std.proofs.Math.Logic.{∥∥₁_map}
use Rattle.depth_first_run.proofs.Built.{whole_is_depth_first}
use Rattle.deque_machine.specs.Terms.{machine_of}
use Rattle.trail_check.specs.Good.{IsGood}
use Rattle.trail_check.proofs.Recorded.{plays_are_followed}
use Rattle.trail_record.specs.Laws.{RecordedPlaysAreGood}

pub recorded_plays_are_good : RecordedPlaysAreGood
recorded_plays_are_good c terms words coming core finish events some recorded = ∥∥₁_map recorded (λ r.
    let covers = core.sound.quota in let same = r.0.is_at.setting.quota in (
      r.0.later,
      r.0.last,
      subst (λ e. IsGood (machine_of c terms) terms.limits e r.0.later r.0.last) (sym r.1)
          (plays_are_followed (machine_of c terms) (omega (arith, covers, same)) (whole_is_depth_first c) terms.limits words r.0.later r.0.last some r.0.plays),
      r.0.is_at,
    ))
