-- What no event of an owner changes.
use Rattle.std.specs.Prelude.{◌≡◌}
use Rattle.scheduler_state.specs.declared.scheduler.Scheduler.{Scheduler}
use Rattle.scheduler_state.specs.Moments.{SameTerms}

-- the terms stay, and whether the list takes one more deque without memory
pub record KeepsRoom (before after : Scheduler) : Type 0 where
  pub terms : SameTerms before after
  pub spare : after.list.spare ≡ before.list.spare
