-- What the work of a member leaves.
use Rattle.std.specs.Prelude.{◌≡◌, Some}
use Rattle.work_loop.specs.declared.member.Member.{Member}

-- The worker has worked until its work has ended: it may try again, is the same worker, has ended, and the member has that end.
pub record HasWorked {W E : Type 0} (MayTry : W → Type 0) (IsSame : W → W → Type 0) (HasEnded : W → E → Type 0) (before after : Member W E)
    : Type 0 where
  pub again : MayTry after.worker
  pub same : IsSame before.worker after.worker
  pub end : (end : E) × (after.end ≡ Some end) × HasEnded after.worker end
