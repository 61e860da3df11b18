-- What the test of a period says of the next action of a thread.
use Rattle.std.specs.Prelude.{◌≡◌, ℕ, ◌+◌, ◌≤◌}
use Rattle.depth_first_list.specs.Actions.{record_words}
use Rattle.language_limits.specs.declared.TheConstants.{GREATEST_QUOTA}
use Rattle.hall_slots.specs.Passed.Period.{Period as OpenPeriod}
use Rattle.hall_parts.specs.Passed.Readiness.{IsReadiness}
use Rattle.hall_parts.specs.Passed.ReadinessVariants.{Ready, Spent}
use Rattle.thread_frames.specs.declared.next.Next.TheVariants as nexts
use Rattle.hall_parts.specs.EventParts.{IsNext, MayDoNext, IsTooMuch}
use Rattle.hall_parts.specs.HallNames.{HallKey, quota_of, Next, Thread}

-- The period may do the action, which uses so many words of the quota, a Fork those of a record block. What it has used then can be counted.
pub record MayUse (key : HallKey) (worker : ℕ) (next : Next) (charge : ℕ) (top : Thread) (period : OpenPeriod) : Type 0 where
  pub may : MayDoNext key worker next charge top period
  pub fits : period.used + charge ≤ GREATEST_QUOTA
  pub forks : next ≡ nexts.Fork → charge ≡ record_words

-- so it is with an action that is ready
abbrev pub ReadyMayBeDone : Type 0
ReadyMayBeDone = (key : HallKey) (worker charge : ℕ) (next : Next) (top : Thread) (period : OpenPeriod) → record_words ≤ quota_of key
    → quota_of key ≤ GREATEST_QUOTA → period.used ≤ quota_of key → IsNext key top next
    → IsReadiness period.used (quota_of key) top next (Ready charge) → MayUse key worker next charge top period

-- and where the quota is spent the action takes more of it than is left
abbrev pub SpentIsTooMuch : Type 0
SpentIsTooMuch = (key : HallKey) (next : Next) (top : Thread) (period : OpenPeriod) → IsNext key top next
    → IsReadiness period.used (quota_of key) top next Spent → IsTooMuch key next top period
