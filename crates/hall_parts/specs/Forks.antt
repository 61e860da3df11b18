-- What a Fork does to the parts that its worker took.
use Rattle.std.specs.Prelude.{◌≡◌, ℕ, List, ◌∷◌, []}
use Rattle.hall_parts.specs.HallNames.{ActionId, Thread}
use Rattle.hall_slots.specs.Passed.DepthFirstListActions.{record_words}
use Rattle.open_periods.specs.declared.period.Period.{Period as OpenPeriod}
use Rattle.thread_frames.specs.declared.next.Next.TheVariants as nexts
use Rattle.thread_actions.specs.Acts.{ForkFits, StaysAtPoint}
use Rattle.hall_parts.specs.Here.{ActsHere}

-- it forked, and the birth of the child, of some ordinal, is noted
abbrev pub ForksHere : Thread → (under : List Thread) → OpenPeriod → (threads : List Thread) → OpenPeriod → ActionId → Type 0
ForksHere top under before threads after name = (ordinal : ℕ)
    × ActsHere nexts.Fork ForkFits top under before threads after name record_words (record { parent = top.id; ordinal = ordinal } ∷ [])

-- the thread and the child above it are on top of the others of the lane, both at their points if the thread was
abbrev pub GoBothOnTop : Thread → (under threads : List Thread) → Type 0
GoBothOnTop top under threads = (after : Thread) × (child : Thread) × (threads ≡ child ∷ after ∷ under) × StaysAtPoint top after × StaysAtPoint top child
