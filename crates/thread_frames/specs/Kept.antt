-- What waits, and what is kept, under the id of a thread.
use Rattle.std.specs.Prelude.{◌≡◌, List, ◌∷◌}
use Rattle.dag_order.specs.declared.thread_id.ThreadId.{ThreadId}
use Rattle.moment_shown.specs.Parts as parts
use Rattle.thread_frames.specs.declared.thread.Thread.{Thread}
use Rattle.thread_frames.specs.declared.ended.Ended.{Ended}
use Rattle.thread_frames.specs.Shown.{thread_shown, result_shown}

-- a waiting thread as the laws of events see it
abbrev pub waiting_shown : ThreadId × Thread → parts.Thread
waiting_shown entry = thread_shown entry.1

-- a kept result as they see it
abbrev pub result_kept : ThreadId × Ended → parts.Result
result_kept entry = result_shown entry.1

-- a waiting thread is kept under the id of its newest open child
abbrev pub WaitsUnder : ThreadId × Thread → Type 0
WaitsUnder entry = (newest : parts.Child) × (older : List parts.Child)
    × (parts.Thread.children (thread_shown entry.1) ≡ newest ∷ older) × (newest.id ≡ entry.0)

-- a result is kept under the id of its thread
abbrev pub IsUnderItsId : ThreadId × Ended → Type 0
IsUnderItsId entry = Ended.id entry.1 ≡ entry.0
