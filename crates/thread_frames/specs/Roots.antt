-- The root: before its first action, and the end that it gives to a run.
use Rattle.std.specs.Prelude.{◌≡◌, ℕ, Option, None, Some, List, [], ◌∷◌}
use Rattle.dag_order.specs.Births.{root}
use Rattle.thread_state.specs.Passed.Run.{finish_of}
use Rattle.node_table.specs.Table.{Table}
use Rattle.play_rules.specs.declared.ends.RunEnd.{RunEnd}
use Rattle.play_rules.specs.declared.ends.RunEnd.TheVariants.{Finished}
use Rattle.thread_frames.specs.declared.ended.Ended.{Ended}
use Rattle.thread_frames.specs.declared.thread.Thread.{Thread}
use Rattle.thread_frames.specs.Points.{IsAtPoint}
use Rattle.thread_frames.specs.Views.{label_of, done_of, children_of, thread_words}
use Rattle.thread_output.specs.Telling.{fault_of}

-- the root has done nothing: no action is counted, no child is open, and it holds no words
pub record HasDoneNothing (thread : Thread) : Type 0 where
  pub done : done_of thread ≡ 0
  pub children : children_of thread ≡ []
  pub words : thread_words thread ≡ 0

-- a lane with the root alone, before its first action
abbrev pub IsRootAlone : Table → ℕ → List Thread → Type 0
IsRootAlone t k items = (thread : Thread) × (items ≡ thread ∷ []) × (Thread.id thread ≡ root) × (label_of thread ≡ [])
    × HasDoneNothing thread × ∥ IsAtPoint t k thread ∥₁

-- the end that the result of the root gives, if it is kept
abbrev pub end_of_root : Option Ended → Option RunEnd
end_of_root None = None
end_of_root (Some ended) = Some (Finished (finish_of (fault_of ended.told)))
