-- Being at a point is a proposition.
use Rattle.std.proofs.Common.{ℕ}
use Rattle.std.proofs.Math.Logic.{∥∥₁_prop}
use Rattle.node_table.specs.Table.{Table}
use Rattle.thread_frames.specs.declared.thread.Thread.{Thread}
use Rattle.thread_frames.specs.Points.{IsAtPoint}

-- that a thread is at its point is known in one way
pub point_one : (t : Table) (k : ℕ) (x : Thread) → IsProp (IsAtPoint t k x)
point_one t k x = λ a b i. record { of_program = ∥∥₁_prop a.of_program b.of_program i; at = λ c is. ∥∥₁_prop (a.at c is) (b.at c is) i }
