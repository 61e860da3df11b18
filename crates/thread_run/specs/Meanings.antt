-- What a statement that comes next means: it is one of a thread, at a point of the run of an accepted program.
use Rattle.std.specs.Prelude.{◌≡◌, ℕ, false, List, ◌∷◌}
use Rattle.par_tree.specs.Tree.{Func, Stmt, Body, step}
use Rattle.thread_state.specs.Passed.States.{Setting, State}
use Rattle.thread_state.specs.Passed.Middle as middles
use Rattle.thread_state.specs.Passed.Middle.{does, statements}
use Rattle.node_table.specs.Names.{slot_names}
use Rattle.node_table.specs.Table.{Table}
use Rattle.thread_stack.specs.Frames.{IsNode}
use Rattle.thread_points.specs.Points.{IsAt}
use Rattle.thread_state.specs.declared.state.ThreadState.{ThreadState}
use Rattle.thread_state.specs.Settings.{IsSettingOf}
use Rattle.thread_run.specs.Stands.{InState}

-- the node n is the next statement of a thread in which g runs, and which no fault has ended
pub record Meaning (t : Table) (k n : ℕ) (u : ThreadState) : Type 0 where
  pub setting : Setting
  pub of_table : IsSettingOf t k setting
  pub runs : Func
  pub waiting : List Func
  pub line : ℕ
  pub stmt : Stmt
  pub later : Body
  pub own : List middles.Frame
  pub at : State
  pub node : IsNode setting.program t (slot_names runs) n line stmt
  pub point : IsAt setting (does (statements (step line stmt later)) ∷ own) at
  pub in_state : InState (runs ∷ waiting) u at
  pub going : at.faulted ≡ false

-- it has such a meaning
abbrev pub IsMeant : Table → ℕ → ℕ → ThreadState → Type 0
IsMeant t k n u = ∥ Meaning t k n u ∥₁
