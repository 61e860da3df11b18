-- What a run holds at its start.
use Rattle.std.specs.Prelude.{◌≡◌, ℕ, None, List, [], ◌∷◌}
use Rattle.dag_order.specs.Births.{root}
use Rattle.deque_list.specs.Ids.{deque_id}
use Rattle.deque_list.specs.Deques.{Deque}
use Rattle.node_table.specs.Table.{Table}
use Rattle.open_periods.specs.Tables.{periods_of}
use Rattle.thread_frames.specs.declared.thread.Thread.{Thread}
use Rattle.thread_frames.specs.Points.{IsAtPoint}
use Rattle.thread_frames.specs.Views.{label_of, done_of, children_of, thread_words}
use Rattle.scheduler_state.specs.Held.{Held}

-- one deque without an owner, which holds a thread
abbrev pub deques_with : Thread → List (Deque Thread)
deques_with thread = record { id = deque_id 0; owner = None; items = thread ∷ [] } ∷ []

-- A thread of this table stands alone in a deque without an owner. It is the root before its first action, and nothing else is held.
pub record IsBegun (t : Table) (h : Held) (thread : Thread) : Type 0 where
  pub point : (k : ℕ) → IsAtPoint t k thread
  pub id : Thread.id thread ≡ root
  pub label : label_of thread ≡ []
  pub own_done : done_of thread ≡ 0
  pub children : children_of thread ≡ []
  pub words : thread_words thread ≡ 0
  pub deques : h.deques ≡ deques_with thread
  pub waiting : h.waiting ≡ []
  pub results : h.results ≡ []
  pub periods : periods_of h.table ≡ []
  pub begun : h.table.begun ≡ 0
  pub live : h.live ≡ 0
  pub moves : h.moves ≡ []
  pub done : h.done ≡ 0
