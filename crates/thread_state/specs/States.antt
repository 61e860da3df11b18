-- The state of the depth-first run that a thread is in.
use Rattle.std.specs.Prelude.{◌≡◌, ℕ, ◌+◌, List, ◌∷◌, map}
use Rattle.depth_first_run.specs.Passed.Tree.{Name}
use Rattle.depth_first_run.specs.States.{State}
use Rattle.slot_store.specs.Rows.{Entry, row_words}
use Rattle.slot_store.specs.Shown.{slots_shown}
use Rattle.thread_state.specs.Rows.{waiting_rows, all_words, Holds}
use Rattle.thread_state.specs.declared.state.ThreadState.{ThreadState}

-- the row of the function that runs, and all rows, the innermost first
abbrev pub own_row : ThreadState → List Entry
own_row t = slots_shown t.slots

abbrev pub rows_of : ThreadState → List (List Entry)
rows_of t = own_row t ∷ waiting_rows t.callers.items

-- the words of all blocks that the thread holds
abbrev pub words_held : ThreadState → ℕ
words_held t = row_words (own_row t) + all_words (map slots_shown t.callers.items)

-- A thread is in the state s. The contexts are the names of the slots of the functions whose calls are open, the innermost first. What is
-- printed and which actions were done is not kept here.
pub record IsState (contexts : List (List Name)) (t : ThreadState) (s : State) : Type 0 where
  pub label : t.label ≡ s.label
  pub done : t.done ≡ s.done
  pub forks : t.forks ≡ s.forks
  pub faulted : t.faulted ≡ s.faulted
  pub calls : t.calls ≡ s.calls
  pub turns : t.turns ≡ s.turns
  pub holds : Holds t.faulted contexts (rows_of t) s.store s.callers
