-- How much a step leaves to a thread.
use Rattle.std.specs.Prelude.{ℕ, ◌+◌, ◌*◌, ◌≤◌, ◌≡◌, ◌⊎◌, Result, IfOk}
use Rattle.std.specs.declared.alloc.AllocError.{AllocError}
use Rattle.node_table.specs.Table.{Table}
use Rattle.thread_stack.specs.Frames.{frames_shown}
use Rattle.thread_stack.specs.Measure.{frames_cost, list_cost, node_cost, turn_cost}
use Rattle.thread_stack.specs.Lists.{numbers_of}
use Rattle.thread_stack.specs.declared.list_of.ListOf.TheVariants.{Round}
use Rattle.thread_run.specs.declared.done.Done.{Done}
use Rattle.thread_run.specs.declared.done.Done.TheVariants.{Silent, Prints, Acts}

-- what the frames count that it puts
abbrev pub done_cost : Table → Done → ℕ
done_cost t (Silent first next) = frames_cost t (frames_shown first) + frames_cost t (frames_shown next)
done_cost t (Prints v) = 0
done_cost t (Acts ready) = 0

-- they count no more than so much, where there is enough memory
abbrev pub CostsAtMost : Table → ℕ → Result Done AllocError → Type 0
CostsAtMost t most result = IfOk result (λ done. done_cost t done ≤ most)

-- a round of the loop of a node costs a turn; else nothing is put
abbrev pub CostsTurns : Table → (node : ℕ) → (before after : ℕ) → Done → Type 0
CostsTurns t n before after done =
    ((done_cost t done ≡ 0) × (after ≡ before))
    ⊎ ((after + 1 ≡ before) × (done_cost t done ≤ list_cost (node_cost t) (numbers_of t (Round n)) + (1 + node_cost t n)))

-- the frames and the turns behind a statement count less than the statement and the turns before it
abbrev pub LeavesLess : Table → (node : ℕ) → (before after : ℕ) → Result Done AllocError → Type 0
LeavesLess t n before after result =
    IfOk result (λ done. after * turn_cost t + (done_cost t done + 1) ≤ before * turn_cost t + node_cost t n)
