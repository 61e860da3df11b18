-- What the beginning of a `split` does to the state of a thread.
use Rattle.std.specs.Prelude.{ℕ, ℤ, Option, Some, None}
use Rattle.dag_order.specs.declared.fault.FaultKind.TheVariants as faults
use Rattle.depth_first_run.specs.Passed.Tree.{Name}
use Rattle.depth_first_run.specs.Stores.{block_of}
use Rattle.depth_first_run.specs.States.{State, with_fault}
use Rattle.depth_first_run.specs.Run.{on_store, cut_of, cut_block}

-- the block b is gone and its two parts are held, or the place is none at which it may be cut
abbrev pub cut_in_place : ℕ → Name → Name → Name → Option ℕ → State → State
cut_in_place line b l r None s = with_fault faults.Split line s
cut_in_place line b l r (Some at) s = on_store (cut_block b l r at) s

abbrev pub cut_or_fault : ℕ → Name → Name → Name → ℤ → State → State
cut_or_fault line b l r at s = cut_in_place line b l r (cut_of (block_of s.store.blocks b) at) s
