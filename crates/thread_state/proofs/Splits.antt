-- The beginning of a `split`, and calls that a thread skips that a fault ended.
use Rattle.std.proofs.Common.{◌≡◌, ℕ, Bool, true, false, ℤ, Option, Some, sym, ap}
use Rattle.depth_first_run.specs.Passed.Tree.{Name}
use Rattle.depth_first_run.specs.Stores.{block_of}
use Rattle.depth_first_run.specs.States.{State, unless_faulted, skip_if}
use Rattle.depth_first_run.specs.Run.{on_store, cut_of, cut_block}
use Rattle.thread_state.specs.Cuts.{cut_in_place, cut_or_fault}

pub cut_there : (line : ℕ) (b l r : Name) (at : ℤ) (place : ℕ) (s : State) → Some place ≡ cut_of (block_of s.store.blocks b) at →
    cut_or_fault line b l r at s ≡ on_store (cut_block b l r place) s
cut_there line b l r at place s e = ap (λ (o : Option ℕ). cut_in_place line b l r o s) (sym e)

-- a thread that a fault ended skips what comes; one that goes on does not
pub skipped : (f : State → State) (s : State) → s.faulted ≡ true → unless_faulted f s ≡ s
unfolding unless_faulted
skipped f s e = ap (λ (b : Bool). skip_if b f s) e

pub unskipped : (f : State → State) (s : State) → s.faulted ≡ false → unless_faulted f s ≡ f s
unfolding unless_faulted
unskipped f s e = ap (λ (b : Bool). skip_if b f s) e
