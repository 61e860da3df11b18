-- The ways in which the threads of one lane go on, by what each action does with them.
use Rattle.std.specs.Prelude.{◌≡◌, ◌≢◌, ℕ, List, [], ◌∷◌, ◌++◌}
use Rattle.std.specs.List.Sorted.{IsPermutation}
use Rattle.deque_list.specs.declared.deque_id.DequeId.{DequeId}
use Rattle.thread_frames.specs.Passed.Table.{Table}
use Rattle.thread_frames.specs.Points.{IsAtPoint, IsResult}
use Rattle.thread_frames.specs.declared.thread.Thread.{Thread}
use Rattle.thread_frames.specs.declared.ended.Ended.{Ended}
use Rattle.hall_interleavings.specs.Placed.{Threads}
use Rattle.hall_interleavings.specs.EventsAtPoints.{GoOnIn}

-- no other lane has other threads than before
abbrev pub OnlyIn : DequeId → Threads → Threads → Type 0
OnlyIn id before after = (other : DequeId) → other.0 ≢ id.0 → after.in_lane other ≡ before.in_lane other

-- an End above the parent, which is given the result
abbrev pub EndsAboveGoOn : Type 0
EndsAboveGoOn = (t : Table) (k : ℕ) (id : DequeId) (x y : Threads) (top parent given : Thread) (below : List Thread) (ended : Ended)
    → OnlyIn id x y → x.in_lane id ≡ top ∷ parent ∷ below → y.in_lane id ≡ given ∷ below → y.waiting ≡ x.waiting → y.results ≡ x.results
    → (IsAtPoint t k top → IsResult t k ended) → (IsAtPoint t k parent → IsResult t k ended → IsAtPoint t k given) → GoOnIn t k id x y

-- an End whose parent waits, is given the result and takes its place
abbrev pub WakingEndsGoOn : Type 0
WakingEndsGoOn = (t : Table) (k : ℕ) (id : DequeId) (x y : Threads) (top parent given : Thread) (before later : List Thread) (ended : Ended)
    → OnlyIn id x y → x.in_lane id ≡ top ∷ [] → x.waiting ≡ before ++ parent ∷ later → y.in_lane id ≡ given ∷ []
    → IsPermutation (before ++ later) y.waiting → y.results ≡ x.results → (IsAtPoint t k top → IsResult t k ended)
    → (IsAtPoint t k parent → IsResult t k ended → IsAtPoint t k given) → GoOnIn t k id x y

-- an End for which nobody waits: the result is kept
abbrev pub LeavingEndsGoOn : Type 0
LeavingEndsGoOn = (t : Table) (k : ℕ) (id : DequeId) (x y : Threads) (top : Thread) (ended : Ended) → OnlyIn id x y
    → x.in_lane id ≡ top ∷ [] → y.in_lane id ≡ [] → y.waiting ≡ x.waiting → IsPermutation (ended ∷ x.results) y.results
    → (IsAtPoint t k top → IsResult t k ended) → GoOnIn t k id x y

-- the Join of a result that was kept, which the top thread is given first
abbrev pub KeptJoinsGoOn : Type 0
KeptJoinsGoOn = (t : Table) (k : ℕ) (id : DequeId) (x y : Threads) (top now : Thread) (under : List Thread) (ended : Ended)
    (before later : List Ended) → OnlyIn id x y → x.in_lane id ≡ top ∷ under → x.results ≡ before ++ ended ∷ later
    → y.in_lane id ≡ now ∷ under → y.waiting ≡ x.waiting → IsPermutation (before ++ later) y.results
    → (IsAtPoint t k top → IsResult t k ended → IsAtPoint t k now) → GoOnIn t k id x y
