-- What a Join does to the state of a thread.
use Rattle.std.specs.Prelude.{ℕ, Bool, List, [], ◌∷◌, filter}
use Rattle.thread_run.specs.Passed.Tree.{Name}
use Rattle.thread_state.specs.Passed.States.{State, joined}
use Rattle.thread_state.specs.Passed.Run.{no_name}
use Rattle.node_table.specs.Reading.{AreSlots}
use Rattle.thread_stack.specs.declared.branch.Branch.{Branch}
use Rattle.thread_stack.specs.declared.branch.Branch.TheVariants.{Par, Dummies}
use Rattle.thread_state.specs.States.{IsState, own_row}
use Rattle.thread_state.specs.Joins.{CanTakeIn}
use Rattle.thread_state.specs.declared.state.ThreadState.{ThreadState}

-- a child that ran a branch has the names of its parent; its integers of the slots `assigned` come back
abbrev pub JoinsBranch : (assigned : List ℕ) → (before after child : ThreadState) → Type 0
JoinsBranch assigned before after child =
    (contexts : List (List Name)) (names : List Name) (assigns : Name → Bool) (ordinal : ℕ) (d s : State)
    → IsState (names ∷ []) child d → AreSlots names assigned (filter assigns names) → IsState (names ∷ contexts) before s
    → IsState (names ∷ contexts) after (joined assigns ordinal d s)

-- one that ran dummies brings nothing
abbrev pub JoinsDummies : (before after child : ThreadState) → Type 0
JoinsDummies before after child =
    (contexts : List (List Name)) (ordinal : ℕ) (d s : State) → IsState ([] ∷ []) child d → IsState contexts before s
    → IsState contexts after (joined no_name ordinal d s)

abbrev pub JoinsState : Branch → (assigned : List ℕ) → (before after child : ThreadState) → Type 0
JoinsState (Par n) assigned before after child = JoinsBranch assigned before after child
JoinsState Dummies assigned before after child = JoinsDummies before after child

-- the child's row can be taken in, where it ran a branch and no fault ended it or its parent
abbrev pub CanJoin : Branch → (assigned : List ℕ) → (own child : ThreadState) → Type 0
CanJoin (Par n) assigned own child = CanTakeIn (own_row own) (own_row child) assigned
CanJoin Dummies assigned own child = Unit {0}
