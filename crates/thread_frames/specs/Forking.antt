-- What a Fork does to the state of a thread, and the state that the child has.
use Rattle.std.specs.Prelude.{◌≡◌, ℕ, Bool, List, [], ◌∷◌, filter}
use Rattle.language_limits.specs.declared.TheConstants.{MOST_TURNS}
use Rattle.thread_run.specs.Passed.Tree.{Name}
use Rattle.thread_state.specs.Passed.States.{Setting, State, Item, child_of, parent_of}
use Rattle.thread_state.specs.Passed.Run.{no_name}
use Rattle.node_table.specs.Reading.{AreSlots}
use Rattle.thread_stack.specs.declared.branch.Branch.{Branch}
use Rattle.thread_stack.specs.declared.branch.Branch.TheVariants.{Par, Dummies}
use Rattle.thread_state.specs.States.{IsState}
use Rattle.thread_state.specs.declared.state.ThreadState.{ThreadState}

-- the child of a branch has the names of its parent, and the blocks of the slots `named`
abbrev pub ForksBranch : (named : List ℕ) → (before after child : ThreadState) → Type 0
ForksBranch named before after child =
    (c : Setting) (contexts : List (List Name)) (names : List Name) (passes : Name → Bool) (items : List Item) (s : State)
    → c.most_turns ≡ MOST_TURNS → AreSlots names named (filter passes names) → IsState (names ∷ contexts) before s
    → IsState (names ∷ []) child (child_of c passes s) × IsState (names ∷ contexts) after (parent_of passes items s)

-- that of dummies has no names and no blocks
abbrev pub ForksDummies : (before after child : ThreadState) → Type 0
ForksDummies before after child =
    (c : Setting) (contexts : List (List Name)) (items : List Item) (s : State)
    → c.most_turns ≡ MOST_TURNS → IsState contexts before s
    → IsState ([] ∷ []) child (child_of c no_name s) × IsState contexts after (parent_of no_name items s)

abbrev pub ForksState : Branch → (named : List ℕ) → (before after child : ThreadState) → Type 0
ForksState (Par n) named before after child = ForksBranch named before after child
ForksState Dummies named before after child = ForksDummies before after child
