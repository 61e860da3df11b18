-- What a step comes to, told by the step of the depth-first run.
use Rattle.std.specs.Prelude.{◌≡◌, ℕ, Bool, false, List, [], ◌∷◌, ◌++◌, length, None, Result, Ok, Err, MatchResult}
use Rattle.dag_order.specs.declared.fault.FaultKind.{FaultKind}
use Rattle.std.specs.declared.alloc.AllocError.{AllocError}
use Rattle.depth_first_list.specs.Actions as actions
use Rattle.par_tree.specs.Tree
use Rattle.par_tree.specs.Tree.{Name, Func}
use Rattle.thread_state.specs.Passed.Stores.{block_of, block_words}
use Rattle.thread_state.specs.Passed.States.{Setting, State, printed, with_action, with_fault}
use Rattle.thread_state.specs.Passed.Run.{free_block, names_in, no_name}
use Rattle.thread_state.specs.Passed.Middle as middles
use Rattle.thread_state.specs.Passed.Middle.{Middle, allocated, step_fork, does}
use Rattle.node_table.specs.Names.{IsSlot}
use Rattle.node_table.specs.Table.{Table}
use Rattle.thread_stack.specs.declared.branch.Branch.{Branch}
use Rattle.thread_stack.specs.declared.branch.Branch.TheVariants.{Par, Dummies}
use Rattle.thread_stack.specs.declared.frame.Frame.{Frame}
use Rattle.thread_stack.specs.declared.frame.Frame.TheVariants.{Tree as DummyTree}
use Rattle.thread_stack.specs.Frames.{AreFrames, IsFrame, IsJoinOf, IsParNode, names_now, frames_shown}
use Rattle.block_arena.specs.Size.{pieces_for}
use Rattle.thread_state.specs.Passed.Rows.{HasBlock, HasNone}
use Rattle.thread_state.specs.States.{own_row}
use Rattle.thread_state.specs.declared.state.ThreadState.{ThreadState}
use Rattle.thread_run.specs.Stands.{InState, Stands}
use Rattle.thread_run.specs.declared.ready.Ready.{Ready}
use Rattle.thread_run.specs.declared.ready.Ready.TheVariants.{Fork, Join, Alloc, Release, Dummy, Fault, End}
use Rattle.thread_run.specs.declared.ready.Forking.{Forking}
use Rattle.thread_run.specs.declared.done.Done.{Done}
use Rattle.thread_run.specs.declared.done.Done.TheVariants.{Silent, Prints, Acts}

-- an allocation of len numbers under the name of a slot, which has no block
pub record IsAlloc (gs : List Func) (u : ThreadState) (slot len : ℕ) (s after : State) : Type 0 where
  pub block : Name
  pub named : IsSlot (names_now gs) slot block
  pub does : after ≡ allocated block len s
  pub none : u.faulted ≡ false → HasNone (own_row u) slot

-- the block of a slot goes back, with its words
pub record IsRelease (gs : List Func) (u : ThreadState) (slot words : ℕ) (s after : State) : Type 0 where
  pub block : Name
  pub named : IsSlot (names_now gs) slot block
  pub does : after ≡ free_block block s
  pub going : u.faulted ≡ false
  pub has : HasBlock (own_row u) slot
  pub counted : words ≡ block_words (length (block_of s.store.blocks block))

-- the names that a branch takes with it: those that the first branch of its `par` writes, or none
abbrev pub IsTakenBy : Setting → Table → List Func → Branch → (Name → Bool) → Type 0
IsTakenBy c t gs (Par n) named = (a : Tree.Body) × (b : Tree.Body) × (named ≡ names_in a) × IsParNode c.program t (names_now gs) n a b
IsTakenBy c t gs Dummies named = named ≡ no_name

-- a child that runs dummies begins with a tree of them
abbrev pub IsWorkOf : Branch → Frame → Type 0
IsWorkOf (Par n) work = Unit {0}
IsWorkOf Dummies (DummyTree shape) = Unit {0}
IsWorkOf Dummies work = ⊥

-- a Fork: what the child and its parent do, with the names that pass and the integers that come back
pub record IsForkBy (c : Setting) (t : Table) (gs : List Func) (xs : List Frame) (fs : List middles.Frame) (s : State) (m : Middle)
    (forking : Forking) : Type 0 where
  pub named : Name → Bool
  pub assigned : Name → Bool
  pub work : middles.Part
  pub mine : middles.Part
  pub forks : m ≡ step_fork c named assigned work mine fs s
  pub behind : AreFrames c.program t gs xs fs
  pub taken : IsTakenBy c t gs forking.branch named
  pub joined : IsJoinOf c.program t (names_now gs) forking.branch assigned
  pub work_of : IsWorkOf forking.branch forking.work
  pub of_child : IsFrame c.program t gs forking.work (does work)
  pub of_parent : IsFrame c.program t gs forking.own (does mine)

-- The action that a step comes to, which leads from the state s, with fs behind it, to m. It is not done yet.
abbrev pub IsAction : Setting → Table → List Func → ThreadState → List Frame → List middles.Frame → State → Middle → Ready → Type 0
IsAction c t gs u xs fs s m (Fork forking) = IsForkBy c t gs xs fs s m forking
IsAction c t gs u xs fs s m (Join branch) = ⊥
IsAction c t gs u xs fs s m (Alloc slot len shell) =
    AreFrames c.program t gs xs m.frames × IsAlloc gs u slot len s m.state × (shell ≡ pieces_for len)
IsAction c t gs u xs fs s m (Release slot words) = AreFrames c.program t gs xs m.frames × IsRelease gs u slot words s m.state
IsAction c t gs u xs fs s m Dummy = AreFrames c.program t gs xs m.frames × (m.state ≡ with_action actions.dummy 0 s)
IsAction c t gs u xs fs s m (Fault fault) = AreFrames c.program t gs xs m.frames × (m.state ≡ with_fault fault.kind fault.line s)
IsAction c t gs u xs fs s m End = ⊥

-- What a step comes to, which leads from the state s, with fs behind it, to m. No call is opened or closed.
abbrev pub Comes : Setting → Table → List Func → ThreadState → List Frame → List middles.Frame → State → Middle → Done → Type 0
Comes c t gs u xs fs s m (Silent first next) =
    AreFrames c.program t gs (frames_shown first ++ (frames_shown next ++ xs)) m.frames
    × InState gs u m.state × (m.state.items ≡ s.items)
Comes c t gs u xs fs s m (Prints v) =
    AreFrames c.program t gs xs m.frames × InState gs u m.state × (m.state.items ≡ s.items ++ printed v ∷ [])
Comes c t gs u xs fs s m (Acts ready) = InState gs u s × IsAction c t gs u xs fs s m ready

-- where a thread stands, a step leads to what the depth-first run does there
abbrev pub Leads : Table → ℕ → Setting → Func → ThreadState → Done → ThreadState → (List middles.Frame → State → Middle) → Type 0
Leads t k c g before result after step =
    (gs : List Func) (xs : List Frame) (fs : List middles.Frame) (s : State) → Stands t k c g gs before xs fs s
    → Comes c t (g ∷ gs) after xs fs s (step fs s) result

-- or there is not enough memory, and the thread is as it was
abbrev pub LeadsOrWants : Table → ℕ → Setting → Func → ThreadState → Result Done AllocError → ThreadState
    → (List middles.Frame → State → Middle) → Type 0
LeadsOrWants t k c g before result after step =
    (gs : List Func) (xs : List Frame) (fs : List middles.Frame) (s : State) → Stands t k c g gs before xs fs s
    → MatchResult result (λ done. Comes c t (g ∷ gs) after xs fs s (step fs s) done) (λ _. InState (g ∷ gs) after s)

-- a statement without frames: nothing comes first, or the fault is told with its line
abbrev pub settled_done : ℕ → Result (Unit {0}) FaultKind → Done
settled_done line (Ok done) = Silent None None
settled_done line (Err kind) = Acts (Fault (record { kind = kind; line = line }))
