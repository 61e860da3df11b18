-- Where a call begins and where it ends.
use Rattle.std.specs.Prelude.{◌≡◌, ℕ, Bool, true, false, List, ◌∷◌, Option, Some, None, slice_get, Result, MatchResult}
use Rattle.std.specs.declared.alloc.AllocError.{AllocError}
use Rattle.par_tree.specs.Tree.{Name, Func, Target, Arg, call_stmt}
use Rattle.par_ownership.specs.Ownership.{function_of}
use Rattle.thread_state.specs.Passed.States.{Setting, State, with_fault}
use Rattle.thread_state.specs.Passed.Middle as middles
use Rattle.thread_state.specs.Passed.Middle.{Middle, step_call}
use Rattle.node_table.specs.Names.{slot_names}
use Rattle.node_table.specs.Table as tables
use Rattle.node_table.specs.Table.{Kind, call_node, Function, Table}
use Rattle.thread_stack.specs.Frames.{AreFrames, IsNode, RunsIn}
use Rattle.thread_state.specs.Passed.Rows.{Entry}
use Rattle.thread_state.specs.Calls.{CanCall, CanEnd, CanEndMain}
use Rattle.thread_state.specs.Settings.{IsSettingOf}
use Rattle.thread_run.specs.Stands.{InState}
use Rattle.thread_run.specs.declared.ready.Ready.{Ready}
use Rattle.thread_run.specs.declared.ready.Ready.TheVariants.{Fault}
use Rattle.thread_run.specs.declared.run.ThreadRun.{ThreadRun}
use Rattle.thread_run.specs.Functions.{frames_of}

-- what a node does is a call
abbrev pub is_call : Option Kind → Bool
is_call (Some (call_node to func from)) = true
is_call other = false

-- the function of a call is there
abbrev pub IsThere : Option Function → Type 0
IsThere None = ⊥
IsThere (Some f) = Unit {0}

abbrev pub HasCallee : Table → Option Kind → Type 0
HasCallee t (Some (call_node to func from)) = IsThere (slice_get t.funcs func)
HasCallee t other = ⊥

-- what must stand in a row where the call of a node begins
abbrev pub CanCallFunction : List Entry → List tables.Arg → Option Function → Type 0
CanCallFunction row from None = ⊥
CanCallFunction row from (Some f) = CanCall f.slots row f.params from

abbrev pub CanCallAt : Table → List Entry → Option Kind → Type 0
CanCallAt t row (Some (call_node to func from)) = CanCallFunction row from (slice_get t.funcs func)
CanCallAt t row other = ⊥

-- and in the rows where it ends
abbrev pub CanEndFunction : List (List Entry) → tables.Target → List tables.Arg → Option Function → Type 0
CanEndFunction rows to from None = ⊥
CanEndFunction rows to from (Some f) = CanEnd rows f.params from to f.ret

abbrev pub CanEndAt : Table → List (List Entry) → Option Kind → Type 0
CanEndAt t rows (Some (call_node to func from)) = CanEndFunction rows to from (slice_get t.funcs func)
CanEndAt t rows other = ⊥

-- and where `main` ends, which the table has under its own number
abbrev pub main_code : Table → Option Function
main_code t = slice_get t.funcs t.main

abbrev pub CanEndMainBy : List Entry → Option Function → Type 0
CanEndMainBy row None = ⊥
CanEndMainBy row (Some f) = CanEndMain row f.ret

-- The call of a node, which leads from the state s to m: the function begins, or a fault comes.
abbrev pub Begins : Setting → Table → List Func → ThreadRun → State → Middle → Option Ready → Type 0
Begins c t gs after s m None =
    (hs : List Func) × RunsIn c.program t after.func hs × AreFrames c.program t hs (frames_of after) m.frames
    × InState hs after.state m.state × (m.state.items ≡ s.items)
Begins c t gs after s m (Some (Fault fault)) =
    RunsIn c.program t after.func gs × AreFrames c.program t gs (frames_of after) m.frames × InState gs after.state s
    × (m.state ≡ with_fault fault.kind fault.line s)
Begins c t gs after s m (Some other) = ⊥

abbrev pub BeginsRun : Table → ℕ → (before : ThreadRun) → (node : ℕ) → Result (Option Ready) AllocError → (after : ThreadRun) → Type 0
BeginsRun t k before n result after =
    (c : Setting) (g : Func) (gs : List Func) (line : ℕ) (target : Target) (callee : Name) (args : List Arg) (fs : List middles.Frame)
    (s : State) → IsSettingOf t k c → RunsIn c.program t before.func (g ∷ gs)
    → IsNode c.program t (slot_names g) n line (call_stmt target callee args) → AreFrames c.program t (g ∷ gs) (frames_of before) fs
    → InState (g ∷ gs) before.state s
    → MatchResult result (λ o. Begins c t (g ∷ gs) after s (step_call c line target args (function_of c.program callee) fs s) o)
    (λ _. InState (g ∷ gs) after.state s)
