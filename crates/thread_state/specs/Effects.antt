-- What a call does to the state that a thread is in. A fault is an action of its own, which is done later: where a call answers one, the
-- thread is still where it was.
use Rattle.std.specs.Prelude.{◌≡◌, ℕ, List, Result, MatchResult}
use Rattle.std.specs.declared.alloc.AllocError.{AllocError}
use Rattle.dag_order.specs.declared.fault.FaultKind.{FaultKind}
use Rattle.depth_first_run.specs.Passed.Tree.{Name}
use Rattle.depth_first_run.specs.States.{State, with_fault}
use Rattle.thread_state.specs.States.{IsState}
use Rattle.thread_state.specs.declared.state.ThreadState.{ThreadState}
use Rattle.thread_state.specs.declared.stop.Stop.{Stop}
use Rattle.thread_state.specs.declared.stop.Stop.TheVariants as stops

-- a call leads to another state
abbrev pub Goes : (contexts next : List (List Name)) → ThreadState → ThreadState → (State → State) → Type 0
Goes contexts next before after f = (s : State) → IsState contexts before s → IsState next after (f s)

-- the fault of a statement at this line: the thread is still in the state s, which would lead to the fault
abbrev pub Faults : (contexts : List (List Name)) → ℕ → ThreadState → (State → State) → State → FaultKind → Type 0
Faults contexts line after f s kind = IsState contexts after s × (f s ≡ with_fault kind line s)

-- a call leads to another state, or to a fault at this line
abbrev pub GoesOrFaults : (contexts next : List (List Name)) → ℕ → ThreadState → Result (Unit {0}) FaultKind → ThreadState → (State → State) → Type 0
GoesOrFaults contexts next line before result after f = (s : State) → IsState contexts before s
    → MatchResult result (λ _. IsState next after (f s)) (Faults contexts line after f s)

-- what stands where a call stops: a fault, or want of memory, after which the thread is as it was
abbrev pub OnStop : (contexts : List (List Name)) → ℕ → ThreadState → (State → State) → State → Stop → Type 0
OnStop contexts line after f s (stops.Fault kind) = Faults contexts line after f s kind
OnStop contexts line after f s stops.OutOfMemory = IsState contexts after s

-- a call leads to another state, or stops
abbrev pub GoesOrStops : (contexts next : List (List Name)) → ℕ → ThreadState → Result (Unit {0}) Stop → ThreadState → (State → State) → Type 0
GoesOrStops contexts next line before result after f = (s : State) → IsState contexts before s
    → MatchResult result (λ _. IsState next after (f s)) (OnStop contexts line after f s)

-- a call leads to another state, or there is not enough memory, and the thread is as it was
abbrev pub GoesOrWants : (contexts next : List (List Name)) → ThreadState → Result (Unit {0}) AllocError → ThreadState → (State → State) → Type 0
GoesOrWants contexts next before result after f = (s : State) → IsState contexts before s
    → MatchResult result (λ _. IsState next after (f s)) (λ _. IsState contexts after s)
