-- What a caller may use: an accepted program keeps its ownership promises when it runs.
use Rattle.std.specs.Prelude.{◌≡◌, ℕ, ◌⊎◌, true, false, List, [], ◌∷◌, pos}
use Rattle.depth_first_run.specs.Passed.Actions.{live_words}
use Rattle.depth_first_run.specs.Passed.Tree.{Name, Program, Stmt, Body, step}
use Rattle.depth_first_run.specs.Passed.Environment.{Environment}
use Rattle.depth_first_run.specs.Passed.Names.{names_in_stmt, names_in_body}
use Rattle.depth_first_run.specs.Passed.Ownership.{Ownership, Owns, OwnsAll}
use Rattle.depth_first_run.specs.States.{Setting, State}
use Rattle.depth_first_run.specs.Run.{run, whole, actions_of}
use Rattle.depth_first_run.specs.Middle.{Frame, does, statements, middle}
use Rattle.ownership_laws.specs.Counts.{count, held_in}
use Rattle.ownership_laws.specs.Needs.{needs_block, end_needs}
use Rattle.thread_points.specs.Points.{after_steps}

-- of each name that the list writes, the thread holds as many blocks as the environment says: one or none
abbrev pub HoldsFor : Body → Environment → State → Type 0
HoldsFor b env s = (x : Name) → names_in_body x b ≡ true → count s.store.blocks x ≡ held_in env x

-- a fault ended the thread, which holds nothing and has no open call
abbrev pub HasStopped : State → Type 0
HasStopped t = (t.faulted ≡ true) × (t.store.blocks ≡ []) × (t.callers ≡ [])

-- the thread goes on behind the list: it holds of the names of the list what the last environment says, of other names
-- what it held before, and the same calls are open
abbrev pub GoesOn : Body → Environment → State → State → Type 0
GoesOn b after s t =
    (t.faulted ≡ false) × (t.callers ≡ s.callers) × HoldsFor b after t
    × ((x : Name) → names_in_body x b ≡ false → count t.store.blocks x ≡ count s.store.blocks x)

-- a thread holds what the rules say: a list that keeps the rules, begun with what its first environment says, ends with
-- what its last environment says, or by a fault
abbrev pub RunsHoldWhatTheRulesSay : Type 0
RunsHoldWhatTheRulesSay =
    (c : Setting) → Ownership c.program → (b : Body) (env after : Environment) (s : State) → OwnsAll c.program b env after
    → s.faulted ≡ false → HoldsFor b env s → HasStopped (run c b s) ⊎ GoesOn b after s (run c b s)

-- the root of an accepted program ends with no block and no open call
abbrev pub NothingIsHeldAtTheEnd : Type 0
NothingIsHeldAtTheEnd = (c : Setting) → Ownership c.program → ((State.store (whole c)).blocks ≡ []) × (State.callers (whole c) ≡ [])

-- all words of an accepted program are given back
abbrev pub LiveWordsEndAtZero : Type 0
LiveWordsEndAtZero = (c : Setting) → Ownership c.program → live_words (actions_of (State.items (whole c))) ≡ pos 0

-- where a statement begins, and the thread holds of its names what the environment says, each block that it needs is
-- there, once
abbrev pub StatementsFindTheirBlocks : Type 0
StatementsFindTheirBlocks = (p : Program) (line : ℕ) (stmt : Stmt) (env after : Environment) (s : State) → Owns p line stmt env after
    → ((x : Name) → names_in_stmt x stmt ≡ true → count s.store.blocks x ≡ held_in env x) → (x : Name) → needs_block x stmt ≡ true
    → count s.store.blocks x ≡ 1

-- at each point of the run of an accepted program, where a statement comes next in a thread that no fault has ended: it
-- keeps the rules from an environment that says what the thread holds of the names of the statement. So a call finds its
-- function, and each name is of the kind that its place wants
abbrev pub EachStatementKeepsTheRules : Type 0
EachStatementKeepsTheRules = (c : Setting) → Ownership c.program → (n line : ℕ) (stmt : Stmt) (rest : Body) (fs : List Frame) (s : State)
    → after_steps c n ≡ middle (does (statements (step line stmt rest)) ∷ fs) s → s.faulted ≡ false
    → (env : Environment) × (after : Environment) × Owns c.program line stmt env after
    × ((x : Name) → names_in_stmt x stmt ≡ true → count s.store.blocks x ≡ held_in env x)

-- at each such point the statement finds each block that it needs, once
abbrev pub EachStatementFindsItsBlocks : Type 0
EachStatementFindsItsBlocks = (c : Setting) → Ownership c.program → (n line : ℕ) (stmt : Stmt) (rest : Body) (fs : List Frame) (s : State)
    → after_steps c n ≡ middle (does (statements (step line stmt rest)) ∷ fs) s → s.faulted ≡ false → (x : Name)
    → needs_block x stmt ≡ true → count s.store.blocks x ≡ 1

-- at each point of the run of an accepted program, where the end of a call, of `main` or of a `split` comes next in a
-- thread that no fault has ended: it finds each block that it needs, once
abbrev pub EachEndFindsItsBlocks : Type 0
EachEndFindsItsBlocks = (c : Setting) → Ownership c.program → (n : ℕ) (f : Frame) (fs : List Frame) (s : State)
    → after_steps c n ≡ middle (f ∷ fs) s → s.faulted ≡ false → (x : Name) → end_needs x f ≡ true → count s.store.blocks x ≡ 1
