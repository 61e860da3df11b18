-- What a caller may use: a run depends on the store that it begins with, and on nothing else of its thread.
use Rattle.std.specs.Prelude.{◌≡◌, ℕ, false, List, [], map, pos, ◌+ℤ◌, Some}
use Rattle.depth_first_list.specs.Actions.{live_words, peak}
use Rattle.par_tree.specs.Tree.{Name, Expr, Arg, value, integer, Body, Param, Func}
use Rattle.par_ownership.specs.Environment.{Environment}
use Rattle.par_ownership.specs.Ownership.{Ownership, OwnsAll, function_of, hands_back}
use Rattle.depth_first_run.specs.Stores.{Store, Held}
use Rattle.depth_first_run.specs.States.{Setting, State, holdings}
use Rattle.depth_first_run.specs.Calls.{Passing, lent_back}
use Rattle.depth_first_run.specs.Run.{open_call, run, actions_of}
use Rattle.ownership_laws.specs.Laws.{HoldsFor}
use Rattle.loop_laws.specs.Outcomes.{added, KeepsLimits, SameOutcome, SameAnswer, TakesIntegers}

-- Statements that begin with the same store come to the same, whatever their threads are, unless a limit is met.
abbrev pub RunsDependOnTheStore : Type 0
RunsDependOnTheStore =
    (c : Setting) (b : Body) (s t : State) → s.store ≡ t.store → s.faulted ≡ false → t.faulted ≡ false
    → KeepsLimits (added s (run c b s)) → KeepsLimits (added t (run c b t)) → SameOutcome s (run c b s) t (run c b t)

-- Calls of a function that pass the same come to the same, whoever their callers are, unless a limit is met.
abbrev pub CallsDependOnTheArguments : Type 0
CallsDependOnTheArguments =
    (c : Setting) (line line' : ℕ) (x y : Name) (args args' : List Arg) (g : Func) (h h' : Passing) (s t : State)
    → h.callee ≡ h'.callee → hands_back g.ret ≡ false → s.faulted ≡ false → t.faulted ≡ false
    → KeepsLimits (added s (open_call c (run c) line (integer x) args g h s))
    → KeepsLimits (added t (open_call c (run c) line' (integer y) args' g h' t))
    → SameAnswer g.params x y args args' h h' s (open_call c (run c) line (integer x) args g h s) t (open_call c (run c) line' (integer y) args' g h' t)

-- Statements that begin with the same store take the same words at most beyond those that were in use before them.
abbrev pub PeaksDependOnTheStore : Type 0
PeaksDependOnTheStore =
    (c : Setting) (b : Body) (s t : State) → s.store ≡ t.store → s.faulted ≡ false → t.faulted ≡ false
    → KeepsLimits (added s (run c b s)) → KeepsLimits (added t (run c b t))
    → peak (actions_of (added s (run c b s))) ≡ peak (actions_of (added t (run c b t)))

-- Calls of a function that pass the same take the same words at most beyond those that were in use before them.
abbrev pub PeaksOfCallsDependOnTheArguments : Type 0
PeaksOfCallsDependOnTheArguments =
    (c : Setting) (line line' : ℕ) (x y : Name) (args args' : List Arg) (g : Func) (h h' : Passing) (s t : State)
    → h.callee ≡ h'.callee → hands_back g.ret ≡ false → s.faulted ≡ false → t.faulted ≡ false
    → KeepsLimits (added s (open_call c (run c) line (integer x) args g h s))
    → KeepsLimits (added t (open_call c (run c) line' (integer y) args' g h' t))
    → peak (actions_of (added s (open_call c (run c) line (integer x) args g h s)))
    ≡ peak (actions_of (added t (open_call c (run c) line' (integer y) args' g h' t)))

-- Where a call passes integers alone, its caller goes on with its own blocks.
abbrev pub IntegersLendNothing : Type 0
IntegersLendNothing = (params : List Param) (es : List Expr) (blocks : List Held) (caller : Store) → lent_back params (map value es) blocks caller ≡ caller

-- In an accepted program the weights of the actions of a list of statements that keeps the rules are together the change
-- of the words that its thread holds in all its open calls.
abbrev pub WeightsAreTheChange : Type 0
WeightsAreTheChange =
    (c : Setting) → Ownership c.program → (b : Body) (env after : Environment) (s : State) → OwnsAll c.program b env after
    → s.faulted ≡ false → HoldsFor b env s
    → pos (holdings (run c b s)) ≡ pos (holdings s) +ℤ live_words (actions_of (added s (run c b s)))

-- In an accepted program a call that passes integers alone and answers an integer has given back all the words that it
-- took, unless a fault ended it.
abbrev pub CallsOfIntegersGiveAllBack : Type 0
CallsOfIntegersGiveAllBack =
    (c : Setting) → Ownership c.program → (line : ℕ) (f x : Name) (args : List Arg) (g : Func) (h : Passing) (s : State)
    → function_of c.program f ≡ Some g → TakesIntegers g.params → hands_back g.ret ≡ false → h.callee.blocks ≡ [] → s.faulted ≡ false
    → State.faulted (open_call c (run c) line (integer x) args g h s) ≡ false
    → live_words (actions_of (added s (open_call c (run c) line (integer x) args g h s))) ≡ pos 0
