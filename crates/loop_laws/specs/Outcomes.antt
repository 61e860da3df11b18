-- What is told of a part of a run, and when two parts of runs come to the same.
use Rattle.std.specs.Prelude.{◌≡◌, Bool, true, false, List, [], ◌∷◌, length, drop, ℤ}
use Rattle.dag_order.specs.declared.fault.FaultAt.{FaultAt}
use Rattle.dag_order.specs.declared.fault.FaultKind.{FaultKind}
use Rattle.dag_order.specs.declared.fault.FaultKind.TheVariants.{Index, Divide, Size, Split, Depth, Turns}
use Rattle.par_tree.specs.Tree.{Name, Arg, Param, by_value}
use Rattle.depth_first_run.specs.Stores.{Held, with_integer}
use Rattle.depth_first_run.specs.States.{State, Item, began, acted, printed, failed}
use Rattle.depth_first_run.specs.Calls.{Passing, lent_back}

-- what is told of a run: a printed number, or a fault with its line
pub data Mark : Type 0 where
  number : ℤ → Mark
  fault : FaultAt → Mark

-- the marks among the items, without the beginnings of statements and the actions
abbrev pub marks_of : List Item → List Mark
marks_of [] = []
marks_of (began line ∷ items) = marks_of items
marks_of (acted a ∷ items) = marks_of items
marks_of (printed v ∷ items) = number v ∷ marks_of items
marks_of (failed f ∷ items) = fault f ∷ marks_of items

-- the items that the second state has behind those of the first
abbrev pub added : State → State → List Item
added s t = drop (length s.items) t.items

-- a fault that comes where a thread meets one of the limits of the language, and not from what it computes
abbrev pub is_limit : FaultKind → Bool
is_limit Index = false
is_limit Divide = false
is_limit Size = false
is_limit Split = false
is_limit Depth = true
is_limit Turns = true

-- no fault among the items is a limit
abbrev pub KeepsLimits : List Item → Type 0
KeepsLimits [] = Unit {0}
KeepsLimits (began line ∷ items) = KeepsLimits items
KeepsLimits (acted a ∷ items) = KeepsLimits items
KeepsLimits (printed v ∷ items) = KeepsLimits items
KeepsLimits (failed f ∷ items) = (is_limit f.kind ≡ false) × KeepsLimits items

-- the thread is where it was: it has the label, the open calls and the stores of their callers that it had before
pub record ComesBack (s t : State) : Type 0 where
  pub label : t.label ≡ s.label
  pub callers : t.callers ≡ s.callers
  pub calls : t.calls ≡ s.calls

-- Two parts of runs, from s to s' and from t to t', come to the same: the same is told of them, a fault ended both or
-- none, and where none did, they leave the same store, each in its own thread.
pub record SameOutcome (s s' t t' : State) : Type 0 where
  pub told : marks_of (added s s') ≡ marks_of (added t t')
  pub faulted : s'.faulted ≡ t'.faulted
  pub left : s'.faulted ≡ false → (s'.store ≡ t'.store) × ComesBack s s' × ComesBack t t'

-- Two calls of a function, from s to s' and from t to t', whose callers keep `caller` and `caller'`, and whose answers go
-- to x and y, come to the same: the same is told of them, a fault ended both or none, and where none did, both answer
-- the same number and leave the same blocks, those that were lent.
pub record SameAnswer (params : List Param) (x y : Name) (args args' : List Arg) (h h' : Passing) (s s' t t' : State) : Type 0 where
  pub told : marks_of (added s s') ≡ marks_of (added t t')
  pub faulted : s'.faulted ≡ t'.faulted
  pub left : s'.faulted ≡ false → (v : ℤ) × (blocks : List Held)
      × (s'.store ≡ with_integer x v (lent_back params args blocks h.caller))
      × (t'.store ≡ with_integer y v (lent_back params args' blocks h'.caller))
      × ComesBack s s' × ComesBack t t'

-- a function takes integers alone
abbrev pub TakesIntegers : List Param → Type 0
TakesIntegers [] = Unit {0}
TakesIntegers (q ∷ qs) = (q.kind ≡ by_value) × TakesIntegers qs
