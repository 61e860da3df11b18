-- A thread while it runs, and what single actions do to it.
use Rattle.std.specs.Prelude.{ℕ, zero, suc, ◌+◌, Bool, true, false, nat_lt, List, [], ◌∷◌, ◌++◌, ℤ, Ok, Err}
use Rattle.depth_first_list.specs.Passed.LabelOrder.{fork_of}
use Rattle.depth_first_list.specs.Passed.FaultKind.{FaultKind}
use Rattle.depth_first_list.specs.Passed.FaultKindVariants as faults
use Rattle.depth_first_list.specs.Passed.FaultAt.{FaultAt}
use Rattle.depth_first_list.specs.Actions as actions
use Rattle.depth_first_list.specs.Actions.{Action, Deed, record_words}
use Rattle.par_tree.specs.Tree.{Name, Program}
use Rattle.depth_first_run.specs.Stores.{Store, nothing, those_named, those_not_named, held_words, stored_words}
use Rattle.depth_first_run.specs.Values.{Outcome}

-- What a run is of: a program and the quota k in words; and its limits, the open calls and the loop rounds and calls
-- that a thread may have, and the forks that may stand above one another.
pub record Setting : Type 0 where
  pub program : Program
  pub quota : ℕ
  pub most_calls : ℕ
  pub most_turns : ℕ
  pub most_forks : ℕ

-- what a run leaves, in depth-first order: the mark of a statement of this line that begins, an action, a printed
-- number, the mark of a fault
pub data Item : Type 0 where
  began : ℕ → Item
  acted : Action → Item
  printed : ℤ → Item
  failed : FaultAt → Item

-- A thread: its label; how many actions and how many forks it has done; whether a fault ended its work; what it can
-- reach, and the stores of the callers of its open calls, the innermost first; how many calls are open, those at the
-- forks above it among them; the loop rounds and calls that it may still have; and the items of the run so far.
pub record State : Type 0 where
  pub label : List ℕ
  pub done : ℕ
  pub forks : ℕ
  pub faulted : Bool
  pub store : Store
  pub callers : List Store
  pub calls : ℕ
  pub turns : ℕ
  pub items : List Item

-- one item more
abbrev pub with_item : Item → State → State
with_item item s = record s { items = s.items ++ item ∷ [] }

-- the next action of the thread
abbrev pub next_action : Deed → ℕ → State → Item
next_action deed words s = acted record { label = s.label; index = s.done; deed = deed; words = words }

-- it does an action
unfoldable pub with_action : Deed → ℕ → State → State
with_action deed words s = record s { done = suc s.done; items = s.items ++ next_action deed words s ∷ [] }

-- the words that the thread holds, in all its open calls
abbrev pub holdings : State → ℕ
holdings s = held_words s.store.blocks + stored_words s.callers

-- a fault ended the work of the thread, which holds nothing from now on
abbrev pub emptied : State → State
emptied s = record s { faulted = true; store = nothing; callers = [] }

-- a fault at a line: the action that gives back all that the thread holds, and its mark
unfoldable pub with_fault : FaultKind → ℕ → State → State
with_fault kind line s =
    emptied (with_item (failed (record { kind = kind; line = line })) (with_action actions.faults (holdings s) s))

-- a thread that no fault has ended goes on; one that a fault ended skips its statements
abbrev pub skip_if : Bool → (State → State) → State → State
skip_if true f s = s
skip_if false f s = f s

unfoldable pub unless_faulted : (State → State) → State → State
unless_faulted f s = skip_if s.faulted f s

-- what follows a number, or a fault at the line
unfoldable pub with_number : ℕ → Outcome → (ℤ → State → State) → State → State
with_number line (Ok v) f s = f v s
with_number line (Err kind) f s = with_fault kind line s

-- a loop round or a call is a turn, where the thread may have one more
abbrev pub with_turns : ℕ → ℕ → (State → State) → State → State
with_turns zero line f s = with_fault faults.Turns line s
with_turns (suc left) line f s = f (record s { turns = left })

unfoldable pub with_turn : ℕ → (State → State) → State → State
with_turn line f s = with_turns s.turns line f s

-- what may be done only where a number is below its limit, else the fault Depth
abbrev pub under_limit : Bool → ℕ → (State → State) → State → State
under_limit true line f s = f s
under_limit false line f s = with_fault faults.Depth line s

unfoldable pub with_depth : ℕ → ℕ → ℕ → (State → State) → State → State
with_depth depth most line f s = under_limit (nat_lt depth most) line f s

-- A forked child as it begins: it has copies of the integers, and the blocks whose names pass. The Fork takes the
-- words of its record block, which is in no store.
abbrev pub child_of : Setting → (Name → Bool) → State → State
child_of c named s = record {
  label = fork_of s.label (suc s.forks);
  done = 0;
  forks = 0;
  faulted = false;
  store = record { integers = s.store.integers; blocks = those_named named s.store.blocks };
  callers = [];
  calls = s.calls;
  turns = c.most_turns;
  items = s.items ++ next_action (actions.forks (suc s.forks)) record_words s ∷ [];
}

-- its parent, which goes on with the other blocks behind all that the child left
abbrev pub parent_of : (Name → Bool) → List Item → State → State
parent_of named items s = record s {
  done = suc s.done;
  forks = suc s.forks;
  store = record { integers = s.store.integers; blocks = those_not_named named s.store.blocks };
  items = items;
}

-- the last action of a thread, which gives back the words of its record block
unfoldable pub ended : ℕ → State → State
ended words s = with_action actions.ends words s

-- The words that a Join gives back: those that the child brings to a thread that a fault ended; those of the thread,
-- where a fault ended the child; else none.
abbrev pub given_back : (parent child : Bool) → State → State → ℕ
given_back true child c s = held_words c.store.blocks
given_back false true c s = holdings s
given_back false false c s = 0

-- the integers that the child's branch assigned are the child's
abbrev pub taken_integers : (Name → Bool) → (Name → ℤ) → (Name → ℤ) → Name → ℤ
taken_integers assigned child own x = choice (assigned x)
  where
    choice : Bool → ℤ
    choice true = child x
    choice false = own x

-- what the thread has behind the Join: the blocks that the child still holds come back, with the integers that its
-- branch assigned; a thread that a fault ended, or whose child one ended, has nothing
abbrev pub with_result : (parent child : Bool) → (Name → Bool) → State → State → State
with_result true child assigned c s = s
with_result false true assigned c s = emptied s
with_result false false assigned c s = record s {
  store = record { integers = taken_integers assigned c.store.integers s.store.integers; blocks = s.store.blocks ++ c.store.blocks };
}

-- the Join of a child that has ended
unfoldable pub joined : (Name → Bool) → (child : ℕ) → State → State → State
joined assigned child c s =
    with_result s.faulted c.faulted assigned c (with_action (actions.joins child) (given_back s.faulted c.faulted c s) s)

-- behind the whole run of a child the thread does its own part, and joins the child
unfoldable pub own_part_then_join : (named assigned : Name → Bool) → (own : State → State) → State → State → State
own_part_then_join named assigned own s c = joined assigned (suc s.forks) c (own (parent_of named c.items s))

-- A thread forks a child that does its work, does its own part, and then joins the child. Both parts are done, also
-- where one of them faults.
unfoldable pub fork_join : Setting → (named assigned : Name → Bool) → (work own : State → State) → State → State
fork_join c named assigned work own s = own_part_then_join named assigned own s (ended record_words (work (child_of c named s)))
