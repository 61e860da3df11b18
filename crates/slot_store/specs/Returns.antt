-- What a call takes back from the row of a function, and where its answer goes.
use Rattle.std.specs.Prelude.{◌≡◌, ℕ, ◌<◌, List, [], ◌∷◌, length, ℤ, Option, Some, None, Result, Ok, Err}
use Rattle.dag_order.specs.declared.fault.FaultKind.{FaultKind}
use Rattle.depth_first_run.specs.Passed.Tree.{Name, Param, Arg}
use Rattle.node_table.specs.Table
use Rattle.depth_first_run.specs.Stores.{Store, Held}
use Rattle.depth_first_run.specs.Calls as calls
use Rattle.depth_first_run.specs.Calls.{lent_back}
use Rattle.slot_store.specs.declared.answer.Answer.{Answer}
use Rattle.slot_store.specs.Rows.{Entry, blocks_at, with_blocks_at, HasBlock, HasNone}
use Rattle.slot_store.specs.Agreement.{ShowsStore}
use Rattle.slot_store.specs.Calls.{store_with, left_over, answer_shown}

-- the answer can go to the target: a block only to a slot that has none
abbrev pub Receives : List Entry → Table.Target → calls.Answer → Type 0
Receives row Table.unused (calls.number v) = Unit {0}
Receives row Table.unused (calls.items xs) = ⊥
Receives row (Table.integer s) (calls.number v) = s < length row
Receives row (Table.integer s) (calls.items xs) = ⊥
Receives row (Table.block s) (calls.number v) = ⊥
Receives row (Table.block s) (calls.items xs) = (s < length row) × HasNone row s

-- what a `return` hands to the caller is there
abbrev pub HasValue : List Entry → Table.RetValue → Type 0
HasValue row (Table.gives e) = Unit {0}
HasValue row (Table.hands s) = (s < length row) × HasBlock row s

abbrev pub HasAnswer : List Entry → Option Table.Ret → Type 0
HasAnswer row None = Unit {0}
HasAnswer row (Some r) = HasValue row r.value

-- a function hands this to its caller, and its slots are the store behind it; or the expression of its `return` faults
abbrev pub Answers : List Name → Result (calls.Answer × Store) FaultKind → Result Answer FaultKind → List Entry → Type 0
Answers names given (Ok answer) row = (behind : Store) × (given ≡ Ok (answer_shown answer, behind)) × ShowsStore names row behind
Answers names given (Err kind) row = given ≡ Err kind

-- the blocks that come back one after another are there, and come to slots that have none
abbrev pub CanComeBack : (caller callee : List Entry) → ℕ → Table.Arg → Type 0
CanComeBack caller callee q (Table.value e) = Unit {0}
CanComeBack caller callee q (Table.lend s) = HasBlock callee q × HasNone caller s
CanComeBack caller callee q (Table.give s) = Unit {0}

abbrev pub caller_again : (caller callee : List Entry) → ℕ → Table.Arg → List Entry
caller_again caller callee q (Table.value e) = caller
caller_again caller callee q (Table.lend s) = with_blocks_at caller s (blocks_at callee q)
caller_again caller callee q (Table.give s) = caller

abbrev pub callee_again : List Entry → ℕ → Table.Arg → List Entry
callee_again callee q (Table.value e) = callee
callee_again callee q (Table.lend s) = with_blocks_at callee q []
callee_again callee q (Table.give s) = callee

abbrev pub CanComeBackAll : (caller callee : List Entry) → List ℕ → List Table.Arg → Type 0
CanComeBackAll caller callee [] args = Unit {0}
CanComeBackAll caller callee (q ∷ qs) [] = Unit {0}
CanComeBackAll caller callee (q ∷ qs) (a ∷ args) =
    CanComeBack caller callee q a × CanComeBackAll (caller_again caller callee q a) (callee_again callee q a) qs args

-- some blocks have come back, and behind the rest the caller has `behind` and the function has left over `left`
abbrev pub ComesBack : (names callee_names : List Name) → List Param → List Arg → (behind : Store) → (left : List Held) → (Name → ℤ) →
    (caller callee : List Entry) → Type 0
ComesBack names callee_names qs args behind left integers caller callee =
    (own : Store) × (theirs : List Held) × (lent_back qs args theirs own ≡ behind) × (left_over qs args theirs ≡ left)
    × ShowsStore names caller own × ShowsStore callee_names callee (store_with integers theirs)
