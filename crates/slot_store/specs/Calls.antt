-- What a call passes to the row of a function, and takes back from it.
use Rattle.std.specs.Prelude.{◌≡◌, ℕ, false, List, [], ◌∷◌, ℤ, pos, Option, Some, None, Result, Ok, Err}
use Rattle.dag_order.specs.declared.fault.FaultKind.{FaultKind}
use Rattle.depth_first_run.specs.Passed.Tree
use Rattle.depth_first_run.specs.Passed.Tree.{Name, Param, Arg, Ret, RetValue}
use Rattle.node_table.specs.Table
use Rattle.depth_first_run.specs.Stores.{Store, Held, block_of, without, drop_block}
use Rattle.depth_first_run.specs.Values.{Outcome, value}
use Rattle.depth_first_run.specs.Calls as calls
use Rattle.depth_first_run.specs.Calls.{Passing, passed}
use Rattle.slot_store.specs.declared.answer.Answer.{Answer}
use Rattle.slot_store.specs.declared.answer.Answer.TheVariants as answers
use Rattle.slot_store.specs.Rows.{Entry, blocks_at, with_blocks_at, HasBlock, HasNone}
use Rattle.slot_store.specs.Agreement.{ShowsStore}
use Rattle.slot_store.specs.Forks.{is_in}

-- each slot of a list stands in it once
abbrev pub EachOnce : List ℕ → Type 0
EachOnce [] = Unit {0}
EachOnce (s ∷ rest) = (is_in s rest ≡ false) × EachOnce rest

-- each slot of a list has a block in the row; has none
abbrev pub EachHasBlock : List Entry → List ℕ → Type 0
EachHasBlock row [] = Unit {0}
EachHasBlock row (s ∷ rest) = HasBlock row s × EachHasBlock row rest

abbrev pub EachHasNone : List Entry → List ℕ → Type 0
EachHasNone row [] = Unit {0}
EachHasNone row (s ∷ rest) = HasNone row s × EachHasNone row rest

-- the slots whose blocks a call passes
abbrev pub passed_slots : List Table.Arg → List ℕ
passed_slots [] = []
passed_slots (Table.value e ∷ args) = passed_slots args
passed_slots (Table.lend s ∷ args) = s ∷ passed_slots args
passed_slots (Table.give s ∷ args) = s ∷ passed_slots args

-- of the arguments of a call, those that are lent: the slots of the function that is called, and those of its caller
abbrev pub lent_params : List ℕ → List Table.Arg → List ℕ
lent_params [] args = []
lent_params (q ∷ qs) [] = []
lent_params (q ∷ qs) (Table.value e ∷ args) = lent_params qs args
lent_params (q ∷ qs) (Table.lend s ∷ args) = q ∷ lent_params qs args
lent_params (q ∷ qs) (Table.give s ∷ args) = lent_params qs args

abbrev pub lent_slots : List ℕ → List Table.Arg → List ℕ
lent_slots [] args = []
lent_slots (q ∷ qs) [] = []
lent_slots (q ∷ qs) (Table.value e ∷ args) = lent_slots qs args
lent_slots (q ∷ qs) (Table.lend s ∷ args) = s ∷ lent_slots qs args
lent_slots (q ∷ qs) (Table.give s ∷ args) = lent_slots qs args

-- these integers with these blocks
abbrev pub store_with : (Name → ℤ) → List Held → Store
store_with integers blocks = record { integers = integers; blocks = blocks }

-- a call passes its arguments; or one of them faults, and its caller's slots are as they were
abbrev pub Passes : (names callee_names : List Name) → Result Passing FaultKind → Store → Result (Unit {0}) FaultKind →
    (caller callee : List Entry) → Type 0
Passes names callee_names all store (Ok done) caller callee =
    (h : Passing) × (all ≡ Ok h) × ShowsStore names caller h.caller × ShowsStore callee_names callee h.callee
Passes names callee_names all store (Err kind) caller callee = (all ≡ Err kind) × ShowsStore names caller store

-- an argument is passed, whose integer comes to its slot, and the rest is left to pass; or it faults
abbrev pub PassesInteger : (callee_names : List Name) → Store → Param → Arg → List Held → Passing → Result (Unit {0}) FaultKind →
    List Entry → Type 0
PassesInteger callee_names s q a blocks g (Ok done) callee =
    (h : Passing) × ((qs : List Param) (args : List Arg) → passed s (q ∷ qs) (a ∷ args) g ≡ passed s qs args h)
    × ShowsStore callee_names callee (store_with h.callee.integers blocks)
PassesInteger callee_names s q a blocks g (Err kind) callee =
    (qs : List Param) (args : List Arg) → passed s (q ∷ qs) (a ∷ args) g ≡ Err kind

abbrev pub PassesIntegers : (callee_names : List Name) → Store → List Param → List Arg → List Held → Passing →
    Result (Unit {0}) FaultKind → List Entry → Type 0
PassesIntegers callee_names s qs args blocks g (Ok done) callee =
    (h : Passing) × (passed s qs args g ≡ Ok h) × ShowsStore callee_names callee (store_with h.callee.integers blocks)
PassesIntegers callee_names s qs args blocks g (Err kind) callee = passed s qs args g ≡ Err kind

-- the blocks that are passed one after another are there, and come to slots that have none
abbrev pub CanPass : (caller callee : List Entry) → ℕ → Table.Arg → Type 0
CanPass caller callee q (Table.value e) = Unit {0}
CanPass caller callee q (Table.lend s) = HasBlock caller s × HasNone callee q
CanPass caller callee q (Table.give s) = HasBlock caller s × HasNone callee q

abbrev pub caller_behind : List Entry → Table.Arg → List Entry
caller_behind caller (Table.value e) = caller
caller_behind caller (Table.lend s) = with_blocks_at caller s []
caller_behind caller (Table.give s) = with_blocks_at caller s []

abbrev pub callee_behind : (caller callee : List Entry) → ℕ → Table.Arg → List Entry
callee_behind caller callee q (Table.value e) = callee
callee_behind caller callee q (Table.lend s) = with_blocks_at callee q (blocks_at caller s)
callee_behind caller callee q (Table.give s) = with_blocks_at callee q (blocks_at caller s)

abbrev pub CanPassAll : (caller callee : List Entry) → List ℕ → List Table.Arg → Type 0
CanPassAll caller callee [] args = Unit {0}
CanPassAll caller callee (q ∷ qs) [] = Unit {0}
CanPassAll caller callee (q ∷ qs) (a ∷ args) =
    CanPass caller callee q a × CanPassAll (caller_behind caller a) (callee_behind caller callee q a) qs args

-- the block of an argument moves, and the rest is left to pass
abbrev pub PassesBlocks : (names callee_names : List Name) → Store → List Param → List Arg → (own theirs : Name → ℤ) → Passing →
    (caller callee : List Entry) → Type 0
PassesBlocks names callee_names s qs args own theirs h caller callee =
    (g : Passing) × (passed s qs args g ≡ Ok h) × ShowsStore names caller (store_with own g.caller.blocks)
    × ShowsStore callee_names callee (store_with theirs g.callee.blocks)

-- what a function still holds when its lent blocks have come back
abbrev pub left_over : List Param → List Arg → List Held → List Held
left_over [] args callee = callee
left_over (q ∷ qs) [] callee = callee
left_over (q ∷ qs) (Tree.value e ∷ args) callee = left_over qs args callee
left_over (q ∷ qs) (Tree.lend b ∷ args) callee = left_over qs args (without callee q.name)
left_over (q ∷ qs) (Tree.give b ∷ args) callee = left_over qs args callee

-- what a function hands to its caller
abbrev pub answer_shown : Answer → calls.Answer
answer_shown (answers.Number v) = calls.number v
answer_shown (answers.Items b) = calls.items b.items

-- the answer of a `return`, with what the function has behind it
abbrev pub number_answer : Store → Outcome → Result (calls.Answer × Store) FaultKind
number_answer s (Ok v) = Ok (calls.number v, s)
number_answer s (Err kind) = Err kind

abbrev pub value_answer : RetValue → Store → Result (calls.Answer × Store) FaultKind
value_answer (Tree.gives e) s = number_answer s (value s e)
value_answer (Tree.hands b) s = Ok (calls.items (block_of s.blocks b), drop_block b s)

abbrev pub given_answer : Option Ret → Store → Result (calls.Answer × Store) FaultKind
given_answer None s = Ok (calls.number (pos 0), s)
given_answer (Some r) s = value_answer r.value s
