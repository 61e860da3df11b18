-- What a call does to the state of a thread, and what stands in its rows where a call begins and where it ends.
use Rattle.std.specs.Prelude.{◌≡◌, ℕ, ◌<◌, false, List, [], ◌∷◌, length, Option, Some, None, Result, Ok, Err}
use Rattle.dag_order.specs.declared.fault.FaultKind.{FaultKind}
use Rattle.depth_first_run.specs.Passed.Tree.{Name, Param, Arg}
use Rattle.node_table.specs.Reading.{FitsSlots, FitsArgs}
use Rattle.node_table.specs.Table
use Rattle.depth_first_run.specs.States.{Setting, State, with_fault, with_turn, with_depth}
use Rattle.depth_first_run.specs.Stores.{Store, block_of, drop_block}
use Rattle.depth_first_run.specs.Calls.{Passing, passed, entered, Answer, items}
use Rattle.slot_store.specs.Rows.{Entry, HasBlock, HasNone}
use Rattle.slot_store.specs.Forks.{is_in}
use Rattle.slot_store.specs.Calls.{EachOnce, EachHasBlock, EachHasNone, passed_slots, lent_params, lent_slots}

-- a call whose arguments are passed begins, where one more may be open and the thread has a turn left; an argument may fault before
abbrev pub begun : Setting → ℕ → Result Passing FaultKind → State → State
begun c line (Ok h) s = with_depth s.calls c.most_calls line (with_turn line (entered h)) s
begun c line (Err kind) s = with_fault kind line s

-- the numbers of arguments are found before anything is passed: of one argument, so that the rest is left to pass, and of all
abbrev pub PassesValue : Store → Param → Arg → Passing → Result (Unit {0}) FaultKind → Type 0
PassesValue s q a g (Ok found) =
    (h : Passing) × ((qs : List Param) (args : List Arg) → passed s (q ∷ qs) (a ∷ args) g ≡ passed s qs args h)
PassesValue s q a g (Err kind) = (qs : List Param) (args : List Arg) → passed s (q ∷ qs) (a ∷ args) g ≡ Err kind

abbrev pub PassesValues : Store → List Param → List Arg → Passing → Result (Unit {0}) FaultKind → Type 0
PassesValues s qs args g (Ok found) = (h : Passing) × (passed s qs args g ≡ Ok h)
PassesValues s qs args g (Err kind) = passed s qs args g ≡ Err kind

-- the fault of a call that meets a limit is that of an argument, or else that of the limit
abbrev pub Refuses : (limit kind : FaultKind) → Result Passing FaultKind → Type 0
Refuses limit kind (Ok h) = kind ≡ limit
Refuses limit kind (Err fault) = kind ≡ fault

-- a function with so many slots can be called: each block that is passed is there, and goes to a parameter of its own
pub record CanCall (count : ℕ) (row : List Entry) (params : List ℕ) (args : List Table.Arg) : Type 0 where
  pub params_fit : FitsSlots count params
  pub args_fit : FitsArgs (length row) args
  pub params_once : EachOnce params
  pub blocks_once : EachOnce (passed_slots args)
  pub there : EachHasBlock row (passed_slots args)

-- a `return` hands a block of the function out that is there and was not lent to it
abbrev pub HandsItsOwn : List Entry → (lent : List ℕ) → Table.RetValue → Type 0
HandsItsOwn row lent (Table.gives e) = Unit {0}
HandsItsOwn row lent (Table.hands s) = (s < length row) × HasBlock row s × (is_in s lent ≡ false)

-- the caller can take the answer: a number anywhere, a block in a slot that has none and that lent none
abbrev pub TakesNumber : List Entry → Table.Target → Type 0
TakesNumber row Table.unused = Unit {0}
TakesNumber row (Table.integer s) = s < length row
TakesNumber row (Table.block s) = Unit {0}

abbrev pub TakesBlock : List Entry → (lent : List ℕ) → Table.Target → Type 0
TakesBlock row lent Table.unused = ⊥
TakesBlock row lent (Table.integer s) = ⊥
TakesBlock row lent (Table.block s) = (s < length row) × HasNone row s × (is_in s lent ≡ false)

abbrev pub TakesValue : List Entry → (lent : List ℕ) → Table.Target → Table.RetValue → Type 0
TakesValue row lent target (Table.gives e) = TakesNumber row target
TakesValue row lent target (Table.hands s) = TakesBlock row lent target

abbrev pub TakesAnswer : (own caller : List Entry) → (lent_to lent_from : List ℕ) → Table.Target → Option Table.Ret → Type 0
TakesAnswer own caller lent_to lent_from target None = TakesNumber caller target
TakesAnswer own caller lent_to lent_from target (Some r) = HandsItsOwn own lent_to r.value × TakesValue caller lent_from target r.value

-- the blocks that were lent can go back: each is there, and its slot in the caller's row has none
pub record CanGoBack (own caller : List Entry) (params : List ℕ) (args : List Table.Arg) : Type 0 where
  pub params_fit : FitsSlots (length own) params
  pub args_fit : FitsArgs (length caller) args
  pub params_once : EachOnce (lent_params params args)
  pub slots_once : EachOnce (lent_slots params args)
  pub there : EachHasBlock own (lent_params params args)
  pub none : EachHasNone caller (lent_slots params args)

-- a call can end: its caller waits, its lent blocks can go back, and the caller can take its answer
abbrev pub CanEnd : List (List Entry) → List ℕ → List Table.Arg → Table.Target → Option Table.Ret → Type 0
CanEnd [] params args target ret = ⊥
CanEnd (own ∷ []) params args target ret = ⊥
CanEnd (own ∷ caller ∷ rows) params args target ret =
    CanGoBack own caller params args × TakesAnswer own caller (lent_params params args) (lent_slots params args) target ret

-- the rows of a call that ends, where something holds of the row of its caller
abbrev pub CanResume : List (List Entry) → List ℕ → List Table.Arg → (List Entry → Type 0) → Type 0
CanResume [] params args P = ⊥
CanResume (own ∷ []) params args P = ⊥
CanResume (own ∷ caller ∷ rows) params args P = CanGoBack own caller params args × P caller

-- the line of a `return`
abbrev pub return_line : Option Table.Ret → ℕ
return_line None = 0
return_line (Some r) = r.line

-- the `return` of `main` hands no block out
abbrev pub HandsNoBlock : List Entry → Table.RetValue → Type 0
HandsNoBlock row (Table.gives e) = Unit {0}
HandsNoBlock row (Table.hands s) = (s < length row) × HasNone row s

abbrev pub CanEndMain : List Entry → Option Table.Ret → Type 0
CanEndMain row None = Unit {0}
CanEndMain row (Some r) = HandsNoBlock row r.value

-- the block b is handed out, and what follows goes on with it
abbrev pub handing : Name → (Answer → State → State) → State → State
handing b next s = next (items (block_of s.store.blocks b)) (record s { store = drop_block b s.store })
