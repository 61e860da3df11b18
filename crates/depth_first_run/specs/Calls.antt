-- What a call passes to a function and takes back from it.
use Rattle.std.specs.Prelude.{ℕ, suc, pred, List, [], ◌∷◌, ℤ, pos, Result, Ok, Err, Option, Some, None}
use Rattle.depth_first_list.specs.Passed.FaultKind.{FaultKind}
use Rattle.par_tree.specs.Tree.{Name, Arg, value, lend, give, Param, Target, unused, integer, block, Ret, RetValue, gives, hands}
use Rattle.depth_first_run.specs.Stores.{Store, Held, nothing, with_integer, block_of, without, drop_block, hold_block}
use Rattle.depth_first_run.specs.Values as values
use Rattle.depth_first_run.specs.Values.{Outcome}
use Rattle.depth_first_run.specs.States.{State, with_number}

-- a call while its arguments are passed: what the function has, and what its caller keeps
pub record Passing : Type 0 where
  pub callee : Store
  pub caller : Store

-- a parameter's integer; a parameter's block, which the caller does not hold from then on
abbrev pub pass_integer : Name → ℤ → Passing → Passing
pass_integer q v h = record h { callee = with_integer q v h.callee }

abbrev pub pass_block : Name → Name → Passing → Passing
pass_block q b h = record { callee = hold_block q (block_of h.caller.blocks b) h.callee; caller = drop_block b h.caller }

-- what follows a number that is passed
abbrev pub pass_value : Name → Outcome → Passing → (Passing → Result Passing FaultKind) → Result Passing FaultKind
pass_value q (Ok v) h rest = rest (pass_integer q v h)
pass_value q (Err kind) h rest = Err kind

-- the arguments in order; expressions see the store as it is before the call
unfoldable pub passed : Store → List Param → List Arg → Passing → Result Passing FaultKind
passed s [] args h = Ok h
passed s (q ∷ qs) [] h = Ok h
passed s (q ∷ qs) (value e ∷ args) h = pass_value q.name (values.value s e) h (passed s qs args)
passed s (q ∷ qs) (lend b ∷ args) h = passed s qs args (pass_block q.name b h)
passed s (q ∷ qs) (give b ∷ args) h = passed s qs args (pass_block q.name b h)

abbrev pub all_passed : Store → List Param → List Arg → Result Passing FaultKind
all_passed s params args = passed s params args record { callee = nothing; caller = s }

-- a function begins: its call is open, and its caller's store waits
abbrev pub entered : Passing → State → State
entered h s = record s { store = h.callee; callers = h.caller ∷ s.callers; calls = suc s.calls }

-- the blocks that were lent come back under the caller's names
unfoldable pub lent_back : List Param → List Arg → List Held → Store → Store
lent_back [] args callee caller = caller
lent_back (q ∷ qs) [] callee caller = caller
lent_back (q ∷ qs) (value e ∷ args) callee caller = lent_back qs args callee caller
lent_back (q ∷ qs) (lend b ∷ args) callee caller = lent_back qs args (without callee q.name) (hold_block b (block_of callee q.name) caller)
lent_back (q ∷ qs) (give b ∷ args) callee caller = lent_back qs args callee caller

-- what a function hands to its caller: an integer, or a block
pub data Answer : Type 0 where
  number : ℤ → Answer
  items : List ℤ → Answer

-- the answer goes to the target
abbrev pub answered : Target → Answer → Store → Store
answered (integer x) (number v) s = with_integer x v s
answered (block b) (items xs) s = hold_block b xs s
answered target answer s = s

-- the end of a call: the caller goes on with its own store, its lent blocks and the answer
abbrev pub end_call : List Store → List Param → List Arg → Target → Answer → State → State
end_call [] params args t answer s = s
end_call (caller ∷ callers) params args t answer s = record s {
  store = answered t answer (lent_back params args s.store.blocks caller);
  callers = callers;
  calls = pred s.calls;
}

unfoldable pub returned : List Param → List Arg → Target → Answer → State → State
returned params args t answer s = end_call s.callers params args t answer s

-- what follows the answer of a function that ends with this `return`, or with none
abbrev pub as_number : (Answer → State → State) → ℤ → State → State
as_number next v s = next (number v) s

abbrev pub with_return : ℕ → RetValue → (Answer → State → State) → State → State
with_return line (gives e) next s = with_number line (values.value s.store e) (as_number next) s
with_return line (hands b) next s = next (items (block_of s.store.blocks b)) (record s { store = drop_block b s.store })

unfoldable pub with_answer : Option Ret → (Answer → State → State) → State → State
with_answer None next s = next (number (pos 0)) s
with_answer (Some r) next s = with_return r.line r.value next s
