-- What must stand in the rows of a thread has one proof at most, so that it may be shown from what is only known to be.
use Rattle.std.proofs.Common.{◌≡◌, ℕ, ◌<◌, false, List, [], ◌∷◌, length, Option, Some, None, refl}
use denote.Struct.Props.{props}
use Rattle.node_table.specs.Table
use Rattle.node_table.specs.Table.{Kind, let_node, assign_node, put_node, alloc_node, free_node, if_node, while_node, call_node, print_node, both_node, split_node, Function}
use Rattle.node_table.specs.Reading.{FitsExpr, FitsLinks, FitsArg, FitsArgs, FitsSlots}
use Rattle.thread_state.specs.Passed.Rows.{Entry, HasBlock, HasNone}
use Rattle.thread_state.specs.Passed.SlotStoreCalls.{EachOnce, EachHasBlock, EachHasNone, lent_params, lent_slots, passed_slots}
use Rattle.thread_state.specs.Passed.Forks.{is_in}
use Rattle.thread_state.specs.Calls.{CanCall, CanGoBack, CanEnd, CanEndMain, HandsNoBlock, HandsItsOwn, TakesNumber, TakesBlock, TakesValue, TakesAnswer}

-- two proofs of a fact are the same
abbrev pub One : Type 0 → Type 0
One A = (p q : A) → p ≡ q

pair_one : {A B : Type 0} → One A → One B → One (A × B)
pair_one a b p q = λ i. (a p.0 q.0 i, b p.1 q.1 i)

below_one : (s n : ℕ) → One (s < n)
below_one s n = search props

block_there_one : (row : List Entry) (s : ℕ) → One (HasBlock row s)
block_there_one row s = search props

no_block_there_one : (row : List Entry) (s : ℕ) → One (HasNone row s)
no_block_there_one row s = search props

apart_one : (s : ℕ) (xs : List ℕ) → One (is_in s xs ≡ false)
apart_one s xs = search props

slots_one : (n : ℕ) (xs : List ℕ) → One (FitsSlots n xs)
slots_one n [] p q = refl
slots_one n (x ∷ xs) p q = pair_one (below_one x n) (slots_one n xs) p q

mutual
  expr_one : (n : ℕ) (e : Table.Expr) → One (FitsExpr n e)
  expr_one n (Table.num v) p q = refl
  expr_one n (Table.var s) p q = below_one s n p q
  expr_one n (Table.get s i) p q = pair_one (below_one s n) (expr_one n i) p q
  expr_one n (Table.len_of s) p q = below_one s n p q
  expr_one n (Table.neg e) p q = expr_one n e p q
  expr_one n (Table.chain e rest) p q = pair_one (expr_one n e) (links_one n rest) p q
  expr_one n (Table.cmp op l r) p q = pair_one (expr_one n l) (expr_one n r) p q

  links_one : (n : ℕ) (ls : Table.Links) → One (FitsLinks n ls)
  links_one n Table.last p q = refl
  links_one n (Table.link op e rest) p q = pair_one (expr_one n e) (links_one n rest) p q

arg_one : (n : ℕ) (a : Table.Arg) → One (FitsArg n a)
arg_one n (Table.value e) p q = expr_one n e p q
arg_one n (Table.lend s) p q = below_one s n p q
arg_one n (Table.give s) p q = below_one s n p q

args_one : (n : ℕ) (as_ : List Table.Arg) → One (FitsArgs n as_)
args_one n [] p q = refl
args_one n (a ∷ rest) p q = pair_one (arg_one n a) (args_one n rest) p q

once_one : (xs : List ℕ) → One (EachOnce xs)
once_one [] p q = refl
once_one (x ∷ xs) p q = pair_one (apart_one x xs) (once_one xs) p q

has_one : (row : List Entry) (xs : List ℕ) → One (EachHasBlock row xs)
has_one row [] p q = refl
has_one row (x ∷ xs) p q = pair_one (block_there_one row x) (has_one row xs) p q

none_one : (row : List Entry) (xs : List ℕ) → One (EachHasNone row xs)
none_one row [] p q = refl
none_one row (x ∷ xs) p q = pair_one (no_block_there_one row x) (none_one row xs) p q

pub can_call_one : (count : ℕ) (row : List Entry) (params : List ℕ) (args : List Table.Arg) → One (CanCall count row params args)
can_call_one count row params args p q = λ i. record {
  params_fit = slots_one count params p.params_fit q.params_fit i;
  args_fit = args_one (length row) args p.args_fit q.args_fit i;
  params_once = once_one params p.params_once q.params_once i;
  blocks_once = once_one (passed_slots args) p.blocks_once q.blocks_once i;
  there = has_one row (passed_slots args) p.there q.there i;
}

back_one : (own caller : List Entry) (params : List ℕ) (args : List Table.Arg) → One (CanGoBack own caller params args)
back_one own caller params args p q = λ i. record {
  params_fit = slots_one (length own) params p.params_fit q.params_fit i;
  args_fit = args_one (length caller) args p.args_fit q.args_fit i;
  params_once = once_one (lent_params params args) p.params_once q.params_once i;
  slots_once = once_one (lent_slots params args) p.slots_once q.slots_once i;
  there = has_one own (lent_params params args) p.there q.there i;
  none = none_one caller (lent_slots params args) p.none q.none i;
}

number_one : (row : List Entry) (t : Table.Target) → One (TakesNumber row t)
number_one row Table.unused p q = refl
number_one row (Table.integer s) p q = below_one s (length row) p q
number_one row (Table.block s) p q = refl

hands_one : (row : List Entry) (lent : List ℕ) (v : Table.RetValue) → One (HandsItsOwn row lent v)
hands_one row lent (Table.gives e) p q = refl
hands_one row lent (Table.hands s) p q = λ i. (below_one s (length row) p.0 q.0 i, block_there_one row s p.1 q.1 i, apart_one s lent p.2 q.2 i)

block_one : (row : List Entry) (lent : List ℕ) (t : Table.Target) → One (TakesBlock row lent t)
block_one row lent Table.unused p q = absurd p
block_one row lent (Table.integer s) p q = absurd p
block_one row lent (Table.block s) p q = λ i. (below_one s (length row) p.0 q.0 i, no_block_there_one row s p.1 q.1 i, apart_one s lent p.2 q.2 i)

value_one : (row : List Entry) (lent : List ℕ) (t : Table.Target) (v : Table.RetValue) → One (TakesValue row lent t v)
value_one row lent t (Table.gives e) p q = number_one row t p q
value_one row lent t (Table.hands s) p q = block_one row lent t p q

answer_one : (own caller : List Entry) (to from : List ℕ) (t : Table.Target) (ret : Option Table.Ret) → One (TakesAnswer own caller to from t ret)
answer_one own caller to from t None p q = number_one caller t p q
answer_one own caller to from t (Some r) p q = pair_one (hands_one own to r.value) (value_one caller from t r.value) p q

pub can_end_one : (rows : List (List Entry)) (params : List ℕ) (args : List Table.Arg) (t : Table.Target) (ret : Option Table.Ret) → One (CanEnd rows params args t ret)
can_end_one [] params args t ret p q = absurd p
can_end_one (own ∷ []) params args t ret p q = absurd p
can_end_one (own ∷ caller ∷ rows) params args t ret p q =
    pair_one (back_one own caller params args) (answer_one own caller (lent_params params args) (lent_slots params args) t ret) p q

no_block_one : (row : List Entry) (v : Table.RetValue) → One (HandsNoBlock row v)
no_block_one row (Table.gives e) p q = refl
no_block_one row (Table.hands s) p q = pair_one (below_one s (length row)) (no_block_there_one row s) p q

pub can_end_main_one : (row : List Entry) (ret : Option Table.Ret) → One (CanEndMain row ret)
can_end_main_one row None p q = refl
can_end_main_one row (Some r) p q = no_block_one row r.value p q
