-- The end of a call.
use Rattle.std.proofs.Common.{◌≡◌, ℕ, suc, pred, ◌+◌, ◌<◌, true, false, List, [], ◌∷◌, ◌++◌, length, ℤ, Option, Some, None, Ok, Err, pos, refl, sym, ap, ◌∙◌, subst, arith}
use Rattle.depth_first_run.specs.Passed.Tree
use Rattle.depth_first_run.specs.Passed.Tree.{Name, Param, Arg, Target}
use Rattle.depth_first_run.specs.Stores.{Store, Held, drop_block}
use Rattle.depth_first_run.specs.States.{State, with_fault, unless_faulted}
use Rattle.dag_order.specs.declared.fault.FaultKind.{FaultKind}
use Rattle.depth_first_run.specs.Values.{value}
use Rattle.depth_first_run.specs.Calls as calls
use Rattle.depth_first_run.specs.Calls.{Answer, with_answer, as_number, returned, end_call, lent_back, answered}
use Rattle.slot_store.specs.Rows.{Entry}
use Rattle.slot_store.specs.Shown.{slots_shown}
use Rattle.slot_store.specs.Agreement.{ShowsStore, blocks_under}
use Rattle.slot_store.specs.declared.slots.Slots.{Slots}
use Rattle.thread_state.specs.Rows.{waiting_rows, ShowStores}
use Rattle.thread_state.specs.States.{IsState, own_row, rows_of}
use Rattle.thread_state.specs.Calls.{handing, CanResume, CanGoBack, return_line}
use Rattle.node_table.specs.Names.{name_at}
use Rattle.node_table.specs.Shown.{ret_shown, ret_value_shown}
use Rattle.node_table.specs.declared.code_ret.CodeRet.{CodeRet}
use Rattle.node_table.specs.declared.code_ret_value.CodeRetValue.{CodeRetValue}
use Rattle.slot_store.proofs.Agreement.{blocks_are}
use Rattle.slot_store.specs.Rows.{with_blocks_at, blocks_at}
use Rattle.slot_store.specs.Forks.{is_in}
use Rattle.slot_store.specs.Calls.{EachHasBlock, EachHasNone, lent_params, lent_slots}
use Rattle.slot_store.proofs.Moving.{others_have, others_have_none}
use Rattle.node_table.specs.Table
use Rattle.node_table.specs.Reading.{FitsSlots, FitsArgs, IsReturn, ret_value_read, FitsRetValue}
use Rattle.std.proofs.Math.ListN.{length-set}
use Rattle.thread_state.specs.declared.state.ThreadState.{ThreadState}
use Rattle.thread_state.proofs.Holding.{going, goes_on, ends}
use Rattle.thread_state.proofs.Holding.{ended as faulted_holds}
use Rattle.thread_state.proofs.Splits.{unskipped}
use Rattle.thread_state.proofs.Steps.{at_same, settled_ok, settled_err}
use Rattle.thread_state.proofs.Entering.{one_waits}
use Rattle.thread_state.proofs.Returning.{integer_swaps, without_none}

-- the store of the caller that waits
pub record Waits (names : List Name) (contexts : List (List Name)) (row : List Entry) (rows : List (List Entry)) (callers : List Store) : Type 0 where
  pub caller : Store
  pub older : List Store
  pub is : callers ≡ caller ∷ older
  pub shows : ShowsStore names row caller
  pub rest : ShowStores contexts rows older

waits : (names : List Name) (contexts : List (List Name)) (row : List Entry) (rows : List (List Entry)) (callers : List Store) →
    ShowStores (names ∷ contexts) (row ∷ rows) callers → Waits names contexts row rows callers
waits names contexts row rows [] h = absurd h
waits names contexts row rows (caller ∷ older) h = record { caller = caller; older = older; is = refl; shows = h.0; rest = h.1 }

ended : (qs : List Param) (values : List Arg) (t : Target) (answer : Answer) (s : State) (caller : Store) (older : List Store) →
    s.callers ≡ caller ∷ older → returned qs values t answer s ≡ record s {
      store = answered t answer (lent_back qs values s.store.blocks caller);
      callers = older;
      calls = pred s.calls;
    }
unfolding returned
ended qs values t answer s caller older e = ap (λ cs. end_call cs qs values t answer s) e

pub is_returned : (contexts : List (List Name)) (names callee_names : List Name) (t u : ThreadState) (s : State) (d : Store) (qs : List Param)
    (values : List Arg) (target : Target) (answer : Answer) (caller : Slots) (older : List Slots) → t.faulted ≡ false →
    t.callers.items ≡ older ++ caller ∷ [] → u.label ≡ t.label → u.done ≡ t.done → u.forks ≡ t.forks → u.faulted ≡ t.faulted →
    u.calls + 1 ≡ t.calls → u.turns ≡ t.turns → u.callers.items ≡ older → IsState (callee_names ∷ names ∷ contexts) t s →
    ((own : Store) → ShowsStore names (slots_shown caller) own → ShowsStore callee_names (own_row t) s.store →
    ShowsStore names (own_row u) (answered target answer (lent_back qs values d.blocks own))) →
    IsState (names ∷ contexts) u (returned qs values target answer (record s { store = d }))
is_returned contexts names callee_names t u s d qs values target answer caller older e popped label done forks faulted calls turns callers is back =
    let shown = going t.faulted (callee_names ∷ names ∷ contexts) (rows_of t) s.store s.callers e is.holds in
    let rows : waiting_rows t.callers.items ≡ slots_shown caller ∷ waiting_rows older = ap waiting_rows popped ∙ one_waits older caller in
    let w = waits names contexts (slots_shown caller) (waiting_rows older) s.callers
    (subst (λ (rs : List (List Entry)). ShowStores (names ∷ contexts) rs s.callers) rows shown.1) in
    let same = ended qs values target answer (record s { store = d }) w.caller w.older w.is in
    let more : suc u.calls ≡ s.calls = let f = is.calls in omega (arith, f, calls) in
    at_same (names ∷ contexts) u _ (returned qs values target answer (record s { store = d })) (sym same) (record {
      label = label ∙ is.label;
      done = done ∙ is.done;
      forks = forks ∙ is.forks;
      faulted = faulted ∙ is.faulted;
      calls = ap pred more;
      turns = turns ∙ is.turns;
      holds = goes_on u.faulted (names ∷ contexts) (rows_of u) (answered target answer (lent_back qs values d.blocks w.caller)) w.older (faulted ∙ e)
          (back w.caller w.shows shown.0, subst (λ cs. ShowStores contexts (waiting_rows cs) w.older) (sym callers) w.rest);
    })

-- a number goes to its target before or behind
pub number_swaps : (names : List Name) (row : List Entry) (qs : List Param) (values : List Arg) (theirs : List Held) (own : Store) (t : Target)
    (v : ℤ) → ShowsStore names row (lent_back qs values theirs (answered t (calls.number v) own)) →
    ShowsStore names row (answered t (calls.number v) (lent_back qs values theirs own))
number_swaps names row qs values theirs own Tree.unused v shows = shows
number_swaps names row qs values theirs own (Tree.integer y) v shows = integer_swaps names row qs values theirs own y v shows
number_swaps names row qs values theirs own (Tree.block b) v shows = shows

-- what a function ends with
pub ends_so : (r : Option Tree.Ret) (next : Answer → State → State) (s : State) → None ≡ r → s.faulted ≡ false →
    unless_faulted (with_answer r next) s ≡ next (calls.number (pos 0)) s
unfolding with_answer
ends_so r next s e going = unskipped (with_answer r next) s going ∙ ap (λ (x : Option Tree.Ret). with_answer x next s) (sym e)

pub ends_with : (r : Option Tree.Ret) (next : Answer → State → State) (s : State) (line : ℕ) (e : Tree.Expr) (v : ℤ) →
    Some (record { line = line; value = Tree.gives e }) ≡ r → s.faulted ≡ false → Ok v ≡ value s.store e →
    unless_faulted (with_answer r next) s ≡ next (calls.number v) s
unfolding with_answer
ends_with r next s line e v is going number =
    unskipped (with_answer r next) s going ∙ ap (λ (x : Option Tree.Ret). with_answer x next s) (sym is)
    ∙ settled_ok line v (value s.store e) (as_number next) s number

pub ends_faulting : (r : Option Tree.Ret) (next : Answer → State → State) (s : State) (line : ℕ) (e : Tree.Expr) (kind : FaultKind) →
    Some (record { line = line; value = Tree.gives e }) ≡ r → s.faulted ≡ false → Err kind ≡ value s.store e →
    unless_faulted (with_answer r next) s ≡ with_fault kind line s
unfolding with_answer
ends_faulting r next s line e kind is going number =
    unskipped (with_answer r next) s going ∙ ap (λ (x : Option Tree.Ret). with_answer x next s) (sym is)
    ∙ settled_err line kind (value s.store e) (as_number next) s number

pub ends_handing : (r : Option Tree.Ret) (next : Answer → State → State) (s : State) (line : ℕ) (b : Name) →
    Some (record { line = line; value = Tree.hands b }) ≡ r → s.faulted ≡ false →
    unless_faulted (with_answer r next) s ≡ handing b next s
unfolding with_answer
ends_handing r next s line b is going = unskipped (with_answer r next) s going ∙ ap (λ (x : Option Tree.Ret). with_answer x next s) (sym is)

-- a thread that a fault ended has no contexts
pub no_contexts : (contexts others : List (List Name)) (t : ThreadState) (s : State) → t.faulted ≡ true → IsState contexts t s → IsState others t s
no_contexts contexts others t s e is =
    let none = faulted_holds t.faulted contexts (rows_of t) s.store s.callers e is.holds in record {
      label = is.label;
      done = is.done;
      forks = is.forks;
      faulted = is.faulted;
      calls = is.calls;
      turns = is.turns;
      holds = ends t.faulted others (rows_of t) s.store s.callers e none.0 none.1 none.2;
    }

-- the rows of a call that ends
pub resumes : (own : List Entry) (callers : List Slots) (caller : Slots) (older : List Slots) (params : List ℕ) (args : List Table.Arg)
    (P : List Entry → Type 0) → callers ≡ older ++ caller ∷ [] → CanResume (own ∷ waiting_rows callers) params args P →
    CanGoBack own (slots_shown caller) params args × P (slots_shown caller)
resumes own callers caller older params args P popped can =
    subst (λ rs. CanResume (own ∷ rs) params args P) (ap waiting_rows popped ∙ one_waits older caller) can

-- blocks can still go back when another one has left the function's row, and another one has come to the caller's
pub goes_back : (own caller mine theirs : List Entry) (params : List ℕ) (args : List Table.Arg) (slot place : ℕ) (left came : List (List ℤ)) →
    CanGoBack own caller params args → is_in slot (lent_params params args) ≡ false → is_in place (lent_slots params args) ≡ false →
    mine ≡ with_blocks_at own slot left → theirs ≡ with_blocks_at caller place came → CanGoBack mine theirs params args
goes_back own caller mine theirs params args slot place left came can out out_place is_mine is_theirs =
    let count : length mine ≡ length own = ap length is_mine ∙ length-set own slot _ in
    let count_theirs : length theirs ≡ length caller = ap length is_theirs ∙ length-set caller place _ in record {
      params_fit = subst (λ n. FitsSlots n params) (sym count) can.params_fit;
      args_fit = subst (λ n. FitsArgs n args) (sym count_theirs) can.args_fit;
      params_once = can.params_once;
      slots_once = can.slots_once;
      there = subst (λ r. EachHasBlock r (lent_params params args)) (sym is_mine) (others_have own slot left (lent_params params args) out can.there);
      none = subst (λ r. EachHasNone r (lent_slots params args)) (sym is_theirs)
          (others_have_none caller place came (lent_slots params args) out_place can.none);
    }

-- what a `return` is
pub read_some : (names : List Name) (r : Option Tree.Ret) (o : Option CodeRet) (ret : CodeRet) (v : CodeRetValue) → o ≡ Some ret → ret.value ≡ v →
    IsReturn names (ret_shown o) r → (Some (record { line = ret.line; value = ret_value_read names (ret_value_shown v) }) ≡ r)
    × FitsRetValue (length names) (ret_value_shown v)
read_some names r o ret v is is_value reads =
    let first = subst (λ (x : Option CodeRet). IsReturn names (ret_shown x) r) is reads in
    subst (λ (x : CodeRetValue). (Some (record { line = ret.line; value = ret_value_read names (ret_value_shown x) }) ≡ r)
    × FitsRetValue (length names) (ret_value_shown x)) is_value first

pub read_none : (names : List Name) (r : Option Tree.Ret) (o : Option CodeRet) → o ≡ None → IsReturn names (ret_shown o) r → None ≡ r
read_none names r o is reads = (subst (λ (x : Option CodeRet). IsReturn names (ret_shown x) r) is reads).0

pub line_is : (o : Option CodeRet) (ret : CodeRet) → o ≡ Some ret → return_line (ret_shown o) ≡ ret.line
line_is o ret is = ap (λ (x : Option CodeRet). return_line (ret_shown x)) is

-- a block that is not held is dropped
pub drops_none : (names : List Name) (row : List Entry) (s : State) (slot : ℕ) → ShowsStore names row s.store → slot < length names →
    blocks_at row slot ≡ [] → record s { store = drop_block (name_at names slot) s.store } ≡ s
drops_none names row s slot shows within none =
    let blocks : blocks_under s.store.blocks (name_at names slot) ≡ [] = sym (blocks_are names row s.store shows slot within) ∙ none in
    ap (λ (hs : List Held). record s { store = record s.store { blocks = hs } }) (without_none s.store.blocks (name_at names slot) blocks)
