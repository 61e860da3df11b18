-- Where a call ends, and the end of `main`.
use Rattle.std.proofs.Common.{◌≡◌, ℕ, Bool, true, false, List, [], ◌∷◌, ◌++◌, pos, Ok, Err, Option, Some, None, refl, sym, ◌∙◌, ap, subst, append-nil}
use Rattle.std.specs.Prelude.{map, slice_get}
use Rattle.dag_order.specs.declared.fault.FaultKind.{FaultKind}
use Rattle.par_tree.specs.Tree.{Name, Program, Func, Target, Arg, Param, Ret, RetValue, gives, hands}
use Rattle.par_tree.specs.Names.{param_names}
use Rattle.thread_state.specs.Passed.Stores.{Store, block_of, drop_block}
use Rattle.thread_state.specs.Passed.Values as values
use Rattle.thread_state.specs.Passed.Values.{Outcome}
use Rattle.thread_state.specs.Passed.States.{Setting, State, Item, with_fault, with_number, skip_if, unless_faulted}
use Rattle.thread_state.specs.Passed.DepthFirstRunCalls.{Answer, number, items, end_call, returned, with_answer, with_return, as_number}
use Rattle.thread_state.specs.Passed.Run.{ignore_answer}
use Rattle.thread_state.specs.Passed.Middle as middles
use Rattle.thread_state.specs.Passed.Middle.{answers, answers_main, step_frame}
use Rattle.node_table.specs.Names.{slot_names}
use Rattle.node_table.specs.Reading.{IsTarget, AreArgs, AreSlots, IsReturn}
use Rattle.node_table.specs.Table as tables
use Rattle.node_table.specs.Table.{Table, Kind, Function, call_node}
use Rattle.thread_stack.specs.declared.frame.Frame.{Frame}
use Rattle.thread_stack.specs.Frames.{IsFunctionOf, IsAnswer, IsAnswerOf, IsAnswerOfMain, AreFrames, behind_call, RunsIn}
use Rattle.thread_stack.specs.Lists.{kind_at}
use Rattle.thread_output.specs.Telling.{Tells}
use Rattle.thread_state.specs.States.{IsState}
use Rattle.thread_state.specs.Effects.{Faults}
use Rattle.thread_state.specs.declared.state.ThreadState.{ThreadState}
use Rattle.thread_run.specs.Stands.{InState}
use Rattle.thread_run.specs.declared.ready.Ready.TheVariants.{Fault}
use Rattle.thread_run.proofs.Coming.{never_faulted}
use Rattle.thread_run.specs.declared.run.ThreadRun.{ThreadRun}
use Rattle.thread_run.specs.Functions.{frames_of}
use Rattle.thread_run.specs.Stepping.{Goes, RunsBy}

some_same : {A : Type 0} (x y : A) → Some x ≡ Some y → x ≡ y
some_same x y e = cc

-- ---- the items of a `return`

returned_items : (params : List Param) (args : List Arg) (t : Target) (a : Answer) (s : State) → State.items (returned params args t a s) ≡ s.items
unfolding returned
returned_items params args t a s = go s.callers
  where
    go : (cs : List Store) → State.items (end_call cs params args t a s) ≡ s.items
    go [] = refl
    go (caller ∷ cs) = refl

-- a `return` without a fault writes nothing down
quiet_return : (contexts : List (List Name)) (u : ThreadState) (ret : Option Ret) (next : Answer → State → State) (s : State) → u.faulted ≡ false → ((a : Answer) (q : State) → State.items (next a q) ≡ q.items)
    → IsState contexts u (with_answer ret next s) → State.items (with_answer ret next s) ≡ s.items
unfolding with_answer with_number
quiet_return contexts u None next s going same is = same (number (pos 0)) s
quiet_return contexts u (Some r) next s going same is = by r.value is
  where
    settled : (o : Outcome) → IsState contexts u (with_number r.line o (as_number next) s) → State.items (with_number r.line o (as_number next) s) ≡ s.items
    settled (Ok v) is = same (number v) s
    settled (Err kind) is = absurd (never_faulted contexts u kind r.line s going is)

    by : (v : RetValue) → IsState contexts u (with_return r.line v next s) → State.items (with_return r.line v next s) ≡ s.items
    by (gives e) is = settled (values.value s.store e) is
    by (hands b) is = same (items (block_of s.store.blocks b)) (record s { store = drop_block b s.store })

-- nor does a thread that skips it
ends_quiet : (contexts : List (List Name)) (u : ThreadState) (ret : Option Ret) (next : Answer → State → State) (s : State) → u.faulted ≡ s.faulted → ((a : Answer) (q : State) → State.items (next a q) ≡ q.items)
    → IsState contexts u (unless_faulted (with_answer ret next) s) → State.items (unless_faulted (with_answer ret next) s) ≡ s.items
unfolding unless_faulted
ends_quiet contexts u ret next s same_fault same is = by s.faulted refl is
  where
    by : (b : Bool) → s.faulted ≡ b → IsState contexts u (skip_if b (with_answer ret next) s) → State.items (skip_if b (with_answer ret next) s) ≡ s.items
    by true e is = refl
    by false e is = quiet_return contexts u ret next s (same_fault ∙ e) same is

unmarked : (s : State) → s ≡ record s { items = s.items ++ [] }
unmarked s = ap (λ xs. record s { items = xs }) (sym (append-nil s.items))

-- what is told stays
same_told : (before after : ThreadRun) → after.told ≡ before.told → (part : List Item) → Tells before.told part → Tells after.told (part ++ [])
same_told before after told part tells = subst (λ (xs : List Item). Tells after.told xs) (sym (append-nil part)) (subst (λ told. Tells told part) (sym told) tells)

-- ---- the end of a call

-- the node and the function of a call that ends
pub record Ended (p : Program) (t : Table) (g h : Func) (gs : List Func) (n : ℕ) (caller : Option ℕ) (func : ℕ) (to : tables.Target) (from : List tables.Arg) (code : Function) (f : middles.Frame) : Type 0 where
  pub args : List Arg
  pub target : Target
  pub is : f ≡ answers g.ret g.params args target
  pub ret : IsReturn (slot_names g) code.ret g.ret
  pub params : AreSlots (slot_names g) code.params (param_names g.params)
  pub passed : AreArgs (slot_names h) from args
  pub to_target : IsTarget (slot_names h) to target
  pub runs : RunsIn p t caller (h ∷ gs)

abbrev target_in : Option Kind → tables.Target
target_in (Some (call_node to func from)) = to
target_in other = tables.unused

abbrev func_in : Option Kind → ℕ
func_in (Some (call_node to func from)) = func
func_in other = 0

abbrev args_in : Option Kind → List tables.Arg
args_in (Some (call_node to func from)) = from
args_in other = []

pub ended : (p : Program) (t : Table) (g h : Func) (gs : List Func) (n : ℕ) (caller : Option ℕ) (func : ℕ) (to : tables.Target) (from : List tables.Arg) (code : Function) (f : middles.Frame)
    → IsAnswerOf p t (g ∷ h ∷ gs) n caller f → kind_at t n ≡ Some (call_node to func from) → slice_get t.funcs func ≡ Some code → Ended p t g h gs n caller func to from code f
ended p t g h gs n caller func to from code f frame there function =
    let a : IsAnswer p t g h n frame.0 frame.1 = frame.3 in
    let same : Some (call_node a.to a.func a.from) ≡ Some (call_node to func from) = sym a.there ∙ there in
    let same_to : a.to ≡ to = ap target_in same in
    let same_func : a.func ≡ func = ap func_in same in
    let same_from : a.from ≡ from = ap args_in same in
    let same_code : a.function.code ≡ code = some_same a.function.code code (sym a.function.there ∙ ap (λ (i : ℕ). slice_get t.funcs i) same_func ∙ function) in
    record {
      args = frame.0;
      target = frame.1;
      is = frame.2;
      ret = subst (λ (x : Function). IsReturn (slot_names g) x.ret g.ret) same_code a.function.is.ret;
      params = subst (λ (x : Function). AreSlots (slot_names g) x.params (param_names g.params)) same_code a.function.is.params;
      passed = subst (λ (xs : List tables.Arg). AreArgs (slot_names h) xs frame.0) same_from a.passed;
      to_target = subst (λ (x : tables.Target). IsTarget (slot_names h) x frame.1) same_to a.to_target;
      runs = frame.4;
    }

module _ (c : Setting) (t : Table) (n : ℕ) (caller : Option ℕ) (func : ℕ) (to : tables.Target) (from : List tables.Arg) (code : Function) (before after : ThreadRun) where
  -- the caller goes on
  pub call_returns : (gs : List Func) (f : middles.Frame) (fs : List middles.Frame) (s : State) → IsAnswerOf c.program t gs n caller f
      → kind_at t n ≡ Some (call_node to func from) → slice_get t.funcs func ≡ Some code → AreFrames c.program t (behind_call gs) (frames_of before) fs → InState gs before.state s
      → after.func ≡ caller → frames_of after ≡ frames_of before → after.told ≡ before.told → after.state.faulted ≡ before.state.faulted
      → ((contexts : List (List Name)) (names callee_names : List Name) (r : Option Ret) (qs : List Param) (values : List Arg) (x : Target) → IsReturn callee_names code.ret r → AreSlots callee_names code.params (param_names qs)
      → AreArgs names from values → IsTarget names to x → (q : State) → IsState (callee_names ∷ names ∷ contexts) before.state q → IsState (names ∷ contexts) after.state (unless_faulted (with_answer r (returned qs values x)) q))
      → Goes c t before after s (step_frame c f fs s)
  call_returns [] f fs s frame there function frames is in_caller left told faulted goes = absurd frame
  call_returns (g ∷ []) f fs s frame there function frames is in_caller left told faulted goes = absurd frame
  call_returns (g ∷ h ∷ gs) f fs s frame there function frames is in_caller left told faulted goes =
      let e = ended c.program t g h gs n caller func to from code f frame there function in
      let a : middles.Frame = answers g.ret g.params e.args e.target in
      let state = goes (map slot_names gs) (slot_names h) (slot_names g) g.ret g.params e.args e.target e.ret e.params e.passed e.to_target s is in
      subst (λ (x : middles.Frame). Goes c t before after s (step_frame c x fs s)) (sym e.is) (record {
        functions = h ∷ gs;
        runs = subst (λ (x : Option ℕ). RunsIn c.program t x (h ∷ gs)) (sym in_caller) e.runs;
        frames = subst (λ (xs : List Frame). AreFrames c.program t (h ∷ gs) xs fs) (sym left) frames;
        state = state;
        new = [];
        grown = ends_quiet (map slot_names (h ∷ gs)) after.state g.ret (returned g.params e.args e.target) s (faulted ∙ is.faulted) (λ x q. returned_items g.params e.args e.target x q) state ∙ sym (append-nil s.items);
        quiet = refl;
        tells = same_told before after told;
      })

  -- its `return` is a fault
  pub call_faults : (gs : List Func) (f : middles.Frame) (fs : List middles.Frame) (s : State) (kind : FaultKind) (line here : ℕ) → IsAnswerOf c.program t gs n caller f
      → kind_at t n ≡ Some (call_node to func from) → slice_get t.funcs func ≡ Some code → AreFrames c.program t (behind_call gs) (frames_of before) fs → InState gs before.state s
      → after.func ≡ caller → frames_of after ≡ frames_of before → after.told ≡ before.told → here ≡ line
      → ((contexts : List (List Name)) (names callee_names : List Name) (r : Option Ret) (qs : List Param) (values : List Arg) (x : Target) → IsReturn callee_names code.ret r → AreSlots callee_names code.params (param_names qs)
      → AreArgs names from values → IsTarget names to x → (q : State) → IsState (callee_names ∷ names ∷ contexts) before.state q
      → Faults (callee_names ∷ names ∷ contexts) line after.state (unless_faulted (with_answer r (returned qs values x))) q kind)
      → RunsBy c t gs before after f fs s (Some (Fault (record { kind = kind; line = here })))
  call_faults [] f fs s kind line here frame there function frames is in_caller left told on_line goes = absurd frame
  call_faults (g ∷ []) f fs s kind line here frame there function frames is in_caller left told on_line goes = absurd frame
  call_faults (g ∷ h ∷ gs) f fs s kind line here frame there function frames is in_caller left told on_line goes =
      let e = ended c.program t g h gs n caller func to from code f frame there function in
      let a : middles.Frame = answers g.ret g.params e.args e.target in
      let stop = goes (map slot_names gs) (slot_names h) (slot_names g) g.ret g.params e.args e.target e.ret e.params e.passed e.to_target s is in
      subst (λ (l : ℕ). RunsBy c t (g ∷ h ∷ gs) before after f fs s (Some (Fault (record { kind = kind; line = l })))) (sym on_line)
      (subst (λ (x : middles.Frame). RunsBy c t (g ∷ h ∷ gs) before after x fs s (Some (Fault (record { kind = kind; line = line })))) (sym e.is) (
        record {
          next = a;
          rest = fs;
          own_is = refl;
          plain = tt;
          functions = h ∷ gs;
          runs = subst (λ (x : Option ℕ). RunsIn c.program t x (h ∷ gs)) (sym in_caller) e.runs;
          frames = subst (λ (xs : List Frame). AreFrames c.program t (h ∷ gs) xs fs) (sym left) frames;
          comes = stop.1 ∙ ap (with_fault kind line) (unmarked s);
        },
        stop.0,
        λ part tells. subst (λ x. Tells x part) (sym told) tells,
      ))

-- ---- the end of `main`

module _ (c : Setting) (t : Table) (code : Function) (before after : ThreadRun) where
  main_return : (g : Func) (f : middles.Frame) → slice_get t.funcs t.main ≡ Some code → (f ≡ answers_main g.ret) × IsFunctionOf c.program t t.main g → IsReturn (slot_names g) code.ret g.ret
  main_return g f function frame =
      let same : frame.1.code ≡ code = some_same frame.1.code code (sym frame.1.there ∙ function) in
      subst (λ (x : Function). IsReturn (slot_names g) x.ret g.ret) same frame.1.is.ret

  pub main_returns : (gs : List Func) (f : middles.Frame) (fs : List middles.Frame) (s : State) → IsAnswerOfMain c.program t gs f → slice_get t.funcs t.main ≡ Some code
      → RunsIn c.program t after.func gs → AreFrames c.program t gs (frames_of after) fs → InState gs after.state s → after.told ≡ before.told
      → ((contexts : List (List Name)) (names : List Name) (r : Option Ret) → IsReturn names code.ret r → (q : State) → IsState (names ∷ contexts) after.state q → IsState (names ∷ contexts) after.state (unless_faulted (with_answer r ignore_answer) q))
      → Goes c t before after s (step_frame c f fs s)
  main_returns [] f fs s frame function runs frames is told goes = absurd frame
  main_returns (g ∷ gs) f fs s frame function runs frames is told goes =
      let state = goes (map slot_names gs) (slot_names g) g.ret (main_return g f function frame) s is in
      subst (λ (x : middles.Frame). Goes c t before after s (step_frame c x fs s)) (sym frame.0) (record {
        functions = g ∷ gs;
        runs = runs;
        frames = frames;
        state = state;
        new = [];
        grown = ends_quiet (map slot_names (g ∷ gs)) after.state g.ret ignore_answer s is.faulted (λ x q. refl) state ∙ sym (append-nil s.items);
        quiet = refl;
        tells = same_told before after told;
      })

  pub main_faults : (gs : List Func) (f : middles.Frame) (fs : List middles.Frame) (s : State) (kind : FaultKind) (line here : ℕ) → IsAnswerOfMain c.program t gs f → slice_get t.funcs t.main ≡ Some code
      → RunsIn c.program t after.func gs → AreFrames c.program t gs (frames_of after) fs → InState gs after.state s → after.told ≡ before.told → here ≡ line
      → ((contexts : List (List Name)) (names : List Name) (r : Option Ret) → IsReturn names code.ret r → (q : State) → IsState (names ∷ contexts) after.state q → Faults (names ∷ contexts) line after.state (unless_faulted (with_answer r ignore_answer)) q kind)
      → RunsBy c t gs before after f fs s (Some (Fault (record { kind = kind; line = here })))
  main_faults [] f fs s kind line here frame function runs frames is told on_line goes = absurd frame
  main_faults (g ∷ gs) f fs s kind line here frame function runs frames is told on_line goes =
      let stop = goes (map slot_names gs) (slot_names g) g.ret (main_return g f function frame) s is in
      subst (λ (l : ℕ). RunsBy c t (g ∷ gs) before after f fs s (Some (Fault (record { kind = kind; line = l })))) (sym on_line)
      (subst (λ (x : middles.Frame). RunsBy c t (g ∷ gs) before after x fs s (Some (Fault (record { kind = kind; line = line })))) (sym frame.0) (
        record {
          next = answers_main g.ret;
          rest = fs;
          own_is = refl;
          plain = tt;
          functions = g ∷ gs;
          runs = runs;
          frames = frames;
          comes = stop.1 ∙ ap (with_fault kind line) (unmarked s);
        },
        stop.0,
        λ part tells. subst (λ x. Tells x part) (sym told) tells,
      ))
