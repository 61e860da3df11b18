-- Where a call begins.
use Rattle.std.proofs.Common.{◌≡◌, ℕ, zero, suc, ◌+◌, ◌*◌, ◌≤◌, Bool, true, false, List, ◌∷◌, ◌++◌, length, Result, Ok, Err, Option, Some, None, refl, sym, ◌∙◌, ap, subst, arith}
use Rattle.std.specs.Prelude.{map, slice_get, nat_lt}
use Rattle.dag_order.specs.declared.fault.FaultKind.{FaultKind}
use Rattle.par_tree.specs.Tree.{Name, Program, Func, Target, Arg, Body, call_stmt}
use Rattle.par_tree.specs.Names.{param_names}
use Rattle.par_ownership.specs.Ownership.{function_of}
use Rattle.thread_state.specs.Passed.States.{Setting, State, with_fault, with_turn, with_turns, with_depth, under_limit}
use Rattle.thread_state.specs.Passed.DepthFirstRunCalls.{Passing, all_passed, entered}
use Rattle.thread_state.specs.Passed.Middle as middles
use Rattle.thread_state.specs.Passed.Middle.{Middle, middle, answers, before_all, step_body, step_open_call, step_call_with, step_call}
use Rattle.node_table.specs.Names.{slot_names}
use Rattle.node_table.specs.Reading.{AreArgs, AreSlots}
use Rattle.node_table.specs.Table as tables
use Rattle.node_table.specs.Table.{Table, Node, Kind, Function, call_node}
use Rattle.node_table.specs.Programs.{IsStmt, function_names}
use Rattle.thread_stack.specs.declared.frame.Frame.{Frame}
use Rattle.thread_stack.specs.declared.frame.Frame.TheVariants.{Answers}
use Rattle.thread_stack.specs.declared.list_of.ListOf.TheVariants as lists
use Rattle.thread_stack.specs.Frames.{IsFunctionOf, IsNode, AreStatements, AreFrames, names_now, frames_shown, RunsIn}
use Rattle.thread_stack.specs.Lists.{kind_at, kind_of_node, body_of, numbers_from}
use Rattle.thread_stack.specs.Measure.{frames_cost, list_cost, node_cost, turn_cost, left_to_do}
use Rattle.thread_stack.proofs.Costs.{turn_covers_body}
use Rattle.thread_stack.proofs.Functions.{found_of_number}
use Rattle.node_table.proofs.Finding.{callee}
use Rattle.thread_state.specs.States.{IsState}
use Rattle.thread_state.specs.Calls.{begun}
use Rattle.thread_state.specs.declared.state.ThreadState.{ThreadState}
use Rattle.thread_state.specs.Settings.{IsSettingOf}
use Rattle.thread_run.specs.Stands.{InState}
use Rattle.thread_run.proofs.Coming.{never_faulted}
use Rattle.thread_run.specs.declared.ready.Ready.TheVariants.{Fault}
use Rattle.thread_run.specs.declared.run.ThreadRun.{ThreadRun}
use Rattle.thread_run.specs.Functions.{frames_of}
use Rattle.thread_run.specs.Calling.{Begins}

some_same : {A : Type 0} (x y : A) → Some x ≡ Some y → x ≡ y
some_same x y e = cc

-- what the node of a call has
pub record Called (c : Setting) (t : Table) (g : Func) (func : ℕ) (from : List tables.Arg) (code : Function) (name : Name) (args : List Arg) : Type 0 where
  pub function : Func
  pub found : function_of c.program name ≡ Some function
  pub is : IsFunctionOf c.program t func function
  pub passed : AreArgs (slot_names g) from args
  pub slots : length (slot_names function) ≡ code.slots
  pub params : AreSlots (slot_names function) code.params (param_names function.params)
  pub body : AreStatements c.program t (slot_names function) (body_of (slice_get t.funcs func)) function.body

pub kind_is : (p : Program) (t : Table) (names : List Name) (n line : ℕ) (target : Target) (name : Name) (args : List Arg) (k : Kind) → (h : IsNode p t names n line (call_stmt target name args)) → kind_at t n ≡ Some k
    → IsStmt t.nodes (function_names p) names (call_stmt target name args) (n + 1) k
kind_is p t names n line target name args k h there =
    subst (λ (i : Kind). IsStmt t.nodes (function_names p) names (call_stmt target name args) (n + 1) i) (some_same h.node.kind k (sym (ap kind_of_node h.there) ∙ there)) h.is

pub called : (c : Setting) (t : Table) (k : ℕ) (g : Func) (n line : ℕ) (target : Target) (name : Name) (args : List Arg) (to : tables.Target) (func : ℕ) (from : List tables.Arg) (code : Function)
    → IsSettingOf t k c → IsNode c.program t (slot_names g) n line (call_stmt target name args) → kind_at t n ≡ Some (call_node to func from) → slice_get t.funcs func ≡ Some code
    → Called c t g func from code name args
called c t k g n line target name args to func from code of_table node there function =
    let h = kind_is c.program t (slot_names g) n line target name args (call_node to func from) node there in
    let found = callee c.program t func name of_table.owned of_table.table h.1 in
    let is = found_of_number c.program t func name found.func of_table.owned of_table.table h.1 found.found in
    let same : is.code ≡ code = some_same is.code code (sym is.there ∙ function) in
    record {
      function = found.func;
      found = found.found;
      is = is;
      passed = h.2;
      slots = sym is.is.slots ∙ ap (λ (f : Function). f.slots) same;
      params = subst (λ (f : Function). AreSlots (slot_names found.func) f.params (param_names found.func.params)) same is.is.params;
      body = subst (λ (o : Option Function). AreStatements c.program t (slot_names found.func) (body_of o) found.func.body) (sym is.there) (0, is.is.body);
    }

-- ---- what the call comes to

-- a call that was not refused
pub record Opens (c : Setting) (contexts : List (List Name)) (u : ThreadState) (r : Result Passing FaultKind) (s : State) : Type 0 where
  pub passing : Passing
  pub left : ℕ
  pub is : r ≡ Ok passing
  pub few : nat_lt s.calls c.most_calls ≡ true
  pub turn : s.turns ≡ suc left
  pub state : IsState contexts u (entered passing (record s { turns = left }))

pub opens : (c : Setting) (contexts : List (List Name)) (u : ThreadState) (line : ℕ) (r : Result Passing FaultKind) (s : State) → u.faulted ≡ false → IsState contexts u (begun c line r s) → Opens c contexts u r s
unfolding with_depth with_turn
opens c contexts u line (Err kind) s going is = absurd (never_faulted contexts u kind line s going is)
opens c contexts u line (Ok h) s going is = by (nat_lt s.calls c.most_calls) refl is
  where
    turned : (n : ℕ) → s.turns ≡ n → nat_lt s.calls c.most_calls ≡ true → IsState contexts u (with_turns n line (entered h) s) → Opens c contexts u (Ok h) s
    turned zero e few is = absurd (never_faulted contexts u _ line s going is)
    turned (suc left) e few is = record { passing = h; left = left; is = refl; few = few; turn = e; state = is }

    by : (b : Bool) → nat_lt s.calls c.most_calls ≡ b → IsState contexts u (under_limit b line (with_turn line (entered h)) s) → Opens c contexts u (Ok h) s
    by true e is = turned s.turns refl e is
    by false e is = absurd (never_faulted contexts u _ line s going is)

pub opened_point : (c : Setting) (line : ℕ) (target : Target) (args : List Arg) (o : Option Func) (g : Func) (fs : List middles.Frame) (s : State) (contexts : List (List Name)) (u : ThreadState)
    → o ≡ Some g → (h : Opens c contexts u (all_passed s.store g.params args) s)
    → middle (before_all g.body (answers g.ret g.params args target ∷ fs)) (entered h.passing (record s { turns = h.left })) ≡ step_call c line target args o fs s
opened_point c line target args o g fs s contexts u found h =
    ap (λ (n : ℕ). step_body n line target args g h.passing fs s) (sym h.turn)
    ∙ ap (λ (b : Bool). step_open_call b line target args g h.passing fs s) (sym h.few)
    ∙ ap (λ (r : Result Passing FaultKind). step_call_with c line target args g r fs s) (sym h.is)
    ∙ ap (λ (x : Option Func). step_call c line target args x fs s) (sym found)

-- a call that was refused
refused : (c : Setting) (line : ℕ) (target : Target) (args : List Arg) (g : Func) (kind : FaultKind) (r : Result Passing FaultKind) (fs : List middles.Frame) (s : State) → s.faulted ≡ false
    → begun c line r s ≡ with_fault kind line s → step_call_with c line target args g r fs s ≡ middle fs (with_fault kind line s)
unfolding with_depth with_turn with_fault
refused c line target args g kind (Err other) fs s going is = ap (middle fs) is
refused c line target args g kind (Ok h) fs s going is = by (nat_lt s.calls c.most_calls) is
  where
    turned : (n : ℕ) → with_turns n line (entered h) s ≡ with_fault kind line s → step_body n line target args g h fs s ≡ middle fs (with_fault kind line s)
    turned zero e = ap (middle fs) e
    turned (suc left) e = let on : s.faulted ≡ true = ap (λ (x : State). x.faulted) e in let never : ⊥ = cc in absurd never

    by : (b : Bool) → under_limit b line (with_turn line (entered h)) s ≡ with_fault kind line s → step_open_call b line target args g h fs s ≡ middle fs (with_fault kind line s)
    by true e = turned s.turns e
    by false e = ap (middle fs) e

pub refused_point : (c : Setting) (line : ℕ) (target : Target) (args : List Arg) (o : Option Func) (g : Func) (kind : FaultKind) (fs : List middles.Frame) (s : State) → s.faulted ≡ false → o ≡ Some g
    → begun c line (all_passed s.store g.params args) s ≡ with_fault kind line s → middle fs (with_fault kind line s) ≡ step_call c line target args o fs s
refused_point c line target args o g kind fs s going found is =
    sym (refused c line target args g kind (all_passed s.store g.params args) fs s going is) ∙ ap (λ (x : Option Func). step_call c line target args x fs s) (sym found)

-- ---- the thread

pub begins : (c : Setting) (t : Table) (k : ℕ) (g : Func) (gs : List Func) (n line : ℕ) (target : Target) (name : Name) (args : List Arg) (to : tables.Target) (func : ℕ) (from : List tables.Arg) (code : Function)
    (before after : ThreadRun) (body : Option Frame) (fs : List middles.Frame) (s : State)
    → (h : Called c t g func from code name args) → IsNode c.program t (slot_names g) n line (call_stmt target name args) → kind_at t n ≡ Some (call_node to func from)
    → RunsIn c.program t before.func (g ∷ gs) → AreFrames c.program t (g ∷ gs) (frames_of before) fs
    → ((p : Program) (hs : List Func) (b : Body) (xs : List Frame) (es : List middles.Frame) → AreStatements p t (names_now hs) (numbers_from t (lists.Body func) 0) b → AreFrames p t hs xs es → AreFrames p t hs (frames_shown body ++ xs) (before_all b es))
    → frames_of after ≡ frames_shown body ++ (Answers n before.func ∷ frames_of before) → after.func ≡ Some func → after.state.faulted ≡ false
    → IsState (slot_names h.function ∷ slot_names g ∷ map slot_names gs) after.state (begun c line (all_passed s.store h.function.params args) s)
    → Begins c t (g ∷ gs) after s (step_call c line target args (function_of c.program name) fs s) None
begins c t k g gs n line target name args to func from code before after body fs s h node there runs frames puts left in_callee going is =
    let hs : List Func = h.function ∷ g ∷ gs in
    let o = opens c (map slot_names hs) after.state line (all_passed s.store h.function.params args) s going is in
    let f : middles.Frame = answers h.function.ret h.function.params args target in
    let m : Middle = middle (before_all h.function.body (f ∷ fs)) (entered o.passing (record s { turns = o.left })) in
    let same : m ≡ step_call c line target args (function_of c.program name) fs s = opened_point c line target args (function_of c.program name) h.function fs s (map slot_names hs) after.state h.found o in
    let i = kind_is c.program t (slot_names g) n line target name args (call_node to func from) node there in
    let answer : AreFrames c.program t hs (Answers n before.func ∷ frames_of before) (f ∷ fs) =
    ((args, target, refl, record { to = to; func = func; from = from; there = there; function = h.is; to_target = i.0; passed = h.passed }, runs), frames) in
    let all = puts c.program hs h.function.body (Answers n before.func ∷ frames_of before) (f ∷ fs) h.body answer in
    subst (λ (x : Middle). Begins c t (g ∷ gs) after s x None) same (
      hs,
      subst (λ (x : Option ℕ). RunsIn c.program t x hs) (sym in_callee) h.is,
      subst (λ (xs : List Frame). AreFrames c.program t hs xs m.frames) (sym left) all,
      o.state,
      refl,
    )

pub stops : (c : Setting) (t : Table) (g : Func) (gs : List Func) (line here : ℕ) (target : Target) (name : Name) (args : List Arg) (kind : FaultKind) (before after : ThreadRun) (function : Func) (fs : List middles.Frame) (s : State)
    → function_of c.program name ≡ Some function → here ≡ line → RunsIn c.program t after.func (g ∷ gs) → AreFrames c.program t (g ∷ gs) (frames_of after) fs → after.state.faulted ≡ false
    → InState (g ∷ gs) after.state s → begun c line (all_passed s.store function.params args) s ≡ with_fault kind line s
    → Begins c t (g ∷ gs) after s (step_call c line target args (function_of c.program name) fs s) (Some (Fault (record { kind = kind; line = here })))
stops c t g gs line here target name args kind before after function fs s found on_line runs frames going is refuses =
    subst (λ (l : ℕ). Begins c t (g ∷ gs) after s (step_call c line target args (function_of c.program name) fs s) (Some (Fault (record { kind = kind; line = l })))) (sym on_line)
    (subst (λ (x : Middle). Begins c t (g ∷ gs) after s x (Some (Fault (record { kind = kind; line = line }))))
    (refused_point c line target args (function_of c.program name) function kind fs s (sym is.faulted ∙ going) found refuses)
    (runs, frames, is, refl))

-- what a call leaves is less by its turn
pub call_cost : (t : Table) (func : ℕ) (code : Function) (old new : ℕ) (body : Option Frame) (n : ℕ) (caller : Option ℕ) (xs ys : List Frame) → slice_get t.funcs func ≡ Some code → new + 1 ≡ old
    → frames_cost t (frames_shown body) ≤ list_cost (node_cost t) (numbers_from t (lists.Body func) 0) → ys ≡ frames_shown body ++ (Answers n caller ∷ xs)
    → left_to_do t new ys ≤ left_to_do t old xs
call_cost t func code old new body n caller xs ys there turn few put = by body few put
  where
    covers : 4 + list_cost (node_cost t) (body_of (slice_get t.funcs func)) ≤ turn_cost t
    covers = subst (λ (o : Option Function). 4 + list_cost (node_cost t) (body_of o) ≤ turn_cost t) (sym there) (turn_covers_body t func code there)

    more : old * turn_cost t ≡ new * turn_cost t + turn_cost t
    more = subst (λ (x : ℕ). x * turn_cost t ≡ new * turn_cost t + turn_cost t) turn (omega arith)

    by : (o : Option Frame) → frames_cost t (frames_shown o) ≤ list_cost (node_cost t) (body_of (slice_get t.funcs func)) → ys ≡ frames_shown o ++ (Answers n caller ∷ xs) → left_to_do t new ys ≤ left_to_do t old xs
    by None le e = subst (λ (zs : List Frame). left_to_do t new zs ≤ left_to_do t old xs) (sym e) (omega (arith, covers, more, le))
    by (Some x) le e = subst (λ (zs : List Frame). left_to_do t new zs ≤ left_to_do t old xs) (sym e) (omega (arith, covers, more, le))
