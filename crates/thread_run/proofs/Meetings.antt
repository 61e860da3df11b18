-- Where a list or a loop meets its statement, and what is skipped.
use Rattle.std.proofs.Common.{inl, inr, ◌≡◌, ℕ, zero, suc, ◌+◌, ◌-◌, ◌*◌, ◌≤◌, ◌<◌, Bool, true, false, List, [], ◌∷◌, ◌++◌, length, Result, Ok, Err, Option, Some, None, MatchResult, refl, sym, ap, ◌∙◌, subst, arith, append_assoc, append-nil}
use Rattle.std.specs.Prelude.{slice_get, map, ◌⊎◌, IfOk}
use Rattle.std.specs.declared.alloc.AllocError.{AllocError}
use Rattle.std.proofs.Math.Logic.{∥∥₁_map}
use Rattle.std.proofs.lemmas.Bool.{cases_lt}
use Rattle.std.proofs.lemmas.List.{drop_all}
use Rattle.par_tree.specs.Tree.{Name, Program, Func, Stmt, Body, step, done}
use Rattle.par_ownership.specs.Ownership.{function_of}
use Rattle.thread_state.specs.Passed.States.{Setting, State, began, with_item}
use Rattle.thread_state.specs.Passed.Run.{actions_of}
use Rattle.thread_state.specs.Passed.Middle as middles
use Rattle.thread_state.specs.Passed.Middle.{Middle, middle, does, statements, before_all, step_frame, step_first, step_call, step_statement}
use Rattle.node_table.specs.Names.{slot_names}
use Rattle.node_table.specs.Table as tables
use Rattle.node_table.specs.Table.{Table, Kind, let_node, assign_node, put_node, alloc_node, free_node, if_node, while_node, call_node, print_node, both_node, split_node}
use Rattle.thread_points.specs.Points.{IsAt}
use Rattle.thread_stack.specs.declared.frame.Frame.{Frame}
use Rattle.thread_stack.specs.declared.frame.Frame.TheVariants.{Statements, Again}
use Rattle.thread_stack.specs.declared.list_of.ListOf.{ListOf}
use Rattle.thread_stack.specs.Frames.{AreFrames, AreStatements, IsFrame, IsNode, names_now, RunsIn}
use Rattle.thread_stack.specs.Lists.{kind_at, numbers_of, numbers_from}
use Rattle.thread_stack.specs.Measure.{frames_cost, list_cost, node_cost, cost_within, turn_cost, left_to_do}
use Rattle.thread_stack.proofs.Lists.{FirstOf, first_statement, at_place, no_statements, list_frame, no_frame}
use Rattle.thread_stack.proofs.Costs.{rest_costs}
use Rattle.thread_output.specs.Telling.{Tells}
use Rattle.thread_state.specs.declared.state.ThreadState.{ThreadState}
use Rattle.thread_state.specs.Settings.{IsSettingOf}
use Rattle.thread_run.specs.Stands.{InState}
use Rattle.thread_run.specs.Called.{IsNoCall}
use Rattle.thread_run.proofs.Coming.{items_aside}
use Rattle.thread_run.proofs.Behind.{none_runs}
use Rattle.thread_run.specs.declared.ready.Ready.{Ready}
use Rattle.thread_run.specs.declared.ready.Ready.TheVariants.{Fork, Join, Alloc, Release, Dummy, Fault, End}
use Rattle.thread_run.specs.declared.run.ThreadRun.{ThreadRun}
use Rattle.thread_run.specs.Functions.{frames_of, functions_of}
use Rattle.thread_run.specs.Calling.{is_call, Begins, BeginsRun}
use Rattle.thread_run.specs.Stepping.{Meeting, IsMet, KnowingAt, IsKnownAt, Does, DoesRun, RunsBy, Goes, Wants, StepsRun, RunsLess, KeepsFunctions, frames_left}
use Rattle.thread_run.proofs.Following.{acts, quiet_told}
use Rattle.thread_run.proofs.CanCalls.{call_of}

-- what a node that is a call has
record CallKind (o : Option Kind) : Type 0 where
  to : tables.Target
  func : ℕ
  from : List tables.Arg
  is : o ≡ Some (call_node to func from)

call_kind : (o : Option Kind) → is_call o ≡ true → CallKind o
call_kind None c = let never : ⊥ = cc in absurd never
call_kind (Some (let_node s x)) c = let never : ⊥ = cc in absurd never
call_kind (Some (assign_node s x)) c = let never : ⊥ = cc in absurd never
call_kind (Some (put_node s x y)) c = let never : ⊥ = cc in absurd never
call_kind (Some (alloc_node s x)) c = let never : ⊥ = cc in absurd never
call_kind (Some (free_node s)) c = let never : ⊥ = cc in absurd never
call_kind (Some (if_node x a b)) c = let never : ⊥ = cc in absurd never
call_kind (Some (while_node x a)) c = let never : ⊥ = cc in absurd never
call_kind (Some (call_node to func from)) c = record { to = to; func = func; from = from; is = refl }
call_kind (Some (print_node x)) c = let never : ⊥ = cc in absurd never
call_kind (Some (both_node a b blocks assigned)) c = let never : ⊥ = cc in absurd never
call_kind (Some (split_node s x l r body)) c = let never : ⊥ = cc in absurd never

pub no_call : (o : Option Kind) → is_call o ≡ false → IsNoCall o
no_call None c = tt
no_call (Some (let_node s x)) c = tt
no_call (Some (assign_node s x)) c = tt
no_call (Some (put_node s x y)) c = tt
no_call (Some (alloc_node s x)) c = tt
no_call (Some (free_node s)) c = tt
no_call (Some (if_node x a b)) c = tt
no_call (Some (while_node x a)) c = tt
no_call (Some (call_node to func from)) c = let never : ⊥ = cc in absurd never
no_call (Some (print_node x)) c = tt
no_call (Some (both_node a b blocks assigned)) c = tt
no_call (Some (split_node s x l r body)) c = tt

-- ---- a statement that is a call

module _ (t : Table) (k n : ℕ) (before after : ThreadRun) where
  begun : (c : Setting) (gs : List Func) (fs : List middles.Frame) (s : State) (m : Middle) (r : Result (Option Ready) AllocError) → after.told ≡ before.told
      → MatchResult r (λ o. Begins c t gs after s m o) (λ _. InState gs after.state s) → MatchResult r (λ o. Does c t gs before after fs s m o) (λ _. Wants after s m)
  begun c gs fs s m (Ok None) told h = record {
    functions = h.0;
    runs = h.1;
    frames = h.2;
    state = h.3;
    new = [];
    grown = h.4 ∙ sym (append-nil s.items);
    quiet = refl;
    tells = λ part tells. subst (λ x. Tells x (part ++ [])) (sym told) (subst (λ xs. Tells before.told xs) (sym (append-nil part)) tells);
  }
  begun c gs fs s m (Ok (Some (Fault x))) told h = (h.0, h.2, (h.1, h.3), λ part tells. subst (λ x. Tells x part) (sym told) tells)
  begun c gs fs s m (Ok (Some (Fork x))) told h = absurd h
  begun c gs fs s m (Ok (Some (Join branch))) told h = absurd h
  begun c gs fs s m (Ok (Some (Alloc slot len shell))) told h = absurd h
  begun c gs fs s m (Ok (Some (Release slot words))) told h = absurd h
  begun c gs fs s m (Ok (Some Dummy)) told h = absurd h
  begun c gs fs s m (Ok (Some End)) told h = absurd h
  begun c gs fs s m (Err e) told h = record { functions = gs; at = s; state = h; new = []; where_it_is = inl refl }

  pub call_does : (result : Result (Option Ready) AllocError) → is_call (kind_at t n) ≡ true → BeginsRun t k before n result after → after.told ≡ before.told → DoesRun t k before n result after
  call_does result calls begins told = λ c g gs line stmt fs s of_table runs node frames is.
      let kind = call_kind (kind_at t n) calls in
      let h = call_of t c.program (slot_names g) n line stmt kind.to kind.func kind.from node kind.is in
      let made = begins c g gs line h.target h.name h.args fs s of_table runs (subst (λ (x : Stmt). IsNode c.program t (slot_names g) n line x) h.is node) frames is in
      subst (λ (x : Stmt). MatchResult result (λ o. Does c t (g ∷ gs) before after fs s (step_statement c line x fs s) o) (λ _. Wants after s (step_statement c line x fs s))) (sym h.is)
      (begun c (g ∷ gs) fs s (step_call c line h.target h.args (function_of c.program h.name) fs s) result told made)

-- ---- what is left of a list

-- the statements of a list from a place on are put before what is left, where there are any
pub record RestPut (t : Table) (list : ListOf) (next : ℕ) (before mid : ThreadRun) : Type 0 where
  pub some : next < length (numbers_of t list) → frames_of mid ≡ Statements list next ∷ frames_of before
  pub none : length (numbers_of t list) ≤ next → frames_of mid ≡ frames_of before

rest_frames : (t : Table) (list : ListOf) (next : ℕ) (before mid : ThreadRun) (p : Program) (gs : List Func) (b : Body) (fs : List middles.Frame) → RestPut t list next before mid → AreStatements p t (names_now gs) (numbers_from t list next) b
    → AreFrames p t gs (frames_of before) fs → AreFrames p t gs (frames_of mid) (before_all b fs)
rest_frames t list next before mid p gs b fs rest h frames = by (cases_lt next (length (numbers_of t list)))
  where
    by : (next < length (numbers_of t list)) ⊎ (length (numbers_of t list) ≤ next) → AreFrames p t gs (frames_of mid) (before_all b fs)
    by (inl some) = subst (λ (xs : List Frame). AreFrames p t gs xs (before_all b fs)) (sym (rest.some some)) (list_frame p t gs list next b (frames_of before) fs some h frames)
    by (inr none) = subst (λ (xs : List Frame). AreFrames p t gs xs (before_all b fs)) (sym (rest.none none)) (no_frame p t gs list next b (frames_of before) fs none h frames)

rest_cost : (t : Table) (list : ListOf) (next : ℕ) (before mid : ThreadRun) → RestPut t list next before mid → frames_cost t (frames_of mid) ≤ list_cost (node_cost t) (numbers_from t list next) + frames_cost t (frames_of before)
rest_cost t list next before mid rest = by (cases_lt next (length (numbers_of t list)))
  where
    by : (next < length (numbers_of t list)) ⊎ (length (numbers_of t list) ≤ next) → frames_cost t (frames_of mid) ≤ list_cost (node_cost t) (numbers_from t list next) + frames_cost t (frames_of before)
    by (inl some) = let e = ap (λ (xs : List Frame). frames_cost t xs) (rest.some some) in omega (arith, e)
    by (inr none) = let e = ap (λ (xs : List Frame). frames_cost t xs) (rest.none none) in omega (arith, e)

rest_functions : (t : Table) (list : ListOf) (next : ℕ) (before mid : ThreadRun) (func : Option ℕ) → RestPut t list next before mid → functions_of func (frames_of mid) ≡ functions_of func (frames_of before)
rest_functions t list next before mid func rest = by (cases_lt next (length (numbers_of t list)))
  where
    by : (next < length (numbers_of t list)) ⊎ (length (numbers_of t list) ≤ next) → functions_of func (frames_of mid) ≡ functions_of func (frames_of before)
    by (inl some) = ap (λ (xs : List Frame). functions_of func xs) (rest.some some)
    by (inr none) = ap (λ (xs : List Frame). functions_of func xs) (rest.none none)

pub list_functions : (t : Table) (list : ListOf) (next : ℕ) (before mid after : ThreadRun) (result : Result (Option Ready) AllocError) → RestPut t list (next + 1) before mid → mid.func ≡ before.func
    → IfOk result (λ o. functions_of after.func (frames_left o (frames_of after)) ≡ functions_of mid.func (frames_of mid)) → KeepsFunctions before (Statements list next) result after
list_functions t list next before mid after (Err e) rest same_func same = tt
list_functions t list next before mid after (Ok o) rest same_func same =
    same ∙ rest_functions t list (next + 1) before mid mid.func rest ∙ ap (λ (n : Option ℕ). functions_of n (frames_of before)) same_func

-- ---- behind the mark of a statement

module _ (t : Table) (k n : ℕ) (before mid after : ThreadRun) (same_told : mid.told ≡ before.told) where
  behind_mark : (c : Setting) (g : Func) (gs : List Func) (behind fs : List middles.Frame) (s : State) (line : ℕ) (stmt : Stmt) (rest : Body) (r : Result (Option Ready) AllocError)
      → MatchResult r (λ o. Does c t (g ∷ gs) mid after behind (with_item (began line) s) (step_frame c (does (statements (step line stmt rest))) fs s) o)
      (λ _. Wants after (with_item (began line) s) (step_frame c (does (statements (step line stmt rest))) fs s))
      → MatchResult r (λ o. RunsBy c t (g ∷ gs) before after (does (statements (step line stmt rest))) fs s o) (λ _. Wants after s (step_frame c (does (statements (step line stmt rest))) fs s))
  behind_mark c g gs behind fs s line stmt rest (Ok None) h = record {
    functions = h.functions;
    runs = h.runs;
    frames = h.frames;
    state = h.state;
    new = began line ∷ h.new;
    grown = h.grown ∙ append_assoc s.items (began line ∷ []) h.new;
    quiet = h.quiet;
    tells = λ part tells. subst (λ xs. Tells after.told xs) (append_assoc part (began line ∷ []) h.new)
        (h.tells (part ++ began line ∷ []) (quiet_told mid.told part (began line ∷ []) refl refl (subst (λ x. Tells x part) (sym same_told) tells)));
  }
  behind_mark c g gs behind fs s line stmt rest (Ok (Some ready)) h = (
    acts c t (g ∷ gs) after (does (statements (step line stmt rest))) fs behind s ready tt h.0 h.2,
    items_aside (map slot_names (g ∷ gs)) after.state (with_item (began line) s) s.items h.1,
    λ part tells. h.3 part (subst (λ x. Tells x part) (sym same_told) tells),
  )
  behind_mark c g gs behind fs s line stmt rest (Err e) h = by h.where_it_is
    where
      w : State
      w = with_item (began line) s

      m : Middle
      m = step_frame c (does (statements (step line stmt rest))) fs s

      by : (h.at ≡ w) ⊎ ((h.at ≡ m.state) × (m.state.items ≡ w.items ++ h.new) × (actions_of h.new ≡ [])) → Wants after s m
      by (inl e) = record {
        functions = h.functions;
        at = s;
        state = items_aside (map slot_names h.functions) after.state w s.items (subst (λ (q : State). InState h.functions after.state q) e h.state);
        new = [];
        where_it_is = inl refl;
      }
      by (inr e) = record {
        functions = h.functions;
        at = h.at;
        state = h.state;
        new = began line ∷ h.new;
        where_it_is = inr (e.0, e.1 ∙ append_assoc s.items (began line ∷ []) h.new, e.2);
      }

  at_first : (c : Setting) (g : Func) (gs : List Func) (ns : List ℕ) (f : middles.Frame) (fs : List middles.Frame) (s : State) (b : Body) (result : Result (Option Ready) AllocError) → IsSettingOf t k c → f ≡ does (statements b)
      → (first : FirstOf c.program t (slot_names g) n ns b) → s.faulted ≡ false → RunsIn c.program t mid.func (g ∷ gs)
      → AreFrames c.program t (g ∷ gs) (frames_of mid) (before_all first.rest fs) → InState (g ∷ gs) mid.state s → DoesRun t k mid n result after
      → MatchResult result (λ o. RunsBy c t (g ∷ gs) before after f fs s o) (λ _. Wants after s (step_frame c f fs s))
  at_first c g gs ns f fs s b result of_table is first going runs frames state made =
      let w : State = with_item (began first.line) s in
      let m : Middle = step_statement c first.line first.stmt (before_all first.rest fs) w in
      let same : m ≡ step_frame c (does (statements (step first.line first.stmt first.rest))) fs s = ap (λ (x : Bool). step_first x c first.line first.stmt first.rest fs s) (sym going) in
      let h = made c g gs first.line first.stmt (before_all first.rest fs) w of_table runs first.node frames (items_aside (map slot_names (g ∷ gs)) mid.state s (State.items w) state) in
      subst (λ (x : middles.Frame). MatchResult result (λ o. RunsBy c t (g ∷ gs) before after x fs s o) (λ _. Wants after s (step_frame c x fs s))) (sym (is ∙ ap (λ (x : Body). does (statements x)) first.is))
      (behind_mark c g gs (before_all first.rest fs) fs s first.line first.stmt first.rest result
      (subst (λ (x : Middle). MatchResult result (λ o. Does c t (g ∷ gs) mid after (before_all first.rest fs) w x o) (λ _. Wants after w x)) same h))

  -- what is left of a list is put behind its first statement
  pub list_does : (list : ListOf) (next : ℕ) (result : Result (Option Ready) AllocError) → before.state.faulted ≡ false → slice_get (numbers_of t list) next ≡ Some n
      → RestPut t list (next + 1) before mid → mid.func ≡ before.func → mid.state ≡ before.state → DoesRun t k mid n result after
      → StepsRun t k before (Statements list next) result after
  list_does list next result on there rest same_func same_state made = λ c gs f fs s of_table runs frame frames is. by c gs f fs s of_table runs frame frames is
    where
      by : (c : Setting) (gs : List Func) (f : middles.Frame) (fs : List middles.Frame) (s : State) → IsSettingOf t k c → RunsIn c.program t before.func gs → IsFrame c.program t gs (Statements list next) f
          → AreFrames c.program t gs (frames_of before) fs → InState gs before.state s → MatchResult result (λ o. RunsBy c t gs before after f fs s o) (λ _. Wants after s (step_frame c f fs s))
      by c [] f fs s of_table runs frame frames is = absurd (none_runs c.program t (frames_of before) fs frames)
      by c (g ∷ gs) f fs s of_table runs frame frames is =
          let at = at_place c.program t (slot_names g) list next n frame.0 there frame.2 in
          at_first c g gs (numbers_from t list (next + 1)) f fs s frame.0 result of_table frame.1 at (sym is.faulted ∙ on)
          (subst (λ (x : Option ℕ). RunsIn c.program t x (g ∷ gs)) (sym same_func) runs)
          (rest_frames t list (next + 1) before mid c.program (g ∷ gs) at.rest fs rest at.later frames)
          (subst (λ (u : ThreadState). InState (g ∷ gs) u s) (sym same_state) is) made

pub again_does : (t : Table) (k n : ℕ) (before after : ThreadRun) (result : Result (Option Ready) AllocError) → before.state.faulted ≡ false → DoesRun t k before n result after → StepsRun t k before (Again n) result after
again_does t k n before after result on made = λ c gs f fs s of_table runs frame frames is. by c gs f fs s of_table runs frame frames is
  where
    by : (c : Setting) (gs : List Func) (f : middles.Frame) (fs : List middles.Frame) (s : State) → IsSettingOf t k c → RunsIn c.program t before.func gs → IsFrame c.program t gs (Again n) f
        → AreFrames c.program t gs (frames_of before) fs → InState gs before.state s → MatchResult result (λ o. RunsBy c t gs before after f fs s o) (λ _. Wants after s (step_frame c f fs s))
    by c [] f fs s of_table runs frame frames is = absurd (none_runs c.program t (frames_of before) fs frames)
    by c (g ∷ gs) f fs s of_table runs frame frames is =
        let at = first_statement c.program t (slot_names g) n [] frame.0 frame.2 in
        let none = no_statements c.program t (slot_names g) at.rest at.later in
        at_first t k n before before after refl c g gs [] f fs s frame.0 result of_table frame.1 at (sym is.faulted ∙ on) runs
        (subst (λ (b : Body). AreFrames c.program t (g ∷ gs) (frames_of before) (before_all b fs)) (sym none) frames) is made

-- ---- where the statement is met

met : (t : Table) (k n : ℕ) (mid : ThreadRun) (c : Setting) → IsSettingOf t k c → (g : Func) (gs : List Func) (ns : List ℕ) (f : middles.Frame) (fs : List middles.Frame) (s : State) (b : Body) → f ≡ does (statements b)
    → (first : FirstOf c.program t (slot_names g) n ns b) → IsAt c (f ∷ fs) s → InState (g ∷ gs) mid.state s → s.faulted ≡ false → AreFrames c.program t (g ∷ gs) (frames_of mid) (before_all first.rest fs) → Meeting t k n mid
met t k n mid c of_table g gs ns f fs s b is first at state going frames = record {
  meaning = record {
    setting = c;
    of_table = of_table;
    runs = g;
    waiting = gs;
    line = first.line;
    stmt = first.stmt;
    later = first.rest;
    own = fs;
    at = s;
    node = first.node;
    point = subst (λ (x : middles.Frame). IsAt c (x ∷ fs) s) (is ∙ ap (λ (x : Body). does (statements x)) first.is) at;
    in_state = state;
    going = going;
  };
  frames = frames;
}

pub list_met : (t : Table) (k n : ℕ) (before mid : ThreadRun) (list : ListOf) (next : ℕ) → before.state.faulted ≡ false → slice_get (numbers_of t list) next ≡ Some n → RestPut t list (next + 1) before mid
    → mid.state ≡ before.state → IsKnownAt t k before (Statements list next) → IsMet t k mid n
list_met t k n before mid list next on there rest same_state known = ∥∥₁_map known (λ m. by m m.functions m.own m.frames m.thread.at_point m.state)
  where
    by : (m : KnowingAt t k before (Statements list next)) (gs : List Func) (own : List middles.Frame) → AreFrames m.setting.program t gs (Statements list next ∷ frames_of before) own → IsAt m.setting own m.at → InState gs before.state m.at
        → Meeting t k n mid
    by m gs [] frames at is = absurd frames
    by m [] (f ∷ fs) frames at is = absurd (none_runs m.setting.program t (frames_of before) fs frames.1)
    by m (g ∷ gs) (f ∷ fs) frames at is =
        let first = at_place m.setting.program t (slot_names g) list next n frames.0.0 there frames.0.2 in
        met t k n mid m.setting m.of_table g gs (numbers_from t list (next + 1)) f fs m.at frames.0.0 frames.0.1 first at
        (subst (λ (u : ThreadState). InState (g ∷ gs) u m.at) (sym same_state) is) (sym is.faulted ∙ on)
        (rest_frames t list (next + 1) before mid m.setting.program (g ∷ gs) first.rest fs rest first.later frames.1)

pub again_met : (t : Table) (k n : ℕ) (run : ThreadRun) → run.state.faulted ≡ false → IsKnownAt t k run (Again n) → IsMet t k run n
again_met t k n run on known = ∥∥₁_map known (λ m. by m m.functions m.own m.frames m.thread.at_point m.state)
  where
    by : (m : KnowingAt t k run (Again n)) (gs : List Func) (own : List middles.Frame) → AreFrames m.setting.program t gs (Again n ∷ frames_of run) own → IsAt m.setting own m.at → InState gs run.state m.at → Meeting t k n run
    by m gs [] frames at is = absurd frames
    by m [] (f ∷ fs) frames at is = absurd (none_runs m.setting.program t (frames_of run) fs frames.1)
    by m (g ∷ gs) (f ∷ fs) frames at is =
        let first = first_statement m.setting.program t (slot_names g) n [] frames.0.0 frames.0.2 in
        let none = no_statements m.setting.program t (slot_names g) first.rest first.later in
        met t k n run m.setting m.of_table g gs [] f fs m.at frames.0.0 frames.0.1 first at is (sym is.faulted ∙ on)
        (subst (λ (b : Body). AreFrames m.setting.program t (g ∷ gs) (frames_of run) (before_all b fs)) (sym none) frames.1)

-- ---- what is skipped

skipped : (c : Setting) (b : Body) (f : middles.Frame) (fs : List middles.Frame) (s : State) → f ≡ does (statements b) → s.faulted ≡ true → middle fs s ≡ step_frame c f fs s
skipped c b f fs s is over = go b is
  where
    go : (a : Body) → f ≡ does (statements a) → middle fs s ≡ step_frame c f fs s
    go done e = ap (λ (x : middles.Frame). step_frame c x fs s) (sym e)
    go (step line stmt rest) e = ap (λ (x : Bool). step_first x c line stmt rest fs s) (sym over) ∙ ap (λ (x : middles.Frame). step_frame c x fs s) (sym e)

empty_list : (c : Setting) (t : Table) (names : List Name) (list : ListOf) (next : ℕ) (b : Body) (f : middles.Frame) (fs : List middles.Frame) (s : State) → f ≡ does (statements b)
    → AreStatements c.program t names (numbers_from t list next) b → length (numbers_of t list) ≤ next → middle fs s ≡ step_frame c f fs s
empty_list c t names list next b f fs s is h none =
    let empty = no_statements c.program t names b (subst (λ (ns : List ℕ). AreStatements c.program t names ns b) (drop_all next (numbers_of t list) none) h) in
    ap (λ (x : middles.Frame). step_frame c x fs s) (sym (is ∙ ap (λ (x : Body). does (statements x)) empty))

rests : (c : Setting) (t : Table) (gs : List Func) (run : ThreadRun) (f : middles.Frame) (fs : List middles.Frame) (s : State) → RunsIn c.program t run.func gs → AreFrames c.program t gs (frames_of run) fs → InState gs run.state s
    → middle fs s ≡ step_frame c f fs s → RunsBy c t gs run run f fs s None
rests c t gs run f fs s runs frames is same = subst (λ (m : Middle). Goes c t run run s m) same (record {
  functions = gs;
  runs = runs;
  frames = frames;
  state = is;
  new = [];
  grown = sym (append-nil s.items);
  quiet = refl;
  tells = λ part tells. subst (λ xs. Tells run.told xs) (sym (append-nil part)) tells;
})

pub list_skipped : (t : Table) (k : ℕ) (run : ThreadRun) (list : ListOf) (next : ℕ) → run.state.faulted ≡ true → StepsRun t k run (Statements list next) (Ok None) run
list_skipped t k run list next over = λ c gs f fs s of_table runs frame frames is.
    rests c t gs run f fs s runs frames is (skipped c frame.0 f fs s frame.1 (sym is.faulted ∙ over))

pub again_skipped : (t : Table) (k n : ℕ) (run : ThreadRun) → run.state.faulted ≡ true → StepsRun t k run (Again n) (Ok None) run
again_skipped t k n run over = λ c gs f fs s of_table runs frame frames is.
    rests c t gs run f fs s runs frames is (skipped c frame.0 f fs s frame.1 (sym is.faulted ∙ over))

pub none_there : (t : Table) (k : ℕ) (run : ThreadRun) (list : ListOf) (next : ℕ) → length (numbers_of t list) ≤ next → StepsRun t k run (Statements list next) (Ok None) run
none_there t k run list next none = λ c gs f fs s of_table runs frame frames is.
    rests c t gs run f fs s runs frames is (empty_list c t (names_now gs) list next frame.0 f fs s frame.1 frame.2 none)

-- ---- costs

list_some : (cost : ℕ → ℕ) (ns : List ℕ) → 1 ≤ list_cost cost ns
list_some cost [] = omega arith
list_some cost (n ∷ ns) = let rest = list_some cost ns in omega (arith, rest)

pub skip_cost : (t : Table) (run : ThreadRun) (list : ListOf) (next : ℕ) → RunsLess t run (Statements list next) (Ok None) run
skip_cost t run list next = let some = list_some (node_cost t) (numbers_from t list next) in omega (arith, some)

pub list_cost_falls : (t : Table) (n : ℕ) (before mid after : ThreadRun) (list : ListOf) (next : ℕ) (result : Result (Option Ready) AllocError) → slice_get (numbers_of t list) next ≡ Some n → RestPut t list (next + 1) before mid
    → mid.state ≡ before.state → IfOk result (λ _. left_to_do t after.state.turns (frames_of after) + 1 ≤ left_to_do t mid.state.turns (frames_of mid) + node_cost t n) → RunsLess t before (Statements list next) result after
list_cost_falls t n before mid after list next (Err e) there rest same less = tt
list_cost_falls t n before mid after list next (Ok (Some ready)) there rest same less = tt
list_cost_falls t n before mid after list next (Ok None) there rest same less =
    let a = rest_costs t list next n there in
    let b = rest_cost t list (next + 1) before mid rest in
    let d : mid.state.turns * turn_cost t ≡ before.state.turns * turn_cost t = ap (λ (u : ThreadState). u.turns * turn_cost t) same in
    omega (arith, a, b, d, less)

pub again_cost : (t : Table) (n : ℕ) (before after : ThreadRun) (result : Result (Option Ready) AllocError)
    → IfOk result (λ _. left_to_do t after.state.turns (frames_of after) + 1 ≤ left_to_do t before.state.turns (frames_of before) + node_cost t n) → RunsLess t before (Again n) result after
again_cost t n before after (Err e) less = tt
again_cost t n before after (Ok (Some ready)) less = tt
again_cost t n before after (Ok None) less = omega (arith, less)

some_within : (t : Table) (d n : ℕ) → 2 ≤ cost_within t d n
unfolding cost_within
some_within t zero n = omega arith
some_within t (suc d) n = omega arith

some_cost : (t : Table) (n : ℕ) → 2 ≤ node_cost t n
some_cost t n = some_within t (length t.nodes - n) n

pub call_costs : (t : Table) (n : ℕ) (before after : ThreadRun) (result : Result (Option Ready) AllocError)
    → IfOk result (λ _. left_to_do t after.state.turns (frames_of after) ≤ left_to_do t before.state.turns (frames_of before))
    → IfOk result (λ _. left_to_do t after.state.turns (frames_of after) + 1 ≤ left_to_do t before.state.turns (frames_of before) + node_cost t n)
call_costs t n before after (Err e) less = tt
call_costs t n before after (Ok o) less = let some = some_cost t n in omega (arith, some, less)
