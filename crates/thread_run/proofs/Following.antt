-- What a step of the layer below comes to: a statement, with the frames that it puts and what it tells, or a frame that is none.
use Rattle.std.proofs.Common.{inl, inr, ◌≡◌, ℕ, ◌+◌, ◌*◌, ◌≤◌, List, [], ◌∷◌, ◌++◌, ℤ, Result, Ok, Err, Option, Some, None, refl, sym, ◌∙◌, ap, subst, arith, append-nil}
use Rattle.std.specs.Prelude.{true, is_some, IfOk, OnOk, MatchResult}
use Rattle.std.specs.declared.alloc.AllocError.{AllocError}
use Rattle.dag_order.specs.declared.fault.FaultAt.{FaultAt}
use Rattle.par_tree.specs.Tree.{Program, Func, Stmt}
use Rattle.thread_state.specs.Passed.States.{Setting, State, Item, printed}
use Rattle.thread_state.specs.Passed.Run.{lines_of, first_fault}
use Rattle.thread_state.specs.Passed.Middle as middles
use Rattle.thread_state.specs.Passed.Middle.{Middle, step_frame, step_statement}
use Rattle.node_table.specs.Names.{slot_names}
use Rattle.node_table.specs.Table.{Table}
use Rattle.thread_points.specs.Points.{IsPlain, marked}
use Rattle.thread_stack.specs.declared.branch.Branch.{Branch}
use Rattle.thread_stack.specs.declared.frame.Frame.{Frame}
use Rattle.thread_stack.specs.declared.frame.Frame.TheVariants.{Joins}
use Rattle.thread_stack.specs.Frames.{AreFrames, IsFrame, IsNode, functions_behind, frames_shown, RunsIn}
use Rattle.thread_stack.specs.Measure.{frames_cost, node_cost, turn_cost, left_to_do}
use Rattle.thread_output.specs.Telling.{Tells, AreLines}
use Rattle.thread_output.specs.Joining.{lines_before}
use Rattle.thread_points.specs.Laws.{earlier_fault}
use Rattle.thread_output.specs.declared.told.Told.{Told}
use Rattle.thread_output.proofs.Both.{faults, lines}
use Rattle.thread_state.specs.declared.state.ThreadState.{ThreadState}
use Rattle.thread_run.specs.Costs.{done_cost, LeavesLess}
use Rattle.thread_run.specs.Steps.{ActsNext, StepsOn}
use Rattle.thread_run.specs.declared.ready.Ready.{Ready}
use Rattle.thread_run.specs.declared.ready.Ready.TheVariants.{Fork, Join, Alloc, Release, Dummy, Fault, End}
use Rattle.thread_run.specs.declared.done.Done.{Done}
use Rattle.thread_run.specs.declared.done.Done.TheVariants.{Silent, Prints, Acts}
use Rattle.thread_run.specs.declared.run.ThreadRun.{ThreadRun}
use Rattle.thread_run.specs.Functions.{frames_of}
use Rattle.thread_run.specs.Going.{IsNext}
use Rattle.thread_run.specs.Stepping.{frames_with, ready_of, told_by, Does, DoesRun, Wants, StepsRun}
use Rattle.thread_run.specs.Dones.{IsAction, Comes, LeadsOrWants}

-- ---- what is told

-- behind a fault nothing is told
pub told_behind : (told : Told) (part : List Item) (fault : FaultAt) (v : ℤ) → Some fault ≡ first_fault part → Tells told part → Tells told (part ++ printed v ∷ [])
told_behind told part fault v some tells = record {
  fault = tells.fault ∙ sym some ∙ sym (faults part (printed v ∷ []) ∙ ap (λ (o : Option FaultAt). earlier_fault o None) (sym some));
  lines = subst (λ (vs : List ℤ). AreLines told.lines vs) (sym (lines part (printed v ∷ []) ∙ ap (λ (o : Option FaultAt). lines_before o (lines_of part) (v ∷ [])) (sym some))) tells.lines;
}

quiet_faults : (part new : List Item) → first_fault new ≡ None → first_fault (part ++ new) ≡ first_fault part
quiet_faults part new none = faults part new ∙ ap (λ (o : Option FaultAt). earlier_fault (first_fault part) o) none ∙ same (first_fault part)
  where
    same : (o : Option FaultAt) → earlier_fault o None ≡ o
    same None = refl
    same (Some fault) = refl

quiet_lines : (part new : List Item) → lines_of new ≡ [] → lines_of (part ++ new) ≡ lines_of part
quiet_lines part new none = lines part new ∙ ap (λ (vs : List ℤ). lines_before (first_fault part) (lines_of part) vs) none ∙ same (first_fault part) (lines_of part)
  where
    same : (o : Option FaultAt) (vs : List ℤ) → lines_before o vs [] ≡ vs
    same None vs = append-nil vs
    same (Some fault) vs = refl

pub quiet_told : (told : Told) (part new : List Item) → first_fault new ≡ None → lines_of new ≡ [] → Tells told part → Tells told (part ++ new)
quiet_told told part new no_fault no_line tells = record {
  fault = tells.fault ∙ sym (quiet_faults part new no_fault);
  lines = subst (λ (vs : List ℤ). AreLines told.lines vs) (sym (quiet_lines part new no_line)) tells.lines;
}

-- ---- an action

pub acts : (c : Setting) (t : Table) (gs : List Func) (after : ThreadRun) (f : middles.Frame) (fs behind : List middles.Frame) (s : State) (ready : Ready) → IsPlain f → RunsIn c.program t after.func gs
    → IsAction c t gs after.state (frames_of after) behind (marked f s) (step_frame c f fs s) ready → IsNext c t gs after ready (f ∷ fs) s
acts c t gs after f fs behind s (Fork x) plain runs h = record { next = f; rest = fs; own_is = refl; plain = plain; runs = runs; behind = behind; acts = h }
acts c t gs after f fs behind s (Join branch) plain runs h = absurd h
acts c t gs after f fs behind s (Alloc slot len shell) plain runs h = record { next = f; rest = fs; own_is = refl; plain = plain; runs = runs; behind = behind; acts = h }
acts c t gs after f fs behind s (Release slot words) plain runs h = record { next = f; rest = fs; own_is = refl; plain = plain; runs = runs; behind = behind; acts = h }
acts c t gs after f fs behind s Dummy plain runs h = record { next = f; rest = fs; own_is = refl; plain = plain; runs = runs; behind = behind; acts = h }
acts c t gs after f fs behind s (Fault x) plain runs h = record { next = f; rest = fs; own_is = refl; plain = plain; functions = gs; runs = runs; frames = h.0; comes = h.1 }
acts c t gs after f fs behind s End plain runs h = absurd h

-- a frame that is an action by itself, and one that is none
pub acts_meaning : (t : Table) (k : ℕ) (run : ThreadRun) (x : Frame) (ready : Ready) → ((p : Program) (gs : List Func) (f : middles.Frame) → IsFrame p t gs x f → IsPlain f) → ((gs : List Func) → functions_behind x gs ≡ gs)
    → ActsNext t k run.state x ready → StepsRun t k run x (Ok (Some ready)) run
acts_meaning t k run x ready plain behind comes = λ c gs f fs s of_table runs frame frames is.
    let h = comes c gs f (frames_of run) fs s of_table frame frames is in
    (acts c t gs run f fs h.0 s ready (plain c.program gs f frame) runs h.1, is, λ part told. told)

pub joins_meaning : (t : Table) (k : ℕ) (run : ThreadRun) (branch : Branch) → StepsRun t k run (Joins branch) (Ok (Some (Join branch))) run
joins_meaning t k run branch = λ c gs f fs s of_table runs frame frames is. (record { runs = runs; frames = (frame, frames) }, is, λ part told. told)

pub rests_meaning : (t : Table) (k : ℕ) (before after : ThreadRun) (x : Frame) → ((gs : List Func) → functions_behind x gs ≡ gs) → after.func ≡ before.func → frames_of after ≡ frames_of before → after.told ≡ before.told
    → StepsOn t k before.state x (Ok tt) after.state → StepsRun t k before x (Ok None) after
rests_meaning t k before after x behind same_func same_frames same_told goes = λ c gs f fs s of_table runs frame frames is.
    let h = goes c gs f (frames_of before) fs s of_table frame frames is in
    record {
      functions = gs;
      runs = subst (λ (n : Option ℕ). RunsIn c.program t n gs) (sym same_func) runs;
      frames = subst (λ (xs : List Frame). AreFrames c.program t gs xs (step_frame c f fs s).frames) (sym same_frames) h.0;
      state = h.1;
      new = [];
      grown = h.2 ∙ sym (append-nil s.items);
      quiet = refl;
      tells = λ part told. subst (λ (x : Told). Tells x (part ++ [])) (sym same_told) (subst (λ (xs : List Item). Tells before.told xs) (sym (append-nil part)) told);
    }

pub wants_meaning : (t : Table) (k : ℕ) (before after : ThreadRun) (x : Frame) (e f : AllocError) → StepsOn t k before.state x (Err e) after.state → StepsRun t k before x (Err f) after
wants_meaning t k before after x e f goes = λ c gs m fs s of_table runs frame frames is.
    record { functions = gs; at = s; state = goes c gs m (frames_of before) fs s of_table frame frames is; new = []; where_it_is = inl refl }

pub stays_meaning : (t : Table) (k : ℕ) (run : ThreadRun) (x : Frame) (e : AllocError) → StepsRun t k run x (Err e) run
stays_meaning t k run x e = λ c gs f fs s of_table runs frame frames is. record { functions = gs; at = s; state = is; new = []; where_it_is = inl refl }

-- ---- a statement

done_by : (c : Setting) (t : Table) (gs : List Func) (before after : ThreadRun) (fs : List middles.Frame) (s : State) (m : Middle) (d : Done) → RunsIn c.program t after.func gs → Comes c t gs after.state (frames_of before) fs s m d
    → frames_of after ≡ frames_with d (frames_of before) → ((part : List Item) → Tells before.told part → Tells after.told (part ++ told_by d)) → Does c t gs before after fs s m (ready_of d)
done_by c t gs before after fs s m (Silent first next) runs h left tells = record {
  functions = gs;
  runs = runs;
  frames = subst (λ (xs : List Frame). AreFrames c.program t gs xs m.frames) (sym left) h.0;
  state = h.1;
  new = [];
  grown = h.2 ∙ sym (append-nil s.items);
  quiet = refl;
  tells = tells;
}
done_by c t gs before after fs s m (Prints v) runs h left tells = record {
  functions = gs;
  runs = runs;
  frames = subst (λ (xs : List Frame). AreFrames c.program t gs xs m.frames) (sym left) h.0;
  state = h.1;
  new = printed v ∷ [];
  grown = h.2;
  quiet = refl;
  tells = tells;
}
done_by c t gs before after fs s m (Acts ready) runs h left tells = (
  runs,
  h.0,
  subst (λ (xs : List Frame). IsAction c t gs after.state xs fs s m ready) (sym left) h.1,
  λ part told. subst (λ (xs : List Item). Tells after.told xs) (append-nil part) (tells part told),
)

-- where memory is wanting behind it
wants_by : (c : Setting) (t : Table) (gs : List Func) (after : ThreadRun) (xs : List Frame) (fs : List middles.Frame) (s : State) (m : Middle) (d : Done) → Comes c t gs after.state xs fs s m d → Wants after s m
wants_by c t gs after xs fs s m (Silent first next) h = record { functions = gs; at = m.state; state = h.1; new = []; where_it_is = inr (refl, h.2 ∙ sym (append-nil s.items), refl) }
wants_by c t gs after xs fs s m (Prints v) h = record { functions = gs; at = m.state; state = h.1; new = printed v ∷ []; where_it_is = inr (refl, h.2, refl) }
wants_by c t gs after xs fs s m (Acts ready) h = record { functions = gs; at = s; state = h.0; new = []; where_it_is = inl refl }

-- what each statement of a node leads to
abbrev pub LeadsAt : Table → ℕ → ℕ → ThreadState → Result Done AllocError → ThreadState → Type 0
LeadsAt t k n before result after =
    (c : Setting) (g : Func) (line : ℕ) (stmt : Stmt) → IsNode c.program t (slot_names g) n line stmt → LeadsOrWants t k c g before result after (step_statement c line stmt)

pub follow_meaning : (t : Table) (k n : ℕ) (before after : ThreadRun) (u : ThreadState) (d : Done) (result : Result (Option Ready) AllocError)
    → LeadsAt t k n before.state (Ok d) u → after.state ≡ u → after.func ≡ before.func → IfOk result (λ o. o ≡ ready_of d)
    → OnOk result (frames_of after ≡ frames_with d (frames_of before))
    → ((part : List Item) → Tells before.told part → OnOk result (Tells after.told (part ++ told_by d)))
    → DoesRun t k before n result after
follow_meaning t k n before after u d result leads same_state same_func answer left tells = λ c g gs line stmt fs s of_table runs node frames is.
    (let h = leads c g line stmt node gs (frames_of before) fs s (record { setting = of_table; frames = frames; state = is }) in
    let here = subst (λ (v : ThreadState). Comes c t (g ∷ gs) v (frames_of before) fs s (step_statement c line stmt fs s) d) (sym same_state) h in
    let there : RunsIn c.program t after.func (g ∷ gs) = subst (λ (n : Option ℕ). RunsIn c.program t n (g ∷ gs)) (sym same_func) runs in
    go c (g ∷ gs) fs s (step_statement c line stmt fs s) result there here answer left tells)
  where
    go : (c : Setting) (gs : List Func) (fs : List middles.Frame) (s : State) (m : Middle) (r : Result (Option Ready) AllocError) → RunsIn c.program t after.func gs → Comes c t gs after.state (frames_of before) fs s m d
        → IfOk r (λ o. o ≡ ready_of d) → OnOk r (frames_of after ≡ frames_with d (frames_of before)) → ((part : List Item) → Tells before.told part → OnOk r (Tells after.told (part ++ told_by d)))
        → MatchResult r (λ o. Does c t gs before after fs s m o) (λ _. Wants after s m)
    go c gs fs s m (Ok o) runs h answer left tells = subst (λ (r : Option Ready). Does c t gs before after fs s m r) (sym answer) (done_by c t gs before after fs s m d runs h left tells)
    go c gs fs s m (Err e) runs h answer left tells = wants_by c t gs after (frames_of before) fs s m d h

pub no_memory : (t : Table) (k n : ℕ) (before after : ThreadRun) (e f : AllocError) → LeadsAt t k n before.state (Err e) after.state → DoesRun t k before n (Err f) after
no_memory t k n before after e f leads = λ c g gs line stmt fs s of_table runs node frames is.
    record { functions = g ∷ gs; at = s; state = leads c g line stmt node gs (frames_of before) fs s (record { setting = of_table; frames = frames; state = is }); new = []; where_it_is = inl refl }

-- ---- what is left

frames_more : (t : Table) (xs ys : List Frame) → frames_cost t (xs ++ ys) ≡ frames_cost t xs + frames_cost t ys
frames_more t [] ys = omega arith
frames_more t (x ∷ xs) ys = let rest = frames_more t xs ys in omega (arith, rest)

with_cost : (t : Table) (d : Done) (xs : List Frame) → frames_cost t (frames_with d xs) ≡ done_cost t d + frames_cost t xs
with_cost t (Silent first next) xs =
    let a = frames_more t (frames_shown first) (frames_shown next ++ xs) in let b = frames_more t (frames_shown next) xs in omega (arith, a, b)
with_cost t (Prints v) xs = omega arith
with_cost t (Acts ready) xs = omega arith

pub follow_cost : (t : Table) (n : ℕ) (before after : ThreadRun) (turns : ℕ) (d : Done) (result : Result (Option Ready) AllocError)
    → LeavesLess t n before.state.turns turns (Ok d) → after.state.turns ≡ turns → OnOk result (frames_of after ≡ frames_with d (frames_of before))
    → IfOk result (λ _. left_to_do t after.state.turns (frames_of after) + 1 ≤ left_to_do t before.state.turns (frames_of before) + node_cost t n)
follow_cost t n before after turns d (Err e) less same left = tt
follow_cost t n before after turns d (Ok o) less same left =
    let a = with_cost t d (frames_of before) in
    let e : frames_cost t (frames_of after) ≡ frames_cost t (frames_with d (frames_of before)) = ap (λ (xs : List Frame). frames_cost t xs) left in
    let q : after.state.turns * turn_cost t ≡ turns * turn_cost t = ap (λ (n : ℕ). n * turn_cost t) same in
    omega (arith, a, e, q, less)

-- a number that is printed where a fault is told
pub told_if : (told : Told) (part : List Item) (v : ℤ) (o : Option FaultAt) → o ≡ first_fault part → is_some o ≡ true → Tells told part → Tells told (part ++ printed v ∷ [])
told_if told part v None e some tells = let never : ⊥ = cc in absurd never
told_if told part v (Some fault) e some tells = told_behind told part fault v e tells
