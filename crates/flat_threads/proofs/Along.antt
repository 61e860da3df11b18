-- A way of a thread over slots is a way of the thread in the depth-first run.
use Rattle.std.proofs.Common.{inl, inr, ◌≡◌, ℕ, suc, List, [], ◌∷◌, ◌++◌, refl, sym, ap, ◌∙◌, subst, append_assoc, append-nil}
use Rattle.std.specs.Prelude.{◌⊎◌}
use Rattle.std.proofs.lemmas.List.{append_cancel_left}
use Rattle.depth_first_list.specs.Actions as actions
use Rattle.depth_first_list.specs.Actions.{Action, record_words}
use Rattle.par_tree.specs.Tree.{Func, Body}
use Rattle.thread_state.specs.Passed.States.{Setting, State, Item, began, acted, printed, failed, next_action}
use Rattle.thread_state.specs.Passed.Middle as middles
use Rattle.thread_state.specs.Passed.Middle.{does, statements, Middle, answers, rejoins, answers_main, allocates, awaits, joins, step_frame}
use Rattle.thread_output.specs.Passed.Points.{Each, IsOwn, IsPlain, step_of, marked, mark_of, StepsAlone, StepForks}
use Rattle.thread_output.specs.Passed.Threads.{IsThread, open_children}
use Rattle.thread_output.proofs.Passed.Putting.{frame_put}
use Rattle.thread_output.proofs.Passed.Alone.{alone_or_forks}
use Rattle.thread_output.proofs.Passed.Telling.{thread_steps}
use Rattle.thread_state.specs.Passed.Names.{slot_names}
use Rattle.thread_state.specs.Passed.Table.{Table}
use Rattle.thread_state.specs.Passed.Rows.{Entry}
use Rattle.flat_statements.specs.Passed.Frame.{Frame}
use Rattle.flat_statements.specs.Passed.Frames.{AreFrames}
use Rattle.flat_statements.specs.Flat.{Came, goes_to}
use Rattle.flat_statements.specs.Threads.{Standing, standing, thread_step, with_behind}
use Rattle.flat_statements.specs.Follows.{Steps, stays, onward}
use Rattle.flat_statements.specs.Runs.{IsInState, IsStepOf}
use Rattle.flat_statements.proofs.Stepping.{steps_of_the_run}
use Rattle.flat_statements.proofs.Behind.{frame_behind}
use Rattle.flat_threads.specs.Along.{AreMarks, ComesAlong}
use Rattle.flat_threads.proofs.Silent.{DoesStatements, frame_marks}

-- ---- marks

marks_both : (xs ys : List Item) → AreMarks xs → AreMarks ys → AreMarks (xs ++ ys)
marks_both [] ys p q = q
marks_both (began line ∷ xs) ys p q = marks_both xs ys p q
marks_both (acted a ∷ xs) ys p q = absurd p
marks_both (printed v ∷ xs) ys p q = absurd p
marks_both (failed fault ∷ xs) ys p q = absurd p

never_acted : (xs : List Item) (a : Action) → AreMarks (xs ++ acted a ∷ []) → ⊥
never_acted [] a p = p
never_acted (began line ∷ xs) a p = never_acted xs a p
never_acted (acted b ∷ xs) a p = p
never_acted (printed v ∷ xs) a p = p
never_acted (failed fault ∷ xs) a p = p

-- ---- one step

plain_children : (put fs : List middles.Frame) → Each IsPlain put → open_children (put ++ fs) ≡ open_children fs
plain_children [] fs p = refl
plain_children (does part ∷ put) fs p = plain_children put fs p.1
plain_children (answers ret params args t ∷ put) fs p = plain_children put fs p.1
plain_children (rejoins b l r ∷ put) fs p = plain_children put fs p.1
plain_children (answers_main ret ∷ put) fs p = plain_children put fs p.1
plain_children (allocates b n ∷ put) fs p = plain_children put fs p.1
plain_children (awaits named assigned own parent ∷ put) fs p = absurd p.0
plain_children (joins assigned child d ∷ put) fs p = absurd p.0

-- a step that leaves marks alone forks no child
marks_alone : (c : Setting) (f : middles.Frame) (s : State) (new : List Item) → IsOwn f → (step_of c f s).state.items ≡ s.items ++ new → AreMarks new
    → StepsAlone c f s
marks_alone c f s new own grown marks = by (alone_or_forks c f s own)
  where
    by : StepsAlone c f s ⊎ StepForks c f s → StepsAlone c f s
    by (inl k) = k
    by (inr k) =
        let fork : Item = next_action (actions.forks (suc s.forks)) record_words (marked f s) in
        let items : (s.items ++ mark_of f) ++ fork ∷ [] ≡ s.items ++ new = sym (ap (λ (m : Middle). m.state.items) k.forked) ∙ grown in
        let grows = sym (append_assoc s.items (mark_of f) (fork ∷ [])) ∙ items in
        let all : mark_of f ++ fork ∷ [] ≡ new = append_cancel_left s.items (mark_of f ++ fork ∷ []) new grows in
        absurd (never_acted (mark_of f) _ (subst AreMarks (sym all) marks))

-- where a step leads
record OneStep (c : Setting) (f : middles.Frame) (fs : List middles.Frame) (s : State) (new : List Item) : Type 0 where
  children : open_children (step_frame c f fs s).frames ≡ open_children (f ∷ fs)
  thread : (part : List Item) (older : List (List Item)) → IsThread c (f ∷ fs) s (part ∷ older)
      → IsThread c (step_frame c f fs s).frames (step_frame c f fs s).state ((part ++ new) ∷ older)

statements_step : (c : Setting) (b : Body) (fs : List middles.Frame) (s : State) (new : List Item)
    → (step_frame c (does (statements b)) fs s).state.items ≡ s.items ++ new → AreMarks new → OneStep c (does (statements b)) fs s new
statements_step c b fs s new grown marks =
    let f : middles.Frame = does (statements b) in
    let put = frame_put c f fs s in
    let items : (step_of c f s).state.items ≡ s.items ++ new = sym (ap (λ (m : Middle). m.state.items) put) ∙ grown in
    let k : StepsAlone c f s = marks_alone c f s new tt items marks in
    record {
      children = ap (λ (m : Middle). open_children m.frames) put ∙ plain_children (step_of c f s).frames fs k.plain;
      thread = λ part older thread. subst (λ (m : Middle). IsThread c m.frames m.state ((part ++ new) ∷ older)) (sym put)
          (thread_steps c f fs s part older new thread tt k.plain items);
    }

one_step : (c : Setting) (f : middles.Frame) (fs : List middles.Frame) (s : State) (new : List Item) → DoesStatements f
    → (step_frame c f fs s).state.items ≡ s.items ++ new → AreMarks new → OneStep c f fs s new
one_step c f fs s new is grown marks =
    subst (λ (x : middles.Frame). (step_frame c x fs s).state.items ≡ s.items ++ new → OneStep c x fs s new) (sym is.1)
    (λ items. statements_step c is.0 fs s new items marks) grown

-- ---- a way

-- the state a with the store and the turns of b, and more items
abbrev like : State → State → List Item → State
like a b new = record a { store = b.store; turns = b.turns; items = a.items ++ new }

like_both : (a b d : State) (new later : List Item) → b ≡ like a b new → d ≡ like b d later → d ≡ like a d (new ++ later)
like_both a b d new later p q =
    q ∙ ap (λ (x : State). like x d later) p
    ∙ ap (λ (items : List Item). record a { store = d.store; turns = d.turns; items = items }) (append_assoc a.items new later)

like_marks : (a b : State) (new marks : List Item) → b ≡ like a b new → b.items ≡ a.items ++ marks → b ≡ like a b marks
like_marks a b new marks p items =
    p ∙ ap (λ (is : List Item). record a { store = b.store; turns = b.turns; items = is }) (sym (ap State.items p) ∙ items)

module _ (c : Setting) (t : Table) (g : Func) (gs : List Func) (zs : List Frame) where
  further_along : (f : middles.Frame) (fs : List middles.Frame) (at : State) (u : Standing) (new : List Item) → OneStep c f fs at new → AreMarks new
      → (step_frame c f fs at).state ≡ like at (step_frame c f fs at).state new
      → ComesAlong c t (g ∷ gs) zs (step_frame c f fs at).frames (step_frame c f fs at).state u → ComesAlong c t (g ∷ gs) zs (f ∷ fs) at u
  further_along f fs at u new one marks same w = record {
    frames = w.frames;
    to = w.to;
    new = new ++ w.new;
    are = w.are;
    state = w.state;
    same = like_both at (step_frame c f fs at).state w.to new w.new same w.same;
    marks = marks_both new w.new marks w.marks;
    children = w.children ∙ one.children;
    thread = λ part older thread. subst (λ (all : List Item). IsThread c w.frames w.to (all ∷ older)) (append_assoc part new w.new)
        (w.thread (part ++ new) older (one.thread part older thread));
  }

  -- the first step, and the way from there
  first_along : (xs : List Frame) (row : List Entry) (turns : ℕ) (v u : Standing) → thread_step t (standing xs row turns) ≡ goes_to v
      → ((own : List middles.Frame) (at : State) → AreFrames c.program t (g ∷ gs) (v.frames ++ zs) own → IsInState (slot_names g) v.row v.turns at
      → ComesAlong c t (g ∷ gs) zs own at u)
      → (own : List middles.Frame) (at : State) → AreFrames c.program t (g ∷ gs) (xs ++ zs) own → IsInState (slot_names g) row turns at
      → ComesAlong c t (g ∷ gs) zs own at u
  first_along [] row turns v u e more own at frames here = let never : ⊥ = cc in absurd never
  first_along (x ∷ xs) row turns v u e more [] at frames here = absurd frames
  first_along (x ∷ xs) row turns v u e more (f ∷ fs) at frames here =
      let m = step_frame c f fs at in
      let one = steps_of_the_run c t g gs (standing (x ∷ (xs ++ zs)) row turns) f fs at frames here in
      let step = frame_behind t zs row x xs turns ∙ ap (with_behind zs) e in
      let w = subst (λ (come : Came Standing). IsStepOf c t (g ∷ gs) at m come) step one in
      let left = frame_marks c t (g ∷ gs) x (xs ++ zs) f fs row turns (standing (v.frames ++ zs) v.row v.turns) at here.going frames step in
      let marks = left.1 w.2.going in
      further_along f fs at u marks.0 (one_step c f fs at marks.0 left.0 marks.1 marks.2) marks.2
      (like_marks at m.state w.0 marks.0 w.3 marks.1) (more m.frames m.state w.1 w.2)

  way_along : {s u : Standing} → Steps t s u → (own : List middles.Frame) (at : State) → AreFrames c.program t (g ∷ gs) (s.frames ++ zs) own
      → IsInState (slot_names g) s.row s.turns at → ComesAlong c t (g ∷ gs) zs own at u
  way_along stays own at frames here = record {
    frames = own;
    to = at;
    new = [];
    are = frames;
    state = here;
    same = ap (λ (items : List Item). record at { items = items }) (sym (append-nil at.items));
    marks = tt;
    children = refl;
    thread = λ part older thread. subst (λ (all : List Item). IsThread c own at (all ∷ older)) (sym (append-nil part)) thread;
  }
  way_along {s} {u} (onward v e rest) own at frames here = first_along s.frames s.row s.turns v u e (way_along rest) own at frames here

pub threads_come_along : (c : Setting) (t : Table) (g : Func) (gs : List Func) (zs : List Frame) (s u : Standing) → Steps t s u
    → (own : List middles.Frame) (at : State) → AreFrames c.program t (g ∷ gs) (s.frames ++ zs) own → IsInState (slot_names g) s.row s.turns at
    → ComesAlong c t (g ∷ gs) zs own at u
threads_come_along c t g gs zs s u way own at frames here = way_along c t g gs zs way own at frames here
