-- The steps of a thread over slots are steps of the depth-first run.
use Rattle.std.proofs.Common.{◌≡◌, ℕ, List, [], ◌∷◌, ◌++◌, refl, sym, ap, ◌∙◌, subst, append_assoc, append-nil}
use Rattle.flat_expressions.specs.Passed.Tree.{Func}
use Rattle.thread_stack.specs.Passed.States.{Setting, State, Item, began, acted, printed, failed}
use Rattle.thread_stack.specs.Passed.Run.{actions_of}
use Rattle.thread_stack.specs.Passed.Middle as middles
use Rattle.thread_stack.specs.Passed.Middle.{Middle, middle, step_frame}
use Rattle.thread_stack.specs.Passed.Names.{slot_names}
use Rattle.thread_stack.specs.Passed.Table.{Table}
use Rattle.flat_expressions.specs.Passed.Rows.{Entry}
use Rattle.thread_stack.specs.declared.frame.Frame.{Frame}
use Rattle.thread_stack.specs.Frames.{AreFrames}
use Rattle.flat_statements.specs.Flat.{Came, goes_to}
use Rattle.flat_statements.specs.Threads.{Standing, standing, thread_step, with_behind}
use Rattle.flat_statements.specs.Follows.{Steps, stays, onward}
use Rattle.flat_statements.specs.Runs.{IsInState, IsStepOf, rests, goes, IsWayOf}
use Rattle.flat_statements.proofs.Stepping.{steps_of_the_run}
use Rattle.flat_statements.proofs.Behind.{frame_behind}

quiet_both : (xs ys : List Item) → actions_of xs ≡ [] → actions_of ys ≡ [] → actions_of (xs ++ ys) ≡ []
quiet_both [] ys p q = q
quiet_both (acted a ∷ xs) ys p q = let never : ⊥ = cc in absurd never
quiet_both (began line ∷ xs) ys p q = quiet_both xs ys p q
quiet_both (printed v ∷ xs) ys p q = quiet_both xs ys p q
quiet_both (failed fault ∷ xs) ys p q = quiet_both xs ys p q

-- the state a with the store and the turns of b, and more items
abbrev like : State → State → List Item → State
like a b new = record a { store = b.store; turns = b.turns; items = a.items ++ new }

like_both : (a b d : State) (new later : List Item) → b ≡ like a b new → d ≡ like b d later → d ≡ like a d (new ++ later)
like_both a b d new later p q =
    q ∙ ap (λ (x : State). like x d later) p
    ∙ ap (λ (items : List Item). record a { store = d.store; turns = d.turns; items = items }) (append_assoc a.items new later)

module _ (c : Setting) (t : Table) (g : Func) (gs : List Func) (zs : List Frame) where
  further_on : (f : middles.Frame) (fs : List middles.Frame) (at : State) (u : Standing) (new : List Item)
      → (step_frame c f fs at).state ≡ like at (step_frame c f fs at).state new → actions_of new ≡ []
      → IsWayOf c t (g ∷ gs) zs (step_frame c f fs at) u → IsWayOf c t (g ∷ gs) zs (middle (f ∷ fs) at) u
  further_on f fs at u new same quiet w = record {
    to = w.to;
    new = new ++ w.new;
    runs = goes f fs new refl (ap State.items same) quiet w.runs;
    frames = w.frames;
    state = w.state;
    same = like_both at (step_frame c f fs at).state w.to.state new w.new same w.same;
    quiet = quiet_both new w.new quiet w.quiet;
  }

  -- the first step, and what it leads to
  first_way : (xs : List Frame) (row : List Entry) (turns : ℕ) (v u : Standing) → thread_step t (standing xs row turns) ≡ goes_to v
      → ((m : Middle) → AreFrames c.program t (g ∷ gs) (v.frames ++ zs) m.frames → IsInState (slot_names g) v.row v.turns m.state
      → IsWayOf c t (g ∷ gs) zs m u)
      → (own : List middles.Frame) (at : State) → AreFrames c.program t (g ∷ gs) (xs ++ zs) own → IsInState (slot_names g) row turns at
      → IsWayOf c t (g ∷ gs) zs (middle own at) u
  first_way [] row turns v u e more own at frames here = let never : ⊥ = cc in absurd never
  first_way (x ∷ xs) row turns v u e more [] at frames here = absurd frames
  first_way (x ∷ xs) row turns v u e more (f ∷ fs) at frames here =
      let m = step_frame c f fs at in
      let one = steps_of_the_run c t g gs (standing (x ∷ (xs ++ zs)) row turns) f fs at frames here in
      let step = frame_behind t zs row x xs turns ∙ ap (with_behind zs) e in
      let w = subst (λ (come : Came Standing). IsStepOf c t (g ∷ gs) at m come) step one in
      further_on f fs at u w.0 w.3 w.4 (more m w.1 w.2)

  way : {s u : Standing} → Steps t s u → (m : Middle) → AreFrames c.program t (g ∷ gs) (s.frames ++ zs) m.frames
      → IsInState (slot_names g) s.row s.turns m.state
      → IsWayOf c t (g ∷ gs) zs m u
  way stays m frames here = record {
    to = m;
    new = [];
    runs = rests;
    frames = frames;
    state = here;
    same = ap (λ (items : List Item). record m.state { items = items }) (sym (append-nil m.state.items));
    quiet = refl;
  }
  way {s} {u} (onward v e rest) m frames here = first_way s.frames s.row s.turns v u e (way rest) m.frames m.state frames here

pub ways_of_the_run : (c : Setting) (t : Table) (g : Func) (gs : List Func) (zs : List Frame) (s u : Standing) → Steps t s u → (m : Middle)
    → AreFrames c.program t (g ∷ gs) (s.frames ++ zs) m.frames → IsInState (slot_names g) s.row s.turns m.state → IsWayOf c t (g ∷ gs) zs m u
ways_of_the_run c t g gs zs s u steps m frames here = way c t g gs zs steps m frames here
