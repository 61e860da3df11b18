-- A thread that a fault ended skips its frames.
use Rattle.std.specs.Prelude.{◌≡◌, ℕ, suc, true, false, List, [], ◌∷◌, ◌++◌, refl}
use Rattle.std.proofs.Common.{sym, ◌∙◌, ap, arith, subst, append-nil}
use Rattle.depth_first_run.specs.Passed.Tree.{done, step}
use Rattle.depth_first_run.specs.Passed.Ownership.{Ownership}
use Rattle.depth_first_run.specs.States.{Setting, State, Item}
use Rattle.depth_first_run.specs.Calls.{with_answer, returned}
use Rattle.depth_first_run.specs.Run.{on_store, rejoin_block, ignore_answer}
use Rattle.depth_first_run.specs.Middle.{statements, tree, Frame, does, answers, rejoins, answers_main, allocates, awaits, joins, Middle, middle, step_first}
use Rattle.thread_points.specs.Points.{Each, IsPlain, IsAt, step_of}
use Rattle.thread_points.specs.Threads.{IsThread}
use Rattle.thread_points.proofs.Telling.{thread_steps, one_part_more}
use Rattle.ownership_laws.proofs.Moves.{unless_stopped}
use Rattle.ownership_laws.proofs.Fitting.{not_both}
use Rattle.ownership_laws.specs.Holdings.{IsOfAllocation}
use Rattle.ownership_laws.proofs.Stepping.{PartEnds, FrameEnds, next_carries}

ends_running : (f : Frame) (s : State) → FrameEnds f s → IsOfAllocation f → s.faulted ≡ false
unfolding FrameEnds PartEnds
ends_running (does (statements b)) s p i = absurd i
ends_running (does (tree shape)) s p i = p
ends_running (answers ret params args t) s p i = absurd i
ends_running (rejoins b l r) s p i = absurd i
ends_running (answers_main ret) s p i = absurd i
ends_running (allocates b n) s p i = p
ends_running (awaits named assigned own parent) s p i = absurd i
ends_running (joins assigned child d) s p i = absurd i

pub runs_without_fault : (c : Setting) → Ownership c.program → (f : Frame) (own : List Frame) (s : State) → IsAt c (f ∷ own) s → IsOfAllocation f → s.faulted ≡ false
runs_without_fault c o f own s at i = ends_running f s (next_carries c o f own s at).1 i

-- a plain frame is skipped, unless it is of an allocation
skips : (c : Setting) (f : Frame) (s : State) → s.faulted ≡ true → IsPlain f → (IsOfAllocation f → s.faulted ≡ false) → step_of c f s ≡ middle [] s
skips c (does (statements done)) s e p i = refl
skips c (does (statements (step line stmt rest))) s e p i = ap (λ v. step_first v c line stmt rest [] s) e
skips c (does (tree shape)) s e p i = not_both s.faulted e (i tt)
skips c (answers ret params args t) s e p i = ap (middle []) (unless_stopped (with_answer ret (returned params args t)) s e)
skips c (rejoins b l r) s e p i = ap (middle []) (unless_stopped (on_store (rejoin_block b l r)) s e)
skips c (answers_main ret) s e p i = ap (middle []) (unless_stopped (with_answer ret ignore_answer) s e)
skips c (allocates b n) s e p i = not_both s.faulted e (i tt)
skips c (awaits named assigned own parent) s e p i = absurd p
skips c (joins assigned child d) s e p i = absurd p

skip_one : (c : Setting) → Ownership c.program → (f : Frame) (own : List Frame) (s : State) (part : List Item) (older : List (List Item))
    → IsThread c (f ∷ own) s (part ∷ older) → s.faulted ≡ true → IsPlain f → IsThread c own s (part ∷ older)
skip_one c o f own s part older th e p =
    let is : step_of c f s ≡ middle [] s = skips c f s e p (runs_without_fault c o f own s th.at_point) in
    let P : Middle → Type 0 = λ m. Each IsPlain m.frames in
    let Q : Middle → Type 0 = λ m. IsThread c (m.frames ++ own) m.state ((part ++ []) ∷ older) in
    let next : Q (middle [] s) =
    subst Q is (thread_steps c f own s part older [] th p (subst P (sym is) tt) (ap (λ m. m.state.items) is ∙ sym (append-nil s.items))) in
    subst (λ x. IsThread c own s (x ∷ older)) (append-nil part) next

-- a thread has a part
some_part : (c : Setting) (f : Frame) (own : List Frame) (s : State) (parts : List (List Item)) → IsThread c (f ∷ own) s parts → (P : Type 0)
    → ((part : List Item) (older : List (List Item)) → parts ≡ part ∷ older → P) → P
some_part c f own s [] th P k = none (one_part_more c (f ∷ own) s [] th)
  where
    none : {n : ℕ} → 0 ≡ suc n → P
    none e = absurd (omega (arith, e))
some_part c f own s (part ∷ older) th P k = k part older refl

skip_next : (c : Setting) → Ownership c.program → (f : Frame) (own : List Frame) (s : State) (parts : List (List Item)) → IsThread c (f ∷ own) s parts → s.faulted ≡ true → IsPlain f → IsThread c own s parts
skip_next c o f own s parts th e p =
    some_part c f own s parts th (IsThread c own s parts)
    (λ part older is. subst (λ x. IsThread c own s x) (sym is) (skip_one c o f own s part older (subst (λ x. IsThread c (f ∷ own) s x) is th) e p))

pub skips_all : (c : Setting) → Ownership c.program → (skipped own : List Frame) (s : State) (parts : List (List Item)) → IsThread c (skipped ++ own) s parts → s.faulted ≡ true → Each IsPlain skipped
    → IsThread c own s parts
skips_all c o [] own s parts th e p = th
skips_all c o (f ∷ skipped) own s parts th e p = skips_all c o skipped own s parts (skip_next c o f (skipped ++ own) s parts th e p.0) e p.1
