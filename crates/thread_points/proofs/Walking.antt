-- A thread goes on from point to point: by a step, and to its end.
use Rattle.std.specs.Prelude.{◌≡◌, ℕ, zero, suc, ◌<◌, ◌≤◌, List, [], ◌∷◌, ◌++◌, Option, Some, None, refl}
use Rattle.std.proofs.Common.{sym, ◌∙◌, ap, arith, subst, append_assoc, append-nil}
use Rattle.depth_first_run.specs.Passed.Tree.{Body, done, step, Func}
use Rattle.depth_first_run.specs.Passed.Ownership.{function_of, main_name}
use Rattle.depth_first_run.specs.States.{Setting, State}
use Rattle.depth_first_run.specs.Run.{root_start}
use Rattle.depth_first_run.specs.Middle.{Frame, does, answers, rejoins, answers_main, allocates, awaits, joins, finish, middle, finished, before_all, advance, run_start, to_come}
use Rattle.depth_first_run.proofs.Stepping.{advance_comes}
use Rattle.depth_first_run.proofs.Nearing.{advance_nears}
use Rattle.thread_points.specs.Points.{after_steps, Each, IsOwn, IsPlain, IsAt, step_of, marked, StepForks, child_start, parent_start, parent_frames}
use Rattle.thread_points.proofs.Putting.{advance_put}

-- ---- frames

pub each_append : {A : Type 0} (P : A → Type 0) (xs ys : List A) → Each P xs → Each P ys → Each P (xs ++ ys)
each_append P [] ys p q = q
each_append P (x ∷ xs) ys p q = (p.0, each_append P xs ys p.1 q)

pub plain_own : (f : Frame) → IsPlain f → IsOwn f
plain_own (does part) p = tt
plain_own (answers ret params args t) p = tt
plain_own (rejoins b l r) p = tt
plain_own (answers_main ret) p = tt
plain_own (allocates b n) p = tt
plain_own (awaits named assigned own parent) p = absurd p
plain_own (joins assigned child d) p = absurd p

pub all_plain_own : (fs : List Frame) → Each IsPlain fs → Each IsOwn fs
all_plain_own [] p = tt
all_plain_own (f ∷ fs) p = (plain_own f p.0, all_plain_own fs p.1)

pub before_plain : (b : Body) (fs : List Frame) → Each IsPlain fs → Each IsPlain (before_all b fs)
before_plain done fs p = p
before_plain (step line stmt rest) fs p = (tt, p)

pub start_plain : (c : Setting) (o : Option Func) → Each IsPlain (run_start c o).frames
start_plain c None = tt
start_plain c (Some g) = before_plain g.body (answers_main g.ret ∷ []) (tt, tt)

start_state : (c : Setting) (o : Option Func) → (run_start c o).state ≡ root_start c
start_state c None = refl
start_state c (Some g) = refl

-- ---- one step

-- the point behind a point
pub next_point : (c : Setting) (n : ℕ) (f : Frame) (own below : List Frame) (s : State) → after_steps c n ≡ middle (f ∷ own ++ below) s
    → after_steps c (suc n) ≡ middle (((step_of c f s).frames ++ own) ++ below) (step_of c f s).state
unfolding after_steps
next_point c n f own below s e =
    ap (advance c) e ∙ advance_put c f (own ++ below) s
    ∙ ap (λ l. middle l (step_of c f s).state) (sym (append_assoc (step_of c f s).frames own below))

pub root_at : (c : Setting) → IsAt c (run_start c (function_of c.program main_name)).frames (root_start c)
unfolding after_steps
root_at c =
    let o : Option Func = function_of c.program main_name in
    let fs : List Frame = (run_start c o).frames in
    record {
      steps = zero;
      parents = [];
      there = ap (λ l. middle l (run_start c o).state) (sym (append-nil fs)) ∙ ap (middle (fs ++ [])) (start_state c o);
      all_own = all_plain_own fs (start_plain c o);
      are_parents = tt;
    }

pub own_step : (c : Setting) (f : Frame) (own : List Frame) (s : State) → IsAt c (f ∷ own) s → Each IsOwn (step_of c f s).frames
    → IsAt c ((step_of c f s).frames ++ own) (step_of c f s).state
own_step c f own s at put = record {
  steps = suc at.steps;
  parents = at.parents;
  there = next_point c at.steps f own at.parents s at.there;
  all_own = each_append IsOwn (step_of c f s).frames own put at.all_own.1;
  are_parents = at.are_parents;
}

pub plain_step : (c : Setting) (f : Frame) (own : List Frame) (s : State) → IsAt c (f ∷ own) s → Each IsPlain (step_of c f s).frames
    → IsAt c ((step_of c f s).frames ++ own) (step_of c f s).state
plain_step c f own s at put = own_step c f own s at (all_plain_own (step_of c f s).frames put)

-- ---- to the end of some frames

-- a point with these frames and this state
abbrev pub Reaches : Setting → List Frame → State → Type 0
Reaches c fs s = (n : ℕ) × (after_steps c n ≡ middle fs s)

-- what is done by a step is no more to come
pub step_nears : (c : Setting) (f : Frame) (own : List Frame) (s : State)
    → to_come c (middle ((step_of c f s).frames ++ own) (step_of c f s).state) < to_come c (middle (f ∷ own) s)
step_nears c f own s = subst (λ m. to_come c m < to_come c (middle (f ∷ own) s)) (advance_put c f own s) (advance_nears c f own s)

step_finishes : (c : Setting) (f : Frame) (own : List Frame) (s : State)
    → finish c ((step_of c f s).frames ++ own) (step_of c f s).state ≡ finish c (f ∷ own) s
step_finishes c f own s = sym (ap (finished c) (advance_put c f own s)) ∙ advance_comes c (middle (f ∷ own) s)

runs_within : (c : Setting) (k : ℕ) (own below : List Frame) (s : State) (n : ℕ) → to_come c (middle own s) ≤ k
    → after_steps c n ≡ middle (own ++ below) s → Reaches c below (finish c own s)
unfolding finish
runs_within c zero [] below s n le e = (n, e)
runs_within c zero (f ∷ own) below s n le e = let less = step_nears c f own s in absurd (omega (arith, less, le))
runs_within c (suc k) [] below s n le e = (n, e)
runs_within c (suc k) (f ∷ own) below s n le e =
    let less = step_nears c f own s in
    let r : Reaches c below (finish c ((step_of c f s).frames ++ own) (step_of c f s).state) =
    runs_within c k ((step_of c f s).frames ++ own) below (step_of c f s).state (suc n) (omega (arith, less, le)) (next_point c n f own below s e) in
    (r.0, r.1 ∙ ap (middle below) (step_finishes c f own s))

-- the frames before the others come to their end
pub runs_out : (c : Setting) (own below : List Frame) (s : State) (n : ℕ) → after_steps c n ≡ middle (own ++ below) s → Reaches c below (finish c own s)
runs_out c own below s n e = runs_within c (to_come c (middle own s)) own below s n (omega arith) e

pub end_point : (c : Setting) (own : List Frame) (s : State) → IsAt c own s → IsAt c [] (finish c own s)
end_point c own s at =
    let r = runs_out c own at.parents s at.steps at.there in
    record { steps = r.0; parents = at.parents; there = r.1; all_own = tt; are_parents = at.are_parents }

-- ---- a Fork

-- the child's beginning, with what stands below it
pub forked_point : (c : Setting) (f : Frame) (own : List Frame) (s : State) (at : IsAt c (f ∷ own) s) (k : StepForks c f s)
    → after_steps c (suc at.steps) ≡ middle (does k.work ∷ awaits k.named k.assigned k.mine (marked f s) ∷ (k.later ++ own) ++ at.parents) (child_start c f s k)
forked_point c f own s at k =
    next_point c at.steps f own at.parents s at.there ∙ ap (λ m. middle ((m.frames ++ own) ++ at.parents) m.state) k.forked

pub child_at : (c : Setting) (f : Frame) (own : List Frame) (s : State) → IsAt c (f ∷ own) s → (k : StepForks c f s) → IsAt c (does k.work ∷ []) (child_start c f s k)
child_at c f own s at k = record {
  steps = suc at.steps;
  parents = awaits k.named k.assigned k.mine (marked f s) ∷ (k.later ++ own) ++ at.parents;
  there = forked_point c f own s at k;
  all_own = (tt, tt);
  are_parents = λ never. never;
}

pub parent_at : (c : Setting) (f : Frame) (own : List Frame) (s : State) → IsAt c (f ∷ own) s → (k : StepForks c f s) → IsAt c (parent_frames c f s k ++ own) (parent_start c f s k)
unfolding after_steps finish advance
parent_at c f own s at k =
    let rest : List Frame = (k.later ++ own) ++ at.parents in
    let waiting : Frame = awaits k.named k.assigned k.mine (marked f s) in
    let r = runs_out c (does k.work ∷ []) (waiting ∷ rest) (child_start c f s k) (suc at.steps) (forked_point c f own s at k) in
    record {
      steps = suc r.0;
      parents = at.parents;
      there = ap (advance c) r.1;
      all_own = (tt, (tt, each_append IsOwn k.later own (all_plain_own k.later k.plain) at.all_own.1));
      are_parents = at.are_parents;
    }

pub forked_points : (c : Setting) (f : Frame) (own : List Frame) (s : State) → IsAt c (f ∷ own) s → (k : StepForks c f s)
    → IsAt c (does k.work ∷ []) (child_start c f s k) × IsAt c (parent_frames c f s k ++ own) (parent_start c f s k)
forked_points c f own s at k = (child_at c f own s at k, parent_at c f own s at k)
