-- The points of a run come to what its beginning comes to, and reach its end.
use Rattle.std.specs.Prelude.{◌≡◌, ℕ, zero, suc, ◌<◌, ◌≤◌, List, [], ◌∷◌, refl}
use Rattle.std.proofs.Common.{sym, ◌∙◌, ap, arith, subst}
use Rattle.depth_first_run.specs.Passed.Ownership.{function_of, main_name}
use Rattle.depth_first_run.specs.States.{Setting, State, ended}
use Rattle.depth_first_run.specs.Run.{whole}
use Rattle.depth_first_run.specs.Middle.{Frame, finish, middle, finished, advance, run_start, to_come}
use Rattle.depth_first_run.proofs.Stepping.{advance_comes, beginning_comes}
use Rattle.depth_first_run.proofs.Nearing.{advance_nears}
use Rattle.thread_points.specs.Points.{after_steps}

pub points_come : (c : Setting) (n : ℕ) → finished c (after_steps c n) ≡ finished c (run_start c (function_of c.program main_name))
unfolding after_steps
points_come c zero = refl
points_come c (suc n) = advance_comes c (after_steps c n) ∙ points_come c n

-- a point with nothing left
abbrev Reached : Setting → Type 0
Reached c = (n : ℕ) × (t : State) × (after_steps c n ≡ middle [] t)

-- where a frame is left, the next point is nearer to the end
nearer : (c : Setting) (n : ℕ) (f : Frame) (fs : List Frame) → (after_steps c n).frames ≡ f ∷ fs → to_come c (after_steps c (suc n)) < to_come c (after_steps c n)
unfolding after_steps
nearer c n f fs e =
    let s : State = (after_steps c n).state in
    let same : after_steps c n ≡ middle (f ∷ fs) s = ap (λ l. middle l s) e in
    subst (λ m. to_come c (advance c m) < to_come c m) (sym same) (advance_nears c f fs s)

reaches : (c : Setting) (k n : ℕ) → to_come c (after_steps c n) ≤ k → Reached c
reaches c zero n le = by (after_steps c n).frames refl
  where
    by : (fs : List Frame) → (after_steps c n).frames ≡ fs → Reached c
    by [] e = (n, (after_steps c n).state, ap (λ l. middle l (after_steps c n).state) e)
    by (f ∷ fs) e = let less = nearer c n f fs e in absurd (omega (arith, less, le))
reaches c (suc k) n le = by (reaches c k (suc n)) (after_steps c n).frames refl
  where
    by : (to_come c (after_steps c (suc n)) ≤ k → Reached c) → (fs : List Frame) → (after_steps c n).frames ≡ fs → Reached c
    by r [] e = (n, (after_steps c n).state, ap (λ l. middle l (after_steps c n).state) e)
    by r (f ∷ fs) e = let less = nearer c n f fs e in r (omega (arith, less, le))

pub end_reached : (c : Setting) → (n : ℕ) × (t : State) × (after_steps c n ≡ middle [] t) × (whole c ≡ ended 0 t)
unfolding finish
end_reached c =
    let r : Reached c = reaches c (to_come c (after_steps c zero)) zero (omega arith) in
    (r.0, r.1, r.2, beginning_comes c ∙ ap (ended 0) (sym (points_come c r.0) ∙ ap (finished c) r.2))
