-- The machine runs through straight code and jumps.
use Rattle.std.proofs.Common.{◌≡◌, ℕ, zero, suc, ◌<◌, ◌≤◌, List, [], ◌∷◌, Some, Result, Ok, Err, refl, ap, ◌∙◌, subst, arith}
use Rattle.flat_expressions.specs.Passed.FaultKind.{FaultKind}
use Rattle.flat_expressions.specs.Passed.Rows.{Entry}
use Rattle.thread_stack.specs.declared.frame.Frame.{Frame}
use Rattle.flat_expressions.specs.Acts.{Act, act_on, Ran, ends, fails, next_act, straight}
use Rattle.flat_statements.specs.Flat.{Flat, doing, jumps, FlatCode, frames_at, Point, goes_to, meets, acted, step_at, flat_step, Runs, arrived, further}
use Rattle.flat_statements.specs.Codes.{Has, HasActs, HasAct}
use Rattle.flat_statements.specs.Follows.{Jumps, RunsOn}

abbrev pub point : ℕ → List Entry → ℕ → Point
point place row turns = record { place = place; row = row; turns = turns }

pub runs_on : {f : FlatCode} {p q r : Point} → Runs f p q → Runs f q r → Runs f p r
runs_on arrived s = s
runs_on (further q e h) s = further q e (runs_on h s)

-- steps, and then one more at least
pub on_after : {f : FlatCode} {p q r : Point} → Runs f p q → RunsOn f q r → RunsOn f p r
on_after arrived s = s
on_after (further q e h) s = record { next = q; first = e; rest = runs_on h (further s.next s.first s.rest) }

-- steps to a later place are one at least
pub runs_further : {f : FlatCode} {p q : Point} → Runs f p q → p.place < q.place → RunsOn f p q
runs_further arrived less = absurd (omega (arith, less))
runs_further (further q e h) less = record { next = q; first = e; rest = h }

-- after acts, of which there is one, comes a later place
acts_end : (f : FlatCode) (here : List Frame) (acts : List Act) (place behind : ℕ) → HasActs f here place acts behind → place ≤ behind
acts_end f here [] place behind e = omega (arith, e)
acts_end f here (a ∷ acts) place behind h = let later = acts_end f here acts (suc place) behind h.1 in omega (arith, later)

pub acts_behind : (f : FlatCode) (here : List Frame) (acts : List Act) (place behind : ℕ) → HasAct acts → HasActs f here place acts behind → place < behind
acts_behind f here [] place behind some h = absurd some
acts_behind f here (a ∷ acts) place behind some h = let later = acts_end f here acts (suc place) behind h.1 in omega (arith, later)

module _ (f : FlatCode) (here : List Frame) where
  -- the step at a place, by what is there
  pub stepped : (place : ℕ) (row : List Entry) (turns : ℕ) (what : Flat) → Has f place what here
      → flat_step f (point place row turns) ≡ step_at (point place row turns) (Some what)
  stepped place row turns what has = ap (λ o. step_at (point place row turns) o) has.is

  pub jumps_run : (many place end : ℕ) (row : List Entry) (turns : ℕ) → Jumps f here many place end
      → Runs f (point place row turns) (point end row turns)
  jumps_run zero place end row turns e = subst (λ (b : ℕ). Runs f (point place row turns) (point b row turns)) e arrived
  jumps_run (suc many) place end row turns h =
      further (point h.0 row turns) (stepped place row turns (jumps h.0) h.1) (jumps_run many h.0 end row turns h.2)

  -- straight code: the machine comes after it with the row that it leaves; or it meets a fault within it, which has its mark
  module _ (behind turns : ℕ) where
    abbrev pub RunsTo : (place : ℕ) → List Entry → Ran → Type 0
    RunsTo place row (ends after) = Runs f (point place row turns) (point behind after turns)
    RunsTo place row (fails kind after) =
        (at : ℕ) × Runs f (point place row turns) (point at after turns) × (flat_step f (point at after turns) ≡ meets kind)
        × (frames_at f at ≡ here)

    one_before : (place : ℕ) (row new : List Entry) → flat_step f (point place row turns) ≡ goes_to (point (suc place) new turns) → (x : Ran)
        → RunsTo (suc place) new x → RunsTo place row x
    one_before place row new e (ends after) h = further (point (suc place) new turns) e h
    one_before place row new e (fails kind after) h = (h.0, further (point (suc place) new turns) e h.1, h.2, h.3)

    act_runs : (a : Act) (code : List Act) (place : ℕ) (row : List Entry) → flat_step f (point place row turns) ≡ acted (point place row turns) (act_on a row)
        → frames_at f place ≡ here
        → ((new : List Entry) → RunsTo (suc place) new (straight code new)) → (r : Result (List Entry) FaultKind) → act_on a row ≡ r
        → RunsTo place row (next_act r row (straight code))
    act_runs a code place row step mark rest (Ok new) e =
        one_before place row new (step ∙ ap (λ (x : Result (List Entry) FaultKind). acted (point place row turns) x) e) (straight code new) (rest new)
    act_runs a code place row step mark rest (Err kind) e =
        (place, arrived, step ∙ ap (λ (x : Result (List Entry) FaultKind). acted (point place row turns) x) e, mark)

    pub acts_run : (code : List Act) (place : ℕ) (row : List Entry) → HasActs f here place code behind → RunsTo place row (straight code row)
    acts_run [] place row e = subst (λ (b : ℕ). Runs f (point place row turns) (point b row turns)) e arrived
    acts_run (a ∷ code) place row h =
        act_runs a code place row (stepped place row turns (doing a) h.0) h.0.mark (λ new. acts_run code (suc place) new h.1) (act_on a row) refl
