-- What callers are told of two runs, and of two calls.
use Rattle.std.specs.Prelude.{◌≡◌, ℕ, false, List, [], ◌∷◌, map, refl}
use Rattle.std.proofs.Common.{sym, ◌∙◌, ap}
use Rattle.depth_first_list.specs.Actions.{peak}
use Rattle.par_tree.specs.Tree.{Name, Arg, value, integer, Param, Expr, Body, Func}
use Rattle.par_ownership.specs.Ownership.{hands_back}
use Rattle.depth_first_run.specs.Stores.{Store, Held}
use Rattle.depth_first_run.specs.States.{Setting, State}
use Rattle.depth_first_run.specs.Calls.{Passing, lent_back, answered}
use Rattle.depth_first_run.specs.Run.{open_call, run, actions_of}
use Rattle.loop_laws.specs.Outcomes.{added, KeepsLimits, SameOutcome, SameAnswer}
use Rattle.loop_laws.proofs.Ways.{Way, stopped, went, Like}
use Rattle.loop_laws.proofs.Answering.{CallWay, failed, answers, CallLike, called, same_open_call}
use Rattle.loop_laws.proofs.Runs.{same_run, runs_grow}

runs_alike : (c : Setting) (b : Body) (s t : State) → s.store ≡ t.store → s.faulted ≡ false → t.faulted ≡ false
    → KeepsLimits (added s (run c b s)) → KeepsLimits (added t (run c b t)) → Like s (run c b s) t (run c b t)
runs_alike c b s t e f g kl kr = same_run c b s t (record { store = e; left = f; right = g }) kl kr

outcome_of : (s s' t t' : State) → Like s s' t t' → SameOutcome s s' t t'
outcome_of s s' t t' k = by k.way
  where
    by : Way s s' t t' → SameOutcome s s' t t'
    by (stopped p) = record {
      told = k.alike.told;
      faulted = p.left ∙ sym p.right;
      left = λ goes. absurd (let ended = p.left in cc);
    }
    by (went p) = record {
      told = k.alike.told;
      faulted = p.left ∙ sym p.right;
      left = λ goes. (p.store, p.left_back, p.right_back);
    }

pub same_outcome : (c : Setting) (b : Body) (s t : State) → s.store ≡ t.store → s.faulted ≡ false → t.faulted ≡ false
    → KeepsLimits (added s (run c b s)) → KeepsLimits (added t (run c b t)) → SameOutcome s (run c b s) t (run c b t)
same_outcome c b s t e f g kl kr = outcome_of s (run c b s) t (run c b t) (runs_alike c b s t e f g kl kr)

pub same_peak : (c : Setting) (b : Body) (s t : State) → s.store ≡ t.store → s.faulted ≡ false → t.faulted ≡ false
    → KeepsLimits (added s (run c b s)) → KeepsLimits (added t (run c b t))
    → peak (actions_of (added s (run c b s))) ≡ peak (actions_of (added t (run c b t)))
same_peak c b s t e f g kl kr = (runs_alike c b s t e f g kl kr).alike.highest

-- ---- calls

calls_alike : (c : Setting) (line line' : ℕ) (x y : Name) (args args' : List Arg) (g : Func) (h h' : Passing) (s t : State)
    → h.callee ≡ h'.callee → s.faulted ≡ false → t.faulted ≡ false
    → KeepsLimits (added s (open_call c (run c) line (integer x) args g h s))
    → KeepsLimits (added t (open_call c (run c) line' (integer y) args' g h' t))
    → CallLike g.ret g.params (integer x) (integer y) args args' h h' s t (open_call c (run c) line (integer x) args g h s) (open_call c (run c) line' (integer y) args' g h' t)
calls_alike c line line' x y args args' g h h' s t e fs ft kl kr =
    same_open_call c (run c) line line' (integer x) (integer y) args args' g h h' s t (runs_grow c g.body)
    (λ m n is. same_run c g.body (called h m s) (called h' n t) (record { store = e; left = fs; right = ft })) kl kr

answer_of : (g : Func) (x y : Name) (args args' : List Arg) (h h' : Passing) (s s' t t' : State) → hands_back g.ret ≡ false
    → CallLike g.ret g.params (integer x) (integer y) args args' h h' s t s' t' → SameAnswer g.params x y args args' h h' s s' t t'
answer_of g x y args args' h h' s s' t t' plain k = by k.way
  where
    by : CallWay g.ret g.params (integer x) (integer y) args args' h h' s s' t t' → SameAnswer g.params x y args args' h h' s s' t t'
    by (failed p) = record {
      told = k.alike.told;
      faulted = p.left ∙ sym p.right;
      left = λ goes. absurd (let ended = p.left in cc);
    }
    by (answers p) = let a = p.plain plain in record {
      told = k.alike.told;
      faulted = p.left ∙ sym p.right;
      left = λ goes. (
        a.0,
        p.blocks,
        p.left_store ∙ ap (λ b. answered (integer x) b (lent_back g.params args p.blocks h.caller)) a.1,
        p.right_store ∙ ap (λ b. answered (integer y) b (lent_back g.params args' p.blocks h'.caller)) a.1,
        p.left_back,
        p.right_back,
      );
    }

pub same_answer : (c : Setting) (line line' : ℕ) (x y : Name) (args args' : List Arg) (g : Func) (h h' : Passing) (s t : State)
    → h.callee ≡ h'.callee → hands_back g.ret ≡ false → s.faulted ≡ false → t.faulted ≡ false
    → KeepsLimits (added s (open_call c (run c) line (integer x) args g h s))
    → KeepsLimits (added t (open_call c (run c) line' (integer y) args' g h' t))
    → SameAnswer g.params x y args args' h h' s (open_call c (run c) line (integer x) args g h s) t (open_call c (run c) line' (integer y) args' g h' t)
same_answer c line line' x y args args' g h h' s t e plain fs ft kl kr =
    answer_of g x y args args' h h' s (open_call c (run c) line (integer x) args g h s) t (open_call c (run c) line' (integer y) args' g h' t) plain
    (calls_alike c line line' x y args args' g h h' s t e fs ft kl kr)

pub same_call_peak : (c : Setting) (line line' : ℕ) (x y : Name) (args args' : List Arg) (g : Func) (h h' : Passing) (s t : State)
    → h.callee ≡ h'.callee → hands_back g.ret ≡ false → s.faulted ≡ false → t.faulted ≡ false
    → KeepsLimits (added s (open_call c (run c) line (integer x) args g h s))
    → KeepsLimits (added t (open_call c (run c) line' (integer y) args' g h' t))
    → peak (actions_of (added s (open_call c (run c) line (integer x) args g h s)))
    ≡ peak (actions_of (added t (open_call c (run c) line' (integer y) args' g h' t)))
same_call_peak c line line' x y args args' g h h' s t e plain fs ft kl kr =
    (calls_alike c line line' x y args args' g h h' s t e fs ft kl kr).alike.highest

-- integers alone lend nothing
pub nothing_lent : (params : List Param) (es : List Expr) (blocks : List Held) (caller : Store) → lent_back params (map value es) blocks caller ≡ caller
unfolding lent_back
nothing_lent [] es blocks caller = refl
nothing_lent (q ∷ qs) [] blocks caller = refl
nothing_lent (q ∷ qs) (e ∷ es) blocks caller = nothing_lent qs es blocks caller
