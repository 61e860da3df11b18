-- What a caller may use: a loop that is written out as calls means the plain loop.
use Rattle.std.specs.Prelude.{◌≡◌, ℕ, suc, ◌*◌, ◌^◌, ◌<◌, ◌≤◌, false, List, ◌∷◌, length, ℤ, pos, ◌+ℤ◌, ◌≤ℤ◌, FitsSigned, Ok, Some}
use Rattle.std.specs.Int.{w64}
use Rattle.depth_first_list.specs.Actions.{peak, record_words}
use Rattle.par_tree.specs.Tree.{Name, Expr, Func}
use Rattle.par_ownership.specs.Ownership.{Ownership, function_of, hands_back}
use Rattle.depth_first_run.specs.Values.{value}
use Rattle.depth_first_run.specs.States.{Setting, State}
use Rattle.depth_first_run.specs.Run.{actions_of, set_integer}
use Rattle.loop_laws.specs.Outcomes.{added, KeepsLimits}
use Rattle.loop_laws.specs.HelperTrees.{numbers_helper}
use Rattle.loop_laws.specs.PlainLoop.{call_for, add_calls, sum_calls, count_between, numbers_of, plain_loop, written_out, MeansTheSame, RoundsTakeAtMost}

-- In a program that keeps the rules of ownership, where `sum` is the helper of a loop over numbers that calls f: the call
-- by which the loop is written out means the plain loop, unless one of the two meets a limit.
abbrev pub NumbersLoopsArePlain : Type 0
NumbersLoopsArePlain =
    (c : Setting) (sum f : Name) (k helper_line : ℕ) → Ownership c.program → function_of c.program sum ≡ Some (numbers_helper sum f k helper_line)
    → (line : ℕ) (x : Name) (e1 e2 : Expr) (cs : List Expr) (s : State) → length cs ≡ k → s.faulted ≡ false
    → KeepsLimits (added s (written_out c line sum x e1 e2 cs s)) → KeepsLimits (added s (plain_loop c line f x e1 e2 cs s))
    → MeansTheSame s (written_out c line sum x e1 e2 cs s) (plain_loop c line f x e1 e2 cs s)

-- In such a program, for a loop of n numbers, 1 or more, that meets no limit: where no round alone has at any time more
-- than w words in use beyond those before it, the call by which the loop is written out has at no time more than w words
-- and the records of `logarithm` threads. The least number that may stand for it is the logarithm of n to base 2, rounded
-- down.
abbrev pub PrefixSumsGrowByTheLogarithm : Type 0
PrefixSumsGrowByTheLogarithm =
    (c : Setting) (sum f : Name) (k helper_line : ℕ) → Ownership c.program → function_of c.program sum ≡ Some (numbers_helper sum f k helper_line)
    → (line : ℕ) (x : Name) (e1 e2 : Expr) (cs : List Expr) (s : State) → length cs ≡ k → s.faulted ≡ false
    → (lo hi : ℤ) (vs : List ℤ) → value s.store e1 ≡ Ok lo → value s.store e2 ≡ Ok hi → numbers_of s.store cs ≡ Ok vs
    → (logarithm : ℕ) → 1 ≤ count_between lo hi → count_between lo hi < 2 ^ suc logarithm
    → (w : ℤ) → RoundsTakeAtMost c line f x vs lo (count_between lo hi) s w → KeepsLimits (added s (written_out c line sum x e1 e2 cs s))
    → peak (actions_of (added s (written_out c line sum x e1 e2 cs s))) ≤ℤ (w +ℤ pos (record_words * logarithm))

-- The sum of a loop may as well begin with 0, to which each answer is added: where the first answer is a number of 64 bits,
-- and no limit is met, both mean the same.
abbrev pub SumsMayBeginAtZero : Type 0
SumsMayBeginAtZero =
    (c : Setting) (line : ℕ) (f x : Name) (g : Func) → function_of c.program f ≡ Some g → hands_back g.ret ≡ false
    → (vs : List ℤ) (lo : ℤ) (n : ℕ) (s : State) → s.faulted ≡ false → (1 ≤ n → FitsSigned w64 ((call_for c line f x (lo ∷ vs) s).store.integers x))
    → KeepsLimits (added s (add_calls c line f x vs lo n (set_integer x (pos 0) s))) → KeepsLimits (added s (sum_calls c line f x vs lo n s))
    → MeansTheSame s (add_calls c line f x vs lo n (set_integer x (pos 0) s)) (sum_calls c line f x vs lo n s)
