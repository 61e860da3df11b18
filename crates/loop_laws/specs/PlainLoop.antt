-- What a loop over numbers means: the calls of its function, one after another; and the one call by which it is written out.
use Rattle.std.specs.Prelude.{◌≡◌, ℕ, zero, suc, ◌<◌, false, List, [], ◌∷◌, map, ℤ, pos, negsuc, ◌≤ℤ◌, Result, Ok, Err}
use Rattle.std.specs.Int.{w64, int_wrapping_add, int_wrapping_sub}
use Rattle.dag_order.specs.declared.fault.FaultKind.{FaultKind}
use Rattle.depth_first_list.specs.Actions.{peak}
use Rattle.par_tree.specs.Tree
use Rattle.par_tree.specs.Tree.{Name, Expr, num, Arg, call_stmt, integer}
use Rattle.depth_first_run.specs.Stores.{Store}
use Rattle.depth_first_run.specs.Values.{Outcome, value}
use Rattle.depth_first_run.specs.States.{Setting, State, with_fault, unless_faulted, with_number}
use Rattle.depth_first_run.specs.Run.{set_integer, exec, run, actions_of, lines_of, first_fault}
use Rattle.loop_laws.specs.Outcomes.{added, KeepsLimits}
use Rattle.loop_laws.specs.HelperTrees.{difference}

-- an argument that is this number
abbrev pub constant : ℤ → Arg
constant v = Tree.value (num v)

-- `call x = f(ARGUMENTS);`, where the arguments are these numbers
abbrev pub call_for : Setting → ℕ → (f x : Name) → List ℤ → State → State
call_for c line f x vs s = exec c (run c) line (call_stmt (integer x) f (map constant vs)) s

-- the number v is added to the integer x; the sum wraps
abbrev pub add_to : Name → ℤ → State → State
add_to x v s = set_integer x (int_wrapping_add w64 v (s.store.integers x)) s

-- the answer of f for these numbers is added to x, unless a fault ends the call
abbrev pub add_call : Setting → ℕ → (f x : Name) → List ℤ → State → State
add_call c line f x vs s = unless_faulted (add_to x (s.store.integers x)) (call_for c line f x vs s)

-- the next number, which wraps
abbrev pub next_number : ℤ → ℤ
next_number lo = int_wrapping_add w64 lo (pos 1)

-- the number of a round of a loop that begins with the number lo; the first round is round 0
unfoldable pub number_of_round : ℤ → ℕ → ℤ
number_of_round lo zero = lo
number_of_round lo (suc j) = number_of_round (next_number lo) j

-- f is called for lo and the numbers behind it in order, as often as the count says, each time with the further numbers
-- vs; each answer is added to x. A fault ends it.
abbrev pub add_calls : Setting → ℕ → (f x : Name) → List ℤ → ℤ → ℕ → State → State
add_calls c line f x vs lo zero s = s
add_calls c line f x vs lo (suc n) s = unless_faulted (add_calls c line f x vs (next_number lo) n) (add_call c line f x (lo ∷ vs) s)

-- the same calls, where x becomes the sum of the answers, which is 0 where there is none
abbrev pub sum_calls : Setting → ℕ → (f x : Name) → List ℤ → ℤ → ℕ → State → State
sum_calls c line f x vs lo zero s = set_integer x (pos 0) s
sum_calls c line f x vs lo (suc n) s = unless_faulted (add_calls c line f x vs (next_number lo) n) (call_for c line f x (lo ∷ vs) s)

-- how many numbers there are from one up to another, which does not count: their difference, which wraps, and none
-- where it is below 1
abbrev pub positive_part : ℤ → ℕ
positive_part (pos n) = n
positive_part (negsuc n) = 0

abbrev pub count_between : (lo hi : ℤ) → ℕ
count_between lo hi = positive_part (int_wrapping_sub w64 hi lo)

-- the numbers of expressions, which are evaluated in order, or the first fault
abbrev pub in_front : Outcome → Result (List ℤ) FaultKind → Result (List ℤ) FaultKind
in_front (Ok v) (Ok vs) = Ok (v ∷ vs)
in_front (Ok v) (Err kind) = Err kind
in_front (Err kind) rest = Err kind

unfoldable pub numbers_of : Store → List Expr → Result (List ℤ) FaultKind
numbers_of s [] = Ok []
numbers_of s (e ∷ es) = in_front (value s e) (numbers_of s es)

-- the loop over the numbers from lo up to before hi, with further numbers or the fault of their expressions
abbrev pub loop_with : Setting → ℕ → (f x : Name) → (lo hi : ℤ) → Result (List ℤ) FaultKind → State → State
loop_with c line f x lo hi (Ok vs) s = sum_calls c line f x vs lo (count_between lo hi) s
loop_with c line f x lo hi (Err kind) s = with_fault kind line s

-- the same loop, where the further numbers are evaluated
abbrev pub loop_between : Setting → ℕ → (f x : Name) → List Expr → (lo hi : ℤ) → State → State
loop_between c line f x cs lo hi s = loop_with c line f x lo hi (numbers_of s.store cs) s

-- the loop from lo on, where its end and then the further numbers are evaluated
abbrev pub loop_from : Setting → ℕ → (f x : Name) → Expr → List Expr → ℤ → State → State
loop_from c line f x e2 cs lo s = with_number line (value s.store e2) (loop_between c line f x cs lo) s

-- The loop with the line of its statement: x becomes the sum of the answers of f for each number from e1 up to before e2
-- and the further numbers cs. All expressions are evaluated, in order, before the first call.
abbrev pub plain_loop : Setting → ℕ → (f x : Name) → (e1 e2 : Expr) → List Expr → State → State
plain_loop c line f x e1 e2 cs s = with_number line (value s.store e1) (loop_from c line f x e2 cs) s

-- the call by which the loop is written out: `call x = sum(e1, e2 - e1, cs);`
abbrev pub written_out : Setting → ℕ → (sum x : Name) → (e1 e2 : Expr) → List Expr → State → State
written_out c line sum x e1 e2 cs s =
    exec c (run c) line (call_stmt (integer x) sum (Tree.value e1 ∷ Tree.value (difference e2 e1) ∷ map Tree.value cs)) s

-- Two runs from s, to t and to u, mean the same: they print the same lines, their first fault is the same, a fault ends
-- both or none, and where none does they leave the same store.
pub record MeansTheSame (s t u : State) : Type 0 where
  pub lines : lines_of (added s t) ≡ lines_of (added s u)
  pub fault : first_fault (added s t) ≡ first_fault (added s u)
  pub faulted : t.faulted ≡ u.faulted
  pub store : t.faulted ≡ false → t.store ≡ u.store

-- Each round of a loop of n numbers from lo, done alone by a call from s, meets no limit, and at no time more than w words
-- beyond those before it are in use.
abbrev pub RoundsTakeAtMost : Setting → ℕ → (f x : Name) → List ℤ → (lo : ℤ) → (n : ℕ) → State → (w : ℤ) → Type 0
RoundsTakeAtMost c line f x vs lo n s w =
    (j : ℕ) → j < n → KeepsLimits (added s (call_for c line f x (number_of_round lo j ∷ vs) s))
    × (peak (actions_of (added s (call_for c line f x (number_of_round lo j ∷ vs) s))) ≤ℤ w)
