-- A block that is held again, and one that is lent to a function whose other parameters are integers.
use Rattle.std.specs.Prelude.{◌≡◌, ℕ, ◌+◌, Bool, true, false, if◌then◌else◌, List, [], ◌∷◌, map, length, ℤ, Ok, Err, Some, refl}
use Rattle.std.specs.Str.{bytes_eq}
use Rattle.std.proofs.Common.{◌∙◌, ap, arith}
use Rattle.dag_order.specs.declared.fault.FaultKind.{FaultKind}
use Rattle.par_tree.specs.Tree
use Rattle.par_tree.specs.Tree.{Name, Expr, Arg, lend, give, Param, Func, Target, call_stmt}
use Rattle.par_tree.specs.Names.{param_names}
use Rattle.par_ownership.specs.Ownership.{function_of}
use Rattle.depth_first_run.specs.Stores.{Store, Held, nothing, no_integers, block_of, without, with_block, drop_block, hold_block}
use Rattle.depth_first_run.specs.States.{Setting, State, with_fault}
use Rattle.depth_first_run.specs.Calls.{Passing, pass_block, passed, all_passed, lent_back}
use Rattle.depth_first_run.specs.Run.{open_call, call_with, call_function, exec, run}
use Rattle.ownership_laws.specs.Counts.{one_if, hit, count}
use Rattle.ownership_laws.proofs.Counting.{name_same, hit_same, count_without}
use Rattle.loop_laws.specs.PlainLoop.{numbers_of}
use Rattle.loop_laws.proofs.Arguments.{HaveNumbers, put, passed_is, nothing_lent, fault_passed}
use Rattle.loop_laws.specs.PartsLoop.{hold_again}

-- ---- held again

not_hit : (a b : Name) (n : ℕ) → hit a b + n ≡ 0 → (bytes_eq a b ≡ false) × (n ≡ 0)
unfolding hit
not_hit a b n e = (by (bytes_eq a b) e, omega (arith, e))
  where
    by : (t : Bool) → one_if t + n ≡ 0 → t ≡ false
    by true h = absurd (omega (arith, h))
    by false h = refl

without_again : (hs : List Held) (b : Name) (xs : List ℤ) → count hs b ≡ 0 → without (with_block hs b xs) b ≡ hs
unfolding count
without_again [] b xs e = ap (λ t. if t then [] else record { name = b; items = xs } ∷ []) (name_same b)
without_again (h ∷ hs) b xs e =
    let r = not_hit h.name b (count hs b) e in
    ap (λ t. if t then with_block hs b xs else h ∷ without (with_block hs b xs) b) r.0 ∙ ap (λ (gs : List Held). h ∷ gs) (without_again hs b xs r.1)

block_again : (hs : List Held) (b : Name) (xs : List ℤ) → count hs b ≡ 0 → block_of (with_block hs b xs) b ≡ xs
unfolding count
block_again [] b xs e = ap (λ t. if t then xs else []) (name_same b)
block_again (h ∷ hs) b xs e =
    let r = not_hit h.name b (count hs b) e in
    ap (λ t. if t then h.items else block_of (with_block hs b xs) b) r.0 ∙ block_again hs b xs r.1

-- no second block of the name is held
abbrev pub NoOther : Name → Store → Type 0
NoOther b s = count (without s.blocks b) b ≡ 0

pub one_held : (b : Name) (s : Store) → count s.blocks b ≡ 1 → NoOther b s
one_held b s one =
    let c = count_without s.blocks b b (omega (arith, one)) in let h = hit_same b in omega (arith, one, c, h)

pub again_read : (b : Name) (xs : List ℤ) (s : Store) → NoOther b s → block_of (hold_again b xs s).blocks b ≡ xs
again_read b xs s e = block_again (without s.blocks b) b xs e

pub again_twice : (b : Name) (xs ys : List ℤ) (s : Store) → NoOther b s → hold_again b ys (hold_again b xs s) ≡ hold_again b ys s
again_twice b xs ys s e = λ i. record { integers = s.integers; blocks = with_block (without_again (without s.blocks b) b xs e i) b ys }

pub again_alone : (b : Name) (xs : List ℤ) (s : Store) → NoOther b s → NoOther b (hold_again b xs s)
again_alone b xs s e = ap (λ (hs : List Held). count hs b) (without_again (without s.blocks b) b xs e) ∙ e

-- ---- lent

-- what a call passes that lends a block, whose numbers these are, under the name q, and then passes these integers
abbrev pub block_passed : (b : Name) → List ℤ → (q : Name) → List Name → List ℤ → Store → Passing
block_passed b items q names vs s =
    record { callee = record { integers = put names vs no_integers; blocks = record { name = q; items = items } ∷ [] }; caller = drop_block b s }

all_passed_on : (s : Store) (q : Param) (qs : List Param) (b : Name) (args : List Arg) (vs : List ℤ) → HaveNumbers s args vs
    → all_passed s (q ∷ qs) (lend b ∷ args) ≡ Ok (block_passed b (block_of s.blocks b) q.name (param_names qs) vs s)
unfolding passed
all_passed_on s q qs b args vs k = passed_is s qs args vs (pass_block q.name b record { callee = nothing; caller = s }) k

-- the lent block comes back
pub block_lent : (s : Store) (q : Param) (qs : List Param) (b : Name) (args : List Arg) (vs : List ℤ) (hs : List Held) (caller : Store) → HaveNumbers s args vs
    → lent_back (q ∷ qs) (lend b ∷ args) hs caller ≡ hold_block b (block_of hs q.name) caller
unfolding lent_back
block_lent s q qs b args vs hs caller k = nothing_lent s qs args vs (without hs q.name) (hold_block b (block_of hs q.name) caller) k

-- a call that lends a block and passes integers
pub call_opens_on : (c : Setting) (line : ℕ) (t : Target) (f b : Name) (args : List Arg) (g : Func) (q : Param) (qs : List Param) (vs : List ℤ) (s : State)
    → function_of c.program f ≡ Some g → g.params ≡ q ∷ qs → HaveNumbers s.store args vs
    → exec c (run c) line (call_stmt t f (lend b ∷ args)) s
    ≡ open_call c (run c) line t (lend b ∷ args) g (block_passed b (block_of s.store.blocks b) q.name (param_names qs) vs s.store) s
unfolding exec
call_opens_on c line t f b args g q qs vs s is params k =
    ap (λ o. call_function c (run c) line t (lend b ∷ args) o s) is
    ∙ ap (λ ps. call_with c (run c) line t (lend b ∷ args) g (all_passed s.store ps (lend b ∷ args)) s) params
    ∙ ap (λ r. call_with c (run c) line t (lend b ∷ args) g r s) (all_passed_on s.store q qs b args vs k)

-- ---- a fault of an expression

pub fault_called_on : (c : Setting) (line : ℕ) (t : Target) (f b : Name) (es : List Expr) (g : Func) (q : Param) (qs : List Param) (kind : FaultKind) (s : State)
    → function_of c.program f ≡ Some g → g.params ≡ q ∷ qs → length qs ≡ length es → numbers_of s.store es ≡ Err kind
    → exec c (run c) line (call_stmt t f (lend b ∷ map Tree.value es)) s ≡ with_fault kind line s
unfolding exec passed
fault_called_on c line t f b es g q qs kind s is params l e =
    ap (λ o. call_function c (run c) line t (lend b ∷ map Tree.value es) o s) is
    ∙ ap (λ ps. call_with c (run c) line t (lend b ∷ map Tree.value es) g (all_passed s.store ps (lend b ∷ map Tree.value es)) s) params
    ∙ ap (λ r. call_with c (run c) line t (lend b ∷ map Tree.value es) g r s)
    (fault_passed s.store qs es (pass_block q.name b record { callee = nothing; caller = s.store }) kind l e)
