-- The body of a helper, statement by statement, and its end.
use Rattle.std.specs.Prelude.{◌≡◌, ℕ, zero, suc, ◌/◌, ◌<◌, ◌^◌, nat_lt, Bool, true, false, List, [], ◌∷◌, ◌++◌, map, pred, ℤ, pos, Ok, Some, refl}
use Rattle.std.proofs.Common.{sym, ◌∙◌, ap, subst, append_assoc}
use Rattle.dag_order.specs.declared.fault.FaultKind.{FaultKind}
use Rattle.dag_order.specs.declared.fault.FaultKind.TheVariants as faults
use Rattle.depth_first_list.specs.Actions as actions
use Rattle.par_tree.specs.Tree
use Rattle.par_tree.specs.Tree.{Name, Expr, num, var, chain, link, last, over, cmp, equal, above, Arg, Stmt, let_stmt, assign_stmt, if_stmt, call_stmt, par_stmt, Body, done, step, Func, integer, Target}
use Rattle.par_tree.specs.Names.{param_names}
use Rattle.par_ownership.specs.Ownership.{function_of}
use Rattle.depth_first_run.specs.Stores.{Store, updated, with_integer}
use Rattle.depth_first_run.specs.Values.{Outcome, and_then, value, chained, operated, compared, is_true}
use Rattle.depth_first_run.specs.States.{Setting, State, Item, began, failed, next_action, with_item, with_action, with_fault, holdings, skip_if, unless_faulted, with_number, with_turns, with_turn, under_limit, with_depth}
use Rattle.depth_first_run.specs.Calls
use Rattle.depth_first_run.specs.Calls.{Passing, all_passed, entered, end_call, returned, with_answer, lent_back, answered}
use Rattle.depth_first_run.specs.Run.{set_integer, branch, branch_on, run_callee, open_call, call_with, call_function, begin_statement, exec, exec_all, run}
use Rattle.loop_laws.specs.Outcomes.{added, is_limit, KeepsLimits}
use Rattle.loop_laws.specs.HelperTrees.{pass_on, further_names, low_name, count_name, sum_of_all, half_name, sum_of_rest, alone, sum_with, difference, call_of, add_rest, both_halves, numbers_body, numbers_helper}
use Rattle.loop_laws.proofs.Wrapping.{half_is}
use Rattle.loop_laws.proofs.Readings.{limits_of}
use Rattle.loop_laws.proofs.Arguments.{HaveNumbers, numbers_passed, all_passed_is, nothing_lent, beside_further}

-- ---- statements

pub skipped_none : (f : State → State) (s : State) → s.faulted ≡ false → unless_faulted f s ≡ f s
unfolding unless_faulted
skipped_none f s e = ap (λ b. skip_if b f s) e

pub skipped_all : (f : State → State) (s : State) → s.faulted ≡ true → unless_faulted f s ≡ s
unfolding unless_faulted
skipped_all f s e = ap (λ b. skip_if b f s) e

pub first_statement : (c : Setting) (line : ℕ) (stmt : Stmt) (rest : Body) (s : State) → s.faulted ≡ false
    → exec_all c (run c) (step line stmt rest) s ≡ exec_all c (run c) rest (exec c (run c) line stmt (with_item (began line) s))
unfolding exec_all
first_statement c line stmt rest s e =
    ap (λ t. exec_all c (run c) rest t) (skipped_none (begin_statement line (exec c (run c) line stmt)) s e)

pub only_statement : (c : Setting) (line : ℕ) (stmt : Stmt) (s : State) → s.faulted ≡ false
    → exec_all c (run c) (alone line stmt) s ≡ exec c (run c) line stmt (with_item (began line) s)
unfolding exec_all
only_statement c line stmt s e = skipped_none (begin_statement line (exec c (run c) line stmt)) s e

pub statement_skipped : (c : Setting) (line : ℕ) (stmt : Stmt) (s : State) → s.faulted ≡ true → exec_all c (run c) (alone line stmt) s ≡ s
unfolding exec_all
statement_skipped c line stmt s e = skipped_all (begin_statement line (exec c (run c) line stmt)) s e

pub let_done : (c : Setting) (line : ℕ) (x : Name) (e : Expr) (v : ℤ) (s : State) → value s.store e ≡ Ok v
    → exec c (run c) line (let_stmt x e) s ≡ set_integer x v s
unfolding exec with_number
let_done c line x e v s is = ap (λ o. with_number line o (set_integer x) s) is

pub assign_done : (c : Setting) (line : ℕ) (x : Name) (e : Expr) (v : ℤ) (s : State) → value s.store e ≡ Ok v
    → exec c (run c) line (assign_stmt x e) s ≡ set_integer x v s
unfolding exec with_number
assign_done c line x e v s is = ap (λ o. with_number line o (set_integer x) s) is

pub if_done : (c : Setting) (line : ℕ) (e : Expr) (a b : Body) (v : ℤ) (s : State) → value s.store e ≡ Ok v
    → exec c (run c) line (if_stmt e a b) s ≡ branch (exec_all c (run c) a) (exec_all c (run c) b) (is_true v) s
unfolding exec with_number
if_done c line e a b v s is = ap (λ o. with_number line o (branch_on (exec_all c (run c) a) (exec_all c (run c) b)) s) is

pub none_done : (c : Setting) (s : State) → exec_all c (run c) done s ≡ s
unfolding exec_all
none_done c s = refl

-- ---- limits

limit_met : (kind : FaultKind) (line : ℕ) (s : State) → is_limit kind ≡ true → KeepsLimits (added s (with_fault kind line s)) → ⊥
unfolding with_fault with_action
limit_met kind line s e k =
    let fault : Item = failed (record { kind = kind; line = line }) in
    let act : List Item = next_action actions.faults (holdings s) s ∷ [] in
    let r = limits_of s (with_fault kind line s) (act ++ fault ∷ []) (append_assoc s.items act (fault ∷ [])) k in
    let no : true ≡ false = sym e ∙ r.0 in let never : ⊥ = cc in never

below_limit : (b : Bool) (line : ℕ) (f : State → State) (s : State) → KeepsLimits (added s (under_limit b line f s)) → under_limit b line f s ≡ f s
below_limit true line f s k = refl
below_limit false line f s k = absurd (limit_met faults.Depth line s refl k)

pub depth_kept : (depth most line : ℕ) (f : State → State) (s : State) → KeepsLimits (added s (with_depth depth most line f s)) → with_depth depth most line f s ≡ f s
unfolding with_depth
depth_kept depth most line f s k = below_limit (nat_lt depth most) line f s k

turns_kept : (n line : ℕ) (f : State → State) (s : State) → KeepsLimits (added s (with_turns n line f s))
    → (left : ℕ) × (with_turns n line f s ≡ f (record s { turns = left }))
turns_kept zero line f s k = absurd (limit_met faults.Turns line s refl k)
turns_kept (suc left) line f s k = (left, refl)

turn_kept : (line : ℕ) (f : State → State) (s : State) → KeepsLimits (added s (with_turn line f s))
    → (left : ℕ) × (with_turn line f s ≡ f (record s { turns = left }))
unfolding with_turn
turn_kept line f s k = turns_kept s.turns line f s k

-- a call that meets no limit runs the body of its function
pub call_runs : (c : Setting) (line : ℕ) (t : Target) (args : List Arg) (g : Func) (h : Passing) (s : State)
    → KeepsLimits (added s (open_call c (run c) line t args g h s))
    → (left : ℕ) × (open_call c (run c) line t args g h s ≡ run_callee (run c) t args g h (record s { turns = left }))
call_runs c line t args g h s k =
    let f : State → State = run_callee (run c) t args g h in
    let d = depth_kept s.calls c.most_calls line (with_turn line f) s k in
    let r = turn_kept line f s (subst (λ u. KeepsLimits (added s u)) d k) in
    (r.0, d ∙ r.1)

-- a call whose arguments are numbers
pub call_opens : (c : Setting) (line : ℕ) (t : Target) (f : Name) (args : List Arg) (g : Func) (vs : List ℤ) (s : State)
    → function_of c.program f ≡ Some g → HaveNumbers s.store args vs
    → exec c (run c) line (call_stmt t f args) s ≡ open_call c (run c) line t args g (numbers_passed (param_names g.params) vs s.store) s
unfolding exec
call_opens c line t f args g vs s is k =
    ap (λ o. call_function c (run c) line t args o s) is
    ∙ ap (λ r. call_with c (run c) line t args g r s) (all_passed_is s.store g.params args vs k)

-- ---- the end of a helper

-- the state of the caller behind the call: its target has the answer
abbrev pub back : Name → ℤ → Store → List Store → State → State
back y v caller callers s = record s { store = with_integer y v caller; callers = callers; calls = pred s.calls }

pub helper_ends : (sum f : Name) (k line : ℕ) (y : Name) (args : List Arg) (at : Store) (ws : List ℤ) (caller : Store) (callers : List Store) (s : State)
    → s.faulted ≡ false → s.callers ≡ caller ∷ callers → HaveNumbers at args ws
    → unless_faulted (with_answer (numbers_helper sum f k line).ret (returned (numbers_helper sum f k line).params args (integer y))) s
    ≡ back y (s.store.integers sum_of_all) caller callers s
unfolding with_answer with_number value returned
helper_ends sum f k line y args at ws caller callers s e calls have =
    let params = (numbers_helper sum f k line).params in
    let v : ℤ = s.store.integers sum_of_all in
    skipped_none (with_answer (numbers_helper sum f k line).ret (returned params args (integer y))) s e
    ∙ ap (λ cs. end_call cs params args (integer y) (Calls.number v) s) calls
    ∙ ap (λ st. record s { store = with_integer y v st; callers = callers; calls = pred s.calls }) (nothing_lent at params args ws s.store.blocks caller have)

-- ---- the body of a helper, behind its first statement

-- what the integers of the parameters are
pub record HasParameters (k : ℕ) (lo n : ℤ) (vs : List ℤ) (integers : Name → ℤ) : Type 0 where
  pub low : integers low_name ≡ lo
  pub count : integers count_name ≡ n
  pub further : map integers (further_names k) ≡ vs

pub beside_sum : (k : ℕ) (v : ℤ) (lo n : ℤ) (vs : List ℤ) (integers : Name → ℤ) → HasParameters k lo n vs integers
    → HasParameters k lo n vs (updated sum_of_all v integers)
beside_sum k v lo n vs integers h =
    record { low = h.low; count = h.count; further = beside_further sum_of_all (λ ds. refl) k v integers ∙ h.further }

pub beside_half : (k : ℕ) (v : ℤ) (lo n : ℤ) (vs : List ℤ) (integers : Name → ℤ) → HasParameters k lo n vs integers
    → HasParameters k lo n vs (updated half_name v integers)
beside_half k v lo n vs integers h =
    record { low = h.low; count = h.count; further = beside_further half_name (λ ds. refl) k v integers ∙ h.further }

pub beside_rest : (k : ℕ) (v : ℤ) (lo n : ℤ) (vs : List ℤ) (integers : Name → ℤ) → HasParameters k lo n vs integers
    → HasParameters k lo n vs (updated sum_of_rest v integers)
beside_rest k v lo n vs integers h =
    record { low = h.low; count = h.count; further = beside_further sum_of_rest (λ ds. refl) k v integers ∙ h.further }

-- the state in which a statement of this line has begun
abbrev pub begun : ℕ → State → State
begun line s = with_item (began line) s

-- the state behind `let s = 0;`, where the next statement has begun
abbrev pub behind_first : ℕ → State → State
behind_first line s = begun line (set_integer sum_of_all (pos 0) (begun line s))

tested_one : Name → Name → ℕ → ℕ → Stmt
tested_one sum f k line =
    if_stmt (cmp equal (var count_name) (num (pos 1))) (alone line (call_of sum_of_all f k (pass_on low_name ∷ [])))
    (alone line (if_stmt (cmp above (var count_name) (num (pos 1))) (both_halves sum k line) done))

body_begins : (c : Setting) (sum f : Name) (k line : ℕ) (s : State) → s.faulted ≡ false
    → exec_all c (run c) (numbers_body sum f k line) s ≡ exec c (run c) line (tested_one sum f k line) (behind_first line s)
unfolding tested_one value
body_begins c sum f k line s e =
    first_statement c line (let_stmt sum_of_all (num (pos 0))) (alone line (tested_one sum f k line)) s e
    ∙ ap (λ t. exec_all c (run c) (alone line (tested_one sum f k line)) t) (let_done c line sum_of_all (num (pos 0)) (pos 0) (begun line s) refl)
    ∙ only_statement c line (tested_one sum f k line) (set_integer sum_of_all (pos 0) (begun line s)) e

one_tested : (s : Store) (n : ℤ) (v : ℤ) → s.integers count_name ≡ n → compared equal n (pos 1) ≡ Ok v → value s (cmp equal (var count_name) (num (pos 1))) ≡ Ok v
unfolding value
one_tested s n v e is = ap (λ m. compared equal m (pos 1)) e ∙ is

more_tested : (s : Store) (n : ℤ) (v : ℤ) → s.integers count_name ≡ n → compared above n (pos 1) ≡ Ok v → value s (cmp above (var count_name) (num (pos 1))) ≡ Ok v
unfolding value
more_tested s n v e is = ap (λ m. compared above m (pos 1)) e ∙ is

-- one number: the call of the function
pub body_of_one : (c : Setting) (sum f : Name) (k line : ℕ) (lo : ℤ) (vs : List ℤ) (s : State) → s.faulted ≡ false → HasParameters k lo (pos 1) vs s.store.integers
    → exec_all c (run c) (numbers_body sum f k line) s
    ≡ exec c (run c) line (call_of sum_of_all f k (pass_on low_name ∷ [])) (begun line (behind_first line s))
unfolding tested_one compared
body_of_one c sum f k line lo vs s e h =
    let t : State = behind_first line s in
    let a : Body = alone line (call_of sum_of_all f k (pass_on low_name ∷ [])) in
    let b : Body = alone line (if_stmt (cmp above (var count_name) (num (pos 1))) (both_halves sum k line) done) in
    body_begins c sum f k line s e
    ∙ if_done c line (cmp equal (var count_name) (num (pos 1))) a b (pos 1) t (one_tested t.store (pos 1) (pos 1) h.count refl)
    ∙ only_statement c line (call_of sum_of_all f k (pass_on low_name ∷ [])) t e

-- another count: the second test
body_goes_on : (c : Setting) (sum f : Name) (k line : ℕ) (n : ℤ) (s : State) → s.faulted ≡ false → s.store.integers count_name ≡ n → compared equal n (pos 1) ≡ Ok (pos 0)
    → exec_all c (run c) (numbers_body sum f k line) s
    ≡ exec c (run c) line (if_stmt (cmp above (var count_name) (num (pos 1))) (both_halves sum k line) done) (begun line (behind_first line s))
unfolding tested_one
body_goes_on c sum f k line n s e at other =
    let t : State = behind_first line s in
    let a : Body = alone line (call_of sum_of_all f k (pass_on low_name ∷ [])) in
    let stmt : Stmt = if_stmt (cmp above (var count_name) (num (pos 1))) (both_halves sum k line) done in
    body_begins c sum f k line s e
    ∙ if_done c line (cmp equal (var count_name) (num (pos 1))) a (alone line stmt) (pos 0) t (one_tested t.store n (pos 0) at other)
    ∙ only_statement c line stmt t e

-- no number: nothing more
pub body_of_none : (c : Setting) (sum f : Name) (k line : ℕ) (n : ℤ) (s : State) → s.faulted ≡ false → s.store.integers count_name ≡ n
    → compared equal n (pos 1) ≡ Ok (pos 0) → compared above n (pos 1) ≡ Ok (pos 0)
    → exec_all c (run c) (numbers_body sum f k line) s ≡ begun line (behind_first line s)
body_of_none c sum f k line n s e at other few =
    let t : State = begun line (behind_first line s) in
    body_goes_on c sum f k line n s e at other
    ∙ if_done c line (cmp above (var count_name) (num (pos 1))) (both_halves sum k line) done (pos 0) t (more_tested t.store n (pos 0) at few)
    ∙ none_done c t

-- the state before the `par`, where it has begun: half is h
abbrev pub before_par : ℕ → ℤ → State → State
before_par line h s =
    begun line (set_integer sum_of_rest (pos 0) (begun line (set_integer half_name h (begun line (begun line (behind_first line s))))))

-- the two branches of the `par`
abbrev pub first_half : Name → ℕ → Stmt
first_half sum k = call_of sum_of_all sum k (pass_on low_name ∷ pass_on half_name ∷ [])

abbrev pub second_half : Name → ℕ → Stmt
second_half sum k =
    call_of sum_of_rest sum k (Tree.value (sum_with (var low_name) (var half_name)) ∷ Tree.value (difference (var count_name) (var half_name)) ∷ [])

halved : Expr
halved = chain (var count_name) (link over (num (pos 2)) last)

abbrev ok : ℤ → Outcome
ok v = Ok v

half_had : (s : Store) (m : ℕ) → m < 2 ^ 63 → s.integers count_name ≡ pos m → value s halved ≡ Ok (pos (m / 2))
unfolding halved value chained operated
half_had s m small e = ap (λ v. and_then (and_then (ok (pos 2)) (operated over v)) (chained s last)) e ∙ ap ok (half_is m small)

pub zero_had : (s : Store) → value s (num (pos 0)) ≡ Ok (pos 0)
unfolding value
zero_had s = refl

-- more numbers: both halves, and the sum
pub body_of_more : (c : Setting) (sum f : Name) (k line m : ℕ) (s : State) → s.faulted ≡ false → s.store.integers count_name ≡ pos m → m < 2 ^ 63
    → compared equal (pos m) (pos 1) ≡ Ok (pos 0) → compared above (pos m) (pos 1) ≡ Ok (pos 1)
    → exec_all c (run c) (numbers_body sum f k line) s
    ≡ exec_all c (run c) (alone line add_rest) (exec c (run c) line (par_stmt (alone line (first_half sum k)) (alone line (second_half sum k))) (before_par line (pos (m / 2)) s))
unfolding halved
body_of_more c sum f k line m s e at small other many =
    let t : State = begun line (behind_first line s) in
    let rest : Body = step line (par_stmt (alone line (first_half sum k)) (alone line (second_half sum k))) (alone line add_rest) in
    let u : State = set_integer half_name (pos (m / 2)) (begun line t) in
    let w : State = set_integer sum_of_rest (pos 0) (begun line u) in
    body_goes_on c sum f k line (pos m) s e at other
    ∙ if_done c line (cmp above (var count_name) (num (pos 1))) (both_halves sum k line) done (pos 1) t (more_tested t.store (pos m) (pos 1) at many)
    ∙ first_statement c line (let_stmt half_name halved) (step line (let_stmt sum_of_rest (num (pos 0))) rest) t e
    ∙ ap (λ x. exec_all c (run c) (step line (let_stmt sum_of_rest (num (pos 0))) rest) x) (let_done c line half_name halved (pos (m / 2)) (begun line t) (half_had t.store m small at))
    ∙ first_statement c line (let_stmt sum_of_rest (num (pos 0))) rest u e
    ∙ ap (λ x. exec_all c (run c) rest x) (let_done c line sum_of_rest (num (pos 0)) (pos 0) (begun line u) (zero_had (begun line u).store))
    ∙ first_statement c line (par_stmt (alone line (first_half sum k)) (alone line (second_half sum k))) (alone line add_rest) w e
