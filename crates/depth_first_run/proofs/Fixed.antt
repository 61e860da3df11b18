-- A run is its own fixed point: what two continuations agree on, the runs over them agree on; and each use of the
-- continuation is at a state with less room.
use Rattle.std.specs.Prelude.{◌≡◌, ℕ, zero, suc, ◌+◌, ◌*◌, ◌-◌, ◌≤◌, ◌<◌, nat_lt, Bool, true, false, List, [], ◌∷◌, length, ℤ, Result, Ok, Err, Option, Some, None, refl}
use Rattle.std.proofs.Common.{sym, ◌∙◌, ap, arith, length-append}
use Rattle.std.proofs.Math.Nat.{suc-mul}
use Rattle.std.proofs.lemmas.Bool.{ltb-true}
use Rattle.depth_first_list.specs.Passed.LabelOrder.{fork_of}
use Rattle.depth_first_list.specs.Passed.FaultKind.{FaultKind}
use Rattle.par_tree.specs.Tree.{Name, Target, Arg, Stmt, let_stmt, assign_stmt, put_stmt, alloc_stmt, free_stmt, if_stmt, while_stmt, call_stmt, print_stmt, par_stmt, split_stmt, Body, done, step, Func}
use Rattle.par_ownership.specs.Ownership.{function_of}
use Rattle.depth_first_list.specs.Actions.{record_words}
use Rattle.depth_first_run.specs.Stores.{block_of}
use Rattle.depth_first_run.specs.Values.{Outcome, value, is_true}
use Rattle.depth_first_run.specs.States
use Rattle.depth_first_run.specs.States.{Setting, State, Item, with_item, with_fault, skip_if, unless_faulted, with_number, with_turns, with_turn, under_limit, with_depth, child_of, parent_of, ended, joined, own_part_then_join, fork_join}
use Rattle.depth_first_run.specs.Calls.{Passing, all_passed, entered, with_answer, returned}
use Rattle.depth_first_run.specs.Run.{on_store, branch, branch_on, unchanged, one_round, cut_of, cut_block, rejoin_block, split_in_place, split_block, run_callee, call_with, call_function, begin_statement, names_in, assigns_in, exec, exec_all, within, room, run}
use Rattle.depth_first_run.proofs.Keeping.{Keeps, keeps_trans, noting_keeps, unless_faulted_keeps, KeepsAll, exec_keeps, exec_all_keeps, within_keeps, run_keeps}

-- what is kept has no more room
pub room_kept : (c : Setting) (s t : State) → Keeps s t → room c t ≤ room c s
room_kept c s t k =
    let l : room c t ≡ (c.most_forks - length s.label) * suc c.most_turns + t.turns =
    ap (λ label. (c.most_forks - length label) * suc c.most_turns + t.turns) k.label in
    let n : t.turns ≤ s.turns = k.turns in omega (arith, l, n)

-- a turn costs room
pub room_fewer : (c : Setting) (s : State) (left : ℕ) → s.turns ≡ suc left → room c (record s { turns = left }) < room c s
room_fewer c s left e = omega (arith, e)

room_product : (d m turns : ℕ) → d * suc m + m < suc d * suc m + turns
room_product d m turns = let p = suc-mul d (suc m) in omega (arith, p)

-- a child has less room than its parent
pub room_child : (c : Setting) (named : Name → Bool) (s : State) → length s.label < c.most_forks → room c (child_of c named s) < room c s
room_child c named s below =
    let l : length (fork_of s.label (suc s.forks)) ≡ length s.label + 1 = length-append s.label (suc s.forks ∷ []) in
    let d : ℕ = c.most_forks - (length s.label + 1) in
    let here : c.most_forks - length s.label ≡ suc d = omega (arith, below) in
    let there : room c (child_of c named s) ≡ d * suc c.most_turns + c.most_turns =
    ap (λ n. (c.most_forks - n) * suc c.most_turns + c.most_turns) l in
    let mine : room c s ≡ suc d * suc c.most_turns + s.turns = ap (λ n. n * suc c.most_turns + s.turns) here in
    let p = room_product d c.most_turns s.turns in omega (arith, there, mine, p)

-- two continuations agree where there is less room than n
Agree : Setting → ℕ → (Body → State → State) → (Body → State → State) → Type 0
Agree c n f g = (b : Body) (s : State) → room c s < n → f b s ≡ g b s

choosing_same : (b : Bool) (f g : State → State) (s : State) → f s ≡ g s → skip_if b f s ≡ skip_if b g s
choosing_same true f g s e = refl
choosing_same false f g s e = e

unless_same : (f g : State → State) (s : State) → f s ≡ g s → unless_faulted f s ≡ unless_faulted g s
unfolding unless_faulted
unless_same f g s e = choosing_same s.faulted f g s e

settled_same : (line : ℕ) (o : Outcome) (f g : ℤ → State → State) (s : State) → ((v : ℤ) → f v s ≡ g v s) → with_number line o f s ≡ with_number line o g s
unfolding with_number
settled_same line (Ok v) f g s e = e v
settled_same line (Err kind) f g s e = refl

turning_same : (n line : ℕ) (f g : State → State) (s : State) → n ≡ s.turns
    → ((left : ℕ) → s.turns ≡ suc left → f (record s { turns = left }) ≡ g (record s { turns = left })) → with_turns n line f s ≡ with_turns n line g s
turning_same zero line f g s is e = refl
turning_same (suc left) line f g s is e = e left (sym is)

with_turn_same : (line : ℕ) (f g : State → State) (s : State)
    → ((left : ℕ) → s.turns ≡ suc left → f (record s { turns = left }) ≡ g (record s { turns = left })) → with_turn line f s ≡ with_turn line g s
unfolding with_turn
with_turn_same line f g s e = turning_same s.turns line f g s refl e

limiting_same : (b : Bool) (line : ℕ) (f g : State → State) (s : State) → (b ≡ true → f s ≡ g s) → under_limit b line f s ≡ under_limit b line g s
limiting_same true line f g s e = e refl
limiting_same false line f g s e = refl

with_depth_same : (depth most line : ℕ) (f g : State → State) (s : State) → (depth < most → f s ≡ g s) → with_depth depth most line f s ≡ with_depth depth most line g s
unfolding with_depth
with_depth_same depth most line f g s e = limiting_same (nat_lt depth most) line f g s (λ t. e (ltb-true depth most t))

branching_same : (b : Bool) (f g f' g' : State → State) (s : State) → f s ≡ f' s → g s ≡ g' s → branch f g b s ≡ branch f' g' b s
branching_same true f g f' g' s p q = p
branching_same false f g f' g' s p q = q

forking_same : (c : Setting) (named assigned : Name → Bool) (w w' o o' : State → State) (s : State)
    → w (child_of c named s) ≡ w' (child_of c named s)
    → ((items : List Item) → o (parent_of named items s) ≡ o' (parent_of named items s))
    → fork_join c named assigned w o s ≡ fork_join c named assigned w' o' s
unfolding fork_join own_part_then_join
forking_same c named assigned w w' o o' s p q =
    ap (λ d. own_part_then_join named assigned o s (ended record_words d)) p
    ∙ (let d : State = ended record_words (w' (child_of c named s)) in ap (λ t. joined assigned (suc s.forks) d t) (q d.items))

splitting_at_same : (line : ℕ) (b l r : Name) (f g : State → State) (at : Option ℕ) (s : State)
    → ((n : ℕ) → f (on_store (cut_block b l r n) s) ≡ g (on_store (cut_block b l r n) s)) → split_in_place line b l r f at s ≡ split_in_place line b l r g at s
splitting_at_same line b l r f g None s e = refl
splitting_at_same line b l r f g (Some n) s e = ap (λ t. unless_faulted (on_store (rejoin_block b l r)) t) (e n)

-- a call
calling_with_same : (c : Setting) (f g : Body → State → State) (line : ℕ) (t : Target) (args : List Arg) (h : Func) (r : Result Passing FaultKind) (s : State)
    → Agree c (room c s) f g → call_with c f line t args h r s ≡ call_with c g line t args h r s
unfolding Agree
calling_with_same c f g line t args h (Ok p) s e =
    with_depth_same s.calls c.most_calls line (with_turn line (run_callee f t args h p)) (with_turn line (run_callee g t args h p)) s
    (λ below. with_turn_same line (run_callee f t args h p) (run_callee g t args h p) s
    (λ left is. ap (λ u. unless_faulted (with_answer h.ret (returned h.params args t)) u)
    (e h.body (entered p (record s { turns = left })) (room_fewer c s left is))))
calling_with_same c f g line t args h (Err kind) s e = refl

calling_same : (c : Setting) (f g : Body → State → State) (line : ℕ) (t : Target) (args : List Arg) (o : Option Func) (s : State)
    → Agree c (room c s) f g → call_function c f line t args o s ≡ call_function c g line t args o s
calling_same c f g line t args None s e = refl
calling_same c f g line t args (Some h) s e = calling_with_same c f g line t args h (all_passed s.store h.params args) s e

-- where there is less room, they agree all the more
agree_less : (c : Setting) (n m : ℕ) (f g : Body → State → State) → m ≤ n → Agree c n f g → Agree c m f g
unfolding Agree
agree_less c n m f g le e = λ b s lt. e b s (omega (arith, le, lt))

-- a round of a loop: its body agrees, and then the loop with a turn less
repeat_same : (c : Setting) (f g : Body → State → State) (line : ℕ) (x y : State → State) (again : Body) (v : ℤ) (s : State)
    → Agree c (room c s) f g → ((t : State) → Keeps t (y t)) → ((t : State) → room c t ≤ room c s → x t ≡ y t)
    → branch_on (with_turn line (one_round x (f again))) unchanged v s ≡ branch_on (with_turn line (one_round y (g again))) unchanged v s
unfolding Agree
repeat_same c f g line x y again v s e k same =
    branching_same (is_true v) (with_turn line (one_round x (f again))) unchanged (with_turn line (one_round y (g again))) unchanged s
    (with_turn_same line (one_round x (f again)) (one_round y (g again)) s (λ left is.
    let t : State = record s { turns = left } in
    let less : room c t < room c s = room_fewer c s left is in
    let kept : room c (y t) ≤ room c t = room_kept c t (y t) (k t) in
    ap (λ u. unless_faulted (f again) u) (same t (omega (arith, less)))
    ∙ unless_same (f again) (g again) (y t) (e again (y t) (omega (arith, less, kept)))))
    refl

mutual
  unfolding exec exec_all

  exec_same : (c : Setting) (f g : Body → State → State) → KeepsAll g → (line : ℕ) (stmt : Stmt) (s : State) → Agree c (room c s) f g
      → exec c f line stmt s ≡ exec c g line stmt s
  exec_same c f g k line (let_stmt x e) s a = refl
  exec_same c f g k line (assign_stmt x e) s a = refl
  exec_same c f g k line (put_stmt b i e) s a = refl
  exec_same c f g k line (alloc_stmt b e) s a = refl
  exec_same c f g k line (free_stmt b) s a = refl
  exec_same c f g k line (if_stmt e x y) s a =
      settled_same line (value s.store e) (branch_on (exec_all c f x) (exec_all c f y)) (branch_on (exec_all c g x) (exec_all c g y)) s
      (λ v. branching_same (is_true v) (exec_all c f x) (exec_all c f y) (exec_all c g x) (exec_all c g y) s
      (exec_all_same c f g k x s a) (exec_all_same c f g k y s a))
  exec_same c f g k line (while_stmt e x) s a =
      let again : Body = step line (while_stmt e x) done in
      settled_same line (value s.store e) (branch_on (with_turn line (one_round (exec_all c f x) (f again))) unchanged)
      (branch_on (with_turn line (one_round (exec_all c g x) (g again))) unchanged) s
      (λ v. repeat_same c f g line (exec_all c f x) (exec_all c g x) again v s a (exec_all_keeps c g k x)
      (λ t le. exec_all_same c f g k x t (agree_less c (room c s) (room c t) f g le a)))
  exec_same c f g k line (call_stmt t h args) s a = calling_same c f g line t args (function_of c.program h) s a
  exec_same c f g k line (print_stmt e) s a = refl
  exec_same c f g k line (par_stmt x y) s a =
      with_depth_same (length s.label) c.most_forks line (fork_join c (names_in x) (assigns_in x) (exec_all c f x) (exec_all c f y))
      (fork_join c (names_in x) (assigns_in x) (exec_all c g x) (exec_all c g y)) s
      (λ below. forking_same c (names_in x) (assigns_in x) (exec_all c f x) (exec_all c g x) (exec_all c f y) (exec_all c g y) s
      (let d : State = child_of c (names_in x) s in
      let less = room_child c (names_in x) s below in
      exec_all_same c f g k x d (agree_less c (room c s) (room c d) f g (omega (arith, less)) a))
      (λ items. exec_all_same c f g k y (parent_of (names_in x) items s) a))
  exec_same c f g k line (split_stmt b e l r x) s a =
      settled_same line (value s.store e) (split_block line b l r (exec_all c f x)) (split_block line b l r (exec_all c g x)) s
      (λ v. splitting_at_same line b l r (exec_all c f x) (exec_all c g x) (cut_of (block_of s.store.blocks b) v) s
      (λ n. exec_all_same c f g k x (on_store (cut_block b l r n) s) a))

  exec_all_same : (c : Setting) (f g : Body → State → State) → KeepsAll g → (b : Body) (s : State) → Agree c (room c s) f g
      → exec_all c f b s ≡ exec_all c g b s
  exec_all_same c f g k done s a = refl
  exec_all_same c f g k (step line stmt rest) s a =
      let u : State = with_item (States.began line) s in
      let x : State → State = begin_statement line (exec c f line stmt) in
      let y : State → State = begin_statement line (exec c g line stmt) in
      let t : State = unless_faulted y s in
      let kept : Keeps s t = unless_faulted_keeps y s (keeps_trans s u (y s) (noting_keeps (States.began line) s) (exec_keeps c g k line stmt u)) in
      ap (λ w. exec_all c f rest w) (unless_same x y s (exec_same c f g k line stmt u a))
      ∙ exec_all_same c f g k rest t (agree_less c (room c s) (room c t) f g (room_kept c s t kept) a)

-- enough rounds are enough
same_within : (c : Setting) (n m : ℕ) (b : Body) (s : State) → room c s < n → room c s < m → within c n b s ≡ within c m b s
unfolding within Agree
same_within c zero m b s p q = absurd (omega (arith, p))
same_within c (suc n) zero b s p q = absurd (omega (arith, q))
same_within c (suc n) (suc m) b s p q =
    exec_all_same c (within c n) (within c m) (within_keeps c m) b s
    (λ b' s' less. same_within c n m b' s' (omega (arith, less, p)) (omega (arith, less, q)))

pub run_fixed : (c : Setting) (b : Body) (s : State) → run c b s ≡ exec_all c (run c) b s
unfolding run within Agree
run_fixed c b s =
    exec_all_same c (within c (room c s)) (run c) (run_keeps c) b s
    (λ b' s' less. same_within c (room c s) (suc (room c s')) b' s' less (omega arith))
