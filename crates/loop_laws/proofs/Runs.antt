-- Each statement comes to the same in both, and so does a list of them.
use Rattle.std.specs.Prelude.{◌≡◌, ℕ, zero, suc, ◌≤◌, ◌<◌, nat_le, Bool, true, false, List, length, replicate, slice_set, ℤ, pos, Result, Ok, Err, Option, Some, None, refl}
use Rattle.std.proofs.Common.{sym, ◌∙◌, ap, arith, subst}
use Rattle.dag_order.specs.declared.fault.FaultKind.{FaultKind}
use Rattle.dag_order.specs.declared.fault.FaultKind.TheVariants as faults
use Rattle.depth_first_list.specs.Actions as actions
use Rattle.depth_first_list.specs.Actions.{peak}
use Rattle.depth_first_list.specs.Runs.{tree_for}
use Rattle.par_tree.specs.Tree.{Name, Expr, Target, Arg, Stmt, let_stmt, assign_stmt, put_stmt, alloc_stmt, free_stmt, if_stmt, while_stmt, call_stmt, print_stmt, par_stmt, split_stmt, Body, done, step, Func}
use Rattle.par_ownership.specs.Ownership.{function_of}
use Rattle.depth_first_run.specs.Stores.{Store, with_integer, block_of, block_words, hold_block, drop_block, write_block}
use Rattle.depth_first_run.specs.Values.{value, place_in}
use Rattle.depth_first_run.specs.States
use Rattle.depth_first_run.specs.States.{Setting, State, with_item, with_action, with_fault, unless_faulted, with_number, with_turn, child_of, parent_of, fork_join}
use Rattle.depth_first_run.specs.Calls.{Passing, all_passed}
use Rattle.depth_first_run.specs.Run.{on_store, set_integer, put_in_place, put_number, put_value, print_number, names_in, assigns_in, run_tree_unless, run_tree_before, size_of, alloc_words, alloc_block, free_block, branch_on, unchanged, one_round, cut_of, cut_block, rejoin_block, split_in_place, split_block, open_call, call_with, call_function, begin_statement, exec, exec_all, room, run}
use Rattle.depth_first_run.proofs.Keeping.{Keeps, keeps_trans, storing_keeps, acting_keeps, noting_keeps, unless_faulted_keeps, delayed_keeps, exec_keeps, exec_all_keeps, KeepsAll, run_keeps}
use Rattle.depth_first_run.proofs.Fixed.{room_kept, room_fewer, room_child, run_fixed}
use Rattle.ownership_laws.proofs.Moves.{unless_running}
use Rattle.ownership_laws.proofs.Owned.{all_stopped}
use Rattle.loop_laws.proofs.Ways.{Like, Same, Begins, like_from, same_then, same_at, same_unless, same_storing, same_unchanged, same_noting, same_acting, same_fault, same_number, unlimited_turn, unlimited_depth, same_branch}
use Rattle.loop_laws.proofs.Forks.{same_fork, same_tree, tree_runs, child_begins, parent_begins}
use Rattle.loop_laws.proofs.Answering.{called, same_open_call, call_likes}

-- runs with less room than n come to the same
unfoldable Below : Setting → ℕ → Type 0
Below c n = (b : Body) (s t : State) → room c s < n → Begins s t → Same s (run c b s) t (run c b t)

pub runs_grow : (c : Setting) (b : Body) (s : State) → Keeps s (run c b s)
unfolding KeepsAll
runs_grow c b s = run_keeps c b s

-- ---- single statements

same_storing_by : (f : Store → Store) (s t : State) → Begins s t → Same s (on_store f s) t (on_store f t)
same_storing_by f s t b = same_storing s t (f s.store) (f t.store) b (ap f b.store)

putting_at : (line : ℕ) (x : Name) (v : ℤ) (o : Option ℕ) (s t : State) → Begins s t → Same s (put_in_place line x v o s) t (put_in_place line x v o t)
putting_at line x v None s t b = same_fault faults.Index line s t b.store
putting_at line x v (Some i) s t b = same_storing_by (λ st. write_block x (slice_set (block_of st.blocks x) i v) st) s t b

putting : (line : ℕ) (x : Name) (e : Expr) (i : ℤ) (s t : State) → Begins s t → Same s (put_value line x e i s) t (put_value line x e i t)
putting line x e i s t b =
    same_number line (value s.store e) (value t.store e) (put_number line x i) (put_number line x i) s t b (ap (λ (st : Store). value st e) b.store)
    (λ v. subst (λ o. Same s (put_number line x i v s) t (put_in_place line x v o t)) (ap (λ (st : Store). place_in (block_of st.blocks x) i) b.store)
    (putting_at line x v (place_in (block_of s.store.blocks x) i) s t b))

allocate : Name → ℕ → State → State
allocate x n s = on_store (hold_block x (replicate n (pos 0))) (with_action actions.allocates (block_words n) s)

allocate_keeps : (x : Name) (n : ℕ) (s : State) → Keeps s (allocate x n s)
unfolding allocate
allocate_keeps x n s =
    let u : State = with_action actions.allocates (block_words n) s in
    keeps_trans s u (allocate x n s) (acting_keeps actions.allocates (block_words n) s) (storing_keeps _ u)

same_allocate : (x : Name) (n : ℕ) (s t : State) → Begins s t → Same s (allocate x n s) t (allocate x n t)
unfolding allocate with_action
same_allocate x n s t b =
    same_acting actions.allocates (block_words n) (block_words n) s t (hold_block x (replicate n (pos 0)) s.store) (hold_block x (replicate n (pos 0)) t.store)
    b refl (ap (hold_block x (replicate n (pos 0))) b.store)

tree_unless : (o : Bool) (c : Setting) (words : ℕ) (s t : State) → Begins s t → Same s (run_tree_unless o c words s) t (run_tree_unless o c words t)
tree_unless true c words s t b = same_unchanged s t b
tree_unless false c words s t b = same_tree c (tree_for c.quota words) s t b

tree_unless_runs : (o : Bool) (c : Setting) (words : ℕ) (s : State) → s.faulted ≡ false → State.faulted (run_tree_unless o c words s) ≡ false
tree_unless_runs true c words s f = f
tree_unless_runs false c words s f = tree_runs c (tree_for c.quota words) s f

runs_on : {A : Type 0} → (b : Bool) → b ≡ false → b ≡ true → A
runs_on b f e = absurd (let g = f in cc)

allocating : (c : Setting) (line : ℕ) (x : Name) (o : Option ℕ) (s t : State) → Begins s t → Same s (alloc_words c line x o s) t (alloc_words c line x o t)
unfolding allocate run_tree_before
allocating c line x None s t b = same_fault faults.Size line s t b.store
allocating c line x (Some n) s t b =
    let w : ℕ = block_words n in
    let u : State = run_tree_before c w s in
    let u' : State = run_tree_before c w t in
    same_then (allocate x n) (allocate x n) s u t u'
    (λ e. runs_on u.faulted (tree_unless_runs (nat_le w c.quota) c w s b.left) e)
    (λ e. runs_on u'.faulted (tree_unless_runs (nat_le w c.quota) c w t b.right) e)
    (delayed_keeps c w s) (allocate_keeps x n u) (delayed_keeps c w t) (allocate_keeps x n u')
    (tree_unless (nat_le w c.quota) c w s t b) (λ d. same_allocate x n u u' d)

freeing : (x : Name) (s t : State) → Begins s t → Same s (free_block x s) t (free_block x t)
unfolding with_action
freeing x s t b =
    same_acting actions.releases (block_words (length (block_of s.store.blocks x))) (block_words (length (block_of t.store.blocks x))) s t
    (drop_block x s.store) (drop_block x t.store) b (ap (λ (st : Store). block_words (length (block_of st.blocks x))) b.store) (ap (drop_block x) b.store)

splitting_at : (line : ℕ) (x l r : Name) (body : State → State) (o : Option ℕ) (s t : State) → ((u : State) → Keeps u (body u)) → Begins s t
    → ((n : ℕ) → Same (on_store (cut_block x l r n) s) (body (on_store (cut_block x l r n) s)) (on_store (cut_block x l r n) t) (body (on_store (cut_block x l r n) t)))
    → Same s (split_in_place line x l r body o s) t (split_in_place line x l r body o t)
splitting_at line x l r body None s t k b p = same_fault faults.Split line s t b.store
splitting_at line x l r body (Some n) s t k b p =
    let f : State → State = on_store (rejoin_block x l r) in
    let u : State = on_store (cut_block x l r n) s in
    let u' : State = on_store (cut_block x l r n) t in
    same_unless f f s (body u) t (body u')
    (keeps_trans s u (body u) (storing_keeps (cut_block x l r n s.store) s) (k u)) (storing_keeps (rejoin_block x l r (body u).store) (body u))
    (keeps_trans t u' (body u') (storing_keeps (cut_block x l r n t.store) t) (k u')) (storing_keeps (rejoin_block x l r (body u').store) (body u'))
    (like_from s t u.store u'.store s.turns t.turns (body u) (body u') (p n))
    (λ d. same_storing_by (rejoin_block x l r) (body u) (body u') d)

-- ---- calls

calling_with : (c : Setting) (n : ℕ) → Below c n → (line : ℕ) (x : Target) (args : List Arg) (g : Func) (r : Result Passing FaultKind) (s t : State)
    → room c s ≤ n → Begins s t → Same s (call_with c (run c) line x args g r s) t (call_with c (run c) line x args g r t)
unfolding Below
calling_with c n below line x args g (Err kind) s t le b = same_fault kind line s t b.store
calling_with c n below line x args g (Ok h) s t le b = λ kl kr.
    call_likes g.ret g.params x args h s t (open_call c (run c) line x args g h s) (open_call c (run c) line x args g h t)
    (same_open_call c (run c) line line x x args args g h h s t (runs_grow c g.body)
    (λ left right is. let less = room_fewer c s left is in
    below g.body (called h left s) (called h right t) (omega (arith, less, le)) (record { store = refl; left = b.left; right = b.right })) kl kr)

calling : (c : Setting) (n : ℕ) → Below c n → (line : ℕ) (x : Target) (args : List Arg) (o : Option Func) (s t : State)
    → room c s ≤ n → Begins s t → Same s (call_function c (run c) line x args o s) t (call_function c (run c) line x args o t)
calling c n below line x args None s t le b = same_unchanged s t b
calling c n below line x args (Some g) s t le b =
    subst (λ r. Same s (call_with c (run c) line x args g (all_passed s.store g.params args) s) t (call_with c (run c) line x args g r t))
    (ap (λ (st : Store). all_passed st g.params args) b.store)
    (calling_with c n below line x args g (all_passed s.store g.params args) s t le b)

-- a round of a loop, and the loop again
repeating : (c : Setting) (n : ℕ) → Below c n → (line : ℕ) (body : State → State) (again : Body) (v : ℤ) (s t : State) → ((u : State) → Keeps u (body u))
    → room c s ≤ n → Begins s t
    → ((left right : ℕ) → room c (record s { turns = left }) ≤ n → Same (record s { turns = left }) (body (record s { turns = left })) (record t { turns = right }) (body (record t { turns = right })))
    → Same s (branch_on (with_turn line (one_round body (run c again))) unchanged v s) t (branch_on (with_turn line (one_round body (run c again))) unchanged v t)
unfolding Below
repeating c n below line body again v s t k le b p =
    same_branch v (with_turn line (one_round body (run c again))) unchanged (with_turn line (one_round body (run c again))) unchanged s t
    (unlimited_turn (λ s' t'. Like s s' t t') line line (one_round body (run c again)) (one_round body (run c again)) s t (λ left right is.
    let u : State = record s { turns = left } in
    let u' : State = record t { turns = right } in
    let less : room c u < room c s = room_fewer c s left is in
    let kept : room c (body u) ≤ room c u = room_kept c u (body u) (k u) in
    like_from s t s.store t.store left right (one_round body (run c again) u) (one_round body (run c again) u')
    (same_unless (run c again) (run c again) u (body u) u' (body u')
    (k u) (runs_grow c again (body u)) (k u') (runs_grow c again (body u'))
    (p left right (omega (arith, less, le)))
    (λ d. below again (body u) (body u') (omega (arith, less, kept, le)) d))))
    (same_unchanged s t b)

-- ---- statements and lists of them

mutual
  unfolding exec exec_all

  same_exec : (c : Setting) (n : ℕ) → Below c n → (line : ℕ) (stmt : Stmt) (s t : State) → room c s ≤ n → Begins s t
      → Same s (exec c (run c) line stmt s) t (exec c (run c) line stmt t)
  same_exec c n below line (let_stmt x e) s t le b =
      same_number line (value s.store e) (value t.store e) (set_integer x) (set_integer x) s t b (ap (λ (st : Store). value st e) b.store)
      (λ v. same_storing_by (with_integer x v) s t b)
  same_exec c n below line (assign_stmt x e) s t le b =
      same_number line (value s.store e) (value t.store e) (set_integer x) (set_integer x) s t b (ap (λ (st : Store). value st e) b.store)
      (λ v. same_storing_by (with_integer x v) s t b)
  same_exec c n below line (put_stmt x i e) s t le b =
      same_number line (value s.store i) (value t.store i) (put_value line x e) (put_value line x e) s t b (ap (λ (st : Store). value st i) b.store)
      (λ v. putting line x e v s t b)
  same_exec c n below line (alloc_stmt x e) s t le b =
      same_number line (value s.store e) (value t.store e) (alloc_block c line x) (alloc_block c line x) s t b (ap (λ (st : Store). value st e) b.store)
      (λ v. allocating c line x (size_of v) s t b)
  same_exec c n below line (free_stmt x) s t le b = freeing x s t b
  same_exec c n below line (if_stmt e x y) s t le b =
      same_number line (value s.store e) (value t.store e) (branch_on (exec_all c (run c) x) (exec_all c (run c) y)) (branch_on (exec_all c (run c) x) (exec_all c (run c) y))
      s t b (ap (λ (st : Store). value st e) b.store)
      (λ v. same_branch v (exec_all c (run c) x) (exec_all c (run c) y) (exec_all c (run c) x) (exec_all c (run c) y) s t
      (same_all c n below x s t le b) (same_all c n below y s t le b))
  same_exec c n below line (while_stmt e x) s t le b =
      let f : ℤ → State → State = branch_on (with_turn line (one_round (exec_all c (run c) x) (run c (step line (while_stmt e x) done)))) unchanged in
      same_number line (value s.store e) (value t.store e) f f s t b (ap (λ (st : Store). value st e) b.store)
      (λ v. repeating c n below line (exec_all c (run c) x) (step line (while_stmt e x) done) v s t (exec_all_keeps c (run c) (run_keeps c) x) le b
      (λ left right less. same_all c n below x (record s { turns = left }) (record t { turns = right }) less (record { store = b.store; left = b.left; right = b.right })))
  same_exec c n below line (call_stmt x f args) s t le b = calling c n below line x args (function_of c.program f) s t le b
  same_exec c n below line (print_stmt e) s t le b =
      same_number line (value s.store e) (value t.store e) print_number print_number s t b (ap (λ (st : Store). value st e) b.store)
      (λ v. same_noting (States.printed v) s t b)
  same_exec c n below line (par_stmt x y) s t le b =
      let f : State → State = fork_join c (names_in x) (assigns_in x) (exec_all c (run c) x) (exec_all c (run c) y) in
      unlimited_depth (λ s' t'. Like s s' t t') (length s.label) (length t.label) c.most_forks line line f f s t
      (λ few. same_fork c (names_in x) (assigns_in x) (exec_all c (run c) x) (exec_all c (run c) y) s t
      (exec_all_keeps c (run c) (run_keeps c) x) (exec_all_keeps c (run c) (run_keeps c) y)
      (let less = room_child c (names_in x) s few in
      same_all c n below x (child_of c (names_in x) s) (child_of c (names_in x) t) (omega (arith, less, le)) (child_begins c (names_in x) s t b))
      (λ items items'. same_all c n below y (parent_of (names_in x) items s) (parent_of (names_in x) items' t) le (parent_begins (names_in x) items items' s t b)))
  same_exec c n below line (split_stmt x e l r body) s t le b =
      same_number line (value s.store e) (value t.store e) (split_block line x l r (exec_all c (run c) body)) (split_block line x l r (exec_all c (run c) body))
      s t b (ap (λ (st : Store). value st e) b.store)
      (λ v. subst (λ o. Same s (split_block line x l r (exec_all c (run c) body) v s) t (split_in_place line x l r (exec_all c (run c) body) o t))
      (ap (λ (st : Store). cut_of (block_of st.blocks x) v) b.store)
      (splitting_at line x l r (exec_all c (run c) body) (cut_of (block_of s.store.blocks x) v) s t (exec_all_keeps c (run c) (run_keeps c) body) b
      (λ m. same_all c n below body (on_store (cut_block x l r m) s) (on_store (cut_block x l r m) t) le
      (record { store = ap (cut_block x l r m) b.store; left = b.left; right = b.right }))))

  same_all : (c : Setting) (n : ℕ) → Below c n → (body : Body) (s t : State) → room c s ≤ n → Begins s t
      → Same s (exec_all c (run c) body s) t (exec_all c (run c) body t)
  same_all c n below done s t le b = same_unchanged s t b
  same_all c n below (step line stmt rest) s t le b =
      let more : KeepsAll (run c) = run_keeps c in
      let f : State → State = exec c (run c) line stmt in
      let g : State → State = begin_statement line f in
      let u : State = with_item (States.began line) s in
      let u' : State = with_item (States.began line) t in
      let v : State = unless_faulted g s in
      let v' : State = unless_faulted g t in
      let kf : Keeps u (f u) = exec_keeps c (run c) more line stmt u in
      let kf' : Keeps u' (f u') = exec_keeps c (run c) more line stmt u' in
      let kv : Keeps s v = unless_faulted_keeps g s (keeps_trans s u (f u) (noting_keeps (States.began line) s) kf) in
      let kv' : Keeps t v' = unless_faulted_keeps g t (keeps_trans t u' (f u') (noting_keeps (States.began line) t) kf') in
      let first : Same s (unless_faulted f u) t (unless_faulted f u') =
      same_unless f f s u t u' (noting_keeps (States.began line) s) kf (noting_keeps (States.began line) t) kf' (same_noting (States.began line) s t b)
      (λ d. same_exec c n below line stmt u u' le d) in
      let one : Same s v t v' =
      same_at s (unless_faulted f u) v t (unless_faulted f u') v'
      (unless_running g s b.left ∙ sym (unless_running f u b.left)) (unless_running g t b.right ∙ sym (unless_running f u' b.right)) first in
      let kept : room c v ≤ room c s = room_kept c s v kv in
      same_then (exec_all c (run c) rest) (exec_all c (run c) rest) s v t v' (all_stopped c rest v) (all_stopped c rest v')
      kv (exec_all_keeps c (run c) more rest v) kv' (exec_all_keeps c (run c) more rest v') one
      (λ d. same_all c n below rest v v' (omega (arith, kept, le)) d)

-- ---- runs

same_below : (c : Setting) (n : ℕ) → Below c n
unfolding Below
same_below c zero = λ b s t less. absurd (omega (arith, less))
same_below c (suc n) = λ b s t less d.
    same_at s (exec_all c (run c) b s) (run c b s) t (exec_all c (run c) b t) (run c b t) (run_fixed c b s) (run_fixed c b t)
    (same_all c n (same_below c n) b s t (omega (arith, less)) d)

-- runs from the same store come to the same
pub same_run : (c : Setting) (b : Body) (s t : State) → Begins s t → Same s (run c b s) t (run c b t)
unfolding Below
same_run c b s t d = same_below c (suc (room c s)) b s t (omega arith) d
