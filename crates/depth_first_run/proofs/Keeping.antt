-- What a run keeps: the label of its thread stays, its turns do not rise, and its items only grow.
use Rattle.std.specs.Prelude.{◌≡◌, ℕ, zero, suc, ◌≤◌, nat_lt, nat_le, Bool, true, false, List, [], ◌∷◌, ◌++◌, length, ℤ, Result, Ok, Err, Option, Some, None, refl}
use Rattle.std.proofs.Common.{sym, ◌∙◌, ap, arith, append_assoc, append-nil}
use Rattle.depth_first_list.specs.Passed.FaultKind.{FaultKind}
use Rattle.depth_first_list.specs.Shapes.{Shape, leaf, forked}
use Rattle.depth_first_list.specs.Actions.{Deed, record_words}
use Rattle.depth_first_list.specs.Actions as actions
use Rattle.depth_first_list.specs.Runs.{tree_for}
use Rattle.par_tree.specs.Tree.{Name, Expr, Target, Arg, Param, Stmt, let_stmt, assign_stmt, put_stmt, alloc_stmt, free_stmt, if_stmt, while_stmt, call_stmt, print_stmt, par_stmt, split_stmt, Body, done, step, Func, Ret, RetValue, gives, hands}
use Rattle.par_ownership.specs.Ownership.{function_of}
use Rattle.depth_first_run.specs.Stores.{Store}
use Rattle.depth_first_run.specs.Values.{Outcome, value, is_true}
use Rattle.depth_first_run.specs.States
use Rattle.depth_first_run.specs.States.{Setting, State, Item, with_item, with_action, with_fault, skip_if, unless_faulted, with_number, with_turns, with_turn, under_limit, with_depth, child_of, parent_of, ended, given_back, with_result, joined, own_part_then_join, fork_join}
use Rattle.depth_first_run.specs.Calls
use Rattle.depth_first_run.specs.Calls.{Passing, all_passed, entered, Answer, end_call, returned, with_answer, with_return, as_number}
use Rattle.depth_first_run.specs.Run
use Rattle.depth_first_run.specs.Run.{on_store, put_in_place, put_number, put_value, print_number, names_in, assigns_in, no_name, run_tree, run_tree_unless, run_tree_before, size_of, alloc_words, alloc_block, free_block, branch, branch_on, unchanged, one_round, cut_of, split_in_place, split_block, run_callee, open_call, call_with, call_function, begin_statement, exec, exec_all, within, run}

-- the items of the second are those of the first, and more
unfoldable pub Grows : State → State → Type 0
Grows s t = (new : List Item) × (t.items ≡ s.items ++ new)

pub record Keeps (s t : State) : Type 0 where
  pub label : t.label ≡ s.label
  pub turns : t.turns ≤ s.turns
  pub grows : (new : List Item) × (t.items ≡ s.items ++ new)

pub keeps_same : (s : State) → Keeps s s
keeps_same s = record { label = refl; turns = omega arith; grows = ([], sym (append-nil s.items)) }

pub keeps_trans : (s t u : State) → Keeps s t → Keeps t u → Keeps s u
keeps_trans s t u p q = record {
  label = q.label ∙ p.label;
  turns = let a = p.turns in let b = q.turns in omega (arith, a, b);
  grows = (p.grows.0 ++ q.grows.0, q.grows.1 ∙ ap (λ is. is ++ q.grows.0) p.grows.1 ∙ append_assoc s.items p.grows.0 q.grows.0);
}

-- a state that only its items tell from another
pub keeps_more : (s t : State) (new : List Item) → t.label ≡ s.label → t.turns ≡ s.turns → t.items ≡ s.items ++ new → Keeps s t
keeps_more s t new l n i = record { label = l; turns = omega (arith, n); grows = (new, i) }

pub acting_keeps : (deed : Deed) (words : ℕ) (s : State) → Keeps s (with_action deed words s)
unfolding with_action
acting_keeps deed words s = keeps_more s (with_action deed words s) (States.next_action deed words s ∷ []) refl refl refl

pub faulting_keeps : (kind : FaultKind) (line : ℕ) (s : State) → Keeps s (with_fault kind line s)
unfolding with_fault with_action
faulting_keeps kind line s =
    keeps_more s (with_fault kind line s) (States.next_action actions.faults (States.holdings s) s ∷ States.failed (record { kind = kind; line = line }) ∷ [])
    refl refl (append_assoc s.items (States.next_action actions.faults (States.holdings s) s ∷ []) (States.failed (record { kind = kind; line = line }) ∷ []))

pub noting_keeps : (item : Item) (s : State) → Keeps s (with_item item s)
noting_keeps item s = keeps_more s (with_item item s) (item ∷ []) refl refl refl

choosing_keeps : (b : Bool) (f : State → State) (s : State) → Keeps s (f s) → Keeps s (skip_if b f s)
choosing_keeps true f s k = keeps_same s
choosing_keeps false f s k = k

pub unless_faulted_keeps : (f : State → State) (s : State) → Keeps s (f s) → Keeps s (unless_faulted f s)
unfolding unless_faulted
unless_faulted_keeps f s k = choosing_keeps s.faulted f s k

pub settled_keeps : (line : ℕ) (o : Outcome) (f : ℤ → State → State) (s : State) → ((v : ℤ) → Keeps s (f v s)) → Keeps s (with_number line o f s)
unfolding with_number
settled_keeps line (Ok v) f s k = k v
settled_keeps line (Err kind) f s k = faulting_keeps kind line s

turning_keeps : (n line : ℕ) (f : State → State) (s : State) → n ≡ s.turns
    → ((left : ℕ) → s.turns ≡ suc left → Keeps s (f (record s { turns = left }))) → Keeps s (with_turns n line f s)
turning_keeps zero line f s e k = faulting_keeps _ line s
turning_keeps (suc left) line f s e k = k left (sym e)

pub with_turn_keeps : (line : ℕ) (f : State → State) (s : State)
    → ((left : ℕ) → s.turns ≡ suc left → Keeps s (f (record s { turns = left }))) → Keeps s (with_turn line f s)
unfolding with_turn
with_turn_keeps line f s k = turning_keeps s.turns line f s refl k

-- one turn less
pub fewer : (s : State) (left : ℕ) → s.turns ≡ suc left → Keeps s (record s { turns = left })
fewer s left e = record { label = refl; turns = omega (arith, e); grows = ([], sym (append-nil s.items)) }

limiting_keeps : (b : Bool) (line : ℕ) (f : State → State) (s : State) → Keeps s (f s) → Keeps s (under_limit b line f s)
limiting_keeps true line f s k = k
limiting_keeps false line f s k = faulting_keeps _ line s

pub with_depth_keeps : (depth most line : ℕ) (f : State → State) (s : State) → Keeps s (f s) → Keeps s (with_depth depth most line f s)
unfolding with_depth
with_depth_keeps depth most line f s k = limiting_keeps (nat_lt depth most) line f s k

taking_keeps : (p q : Bool) (assigned : Name → Bool) (d s : State) → Keeps s (with_result p q assigned d s)
taking_keeps true q assigned d s = keeps_same s
taking_keeps false true assigned d s = keeps_more s (with_result false true assigned d s) [] refl refl (sym (append-nil s.items))
taking_keeps false false assigned d s = keeps_more s (with_result false false assigned d s) [] refl refl (sym (append-nil s.items))

pub joined_keeps : (assigned : Name → Bool) (child : ℕ) (d s : State) → Keeps s (joined assigned child d s)
unfolding joined
joined_keeps assigned child d s =
    let t : State = with_action (actions.joins child) (given_back s.faulted d.faulted d s) s in
    keeps_trans s t (with_result s.faulted d.faulted assigned d t)
    (acting_keeps (actions.joins child) (given_back s.faulted d.faulted d s) s) (taking_keeps s.faulted d.faulted assigned d t)

pub ended_keeps : (words : ℕ) (s : State) → Keeps s (ended words s)
unfolding ended
ended_keeps words s = acting_keeps actions.ends words s

-- a thread behind its child keeps what it was, and the items go on from the child's
pub joining_keeps : (named assigned : Name → Bool) (own : State → State) (s d : State)
    → Grows s d → Keeps (parent_of named d.items s) (own (parent_of named d.items s)) → Keeps s (own_part_then_join named assigned own s d)
unfolding own_part_then_join Grows
joining_keeps named assigned own s d g k =
    let p : State = parent_of named d.items s in
    let first : Keeps s p = record { label = refl; turns = omega arith; grows = g } in
    keeps_trans s p (own_part_then_join named assigned own s d) first
    (keeps_trans p (own p) (own_part_then_join named assigned own s d) k (joined_keeps assigned (suc s.forks) d (own p)))

pub forking_keeps : (c : Setting) (named assigned : Name → Bool) (work own : State → State) (s : State)
    → Keeps (child_of c named s) (work (child_of c named s))
    → ((items : List Item) → Keeps (parent_of named items s) (own (parent_of named items s)))
    → Keeps s (fork_join c named assigned work own s)
unfolding fork_join Grows
forking_keeps c named assigned work own s w o =
    let b : State = child_of c named s in
    let e : Keeps b (ended record_words (work b)) = keeps_trans b (work b) (ended record_words (work b)) w (ended_keeps record_words (work b)) in
    let fork : List Item = States.next_action (actions.forks (suc s.forks)) record_words s ∷ [] in
    joining_keeps named assigned own s (ended record_words (work b))
    (fork ++ e.grows.0, e.grows.1 ∙ append_assoc s.items fork e.grows.0) (o (ended record_words (work b)).items)

pub running_tree_keeps : (c : Setting) (shape : Shape) (s : State) → Keeps s (run_tree c shape s)
unfolding run_tree
running_tree_keeps c leaf s = acting_keeps actions.dummy 0 s
running_tree_keeps c (forked child own) s =
    forking_keeps c no_name no_name (run_tree c child) (run_tree c own) s
    (running_tree_keeps c child (child_of c no_name s))
    (λ items. running_tree_keeps c own (parent_of no_name items s))

delaying_keeps : (b : Bool) (c : Setting) (words : ℕ) (s : State) → Keeps s (run_tree_unless b c words s)
delaying_keeps true c words s = keeps_same s
delaying_keeps false c words s = running_tree_keeps c (tree_for c.quota words) s

pub delayed_keeps : (c : Setting) (words : ℕ) (s : State) → Keeps s (run_tree_before c words s)
unfolding run_tree_before
delayed_keeps c words s = delaying_keeps (nat_le words c.quota) c words s

-- a change of what is stored
pub storing_keeps : (st : Store) (s : State) → Keeps s (record s { store = st })
storing_keeps st s = keeps_more s (record s { store = st }) [] refl refl (sym (append-nil s.items))

putting_at_keeps : (line : ℕ) (b : Name) (v : ℤ) (o : Option ℕ) (s : State) → Keeps s (put_in_place line b v o s)
putting_at_keeps line b v None s = faulting_keeps _ line s
putting_at_keeps line b v (Some i) s = storing_keeps _ s

pub putting_value_keeps : (line : ℕ) (b : Name) (e : Expr) (i : ℤ) (s : State) → Keeps s (put_value line b e i s)
putting_value_keeps line b e i s = settled_keeps line (value s.store e) (put_number line b i) s (λ v. putting_at_keeps line b v _ s)

allocating_words_keeps : (c : Setting) (line : ℕ) (b : Name) (o : Option ℕ) (s : State) → Keeps s (alloc_words c line b o s)
allocating_words_keeps c line b None s = faulting_keeps _ line s
allocating_words_keeps c line b (Some n) s =
    let w : ℕ = Rattle.depth_first_run.specs.Stores.block_words n in
    let t : State = run_tree_before c w s in let u : State = with_action actions.allocates w t in
    keeps_trans s t (alloc_words c line b (Some n) s) (delayed_keeps c w s)
    (keeps_trans t u (alloc_words c line b (Some n) s) (acting_keeps actions.allocates w t) (storing_keeps _ u))

pub allocating_keeps : (c : Setting) (line : ℕ) (b : Name) (n : ℤ) (s : State) → Keeps s (alloc_block c line b n s)
allocating_keeps c line b n s = allocating_words_keeps c line b (size_of n) s

pub freeing_keeps : (b : Name) (s : State) → Keeps s (free_block b s)
freeing_keeps b s =
    let w : ℕ = Rattle.depth_first_run.specs.Stores.block_words (length (Rattle.depth_first_run.specs.Stores.block_of s.store.blocks b)) in
    let t : State = with_action actions.releases w s in
    keeps_trans s t (free_block b s) (acting_keeps actions.releases w s) (storing_keeps _ t)

branching_keeps : (b : Bool) (f g : State → State) (s : State) → Keeps s (f s) → Keeps s (g s) → Keeps s (branch f g b s)
branching_keeps true f g s p q = p
branching_keeps false f g s p q = q

pub choosing_by_keeps : (f g : State → State) (v : ℤ) (s : State) → Keeps s (f s) → Keeps s (g s) → Keeps s (branch_on f g v s)
choosing_by_keeps f g v s p q = branching_keeps (is_true v) f g s p q

pub one_round_keeps : (body again : State → State) (s : State) → Keeps s (body s) → Keeps (body s) (again (body s)) → Keeps s (one_round body again s)
one_round_keeps body again s p q = keeps_trans s (body s) (one_round body again s) p (unless_faulted_keeps again (body s) q)

splitting_at_keeps : (line : ℕ) (b l r : Name) (body : State → State) (o : Option ℕ) (s : State)
    → ((t : State) → Keeps t (body t)) → Keeps s (split_in_place line b l r body o s)
splitting_at_keeps line b l r body None s k = faulting_keeps _ line s
splitting_at_keeps line b l r body (Some at) s k =
    let f : State → State = on_store (Run.rejoin_block b l r) in
    let t : State = on_store (Run.cut_block b l r at) s in
    keeps_trans s t (split_in_place line b l r body (Some at) s) (storing_keeps _ s)
    (keeps_trans t (body t) (unless_faulted f (body t)) (k t) (unless_faulted_keeps f (body t) (storing_keeps _ (body t))))

pub splitting_keeps : (line : ℕ) (b l r : Name) (body : State → State) (v : ℤ) (s : State)
    → ((t : State) → Keeps t (body t)) → Keeps s (split_block line b l r body v s)
splitting_keeps line b l r body v s k = splitting_at_keeps line b l r body (cut_of (Rattle.depth_first_run.specs.Stores.block_of s.store.blocks b) v) s k

-- the end of a call
closing_keeps : (callers : List Store) (params : List Param) (args : List Arg) (t : Target) (a : Answer) (s : State) → Keeps s (end_call callers params args t a s)
closing_keeps [] params args t a s = keeps_same s
closing_keeps (caller ∷ callers) params args t a s = keeps_more s (end_call (caller ∷ callers) params args t a s) [] refl refl (sym (append-nil s.items))

pub returned_keeps : (params : List Param) (args : List Arg) (t : Target) (a : Answer) (s : State) → Keeps s (returned params args t a s)
unfolding returned
returned_keeps params args t a s = closing_keeps s.callers params args t a s

answering_value_keeps : (line : ℕ) (r : RetValue) (next : Answer → State → State) (s : State)
    → ((a : Answer) (st : Store) → Keeps (record s { store = st }) (next a (record s { store = st }))) → Keeps s (with_return line r next s)
answering_value_keeps line (gives e) next s k = settled_keeps line (value s.store e) (as_number next) s (λ v. k (Calls.number v) s.store)
answering_value_keeps line (hands b) next s k =
    let st : Store = Rattle.depth_first_run.specs.Stores.drop_block b s.store in let t : State = record s { store = st } in
    keeps_trans s t (with_return line (hands b) next s) (storing_keeps st s) (k _ st)

pub answering_keeps : (r : Option Ret) (next : Answer → State → State) (s : State)
    → ((a : Answer) (st : Store) → Keeps (record s { store = st }) (next a (record s { store = st }))) → Keeps s (with_answer r next s)
unfolding with_answer
answering_keeps None next s k = k _ s.store
answering_keeps (Some r) next s k = answering_value_keeps r.line r.value next s k

unfoldable pub KeepsAll : (Body → State → State) → Type 0
KeepsAll more = (b : Body) (s : State) → Keeps s (more b s)

running_body_keeps : (more : Body → State → State) → KeepsAll more → (t : Target) (args : List Arg) (g : Func) (h : Passing) (s : State)
    → Keeps s (run_callee more t args g h s)
unfolding KeepsAll
running_body_keeps more k t args g h s =
    let u : State = entered h s in let v : State = more g.body u in
    let f : State → State = with_answer g.ret (returned g.params args t) in
    keeps_trans s u (run_callee more t args g h s) (keeps_more s u [] refl refl (sym (append-nil s.items)))
    (keeps_trans u v (unless_faulted f v) (k g.body u)
    (unless_faulted_keeps f v (answering_keeps g.ret (returned g.params args t) v (λ a st. returned_keeps g.params args t a (record v { store = st })))))

calling_with_keeps : (c : Setting) (more : Body → State → State) → KeepsAll more → (line : ℕ) (t : Target) (args : List Arg) (g : Func)
    (r : Result Passing FaultKind) (s : State) → Keeps s (call_with c more line t args g r s)
calling_with_keeps c more k line t args g (Ok h) s =
    with_depth_keeps s.calls c.most_calls line (with_turn line (run_callee more t args g h)) s
    (with_turn_keeps line (run_callee more t args g h) s (λ left e.
    keeps_trans s (record s { turns = left }) (run_callee more t args g h (record s { turns = left })) (fewer s left e)
    (running_body_keeps more k t args g h (record s { turns = left }))))
calling_with_keeps c more k line t args g (Err kind) s = faulting_keeps kind line s

calling_keeps : (c : Setting) (more : Body → State → State) → KeepsAll more → (line : ℕ) (t : Target) (args : List Arg)
    (o : Option Func) (s : State) → Keeps s (call_function c more line t args o s)
calling_keeps c more k line t args None s = keeps_same s
calling_keeps c more k line t args (Some g) s = calling_with_keeps c more k line t args g (all_passed s.store g.params args) s

-- a round of a loop
repeat_keeps : (line : ℕ) (body again : State → State) (v : ℤ) (s : State) → ((t : State) → Keeps t (body t)) → ((t : State) → Keeps t (again t))
    → Keeps s (branch_on (with_turn line (one_round body again)) unchanged v s)
repeat_keeps line body again v s b a =
    choosing_by_keeps (with_turn line (one_round body again)) unchanged v s
    (with_turn_keeps line (one_round body again) s (λ left e.
    keeps_trans s (record s { turns = left }) (one_round body again (record s { turns = left })) (fewer s left e)
    (one_round_keeps body again (record s { turns = left }) (b (record s { turns = left })) (a (body (record s { turns = left }))))))
    (keeps_same s)

mutual
  unfolding exec exec_all KeepsAll

  pub exec_keeps : (c : Setting) (more : Body → State → State) → KeepsAll more → (line : ℕ) (stmt : Stmt) (s : State) → Keeps s (exec c more line stmt s)
  exec_keeps c more k line (let_stmt x e) s = settled_keeps line (value s.store e) (Run.set_integer x) s (λ v. storing_keeps _ s)
  exec_keeps c more k line (assign_stmt x e) s = settled_keeps line (value s.store e) (Run.set_integer x) s (λ v. storing_keeps _ s)
  exec_keeps c more k line (put_stmt b i e) s = settled_keeps line (value s.store i) (put_value line b e) s (λ v. putting_value_keeps line b e v s)
  exec_keeps c more k line (alloc_stmt b e) s = settled_keeps line (value s.store e) (alloc_block c line b) s (λ v. allocating_keeps c line b v s)
  exec_keeps c more k line (free_stmt b) s = freeing_keeps b s
  exec_keeps c more k line (if_stmt e a b) s =
      settled_keeps line (value s.store e) (branch_on (exec_all c more a) (exec_all c more b)) s
      (λ v. choosing_by_keeps (exec_all c more a) (exec_all c more b) v s (exec_all_keeps c more k a s) (exec_all_keeps c more k b s))
  exec_keeps c more k line (while_stmt e a) s =
      settled_keeps line (value s.store e) (branch_on (with_turn line (one_round (exec_all c more a) (more (step line (while_stmt e a) done)))) unchanged) s
      (λ v. repeat_keeps line (exec_all c more a) (more (step line (while_stmt e a) done)) v s (exec_all_keeps c more k a) (k (step line (while_stmt e a) done)))
  exec_keeps c more k line (call_stmt t f args) s = calling_keeps c more k line t args (function_of c.program f) s
  exec_keeps c more k line (print_stmt e) s = settled_keeps line (value s.store e) print_number s (λ v. noting_keeps _ s)
  exec_keeps c more k line (par_stmt a b) s =
      with_depth_keeps (length s.label) c.most_forks line (fork_join c (names_in a) (assigns_in a) (exec_all c more a) (exec_all c more b)) s
      (forking_keeps c (names_in a) (assigns_in a) (exec_all c more a) (exec_all c more b) s
      (exec_all_keeps c more k a (child_of c (names_in a) s))
      (λ items. exec_all_keeps c more k b (parent_of (names_in a) items s)))
  exec_keeps c more k line (split_stmt b e l r a) s =
      settled_keeps line (value s.store e) (split_block line b l r (exec_all c more a)) s
      (λ v. splitting_keeps line b l r (exec_all c more a) v s (exec_all_keeps c more k a))

  pub exec_all_keeps : (c : Setting) (more : Body → State → State) → KeepsAll more → (b : Body) (s : State) → Keeps s (exec_all c more b s)
  exec_all_keeps c more k done s = keeps_same s
  exec_all_keeps c more k (step line stmt rest) s =
      let f : State → State = begin_statement line (exec c more line stmt) in
      let t : State = unless_faulted f s in
      let u : State = with_item (States.began line) s in
      keeps_trans s t (exec_all c more rest t)
      (unless_faulted_keeps f s (keeps_trans s u (f s) (noting_keeps (States.began line) s) (exec_keeps c more k line stmt u)))
      (exec_all_keeps c more k rest t)

pub within_keeps : (c : Setting) (n : ℕ) → KeepsAll (within c n)
unfolding within KeepsAll
within_keeps c zero = λ b s. keeps_same s
within_keeps c (suc n) = λ b s. exec_all_keeps c (within c n) (within_keeps c n) b s

pub run_keeps : (c : Setting) → KeepsAll (run c)
unfolding run KeepsAll
run_keeps c = λ b s. within_keeps c (suc (Run.room c s)) b s
