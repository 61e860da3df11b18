-- A thread has faulted where it had before, or a fault is among the items that were added.
use Rattle.std.specs.Prelude.{◌≡◌, ℕ, zero, suc, ◌||◌, nat_lt, nat_le, Bool, true, false, List, [], ◌∷◌, ◌++◌, length, ℤ, Result, Ok, Err, Option, Some, None, is_some, refl}
use Rattle.std.proofs.Common.{sym, ◌∙◌, ap, append_assoc, append-nil}
use Rattle.dag_order.specs.declared.fault.FaultKind.{FaultKind}
use Rattle.depth_first_list.specs.Shapes.{Shape, leaf, forked}
use Rattle.depth_first_list.specs.Actions.{Deed, record_words}
use Rattle.depth_first_list.specs.Actions as actions
use Rattle.depth_first_list.specs.Runs.{tree_for}
use Rattle.par_tree.specs.Tree.{Name, Expr, Target, Arg, Param, Stmt, let_stmt, assign_stmt, put_stmt, alloc_stmt, free_stmt, if_stmt, while_stmt, call_stmt, print_stmt, par_stmt, split_stmt, Body, done, step, Func, Ret, RetValue, gives, hands}
use Rattle.par_ownership.specs.Ownership.{function_of}
use Rattle.depth_first_run.specs.Stores.{Store, block_of, block_words, drop_block}
use Rattle.depth_first_run.specs.Values.{Outcome, value, is_true}
use Rattle.depth_first_run.specs.States.{Setting, State, Item, began, acted, printed, failed, next_action, with_item, with_action, with_fault, holdings, skip_if, unless_faulted, with_number, with_turns, with_turn, under_limit, with_depth, child_of, parent_of, ended, given_back, with_result, joined, own_part_then_join, fork_join}
use Rattle.depth_first_run.specs.Calls
use Rattle.depth_first_run.specs.Calls.{Passing, all_passed, entered, Answer, end_call, returned, with_answer, with_return, as_number}
use Rattle.depth_first_run.specs.Run
use Rattle.depth_first_run.specs.Run.{on_store, put_in_place, put_number, put_value, print_number, names_in, assigns_in, no_name, run_tree, run_tree_unless, run_tree_before, size_of, alloc_words, alloc_block, free_block, branch, branch_on, unchanged, one_round, cut_of, cut_block, rejoin_block, split_in_place, split_block, run_callee, open_call, call_with, call_function, begin_statement, exec, exec_all, within, run, first_fault}

-- a fault is among the items
abbrev pub has_fault : List Item → Bool
has_fault items = is_some (first_fault items)

pub has_fault_append : (xs ys : List Item) → has_fault (xs ++ ys) ≡ (has_fault xs || has_fault ys)
has_fault_append [] ys = refl
has_fault_append (began line ∷ xs) ys = has_fault_append xs ys
has_fault_append (acted a ∷ xs) ys = has_fault_append xs ys
has_fault_append (printed v ∷ xs) ys = has_fault_append xs ys
has_fault_append (failed fault ∷ xs) ys = refl

or_false : (b : Bool) → (b || false) ≡ b
or_false true = refl
or_false false = refl

or_true : (b : Bool) → (b || true) ≡ true
or_true true = refl
or_true false = refl

pub or_assoc : (a b d : Bool) → ((a || b) || d) ≡ (a || (b || d))
or_assoc true b d = refl
or_assoc false b d = refl

or_turned : (a b d : Bool) → ((a || b) || d) ≡ (a || (d || (b || false)))
or_turned true b d = refl
or_turned false true true = refl
or_turned false true false = refl
or_turned false false true = refl
or_turned false false false = refl

-- the second state has more items, and a fault ended it where one had ended the first, or one is among these items
pub record Tells (s t : State) : Type 0 where
  pub new : List Item
  pub items : t.items ≡ s.items ++ new
  pub faulted : t.faulted ≡ (s.faulted || has_fault new)

-- more items without a fault
pub quiet_tells : (s t : State) (new : List Item) → has_fault new ≡ false → t.faulted ≡ s.faulted → t.items ≡ s.items ++ new → Tells s t
quiet_tells s t new q f i = record { new = new; items = i; faulted = f ∙ sym (or_false s.faulted) ∙ ap (λ b. s.faulted || b) (sym q) }

-- what is stored is another thing
storing_tells : (s t : State) → t.faulted ≡ s.faulted → t.items ≡ s.items → Tells s t
storing_tells s t f i = quiet_tells s t [] refl f (i ∙ sym (append-nil s.items))

pub tells_same : (s : State) → Tells s s
tells_same s = storing_tells s s refl refl

pub tells_trans : (s t u : State) → Tells s t → Tells t u → Tells s u
tells_trans s t u p q = record {
  new = p.new ++ q.new;
  items = q.items ∙ ap (λ is. is ++ q.new) p.items ∙ append_assoc s.items p.new q.new;
  faulted = q.faulted ∙ ap (λ b. b || has_fault q.new) p.faulted ∙ or_assoc s.faulted (has_fault p.new) (has_fault q.new)
      ∙ ap (λ b. s.faulted || b) (sym (has_fault_append p.new q.new));
}

acting_tells : (deed : Deed) (words : ℕ) (s : State) → Tells s (with_action deed words s)
unfolding with_action
acting_tells deed words s = quiet_tells s (with_action deed words s) (next_action deed words s ∷ []) refl refl refl

faulting_tells : (kind : FaultKind) (line : ℕ) (s : State) → Tells s (with_fault kind line s)
unfolding with_fault with_action
faulting_tells kind line s = record {
  new = next_action actions.faults (holdings s) s ∷ failed (record { kind = kind; line = line }) ∷ [];
  items = append_assoc s.items (next_action actions.faults (holdings s) s ∷ []) (failed (record { kind = kind; line = line }) ∷ []);
  faulted = sym (or_true s.faulted);
}

beginning_tells : (line : ℕ) (s : State) → Tells s (with_item (began line) s)
beginning_tells line s = quiet_tells s (with_item (began line) s) (began line ∷ []) refl refl refl

printing_tells : (v : ℤ) (s : State) → Tells s (print_number v s)
printing_tells v s = quiet_tells s (print_number v s) (printed v ∷ []) refl refl refl

skipping_tells : (b : Bool) (f : State → State) (s : State) → Tells s (f s) → Tells s (skip_if b f s)
skipping_tells true f s k = tells_same s
skipping_tells false f s k = k

pub unless_faulted_tells : (f : State → State) (s : State) → Tells s (f s) → Tells s (unless_faulted f s)
unfolding unless_faulted
unless_faulted_tells f s k = skipping_tells s.faulted f s k

number_tells : (line : ℕ) (o : Outcome) (f : ℤ → State → State) (s : State) → ((v : ℤ) → Tells s (f v s)) → Tells s (with_number line o f s)
unfolding with_number
number_tells line (Ok v) f s k = k v
number_tells line (Err kind) f s k = faulting_tells kind line s

turns_tell : (n line : ℕ) (f : State → State) (s : State) → ((left : ℕ) → Tells s (f (record s { turns = left }))) → Tells s (with_turns n line f s)
turns_tell zero line f s k = faulting_tells _ line s
turns_tell (suc left) line f s k = k left

turn_tells : (line : ℕ) (f : State → State) (s : State) → ((left : ℕ) → Tells s (f (record s { turns = left }))) → Tells s (with_turn line f s)
unfolding with_turn
turn_tells line f s k = turns_tell s.turns line f s k

limit_tells : (b : Bool) (line : ℕ) (f : State → State) (s : State) → Tells s (f s) → Tells s (under_limit b line f s)
limit_tells true line f s k = k
limit_tells false line f s k = faulting_tells _ line s

depth_tells : (depth most line : ℕ) (f : State → State) (s : State) → Tells s (f s) → Tells s (with_depth depth most line f s)
unfolding with_depth
depth_tells depth most line f s k = limit_tells (nat_lt depth most) line f s k

ended_tells : (words : ℕ) (s : State) → Tells s (ended words s)
unfolding ended
ended_tells words s = acting_tells actions.ends words s

-- ---- forks

result_items : (p q : Bool) (assigned : Name → Bool) (d u : State) → (with_result p q assigned d u).items ≡ u.items
result_items true q assigned d u = refl
result_items false true assigned d u = refl
result_items false false assigned d u = refl

result_faulted : (p q : Bool) (assigned : Name → Bool) (d u : State) → u.faulted ≡ p → (with_result p q assigned d u).faulted ≡ (p || q)
result_faulted true q assigned d u e = e
result_faulted false true assigned d u e = refl
result_faulted false false assigned d u e = e

pub joined_items : (assigned : Name → Bool) (child : ℕ) (d s : State)
    → (joined assigned child d s).items ≡ s.items ++ next_action (actions.joins child) (given_back s.faulted d.faulted d s) s ∷ []
unfolding joined with_action
joined_items assigned child d s = result_items s.faulted d.faulted assigned d (with_action (actions.joins child) (given_back s.faulted d.faulted d s) s)

pub joined_faulted : (assigned : Name → Bool) (child : ℕ) (d s : State) → (joined assigned child d s).faulted ≡ (s.faulted || d.faulted)
unfolding joined with_action
joined_faulted assigned child d s = result_faulted s.faulted d.faulted assigned d (with_action (actions.joins child) (given_back s.faulted d.faulted d s) s) refl

joining_tells : (named assigned : Name → Bool) (own : State → State) (s d : State) (of_child : List Item) → d.items ≡ s.items ++ of_child
    → d.faulted ≡ has_fault of_child → Tells (parent_of named d.items s) (own (parent_of named d.items s)) → Tells s (own_part_then_join named assigned own s d)
unfolding own_part_then_join
joining_tells named assigned own s d of_child i f o =
    let t : State = own (parent_of named d.items s) in
    let join : List Item = next_action (actions.joins (suc s.forks)) (given_back t.faulted d.faulted d t) t ∷ [] in
    record {
      new = of_child ++ (o.new ++ join);
      items = joined_items assigned (suc s.forks) d t ∙ ap (λ is. is ++ join) (o.items ∙ ap (λ is. is ++ o.new) i ∙ append_assoc s.items of_child o.new)
          ∙ append_assoc s.items (of_child ++ o.new) join ∙ ap (λ is. s.items ++ is) (append_assoc of_child o.new join);
      faulted = joined_faulted assigned (suc s.forks) d t ∙ (λ k. o.faulted k || f k) ∙ or_turned s.faulted (has_fault o.new) (has_fault of_child)
          ∙ ap (λ b. s.faulted || (has_fault of_child || b)) (sym (has_fault_append o.new join))
          ∙ ap (λ b. s.faulted || b) (sym (has_fault_append of_child (o.new ++ join)));
    }

forking_tells : (c : Setting) (named assigned : Name → Bool) (work own : State → State) (s : State) → Tells (child_of c named s) (work (child_of c named s))
    → ((items : List Item) → Tells (parent_of named items s) (own (parent_of named items s))) → Tells s (fork_join c named assigned work own s)
unfolding fork_join
forking_tells c named assigned work own s w o =
    let b : State = child_of c named s in
    let d : State = ended record_words (work b) in
    let e : Tells b d = tells_trans b (work b) d w (ended_tells record_words (work b)) in
    let fork : List Item = next_action (actions.forks (suc s.forks)) record_words s ∷ [] in
    joining_tells named assigned own s d (fork ++ e.new) (e.items ∙ append_assoc s.items fork e.new) e.faulted (o d.items)

tree_tells : (c : Setting) (shape : Shape) (s : State) → Tells s (run_tree c shape s)
unfolding run_tree
tree_tells c leaf s = acting_tells actions.dummy 0 s
tree_tells c (forked child own) s =
    forking_tells c no_name no_name (run_tree c child) (run_tree c own) s (tree_tells c child (child_of c no_name s))
    (λ items. tree_tells c own (parent_of no_name items s))

tree_unless_tells : (b : Bool) (c : Setting) (words : ℕ) (s : State) → Tells s (run_tree_unless b c words s)
tree_unless_tells true c words s = tells_same s
tree_unless_tells false c words s = tree_tells c (tree_for c.quota words) s

tree_before_tells : (c : Setting) (words : ℕ) (s : State) → Tells s (run_tree_before c words s)
unfolding run_tree_before
tree_before_tells c words s = tree_unless_tells (nat_le words c.quota) c words s

-- ---- statements

put_in_place_tells : (line : ℕ) (b : Name) (v : ℤ) (o : Option ℕ) (s : State) → Tells s (put_in_place line b v o s)
put_in_place_tells line b v None s = faulting_tells _ line s
put_in_place_tells line b v (Some i) s = storing_tells s _ refl refl

put_value_tells : (line : ℕ) (b : Name) (e : Expr) (i : ℤ) (s : State) → Tells s (put_value line b e i s)
put_value_tells line b e i s = number_tells line (value s.store e) (put_number line b i) s (λ v. put_in_place_tells line b v _ s)

alloc_words_tells : (c : Setting) (line : ℕ) (b : Name) (o : Option ℕ) (s : State) → Tells s (alloc_words c line b o s)
alloc_words_tells c line b None s = faulting_tells _ line s
alloc_words_tells c line b (Some n) s =
    let w : ℕ = block_words n in
    let t : State = run_tree_before c w s in let u : State = with_action actions.allocates w t in
    tells_trans s t (alloc_words c line b (Some n) s) (tree_before_tells c w s)
    (tells_trans t u (alloc_words c line b (Some n) s) (acting_tells actions.allocates w t) (storing_tells u _ refl refl))

free_tells : (b : Name) (s : State) → Tells s (free_block b s)
free_tells b s =
    let w : ℕ = block_words (length (block_of s.store.blocks b)) in
    let t : State = with_action actions.releases w s in
    tells_trans s t (free_block b s) (acting_tells actions.releases w s) (storing_tells t _ refl refl)

branch_tells : (b : Bool) (f g : State → State) (s : State) → Tells s (f s) → Tells s (g s) → Tells s (branch f g b s)
branch_tells true f g s p q = p
branch_tells false f g s p q = q

branch_on_tells : (f g : State → State) (v : ℤ) (s : State) → Tells s (f s) → Tells s (g s) → Tells s (branch_on f g v s)
branch_on_tells f g v s p q = branch_tells (is_true v) f g s p q

split_in_place_tells : (line : ℕ) (b l r : Name) (body : State → State) (o : Option ℕ) (s : State) → ((t : State) → Tells t (body t))
    → Tells s (split_in_place line b l r body o s)
split_in_place_tells line b l r body None s k = faulting_tells _ line s
split_in_place_tells line b l r body (Some at) s k =
    let f : State → State = on_store (rejoin_block b l r) in
    let t : State = on_store (cut_block b l r at) s in
    tells_trans s t (split_in_place line b l r body (Some at) s) (storing_tells s t refl refl)
    (tells_trans t (body t) (unless_faulted f (body t)) (k t) (unless_faulted_tells f (body t) (storing_tells (body t) _ refl refl)))

split_tells : (line : ℕ) (b l r : Name) (body : State → State) (v : ℤ) (s : State) → ((t : State) → Tells t (body t))
    → Tells s (split_block line b l r body v s)
split_tells line b l r body v s k = split_in_place_tells line b l r body (cut_of (block_of s.store.blocks b) v) s k

-- ---- calls

end_call_tells : (callers : List Store) (params : List Param) (args : List Arg) (t : Target) (a : Answer) (s : State) → Tells s (end_call callers params args t a s)
end_call_tells [] params args t a s = tells_same s
end_call_tells (caller ∷ callers) params args t a s = storing_tells s _ refl refl

returned_tells : (params : List Param) (args : List Arg) (t : Target) (a : Answer) (s : State) → Tells s (returned params args t a s)
unfolding returned
returned_tells params args t a s = end_call_tells s.callers params args t a s

return_tells : (line : ℕ) (r : RetValue) (next : Answer → State → State) (s : State) → ((a : Answer) (u : State) → Tells u (next a u)) → Tells s (with_return line r next s)
return_tells line (gives e) next s k = number_tells line (value s.store e) (as_number next) s (λ v. k (Calls.number v) s)
return_tells line (hands b) next s k =
    let u : State = record s { store = drop_block b s.store } in
    tells_trans s u (with_return line (hands b) next s) (storing_tells s u refl refl) (k _ u)

answer_tells : (r : Option Ret) (next : Answer → State → State) (s : State) → ((a : Answer) (u : State) → Tells u (next a u)) → Tells s (with_answer r next s)
unfolding with_answer
answer_tells None next s k = k _ s
answer_tells (Some r) next s k = return_tells r.line r.value next s k

-- the end of a call, unless a fault ended its body
pub call_end_told : (g : Func) (args : List Arg) (t : Target) (s : State) → Tells s (unless_faulted (with_answer g.ret (returned g.params args t)) s)
call_end_told g args t s =
    unless_faulted_tells (with_answer g.ret (returned g.params args t)) s (answer_tells g.ret (returned g.params args t) s (λ a u. returned_tells g.params args t a u))

unfoldable pub TellsAll : (Body → State → State) → Type 0
TellsAll more = (b : Body) (s : State) → Tells s (more b s)

run_callee_tells : (more : Body → State → State) → TellsAll more → (t : Target) (args : List Arg) (g : Func) (h : Passing) (s : State) → Tells s (run_callee more t args g h s)
unfolding TellsAll
run_callee_tells more k t args g h s =
    let u : State = entered h s in let v : State = more g.body u in
    let f : State → State = with_answer g.ret (returned g.params args t) in
    tells_trans s u (run_callee more t args g h s) (storing_tells s u refl refl)
    (tells_trans u v (unless_faulted f v) (k g.body u) (call_end_told g args t v))

open_call_tells : (c : Setting) (more : Body → State → State) → TellsAll more → (line : ℕ) (t : Target) (args : List Arg) (g : Func) (h : Passing) (s : State)
    → Tells s (open_call c more line t args g h s)
open_call_tells c more k line t args g h s =
    depth_tells s.calls c.most_calls line (with_turn line (run_callee more t args g h)) s
    (turn_tells line (run_callee more t args g h) s (λ left.
    tells_trans s (record s { turns = left }) (run_callee more t args g h (record s { turns = left })) (storing_tells s (record s { turns = left }) refl refl)
    (run_callee_tells more k t args g h (record s { turns = left }))))

call_with_tells : (c : Setting) (more : Body → State → State) → TellsAll more → (line : ℕ) (t : Target) (args : List Arg) (g : Func) (r : Result Passing FaultKind) (s : State)
    → Tells s (call_with c more line t args g r s)
call_with_tells c more k line t args g (Ok h) s = open_call_tells c more k line t args g h s
call_with_tells c more k line t args g (Err kind) s = faulting_tells kind line s

call_tells : (c : Setting) (more : Body → State → State) → TellsAll more → (line : ℕ) (t : Target) (args : List Arg) (o : Option Func) (s : State)
    → Tells s (call_function c more line t args o s)
call_tells c more k line t args None s = tells_same s
call_tells c more k line t args (Some g) s = call_with_tells c more k line t args g (all_passed s.store g.params args) s

-- a round of a loop
round_tells : (line : ℕ) (body again : State → State) (v : ℤ) (s : State) → ((t : State) → Tells t (body t)) → ((t : State) → Tells t (again t))
    → Tells s (branch_on (with_turn line (one_round body again)) unchanged v s)
round_tells line body again v s b a =
    branch_on_tells (with_turn line (one_round body again)) unchanged v s
    (turn_tells line (one_round body again) s (λ left.
    let u : State = record s { turns = left } in
    tells_trans s u (one_round body again u) (storing_tells s u refl refl)
    (tells_trans u (body u) (one_round body again u) (b u) (unless_faulted_tells again (body u) (a (body u))))))
    (tells_same s)

mutual
  unfolding exec exec_all TellsAll

  exec_tells : (c : Setting) (more : Body → State → State) → TellsAll more → (line : ℕ) (stmt : Stmt) (s : State) → Tells s (exec c more line stmt s)
  exec_tells c more k line (let_stmt x e) s = number_tells line (value s.store e) (Run.set_integer x) s (λ v. storing_tells s _ refl refl)
  exec_tells c more k line (assign_stmt x e) s = number_tells line (value s.store e) (Run.set_integer x) s (λ v. storing_tells s _ refl refl)
  exec_tells c more k line (put_stmt b i e) s = number_tells line (value s.store i) (put_value line b e) s (λ v. put_value_tells line b e v s)
  exec_tells c more k line (alloc_stmt b e) s = number_tells line (value s.store e) (alloc_block c line b) s (λ v. alloc_words_tells c line b (size_of v) s)
  exec_tells c more k line (free_stmt b) s = free_tells b s
  exec_tells c more k line (if_stmt e a b) s =
      number_tells line (value s.store e) (branch_on (exec_all c more a) (exec_all c more b)) s
      (λ v. branch_on_tells (exec_all c more a) (exec_all c more b) v s (exec_all_tells c more k a s) (exec_all_tells c more k b s))
  exec_tells c more k line (while_stmt e a) s =
      number_tells line (value s.store e) (branch_on (with_turn line (one_round (exec_all c more a) (more (step line (while_stmt e a) done)))) unchanged) s
      (λ v. round_tells line (exec_all c more a) (more (step line (while_stmt e a) done)) v s (exec_all_tells c more k a) (k (step line (while_stmt e a) done)))
  exec_tells c more k line (call_stmt t f args) s = call_tells c more k line t args (function_of c.program f) s
  exec_tells c more k line (print_stmt e) s = number_tells line (value s.store e) print_number s (λ v. printing_tells v s)
  exec_tells c more k line (par_stmt a b) s =
      depth_tells (length s.label) c.most_forks line (fork_join c (names_in a) (assigns_in a) (exec_all c more a) (exec_all c more b)) s
      (forking_tells c (names_in a) (assigns_in a) (exec_all c more a) (exec_all c more b) s
      (exec_all_tells c more k a (child_of c (names_in a) s))
      (λ items. exec_all_tells c more k b (parent_of (names_in a) items s)))
  exec_tells c more k line (split_stmt b e l r a) s =
      number_tells line (value s.store e) (split_block line b l r (exec_all c more a)) s
      (λ v. split_tells line b l r (exec_all c more a) v s (exec_all_tells c more k a))

  exec_all_tells : (c : Setting) (more : Body → State → State) → TellsAll more → (b : Body) (s : State) → Tells s (exec_all c more b s)
  exec_all_tells c more k done s = tells_same s
  exec_all_tells c more k (step line stmt rest) s =
      let f : State → State = begin_statement line (exec c more line stmt) in
      let t : State = unless_faulted f s in
      let u : State = with_item (began line) s in
      tells_trans s t (exec_all c more rest t)
      (unless_faulted_tells f s (tells_trans s u (f s) (beginning_tells line s) (exec_tells c more k line stmt u)))
      (exec_all_tells c more k rest t)

within_tells : (c : Setting) (n : ℕ) → TellsAll (within c n)
unfolding within TellsAll
within_tells c zero = λ b s. tells_same s
within_tells c (suc n) = λ b s. exec_all_tells c (within c n) (within_tells c n) b s

run_tells : (c : Setting) → TellsAll (run c)
unfolding run TellsAll
run_tells c = λ b s. within_tells c (suc (Run.room c s)) b s

-- a call, and a statement
pub call_told : (c : Setting) (line : ℕ) (t : Target) (args : List Arg) (g : Func) (h : Passing) (s : State) → Tells s (open_call c (run c) line t args g h s)
call_told c line t args g h s = open_call_tells c (run c) (run_tells c) line t args g h s

pub statement_told : (c : Setting) (line : ℕ) (stmt : Stmt) (s : State) → Tells s (exec c (run c) line stmt s)
statement_told c line stmt s = exec_tells c (run c) (run_tells c) line stmt s

pub statements_told : (c : Setting) (b : Body) (s : State) → Tells s (exec_all c (run c) b s)
statements_told c b s = exec_all_tells c (run c) (run_tells c) b s
