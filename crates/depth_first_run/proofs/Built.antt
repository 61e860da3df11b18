-- The actions of a run are built by the rules of a depth-first list.
use Rattle.std.specs.Prelude.{◌≡◌, ℕ, zero, suc, nat_lt, nat_le, Bool, true, false, List, [], ◌∷◌, ◌++◌, length, ℤ, Result, Ok, Err, Option, Some, None, refl}
use Rattle.std.proofs.Common.{sym, ◌∙◌, ap, subst, append_assoc, append-nil}
use borrow.Author.Tests.{leb-true, leb-false}
use Rattle.depth_first_list.specs.Passed.FaultKind.{FaultKind}
use Rattle.depth_first_list.specs.Shapes.{Shape, leaf, forked}
use Rattle.depth_first_list.specs.Actions as actions
use Rattle.depth_first_list.specs.Actions.{Action, Deed, record_words}
use Rattle.depth_first_list.specs.Runs.{Point, start, action_at_point, after_action, after_fork, after_join, end_at, after_tree, tree_run, tree_for, IsPlain, Runs, rests, goes_on, acts, joins_the_newest, forks_a_child, allocates_behind_a_tree, IsDepthFirst}
use Rattle.par_tree.specs.Tree.{Name, Expr, Target, Arg, Param, Stmt, let_stmt, assign_stmt, put_stmt, alloc_stmt, free_stmt, if_stmt, while_stmt, call_stmt, print_stmt, par_stmt, split_stmt, Body, done, step, Func, Ret, RetValue, gives, hands}
use Rattle.par_ownership.specs.Ownership.{function_of, main_name}
use Rattle.depth_first_run.specs.Stores.{Store, block_of, block_words}
use Rattle.depth_first_run.specs.Values.{Outcome, value, is_true}
use Rattle.depth_first_run.specs.States
use Rattle.depth_first_run.specs.States.{Setting, State, Item, acted, with_item, with_action, with_fault, skip_if, unless_faulted, with_number, with_turns, with_turn, under_limit, with_depth, child_of, parent_of, ended, given_back, with_result, joined, own_part_then_join, fork_join, next_action}
use Rattle.depth_first_run.specs.Calls
use Rattle.depth_first_run.specs.Calls.{Passing, all_passed, entered, Answer, end_call, returned, with_answer, with_return, as_number}
use Rattle.depth_first_run.specs.Run
use Rattle.depth_first_run.specs.Run.{on_store, put_in_place, put_number, put_value, print_number, names_in, assigns_in, no_name, run_tree, run_tree_unless, run_tree_before, size_of, alloc_words, alloc_block, free_block, branch, branch_on, unchanged, one_round, cut_of, split_in_place, split_block, run_callee, call_with, call_function, begin_statement, exec, exec_all, within, run, main_run, ignore_answer, root_start, whole, actions_of}

-- where a thread is, over the children that are open
abbrev point_of : List ℕ → State → Point
point_of o s = record { done = s.done; forks_done = s.forks; open_children = o }

actions_append : (xs ys : List Item) → actions_of (xs ++ ys) ≡ actions_of xs ++ actions_of ys
actions_append [] ys = refl
actions_append (States.began line ∷ xs) ys = actions_append xs ys
actions_append (States.acted a ∷ xs) ys = ap (λ l. a ∷ l) (actions_append xs ys)
actions_append (States.printed v ∷ xs) ys = actions_append xs ys
actions_append (States.failed fault ∷ xs) ys = actions_append xs ys

-- from the first state to the second the thread ran by the rules, and these items are new
record Built (c : Setting) (s t : State) : Type 0 where
  label : t.label ≡ s.label
  new : List Item
  grown : t.items ≡ s.items ++ new
  runs : (o : List ℕ) → Runs c.quota s.label (point_of o s) (actions_of new) (point_of o t)

-- what is no action
built_quiet : (c : Setting) (s t : State) → t.label ≡ s.label → t.done ≡ s.done → t.forks ≡ s.forks → t.items ≡ s.items → Built c s t
built_quiet c s t l d f i = record {
  label = l;
  new = [];
  grown = i ∙ sym (append-nil s.items);
  runs = λ o. let P : ℕ → Type 0 = λ n. Runs c.quota s.label (point_of o s) [] (record { done = n; forks_done = t.forks; open_children = o }) in
      subst P (sym d) (let Q : ℕ → Type 0 = λ n. Runs c.quota s.label (point_of o s) [] (record { done = s.done; forks_done = n; open_children = o }) in
      subst Q (sym f) (rests s.label (point_of o s)));
}

built_same : (c : Setting) (s : State) → Built c s s
built_same c s = built_quiet c s s refl refl refl refl

built_trans : (c : Setting) (s t u : State) → Built c s t → Built c t u → Built c s u
built_trans c s t u p q = record {
  label = q.label ∙ p.label;
  new = p.new ++ q.new;
  grown = q.grown ∙ ap (λ is. is ++ q.new) p.grown ∙ append_assoc s.items p.new q.new;
  runs = λ o.
      let L : List ℕ → Type 0 = λ l. Runs c.quota l (point_of o t) (actions_of q.new) (point_of o u) in
      let A : List Action → Type 0 = λ l. Runs c.quota s.label (point_of o s) l (point_of o u) in
      subst A (sym (actions_append p.new q.new))
      (goes_on s.label (point_of o s) (point_of o t) (point_of o u) (actions_of p.new) (actions_of q.new) (p.runs o) (subst L p.label (q.runs o)));
}

built_acting : (c : Setting) (deed : Deed) (words : ℕ) (s : State) → IsPlain c.quota deed words → Built c s (with_action deed words s)
unfolding with_action
built_acting c deed words s plain = record {
  label = refl;
  new = next_action deed words s ∷ [];
  grown = refl;
  runs = λ o. acts s.label (point_of o s) deed words plain;
}

built_fault : (c : Setting) (kind : FaultKind) (line : ℕ) (s : State) → Built c s (with_fault kind line s)
unfolding with_fault with_action
built_fault c kind line s =
    let words : ℕ = States.holdings s in
    let mark : Item = States.failed (record { kind = kind; line = line }) in
    record {
      label = refl;
      new = next_action actions.faults words s ∷ mark ∷ [];
      grown = append_assoc s.items (next_action actions.faults words s ∷ []) (mark ∷ []);
      runs = λ o. acts s.label (point_of o s) actions.faults words tt;
    }

built_printed : (c : Setting) (v : ℤ) (s : State) → Built c s (with_item (States.printed v) s)
built_printed c v s = record { label = refl; new = States.printed v ∷ []; grown = refl; runs = λ o. rests s.label (point_of o s) }

built_began : (c : Setting) (line : ℕ) (s : State) → Built c s (with_item (States.began line) s)
built_began c line s = record { label = refl; new = States.began line ∷ []; grown = refl; runs = λ o. rests s.label (point_of o s) }

built_storing : (c : Setting) (st : Store) (s : State) → Built c s (record s { store = st })
built_storing c st s = built_quiet c s (record s { store = st }) refl refl refl refl

-- ---- the combinators

built_choosing : (c : Setting) (b : Bool) (f : State → State) (s : State) → (b ≡ false → Built c s (f s)) → Built c s (skip_if b f s)
built_choosing c true f s k = built_same c s
built_choosing c false f s k = k refl

built_unless : (c : Setting) (f : State → State) (s : State) → (s.faulted ≡ false → Built c s (f s)) → Built c s (unless_faulted f s)
unfolding unless_faulted
built_unless c f s k = built_choosing c s.faulted f s k

built_settled : (c : Setting) (line : ℕ) (o : Outcome) (f : ℤ → State → State) (s : State) → ((v : ℤ) → Built c s (f v s)) → Built c s (with_number line o f s)
unfolding with_number
built_settled c line (Ok v) f s k = k v
built_settled c line (Err kind) f s k = built_fault c kind line s

built_turning : (c : Setting) (n line : ℕ) (f : State → State) (s : State) → ((left : ℕ) → Built c (record s { turns = left }) (f (record s { turns = left })))
    → Built c s (with_turns n line f s)
built_turning c zero line f s k = built_fault c _ line s
built_turning c (suc left) line f s k =
    let t : State = record s { turns = left } in
    built_trans c s t (f t) (built_quiet c s t refl refl refl refl) (k left)

built_with_turn : (c : Setting) (line : ℕ) (f : State → State) (s : State) → ((left : ℕ) → Built c (record s { turns = left }) (f (record s { turns = left })))
    → Built c s (with_turn line f s)
unfolding with_turn
built_with_turn c line f s k = built_turning c s.turns line f s k

built_limiting : (c : Setting) (b : Bool) (line : ℕ) (f : State → State) (s : State) → Built c s (f s) → Built c s (under_limit b line f s)
built_limiting c true line f s k = k
built_limiting c false line f s k = built_fault c _ line s

built_with_depth : (c : Setting) (depth most line : ℕ) (f : State → State) (s : State) → Built c s (f s) → Built c s (with_depth depth most line f s)
unfolding with_depth
built_with_depth c depth most line f s k = built_limiting c (nat_lt depth most) line f s k

built_branching : (c : Setting) (b : Bool) (f g : State → State) (s : State) → Built c s (f s) → Built c s (g s) → Built c s (branch f g b s)
built_branching c true f g s p q = p
built_branching c false f g s p q = q

-- ---- a Fork, the child, the thread's own part, and the Join

-- a Join leaves its action, whatever it takes in
joined_label : (p q : Bool) (assigned : Name → Bool) (d t : State) → State.label (with_result p q assigned d t) ≡ t.label
joined_label true q assigned d t = refl
joined_label false true assigned d t = refl
joined_label false false assigned d t = refl

joined_done : (p q : Bool) (assigned : Name → Bool) (d t : State) → State.done (with_result p q assigned d t) ≡ t.done
joined_done true q assigned d t = refl
joined_done false true assigned d t = refl
joined_done false false assigned d t = refl

joined_forks : (p q : Bool) (assigned : Name → Bool) (d t : State) → State.forks (with_result p q assigned d t) ≡ t.forks
joined_forks true q assigned d t = refl
joined_forks false true assigned d t = refl
joined_forks false false assigned d t = refl

joined_items : (p q : Bool) (assigned : Name → Bool) (d t : State) → State.items (with_result p q assigned d t) ≡ t.items
joined_items true q assigned d t = refl
joined_items false true assigned d t = refl
joined_items false false assigned d t = refl

-- two states at the same point of the same thread
point_same : (o : List ℕ) (s t : State) → t.done ≡ s.done → t.forks ≡ s.forks → point_of o t ≡ point_of o s
point_same o s t d f =
    ap (λ n. let p : Point = record { done = n; forks_done = t.forks; open_children = o } in p) d
    ∙ ap (λ n. let p : Point = record { done = s.done; forks_done = n; open_children = o } in p) f

built_forking : (c : Setting) (named assigned : Name → Bool) (work own : State → State) (s : State)
    → Built c (child_of c named s) (work (child_of c named s))
    → ((items : List Item) → Built c (parent_of named items s) (own (parent_of named items s)))
    → Built c s (fork_join c named assigned work own s)
unfolding fork_join own_part_then_join joined ended with_action
built_forking c named assigned work own s w built_own =
    let kid : ℕ = suc s.forks in
    let k : State = child_of c named s in
    let e : State = work k in
    let d : State = ended record_words e in
    let p : State = parent_of named d.items s in
    let q : State = own p in
    let b : Built c p q = built_own d.items in
    let words : ℕ = given_back q.faulted d.faulted d q in
    let t : State = with_action (actions.joins kid) words q in
    let r : State = with_result q.faulted d.faulted assigned d t in
    let fork : Item = next_action (actions.forks kid) record_words s in
    let last : Item = next_action actions.ends record_words e in
    let join : Item = next_action (actions.joins kid) words q in
    let back : List Item = b.new ++ join ∷ [] in
    let all : List Item = fork ∷ (w.new ++ last ∷ back) in
    let q_items : q.items ≡ s.items ++ (fork ∷ (w.new ++ last ∷ b.new)) =
    b.grown ∙ ap (λ is. (is ++ last ∷ []) ++ b.new) w.grown
    ∙ append_assoc ((s.items ++ fork ∷ []) ++ w.new) (last ∷ []) b.new
    ∙ append_assoc (s.items ++ fork ∷ []) w.new (last ∷ b.new)
    ∙ append_assoc s.items (fork ∷ []) (w.new ++ last ∷ b.new) in
    let r_items : r.items ≡ s.items ++ all =
    joined_items q.faulted d.faulted assigned d t ∙ ap (λ is. is ++ join ∷ []) q_items
    ∙ append_assoc s.items (fork ∷ (w.new ++ last ∷ b.new)) (join ∷ [])
    ∙ ap (λ is. s.items ++ (fork ∷ is)) (append_assoc w.new (last ∷ b.new) (join ∷ [])) in
    record {
      label = joined_label q.faulted d.faulted assigned d t ∙ b.label;
      new = all;
      grown = r_items;
      runs = λ o.
          let here : Point = point_of o s in
          let inside : Point = point_of (kid ∷ o) q in
          let end : Action = record { label = e.label; index = e.done; deed = actions.ends; words = record_words } in
          let ended_is : end ≡ end_at k.label (point_of [] e) record_words =
          ap (λ l. let a : Action = record { label = l; index = e.done; deed = actions.ends; words = record_words } in a) w.label in
          let child : Runs c.quota s.label here (action_at_point s.label here (actions.forks kid) record_words ∷ (actions_of w.new ++ end_at k.label (point_of [] e) record_words ∷ [])) (after_fork here) =
          forks_a_child s.label here (point_of [] e) (actions_of w.new) (w.runs []) refl in
          let joining_runs : Runs c.quota q.label inside (action_at_point q.label inside (actions.joins kid) words ∷ []) (after_join inside o) =
          joins_the_newest q.label inside kid o words refl in
          let L : List ℕ → Type 0 = λ l. Runs c.quota l inside (action_at_point q.label inside (actions.joins kid) words ∷ []) (after_join inside o) in
          let own_runs = goes_on s.label (after_fork here) inside (after_join inside o) (actions_of b.new) (action_at_point q.label inside (actions.joins kid) words ∷ [])
          (b.runs (kid ∷ o)) (subst L b.label joining_runs) in
          let total = goes_on s.label here (after_fork here) (after_join inside o)
          (action_at_point s.label here (actions.forks kid) record_words ∷ (actions_of w.new ++ end_at k.label (point_of [] e) record_words ∷ []))
          (actions_of b.new ++ action_at_point q.label inside (actions.joins kid) words ∷ []) child own_runs in
          let A : List Action → Type 0 = λ l. Runs c.quota s.label here l (after_join inside o) in
          let B : Point → Type 0 = λ z. Runs c.quota s.label here (actions_of all) z in
          let list : action_at_point s.label here (actions.forks kid) record_words ∷ (actions_of w.new ++ end_at k.label (point_of [] e) record_words ∷ [])
          ++ (actions_of b.new ++ action_at_point q.label inside (actions.joins kid) words ∷ []) ≡ actions_of all =
          ap (λ l. action_at_point s.label here (actions.forks kid) record_words ∷ l)
          (append_assoc (actions_of w.new) (end_at k.label (point_of [] e) record_words ∷ []) (actions_of b.new ++ action_at_point q.label inside (actions.joins kid) words ∷ [])
          ∙ ap (λ x. actions_of w.new ++ x ∷ (actions_of b.new ++ action_at_point q.label inside (actions.joins kid) words ∷ [])) (sym ended_is)
          ∙ ap (λ l. actions_of w.new ++ end ∷ l) (sym (actions_append b.new (join ∷ [])))
          ∙ sym (actions_append w.new (last ∷ back))) in
          subst B (sym (point_same o t r (joined_done q.faulted d.faulted assigned d t) (joined_forks q.faulted d.faulted assigned d t))) (subst A list total);
    }

-- ---- dummies

-- a tree of dummies: its items are just the actions of the tree, and no fault comes
record Treed (c : Setting) (shape : Shape) (s t : State) : Type 0 where
  label : t.label ≡ s.label
  sound : t.faulted ≡ false
  new : List Item
  grown : t.items ≡ s.items ++ new
  point : (o : List ℕ) → point_of o t ≡ after_tree (point_of o s) shape
  actions : (o : List ℕ) → actions_of new ≡ tree_run s.label (point_of o s) shape

-- the Join of two threads that no fault ended
sound_taking : (x y : Bool) (assigned : Name → Bool) (d t : State) → x ≡ false → y ≡ false → t.faulted ≡ false
    → State.faulted (with_result x y assigned d t) ≡ false
sound_taking x y assigned d t ex ey et =
    ap (λ v. State.faulted (with_result v y assigned d t)) ex ∙ ap (λ v. State.faulted (with_result false v assigned d t)) ey ∙ et

no_words : (x y : Bool) (d q : State) → x ≡ false → y ≡ false → given_back x y d q ≡ 0
no_words x y d q ex ey = ap (λ v. given_back v y d q) ex ∙ ap (λ v. given_back false v d q) ey

treed : (c : Setting) (shape : Shape) (s : State) → s.faulted ≡ false → Treed c shape s (run_tree c shape s)
unfolding run_tree fork_join own_part_then_join joined ended with_action
treed c leaf s sound = record {
  label = refl;
  sound = sound;
  new = next_action actions.dummy 0 s ∷ [];
  grown = refl;
  point = λ o. refl;
  actions = λ o. refl;
}
treed c (forked child own) s sound =
    let kid : ℕ = suc s.forks in
    let k : State = child_of c no_name s in
    let w : Treed c child k (run_tree c child k) = treed c child k refl in
    let e : State = run_tree c child k in
    let d : State = ended record_words e in
    let p : State = parent_of no_name d.items s in
    let b : Treed c own p (run_tree c own p) = treed c own p sound in
    let q : State = run_tree c own p in
    let words : ℕ = given_back q.faulted d.faulted d q in
    let t : State = with_action (actions.joins kid) words q in
    let r : State = with_result q.faulted d.faulted no_name d t in
    let fork : Item = next_action (actions.forks kid) record_words s in
    let last : Item = next_action actions.ends record_words e in
    let join : Item = next_action (actions.joins kid) words q in
    let back : List Item = b.new ++ join ∷ [] in
    let all : List Item = fork ∷ (w.new ++ last ∷ back) in
    let q_items : q.items ≡ s.items ++ (fork ∷ (w.new ++ last ∷ b.new)) =
    b.grown ∙ ap (λ is. (is ++ last ∷ []) ++ b.new) w.grown
    ∙ append_assoc ((s.items ++ fork ∷ []) ++ w.new) (last ∷ []) b.new
    ∙ append_assoc (s.items ++ fork ∷ []) w.new (last ∷ b.new)
    ∙ append_assoc s.items (fork ∷ []) (w.new ++ last ∷ b.new) in
    record {
      label = joined_label q.faulted d.faulted no_name d t ∙ b.label;
      sound = sound_taking q.faulted d.faulted no_name d t b.sound w.sound b.sound;
      new = all;
      grown = joined_items q.faulted d.faulted no_name d t ∙ ap (λ is. is ++ join ∷ []) q_items
          ∙ append_assoc s.items (fork ∷ (w.new ++ last ∷ b.new)) (join ∷ [])
          ∙ ap (λ is. s.items ++ (fork ∷ is)) (append_assoc w.new (last ∷ b.new) (join ∷ []));
      point = λ o. point_same o t r (joined_done q.faulted d.faulted no_name d t) (joined_forks q.faulted d.faulted no_name d t)
          ∙ ap (λ z. after_join z o) (b.point (kid ∷ o));
      actions = λ o.
          let here : Point = point_of o s in
          let join_is : (let a : Action = record { label = q.label; index = q.done; deed = actions.joins kid; words = words } in a)
          ≡ action_at_point s.label (after_tree (after_fork here) own) (actions.joins kid) 0 =
          ap (λ l. let a : Action = record { label = l; index = q.done; deed = actions.joins kid; words = words } in a) b.label
          ∙ ap (λ z. action_at_point s.label z (actions.joins kid) words) (b.point (kid ∷ o))
          ∙ ap (λ n. action_at_point s.label (after_tree (after_fork here) own) (actions.joins kid) n) (no_words q.faulted d.faulted d q b.sound w.sound) in
          let last_is : (let a : Action = record { label = e.label; index = e.done; deed = actions.ends; words = record_words } in a) ≡ end_at k.label (after_tree start child) record_words =
          ap (λ l. let a : Action = record { label = l; index = e.done; deed = actions.ends; words = record_words } in a) w.label
          ∙ ap (λ z. end_at k.label z record_words) (w.point []) in
          let front : Action = action_at_point s.label here (actions.forks kid) record_words in
          ap (λ l. front ∷ l) (actions_append w.new (last ∷ back))
          ∙ ap (λ l. front ∷ (l ++ (let a : Action = record { label = e.label; index = e.done; deed = actions.ends; words = record_words } in a) ∷ actions_of back)) (w.actions [])
          ∙ ap (λ a. front ∷ (tree_run k.label start child ++ a ∷ actions_of back)) last_is
          ∙ ap (λ l. front ∷ (tree_run k.label start child ++ end_at k.label (after_tree start child) record_words ∷ l)) (actions_append b.new (join ∷ []))
          ∙ ap (λ l. front ∷ (tree_run k.label start child ++ end_at k.label (after_tree start child) record_words ∷ (l ++ (let a : Action = record { label = q.label; index = q.done; deed = actions.joins kid; words = words } in a) ∷ []))) (b.actions (kid ∷ o))
          ∙ ap (λ a. front ∷ (tree_run k.label start child ++ end_at k.label (after_tree start child) record_words ∷ (tree_run s.label (after_fork here) own ++ a ∷ []))) join_is;
    }

-- an allocation with its tree
built_delayed : (c : Setting) (b : Bool) (words : ℕ) (s : State) → nat_le words c.quota ≡ b → s.faulted ≡ false
    → Built c s (with_action actions.allocates words (run_tree_unless b c words s))
unfolding with_action
built_delayed c true words s is sound = built_acting c actions.allocates words s (leb-true words c.quota is)
built_delayed c false words s is sound =
    let shape : Shape = tree_for c.quota words in
    let t : State = run_tree c shape s in
    let r : Treed c shape s t = treed c shape s sound in
    let alloc : Item = next_action actions.allocates words t in
    record {
      label = r.label;
      new = r.new ++ alloc ∷ [];
      grown = ap (λ is. is ++ alloc ∷ []) r.grown ∙ append_assoc s.items r.new (alloc ∷ []);
      runs = λ o.
          let here : Point = point_of o s in
          let behind : Point = after_tree here shape in
          let total = allocates_behind_a_tree s.label here words (leb-false words c.quota is) in
          let A : List Action → Type 0 = λ l. Runs c.quota s.label here l (after_action behind) in
          let B : Point → Type 0 = λ z. Runs c.quota s.label here (actions_of (r.new ++ alloc ∷ [])) (after_action z) in
          let list : tree_run s.label here shape ++ action_at_point s.label behind actions.allocates words ∷ [] ≡ actions_of (r.new ++ alloc ∷ []) =
          ap (λ l. l ++ action_at_point s.label behind actions.allocates words ∷ []) (sym (r.actions o))
          ∙ ap (λ z. actions_of r.new ++ action_at_point s.label z actions.allocates words ∷ []) (sym (r.point o))
          ∙ ap (λ l. actions_of r.new ++ action_at_point l (point_of o t) actions.allocates words ∷ []) (sym r.label)
          ∙ sym (actions_append r.new (alloc ∷ [])) in
          subst B (sym (r.point o)) (subst A list total);
    }

built_allocating : (c : Setting) (line : ℕ) (b : Name) (o : Option ℕ) (s : State) → s.faulted ≡ false → Built c s (alloc_words c line b o s)
unfolding run_tree_before
built_allocating c line b None s sound = built_fault c _ line s
built_allocating c line b (Some n) s sound =
    let w : ℕ = block_words n in
    let t : State = with_action actions.allocates w (run_tree_unless (nat_le w c.quota) c w s) in
    built_trans c s t (alloc_words c line b (Some n) s) (built_delayed c (nat_le w c.quota) w s refl sound) (built_storing c _ t)

-- ---- statements

BuiltAll : Setting → (Body → State → State) → Type 0
BuiltAll c more = (b : Body) (s : State) → Built c s (more b s)

built_putting_at : (c : Setting) (line : ℕ) (b : Name) (v : ℤ) (o : Option ℕ) (s : State) → Built c s (put_in_place line b v o s)
built_putting_at c line b v None s = built_fault c _ line s
built_putting_at c line b v (Some i) s = built_storing c _ s

built_putting_value : (c : Setting) (line : ℕ) (b : Name) (e : Expr) (i : ℤ) (s : State) → Built c s (put_value line b e i s)
built_putting_value c line b e i s = built_settled c line (value s.store e) (put_number line b i) s (λ v. built_putting_at c line b v _ s)

built_freeing : (c : Setting) (b : Name) (s : State) → Built c s (free_block b s)
built_freeing c b s =
    let w : ℕ = block_words (length (block_of s.store.blocks b)) in
    let t : State = with_action actions.releases w s in
    built_trans c s t (free_block b s) (built_acting c actions.releases w s tt) (built_storing c _ t)

built_splitting_at : (c : Setting) (line : ℕ) (b l r : Name) (body : State → State) (o : Option ℕ) (s : State)
    → ((t : State) → Built c t (body t)) → Built c s (split_in_place line b l r body o s)
built_splitting_at c line b l r body None s k = built_fault c _ line s
built_splitting_at c line b l r body (Some at) s k =
    let f : State → State = on_store (Run.rejoin_block b l r) in
    let t : State = on_store (Run.cut_block b l r at) s in
    built_trans c s t (split_in_place line b l r body (Some at) s) (built_storing c _ s)
    (built_trans c t (body t) (unless_faulted f (body t)) (k t) (built_unless c f (body t) (λ sound. built_storing c _ (body t))))

built_closing : (c : Setting) (callers : List Store) (params : List Param) (args : List Arg) (t : Target) (a : Answer) (s : State) → Built c s (end_call callers params args t a s)
built_closing c [] params args t a s = built_same c s
built_closing c (caller ∷ callers) params args t a s = built_quiet c s (end_call (caller ∷ callers) params args t a s) refl refl refl refl

built_returned : (c : Setting) (params : List Param) (args : List Arg) (t : Target) (a : Answer) (s : State) → Built c s (returned params args t a s)
unfolding returned
built_returned c params args t a s = built_closing c s.callers params args t a s

built_answering_value : (c : Setting) (line : ℕ) (r : RetValue) (next : Answer → State → State) (s : State)
    → ((a : Answer) (st : Store) → Built c (record s { store = st }) (next a (record s { store = st }))) → Built c s (with_return line r next s)
built_answering_value c line (gives e) next s k = built_settled c line (value s.store e) (as_number next) s (λ v. k (Calls.number v) s.store)
built_answering_value c line (hands b) next s k =
    let st : Store = Rattle.depth_first_run.specs.Stores.drop_block b s.store in let t : State = record s { store = st } in
    built_trans c s t (with_return line (hands b) next s) (built_storing c st s) (k _ st)

built_answering : (c : Setting) (r : Option Ret) (next : Answer → State → State) (s : State)
    → ((a : Answer) (st : Store) → Built c (record s { store = st }) (next a (record s { store = st }))) → Built c s (with_answer r next s)
unfolding with_answer
built_answering c None next s k = k _ s.store
built_answering c (Some r) next s k = built_answering_value c r.line r.value next s k

built_running_body : (c : Setting) (more : Body → State → State) → BuiltAll c more → (t : Target) (args : List Arg) (g : Func) (h : Passing) (s : State)
    → Built c s (run_callee more t args g h s)
unfolding BuiltAll
built_running_body c more k t args g h s =
    let u : State = entered h s in let v : State = more g.body u in
    let f : State → State = with_answer g.ret (returned g.params args t) in
    built_trans c s u (run_callee more t args g h s) (built_quiet c s u refl refl refl refl)
    (built_trans c u v (unless_faulted f v) (k g.body u)
    (built_unless c f v (λ sound. built_answering c g.ret (returned g.params args t) v (λ a st. built_returned c g.params args t a (record v { store = st })))))

built_calling_with : (c : Setting) (more : Body → State → State) → BuiltAll c more → (line : ℕ) (t : Target) (args : List Arg) (g : Func)
    (r : Result Passing FaultKind) (s : State) → Built c s (call_with c more line t args g r s)
built_calling_with c more k line t args g (Ok h) s =
    built_with_depth c s.calls c.most_calls line (with_turn line (run_callee more t args g h)) s
    (built_with_turn c line (run_callee more t args g h) s (λ left. built_running_body c more k t args g h (record s { turns = left })))
built_calling_with c more k line t args g (Err kind) s = built_fault c kind line s

built_calling : (c : Setting) (more : Body → State → State) → BuiltAll c more → (line : ℕ) (t : Target) (args : List Arg)
    (o : Option Func) (s : State) → Built c s (call_function c more line t args o s)
built_calling c more k line t args None s = built_same c s
built_calling c more k line t args (Some g) s = built_calling_with c more k line t args g (all_passed s.store g.params args) s

built_repeat : (c : Setting) (line : ℕ) (body again : State → State) (v : ℤ) (s : State) → ((t : State) → Built c t (body t)) → ((t : State) → Built c t (again t))
    → Built c s (branch_on (with_turn line (one_round body again)) unchanged v s)
built_repeat c line body again v s b a =
    built_branching c (is_true v) (with_turn line (one_round body again)) unchanged s
    (built_with_turn c line (one_round body again) s (λ left.
    let t : State = record s { turns = left } in
    built_trans c t (body t) (one_round body again t) (b t) (built_unless c again (body t) (λ sound. a (body t)))))
    (built_same c s)

mutual
  unfolding exec exec_all BuiltAll

  built_exec : (c : Setting) (more : Body → State → State) → BuiltAll c more → (line : ℕ) (stmt : Stmt) (s : State) → s.faulted ≡ false → Built c s (exec c more line stmt s)
  built_exec c more k line (let_stmt x e) s sound = built_settled c line (value s.store e) (Run.set_integer x) s (λ v. built_storing c _ s)
  built_exec c more k line (assign_stmt x e) s sound = built_settled c line (value s.store e) (Run.set_integer x) s (λ v. built_storing c _ s)
  built_exec c more k line (put_stmt b i e) s sound = built_settled c line (value s.store i) (put_value line b e) s (λ v. built_putting_value c line b e v s)
  built_exec c more k line (alloc_stmt b e) s sound =
      built_settled c line (value s.store e) (alloc_block c line b) s (λ v. built_allocating c line b (size_of v) s sound)
  built_exec c more k line (free_stmt b) s sound = built_freeing c b s
  built_exec c more k line (if_stmt e a b) s sound =
      built_settled c line (value s.store e) (branch_on (exec_all c more a) (exec_all c more b)) s
      (λ v. built_branching c (is_true v) (exec_all c more a) (exec_all c more b) s (built_exec_all c more k a s) (built_exec_all c more k b s))
  built_exec c more k line (while_stmt e a) s sound =
      built_settled c line (value s.store e) (branch_on (with_turn line (one_round (exec_all c more a) (more (step line (while_stmt e a) done)))) unchanged) s
      (λ v. built_repeat c line (exec_all c more a) (more (step line (while_stmt e a) done)) v s (built_exec_all c more k a) (k (step line (while_stmt e a) done)))
  built_exec c more k line (call_stmt t f args) s sound = built_calling c more k line t args (function_of c.program f) s
  built_exec c more k line (print_stmt e) s sound = built_settled c line (value s.store e) print_number s (λ v. built_printed c v s)
  built_exec c more k line (par_stmt a b) s sound =
      built_with_depth c (length s.label) c.most_forks line (fork_join c (names_in a) (assigns_in a) (exec_all c more a) (exec_all c more b)) s
      (built_forking c (names_in a) (assigns_in a) (exec_all c more a) (exec_all c more b) s
      (built_exec_all c more k a (child_of c (names_in a) s))
      (λ items. built_exec_all c more k b (parent_of (names_in a) items s)))
  built_exec c more k line (split_stmt b e l r a) s sound =
      built_settled c line (value s.store e) (split_block line b l r (exec_all c more a)) s
      (λ v. built_splitting_at c line b l r (exec_all c more a) (cut_of (block_of s.store.blocks b) v) s (built_exec_all c more k a))

  built_exec_all : (c : Setting) (more : Body → State → State) → BuiltAll c more → (b : Body) (s : State) → Built c s (exec_all c more b s)
  built_exec_all c more k done s = built_same c s
  built_exec_all c more k (step line stmt rest) s =
      let f : State → State = begin_statement line (exec c more line stmt) in
      let t : State = unless_faulted f s in
      let u : State = with_item (States.began line) s in
      built_trans c s t (exec_all c more rest t)
      (built_unless c f s (λ sound. built_trans c s u (f s) (built_began c line s) (built_exec c more k line stmt u sound)))
      (built_exec_all c more k rest t)

built_within : (c : Setting) (n : ℕ) → BuiltAll c (within c n)
unfolding within BuiltAll
built_within c zero = λ b s. built_same c s
built_within c (suc n) = λ b s. built_exec_all c (within c n) (built_within c n) b s

built_run : (c : Setting) → BuiltAll c (run c)
unfolding run BuiltAll
built_run c = λ b s. built_within c (suc (Run.room c s)) b s

built_main : (c : Setting) (o : Option Func) → Built c (root_start c) (main_run c o (root_start c))
unfolding BuiltAll
built_main c None = built_same c (root_start c)
built_main c (Some g) =
    let t : State = run c g.body (root_start c) in
    built_trans c (root_start c) t (main_run c (Some g) (root_start c)) (built_run c g.body (root_start c))
    (built_unless c (with_answer g.ret ignore_answer) t (λ sound. built_answering c g.ret ignore_answer t (λ a st. built_same c (record t { store = st }))))

-- the actions of the whole run are a depth-first list
pub whole_is_depth_first : (c : Setting) → IsDepthFirst c.quota (actions_of (State.items (whole c)))
unfolding whole ended with_action
whole_is_depth_first c =
    let e : State = main_run c (function_of c.program main_name) (root_start c) in
    let b : Built c (root_start c) e = built_main c (function_of c.program main_name) in
    let last : Item = next_action actions.ends 0 e in
    record {
      last = point_of [] e;
      below = actions_of b.new;
      runs = b.runs [];
      all_joined = refl;
      is = ap (λ is. actions_of (is ++ last ∷ [])) b.grown ∙ actions_append b.new (last ∷ [])
          ∙ ap (λ l. actions_of b.new ++ (let a : Action = record { label = l; index = e.done; deed = actions.ends; words = 0 } in a) ∷ []) b.label;
    }
