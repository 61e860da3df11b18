-- What a thread gives back it holds: so live words never fall below 0.
use Rattle.std.specs.Prelude.{◌≡◌, ℕ, zero, suc, ◌+◌, ◌*◌, ◌-◌, ◌/◌, ◌%◌, ◌≤◌, ◌&&◌, if◌then◌else◌, nat_lt, nat_le, nat_eq, Bool, true, false, List, [], ◌∷◌, ◌++◌, length, take, drop, slice_set, ℤ, pos, negsuc, neg_ℤ, ◌+ℤ◌, ◌≤ℤ◌, Result, Ok, Err, Option, Some, None, replicate, refl}
use Rattle.std.proofs.Common.{sym, ◌∙◌, ap, arith, subst, append_assoc, append-nil, length-append}
use Rattle.std.proofs.lemmas.List.{length-take, length-drop, length-set, length-replicate}
use Rattle.std.proofs.lemmas.Int.{ints}
use borrow.Author.Tests.{leb-true, eqb-true}
use Rattle.depth_first_list.specs.Passed.FaultKind.{FaultKind}
use Rattle.depth_first_list.specs.Shapes.{Shape, leaf, forked}
use Rattle.depth_first_list.specs.Actions as actions
use Rattle.depth_first_list.specs.Actions.{Action, Deed, weight, weight_of, live_words, record_words}
use Rattle.depth_first_list.specs.Runs.{tree_for}
use Rattle.par_tree.specs.Tree.{Name, Expr, Target, Arg, Param, Stmt, let_stmt, assign_stmt, put_stmt, alloc_stmt, free_stmt, if_stmt, while_stmt, call_stmt, print_stmt, par_stmt, split_stmt, Body, done, step, Func, Ret, RetValue, gives, hands}
use Rattle.par_ownership.specs.Ownership.{function_of, main_name}
use Rattle.depth_first_run.specs.Stores
use Rattle.depth_first_run.specs.Stores.{Store, block_of, block_words, held_words, stored_words, hold_block, drop_block}
use Rattle.depth_first_run.specs.Values.{Outcome, value, is_true}
use Rattle.depth_first_run.specs.States
use Rattle.depth_first_run.specs.States.{Setting, State, Item, with_item, with_action, with_fault, skip_if, unless_faulted, with_number, with_turns, with_turn, under_limit, with_depth, child_of, parent_of, ended, given_back, with_result, joined, own_part_then_join, fork_join, next_action, holdings}
use Rattle.depth_first_run.specs.Calls
use Rattle.depth_first_run.specs.Calls.{Passing, all_passed, entered, Answer, end_call, returned, with_answer, with_return, as_number, lent_back, answered}
use Rattle.depth_first_run.specs.Run
use Rattle.depth_first_run.specs.Run.{on_store, put_in_place, put_number, put_value, print_number, names_in, assigns_in, no_name, run_tree, run_tree_unless, run_tree_before, size_of, alloc_words, alloc_block, free_block, branch, branch_on, unchanged, one_round, cut_of, split_in_place, split_block, run_callee, call_with, call_function, begin_statement, exec, exec_all, within, run, main_run, ignore_answer, root_start, whole, actions_of}
use Rattle.depth_first_run.proofs.Words.{cut_words, joined_words, without_words, held_append, with_words, replaced_words, parted_words, both_words, passed_words, passes_same, PassesWords, lent_back_words, answer_words, answered_words}

-- ---- lists of actions that a budget of words covers

pub live_append : (xs ys : List Action) → live_words (xs ++ ys) ≡ live_words xs +ℤ live_words ys
live_append [] ys = omega (arith, ints)
live_append (a ∷ xs) ys = let r = live_append xs ys in by (weight a) (live_words xs) (live_words ys) (live_words (xs ++ ys)) r
  where
    by : (w x y z : ℤ) → z ≡ x +ℤ y → w +ℤ z ≡ (w +ℤ x) +ℤ y
    by w x y z e = omega (arith, ints)

pub actions_append : (xs ys : List Item) → actions_of (xs ++ ys) ≡ actions_of xs ++ actions_of ys
actions_append [] ys = refl
actions_append (States.began line ∷ xs) ys = actions_append xs ys
actions_append (States.acted a ∷ xs) ys = ap (λ l. a ∷ l) (actions_append xs ys)
actions_append (States.printed v ∷ xs) ys = actions_append xs ys
actions_append (States.failed fault ∷ xs) ys = actions_append xs ys

-- after each action there is still something left of z words
Covered : ℤ → List Action → Type 0
Covered z [] = Unit {0}
Covered z (a ∷ rest_of) = (pos 0 ≤ℤ (z +ℤ weight a)) × Covered (z +ℤ weight a) rest_of

covered_more : (rest_of : List Action) (z y : ℤ) → z ≤ℤ y → Covered z rest_of → Covered y rest_of
unfolding Covered
covered_more [] z y le c = tt
covered_more (a ∷ rest_of) z y le c = (first z y (weight a) le c.0, covered_more rest_of (z +ℤ weight a) (y +ℤ weight a) (more z y (weight a) le) c.1)
  where
    first : (z y w : ℤ) → z ≤ℤ y → pos 0 ≤ℤ (z +ℤ w) → pos 0 ≤ℤ (y +ℤ w)
    first z y w le h = omega (arith, ints)

    more : (z y w : ℤ) → z ≤ℤ y → (z +ℤ w) ≤ℤ (y +ℤ w)
    more z y w le = omega (arith, ints)

covered_append : (xs ys : List Action) (z : ℤ) → Covered z xs → Covered (z +ℤ live_words xs) ys → Covered z (xs ++ ys)
unfolding Covered
covered_append [] ys z p q = covered_more ys (z +ℤ pos 0) z (by z) q
  where
    by : (z : ℤ) → (z +ℤ pos 0) ≤ℤ z
    by z = omega (arith, ints)
covered_append (a ∷ xs) ys z p q =
    (p.0, covered_append xs ys (z +ℤ weight a) p.1 (covered_more ys (z +ℤ (weight a +ℤ live_words xs)) ((z +ℤ weight a) +ℤ live_words xs) (by z (weight a) (live_words xs)) q))
  where
    by : (z w l : ℤ) → (z +ℤ (w +ℤ l)) ≤ℤ ((z +ℤ w) +ℤ l)
    by z w l = omega (arith, ints)

covered_prefix : (rest_of : List Action) (z : ℤ) (n : ℕ) → pos 0 ≤ℤ z → Covered z rest_of → pos 0 ≤ℤ (z +ℤ live_words (take n rest_of))
unfolding Covered
covered_prefix [] z zero h c = omega (arith, ints)
covered_prefix [] z (suc n) h c = omega (arith, ints)
covered_prefix (a ∷ rest_of) z zero h c = omega (arith, ints)
covered_prefix (a ∷ rest_of) z (suc n) h c = by z (weight a) (live_words (take n rest_of)) (covered_prefix rest_of (z +ℤ weight a) n c.0 c.1)
  where
    by : (z w l : ℤ) → pos 0 ≤ℤ ((z +ℤ w) +ℤ l) → pos 0 ≤ℤ (z +ℤ (w +ℤ l))
    by z w l h = omega (arith, ints)

-- ---- from the first state to the second all that was given back was there, and no more is held than there should be

record Sound (s t : State) : Type 0 where
  new : List Item
  grown : t.items ≡ s.items ++ new
  covered : Covered (pos (holdings s)) (actions_of new)
  left : pos (holdings t) ≤ℤ (pos (holdings s) +ℤ live_words (actions_of new))

sound_quiet : (s t : State) → t.items ≡ s.items → holdings t ≤ holdings s → Sound s t
unfolding Covered
sound_quiet s t i le = record {
  new = [];
  grown = i ∙ sym (append-nil s.items);
  covered = tt;
  left = by (holdings t) (holdings s) le;
}
  where
    by : (n m : ℕ) → n ≤ m → pos n ≤ℤ (pos m +ℤ pos 0)
    by n m le = omega (arith, ints, le)

sound_same : (s : State) → Sound s s
sound_same s = sound_quiet s s refl (omega arith)

sound_trans : (s t u : State) → Sound s t → Sound t u → Sound s u
sound_trans s t u p q = record {
  new = p.new ++ q.new;
  grown = q.grown ∙ ap (λ is. is ++ q.new) p.grown ∙ append_assoc s.items p.new q.new;
  covered = let C : List Action → Type 0 = λ l. Covered (pos (holdings s)) l in
      subst C (sym (actions_append p.new q.new))
      (covered_append (actions_of p.new) (actions_of q.new) (pos (holdings s)) p.covered
      (covered_more (actions_of q.new) (pos (holdings t)) (pos (holdings s) +ℤ live_words (actions_of p.new)) p.left q.covered));
  left = by (pos (holdings u)) (pos (holdings t)) (pos (holdings s)) (live_words (actions_of p.new)) (live_words (actions_of q.new))
      (live_words (actions_of (p.new ++ q.new))) q.left p.left
      (ap live_words (actions_append p.new q.new) ∙ live_append (actions_of p.new) (actions_of q.new));
}
  where
    by : (u t s x y z : ℤ) → u ≤ℤ (t +ℤ y) → t ≤ℤ (s +ℤ x) → z ≡ x +ℤ y → u ≤ℤ (s +ℤ z)
    by u t s x y z a b e = omega (arith, ints)

-- one action, and what is held behind it
sound_act : (s t : State) (a : Action) (new : List Item) → t.items ≡ s.items ++ new → actions_of new ≡ a ∷ []
    → pos 0 ≤ℤ (pos (holdings s) +ℤ weight a) → pos (holdings t) ≤ℤ (pos (holdings s) +ℤ weight a) → Sound s t
unfolding Covered
sound_act s t a new i is h le = record {
  new = new;
  grown = i;
  covered = let C : List Action → Type 0 = λ l. Covered (pos (holdings s)) l in subst C (sym is) (h, tt);
  left = by (pos (holdings t)) (pos (holdings s)) (weight a) (live_words (actions_of new)) (ap live_words is) le;
}
  where
    by : (t s w l : ℤ) → l ≡ w +ℤ pos 0 → t ≤ℤ (s +ℤ w) → t ≤ℤ (s +ℤ l)
    by t s w l e le = omega (arith, ints)

-- an action that weighs nothing
sound_light : (s t : State) (item : Item) (a : Action) → t.items ≡ s.items ++ item ∷ [] → actions_of (item ∷ []) ≡ a ∷ [] → weight a ≡ pos 0 → holdings t ≤ holdings s → Sound s t
sound_light s t item a i is w le = sound_act s t a (item ∷ []) i is (first (holdings s) (weight a) w) (second (holdings t) (holdings s) (weight a) w le)
  where
    first : (n : ℕ) (z : ℤ) → z ≡ pos 0 → pos 0 ≤ℤ (pos n +ℤ z)
    first n z e = omega (arith, ints)

    second : (m n : ℕ) (z : ℤ) → z ≡ pos 0 → m ≤ n → pos m ≤ℤ (pos n +ℤ z)
    second m n z e le = omega (arith, ints, le)

-- an action that gives words back which the thread held
sound_giving : (s t : State) (words : ℕ) (a : Action) (new : List Item) → t.items ≡ s.items ++ new → actions_of new ≡ a ∷ [] → weight a ≡ neg_ℤ (pos words)
    → holdings t + words ≤ holdings s → Sound s t
sound_giving s t words a new i is w le = sound_act s t a new i is (first (holdings s) words (holdings t) (weight a) w le) (second (holdings t) (holdings s) words (weight a) w le)
  where
    first : (n k m : ℕ) (z : ℤ) → z ≡ neg_ℤ (pos k) → m + k ≤ n → pos 0 ≤ℤ (pos n +ℤ z)
    first n k m z e le = omega (arith, ints, le)

    second : (m n k : ℕ) (z : ℤ) → z ≡ neg_ℤ (pos k) → m + k ≤ n → pos m ≤ℤ (pos n +ℤ z)
    second m n k z e le = omega (arith, ints, le)

sound_fault : (kind : FaultKind) (line : ℕ) (s : State) → Sound s (with_fault kind line s)
unfolding with_fault with_action
sound_fault kind line s =
    let words : ℕ = holdings s in
    let mark : Item = States.failed (record { kind = kind; line = line }) in
    sound_giving s (with_fault kind line s) words (record { label = s.label; index = s.done; deed = actions.faults; words = words })
    (next_action actions.faults words s ∷ mark ∷ []) (append_assoc s.items (next_action actions.faults words s ∷ []) (mark ∷ [])) refl refl (omega arith)

sound_noting : (item : Item) (s : State) → actions_of (item ∷ []) ≡ [] → Sound s (with_item item s)
unfolding Covered
sound_noting item s none = record {
  new = item ∷ [];
  grown = refl;
  covered = let C : List Action → Type 0 = λ l. Covered (pos (holdings s)) l in subst C (sym none) tt;
  left = by (holdings s) (live_words (actions_of (item ∷ []))) (ap live_words none);
}
  where
    by : (n : ℕ) (l : ℤ) → l ≡ pos 0 → pos n ≤ℤ (pos n +ℤ l)
    by n l e = omega (arith, ints)

-- a store with no more words
sound_storing : (st : Store) (s : State) → held_words st.blocks ≤ held_words s.store.blocks → Sound s (record s { store = st })
sound_storing st s le = sound_quiet s (record s { store = st }) refl (omega (arith, le))

-- ---- the combinators

sound_choosing : (b : Bool) (f : State → State) (s : State) → Sound s (f s) → Sound s (skip_if b f s)
sound_choosing true f s k = sound_same s
sound_choosing false f s k = k

sound_unless : (f : State → State) (s : State) → Sound s (f s) → Sound s (unless_faulted f s)
unfolding unless_faulted
sound_unless f s k = sound_choosing s.faulted f s k

sound_settled : (line : ℕ) (o : Outcome) (f : ℤ → State → State) (s : State) → ((v : ℤ) → Sound s (f v s)) → Sound s (with_number line o f s)
unfolding with_number
sound_settled line (Ok v) f s k = k v
sound_settled line (Err kind) f s k = sound_fault kind line s

sound_turning : (n line : ℕ) (f : State → State) (s : State) → ((left : ℕ) → Sound (record s { turns = left }) (f (record s { turns = left })))
    → Sound s (with_turns n line f s)
sound_turning zero line f s k = sound_fault _ line s
sound_turning (suc left) line f s k =
    let t : State = record s { turns = left } in sound_trans s t (f t) (sound_quiet s t refl (omega arith)) (k left)

sound_with_turn : (line : ℕ) (f : State → State) (s : State) → ((left : ℕ) → Sound (record s { turns = left }) (f (record s { turns = left })))
    → Sound s (with_turn line f s)
unfolding with_turn
sound_with_turn line f s k = sound_turning s.turns line f s k

sound_limiting : (b : Bool) (line : ℕ) (f : State → State) (s : State) → Sound s (f s) → Sound s (under_limit b line f s)
sound_limiting true line f s k = k
sound_limiting false line f s k = sound_fault _ line s

sound_with_depth : (depth most line : ℕ) (f : State → State) (s : State) → Sound s (f s) → Sound s (with_depth depth most line f s)
unfolding with_depth
sound_with_depth depth most line f s k = sound_limiting (nat_lt depth most) line f s k

sound_branching : (b : Bool) (f g : State → State) (s : State) → Sound s (f s) → Sound s (g s) → Sound s (branch f g b s)
sound_branching true f g s p q = p
sound_branching false f g s p q = q

-- ---- a Fork: what the parent keeps and what the child has are what the parent had

pub taking_items : (p q : Bool) (assigned : Name → Bool) (d t : State) → State.items (with_result p q assigned d t) ≡ t.items
taking_items true q assigned d t = refl
taking_items false true assigned d t = refl
taking_items false false assigned d t = refl

-- behind the Join the thread has what it and the child had, less what was given back
taking_words : (p q : Bool) (assigned : Name → Bool) (d t u : State) → t.store ≡ u.store → t.callers ≡ u.callers
    → holdings (with_result p q assigned d t) + given_back p q d u ≤ holdings u + held_words d.store.blocks
taking_words true q assigned d t u es ec =
    let e : holdings t ≡ holdings u = ap (λ (st : Store). held_words st.blocks + stored_words t.callers) es ∙ ap (λ cs. held_words u.store.blocks + stored_words cs) ec in
    omega (arith, e)
taking_words false true assigned d t u es ec = omega arith
taking_words false false assigned d t u es ec =
    let e : holdings t ≡ holdings u = ap (λ (st : Store). held_words st.blocks + stored_words t.callers) es ∙ ap (λ cs. held_words u.store.blocks + stored_words cs) ec in
    let a = held_append t.store.blocks d.store.blocks in
    omega (arith, e, a)

sound_forking : (c : Setting) (named assigned : Name → Bool) (work own : State → State) (s : State)
    → Sound (child_of c named s) (work (child_of c named s))
    → ((items : List Item) → Sound (parent_of named items s) (own (parent_of named items s)))
    → Sound s (fork_join c named assigned work own s)
unfolding fork_join own_part_then_join joined ended with_action Covered
sound_forking c named assigned work own s w sound_own =
    let kid : ℕ = suc s.forks in
    let k : State = child_of c named s in
    let e : State = work k in
    let d : State = ended record_words e in
    let p : State = parent_of named d.items s in
    let q : State = own p in
    let b : Sound p q = sound_own d.items in
    let words : ℕ = given_back q.faulted d.faulted d q in
    let t : State = with_action (actions.joins kid) words q in
    let r : State = with_result q.faulted d.faulted assigned d t in
    let fork : Item = next_action (actions.forks kid) record_words s in
    let last : Item = next_action actions.ends record_words e in
    let join : Item = next_action (actions.joins kid) words q in
    let back : List Item = b.new ++ join ∷ [] in
    let all : List Item = fork ∷ (w.new ++ last ∷ back) in
    let q_items : q.items ≡ s.items ++ (fork ∷ (w.new ++ last ∷ b.new)) =
    b.grown ∙ ap (λ is. (is ++ last ∷ []) ++ b.new) w.grown
    ∙ append_assoc ((s.items ++ fork ∷ []) ++ w.new) (last ∷ []) b.new
    ∙ append_assoc (s.items ++ fork ∷ []) w.new (last ∷ b.new)
    ∙ append_assoc s.items (fork ∷ []) (w.new ++ last ∷ b.new) in
    let a_fork : Action = record { label = s.label; index = s.done; deed = actions.forks kid; words = record_words } in
    let a_end : Action = record { label = e.label; index = e.done; deed = actions.ends; words = record_words } in
    let a_join : Action = record { label = q.label; index = q.done; deed = actions.joins kid; words = words } in
    let list : actions_of all ≡ a_fork ∷ (actions_of w.new ++ a_end ∷ (actions_of b.new ++ a_join ∷ [])) =
    ap (λ l. a_fork ∷ l) (actions_append w.new (last ∷ back)
    ∙ ap (λ l. actions_of w.new ++ a_end ∷ l) (actions_append b.new (join ∷ []))) in
    let parted = parted_words named s.store.blocks in
    let split_is : holdings k + holdings p ≡ holdings s = omega (arith, parted) in
    let behind = taking_words q.faulted d.faulted assigned d t q refl refl in
    let d_words : held_words d.store.blocks ≤ holdings e = omega arith in
    let r_words : holdings r + words ≤ holdings q + holdings e = omega (arith, behind, d_words) in
    let lw : ℤ = live_words (actions_of w.new) in
    let lb : ℤ = live_words (actions_of b.new) in
    let total : live_words (actions_of all) ≡ pos 16 +ℤ (lw +ℤ (neg_ℤ (pos 16) +ℤ (lb +ℤ (neg_ℤ (pos words) +ℤ pos 0)))) =
    ap live_words list
    ∙ ap (λ z. pos 16 +ℤ z) (live_append (actions_of w.new) (a_end ∷ (actions_of b.new ++ a_join ∷ []))
    ∙ ap (λ z. lw +ℤ (neg_ℤ (pos 16) +ℤ z)) (live_append (actions_of b.new) (a_join ∷ []))) in
    record {
      new = all;
      grown = taking_items q.faulted d.faulted assigned d t ∙ ap (λ is. is ++ join ∷ []) q_items
          ∙ append_assoc s.items (fork ∷ (w.new ++ last ∷ b.new)) (join ∷ [])
          ∙ ap (λ is. s.items ++ (fork ∷ is)) (append_assoc w.new (last ∷ b.new) (join ∷ []));
      covered = let C : List Action → Type 0 = λ l. Covered (pos (holdings s)) l in
          subst C (sym list) (
            record_more (holdings s),
            covered_append (actions_of w.new) (a_end ∷ (actions_of b.new ++ a_join ∷ [])) (pos (holdings s) +ℤ pos 16)
                (covered_more (actions_of w.new) (pos (holdings k)) (pos (holdings s) +ℤ pos 16) (part_of (holdings k) (holdings p) (holdings s) split_is) w.covered) (
                  at_end (holdings s) (holdings k) (holdings p) (holdings e) lw split_is w.left,
                  covered_append (actions_of b.new) (a_join ∷ []) (((pos (holdings s) +ℤ pos 16) +ℤ lw) +ℤ neg_ℤ (pos 16))
                      (covered_more (actions_of b.new) (pos (holdings p)) (((pos (holdings s) +ℤ pos 16) +ℤ lw) +ℤ neg_ℤ (pos 16))
                      (own_part (holdings s) (holdings k) (holdings p) (holdings e) lw split_is w.left) b.covered)
                      (at_join (holdings s) (holdings k) (holdings p) (holdings e) (holdings q) (holdings r) words lw lb split_is w.left b.left r_words, tt),
                ),
          );
      left = at_last (holdings s) (holdings k) (holdings p) (holdings e) (holdings q) (holdings r) words lw lb (live_words (actions_of all)) total split_is w.left b.left r_words;
    }
  where
    record_more : (n : ℕ) → pos 0 ≤ℤ (pos n +ℤ pos 16)
    record_more n = omega (arith, ints)

    part_of : (k p s : ℕ) → k + p ≡ s → pos k ≤ℤ (pos s +ℤ pos 16)
    part_of k p s e = omega (arith, ints, e)

    at_end : (s k p e : ℕ) (l : ℤ) → k + p ≡ s → pos e ≤ℤ (pos k +ℤ l) → pos 0 ≤ℤ (((pos s +ℤ pos 16) +ℤ l) +ℤ neg_ℤ (pos 16))
    at_end s k p e l is h = omega (arith, ints, is)

    own_part : (s k p e : ℕ) (l : ℤ) → k + p ≡ s → pos e ≤ℤ (pos k +ℤ l) → pos p ≤ℤ (((pos s +ℤ pos 16) +ℤ l) +ℤ neg_ℤ (pos 16))
    own_part s k p e l is h = omega (arith, ints, is)

    at_join : (s k p e q r words : ℕ) (l m : ℤ) → k + p ≡ s → pos e ≤ℤ (pos k +ℤ l) → pos q ≤ℤ (pos p +ℤ m) → r + words ≤ q + e
        → pos 0 ≤ℤ (((((pos s +ℤ pos 16) +ℤ l) +ℤ neg_ℤ (pos 16)) +ℤ m) +ℤ neg_ℤ (pos words))
    at_join s k p e q r words l m is h g le = omega (arith, ints, is, le)

    at_last : (s k p e q r words : ℕ) (l m z : ℤ) → z ≡ pos 16 +ℤ (l +ℤ (neg_ℤ (pos 16) +ℤ (m +ℤ (neg_ℤ (pos words) +ℤ pos 0)))) → k + p ≡ s
        → pos e ≤ℤ (pos k +ℤ l) → pos q ≤ℤ (pos p +ℤ m) → r + words ≤ q + e → pos r ≤ℤ (pos s +ℤ z)
    at_last s k p e q r words l m z t is h g le = omega (arith, ints, is, le)

sound_tree : (c : Setting) (shape : Shape) (s : State) → Sound s (run_tree c shape s)
unfolding run_tree with_action
sound_tree c leaf s = sound_light s (run_tree c leaf s) (next_action actions.dummy 0 s) (record { label = s.label; index = s.done; deed = actions.dummy; words = 0 }) refl refl refl (omega arith)
sound_tree c (forked child own) s =
    sound_forking c no_name no_name (run_tree c child) (run_tree c own) s (sound_tree c child (child_of c no_name s))
    (λ items. sound_tree c own (parent_of no_name items s))

-- ---- statements

sound_delaying : (b : Bool) (c : Setting) (words : ℕ) (s : State) → Sound s (run_tree_unless b c words s)
sound_delaying true c words s = sound_same s
sound_delaying false c words s = sound_tree c (tree_for c.quota words) s

sound_allocated : (b : Name) (n : ℕ) (s : State) → Sound s (on_store (hold_block b (replicate n (pos 0))) (with_action actions.allocates (block_words n) s))
unfolding with_action
sound_allocated b n s =
    let t : State = on_store (hold_block b (replicate n (pos 0))) (with_action actions.allocates (block_words n) s) in
    let w = with_words s.store.blocks b (replicate n (pos 0)) in
    let l : block_words (length (replicate n (pos 0))) ≡ block_words n = ap block_words (length-replicate n (pos 0)) in
    let more : holdings t ≡ holdings s + block_words n = omega (arith, w, l) in
    sound_act s t (record { label = s.label; index = s.done; deed = actions.allocates; words = block_words n })
    (next_action actions.allocates (block_words n) s ∷ []) refl refl (first (holdings s) (block_words n)) (second (holdings t) (holdings s) (block_words n) more)
  where
    first : (m k : ℕ) → pos 0 ≤ℤ (pos m +ℤ pos k)
    first m k = omega (arith, ints)

    second : (t m k : ℕ) → t ≡ m + k → pos t ≤ℤ (pos m +ℤ pos k)
    second t m k e = omega (arith, ints, e)

sound_allocating : (c : Setting) (line : ℕ) (b : Name) (o : Option ℕ) (s : State) → Sound s (alloc_words c line b o s)
unfolding run_tree_before
sound_allocating c line b None s = sound_fault _ line s
sound_allocating c line b (Some n) s =
    let t : State = run_tree_unless (nat_le (block_words n) c.quota) c (block_words n) s in
    sound_trans s t (alloc_words c line b (Some n) s) (sound_delaying (nat_le (block_words n) c.quota) c (block_words n) s) (sound_allocated b n t)

sound_freeing : (b : Name) (s : State) → Sound s (free_block b s)
unfolding with_action
sound_freeing b s =
    let n : ℕ = block_words (length (block_of s.store.blocks b)) in
    let w = without_words s.store.blocks b in
    sound_giving s (free_block b s) n (record { label = s.label; index = s.done; deed = actions.releases; words = n })
    (next_action actions.releases n s ∷ []) refl refl refl (omega (arith, w))

sound_putting_at : (line : ℕ) (b : Name) (v : ℤ) (o : Option ℕ) (s : State) → Sound s (put_in_place line b v o s)
sound_putting_at line b v None s = sound_fault _ line s
sound_putting_at line b v (Some i) s =
    let xs : List ℤ = slice_set (block_of s.store.blocks b) i v in
    let w = replaced_words s.store.blocks b xs (length-set (block_of s.store.blocks b) i v) in
    sound_storing (Stores.write_block b xs s.store) s (omega (arith, w))

sound_putting_value : (line : ℕ) (b : Name) (e : Expr) (i : ℤ) (s : State) → Sound s (put_value line b e i s)
sound_putting_value line b e i s = sound_settled line (value s.store e) (put_number line b i) s (λ v. sound_putting_at line b v _ s)

-- the words of a cut and of its end
cutting_words : (b l r : Name) (at q : ℕ) (s : Store) → at ≡ 16 * q → at ≤ length (block_of s.blocks b)
    → held_words (Run.cut_block b l r at s).blocks ≤ held_words s.blocks
cutting_words b l r at q s whole le =
    let xs : List ℤ = block_of s.blocks b in
    let t : Store = drop_block b s in
    let d = without_words s.blocks b in
    let w = with_words t.blocks l (take at xs) in
    let v = with_words (hold_block l (take at xs) t).blocks r (drop at xs) in
    let lt : block_words (length (take at xs)) ≡ block_words at = ap block_words (taken xs le) in
    let ld : block_words (length (drop at xs)) ≡ block_words (length xs - at) = ap block_words (dropped xs) in
    let c = cut_words (length xs) at q whole le in omega (arith, d, w, v, lt, ld, c)
  where
    taken : (xs : List ℤ) → at ≤ length xs → length (take at xs) ≡ at
    taken xs le = let t = length-take at xs in omega (arith, t, le)

    dropped : (xs : List ℤ) → length (drop at xs) ≡ length xs - at
    dropped xs = length-drop at xs

rejoining_words : (b l r : Name) (s : Store) → held_words (Run.rejoin_block b l r s).blocks ≤ held_words s.blocks
rejoining_words b l r s =
    let xs : List ℤ = block_of s.blocks l in
    let t : Store = drop_block l s in
    let ys : List ℤ = block_of t.blocks r in
    let d = without_words s.blocks l in
    let e = without_words t.blocks r in
    let w = with_words (drop_block r t).blocks b (xs ++ ys) in
    let n : block_words (length (xs ++ ys)) ≡ block_words (length xs + length ys) = ap block_words (length-append xs ys) in
    let j = joined_words (length xs) (length ys) in omega (arith, d, e, w, n, j)

sound_cut : (line : ℕ) (b l r : Name) (body : State → State) (at q : ℕ) (s : State) → at ≡ 16 * q → at ≤ length (block_of s.store.blocks b)
    → ((t : State) → Sound t (body t)) → Sound s (split_in_place line b l r body (Some at) s)
sound_cut line b l r body at q s whole le k =
    let f : State → State = on_store (Run.rejoin_block b l r) in
    let t : State = on_store (Run.cut_block b l r at) s in
    let u : State = body t in
    sound_trans s t (unless_faulted f u) (sound_storing (Run.cut_block b l r at s.store) s (cutting_words b l r at q s.store whole le))
    (sound_trans t u (unless_faulted f u) (k t) (sound_unless f u (sound_storing (Run.rejoin_block b l r u.store) u (rejoining_words b l r u.store))))

sound_splitting : (line : ℕ) (b l r : Name) (body : State → State) (v : ℤ) (s : State) → ((t : State) → Sound t (body t)) → Sound s (split_block line b l r body v s)
sound_splitting line b l r body (negsuc n) s k = sound_fault _ line s
sound_splitting line b l r body (pos n) s k = by (nat_le n (length (block_of s.store.blocks b))) refl (nat_eq (n % 16) 0) refl
  where
    by : (x : Bool) → nat_le n (length (block_of s.store.blocks b)) ≡ x → (y : Bool) → nat_eq (n % 16) 0 ≡ y
        → Sound s (split_in_place line b l r body (if x && y then Some n else None) s)
    by true le true whole =
        let rest = eqb-true (n % 16) 0 whole in
        sound_cut line b l r body n (n / 16) s (omega (arith, rest)) (leb-true n (length (block_of s.store.blocks b)) le) k
    by true le false whole = sound_fault _ line s
    by false le y whole = sound_fault _ line s

-- the end of a call
sound_closing : (callers : List Store) (params : List Param) (args : List Arg) (t : Target) (a : Answer) (s u : State) → callers ≡ s.callers
    → s.items ≡ u.items → holdings s + answer_words a ≤ holdings u → Sound u (end_call callers params args t a s)
sound_closing [] params args t a s u e i le = sound_quiet u s i (omega (arith, le))
sound_closing (caller ∷ callers) params args t a s u e i le =
    let back : Store = lent_back params args s.store.blocks caller in
    let l = lent_back_words params args s.store.blocks caller in
    let w = answered_words t a back in
    let c : stored_words s.callers ≡ held_words caller.blocks + stored_words callers = ap stored_words (sym e) in
    sound_quiet u (end_call (caller ∷ callers) params args t a s) i (omega (arith, l, w, c, le))

sound_returned : (params : List Param) (args : List Arg) (t : Target) (a : Answer) (s u : State) → s.items ≡ u.items → holdings s + answer_words a ≤ holdings u
    → Sound u (returned params args t a s)
unfolding returned
sound_returned params args t a s u i le = sound_closing s.callers params args t a s u refl i le

sound_answering : (r : Option Ret) (next : Answer → State → State) (s : State)
    → ((a : Answer) (t : State) → t.items ≡ s.items → holdings t + answer_words a ≤ holdings s → Sound s (next a t)) → Sound s (with_answer r next s)
unfolding with_answer
sound_answering None next s k = k _ s refl (omega arith)
sound_answering (Some r) next s k = by r.value
  where
    by : (v : RetValue) → Sound s (with_return r.line v next s)
    by (gives e) = sound_settled r.line (value s.store e) (as_number next) s (λ v. k (Calls.number v) s refl (omega arith))
    by (hands b) =
        let d = without_words s.store.blocks b in
        k (Calls.items (block_of s.store.blocks b)) (record s { store = drop_block b s.store }) refl (omega (arith, d))

SoundAll : (Body → State → State) → Type 0
SoundAll more = (b : Body) (s : State) → Sound s (more b s)

sound_running_body : (more : Body → State → State) → SoundAll more → (t : Target) (args : List Arg) (g : Func) (h : Passing) (s : State)
    → both_words h ≡ held_words s.store.blocks → Sound s (run_callee more t args g h s)
unfolding SoundAll
sound_running_body more k t args g h s e =
    let u : State = entered h s in let v : State = more g.body u in
    let f : State → State = with_answer g.ret (returned g.params args t) in
    sound_trans s u (run_callee more t args g h s) (sound_quiet s u refl (omega (arith, e)))
    (sound_trans u v (unless_faulted f v) (k g.body u)
    (sound_unless f v (sound_answering g.ret (returned g.params args t) v (λ a w i le. sound_returned g.params args t a w v i le))))

sound_calling_with : (c : Setting) (more : Body → State → State) → SoundAll more → (line : ℕ) (t : Target) (args : List Arg) (g : Func)
    (r : Result Passing FaultKind) (s : State) → PassesWords (held_words s.store.blocks) r → Sound s (call_with c more line t args g r s)
unfolding PassesWords
sound_calling_with c more k line t args g (Ok h) s e =
    sound_with_depth s.calls c.most_calls line (with_turn line (run_callee more t args g h)) s
    (sound_with_turn line (run_callee more t args g h) s (λ left. sound_running_body more k t args g h (record s { turns = left }) e))
sound_calling_with c more k line t args g (Err kind) s e = sound_fault kind line s

sound_calling : (c : Setting) (more : Body → State → State) → SoundAll more → (line : ℕ) (t : Target) (args : List Arg)
    (o : Option Func) (s : State) → Sound s (call_function c more line t args o s)
sound_calling c more k line t args None s = sound_same s
sound_calling c more k line t args (Some g) s =
    sound_calling_with c more k line t args g (all_passed s.store g.params args) s
    (passes_same (omega arith) (all_passed s.store g.params args) (passed_words s.store g.params args (record { callee = Stores.nothing; caller = s.store })))

sound_repeat : (line : ℕ) (body again : State → State) (v : ℤ) (s : State) → ((t : State) → Sound t (body t)) → ((t : State) → Sound t (again t))
    → Sound s (branch_on (with_turn line (one_round body again)) unchanged v s)
sound_repeat line body again v s b a =
    sound_branching (is_true v) (with_turn line (one_round body again)) unchanged s
    (sound_with_turn line (one_round body again) s (λ left.
    let t : State = record s { turns = left } in
    sound_trans t (body t) (one_round body again t) (b t) (sound_unless again (body t) (a (body t)))))
    (sound_same s)

mutual
  unfolding exec exec_all SoundAll

  sound_exec : (c : Setting) (more : Body → State → State) → SoundAll more → (line : ℕ) (stmt : Stmt) (s : State) → Sound s (exec c more line stmt s)
  sound_exec c more k line (let_stmt x e) s = sound_settled line (value s.store e) (Run.set_integer x) s (λ v. sound_storing _ s (omega arith))
  sound_exec c more k line (assign_stmt x e) s = sound_settled line (value s.store e) (Run.set_integer x) s (λ v. sound_storing _ s (omega arith))
  sound_exec c more k line (put_stmt b i e) s = sound_settled line (value s.store i) (put_value line b e) s (λ v. sound_putting_value line b e v s)
  sound_exec c more k line (alloc_stmt b e) s = sound_settled line (value s.store e) (alloc_block c line b) s (λ v. sound_allocating c line b (size_of v) s)
  sound_exec c more k line (free_stmt b) s = sound_freeing b s
  sound_exec c more k line (if_stmt e a b) s =
      sound_settled line (value s.store e) (branch_on (exec_all c more a) (exec_all c more b)) s
      (λ v. sound_branching (is_true v) (exec_all c more a) (exec_all c more b) s (sound_exec_all c more k a s) (sound_exec_all c more k b s))
  sound_exec c more k line (while_stmt e a) s =
      sound_settled line (value s.store e) (branch_on (with_turn line (one_round (exec_all c more a) (more (step line (while_stmt e a) done)))) unchanged) s
      (λ v. sound_repeat line (exec_all c more a) (more (step line (while_stmt e a) done)) v s (sound_exec_all c more k a) (k (step line (while_stmt e a) done)))
  sound_exec c more k line (call_stmt t f args) s = sound_calling c more k line t args (function_of c.program f) s
  sound_exec c more k line (print_stmt e) s = sound_settled line (value s.store e) print_number s (λ v. sound_noting (States.printed v) s refl)
  sound_exec c more k line (par_stmt a b) s =
      sound_with_depth (length s.label) c.most_forks line (fork_join c (names_in a) (assigns_in a) (exec_all c more a) (exec_all c more b)) s
      (sound_forking c (names_in a) (assigns_in a) (exec_all c more a) (exec_all c more b) s
      (sound_exec_all c more k a (child_of c (names_in a) s))
      (λ items. sound_exec_all c more k b (parent_of (names_in a) items s)))
  sound_exec c more k line (split_stmt b e l r a) s =
      sound_settled line (value s.store e) (split_block line b l r (exec_all c more a)) s
      (λ v. sound_splitting line b l r (exec_all c more a) v s (sound_exec_all c more k a))

  sound_exec_all : (c : Setting) (more : Body → State → State) → SoundAll more → (b : Body) (s : State) → Sound s (exec_all c more b s)
  sound_exec_all c more k done s = sound_same s
  sound_exec_all c more k (step line stmt rest) s =
      let f : State → State = begin_statement line (exec c more line stmt) in
      let t : State = unless_faulted f s in
      let u : State = with_item (States.began line) s in
      sound_trans s t (exec_all c more rest t)
      (sound_unless f s (sound_trans s u (f s) (sound_noting (States.began line) s refl) (sound_exec c more k line stmt u)))
      (sound_exec_all c more k rest t)

sound_within : (c : Setting) (n : ℕ) → SoundAll (within c n)
unfolding within SoundAll
sound_within c zero = λ b s. sound_same s
sound_within c (suc n) = λ b s. sound_exec_all c (within c n) (sound_within c n) b s

sound_run : (c : Setting) → SoundAll (run c)
unfolding run SoundAll
sound_run c = λ b s. sound_within c (suc (Run.room c s)) b s

sound_main : (c : Setting) (o : Option Func) → Sound (root_start c) (main_run c o (root_start c))
unfolding SoundAll
sound_main c None = sound_same (root_start c)
sound_main c (Some g) =
    let t : State = run c g.body (root_start c) in
    sound_trans (root_start c) t (main_run c (Some g) (root_start c)) (sound_run c g.body (root_start c))
    (sound_unless (with_answer g.ret ignore_answer) t (sound_answering g.ret ignore_answer t (λ a u i le. sound_quiet t u i (omega (arith, le)))))

sound_ended : (s : State) → Sound s (ended 0 s)
unfolding ended with_action
sound_ended s = sound_light s (ended 0 s) (next_action actions.ends 0 s) (record { label = s.label; index = s.done; deed = actions.ends; words = 0 }) refl refl refl (omega arith)

-- live words never fall below 0
pub never_below : (c : Setting) (n : ℕ) → pos 0 ≤ℤ live_words (take n (actions_of (State.items (whole c))))
unfolding whole
never_below c n =
    let e : State = main_run c (function_of c.program main_name) (root_start c) in
    let s : Sound (root_start c) (ended 0 e) = sound_trans (root_start c) e (ended 0 e) (sound_main c (function_of c.program main_name)) (sound_ended e) in
    let l : live_words (take n (actions_of (State.items (ended 0 e)))) ≡ live_words (take n (actions_of s.new)) = ap (λ is. live_words (take n (actions_of is))) s.grown in
    by (live_words (take n (actions_of (State.items (ended 0 e))))) (live_words (take n (actions_of s.new))) l (covered_prefix (actions_of s.new) (pos 0) n (omega (arith, ints)) s.covered)
  where
    by : (x y : ℤ) → x ≡ y → pos 0 ≤ℤ (pos 0 +ℤ y) → pos 0 ≤ℤ x
    by x y e h = omega (arith, ints)
