-- A thread that holds no block goes on, prints numbers, meets no fault, and holds no block again.
use Rattle.std.proofs.Common.{◌≡◌, ℕ, suc, ◌+◌, ◌≤◌, Bool, true, false, cond, List, [], ◌∷◌, ◌++◌, length, Some, None, refl, sym, ap, ◌∙◌, subst, append_assoc, arith}
use Rattle.std.specs.Prelude.{ℤ, pos, nat_le, replicate, slice_get, slice_set}
use Rattle.std.proofs.lemmas.Bool.{le-leb, lt-leb}
use Rattle.std.proofs.lemmas.List.{append-nil}
use Rattle.depth_first_list.specs.Shapes.{Shape, leaf, forked}
use Rattle.depth_first_list.specs.Actions as actions
use Rattle.depth_first_list.specs.Actions.{Action, record_words}
use Rattle.depth_first_list.specs.Runs.{tree_for}
use Rattle.depth_first_list.specs.Passed.Constants.{LONGEST_BLOCK}
use Rattle.par_tree.specs.Tree.{Name, num, get, put_stmt, print_stmt, free_stmt, Body, done, step}
use Rattle.depth_first_run.specs.Stores.{block_words, hold_block}
use Rattle.depth_first_run.specs.Values.{value, place_in, or_index_fault}
use Rattle.depth_first_run.specs.States.{Setting, State, Item, began, acted, printed, with_item, next_action, with_action, unless_faulted, with_number, child_of, parent_of, taken_integers, ended, joined, own_part_then_join, fork_join}
use Rattle.depth_first_run.specs.Run.{no_name, run_tree, run_tree_unless, run_tree_before, size_of, put_in_place, print_number, alloc_words, on_store, exec, exec_all, first_fault, lines_of}
use Rattle.made_laws.specs.MadeProgram.{left_block, right_block, branch_body}

-- the items print these numbers and have no fault, whatever comes after them
pub record Tells (vs : List ℤ) (items : List Item) : Type 0 where
  pub lines : (more : List Item) → lines_of (items ++ more) ≡ vs ++ lines_of more
  pub fault : (more : List Item) → first_fault (items ++ more) ≡ first_fault more

pub tells_none : Tells [] []
tells_none = record { lines = λ more. refl; fault = λ more. refl }

pub tells_acted : {vs : List ℤ} {items : List Item} (a : Action) → Tells vs items → Tells vs (acted a ∷ items)
tells_acted a t = record { lines = t.lines; fault = t.fault }

pub tells_began : {vs : List ℤ} {items : List Item} (line : ℕ) → Tells vs items → Tells vs (began line ∷ items)
tells_began line t = record { lines = t.lines; fault = t.fault }

pub tells_printed : {vs : List ℤ} {items : List Item} (v : ℤ) → Tells vs items → Tells (v ∷ vs) (printed v ∷ items)
tells_printed v t = record { lines = λ more. ap (λ ws. v ∷ ws) (t.lines more); fault = t.fault }

pub tells_both : {vs ws : List ℤ} {xs ys : List Item} → Tells vs xs → Tells ws ys → Tells (vs ++ ws) (xs ++ ys)
tells_both {vs} {ws} {xs} {ys} t u = record {
  lines = λ more. ap lines_of (append_assoc xs ys more) ∙ t.lines (ys ++ more) ∙ ap (λ l. vs ++ l) (u.lines more) ∙ sym (append_assoc vs ws (lines_of more));
  fault = λ more. ap first_fault (append_assoc xs ys more) ∙ t.fault (ys ++ more) ∙ u.fault more;
}

pub tells_last : {vs : List ℤ} {xs : List Item} (a : Action) → Tells vs xs → Tells vs (xs ++ acted a ∷ [])
tells_last {vs} {xs} a t = subst (λ ws. Tells ws (xs ++ acted a ∷ [])) (append-nil vs) (tells_both t (tells_acted a tells_none))

-- the thread s, if no fault has ended it and it holds no block
abbrev pub idle : State → State
idle s = record s { faulted = false; store = record { integers = s.store.integers; blocks = [] } }

-- the thread s at a later point, at which it holds no block
abbrev pub later : State → ℕ → ℕ → (Name → ℤ) → ℕ → List Item → State
later s acts forks integers turns items = record s {
  done = acts;
  forks = forks;
  faulted = false;
  store = record { integers = integers; blocks = [] };
  turns = turns;
  items = items;
}

-- The thread goes on from s to t, prints these numbers, and does so many turns.
pub record Goes (vs : List ℤ) (spent : ℕ) (s t : State) : Type 0 where
  pub acts : ℕ
  pub forks : ℕ
  pub integers : Name → ℤ
  pub turns : ℕ
  pub new : List Item
  pub is : t ≡ later s acts forks integers turns (s.items ++ new)
  pub spends : turns + spent ≡ s.turns
  pub tells : Tells vs new

abbrev pub end_of : {vs : List ℤ} {spent : ℕ} {s t : State} → Goes vs spent s t → State
end_of {s = s} g = later s g.acts g.forks g.integers g.turns (s.items ++ g.new)

pub stays : (s : State) → Goes [] 0 s (idle s)
stays s = record {
  acts = s.done;
  forks = s.forks;
  integers = s.store.integers;
  turns = s.turns;
  new = [];
  is = ap (λ items. later s s.done s.forks s.store.integers s.turns items) (sym (append-nil s.items));
  spends = omega arith;
  tells = tells_none;
}

-- one part after the other
pub goes_on : {vs ws : List ℤ} {a b : ℕ} {s t : State} (f : State → State) (g : Goes vs a s t) → Goes ws b (end_of g) (f (end_of g))
    → Goes (vs ++ ws) (a + b) s (f t)
goes_on {s = s} f g h =
    let before = g.spends in
    let after = h.spends in
    record {
      acts = h.acts;
      forks = h.forks;
      integers = h.integers;
      turns = h.turns;
      new = g.new ++ h.new;
      is = ap f g.is ∙ h.is ∙ ap (λ items. later s h.acts h.forks h.integers h.turns items) (append_assoc s.items g.new h.new);
      spends = omega (arith, before, after);
      tells = tells_both g.tells h.tells;
    }

-- a Fork: the child goes on in its work, the thread in its own part
fork_items : (before : List Item) (fork : Item) (child : List Item) (end : Item) (own : List Item) (join : Item)
    → ((((before ++ fork ∷ []) ++ child) ++ end ∷ []) ++ own) ++ join ∷ [] ≡ before ++ (fork ∷ (child ++ (end ∷ (own ++ join ∷ []))))
fork_items before fork child end own join = simp append_assoc refl

pub forks_go : {vs ws : List ℤ} {a b : ℕ} (c : Setting) (named assigned : Name → Bool) (work own : State → State) (s : State)
    → ((u : State) → u.turns ≡ c.most_turns → Goes vs a u (work (idle u))) → ((u : State) → u.turns ≡ s.turns → Goes ws b u (own (idle u)))
    → Goes (vs ++ ws) b s (fork_join c named assigned work own (idle s))
unfolding fork_join own_part_then_join joined ended with_action
forks_go c named assigned work own s child mine =
    let kid : State = child_of c named (idle s) in
    let w = child kid refl in
    let end : State = ended record_words (end_of w) in
    let parent : State = parent_of named end.items (idle s) in
    let o = mine parent refl in
    let integers : Name → ℤ = taken_integers assigned w.integers o.integers in
    let fork : Item = next_action (actions.forks (suc s.forks)) record_words s in
    let last : Item = next_action actions.ends record_words (end_of w) in
    let join : Item = next_action (actions.joins (suc s.forks)) 0 (end_of o) in
    record {
      acts = suc o.acts;
      forks = o.forks;
      integers = integers;
      turns = o.turns;
      new = fork ∷ (w.new ++ (last ∷ (o.new ++ join ∷ [])));
      is =
          ap (λ t. own_part_then_join named assigned own (idle s) (ended record_words t)) w.is
          ∙ ap (λ t. joined assigned (suc s.forks) end t) o.is
          ∙ ap (λ items. later s (suc o.acts) o.forks integers o.turns items) (fork_items s.items fork w.new last o.new join);
      spends = o.spends;
      tells = tells_acted _ (tells_both w.tells (tells_acted _ (tells_last _ o.tells)));
    }

-- the dummies before an allocation

tree_goes : (c : Setting) (shape : Shape) (s : State) → Goes [] 0 s (run_tree c shape (idle s))
unfolding run_tree with_action
tree_goes c leaf s = record {
  acts = suc s.done;
  forks = s.forks;
  integers = s.store.integers;
  turns = s.turns;
  new = next_action actions.dummy 0 s ∷ [];
  is = refl;
  spends = omega arith;
  tells = tells_acted _ tells_none;
}
tree_goes c (forked child own) s = forks_go c no_name no_name (run_tree c child) (run_tree c own) s (λ u e. tree_goes c child u) (λ u e. tree_goes c own u)

dummies_go : (c : Setting) (words : ℕ) (s : State) → Goes [] 0 s (run_tree_before c words (idle s))
unfolding run_tree_before
dummies_go c words s = by_test (nat_le words c.quota)
  where
    by_test : (b : Bool) → Goes [] 0 s (run_tree_unless b c words (idle s))
    by_test true = stays s
    by_test false = tree_goes c (tree_for c.quota words) s

-- a branch

abbrev pub length_of : List ℤ → ℕ
length_of items = length items

-- what is after its allocation
pub tail_body : Name → ℕ → ℕ → Body
tail_body name i line =
    step line (put_stmt name (num (pos 0)) (num (pos i))) (step line (print_stmt (get name (num (pos 0)))) (step line (free_stmt name) done))

abbrev pub allocated : Name → ℕ → State → State
allocated name m s = on_store (hold_block name (replicate (suc m) (pos 0))) (with_action actions.allocates (block_words (suc m)) s)

abbrev tail_items : ℕ → ℕ → ℕ → State → List Item
tail_items m i line s =
    next_action actions.allocates (block_words (suc m)) s ∷ began line ∷ began line ∷ printed (pos i) ∷ began line ∷
    acted (record {
      label = s.label;
      index = suc s.done;
      deed = actions.releases;
      words = block_words
          (length_of (slice_set (replicate (suc m) (pos 0)) 0 (pos i)));
    }) ∷ []

pub IsBranchName : Name → Type 0
IsBranchName name = (c : Setting) (more : Body → State → State) (m i line : ℕ) (s : State)
    → exec_all c more (tail_body name i line) (allocated name m (idle s))
    ≡ later s (suc (suc s.done)) s.forks s.store.integers s.turns
    ((((((s.items ++ next_action actions.allocates (block_words (suc m)) s ∷ []) ++ began line ∷ []) ++ began line ∷ []) ++ printed
    (pos i) ∷ []) ++ began line ∷ [])
    ++ acted (record {
      label = s.label;
      index = suc s.done;
      deed = actions.releases;
      words = block_words
          (length_of (slice_set (replicate (suc m) (pos 0)) 0 (pos i)));
    }) ∷ [])

place_is : (m : ℕ) → place_in (replicate (suc m) (pos 0)) (pos 0) ≡ Some 0
place_is m = ap (λ (b : Bool). cond b None (Some 0)) (lt-leb (length_of (replicate (suc m) (pos 0))) 0 (omega arith))

get_is : (m : ℕ) (v : ℤ) → slice_get (slice_set (replicate (suc m) (pos 0)) 0 v) 0 ≡ Some v
get_is m v = refl

-- what is after its number is put, and after it is printed
after_put : Name → ℕ → Body
after_put name line = step line (print_stmt (get name (num (pos 0)))) (step line (free_stmt name) done)

after_print : Name → ℕ → Body
after_print name line = step line (free_stmt name) done

abbrev put : Name → ℕ → ℕ → ℕ → State → State
put name m i line s = put_in_place line name (pos i) (Some 0) (with_item (began line) (allocated name m s))

pub left_branch : IsBranchName left_block
unfolding IsBranchName tail_body after_put after_print value with_action unless_faulted with_number exec
left_branch c more m i line s =
    ap (λ o. exec_all c more (after_put left_block line)
    (put_in_place line left_block (pos i) o (with_item (began line) (allocated left_block m (idle s))))) (place_is m)
    ∙ ap (λ o. exec_all c more (after_print left_block line)
    (with_number line (or_index_fault o) print_number (with_item (began line) (put left_block m i line (idle s))))) (get_is m (pos i))

pub right_branch : IsBranchName right_block
unfolding IsBranchName tail_body after_put after_print value with_action unless_faulted with_number exec
right_branch c more m i line s =
    ap (λ o. exec_all c more (after_put right_block line)
    (put_in_place line right_block (pos i) o (with_item (began line) (allocated right_block m (idle s))))) (place_is m)
    ∙ ap (λ o. exec_all c more (after_print right_block line)
    (with_number line (or_index_fault o) print_number (with_item (began line) (put right_block m i line (idle s))))) (get_is m (pos i))

-- the items of a branch
branch_items : (before : List Item) (first : Item) (dummies : List Item) (a b c d e f : Item)
    → (((((((before ++ first ∷ []) ++ dummies) ++ a ∷ []) ++ b ∷ []) ++ c ∷ []) ++ d ∷ []) ++ e ∷ []) ++ f ∷ []
    ≡ before ++ (first ∷ (dummies ++ (a ∷ b ∷ c ∷ d ∷ e ∷ f ∷ [])))
branch_items before first dummies a b c d e f = simp append_assoc refl

pub branch_goes : (name : Name) → IsBranchName name → (c : Setting) (more : Body → State → State) (m length i line : ℕ) (s : State) → length ≡ suc m
    → length ≤ LONGEST_BLOCK
    → Goes (pos i ∷ []) 0 s (exec_all c more (branch_body name length i line) (idle s))
unfolding IsBranchName tail_body value unless_faulted with_number exec
branch_goes name is_branch c more m length i line s is short =
    let begun : State = record s { items = s.items ++ began line ∷ [] } in
    let d = dummies_go c (block_words (suc m)) begun in
    let u : State = end_of d in
    let fits : size_of (pos length) ≡ Some (suc m) = ap (λ (b : Bool). cond b (Some length) None) (le-leb length LONGEST_BLOCK short)
    ∙ ap (λ (n : ℕ). Some n) is in
    let alloc : Item = next_action actions.allocates (block_words (suc m)) u in
    let release : Item =
    acted (record {
      label = s.label;
      index = suc d.acts;
      deed = actions.releases;
      words = block_words
          (length_of (slice_set (replicate (suc m) (pos 0)) 0 (pos i)));
    }) in
    record {
      acts = suc (suc d.acts);
      forks = d.forks;
      integers = d.integers;
      turns = d.turns;
      new = began line ∷ (d.new ++ (alloc ∷ began line ∷ began line ∷ printed (pos i) ∷ began line ∷ release ∷ []));
      is =
          ap (λ o. exec_all c more (tail_body name i line) (alloc_words c line name o (idle begun))) fits
          ∙ ap (λ t. exec_all c more (tail_body name i line) (allocated name m t)) d.is
          ∙ is_branch c more m i line u
          ∙ ap (λ items. later s (suc (suc d.acts)) d.forks d.integers d.turns items)
          (branch_items s.items (began line) d.new alloc (began line) (began line) (printed (pos i)) (began line) release);
      spends = d.spends;
      tells = tells_began line (tells_both d.tells
          (tells_acted _ (tells_began line (tells_began line (tells_printed (pos i) (tells_began line (tells_acted _ tells_none)))))));
    }
