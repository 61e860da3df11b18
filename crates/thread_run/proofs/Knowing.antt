-- What a thread at a point of an accepted program knows of its nodes and rows.
use Rattle.std.proofs.Common.{◌≡◌, ℕ, ◌+◌, ◌%◌, ◌<◌, ◌≤◌, Bool, true, false, List, [], ◌∷◌, length, Option, Some, None, refl, sym, ap, ◌∙◌, subst, arith}
use Rattle.std.specs.Prelude.{slice_get, map, ◌||◌}
use Rattle.std.specs.Str.{bytes_eq}
use Rattle.std.proofs.Math.Logic.{∥∥₁_elim}
use denote.Struct.Props.{props}
use Rattle.std.proofs.lemmas.List.{nil_from_length}
use Rattle.language_limits.specs.declared.TheConstants.{LONGEST_BLOCK}
use Rattle.par_tree.specs.Tree.{Name, Program, Func, Stmt}
use Rattle.thread_state.specs.Passed.Stores.{Held, block_of}
use Rattle.thread_state.specs.Passed.Middle as middles
use Rattle.thread_state.specs.Passed.Middle.{allocates, rejoins}
use Rattle.node_table.specs.Names.{slot_names, name_at, IsSlot}
use Rattle.node_table.specs.Table as tables
use Rattle.node_table.specs.Table.{Table, Node, Kind, let_node, assign_node, put_node, alloc_node, free_node, if_node, while_node, call_node, print_node, both_node, split_node}
use Rattle.thread_points.specs.Points.{IsAt}
use Rattle.thread_stack.specs.declared.frame.Frame.{Frame}
use Rattle.thread_stack.specs.declared.frame.Frame.TheVariants.{Allocates, Rejoins}
use Rattle.thread_stack.specs.Frames.{AreFrames, IsFrame, IsNode, IsSplitNode}
use Rattle.thread_stack.specs.Lists.{kind_at}
use Rattle.ownership_laws.specs.Counts.{hit, count}
use Rattle.ownership_laws.proofs.Counting.{name_same}
use Rattle.ownership_laws.proofs.Fitting.{end_finds_at}
use Rattle.ownership_laws.proofs.Reading.{frame_where_none, split_end}
use Rattle.thread_state.specs.Passed.Rows.{Entry, blocks_at, items_at, first_of, HasBlock, HasNone}
use Rattle.thread_state.specs.Passed.Agreement.{blocks_under, ShowsStore}
use Rattle.thread_state.proofs.Passed.Agreement.{entry_is, row_length}
use Rattle.thread_state.specs.Conditions.{CanRejoin}
use Rattle.thread_state.specs.States.{own_row}
use Rattle.thread_state.proofs.Steps.{own_store}
use Rattle.thread_run.specs.Stands.{InState}
use Rattle.thread_run.specs.Rejoining.{CanRejoinAt}
use Rattle.thread_run.proofs.Behind.{none_runs}
use Rattle.thread_run.specs.declared.run.ThreadRun.{ThreadRun}
use Rattle.thread_run.specs.Functions.{frames_of}
use Rattle.thread_run.specs.Stepping.{KnowingAt, IsKnownAt}

some_same : {A : Type 0} (x y : A) → Some x ≡ Some y → x ≡ y
some_same x y e = cc

pub on_line : (p : Program) (t : Table) (names : List Name) (n line : ℕ) (stmt : Stmt) (node : Node) → (h : IsNode p t names n line stmt) → slice_get t.nodes n ≡ Some node → node.line ≡ line
on_line p t names n line stmt node h there = sym (ap (λ (x : Node). x.line) (some_same h.node node (sym h.there ∙ there))) ∙ h.on_line

-- ---- rows and stores

-- as many blocks as are counted
pub counted : (hs : List Held) (x : Name) → length (blocks_under hs x) ≡ count hs x
unfolding count hit
counted [] x = refl
counted (h ∷ hs) x = go (bytes_eq h.name x) refl (counted hs x)
  where
    go : (b : Bool) → bytes_eq h.name x ≡ b → length (blocks_under hs x) ≡ count hs x → length (blocks_under (h ∷ hs) x) ≡ count (h ∷ hs) x
    go true e rest = rw e (omega (arith, rest))
    go false e rest = rw e (omega (arith, rest))

pub slot_count : (names : List Name) (row : List Entry) (store : _) (s : ℕ) (x : Name) → ShowsStore names row store → IsSlot names s x → length (blocks_at row s) ≡ count store.blocks x
slot_count names row store s x shows slot =
    ap (λ (e : Entry). length e.blocks) (entry_is names row store shows s slot.below)
    ∙ ap (λ (y : Name). length (blocks_under store.blocks y)) slot.reads
    ∙ counted store.blocks x

pub slot_within : (names : List Name) (row : List Entry) (store : _) (s : ℕ) (x : Name) → ShowsStore names row store → IsSlot names s x → s < length row
slot_within names row store s x shows slot = let long = row_length names row store shows in let below = slot.below in omega (arith, long, below)

-- the numbers of the block of a name
pub under_items : (hs : List Held) (x : Name) → first_of (blocks_under hs x) ≡ block_of hs x
under_items [] x = refl
under_items (h ∷ hs) x = go (bytes_eq h.name x) refl (under_items hs x)
  where
    go : (b : Bool) → bytes_eq h.name x ≡ b → first_of (blocks_under hs x) ≡ block_of hs x → first_of (blocks_under (h ∷ hs) x) ≡ block_of (h ∷ hs) x
    go true e rest = rw e refl
    go false e rest = rw e rest

pub slot_items : (names : List Name) (row : List Entry) (store : _) (s : ℕ) (x : Name) → ShowsStore names row store → IsSlot names s x → items_at row s ≡ block_of store.blocks x
slot_items names row store s x shows slot =
    ap (λ (e : Entry). first_of e.blocks) (entry_is names row store shows s slot.below)
    ∙ ap (λ (y : Name). first_of (blocks_under store.blocks y)) slot.reads
    ∙ under_items store.blocks x

-- ---- where a frame comes next

-- a thread in which a function runs, with its next frame
pub record At (t : Table) (k : ℕ) (run : ThreadRun) (x : Frame) (m : KnowingAt t k run x) : Type 0 where
  pub runs : Func
  pub waiting : List Func
  pub functions_are : m.functions ≡ runs ∷ waiting
  pub next : middles.Frame
  pub own : List middles.Frame
  pub frame : IsFrame m.setting.program t (runs ∷ waiting) x next
  pub point : IsAt m.setting (next ∷ own) m.at
  pub state : InState (runs ∷ waiting) run.state m.at

pub at_frame : (t : Table) (k : ℕ) (run : ThreadRun) (x : Frame) (m : KnowingAt t k run x) → At t k run x m
at_frame t k run x m = go m.functions refl m.own m.frames m.thread.at_point
  where
    go : (gs : List Func) → m.functions ≡ gs → (own : List middles.Frame) → AreFrames m.setting.program t m.functions (x ∷ frames_of run) own → IsAt m.setting own m.at → At t k run x m
    go gs e [] frames at = absurd frames
    go [] e (f ∷ own) frames at = absurd (none_runs m.setting.program t (x ∷ frames_of run) (f ∷ own) (subst (λ (hs : List Func). AreFrames m.setting.program t hs (x ∷ frames_of run) (f ∷ own)) e frames))
    go (g ∷ gs) e (f ∷ own) frames at = record {
      runs = g;
      waiting = gs;
      functions_are = e;
      next = f;
      own = own;
      frame = subst (λ (hs : List Func). IsFrame m.setting.program t hs x f) e frames.0;
      point = at;
      state = subst (λ (hs : List Func). InState hs run.state m.at) e m.state;
    }

module _ (t : Table) (k : ℕ) (run : ThreadRun) (x : Frame) (m : KnowingAt t k run x) (a : At t k run x m) (going : run.state.faulted ≡ false) where
  pub shown : ShowsStore (slot_names a.runs) (own_row run.state) m.at.store
  shown = own_store (map slot_names a.waiting) (slot_names a.runs) run.state m.at going a.state

  pub goes_on : m.at.faulted ≡ false
  goes_on = sym a.state.faulted ∙ going

-- the slot of an allocation behind its dummies has no block
pub alloc_none : (t : Table) (k : ℕ) (run : ThreadRun) (slot len : ℕ) → IsKnownAt t k run (Allocates slot len) → run.state.faulted ≡ false → HasNone (own_row run.state) slot
alloc_none t k run slot len known going = nil_from_length (blocks_at (own_row run.state) slot) (∥∥₁_elim known (search props) (λ m.
    (let x : Frame = Allocates slot len in
    let a = at_frame t k run x m in
    let point : IsAt m.setting (allocates a.frame.0 len ∷ a.own) m.at = subst (λ (f : middles.Frame). IsAt m.setting (f ∷ a.own) m.at) a.frame.1 a.point in
    slot_count (slot_names a.runs) (own_row run.state) m.at.store slot a.frame.0 (shown t k run x m a going) a.frame.2
    ∙ frame_where_none m.setting m.of_table.owned (allocates a.frame.0 len) a.own m.at point (goes_on t k run x m a going) a.frame.0 (name_same a.frame.0))))

-- ---- the end of a `split`

abbrev block_in : Option Kind → ℕ
block_in (Some (split_node s c l r x)) = s
block_in other = 0

abbrev left_in : Option Kind → ℕ
left_in (Some (split_node s c l r x)) = l
left_in other = 0

abbrev right_in : Option Kind → ℕ
right_in (Some (split_node s c l r x)) = r
right_in other = 0

module _ (t : Table) (k : ℕ) (run : ThreadRun) (n s : ℕ) (e : tables.Expr) (l r : ℕ) (body : List ℕ) (there : kind_at t n ≡ Some (split_node s e l r body)) (going : run.state.faulted ≡ false) where
  -- the block and the two parts of the `split` of the node
  record Parts (m : KnowingAt t k run (Rejoins n)) : Type 0 where
    at : At t k run (Rejoins n) m
    block : Name
    left : Name
    right : Name
    whole : IsSlot (slot_names at.runs) s block
    first : IsSlot (slot_names at.runs) l left
    second : IsSlot (slot_names at.runs) r right
    point : IsAt m.setting (rejoins block left right ∷ at.own) m.at

  parts : (m : KnowingAt t k run (Rejoins n)) → Parts m
  parts m =
      let a = at_frame t k run (Rejoins n) m in
      let node : IsSplitNode t (slot_names a.runs) n a.frame.0 a.frame.1 a.frame.2 = a.frame.4 in
      let same : Some (split_node node.block node.at node.left node.right node.body) ≡ Some (split_node s e l r body) = sym node.there ∙ there in
      record {
        at = a;
        block = a.frame.0;
        left = a.frame.1;
        right = a.frame.2;
        whole = subst (λ (i : ℕ). IsSlot (slot_names a.runs) i a.frame.0) (ap block_in same) node.whole;
        first = subst (λ (i : ℕ). IsSlot (slot_names a.runs) i a.frame.1) (ap left_in same) node.first;
        second = subst (λ (i : ℕ). IsSlot (slot_names a.runs) i a.frame.2) (ap right_in same) node.rest;
        point = subst (λ (f : middles.Frame). IsAt m.setting (f ∷ a.own) m.at) a.frame.3 a.point;
      }

  module _ (m : KnowingAt t k run (Rejoins n)) (p : Parts m) where
    row : List Entry
    row = own_row run.state

    shows : ShowsStore (slot_names p.at.runs) (own_row run.state) m.at.store
    shows = shown t k run (Rejoins n) m p.at going

    on : m.at.faulted ≡ false
    on = goes_on t k run (Rejoins n) m p.at going

    block_none : length (blocks_at (own_row run.state) s) ≡ 0
    block_none = slot_count (slot_names p.at.runs) (own_row run.state) m.at.store s p.block shows p.whole ∙ (split_end m.setting m.of_table.owned p.block p.left p.right p.at.own m.at p.point on).0.none

    found : (x : Name) → (bytes_eq p.left x || bytes_eq p.right x) ≡ true → count m.at.store.blocks x ≡ 1
    found x needs = end_finds_at m.setting m.of_table.owned p.point.steps (rejoins p.block p.left p.right) _ m.at p.point.there on x needs

    left_has : HasBlock (own_row run.state) l
    left_has = slot_count (slot_names p.at.runs) (own_row run.state) m.at.store l p.left shows p.first ∙ found p.left (first_or (bytes_eq p.left p.left) _ (name_same p.left))
      where
        first_or : (a b : Bool) → a ≡ true → (a || b) ≡ true
        first_or true b e = refl
        first_or false b e = let never : ⊥ = cc in absurd never

    right_has : HasBlock (own_row run.state) r
    right_has = slot_count (slot_names p.at.runs) (own_row run.state) m.at.store r p.right shows p.second ∙ found p.right (second_or (bytes_eq p.left p.right) _ (name_same p.right))
      where
        second_or : (a b : Bool) → b ≡ true → (a || b) ≡ true
        second_or true b e = refl
        second_or false b e = e

    two : l ≡ r → ⊥
    two same =
        let one : p.left ≡ p.right = sym p.first.reads ∙ ap (name_at (slot_names p.at.runs)) same ∙ p.second.reads in
        let apart = (split_end m.setting m.of_table.owned p.block p.left p.right p.at.own m.at p.point on).0.apart in
        let both : bytes_eq p.left p.right ≡ true = subst (λ (x : Name). bytes_eq p.left x ≡ true) one (name_same p.left) in
        let never : ⊥ = cc in never

    pieces : length (items_at (own_row run.state) l) % 16 ≡ 0
    pieces =
        let e = (split_end m.setting m.of_table.owned p.block p.left p.right p.at.own m.at p.point on).0 in
        let long = ap (λ xs. length xs) (slot_items (slot_names p.at.runs) (own_row run.state) m.at.store l p.left shows p.first) in
        let whole = e.whole in omega (arith, long, whole)

    both_short : length (items_at (own_row run.state) l) + length (items_at (own_row run.state) r) ≤ LONGEST_BLOCK
    both_short =
        let e = (split_end m.setting m.of_table.owned p.block p.left p.right p.at.own m.at p.point on).0 in
        let first = ap (λ xs. length xs) (slot_items (slot_names p.at.runs) (own_row run.state) m.at.store l p.left shows p.first) in
        let second = ap (λ xs. length xs) (slot_items (slot_names p.at.runs) (own_row run.state) m.at.store r p.right shows p.second) in
        let few = e.short in omega (arith, first, second, few)

  pub rejoins_at : IsKnownAt t k run (Rejoins n) → CanRejoin (own_row run.state) s l r
  rejoins_at known = record {
    within = ∥∥₁_elim known (search props) (λ m. let p = parts m in slot_within (slot_names p.at.runs) (own_row run.state) m.at.store s p.block (shows m p) p.whole);
    within_left = ∥∥₁_elim known (search props) (λ m. let p = parts m in slot_within (slot_names p.at.runs) (own_row run.state) m.at.store l p.left (shows m p) p.first);
    within_right = ∥∥₁_elim known (search props) (λ m. let p = parts m in slot_within (slot_names p.at.runs) (own_row run.state) m.at.store r p.right (shows m p) p.second);
    none = nil_from_length (blocks_at (own_row run.state) s) (∥∥₁_elim known (search props) (λ m. block_none m (parts m)));
    has_left = ∥∥₁_elim known (search props) (λ m. left_has m (parts m));
    has_right = ∥∥₁_elim known (search props) (λ m. right_has m (parts m));
    apart = λ same. ∥∥₁_elim known (λ x y. absurd x) (λ m. two m (parts m) same);
    whole = ∥∥₁_elim known (search props) (λ m. pieces m (parts m));
    short = ∥∥₁_elim known (search props) (λ m. both_short m (parts m));
  }

pub can_rejoin : (t : Table) (k : ℕ) (run : ThreadRun) (n : ℕ) → IsKnownAt t k run (Rejoins n) → run.state.faulted ≡ false → CanRejoinAt (own_row run.state) (kind_at t n)
can_rejoin t k run n known going = go (kind_at t n) refl
  where
    go : (o : Option Kind) → kind_at t n ≡ o → CanRejoinAt (own_row run.state) o
    go None e = tt
    go (Some (let_node s c)) e = tt
    go (Some (assign_node s c)) e = tt
    go (Some (put_node s c d)) e = tt
    go (Some (alloc_node s c)) e = tt
    go (Some (free_node s)) e = tt
    go (Some (if_node c a b)) e = tt
    go (Some (while_node c a)) e = tt
    go (Some (call_node to func from)) e = tt
    go (Some (print_node c)) e = tt
    go (Some (both_node a b blocks assigned)) e = tt
    go (Some (split_node s c l r body)) e = rejoins_at t k run n s c l r body e going known
