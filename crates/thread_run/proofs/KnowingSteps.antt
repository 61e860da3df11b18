-- What must stand in the slots of a thread where a statement begins, by what the statement means.
use Rattle.std.proofs.Common.{◌≡◌, ℕ, ◌+◌, ◌<◌, ◌≤◌, Bool, true, false, List, [], ◌∷◌, length, Some, refl, sym, ◌∙◌, ap, subst, arith}
use Rattle.std.specs.Prelude.{slice_get, map, ◌||◌}
use Rattle.std.specs.Str.{bytes_eq}
use Rattle.std.proofs.Math.Logic.{∥∥₁_elim}
use denote.Struct.Props.{props}
use Rattle.std.proofs.lemmas.List.{nil_from_length}
use Rattle.par_tree.specs.Tree.{Name, Program, Func, Stmt, alloc_stmt, free_stmt, split_stmt, step}
use Rattle.thread_state.specs.Passed.Stores.{Held}
use Rattle.thread_state.specs.Passed.Middle.{does, statements}
use Rattle.node_table.specs.Names.{slot_names, name_at, IsSlot}
use Rattle.node_table.specs.Table as tables
use Rattle.node_table.specs.Table.{Table, Node, Kind, let_node, assign_node, put_node, alloc_node, free_node, split_node}
use Rattle.node_table.specs.Programs.{IsStmt, function_names}
use Rattle.thread_stack.specs.Frames.{IsNode}
use Rattle.thread_stack.specs.Measure.{kind_cost, node_cost}
use Rattle.thread_stack.proofs.Costs.{node_covers}
use Rattle.thread_points.specs.Points.{IsAt}
use Rattle.ownership_laws.specs.Counts.{hit, count}
use Rattle.ownership_laws.specs.Needs.{needs_block}
use Rattle.ownership_laws.proofs.Counting.{name_same}
use Rattle.ownership_laws.proofs.Fitting.{finds_at}
use Rattle.ownership_laws.specs.Holdings.{puts_block}
use Rattle.ownership_laws.proofs.Reading.{puts_where_none, parts_apart}
use Rattle.thread_state.specs.Passed.Rows.{Entry, blocks_at, HasBlock, HasNone}
use Rattle.thread_state.specs.Passed.Agreement.{blocks_under, ShowsStore}
use Rattle.thread_state.proofs.Passed.Agreement.{entry_is, row_length}
use Rattle.thread_state.specs.Conditions.{CanCut}
use Rattle.thread_state.specs.States.{own_row}
use Rattle.thread_state.specs.declared.state.ThreadState.{ThreadState}
use Rattle.thread_state.proofs.Steps.{own_store}
use Rattle.thread_run.specs.Meanings.{Meaning, IsMeant}
use Rattle.thread_run.proofs.Which.{of_let, of_assign, of_put, of_alloc, of_free, OfSplit, of_split}

some_same : {A : Type 0} (x y : A) → Some x ≡ Some y → x ≡ y
some_same x y e = cc

-- the node of a number is the one that the table has
pub is_stmt : (p : Program) (t : Table) (names : List Name) (n line : ℕ) (stmt : Stmt) (node : Node) → IsNode p t names n line stmt → slice_get t.nodes n ≡ Some node
    → IsStmt t.nodes (function_names p) names stmt (n + 1) node.kind × (node.line ≡ line)
is_stmt p t names n line stmt node h there =
    let same : h.node ≡ node = some_same h.node node (sym h.there ∙ there) in
    (subst (λ (x : Node). IsStmt t.nodes (function_names p) names stmt (n + 1) x.kind) same h.is, subst (λ (x : Node). x.line ≡ line) same h.on_line)

pub is_kind : (p : Program) (t : Table) (names : List Name) (n line : ℕ) (stmt : Stmt) (node : Node) (k : Kind) → IsNode p t names n line stmt → slice_get t.nodes n ≡ Some node → node.kind ≡ k
    → IsStmt t.nodes (function_names p) names stmt (n + 1) k
is_kind p t names n line stmt node k h there e =
    subst (λ (x : Kind). IsStmt t.nodes (function_names p) names stmt (n + 1) x) e (is_stmt p t names n line stmt node h there).0

-- as many blocks as are counted
counted : (hs : List Held) (x : Name) → length (blocks_under hs x) ≡ count hs x
unfolding count hit
counted [] x = refl
counted (h ∷ hs) x = go (bytes_eq h.name x) refl (counted hs x)
  where
    go : (b : Bool) → bytes_eq h.name x ≡ b → length (blocks_under hs x) ≡ count hs x → length (blocks_under (h ∷ hs) x) ≡ count (h ∷ hs) x
    go true e rest = rw e (omega (arith, rest))
    go false e rest = rw e (omega (arith, rest))

-- what a thread in a state has in a slot of the function that runs
pub going_on : (gs : List Func) (u : ThreadState) (t : Table) (k n : ℕ) → IsMeant t k n u → u.faulted ≡ false
going_on gs u t k n meant = ∥∥₁_elim meant (search props) (λ m. m.in_state.faulted ∙ m.going)

module _ (t : Table) (k n : ℕ) (u : ThreadState) (m : Meaning t k n u) where
  shown : ShowsStore (slot_names m.runs) (own_row u) m.at.store
  shown = own_store (map slot_names m.waiting) (slot_names m.runs) u m.at (m.in_state.faulted ∙ m.going) m.in_state

  slot_within : (s : ℕ) (x : Name) → IsSlot (slot_names m.runs) s x → s < length (own_row u)
  slot_within s x slot =
      let long = row_length (slot_names m.runs) (own_row u) m.at.store shown in
      let below = slot.below in omega (arith, long, below)

  slot_count : (s : ℕ) (x : Name) → IsSlot (slot_names m.runs) s x → length (blocks_at (own_row u) s) ≡ count m.at.store.blocks x
  slot_count s x slot =
      ap (λ (e : Entry). length e.blocks) (entry_is (slot_names m.runs) (own_row u) m.at.store shown s slot.below)
      ∙ ap (λ (y : Name). length (blocks_under m.at.store.blocks y)) slot.reads
      ∙ counted m.at.store.blocks x

  slot_has : (stmt : Stmt) (s : ℕ) (x : Name) → m.stmt ≡ stmt → IsSlot (slot_names m.runs) s x → needs_block x stmt ≡ true → HasBlock (own_row u) s
  slot_has stmt s x is slot needs =
      slot_count s x slot ∙ finds_at m.setting m.of_table.owned m.point.steps m.line m.stmt m.later _ m.at m.point.there m.going x (ap (λ (y : Stmt). needs_block x y) is ∙ needs)

  slot_none : (stmt : Stmt) (s : ℕ) (x : Name) → m.stmt ≡ stmt → IsSlot (slot_names m.runs) s x → puts_block x stmt ≡ true → length (blocks_at (own_row u) s) ≡ 0
  slot_none stmt s x is slot puts =
      slot_count s x slot ∙ puts_where_none m.setting m.of_table.owned m.line m.stmt m.later m.own m.at m.point m.going x (ap (λ (y : Stmt). puts_block x y) is ∙ puts)

  kind_of : (node : Node) (i : Kind) → slice_get t.nodes n ≡ Some node → node.kind ≡ i → IsStmt t.nodes (function_names m.setting.program) (slot_names m.runs) m.stmt (n + 1) i
  kind_of node i there e = is_kind m.setting.program t (slot_names m.runs) n m.line m.stmt node i m.node there e

-- ---- each kind of statement

module _ (t : Table) (k n : ℕ) (u : ThreadState) (node : Node) (meant : IsMeant t k n u) (there : slice_get t.nodes n ≡ Some node) where
  pub runs_on : u.faulted ≡ false
  runs_on = ∥∥₁_elim meant (search props) (λ m. m.in_state.faulted ∙ m.going)

  pub let_within : (s : ℕ) (c : tables.Expr) → node.kind ≡ let_node s c → s < length (own_row u)
  let_within s c e = ∥∥₁_elim meant (search props) (λ m.
      (let h = of_let t.nodes (function_names m.setting.program) (slot_names m.runs) m.stmt (n + 1) s c (kind_of t k n u m node (let_node s c) there e) in
      slot_within t k n u m s h.name h.slot))

  pub assign_within : (s : ℕ) (c : tables.Expr) → node.kind ≡ assign_node s c → s < length (own_row u)
  assign_within s c e = ∥∥₁_elim meant (search props) (λ m.
      (let h = of_assign t.nodes (function_names m.setting.program) (slot_names m.runs) m.stmt (n + 1) s c (kind_of t k n u m node (assign_node s c) there e) in
      slot_within t k n u m s h.name h.slot))

  pub put_within : (s : ℕ) (c d : tables.Expr) → node.kind ≡ put_node s c d → s < length (own_row u)
  put_within s c d e = ∥∥₁_elim meant (search props) (λ m.
      (let h = of_put t.nodes (function_names m.setting.program) (slot_names m.runs) m.stmt (n + 1) s c d (kind_of t k n u m node (put_node s c d) there e) in
      slot_within t k n u m s h.name h.slot))

  pub alloc_none : (s : ℕ) (c : tables.Expr) → node.kind ≡ alloc_node s c → HasNone (own_row u) s
  alloc_none s c e = nil_from_length (blocks_at (own_row u) s) (∥∥₁_elim meant (search props) (λ m.
      (let h = of_alloc t.nodes (function_names m.setting.program) (slot_names m.runs) m.stmt (n + 1) s c (kind_of t k n u m node (alloc_node s c) there e) in
      slot_none t k n u m (alloc_stmt h.name h.expr) s h.name h.is h.slot (name_same h.name))))

  pub free_has : (s : ℕ) → node.kind ≡ free_node s → HasBlock (own_row u) s
  free_has s e = ∥∥₁_elim meant (search props) (λ m.
      (let h = of_free t.nodes (function_names m.setting.program) (slot_names m.runs) m.stmt (n + 1) s (kind_of t k n u m node (free_node s) there e) in
      slot_has t k n u m (free_stmt h.name) s h.name h.is h.slot (name_same h.name)))

  -- what stands inside a statement counts less than the statement
  pub covered : 2 + kind_cost (node_cost t) (Some node.kind) ≤ node_cost t n
  covered = ∥∥₁_elim meant (search props) (λ m.
      (let same : m.node.node ≡ node = some_same m.node.node node (sym m.node.there ∙ there) in
      subst (λ (x : Node). 2 + kind_cost (node_cost t) (Some x.kind) ≤ node_cost t n) same (node_covers m.setting.program t (slot_names m.runs) n m.line m.stmt m.node)))

  -- a block that is cut is there, and its two parts are not
  pub can_cut : (s : ℕ) (c : tables.Expr) (l r : ℕ) (body : List ℕ) → node.kind ≡ split_node s c l r body → CanCut (own_row u) s l r
  can_cut s c l r body e = record {
    within = ∥∥₁_elim meant (search props) (λ m. let h = of m in slot_within t k n u m s h.block h.slot);
    within_left = ∥∥₁_elim meant (search props) (λ m. let h = of m in slot_within t k n u m l h.left h.left_slot);
    within_right = ∥∥₁_elim meant (search props) (λ m. let h = of m in slot_within t k n u m r h.right h.right_slot);
    has = ∥∥₁_elim meant (search props) (λ m. let h = of m in slot_has t k n u m (split_stmt h.block h.expr h.left h.right h.inside) s h.block h.is h.slot (first_or (bytes_eq h.block h.block) _ (name_same h.block)));
    no_left = nil_from_length (blocks_at (own_row u) l) (∥∥₁_elim meant (search props) (λ m. let h = of m in
        slot_none t k n u m (split_stmt h.block h.expr h.left h.right h.inside) l h.left h.is h.left_slot (first_or (bytes_eq h.left h.left) _ (name_same h.left))));
    no_right = nil_from_length (blocks_at (own_row u) r) (∥∥₁_elim meant (search props) (λ m. let h = of m in
        slot_none t k n u m (split_stmt h.block h.expr h.left h.right h.inside) r h.right h.is h.right_slot (second_or (bytes_eq h.left h.right) _ (name_same h.right))));
    apart = λ same. ∥∥₁_elim meant (λ x y. absurd x) (λ m. let h = of m in
        let two = parts_apart m.setting m.of_table.owned m.line h.block h.expr h.left h.right h.inside m.later m.own m.at
        (subst (λ (y : Stmt). IsAt m.setting (does (statements (step m.line y m.later)) ∷ m.own) m.at) h.is m.point) m.going in
        let one : h.left ≡ h.right = sym h.left_slot.reads ∙ ap (name_at (slot_names m.runs)) same ∙ h.right_slot.reads in
        let both : bytes_eq h.left h.right ≡ true = subst (λ (x : Name). bytes_eq h.left x ≡ true) one (name_same h.left) in
        let never : ⊥ = cc in never);
  }
    where
      of : (m : Meaning t k n u) → OfSplit t.nodes (function_names m.setting.program) (slot_names m.runs) (n + 1) s c l r body m.stmt
      of m = of_split t.nodes (function_names m.setting.program) (slot_names m.runs) m.stmt (n + 1) s c l r body (kind_of t k n u m node (split_node s c l r body) there e)

      first_or : (a b : Bool) → a ≡ true → (a || b) ≡ true
      first_or true b e = refl
      first_or false b e = let never : ⊥ = cc in absurd never

      second_or : (a b : Bool) → b ≡ true → (a || b) ≡ true
      second_or true b e = refl
      second_or false b e = e
