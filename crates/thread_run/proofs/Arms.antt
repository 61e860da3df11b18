-- What the node of a statement means for its arm, and what the arm costs.
use Rattle.std.proofs.Common.{inl, inr, ◌≡◌, ℕ, ◌+◌, ◌*◌, ◌≤◌, List, [], ◌∷◌, Result, Ok, Err, Option, Some, refl, sym, ◌∙◌, ap, subst, arith}
use Rattle.std.specs.Prelude.{slice_get}
use Rattle.std.specs.declared.alloc.AllocError.{AllocError}
use Rattle.par_tree.specs.Tree.{Name, Program, Func, Stmt, Body, while_stmt, step, done, Expr}
use Rattle.thread_state.specs.Passed.States.{Setting}
use Rattle.thread_state.specs.Passed.Middle.{step_statement}
use Rattle.node_table.specs.Table as tables
use Rattle.node_table.specs.Table.{Table, Node, Kind, if_node, while_node, both_node, split_node}
use Rattle.node_table.specs.Programs.{IsStmt, IsBody, function_names}
use Rattle.thread_stack.specs.Frames.{IsParNode, IsSplitNode, AreStatements}
use Rattle.thread_stack.specs.Lists.{kind_at, kind_of_node, numbers_of, then_of, other_of, round_of, inside_of}
use Rattle.thread_stack.specs.Measure.{kind_cost, list_cost, node_cost, turn_cost}
use Rattle.thread_stack.specs.declared.list_of.ListOf.TheVariants.{Round}
use Rattle.thread_stack.proofs.Costs.{turn_covers_node}
use Rattle.thread_state.specs.declared.state.ThreadState.{ThreadState}
use Rattle.thread_run.specs.Dones.{LeadsOrWants}
use Rattle.thread_run.specs.Costs.{done_cost, CostsTurns, CostsAtMost, LeavesLess}
use Rattle.thread_run.specs.declared.done.Done.{Done}
use Rattle.thread_run.proofs.Which.{OfBoth, OfSplit}

pub kind_there : (t : Table) (n : ℕ) (node : Node) (i : Kind) → slice_get t.nodes n ≡ Some node → node.kind ≡ i → kind_at t n ≡ Some i
kind_there t n node i there e = ap kind_of_node there ∙ ap (λ (x : Kind). Some x) e

-- a statement that is known
pub known : (t : Table) (k : ℕ) (c : Setting) (g : Func) (old u : ThreadState) (r : Result Done AllocError) (line here : ℕ) (stmt form : Stmt) → here ≡ line → stmt ≡ form
    → LeadsOrWants t k c g old r u (step_statement c here form) → LeadsOrWants t k c g old r u (step_statement c line stmt)
known t k c g old u r line here stmt form e f h =
    subst (λ (l : ℕ). LeadsOrWants t k c g old r u (step_statement c l stmt)) e
    (subst (λ (y : Stmt). LeadsOrWants t k c g old r u (step_statement c here y)) (sym f) h)

-- lists inside a node
pub then_list : (p : Program) (t : Table) (names : List Name) (n : ℕ) (c : tables.Expr) (x y : List ℕ) (a : Body) → kind_at t n ≡ Some (if_node c x y) → IsBody t.nodes (function_names p) names a (n + 1) x
    → AreStatements p t names (then_of (kind_at t n)) a
then_list p t names n c x y a there h = subst (λ (o : Option Kind). AreStatements p t names (then_of o) a) (sym there) (n + 1, h)

pub other_list : (p : Program) (t : Table) (names : List Name) (n : ℕ) (c : tables.Expr) (x y : List ℕ) (a : Body) → kind_at t n ≡ Some (if_node c x y) → IsBody t.nodes (function_names p) names a (n + 1) y
    → AreStatements p t names (other_of (kind_at t n)) a
other_list p t names n c x y a there h = subst (λ (o : Option Kind). AreStatements p t names (other_of o) a) (sym there) (n + 1, h)

pub round_list : (p : Program) (t : Table) (names : List Name) (n : ℕ) (c : tables.Expr) (x : List ℕ) (a : Body) → kind_at t n ≡ Some (while_node c x) → IsBody t.nodes (function_names p) names a (n + 1) x
    → AreStatements p t names (round_of (kind_at t n)) a
round_list p t names n c x a there h = subst (λ (o : Option Kind). AreStatements p t names (round_of o) a) (sym there) (n + 1, h)

pub inside_list : (p : Program) (t : Table) (names : List Name) (n s : ℕ) (c : tables.Expr) (l r : ℕ) (x : List ℕ) (a : Body) → kind_at t n ≡ Some (split_node s c l r x)
    → IsBody t.nodes (function_names p) names a (n + 1) x → AreStatements p t names (inside_of (kind_at t n)) a
inside_list p t names n s c l r x a there h = subst (λ (o : Option Kind). AreStatements p t names (inside_of o) a) (sym there) (n + 1, h)

-- the loop itself, as a list of one statement
pub loop_list : (p : Program) (t : Table) (names : List Name) (n : ℕ) (node : Node) (stmt : Stmt) (e : Expr) (a : Body) → slice_get t.nodes n ≡ Some node → stmt ≡ while_stmt e a
    → IsStmt t.nodes (function_names p) names stmt (n + 1) node.kind → AreStatements p t names (n ∷ []) (step node.line (while_stmt e a) done)
loop_list p t names n node stmt e a there is h =
    (0, (omega arith, (node, there, refl, subst (λ (y : Stmt). IsStmt t.nodes (function_names p) names y (n + 1) node.kind) is h), tt))

pub par_node : (p : Program) (t : Table) (names : List Name) (n : ℕ) (x y blocks assigned : List ℕ) (stmt : Stmt) → kind_at t n ≡ Some (both_node x y blocks assigned)
    → (h : OfBoth t.nodes (function_names p) names (n + 1) x y blocks assigned stmt) → IsParNode p t names n h.first h.second
par_node p t names n x y blocks assigned stmt there h = record {
  left = x;
  right = y;
  blocks = blocks;
  assigned = assigned;
  there = there;
  first = (n + 1, h.firsts);
  second = (n + 1, h.seconds);
  takes = h.named;
  assigns = h.assigns;
}

pub split_at : (p : Program) (t : Table) (names : List Name) (n s : ℕ) (c : tables.Expr) (l r : ℕ) (x : List ℕ) (stmt : Stmt) → kind_at t n ≡ Some (split_node s c l r x)
    → (h : OfSplit t.nodes (function_names p) names (n + 1) s c l r x stmt) → IsSplitNode t names n h.block h.left h.right
split_at p t names n s c l r x stmt there h = record {
  block = s;
  at = c;
  left = l;
  right = r;
  body = x;
  there = there;
  whole = h.slot;
  first = h.left_slot;
  rest = h.right_slot;
}

-- ---- costs

less_by : (p q d n : ℕ) → q ≡ p → d + 1 ≤ n → q + (d + 1) ≤ p + n
less_by p q d n e h = omega (arith, e, h)

pub quiet_cost : (t : Table) (n before after : ℕ) (d : Done) (most : ℕ) → after ≡ before → done_cost t d ≤ most → 2 + most ≤ node_cost t n
    → after * turn_cost t + (done_cost t d + 1) ≤ before * turn_cost t + node_cost t n
quiet_cost t n before after d most same cost covers =
    less_by (before * turn_cost t) (after * turn_cost t) (done_cost t d) (node_cost t n) (ap (λ (x : ℕ). x * turn_cost t) same) (omega (arith, cost, covers))

-- a node counts what stands inside it
pub covers_at : (t : Table) (n : ℕ) (node : Node) (o : Option Kind) → kind_at t n ≡ o → slice_get t.nodes n ≡ Some node → 2 + kind_cost (node_cost t) (Some node.kind) ≤ node_cost t n
    → 2 + kind_cost (node_cost t) o ≤ node_cost t n
covers_at t n node o is there h = subst (λ (x : Option Kind). 2 + kind_cost (node_cost t) x ≤ node_cost t n) (sym (ap kind_of_node there) ∙ is) h

more_turns : (turn after before d n : ℕ) → after + 1 ≡ before → d + 1 ≤ turn + n → after * turn + (d + 1) ≤ before * turn + n
more_turns turn after before d n e h =
    let grown : before * turn ≡ after * turn + turn = subst (λ (x : ℕ). x * turn ≡ after * turn + turn) e (omega arith) in
    omega (arith, grown, h)

pub loop_cost : (t : Table) (n before after : ℕ) (d : Done) (node : Node) → slice_get t.nodes n ≡ Some node → 2 + list_cost (node_cost t) (numbers_of t (Round n)) ≤ node_cost t n → CostsTurns t n before after d
    → after * turn_cost t + (done_cost t d + 1) ≤ before * turn_cost t + node_cost t n
loop_cost t n before after d node there covers h = go h
  where
    turn : 4 + node_cost t n ≤ turn_cost t
    turn = turn_covers_node t n node there

    go : CostsTurns t n before after d → after * turn_cost t + (done_cost t d + 1) ≤ before * turn_cost t + node_cost t n
    go (inl same) = quiet_cost t n before after d 0 same.1 (let none = same.0 in omega (arith, none)) (omega (arith, covers))
    go (inr more) = more_turns (turn_cost t) after before (done_cost t d) (node_cost t n) more.0 (let most = more.1 in omega (arith, most, turn, covers))

pub result_cost : (t : Table) (n before after : ℕ) (r : Result Done AllocError) (most : ℕ) → after ≡ before → CostsAtMost t most r → 2 + most ≤ node_cost t n → LeavesLess t n before after r
result_cost t n before after (Ok d) most same cost covers = quiet_cost t n before after d most same cost covers
result_cost t n before after (Err e) most same cost covers = tt

pub if_covers : (t : Table) (n : ℕ) (c : tables.Expr) (x y : List ℕ) → kind_at t n ≡ Some (if_node c x y) → 2 + kind_cost (node_cost t) (Some (if_node c x y)) ≤ node_cost t n
    → 2 + (list_cost (node_cost t) (then_of (kind_at t n)) + list_cost (node_cost t) (other_of (kind_at t n))) ≤ node_cost t n
if_covers t n c x y there h = subst (λ (o : Option Kind). 2 + (list_cost (node_cost t) (then_of o) + list_cost (node_cost t) (other_of o)) ≤ node_cost t n) (sym there) h

pub round_covers : (t : Table) (n : ℕ) (c : tables.Expr) (x : List ℕ) → kind_at t n ≡ Some (while_node c x) → 2 + kind_cost (node_cost t) (Some (while_node c x)) ≤ node_cost t n
    → 2 + list_cost (node_cost t) (round_of (kind_at t n)) ≤ node_cost t n
round_covers t n c x there h = subst (λ (o : Option Kind). 2 + list_cost (node_cost t) (round_of o) ≤ node_cost t n) (sym there) h

pub inside_covers : (t : Table) (n s : ℕ) (c : tables.Expr) (l r : ℕ) (x : List ℕ) → kind_at t n ≡ Some (split_node s c l r x) → 2 + kind_cost (node_cost t) (Some (split_node s c l r x)) ≤ node_cost t n
    → 2 + (1 + list_cost (node_cost t) (inside_of (kind_at t n))) ≤ node_cost t n
inside_covers t n s c l r x there h = subst (λ (o : Option Kind). 2 + (1 + list_cost (node_cost t) (inside_of o)) ≤ node_cost t n) (sym there) h
