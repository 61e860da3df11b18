-- Statements of a program have flat code.
use Rattle.std.proofs.Common.{◌≡◌, ℕ, zero, suc, ◌+◌, ◌<◌, ◌≤◌, List, [], ◌∷◌, length, Some, sym, ap, subst, arith}
use Rattle.std.proofs.lemmas.Option.{slice_get_within}
use Rattle.par_tree.specs.Tree.{Name, Program, Stmt, Body, done, step}
use Rattle.par_tree.specs.Tree.{let_stmt, assign_stmt, put_stmt, alloc_stmt, free_stmt, if_stmt, while_stmt, call_stmt, print_stmt}
use Rattle.par_tree.specs.Tree.{par_stmt, split_stmt}
use Rattle.node_table.specs.Table.{Kind, let_node, assign_node, put_node, alloc_node, free_node, if_node, while_node, call_node, print_node}
use Rattle.node_table.specs.Table.{both_node, split_node, Table}
use Rattle.node_table.specs.Programs.{IsStmt, IsBody}
use Rattle.thread_stack.specs.declared.list_of.ListOf.{ListOf}
use Rattle.thread_stack.specs.Lists.{kind_of_node, kind_at, numbers_from}
use Rattle.thread_stack.specs.Frames.{AreStatements}
use Rattle.node_table.specs.Programs.{function_names}
use Rattle.flat_code.specs.Fits.{AllFit, FitsKind, FitsNode, KindHasRoom, CanBeFlat}

-- nodes inside a node have greater numbers, so there are fewer of them
deeper : (long low n d : ℕ) → long ≤ low + suc d → low ≤ n → long ≤ n + 1 + d
deeper long low n d deep after = omega (arith, deep, after)

none_deep : (long low n : ℕ) → long ≤ low + 0 → low ≤ n → n < long → ⊥
none_deep long low n deep after within = omega (arith, deep, after, within)

module _ (t : Table) (functions names : List Name) (size : ℕ) (room : (n : ℕ) → KindHasRoom (length names) size (kind_at t n)) where
  mutual
    stmt_fits : (s : Stmt) (low d : ℕ) (kind : Kind) → length t.nodes ≤ low + d → IsStmt t.nodes functions names s low kind
        → KindHasRoom (length names) size (Some kind) → FitsKind (length names) size (FitsNode t (length names) size d) (Some kind)
    stmt_fits (let_stmt x e) low d (let_node s c) deep is has = (is.0.below, is.1.1, has)
    stmt_fits (let_stmt x e) low d kind deep is has = absurd is
    stmt_fits (assign_stmt x e) low d (assign_node s c) deep is has = (is.0.below, is.1.1, has)
    stmt_fits (assign_stmt x e) low d kind deep is has = absurd is
    stmt_fits (put_stmt b i e) low d (put_node s c v) deep is has = (has.0, is.0.below, is.1.1, has.1, is.2.1, has.2)
    stmt_fits (put_stmt b i e) low d kind deep is has = absurd is
    stmt_fits (alloc_stmt b e) low d (alloc_node s c) deep is has = tt
    stmt_fits (alloc_stmt b e) low d kind deep is has = absurd is
    stmt_fits (free_stmt b) low d (free_node s) deep is has = tt
    stmt_fits (free_stmt b) low d kind deep is has = absurd is
    stmt_fits (if_stmt e a b) low d (if_node c ns ms) deep is has =
        ((has.0, is.0.1, has.1), body_fits a low d ns deep is.1, body_fits b low d ms deep is.2)
    stmt_fits (if_stmt e a b) low d kind deep is has = absurd is
    stmt_fits (while_stmt e a) low d (while_node c ns) deep is has = ((has.0, is.0.1, has.1), body_fits a low d ns deep is.1)
    stmt_fits (while_stmt e a) low d kind deep is has = absurd is
    stmt_fits (call_stmt u f args) low d (call_node to func from) deep is has = tt
    stmt_fits (call_stmt u f args) low d kind deep is has = absurd is
    stmt_fits (print_stmt e) low d (print_node c) deep is has = tt
    stmt_fits (print_stmt e) low d kind deep is has = absurd is
    stmt_fits (par_stmt a b) low d (both_node ns ms blocks assigned) deep is has = tt
    stmt_fits (par_stmt a b) low d kind deep is has = absurd is
    stmt_fits (split_stmt b e l r a) low d (split_node s c m n ns) deep is has = tt
    stmt_fits (split_stmt b e l r a) low d kind deep is has = absurd is

    body_fits : (b : Body) (low d : ℕ) (ns : List ℕ) → length t.nodes ≤ low + d → IsBody t.nodes functions names b low ns
        → AllFit (FitsNode t (length names) size d) ns
    body_fits done low d [] deep is = tt
    body_fits done low d (n ∷ ns) deep is = absurd is
    body_fits (step line s rest) low d [] deep is = absurd is
    body_fits (step line s rest) low zero (n ∷ ns) deep is =
        absurd (none_deep (length t.nodes) low n deep is.0 (slice_get_within t.nodes n is.1.0 is.1.1))
    body_fits (step line s rest) low (suc d) (n ∷ ns) deep is =
        let kind : kind_at t n ≡ Some is.1.0.kind = ap kind_of_node is.1.1 in
        let has = subst (λ o. KindHasRoom (length names) size o) kind (room n) in (
          subst (λ o. FitsKind (length names) size (FitsNode t (length names) size d) o) (sym kind)
              (stmt_fits s (n + 1) d is.1.0.kind (deeper (length t.nodes) low n d deep is.0) is.1.3 has),
          body_fits rest low (suc d) ns deep is.2,
        )

pub list_fits : (p : Program) (t : Table) (names : List Name) (list : ListOf) (b : Body) (size : ℕ) → AreStatements p t names (numbers_from t list 0) b
    → length names ≤ size → ((n : ℕ) → KindHasRoom (length names) size (kind_at t n)) → CanBeFlat t (length names) size list
list_fits p t names list b size are long room =
    (long, body_fits t (function_names p) names size room b are.0 (length t.nodes) (numbers_from t list 0) (omega arith) are.1)
