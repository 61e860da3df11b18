-- What stands in the row of a thread where a call begins.
use Rattle.std.proofs.Common.{◌≡◌, ℕ, ◌+◌, ◌≤◌, true, false, List, ◌∷◌, length, Option, Some, None, refl, sym, ap, ◌∙◌, subst}
use Rattle.std.specs.Prelude.{slice_get, map}
use Rattle.std.proofs.Math.Logic.{∥∥₁_elim}
use Rattle.par_tree.specs.Tree.{Name, Stmt, Arg, call_stmt, step}
use Rattle.par_ownership.specs.Ownership.{OwnsFunction}
use Rattle.thread_state.specs.Passed.Middle.{does, statements}
use Rattle.node_table.specs.Names.{slot_names}
use Rattle.node_table.specs.Reading.{FitsArgs, FitsSlots, slots_read, args_read}
use Rattle.node_table.specs.Table as tables
use Rattle.node_table.specs.Table.{Table, Kind, Function, let_node, assign_node, put_node, alloc_node, free_node, if_node, while_node, call_node, print_node, both_node, split_node}
use Rattle.node_table.specs.Programs.{IsStmt, function_names}
use Rattle.node_table.proofs.Finding.{callee}
use Rattle.thread_points.specs.Points.{IsAt}
use Rattle.ownership_laws.proofs.Fitting.{keeps_at, finds_at}
use Rattle.ownership_laws.proofs.Passing.{function_owned}
use Rattle.thread_stack.specs.Frames.{IsNode}
use Rattle.thread_stack.specs.Lists.{kind_at, kind_of_node}
use Rattle.thread_state.specs.Passed.Agreement.{ShowsStore}
use Rattle.thread_state.specs.Passed.SlotStoreCalls.{passed_slots}
use Rattle.thread_state.proofs.Passed.Agreement.{row_length}
use Rattle.thread_state.specs.Calls.{CanCall}
use Rattle.thread_state.specs.States.{own_row}
use Rattle.thread_state.specs.declared.state.ThreadState.{ThreadState}
use Rattle.thread_state.proofs.Steps.{own_store}
use Rattle.thread_run.specs.Meanings.{Meaning, IsMeant}
use Rattle.thread_run.proofs.Which.{OfCall, of_call}
use Rattle.thread_run.specs.Calling.{is_call, CanCallFunction, CanCallAt}
use Rattle.thread_run.proofs.Beginning.{called}
use Rattle.thread_run.proofs.OneProof.{can_call_one}
use Rattle.thread_run.proofs.SlotLists.{hits, once_hits, each_has, passed_under, passed_fits, passed_hits, passed_needed, passed_once, params_once}

some_same : {A : Type 0} (x y : A) → Some x ≡ Some y → x ≡ y
some_same x y e = cc

-- the statement of a node that calls
pub call_of : (t : Table) (p : _) (names : List Name) (n line : ℕ) (stmt : Stmt) (to : tables.Target) (func : ℕ) (from : List tables.Arg) → IsNode p t names n line stmt → kind_at t n ≡ Some (call_node to func from)
    → OfCall t.nodes (function_names p) names to func from stmt
call_of t p names n line stmt to func from h there =
    of_call t.nodes (function_names p) names stmt (n + 1) to func from
    (subst (λ (k : Kind). IsStmt t.nodes (function_names p) names stmt (n + 1) k) (some_same h.node.kind (call_node to func from) (sym (ap kind_of_node h.there) ∙ there)) h.is)

module _ (t : Table) (k n : ℕ) (u : ThreadState) (to : tables.Target) (func : ℕ) (from : List tables.Arg) (there : kind_at t n ≡ Some (call_node to func from)) where
  -- the function of the call is in the table
  is_there : (m : Meaning t k n u) → slice_get t.funcs func ≡ None → ⊥
  is_there m none =
      let h = call_of t m.setting.program (slot_names m.runs) n m.line m.stmt to func from m.node there in
      let found = callee m.setting.program t func h.name m.of_table.owned m.of_table.table h.callee in
      let some = found.there in let never : ⊥ = cc in never

  can_call : (m : Meaning t k n u) → (code : Function) → slice_get t.funcs func ≡ Some code → u.faulted ≡ false → CanCall code.slots (own_row u) code.params from
  can_call m code function going =
      let names = slot_names m.runs in
      let h = call_of t m.setting.program names n m.line m.stmt to func from m.node there in
      let stmt : Stmt = call_stmt h.target h.name h.args in
      let node : IsNode m.setting.program t names n m.line stmt = subst (λ (x : Stmt). IsNode m.setting.program t names n m.line x) h.is m.node in
      let point : IsAt m.setting (does (statements (step m.line stmt m.later)) ∷ m.own) m.at = subst (λ (x : Stmt). IsAt m.setting (does (statements (step m.line x m.later)) ∷ m.own) m.at) h.is m.point in
      let f = called m.setting t k m.runs n m.line h.target h.name h.args to func from code m.of_table node there function in
      let keeps = keeps_at m.setting m.of_table.owned point.steps m.line stmt m.later _ m.at point.there m.going in
      let owned : OwnsFunction m.setting.program f.function = function_owned m.setting.program m.setting.program h.name f.function f.found m.of_table.owned.functions in
      let shows : ShowsStore names (own_row u) m.at.store = own_store (map slot_names m.waiting) names u m.at going m.in_state in
      let long = row_length names (own_row u) m.at.store shows in
      let read : args_read names from ≡ h.args = f.passed.0 in
      let under : (y : Name) → hits (slots_read names (passed_slots from)) y ≡ passed_under h.args y = λ y. passed_hits names from y ∙ ap (λ (xs : List Arg). passed_under xs y) read in
      record {
        params_fit = subst (λ (i : ℕ). FitsSlots i code.params) f.slots f.params.1;
        args_fit = subst (λ (i : ℕ). FitsArgs i from) (sym long) f.passed.1;
        params_once = once_hits (slot_names f.function) code.params (λ y. subst (λ (xs : List Name). hits xs y ≤ 1) (sym f.params.0) (params_once f.function.line f.function.params owned.0 y owned.1));
        blocks_once = once_hits names (passed_slots from) (λ y. subst (λ (i : ℕ). i ≤ 1) (sym (under y)) (passed_once keeps.0 (keeps.2.1.0).params h.args y keeps.2.1.3));
        there = each_has names (own_row u) m.at.store shows (passed_slots from) (passed_fits (length names) from f.passed.1)
            (λ y le. finds_at m.setting m.of_table.owned point.steps m.line stmt m.later _ m.at point.there m.going y
            (passed_needed h.args y (subst (λ (i : ℕ). 1 ≤ i) (under y) le)));
      }

  pub can_call_function : IsMeant t k n u → u.faulted ≡ false → CanCallFunction (own_row u) from (slice_get t.funcs func)
  can_call_function meant going = by (slice_get t.funcs func) refl
    where
      by : (o : Option Function) → slice_get t.funcs func ≡ o → CanCallFunction (own_row u) from o
      by None e = ∥∥₁_elim meant (λ x y. absurd x) (λ m. is_there m e)
      by (Some code) e = ∥∥₁_elim meant (can_call_one code.slots (own_row u) code.params from) (λ m. can_call m code e going)

pub can_call_at : (t : Table) (k n : ℕ) (u : ThreadState) → IsMeant t k n u → u.faulted ≡ false → is_call (kind_at t n) ≡ true → CanCallAt t (own_row u) (kind_at t n)
can_call_at t k n u meant going calls = by (kind_at t n) refl calls
  where
    by : (o : Option Kind) → kind_at t n ≡ o → is_call o ≡ true → CanCallAt t (own_row u) o
    by None e c = let never : ⊥ = cc in absurd never
    by (Some (let_node s x)) e c = let never : ⊥ = cc in absurd never
    by (Some (assign_node s x)) e c = let never : ⊥ = cc in absurd never
    by (Some (put_node s x y)) e c = let never : ⊥ = cc in absurd never
    by (Some (alloc_node s x)) e c = let never : ⊥ = cc in absurd never
    by (Some (free_node s)) e c = let never : ⊥ = cc in absurd never
    by (Some (if_node x a b)) e c = let never : ⊥ = cc in absurd never
    by (Some (while_node x a)) e c = let never : ⊥ = cc in absurd never
    by (Some (call_node to func from)) e c = can_call_function t k n u to func from e meant going
    by (Some (print_node x)) e c = let never : ⊥ = cc in absurd never
    by (Some (both_node a b blocks assigned)) e c = let never : ⊥ = cc in absurd never
    by (Some (split_node s x l r body)) e c = let never : ⊥ = cc in absurd never
