-- What a loop over the parts of a block means: the calls of its function on the parts, one after another; and the one call by
-- which it is written out.
use Rattle.std.specs.Prelude.{ℕ, List, [], ◌∷◌, ◌++◌, map, ℤ, pos, Result, Ok, Err}
use Rattle.dag_order.specs.declared.fault.FaultKind.{FaultKind}
use Rattle.par_tree.specs.Tree
use Rattle.par_tree.specs.Tree.{Name, Expr, lend, call_stmt, integer}
use Rattle.depth_first_run.specs.Stores.{Store, block_of, drop_block, hold_block}
use Rattle.depth_first_run.specs.States.{Setting, State, with_fault, unless_faulted}
use Rattle.depth_first_run.specs.Run.{on_store, set_integer, exec, run}
use Rattle.loop_laws.specs.PlainLoop.{constant, add_to, numbers_of}
use Rattle.loop_laws.specs.Parts.{parts_of}

-- the block b is held with these numbers, and stands behind the other blocks, as one does that was lent and came back
abbrev pub hold_again : Name → List ℤ → Store → Store
hold_again b items s = hold_block b items (drop_block b s)

-- the block b holds just a part, and is lent to f: `call x = f(use b, ARGUMENTS);`, where the arguments are these numbers
abbrev pub call_on : Setting → ℕ → (f x b : Name) → List ℤ → (part : List ℤ) → State → State
call_on c line f x b vs part s = exec c (run c) line (call_stmt (integer x) f (lend b ∷ map constant vs)) (on_store (hold_again b part) s)

-- the answer of f on a part is added to x, unless a fault ends the call
abbrev pub add_call_on : Setting → ℕ → (f x b : Name) → List ℤ → (part : List ℤ) → State → State
add_call_on c line f x b vs part s = unless_faulted (add_to x (s.store.integers x)) (call_on c line f x b vs part s)

-- what comes behind a call on a part, by what the parts up to this one have become: those before it, and the one that the
-- block b now holds
abbrev pub behind_part : Name → (before : List ℤ) → (List ℤ → State → State) → State → State
behind_part b before others s = others (before ++ block_of s.store.blocks b) s

-- f is called on the parts in order, each time with the further numbers vs; each answer is added to x. A fault ends it. At
-- the end the block b holds what the parts have become, behind what those before them have become.
unfoldable pub add_calls_on : Setting → ℕ → (f x b : Name) → List ℤ → List (List ℤ) → (before : List ℤ) → State → State
add_calls_on c line f x b vs [] before s = on_store (hold_again b before) s
add_calls_on c line f x b vs (part ∷ parts) before s =
    unless_faulted (behind_part b before (add_calls_on c line f x b vs parts)) (add_call_on c line f x b vs part s)

-- the same calls on all parts of a block, where x becomes the sum of the answers, which is 0 where there is none
abbrev pub sum_calls_on : Setting → ℕ → (f x b : Name) → List ℤ → List (List ℤ) → State → State
sum_calls_on c line f x b vs [] s = set_integer x (pos 0) s
sum_calls_on c line f x b vs (part ∷ parts) s =
    unless_faulted (behind_part b [] (add_calls_on c line f x b vs parts)) (call_on c line f x b vs part s)

-- the loop over the parts of at most so many words of the block b, with further numbers or the fault of their expressions
abbrev pub parts_loop_with : Setting → ℕ → (f : Name) → (most : ℕ) → (x b : Name) → Result (List ℤ) FaultKind → State → State
parts_loop_with c line f most x b (Ok vs) s = sum_calls_on c line f x b vs (parts_of most (block_of s.store.blocks b)) s
parts_loop_with c line f most x b (Err kind) s = with_fault kind line s

-- The loop with the line of its statement: x becomes the sum of the answers of f on the parts of at most so many words of
-- the block b, with the further numbers cs, which are evaluated before the first call.
abbrev pub plain_parts_loop : Setting → ℕ → (f : Name) → (most : ℕ) → (x b : Name) → List Expr → State → State
plain_parts_loop c line f most x b cs s = parts_loop_with c line f most x b (numbers_of s.store cs) s

-- the call by which the loop is written out: `call x = sum(use b, cs);`
abbrev pub written_out_on : Setting → ℕ → (sum x b : Name) → List Expr → State → State
written_out_on c line sum x b cs s = exec c (run c) line (call_stmt (integer x) sum (lend b ∷ map Tree.value cs)) s
