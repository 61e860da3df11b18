use Rattle.std.proofs.Common.{◌≡◌, ℕ, List, length, drop}
use Rattle.depth_first_run.specs.Passed.Tree.{Name, Param, Arg}
use Rattle.depth_first_run.specs.Passed.Names.{param_names}
use Rattle.node_table.specs.Reading.{AreSlots, AreArgs}
use Rattle.node_table.specs.Shown.{args_shown}
use Rattle.depth_first_run.specs.Stores.{Store, Held}
use Rattle.depth_first_run.specs.Calls.{Passing, passed}
use Rattle.slot_store.specs.Rows.{blocks_at}
use Rattle.slot_store.specs.Shown.{slots_shown}
use Rattle.slot_store.specs.Agreement.{ShowsStore}
use Rattle.slot_store.specs.Calls.{store_with}
use Rattle.slot_store.proofs.passing.pass_integers.Given as goal

-- what is left to pass passes the rest
abbrev pub invariant-loop-i : goal.invariant-loop-i
invariant-loop-i l =
    (length (slots_shown l.callee) ≡ length (slots_shown l.initial.callee))
    × ((s : ℕ) → blocks_at (slots_shown l.callee) s ≡ blocks_at (slots_shown l.initial.callee) s)
    × ((names callee_names : List Name) (store : Store) (qs : List Param) (values : List Arg) (blocks : List Held) (g : Passing) →
    ShowsStore names (slots_shown l.caller) store → ShowsStore callee_names (slots_shown l.initial.callee) (store_with g.callee.integers blocks) →
    AreSlots callee_names l.params (param_names qs) → AreArgs names (args_shown l.args) values →
    (h : Passing) × (passed store qs values g ≡ passed store (drop l.i qs) (drop l.i values) h)
    × ShowsStore callee_names (slots_shown l.callee) (store_with h.callee.integers blocks))
