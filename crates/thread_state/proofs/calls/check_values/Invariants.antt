use Rattle.std.proofs.Common.{◌≡◌, List, drop}
use Rattle.depth_first_run.specs.Passed.Tree.{Name, Param, Arg}
use Rattle.depth_first_run.specs.Passed.Names.{param_names}
use Rattle.node_table.specs.Reading.{AreSlots, AreArgs}
use Rattle.node_table.specs.Shown.{args_shown}
use Rattle.depth_first_run.specs.Stores.{Store}
use Rattle.depth_first_run.specs.Calls.{Passing, passed}
use Rattle.slot_store.specs.Shown.{slots_shown}
use Rattle.slot_store.specs.Agreement.{ShowsStore}
use Rattle.thread_state.proofs.calls.check_values.Given as goal

-- what is left to pass passes the rest
abbrev pub invariant-loop-i : goal.invariant-loop-i
invariant-loop-i l =
    (names callee_names : List Name) (store : Store) (qs : List Param) (values : List Arg) (g : Passing) →
    ShowsStore names (slots_shown l.slots) store → AreSlots callee_names l.params (param_names qs) → AreArgs names (args_shown l.args) values →
    (h : Passing) × (passed store qs values g ≡ passed store (drop l.i qs) (drop l.i values) h)
