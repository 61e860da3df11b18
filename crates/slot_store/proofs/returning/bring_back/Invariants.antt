use Rattle.std.proofs.Common.{◌≡◌, List, length, drop}
use Rattle.depth_first_run.specs.Passed.Tree.{Name, Param, Arg}
use Rattle.depth_first_run.specs.Passed.Names.{param_names}
use Rattle.node_table.specs.Reading.{AreSlots, AreArgs}
use Rattle.node_table.specs.Shown.{args_shown}
use Rattle.depth_first_run.specs.Stores.{Store}
use Rattle.depth_first_run.specs.Calls.{lent_back}
use Rattle.slot_store.specs.Shown.{slots_shown}
use Rattle.slot_store.specs.Agreement.{ShowsStore}
use Rattle.slot_store.specs.Calls.{left_over}
use Rattle.slot_store.specs.Returns.{CanComeBackAll, ComesBack}
use Rattle.slot_store.proofs.returning.bring_back.Given as goal

-- what is left to come back is the rest
abbrev pub invariant-loop-i : goal.invariant-loop-i
invariant-loop-i l =
    (length (slots_shown l.callee) ≡ length (slots_shown l.initial.callee))
    × (length (slots_shown l.caller) ≡ length (slots_shown l.initial.caller))
    × CanComeBackAll (slots_shown l.caller) (slots_shown l.callee) (drop l.i l.params) (drop l.i (args_shown l.args))
    × ((names callee_names : List Name) (own theirs : Store) (qs : List Param) (values : List Arg) →
    ShowsStore names (slots_shown l.initial.caller) own → ShowsStore callee_names (slots_shown l.initial.callee) theirs →
    AreSlots callee_names l.params (param_names qs) → AreArgs names (args_shown l.args) values →
    ComesBack names callee_names (drop l.i qs) (drop l.i values) (lent_back qs values theirs.blocks own) (left_over qs values theirs.blocks)
    theirs.integers (slots_shown l.caller) (slots_shown l.callee))
