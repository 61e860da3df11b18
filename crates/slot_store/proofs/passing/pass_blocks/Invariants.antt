use Rattle.std.proofs.Common.{◌≡◌, ℤ, List, length, drop, Ok}
use Rattle.depth_first_run.specs.Passed.Tree.{Name, Param, Arg}
use Rattle.depth_first_run.specs.Passed.Names.{param_names}
use Rattle.node_table.specs.Reading.{AreSlots, AreArgs}
use Rattle.node_table.specs.Shown.{args_shown}
use Rattle.depth_first_run.specs.Stores.{Store}
use Rattle.depth_first_run.specs.Calls.{Passing, passed}
use Rattle.slot_store.specs.Shown.{slots_shown}
use Rattle.slot_store.specs.Agreement.{ShowsStore}
use Rattle.slot_store.specs.Calls.{store_with, CanPassAll, PassesBlocks}
use Rattle.slot_store.proofs.passing.pass_blocks.Given as goal

-- what is left to pass passes the rest
abbrev pub invariant-loop-i : goal.invariant-loop-i
invariant-loop-i l =
    (length (slots_shown l.callee) ≡ length (slots_shown l.initial.callee))
    × (length (slots_shown l.caller) ≡ length (slots_shown l.initial.caller))
    × CanPassAll (slots_shown l.caller) (slots_shown l.callee) (drop l.i l.params) (drop l.i (args_shown l.args))
    × ((names callee_names : List Name) (store : Store) (qs : List Param) (values : List Arg) (own theirs : Name → ℤ) (g h : Passing) →
    AreSlots callee_names l.params (param_names qs) → AreArgs names (args_shown l.args) values → passed store qs values g ≡ Ok h →
    ShowsStore names (slots_shown l.initial.caller) (store_with own g.caller.blocks) →
    ShowsStore callee_names (slots_shown l.initial.callee) (store_with theirs g.callee.blocks) →
    PassesBlocks names callee_names store (drop l.i qs) (drop l.i values) own theirs h (slots_shown l.caller) (slots_shown l.callee))
