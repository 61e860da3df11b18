use Rattle.std.proofs.Common.{◌<◌, length, List, sym, subst}
use Rattle.node_table.specs.Shown.{target_shown}
use Rattle.node_table.specs.declared.code_target.CodeTarget.{CodeTarget}
use Rattle.slot_store.specs.Rows.{Entry}
use Rattle.slot_store.specs.Calls.{EachHasNone}
use Rattle.slot_store.specs.Shown.{slots_shown}
use Rattle.thread_state.specs.Calls.{TakesNumber}
use Rattle.thread_state.proofs.Returning.{still_none}
use Rattle.thread_state.proofs.ends.take_number.Goals as goal

pub returns-in-Int-clause-none : goal.returns-in-Int-clause-none
returns-in-Int-clause-none c slots each =
    let row = slots_shown c.args.caller.now in
    let within : c.in-Int.slot < length row = subst (λ (t : CodeTarget). TakesNumber row (target_shown t)) c.in-Int.is c.requires in
    subst (λ (r : List Entry). EachHasNone r slots) (sym c.set_integer.ensures.row) (still_none row c.in-Int.slot _ slots within each)
