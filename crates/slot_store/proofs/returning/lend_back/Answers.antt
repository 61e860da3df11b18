use Rattle.node_table.specs.Shown.{args_shown}
use Rattle.slot_store.specs.Shown.{slots_shown}
use Rattle.slot_store.proofs.Lending.{can_come_back_all}
use Rattle.slot_store.proofs.returning.lend_back.Goals as goal

pub bring_back-requires-clause-can : goal.bring_back-requires-clause-can
bring_back-requires-clause-can c =
    can_come_back_all (slots_shown c.args.caller.now) (slots_shown c.args.callee.now) c.args.params.now (args_shown c.args.args.now)
    c.requires.params_once c.requires.slots_once c.requires.there c.requires.none
