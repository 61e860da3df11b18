use Rattle.slot_store.specs.Shown.{slots_shown}
use Rattle.slot_store.proofs.Branches.{child_shows, parent_shows}
use Rattle.slot_store.proofs.slots.Slots.part_into.Goals as goal

pub returns-clause-child : goal.returns-clause-child
returns-clause-child c names store named shows are =
    child_shows names (slots_shown c.args.self.now) store named c.args.blocks.now shows are _ _ c.move_blocks.ensures

pub returns-clause-parent : goal.returns-clause-parent
returns-clause-parent c names store named shows are =
    parent_shows names (slots_shown c.args.self.now) store named c.args.blocks.now shows are _ _ c.move_blocks.ensures
