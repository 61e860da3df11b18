use Rattle.slot_store.specs.Shown.{slots_shown}
use Rattle.slot_store.proofs.Branches.{joined_shows}
use Rattle.slot_store.proofs.slots.Slots.take_in.Goals as goal

pub returns : goal.returns
returns c names own brought assigns shows theirs are =
    joined_shows names (slots_shown c.args.self.now) (slots_shown c.args.child) (slots_shown c.take_integers.new.self)
    (slots_shown c.take_blocks.new.self) own brought assigns c.args.assigned.now shows theirs are c.take_integers.ensures.count
    c.take_integers.ensures.has c.take_blocks.ensures.count c.take_blocks.ensures.has
