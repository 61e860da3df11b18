use Rattle.std.proofs.Common.{◌≡◌, List, ◌∷◌, [], ℤ, refl, sym, ap, ◌∙◌}
use Rattle.slot_store.specs.Rows.{Entry, blocks_at}
use Rattle.slot_store.specs.Forks.{or_own}
use Rattle.slot_store.specs.Shown.{slots_shown, blocks_shown}
use Rattle.slot_store.proofs.Rows.{entry_read, block_written}
use Rattle.slot_store.proofs.forks.move_block.Goals as goal

pub returns-in-Some-clause-from : goal.returns-in-Some-clause-from
returns-in-Some-clause-from c =
    block_written c.args.from.now.slots.items c.args.slot c.index_mut.result.now _ [] c.requires.within_from
    c.index_mut.ensures.value refl (ap blocks_shown c.take.ensures.after)

pub returns-in-Some-clause-to : goal.returns-in-Some-clause-to
returns-in-Some-clause-to c =
    let s = c.args.slot in
    let own = blocks_at (slots_shown c.args.to.now) s in
    let one : blocks_at (slots_shown c.args.from.now) s ≡ c.in-Some.block.items ∷ [] =
    ap Entry.blocks (entry_read c.args.from.now.slots.items s c.index_mut.result.now c.requires.within_from c.index_mut.ensures.value)
    ∙ ap blocks_shown (sym c.in-Some.ensures.value) in
    block_written c.args.to.now.slots.items s c.index_mut-in-Some.result.now _ _ c.requires.within_to
    c.index_mut-in-Some.ensures.value refl (sym (ap (λ (bs : List (List ℤ)). or_own bs own) one))
