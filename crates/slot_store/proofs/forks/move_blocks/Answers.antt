use Rattle.std.proofs.Common.{List, ℕ, length, get_or, take, sym, subst, arith}
use Rattle.std.proofs.lemmas.List.{take_more}
use Rattle.slot_store.specs.Shown.{slots_shown}
use Rattle.slot_store.specs.Forks.{Parts}
use Rattle.slot_store.proofs.Parting.{fits_at, parts_next}
use Rattle.slot_store.proofs.forks.move_blocks.Goals as goal

pub move_block-requires-clause-within_from : goal.move_block-requires-clause-within_from
move_block-requires-clause-within_from c =
    let within = fits_at (length (slots_shown c.args.from.now)) c.args.slots.now c.loop-slot.slot-index 0 c.requires.fits c.loop-slot-test.true in
    omega (arith, within, c.loop-slot.invariant.kept_count)

pub move_block-requires-clause-within_to : goal.move_block-requires-clause-within_to
move_block-requires-clause-within_to c =
    let within = fits_at (length (slots_shown c.args.from.now)) c.args.slots.now c.loop-slot.slot-index 0 c.requires.fits c.loop-slot-test.true in
    omega (arith, within, c.loop-slot.invariant.child_count)

pub loop-slot-preserved : goal.loop-slot-preserved
loop-slot-preserved c =
    let slots = c.args.slots.now in
    let i = c.loop-slot.slot-index in
    let row = slots_shown c.args.from.now in
    let child = slots_shown c.move_block.new.to in
    let kept = slots_shown c.move_block.new.from in
    let within = fits_at (length row) slots i 0 c.requires.fits c.loop-slot-test.true in
    subst (λ (ss : List ℕ). Parts ss row child kept) (sym (take_more slots i 0 c.loop-slot-test.true))
    (parts_next (take i slots) (get_or slots i 0) row (slots_shown c.loop-slot.to) (slots_shown c.loop-slot.from) c.loop-slot.invariant
    within child kept c.move_block.ensures.to c.move_block.ensures.from)
