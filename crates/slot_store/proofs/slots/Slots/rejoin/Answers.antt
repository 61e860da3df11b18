use Rattle.std.proofs.Common.{List, ◌∷◌, [], ℤ, sym, ap, ◌∙◌}
use Rattle.block_arena.specs.Content.{Content}
use Rattle.slot_store.specs.Rows.{Entry, entry_at, with_blocks_at}
use Rattle.slot_store.specs.Shown.{slots_shown}
use Rattle.slot_store.proofs.Rows.{put_back}
use Rattle.slot_store.proofs.slots.Slots.rejoin.Goals as goal

pub returns-in-Err-clause-err : goal.returns-in-Err-clause-err
returns-in-Err-clause-err c =
    let row = slots_shown c.args.self.now in
    let s = c.args.left in
    c.hold.ensures.row
    ∙ ap (λ (b : Content). with_blocks_at (slots_shown c.take-before.new.self) s (b.items ∷ [])) c.in-Err.ensures.err
    ∙ ap (λ (bs : List (List ℤ)). with_blocks_at (slots_shown c.take-before.new.self) s bs) (sym c.take-before.ensures.block)
    ∙ ap (λ (r : List Entry). with_blocks_at r s (Entry.blocks (entry_at row s))) c.take-before.ensures.row
    ∙ put_back row s [] c.requires.within_left
