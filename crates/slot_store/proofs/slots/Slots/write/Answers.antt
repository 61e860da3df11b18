use Rattle.std.proofs.Common.{◌≡◌, List, ◌∷◌, [], ℤ, set, refl, sym, ap, ◌∙◌, w64, arith}
use Rattle.std.proofs.lemmas.Int.{to_z-of_z}
use Rattle.block_arena.specs.Content.{Content}
use Rattle.slot_store.specs.Rows.{Entry, items_at, first_of}
use Rattle.slot_store.specs.Shown.{slots_shown, blocks_shown}
use Rattle.slot_store.proofs.Rows.{entry_read, block_written, done}
use Rattle.slot_store.proofs.slots.Slots.write.Goals as goal

pub returns-in-Some : goal.returns-in-Some
returns-in-Some c =
    let row = slots_shown c.args.self.now in
    let there : items_at row c.args.slot ≡ c.in-Some.block.items =
    ap (λ (e : Entry). first_of e.blocks)
    (entry_read c.args.self.now.slots.items c.args.slot c.index_mut.result.now c.requires.within c.index_mut.ensures.value)
    ∙ ap (λ b. first_of (blocks_shown b)) c.in-Some.is in
    let within = rw there at c.requires.there in
    let number = to_z-of_z w64 c.args.value c.ranges.value in
    let kept = done c.set-written.result _ (λ refused. absurd (omega (arith, within, c.set-written.ensures.refused.0 refused))) c.set-written.ensures.ok in
    block_written c.args.self.now.slots.items c.args.slot c.index_mut.result.now _ _ c.requires.within c.index_mut.ensures.value refl
    (ap (λ (b : Content). b.items ∷ []) kept
    ∙ ap (λ v. set c.in-Some.block.items c.args.place v ∷ []) number
    ∙ ap (λ (items : List ℤ). set items c.args.place c.args.value ∷ []) (sym there))
