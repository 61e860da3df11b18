use Rattle.std.proofs.Common.{◌≡◌, List, ◌∷◌, [], refl, sym, ap, ◌∙◌, subst}
use Rattle.node_table.specs.Names.{name_at}
use Rattle.depth_first_run.specs.Stores.{drop_block}
use Rattle.slot_store.specs.Rows.{Entry, blocks_at, first_of}
use Rattle.slot_store.specs.Shown.{slots_shown, blocks_shown}
use Rattle.slot_store.specs.Agreement.{ShowsStore}
use Rattle.slot_store.proofs.Rows.{entry_read, block_written}
use Rattle.slot_store.proofs.Agreement.{is_named, items_are, shows_drop}
use Rattle.slot_store.proofs.slots.Slots.take.Goals as goal

pub returns-clause-row : goal.returns-clause-row
returns-clause-row c =
    block_written c.args.self.now.slots.items c.args.slot c.index_mut.result.now _ [] c.requires.within
    c.index_mut.ensures.value refl (ap blocks_shown c.take.ensures.after)

pub returns-clause-store : goal.returns-clause-store
returns-clause-store c names store shows =
    let row = slots_shown c.args.self.now in
    let s = c.args.slot in
    let one : blocks_at row s ≡ c.in-Some.block.items ∷ [] =
    ap Entry.blocks (entry_read c.args.self.now.slots.items s c.index_mut.result.now c.requires.within c.index_mut.ensures.value)
    ∙ ap blocks_shown (sym c.in-Some.ensures.value) in
    let below = is_named names row store shows s c.requires.within in (
      sym (items_are names row store shows s below) ∙ ap first_of one,
      subst (λ (row : List Entry). ShowsStore names row (drop_block (name_at names s) store)) (sym (returns-clause-row c))
          (shows_drop names row store shows s below c.in-Some.block.items one),
    )
