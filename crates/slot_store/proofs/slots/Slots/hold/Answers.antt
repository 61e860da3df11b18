use Rattle.std.proofs.Common.{List, ◌∷◌, [], refl, sym, subst}
use Rattle.node_table.specs.Names.{name_at}
use Rattle.depth_first_run.specs.Stores.{hold_block}
use Rattle.slot_store.specs.Rows.{Entry}
use Rattle.slot_store.specs.Shown.{slots_shown}
use Rattle.slot_store.specs.Agreement.{ShowsStore}
use Rattle.slot_store.proofs.Rows.{block_written}
use Rattle.slot_store.proofs.Agreement.{is_named, shows_hold}
use Rattle.slot_store.proofs.slots.Slots.hold.Goals as goal

pub returns-clause-row : goal.returns-clause-row
returns-clause-row c =
    block_written c.args.self.now.slots.items c.args.slot c.index_mut.result.now _ (c.args.block.items ∷ []) c.requires.within
    c.index_mut.ensures.value refl refl

pub returns-clause-store : goal.returns-clause-store
returns-clause-store c names store shows =
    let row = slots_shown c.args.self.now in
    subst (λ (row : List Entry). ShowsStore names row (hold_block (name_at names c.args.slot) c.args.block.items store))
    (sym (returns-clause-row c))
    (shows_hold names row store shows c.args.slot (is_named names row store shows c.args.slot c.requires.within) c.args.block.items
    c.requires.none)
