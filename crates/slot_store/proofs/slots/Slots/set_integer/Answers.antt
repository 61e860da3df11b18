use Rattle.std.proofs.Common.{List, refl, sym, subst, w64}
use Rattle.std.proofs.lemmas.Int.{to_z-of_z}
use Rattle.node_table.specs.Names.{name_at}
use Rattle.depth_first_run.specs.Stores.{with_integer}
use Rattle.slot_store.specs.Rows.{Entry}
use Rattle.slot_store.specs.Shown.{slots_shown}
use Rattle.slot_store.specs.Agreement.{ShowsStore}
use Rattle.slot_store.proofs.Rows.{integer_written}
use Rattle.slot_store.proofs.Agreement.{is_named, shows_integer}
use Rattle.slot_store.proofs.slots.Slots.set_integer.Goals as goal

pub returns-clause-row : goal.returns-clause-row
returns-clause-row c =
    integer_written c.args.self.now.slots.items c.args.slot c.index_mut.result.now _ c.args.value c.requires c.index_mut.ensures.value
    (to_z-of_z w64 c.args.value c.ranges.value) refl

pub returns-clause-store : goal.returns-clause-store
returns-clause-store c names store shows =
    let row = slots_shown c.args.self.now in
    subst (λ (row : List Entry). ShowsStore names row (with_integer (name_at names c.args.slot) c.args.value store))
    (sym (returns-clause-row c))
    (shows_integer names row store shows c.args.slot (is_named names row store shows c.args.slot c.requires) c.args.value)
