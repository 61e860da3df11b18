use Rattle.std.proofs.Common.{ℕ, ◌<◌, List, ◌∷◌, [], length, Option, Ok, Err, ℤ, refl, sym, ap, ◌∙◌, subst, slice_set, w64, arith}
use Rattle.std.proofs.lemmas.Int.{to_z-of_z}
use Rattle.dag_order.specs.declared.fault.FaultKind.TheVariants as faults
use Rattle.node_table.specs.Names.{name_at}
use Rattle.depth_first_run.specs.Stores.{block_of, write_block}
use Rattle.depth_first_run.specs.Values.{place_in}
use Rattle.slot_store.specs.Rows.{Entry, items_at, with_blocks_at}
use Rattle.slot_store.specs.Shown.{slots_shown}
use Rattle.slot_store.specs.Agreement.{ShowsStore}
use Rattle.slot_store.specs.Effects.{Puts, PutsAt}
use Rattle.slot_store.proofs.Rows.{one_block, block_or_none}
use Rattle.slot_store.proofs.Agreement.{is_named, items_are, shows_write}
use Rattle.slot_store.proofs.slots.Slots.put.Goals as goal

pub returns-in_default-clause-store : goal.returns-in_default-clause-store
returns-in_default-clause-store c names store shows =
    let row = slots_shown c.args.self.now in
    let s = c.args.slot in
    let below = is_named names row store shows s c.requires in
    let items = block_of store.blocks (name_at names s) in
    let at = c.in_default.ensures.value items (sym (c.length.ensures.store names store shows below))
    ∙ ap (λ i. place_in items i) (to_z-of_z w64 c.args.index c.ranges.index) in
    subst (λ (p : Option ℕ). Puts names (name_at names s) c.args.value p store (Err faults.Index) row) at (refl, shows)

pub write-requires-clause-there : goal.write-requires-clause-there
write-requires-clause-there c =
    let items = items_at (slots_shown c.args.self.now) c.args.slot in
    omega (arith, c.in-Some.ensures.within, c.length.ensures.row)

pub returns-clause-store : goal.returns-clause-store
returns-clause-store c names store shows =
    let row = slots_shown c.args.self.now in
    let s = c.args.slot in
    let below = is_named names row store shows s c.requires in
    let items = block_of store.blocks (name_at names s) in
    let place = c.in-Some.place in
    let at = c.in-Some.ensures.value items (sym (c.length.ensures.store names store shows below))
    ∙ ap (λ i. place_in items i) (to_z-of_z w64 c.args.index c.ranges.index) in
    let some : place < length (items_at row s) = omega (arith, c.in-Some.ensures.within, c.length.ensures.row) in
    let same = items_are names row store shows s below in
    let number = to_z-of_z w64 c.args.value c.ranges.value in
    let written = c.write.ensures
    ∙ ap (λ (v : ℤ). with_blocks_at row s (slice_set (items_at row s) place v ∷ [])) number
    ∙ ap (λ (old : List ℤ). with_blocks_at row s (slice_set old place c.args.value ∷ [])) same in
    subst (λ (p : Option ℕ). Puts names (name_at names s) c.args.value p store (Ok tt) (slots_shown c.write.new.self)) at (
      refl,
      subst (λ (row : List Entry). ShowsStore names row (write_block (name_at names s) (slice_set items place c.args.value) store)) (sym written)
          (shows_write names row store shows s below (items_at row s) (slice_set items place c.args.value)
          (one_block row s place some (block_or_none c.args.self.now.slots.items s))),
    )

pub returns-in_default-clause-row : goal.returns-in_default-clause-row
returns-in_default-clause-row c =
    let row = slots_shown c.args.self.now in
    let s = c.args.slot in
    let items = items_at row s in
    let at = c.in_default.ensures.value items (sym c.length.ensures.row) ∙ ap (λ i. place_in items i) (to_z-of_z w64 c.args.index c.ranges.index) in
    subst (λ (p : Option ℕ). PutsAt s c.args.value p row (Err faults.Index) row) at (refl, refl)

pub returns-clause-row : goal.returns-clause-row
returns-clause-row c =
    let row = slots_shown c.args.self.now in
    let s = c.args.slot in
    let items = items_at row s in
    let place = c.in-Some.place in
    let at = c.in-Some.ensures.value items (sym c.length.ensures.row) ∙ ap (λ i. place_in items i) (to_z-of_z w64 c.args.index c.ranges.index) in
    let written = c.write.ensures ∙ ap (λ (v : ℤ). with_blocks_at row s (slice_set items place v ∷ [])) (to_z-of_z w64 c.args.value c.ranges.value) in
    subst (λ (p : Option ℕ). PutsAt s c.args.value p row (Ok tt) (slots_shown c.write.new.self)) at (refl, written)
