use Rattle.std.proofs.Common.{List, ap, sym, ◌∙◌, w64, rules, arith}
use Rattle.std.proofs.lemmas.Int.{to_z-of_z}
use Rattle.std.proofs.lemmas.List.{length-map}
use Rattle.slot_store.specs.declared.slot.Slot.{Slot}
use Rattle.slot_store.specs.Rows.{Entry, integer_at}
use Rattle.slot_store.specs.Shown.{slot_shown, row_shown, slots_shown}
use Rattle.slot_store.proofs.Rows.{entry_read}
use Rattle.slot_store.proofs.Agreement.{integer_is}
use Rattle.slot_store.proofs.slots.Slots.integer.Goals as goal

pub returns-in-Some-clause-store : goal.returns-in-Some-clause-store
returns-in-Some-clause-store c names store shows below =
    let slots = c.deref.result.now in
    let told = c.in-Some.ensures.lookup in
    to_z-of_z w64 c.in-Some.slot.now.integer (search rules)
    ∙ sym (ap Entry.integer (entry_read slots c.args.slot c.in-Some.slot.now (omega (arith, told.3.0, length-map slots slot_shown)) told.1))
    ∙ ap (λ (slots : List Slot). integer_at (row_shown slots) c.args.slot) c.deref.ensures.value
    ∙ integer_is names (slots_shown c.args.self.now) store shows c.args.slot below
