use Rattle.std.proofs.Common.{List, sym, ap, ◌∙◌}
use Rattle.std.proofs.lemmas.List.{take-map}
use Rattle.slot_store.specs.declared.slot.Slot.{Slot}
use Rattle.slot_store.specs.Shown.{slot_shown, row_shown}
use Rattle.slot_store.proofs.slots.Slots.shorten.Goals as goal

pub returns : goal.returns
returns c = ap (λ (slots : List Slot). row_shown slots) c.truncate.ensures.items ∙ sym (take-map slot_shown c.args.count c.args.self.now.slots.items)
