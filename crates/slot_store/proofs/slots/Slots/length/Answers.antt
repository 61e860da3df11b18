use Rattle.std.proofs.Common.{◌∙◌, ap, length, List, ℤ}
use Rattle.slot_store.specs.Rows.{first_of}
use Rattle.slot_store.specs.Shown.{slots_shown}
use Rattle.slot_store.proofs.Agreement.{items_are}
use Rattle.slot_store.proofs.slots.Slots.length.Goals as goal

pub returns-in-Some-clause-store : goal.returns-in-Some-clause-store
returns-in-Some-clause-store c names store shows below =
    c.len.ensures.value ∙ ap (λ (bs : List (List ℤ)). length (first_of bs)) c.in-Some.ensures
    ∙ ap length (items_are names (slots_shown c.args.self.now) store shows c.args.slot below)

pub returns-in-None-clause-store : goal.returns-in-None-clause-store
returns-in-None-clause-store c names store shows below =
    ap (λ (bs : List (List ℤ)). length (first_of bs)) c.in-None.ensures
    ∙ ap length (items_are names (slots_shown c.args.self.now) store shows c.args.slot below)
