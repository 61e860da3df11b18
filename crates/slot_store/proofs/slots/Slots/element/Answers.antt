use Rattle.std.proofs.Common.{◌∙◌, ap, sym, List, ℤ, w64, Ok, rules, Option}
use Rattle.std.proofs.lemmas.Int.{to_z-of_z}
use Rattle.depth_first_run.specs.Values.{number_at, place_in, or_index_fault}
use Rattle.slot_store.specs.Rows.{first_of}
use Rattle.slot_store.specs.Shown.{slots_shown}
use Rattle.slot_store.proofs.Places.{number_outside, number_inside, no_number}
use Rattle.slot_store.proofs.Agreement.{items_are}
use Rattle.slot_store.proofs.slots.Slots.element.Goals as goal

pub returns-in_default-clause-store : goal.returns-in_default-clause-store
returns-in_default-clause-store c names store shows below =
    no_number c.args.index
    ∙ ap (λ (bs : List (List ℤ)). number_at (first_of bs) c.args.index) c.in_default.ensures
    ∙ ap (λ (items : List ℤ). number_at items c.args.index) (items_are names (slots_shown c.args.self.now) store shows c.args.slot below)

pub returns-in_default-place_in-clause-row : goal.returns-in_default-place_in-clause-row
returns-in_default-place_in-clause-row c =
    let items = c.in-Some.block.now.items in
    let at = c.in_default-place_in.ensures.value items (sym c.len.ensures.value)
    ∙ ap (λ i. place_in items i) (to_z-of_z w64 c.args.index c.ranges.index) in
    number_outside items c.args.index at ∙ ap (λ (bs : List (List ℤ)). number_at (first_of bs) c.args.index) c.in-Some.ensures

pub returns-in_default-place_in-clause-store : goal.returns-in_default-place_in-clause-store
returns-in_default-place_in-clause-store c names store shows below =
    returns-in_default-place_in-clause-row c
    ∙ ap (λ (items : List ℤ). number_at items c.args.index) (items_are names (slots_shown c.args.self.now) store shows c.args.slot below)

pub returns-in-Some-get-clause-store : goal.returns-in-Some-get-clause-store
returns-in-Some-get-clause-store c names store shows below =
    let items = c.in-Some.block.now.items in
    let at = c.in-Some-place_in.ensures.value items (sym c.len.ensures.value)
    ∙ ap (λ i. place_in items i) (to_z-of_z w64 c.args.index c.ranges.index) in
    let number = to_z-of_z w64 c.in-Some-get.value (search rules) in
    ap Ok number ∙ ap (λ (o : Option ℤ). or_index_fault o) c.in-Some-get.ensures.value
    ∙ sym (number_inside items c.args.index c.in-Some-place_in.place at)
    ∙ ap (λ (bs : List (List ℤ)). number_at (first_of bs) c.args.index) c.in-Some.ensures
    ∙ ap (λ (items : List ℤ). number_at items c.args.index) (items_are names (slots_shown c.args.self.now) store shows c.args.slot below)
