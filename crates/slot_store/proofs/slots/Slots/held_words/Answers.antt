use Rattle.std.proofs.Common.{◌≡◌, List, drop, ap, ◌∙◌, arith}
use Rattle.std.proofs.lemmas.List.{drop_all}
use Rattle.slot_store.specs.declared.slot.Slot.{Slot}
use Rattle.slot_store.specs.Rows.{row_words}
use Rattle.slot_store.specs.Shown.{row_shown, slots_shown}
use Rattle.slot_store.proofs.Holdings.{words_are}
use Rattle.slot_store.proofs.slots.Slots.held_words.Goals as goal

pub returns-clause-store : goal.returns-clause-store
returns-clause-store c names store shows =
    let slots = c.args.self.now.slots in
    let rest : row_words (row_shown (drop c.loop-slot.slot-index slots.items)) ≡ 0 =
    ap (λ (xs : List Slot). row_words (row_shown xs))
    (drop_all c.loop-slot.slot-index slots.items (omega (arith, c.loop-slot-test.false, slots.ok.0))) in
    let row : c.loop-slot.words ≡ row_words (slots_shown c.args.self.now) = omega (arith, rest, c.loop-slot.invariant.0) in
    row ∙ words_are names (slots_shown c.args.self.now) store shows
