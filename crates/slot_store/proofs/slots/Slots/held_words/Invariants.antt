use Rattle.std.proofs.Common.{◌≡◌, ◌+◌, ◌*◌, ◌≤◌, drop}
use Rattle.slot_store.specs.Rows.{row_words}
use Rattle.slot_store.specs.Shown.{row_shown}
use Rattle.slot_store.proofs.slots.Slots.held_words.Given as goal

-- the words so far, with those that are still to come, are all words
abbrev pub invariant-loop-slot : goal.invariant-loop-slot
invariant-loop-slot l =
    (l.words + row_words (row_shown (drop l.slot-index l.self.slots.items)) ≡ row_words (row_shown l.self.slots.items))
    × (l.words ≤ 4294967295 * l.slot-index)
