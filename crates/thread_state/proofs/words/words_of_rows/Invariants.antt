use Rattle.std.proofs.Common.{◌≡◌, ◌+◌, ◌*◌, ◌≤◌, ◌^◌, drop, map}
use Rattle.slot_store.specs.Shown.{slots_shown}
use Rattle.thread_state.specs.Rows.{all_words}
use Rattle.thread_state.proofs.words.words_of_rows.Given as goal

-- the words so far, with those that are still to come, are all words
abbrev pub invariant-loop-row : goal.invariant-loop-row
invariant-loop-row l =
    (l.words + all_words (map slots_shown (drop l.row-index l.rows)) ≡ all_words (map slots_shown l.rows))
    × (l.words ≤ 2 ^ 48 * l.row-index)
