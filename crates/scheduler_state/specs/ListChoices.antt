-- The words of a list, and then 0 for ever.
use Rattle.std.specs.Prelude.{ℕ, ◌+◌, slice_index}
use Rattle.scheduler_state.specs.declared.choices.ListChoices.{ListChoices}

-- the word that comes so many words later
abbrev pub coming_word : ListChoices → ℕ → ℕ
coming_word choices later = slice_index choices.words.items (choices.place + later)
