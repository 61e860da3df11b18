-- Words and the pieces that hold them.
use Rattle.std.specs.Prelude.{ℕ, ◌*◌}
use Rattle.std.specs.Int.{div_ceil}
use Rattle.language_limits.specs.declared.TheConstants.{PIECE_WORDS}

-- how many pieces of 16 words hold `words` words: words / 16, rounded up
abbrev pub pieces_for : ℕ → ℕ
pieces_for words = div_ceil words PIECE_WORDS

-- how many words these pieces have, which is what a block of `words` words takes from the pool
abbrev pub words_taken : ℕ → ℕ
words_taken words = PIECE_WORDS * pieces_for words
