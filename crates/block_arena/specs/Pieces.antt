-- What pieces hold.
use Rattle.std.specs.Prelude.{ℕ, List, ℤ, take, Box, Vec, vec_capacity}
use Rattle.std.specs.List.{flat_map}
use Rattle.std.specs.declared.alloc.Global.{Global}
use Rattle.block_arena.specs.declared.piece.Piece.{Piece}
use Rattle.block_arena.specs.Content.{Content}

-- the 16 words of a piece
abbrev pub words_in : Box Piece Global → List ℤ
words_in piece = piece.value.words

-- the words of pieces, one piece after another
abbrev pub contents : List (Box Piece Global) → List ℤ
contents pieces = flat_map words_in pieces

-- a block of `len` numbers in these pieces: the numbers are the first `len` of their words
abbrev pub block_in : Vec (Box Piece Global) Global → ℕ → Content
block_in pieces len = record { items = take len (contents pieces.items); room = vec_capacity pieces }
