-- What a sink in memory keeps and tells.
use Rattle.std.specs.Prelude.{◌≡◌, ℕ, ◌+◌, List, ◌++◌, length, nat_le, Bool, true, false, Option, Some, None, ◌⊎◌, if◌then◌else◌}
use Rattle.byte_streams.specs.declared.kept.Kept.{Kept}

-- the bytes that it took, as long as it kept them all
abbrev pub told : Kept → Option (List ℕ)
told kept = if kept.is_whole then Some kept.bytes.items else None

-- what a sink with room for so many bytes tells after it took a piece
abbrev pub told_after : ℕ → Option (List ℕ) → List ℕ → Option (List ℕ)
told_after room None piece = None
told_after room (Some kept) piece = if nat_le (length kept + length piece) room then Some (kept ++ piece) else None

-- these are the bytes that a sink keeps, and whether they are all that it took
abbrev pub Holds : Kept → (bytes : List ℕ) → (is_whole : Bool) → Type 0
Holds kept bytes is_whole = (kept.bytes.items ≡ bytes) × (kept.is_whole ≡ is_whole)

-- what a sink keeps that takes a piece: the piece behind the others, or, where there is no memory for it or a piece
-- before it was not kept, just the others
abbrev pub KeepsPiece : (before after : Kept) → List ℕ → Type 0
KeepsPiece before after piece =
    ((before.is_whole ≡ true) × Holds after (before.bytes.items ++ piece) true) ⊎ Holds after before.bytes.items false
