-- The parts into which a block is cut.
use Rattle.std.specs.Prelude.{ℕ, zero, suc, ◌+◌, ◌*◌, ◌/◌, nat_le, if◌then◌else◌, List, [], ◌∷◌, ◌++◌, length, take, drop, ℤ}

-- half of so many words, rounded up to a multiple of 16
abbrev pub half_of : ℕ → ℕ
half_of n = (n / 2 + 15) / 16 * 16

-- the two halves of a block
abbrev pub left_half : List ℤ → List ℤ
left_half items = take (half_of (length items)) items

abbrev pub right_half : List ℤ → List ℤ
right_half items = drop (half_of (length items)) items

-- A block of at most so many words is its one part; the parts of a longer one are those of its left half, and then those
-- of its right half. No more than so many cuts are made one within another.
unfoldable pub parts_within : (cuts most : ℕ) → List ℤ → List (List ℤ)
parts_within zero most items = items ∷ []
parts_within (suc cuts) most items =
    if nat_le (length items) most then items ∷ [] else parts_within cuts most (left_half items) ++ parts_within cuts most (right_half items)

-- the parts of a block: never more cuts are made one within another than it has words
abbrev pub parts_of : (most : ℕ) → List ℤ → List (List ℤ)
parts_of most items = parts_within (length items) most items

-- parts one behind the other
abbrev pub joined_parts : List (List ℤ) → List ℤ
joined_parts [] = []
joined_parts (part ∷ parts) = part ++ joined_parts parts
