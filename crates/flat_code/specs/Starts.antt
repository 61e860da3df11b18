-- At which places of flat code a thread may begin: where the mark is another than before.
use Rattle.std.specs.Prelude.{◌≡◌, ℕ, suc, ◌<◌, length}
use Rattle.node_table.specs.Table.{Table}
use Rattle.flat_statements.specs.Flat.{FlatCode, frames_at}
use Rattle.flat_statements.specs.Follows.{Reaches, IsCodeOf}

-- from a place on there is the code of the frames of its mark
abbrev pub Begins : Table → FlatCode → (k size : ℕ) → ℕ → Type 0
Begins t f k size place = Reaches f (frames_at f place) (IsCodeOf t f k size (frames_at f place)) place

-- the place before it has the same mark
abbrev pub IsWithinStatement : FlatCode → ℕ → Type 0
IsWithinStatement f place = (before : ℕ) × (place ≡ suc before) × (frames_at f before ≡ frames_at f place)

-- each other place is one to begin at
abbrev pub OthersBegin : Table → FlatCode → (k size : ℕ) → Type 0
OthersBegin t f k size = (place : ℕ) → place < length f.places → (IsWithinStatement f place → ⊥) → Begins t f k size place
