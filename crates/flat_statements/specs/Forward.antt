-- Flat code that goes forward: a place leads to later places alone, except that a loop leads to its body for a turn.
use Rattle.std.specs.Prelude.{◌≡◌, ℕ, ◌<◌, Some, slice_get}
use Rattle.flat_statements.specs.Flat.{Flat, doing, unless, rounds, jumps, leaves, FlatCode}

abbrev pub GoesForward : ℕ → Flat → Type 0
GoesForward place (doing a) = Unit {0}
GoesForward place (unless test other) = place < other
GoesForward place (rounds test body behind) = place < behind
GoesForward place (jumps next) = place < next
GoesForward place leaves = Unit {0}

-- so the machine stops
abbrev pub IsForward : FlatCode → Type 0
IsForward f = (place : ℕ) (what : Flat) → slice_get f.places place ≡ Some what → GoesForward place what
