-- What contracts see of `Moves`.
use Rattle.std.specs.Prelude.{ℕ, List}
use Rattle.containers.specs.BoundedList.{entries, spare}
use Rattle.space_ledger.specs.declared.moved.Moved.{Moved}
use Rattle.space_ledger.specs.declared.moves.Moves.{Moves}

-- the moves, first to last
abbrev pub moves_list : Moves → List Moved
moves_list moves = entries moves.list

-- how many further moves it takes without memory
abbrev pub moves_spare : Moves → ℕ
moves_spare moves = spare moves.list
