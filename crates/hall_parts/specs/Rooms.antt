-- How the list and the pool change if their holder asks for memory there.
use Rattle.std.specs.Prelude.{◌≡◌}
use Rattle.hall_slots.specs.Passed.BooksList.{books_list}
use Rattle.hall_slots.specs.Passed.MovesList.{moves_list}
use Rattle.hall_parts.specs.HallNames.{ListSlot, PoolSlot, KeepsTheSame}

-- the deques, the closed periods, the crew and the end are the same
pub record KeepsDeques (was now : ListSlot) : Type 0 where
  pub order : now.part.order ≡ was.part.order
  pub closed : books_list now.part.books ≡ books_list was.part.books
  pub begun : now.part.begun ≡ was.part.begun
  pub crew : now.crew ≡ was.crew
  pub end : now.end ≡ was.end

-- There is more room for closed periods;
pub record HasMoreBooks (was now : ListSlot) : Type 0 where
  pub deques : KeepsDeques was now
  pub waiting : now.part.waiting ≡ was.part.waiting
  pub results : now.part.results ≡ was.part.results

-- and for threads that wait, which may be in another order;
pub record HasMoreToWait (was now : ListSlot) : Type 0 where
  pub deques : KeepsDeques was now
  pub waiting : KeepsTheSame was.part.waiting now.part.waiting
  pub results : now.part.results ≡ was.part.results

-- or for results.
pub record HasMoreToLeave (was now : ListSlot) : Type 0 where
  pub deques : KeepsDeques was now
  pub waiting : now.part.waiting ≡ was.part.waiting
  pub results : KeepsTheSame was.part.results now.part.results

-- Any of these may be so. The list shows the same, but for the order of what it keeps in no order.
pub record HasMoreRoom (was now : ListSlot) : Type 0 where
  pub deques : KeepsDeques was now
  pub waiting : KeepsTheSame was.part.waiting now.part.waiting
  pub results : KeepsTheSame was.part.results now.part.results

-- The pool has the same words, and the moves are the same, perhaps with more room.
pub record IsSamePool (was now : PoolSlot) : Type 0 where
  pub pool : now.pool ≡ was.pool
  pub moves : moves_list now.moves ≡ moves_list was.moves
