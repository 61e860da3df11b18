-- What the list's part of a scheduler becomes when a worker leaves its deque.
use Rattle.std.specs.Prelude.{◌≡◌, ℕ, Option, List, [], ◌∷◌, ◌++◌}
use Rattle.deque_list.specs.declared.deque_id.DequeId.{DequeId}
use Rattle.deque_list.specs.declared.place.Place.{Place}
use Rattle.space_ledger.specs.BooksList.{books_list}
use Rattle.open_periods.specs.declared.period.Period.{Period}
use Rattle.open_periods.specs.Tables.{closed_of}
use Rattle.list_changes.specs.declared.list_part.ListPart.{ListPart}

-- the place of a deque, with its owner, or none
abbrev pub place_with : DequeId → Option ℕ → Place
place_with id owner = record { id = id; owner = owner }

-- this deque is in the middle of the places, with this owner, or none
pub record Has (places : List Place) (id : DequeId) (owner : Option ℕ) : Type 0 where
  pub left : List Place
  pub right : List Place
  pub places_are : places ≡ left ++ place_with id owner ∷ right

-- the places are these now, this period was closed, and the rest is unchanged
pub record Closes {T R : Type 0} (before after : ListPart T R) (places : List Place) (period : Period) : Type 0 where
  pub places_are : after.order.places ≡ places
  pub most : after.order.most ≡ before.order.most
  pub closed : books_list after.books ≡ books_list before.books ++ closed_of period ∷ []
  pub waiting : after.waiting ≡ before.waiting
  pub results : after.results ≡ before.results
  pub begun : after.begun ≡ before.begun
