-- What the parts are that a theft has written.
use Rattle.std.proofs.Common.{◌≡◌, ℕ, ◌+◌, ◌-◌, List, [], ◌∷◌, ◌++◌, length, take, refl, sym, ap, ◌∙◌}
use Rattle.std.specs.Prelude.{Option, None, Some, insert, slice_get, slice_set}
use Rattle.std.proofs.lemmas.Option.{same_Some}
use Rattle.hall_slots.proofs.Passed.Putting.{set_middle}
use Rattle.hall_slots.proofs.Passed.Stealing.{insert_behind, last_place, take_left}
use Rattle.hall_thief.specs.HallNames.{DequeId, ListSlot}
use Rattle.deque_list.specs.declared.place.Place.{Place}
use Rattle.deque_list.specs.Ids.{StandsAt}
use Rattle.hall_slots.specs.Passed.Parts.{Has, place_with}
use Rattle.hall_slots.proofs.Passed.Middles.{at_rank, live}
use Rattle.deque_list.specs.Ids.{IsLive, place_ids}
use Rattle.deque_list.specs.Orders.{OrderView}
use Rattle.open_periods.proofs.Sorting.{get_middle}
use Rattle.space_ledger.specs.BooksList.{books_list}
use Rattle.hall_thief.specs.Thefts.{IsRobbed}

module _ {places : List Place} {id : DequeId} where
  -- a deque that nobody owned is owned
  pub owned : (has : Has places id None) (worker : ℕ) (next : List Place) → ((rank : ℕ) (place : Place) → StandsAt places id rank place → next ≡ slice_set places rank (record place { owner = Some worker }))
      → next ≡ has.left ++ place_with id (Some worker) ∷ has.right
  owned has worker next clause = clause (length has.left) (place_with id None) (at_rank has)
      ∙ ap (λ ps. slice_set ps (length has.left) (place_with id (Some worker))) has.places_are ∙ set_middle has.left (place_with id None) (place_with id (Some worker)) has.right

  -- another is to the right of it
  pub beside : (owner : Option ℕ) (has : Has places id owner) (new : Place) (next : List Place) → ((rank : ℕ) (place : Place) → StandsAt places id rank place → next ≡ insert places (rank + 1) new)
      → next ≡ has.left ++ place_with id owner ∷ new ∷ has.right
  beside owner has new next clause = clause (length has.left) (place_with id owner) (at_rank has)
      ∙ ap (λ ps. insert ps (length has.left + 1) new) has.places_are ∙ insert_behind has.left (place_with id owner) new has.right

-- the list that is lent, with another order and the next number
module _ (list lent : ListSlot) (same : lent ≡ list) where
  pub robbed_of : (order : OrderView) (number : ℕ) (places : List Place) → order.places ≡ places → order.most ≡ lent.part.order.most → number ≡ list.part.begun + 1 → list.end ≡ None
      → IsRobbed list (record {
        part = record { order = order; waiting = lent.part.waiting; results = lent.part.results; books = lent.part.books; begun = number };
        crew = lent.crew;
        end = lent.end;
      }) places
  robbed_of order number places are most next none = record {
    places_are = are;
    most = most ∙ ap (λ (l : ListSlot). l.part.order.most) same;
    waiting = ap (λ (l : ListSlot). l.part.waiting) same;
    results = ap (λ (l : ListSlot). l.part.results) same;
    books = ap (λ (l : ListSlot). books_list l.part.books) same;
    begun = next;
    crew = ap (λ (l : ListSlot). l.crew.items) same;
    end = ap (λ (l : ListSlot). l.end) same;
    no_end = none;
  }

  -- a deque of the list is one of the list that is lent
  pub stands_in : (id : DequeId) (owner : Option ℕ) (has : Has list.part.order.places id owner) → StandsAt lent.part.order.places id (length has.left) (place_with id owner)
  stands_in id owner has = (ap (λ (l : ListSlot). slice_get l.part.order.places (length has.left)) same ∙ (at_rank has).0, refl)

  pub live_in : (id : DequeId) (owner : Option ℕ) → Has list.part.order.places id owner → IsLive (place_ids lent.part.order.places) id
  live_in id owner has = let its = live has in (its.0, ap (λ (l : ListSlot). slice_get (place_ids l.part.order.places) its.0) same ∙ its.1)

-- the lane without its bottom thread
module _ {X : Type 0} (old : List X) (first : X) (others : List X) (bottom : X) (are : old ≡ first ∷ (others ++ bottom ∷ [])) where
  pub others_left : (new : List X) → new ≡ take (length old - 1) old → new ≡ first ∷ others
  others_left new rest = rest ∙ ap (λ xs. take (length xs - 1) xs) are ∙ ap (λ n. take n (first ∷ (others ++ bottom ∷ []))) (last_place (first ∷ others) bottom)
      ∙ take_left (first ∷ others) (bottom ∷ [])

  pub bottom_found : (found : X) (result : Option X) → result ≡ Some found → result ≡ slice_get old (length old - 1) → found ≡ bottom
  bottom_found found result is item = same_Some found bottom (sym is ∙ item ∙ ap (λ xs. slice_get xs (length xs - 1)) are
      ∙ ap (slice_get (first ∷ (others ++ bottom ∷ []))) (last_place (first ∷ others) bottom) ∙ get_middle (first ∷ others) bottom [])
