-- What the marks of an order tell of its places.
use Rattle.std.proofs.Common.{◌≡◌, ℕ, ◌<◌, ◌≤◌, List, Bool, true, length, Some, slice_get, arith, subst, sym, ap, ◌∙◌, false, ◌+◌, Option}
use Rattle.std.specs.Prelude.{insert, slice_set}
use Rattle.std.proofs.lemmas.Option.{slice_get_within}
use Rattle.std.proofs.lemmas.List.{length-map}
use Rattle.std.proofs.lemmas.List.Sums.{count_by-le-length}
use Rattle.deque_list.specs.declared.deque_id.DequeId.{DequeId}
use Rattle.deque_list.specs.declared.place.Place.{Place}
use Rattle.deque_list.specs.Ids.{IsSmallestFree, deque_id, place_ids}
use Rattle.deque_list.specs.Marks.{IsSound}
use Rattle.deque_list.proofs.MarkLaws.{first_free_is_within, first_free_is_smallest, sound_inserted}
use Rattle.deque_list.proofs.PlaceLaws.{ids_inserted}
use Rattle.deque_list.specs.Orders.{OrderView, IsLawful}

-- there are no more places than marks
pub places_within : (places : List Place) (marks : List Bool) → IsSound (place_ids places) marks → length places ≤ length marks
places_within places marks sound =
    let long = length-map places (λ place. place.id) in let counted = sound.counted in omega (arith, counted, count_by-le-length (λ mark. mark) marks, long)

pub sound_is_lawful : (order : OrderView) (places : List Place) (marks : List Bool) → order.places ≡ places → order.most ≡ length marks → IsSound (place_ids places) marks → IsLawful order
sound_is_lawful order places marks p m sound =
    let same : List Place → Type 0 = λ ps. IsSound (place_ids ps) marks in
    let here : IsSound (place_ids order.places) marks = subst same (sym p) sound in
    record {
      differ = here.differ;
      below = λ id live. let in_marks : id.0 < length marks = slice_get_within marks id.0 true (here.marked id live) in omega arith;
      within = let few = places_within order.places marks here in omega arith;
      few = let few = here.few in omega arith;
    }

-- a rank is a small number
pub rank_is_small : (places : List Place) (marks : List Bool) (rank : ℕ) (id : DequeId) → IsSound (place_ids places) marks → slice_get (place_ids places) rank ≡ Some id → rank < 4194305
rank_is_small places marks rank id sound here =
    let within = slice_get_within (place_ids places) rank id here in let long = length-map places (λ place. place.id) in
    let few = places_within places marks sound in let most = sound.few in omega arith

-- what is known of the first unmarked number
pub record IsFirstFree (places : List Place) (marks : List Bool) (n : ℕ) : Type 0 where
  pub within : n < length marks
  pub unmarked : slice_get marks n ≡ Some false
  pub smallest : IsSmallestFree (place_ids places) (deque_id n)

pub first_free : (places : List Place) (marks shown : List Bool) (n : ℕ) → IsSound (place_ids places) marks → length places < length marks → shown ≡ marks
    → ((k : ℕ) → k < n → slice_get shown k ≡ Some true) → (n < length shown → slice_get shown n ≡ Some false) → n ≤ length shown → IsFirstFree places marks n
first_free places marks shown n sound fewer is marked here within =
    let long = length-map places (λ place. place.id) in
    let same_long : length shown ≡ length marks = ap length is in
    let all_before : (k : ℕ) → k < n → slice_get marks k ≡ Some true = λ k below. ap (λ ms. slice_get ms k) (sym is) ∙ marked k below in
    let inside : n < length marks = first_free_is_within (place_ids places) marks n sound (omega arith) (omega arith) all_before in
    let free : slice_get marks n ≡ Some false = ap (λ ms. slice_get ms n) (sym is) ∙ here (omega arith) in
    record { within = inside; unmarked = free; smallest = first_free_is_smallest (place_ids places) marks n sound free all_before }

-- the order with one place more
pub place_inserted : (places : List Place) (marks : List Bool) (rank n : ℕ) (owner : Option ℕ) → IsSound (place_ids places) marks → rank < length places → slice_get marks n ≡ Some false
    → IsSound (place_ids (insert places (rank + 1) (record { id = deque_id n; owner = owner }))) (slice_set marks n true)
place_inserted places marks rank n owner sound within free =
    let P : List DequeId → Type 0 = λ ids. IsSound ids (slice_set marks n true) in
    let long = length-map places (λ place. place.id) in
    subst P (sym (ids_inserted places (rank + 1) (record { id = deque_id n; owner = owner }))) (sound_inserted (place_ids places) marks (rank + 1) n sound (omega arith) free)
