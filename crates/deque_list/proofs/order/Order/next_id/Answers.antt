-- The first unmarked number is the smallest free id.
use Rattle.std.proofs.Common.{◌≡◌, ◌<◌, ap, subst, List, length, arith}
use Rattle.deque_list.specs.declared.place.Place.{Place}
use Rattle.deque_list.specs.Ids.{place_ids, IsSmallestFree, deque_id}
use Rattle.deque_list.proofs.OrderLemmas.{IsFirstFree, first_free, places_within}
use Rattle.deque_list.proofs.order.Order.next_id.Goals as goal

pub returns-clause-id : goal.returns-clause-id
returns-clause-id c =
    let most = places_within c.self.inside.places.items c.self.inside.marks.items c.self.invariant.0 in
    let fewer : length c.self.inside.places.items < length c.self.inside.marks.items = omega arith in
    let free : IsFirstFree c.self.inside.places.items c.self.inside.marks.items c.first_unmarked.result =
    first_free _ _ c.deref.result.now _ c.self.invariant.0 fewer c.deref.ensures.value c.first_unmarked.ensures.marked c.first_unmarked.ensures.here c.first_unmarked.ensures.within in
    let P : List Place → Type 0 = λ places. IsSmallestFree (place_ids places) (deque_id c.first_unmarked.result) in
    subst P (ap (λ order. order.places) c.self.view_is) free.smallest

pub returns-clause-below : goal.returns-clause-below
returns-clause-below c =
    let most = places_within c.self.inside.places.items c.self.inside.marks.items c.self.invariant.0 in
    let fewer : length c.self.inside.places.items < length c.self.inside.marks.items = omega arith in
    let free : IsFirstFree c.self.inside.places.items c.self.inside.marks.items c.first_unmarked.result =
    first_free _ _ c.deref.result.now _ c.self.invariant.0 fewer c.deref.ensures.value c.first_unmarked.ensures.marked c.first_unmarked.ensures.here c.first_unmarked.ensures.within in
    let seen : length c.self.inside.marks.items ≡ c.args.self.now.most = ap (λ order. order.most) c.self.view_is in
    let within : c.first_unmarked.result < length c.self.inside.marks.items = free.within in omega (arith, within, seen)
