-- The first free id comes into use to the right of the other deque.
use Rattle.std.proofs.Common.{◌≡◌, ◌<◌, ◌∙◌, ap, sym, subst, List, Some, length, arith, ◌+◌, Bool, length-set}
use Rattle.std.specs.Prelude.{insert}
use Rattle.deque_list.specs.declared.place.Place.{Place}
use Rattle.deque_list.specs.Ids.{place_ids, IsSmallestFree, deque_id}
use Rattle.deque_list.proofs.PlaceLaws.{id_stands, ids_inserted}
use Rattle.deque_list.proofs.OrderLemmas.{IsFirstFree, first_free, place_inserted}
use Rattle.deque_list.proofs.order.Order.insert_where_few.Goals as goal

pub index_mut-requires : goal.index_mut-requires
index_mut-requires c =
    let fewer : length c.self.inside.places.items < length c.self.inside.marks.items = rw (← c.self.view_is) at c.requires.few in
    let free : IsFirstFree c.self.inside.places.items c.self.inside.marks.items c.first_unmarked-free.result =
    first_free _ _ c.deref.result.now _ c.self.invariant.0 fewer c.deref.ensures.value c.first_unmarked-free.ensures.marked c.first_unmarked-free.ensures.here c.first_unmarked-free.ensures.within in
    omega (arith, free.within, c.self.inside.marks.ok.0)

pub invariant_of-self : goal.invariant_of-self
invariant_of-self c =
    let fewer : length c.self.inside.places.items < length c.self.inside.marks.items = rw (← c.self.view_is) at c.requires.few in
    let free : IsFirstFree c.self.inside.places.items c.self.inside.marks.items c.first_unmarked-free.result =
    first_free _ _ c.deref.result.now _ c.self.invariant.0 fewer c.deref.ensures.value c.first_unmarked-free.ensures.marked c.first_unmarked-free.ensures.here c.first_unmarked-free.ensures.within in
    let within : c.rank_of-rank.result < length c.self.inside.places.items = rw (← c.self.view_is) at c.rank_of-rank.ensures.within in (
      rw c.in-Ok.ensures.items (place_inserted c.self.inside.places.items c.self.inside.marks.items c.rank_of-rank.result c.first_unmarked-free.result (Some c.args.owner) c.self.invariant.0 within free.unmarked),
      omega (arith, length-set {A = Bool}, c.insert.ensures.capacity, c.self.invariant.1),
    )

pub returns-clause-places : goal.returns-clause-places
returns-clause-places c = λ rank place stands.
    let same : rank ≡ c.rank_of-rank.result =
    c.rank_of-rank.ensures.differ rank c.rank_of-rank.result c.args.of (id_stands c.args.self.now.places c.args.of rank place stands) c.rank_of-rank.ensures.rank in
    let new : Place = record { id = deque_id c.first_unmarked-free.result; owner = Some c.args.owner } in
    c.in-Ok.ensures.items ∙ (ap (λ order. insert order.places (c.rank_of-rank.result + 1) new) c.self.view_is ∙ ap (λ k. insert c.args.self.now.places (k + 1) new) (sym same))

pub returns-clause-id : goal.returns-clause-id
returns-clause-id c =
    let fewer : length c.self.inside.places.items < length c.self.inside.marks.items = rw (← c.self.view_is) at c.requires.few in
    let free : IsFirstFree c.self.inside.places.items c.self.inside.marks.items c.first_unmarked-free.result =
    first_free _ _ c.deref.result.now _ c.self.invariant.0 fewer c.deref.ensures.value c.first_unmarked-free.ensures.marked c.first_unmarked-free.ensures.here c.first_unmarked-free.ensures.within in
    let P : List Place → Type 0 = λ places. IsSmallestFree (place_ids places) (deque_id c.first_unmarked-free.result) in
    subst P (ap (λ order. order.places) c.self.view_is) free.smallest

pub returns-clause-below : goal.returns-clause-below
returns-clause-below c =
    let fewer : length c.self.inside.places.items < length c.self.inside.marks.items = rw (← c.self.view_is) at c.requires.few in
    let free : IsFirstFree c.self.inside.places.items c.self.inside.marks.items c.first_unmarked-free.result =
    first_free _ _ c.deref.result.now _ c.self.invariant.0 fewer c.deref.ensures.value c.first_unmarked-free.ensures.marked c.first_unmarked-free.ensures.here c.first_unmarked-free.ensures.within in
    let most : length c.self.inside.marks.items ≡ c.args.self.now.most = ap (λ order. order.most) c.self.view_is in
    let within : c.first_unmarked-free.result < length c.self.inside.marks.items = free.within in omega (arith, within, most)

pub returns-clause-ids : goal.returns-clause-ids
returns-clause-ids c = λ rank here.
    let same : rank ≡ c.rank_of-rank.result = c.rank_of-rank.ensures.differ rank c.rank_of-rank.result c.args.of here c.rank_of-rank.ensures.rank in
    let new : Place = record { id = deque_id c.first_unmarked-free.result; owner = Some c.args.owner } in
    ap (λ places. place_ids places) c.in-Ok.ensures.items
    ∙ (ids_inserted c.self.inside.places.items (c.rank_of-rank.result + 1) new
    ∙ (ap (λ order. insert (place_ids order.places) (c.rank_of-rank.result + 1) (deque_id c.first_unmarked-free.result)) c.self.view_is
    ∙ ap (λ k. insert (place_ids c.args.self.now.places) (k + 1) (deque_id c.first_unmarked-free.result)) (sym same)))
