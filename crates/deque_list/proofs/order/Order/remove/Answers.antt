-- The deque's place leaves, and its mark with it.
use Rattle.std.proofs.Common.{◌≡◌, ◌<◌, ◌∙◌, ap, sym, subst, List, Some, true, false, length, arith, Bool, length-set}
use Rattle.std.specs.Prelude.{slice_get, slice_set, remove}
use Rattle.std.proofs.lemmas.Option.{slice_get_within}
use Rattle.deque_list.specs.declared.deque_id.DequeId.{DequeId}
use Rattle.deque_list.specs.Ids.{place_ids}
use Rattle.deque_list.specs.Marks.{IsSound}
use Rattle.deque_list.proofs.MarkLaws.{sound_removed}
use Rattle.deque_list.proofs.PlaceLaws.{id_stands, ids_removed}
use Rattle.deque_list.proofs.order.Order.remove.Goals as goal

pub index_mut-requires : goal.index_mut-requires
index_mut-requires c =
    let here : slice_get (place_ids c.self.inside.places.items) c.rank_of-rank.result ≡ Some c.args.id =
    ap (λ order. slice_get (place_ids order.places) c.rank_of-rank.result) c.self.view_is ∙ c.rank_of-rank.ensures.rank in
    let within : c.args.id.0 < length c.self.inside.marks.items =
    slice_get_within c.self.inside.marks.items c.args.id.0 true (c.self.invariant.0.marked c.args.id (c.rank_of-rank.result, here)) in
    omega (arith, within, c.self.inside.marks.ok.0)

pub invariant_of-self : goal.invariant_of-self
invariant_of-self c =
    let here : slice_get (place_ids c.self.inside.places.items) c.rank_of-rank.result ≡ Some c.args.id =
    ap (λ order. slice_get (place_ids order.places) c.rank_of-rank.result) c.self.view_is ∙ c.rank_of-rank.ensures.rank in
    let P : List DequeId → Type 0 = λ ids. IsSound ids (slice_set c.self.inside.marks.items c.args.id.0 false) in
    let ids_are = ap (λ places. place_ids places) c.remove.ensures.items ∙ ids_removed c.self.inside.places.items c.rank_of-rank.result in (
      subst P (sym ids_are) (sound_removed (place_ids c.self.inside.places.items) c.self.inside.marks.items c.rank_of-rank.result c.args.id c.self.invariant.0 here),
      omega (arith, length-set {A = Bool}, c.remove.ensures.capacity, c.self.invariant.1),
    )

pub returns-clause-place : goal.returns-clause-place
returns-clause-place c = λ rank place stands.
    let same : rank ≡ c.rank_of-rank.result =
    c.rank_of-rank.ensures.differ rank c.rank_of-rank.result c.args.id (id_stands c.args.self.now.places c.args.id rank place stands) c.rank_of-rank.ensures.rank in
    c.remove.ensures.items ∙ (ap (λ order. remove order.places c.rank_of-rank.result) c.self.view_is ∙ ap (λ k. remove c.args.self.now.places k) (sym same))

pub returns-clause-ids : goal.returns-clause-ids
returns-clause-ids c = λ rank here.
    let same : rank ≡ c.rank_of-rank.result = c.rank_of-rank.ensures.differ rank c.rank_of-rank.result c.args.id here c.rank_of-rank.ensures.rank in
    ap (λ places. place_ids places) c.remove.ensures.items
    ∙ (ids_removed c.self.inside.places.items c.rank_of-rank.result
    ∙ (ap (λ order. remove (place_ids order.places) c.rank_of-rank.result) c.self.view_is ∙ ap (λ k. remove (place_ids c.args.self.now.places) k) (sym same)))
