-- The ids stay, and the place that was written is the deque's place.
use Rattle.std.proofs.Common.{◌≡◌, ◌∙◌, ap, sym, subst, List, Some}
use Rattle.std.specs.Prelude.{slice_index_or, slice_set, slice_get}
use Rattle.deque_list.specs.declared.deque_id.DequeId.{DequeId}
use Rattle.deque_list.specs.declared.place.Place.{Place}
use Rattle.deque_list.specs.Ids.{place_ids}
use Rattle.deque_list.specs.Marks.{IsSound}
use Rattle.deque_list.proofs.PlaceLaws.{one_place, ids_unwritten}
use Rattle.deque_list.proofs.IdLemmas.{id_at}
use Rattle.deque_list.proofs.order.Order.set_owner.Goals as goal

pub invariant_of-self : goal.invariant_of-self
invariant_of-self c =
    let places : List Place = c.self.inside.places.items in
    let written : Place = record { id = c.index_mut.result.now.id; owner = c.args.owner } in
    let here : slice_get (place_ids places) c.rank_of-rank.result ≡ Some c.args.id =
    ap (λ order. slice_get (place_ids order.places) c.rank_of-rank.result) c.self.view_is ∙ c.rank_of-rank.ensures.rank in
    let same : c.index_mut.result.now.id ≡ c.args.id =
    ap (λ p. p.id) c.index_mut.ensures.value ∙ id_at places c.rank_of-rank.result c.index_mut.result.now c.args.id here in
    let P : List DequeId → Type 0 = λ ids. IsSound ids c.self.inside.marks.items in
    (subst P (sym (ids_unwritten places c.rank_of-rank.result written (here ∙ ap (λ id. Some id) (sym same)))) c.self.invariant.0, c.self.invariant.1)

pub returns-clause-place : goal.returns-clause-place
returns-clause-place c = λ rank place stands.
    let places : List Place = c.args.self.now.places in
    let read : c.index_mut.result.now ≡ slice_index_or places c.rank_of-rank.result c.index_mut.result.now =
    c.index_mut.ensures.value ∙ ap (λ order. slice_index_or order.places c.rank_of-rank.result c.index_mut.result.now) c.self.view_is in
    let one = one_place places c.args.id c.rank_of-rank.result rank place c.index_mut.result.now c.rank_of-rank.ensures.differ c.rank_of-rank.ensures.rank read stands in
    let owned : Place → Place = λ (p : Place). record { id = p.id; owner = c.args.owner } in
    ap (λ order. slice_set order.places c.rank_of-rank.result (owned c.index_mut.result.now)) c.self.view_is
    ∙ (ap (λ k. slice_set places k (owned c.index_mut.result.now)) (sym one.0) ∙ ap (λ p. slice_set places rank (owned p)) (sym one.1))

pub returns-clause-ids : goal.returns-clause-ids
returns-clause-ids c =
    let places : List Place = c.self.inside.places.items in
    let written : Place = record { id = c.index_mut.result.now.id; owner = c.args.owner } in
    let here : slice_get (place_ids places) c.rank_of-rank.result ≡ Some c.args.id =
    ap (λ order. slice_get (place_ids order.places) c.rank_of-rank.result) c.self.view_is ∙ c.rank_of-rank.ensures.rank in
    let same : c.index_mut.result.now.id ≡ c.args.id =
    ap (λ p. p.id) c.index_mut.ensures.value ∙ id_at places c.rank_of-rank.result c.index_mut.result.now c.args.id here in
    ids_unwritten places c.rank_of-rank.result written (here ∙ ap (λ id. Some id) (sym same)) ∙ ap (λ order. place_ids order.places) c.self.view_is
