-- The place that was read is the deque's place.
use Rattle.std.proofs.Common.{◌≡◌, ◌∙◌, ap, sym, List}
use Rattle.std.specs.Prelude.{slice_index_or}
use Rattle.deque_list.specs.declared.place.Place.{Place}
use Rattle.deque_list.proofs.PlaceLaws.{one_place}
use Rattle.deque_list.proofs.order.Order.owner.Goals as goal

pub returns : goal.returns
returns c = λ rank place stands.
    let places : List Place = c.args.self.now.places in
    let read : c.index.result.now ≡ slice_index_or places c.rank_of-rank.result c.index.result.now =
    c.index.ensures ∙ ap (λ order. slice_index_or order.places c.rank_of-rank.result c.index.result.now) c.self.view_is in
    let one = one_place places c.args.id c.rank_of-rank.result rank place c.index.result.now c.rank_of-rank.ensures.differ c.rank_of-rank.ensures.rank read stands in
    ap (λ p. p.owner) (sym one.1)
