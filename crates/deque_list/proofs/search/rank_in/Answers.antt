-- Each rank was looked at.
use Rattle.std.proofs.Common.{◌<◌, arith, length, below_more, ap, sym}
use Rattle.std.proofs.lemmas.Option.{slice_get_within}
use Rattle.std.proofs.lemmas.List.{length-map}
use borrow.Author.Tests.{eqb-false}
use Rattle.deque_list.specs.Ids.{place_ids}
use Rattle.deque_list.proofs.IdLemmas.{id_at}
use Rattle.deque_list.proofs.search.rank_in.Goals as goal

pub loop-rank-preserved : goal.loop-rank-preserved
loop-rank-preserved c =
    below_more _ _ c.loop-rank.invariant
    (λ is. eqb-false _ _ (sym c.if-eq.ensures) (ap (λ id. id.0) (id_at c.args.places.now c.loop-rank.rank _ c.args.id is)))

pub returns : goal.returns
returns c = λ live.
    let within : live.0 < length (place_ids c.args.places.now) = slice_get_within _ live.0 _ live.1 in
    let long = length-map c.args.places.now (λ place. place.id) in
    c.loop-rank.invariant live.0 (omega (arith, within, long)) live.1
