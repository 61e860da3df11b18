use Rattle.std.proofs.Common.{sym, subst}
use Rattle.deque_list.specs.Deques.{Deque}
use Rattle.prefix_laws.specs.Listing.{births_behind}
use Rattle.prefix_laws.specs.DequeLabels.{AreLabelled}
use Rattle.prefix_laws.proofs.Places.{each_place, deque_at_rank}
use Rattle.prefix_laws.proofs.Sorting.{deques_more}
use Rattle.prefix_laws.proofs.deque_labels.labels_in.Goals as goal

pub add_labels-requires : goal.add_labels-requires
add_labels-requires c =
    let d = deque_at_rank c.args.list.now.deques c.deques.rank c.in-Some.id (sym c.in-Some.ensures) in
    subst (AreLabelled (births_behind c.args.births.now)) (sym (c.lane.ensures.items c.deques.rank d.0 d.1))
    (each_place (λ deque. AreLabelled (births_behind c.args.births.now) (Deque.items deque)) c.args.list.now.deques c.deques.rank d.0 c.requires d.1.0)

pub deques-preserved : goal.deques-preserved
deques-preserved c =
    let d = deque_at_rank c.args.list.now.deques c.deques.rank c.in-Some.id (sym c.in-Some.ensures) in
    deques_more c.deques.labels.items c.add_labels.new.labels.items c.lane.result.now.items c.args.list.now.deques c.deques.rank d.0 d.1.0
    c.deques.invariant (c.lane.ensures.items c.deques.rank d.0 d.1) c.in_ok-add_labels.ensures
